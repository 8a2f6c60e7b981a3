-- What is good for a node is good for another that its places go to; and so where a pointer is moved.
use Rattle.std.proofs.Common.{◌≡◌, ℕ, zero, suc, ◌^◌, ◌<◌, ◌≤◌, ◌==◌, ◌%◌, ◌&&◌, nat_le, Bool, true, false, if◌then◌else◌, List, ◌∷◌, length, Some, Ok, Err, refl, sym, ap, subst, ◌∙◌, ℤ, pos, negsuc, ◌+ℤ◌, ◌*ℤ◌, arith}
use Rattle.std.specs.List.{Contains}
use Rattle.std.proofs.lemmas.Bool.{leb-true, true≢false, eq-eqb}
use Rattle.std.proofs.lemmas.Option.{slice_get_within}
use Rattle.rr_base.specs.Words as pointer
use Rattle.rr_base.specs.Words.{site_of, base_of, length_of, offset_of, pack, moved_to, class_of}
use Rattle.rr_base.proofs.WordLaws.{site_of-pack, base_of-pack, length_of-pack, offset_of-pack}
use Rattle.rr_base.specs.declared.trap.Trap.TheVariants.{BadDereference, OutOfObject}
use Rattle.rr_base.specs.declared.layout.Place.{Place}
use Rattle.rr_base.specs.declared.layout.Site.{Site}
use Rattle.sync_objects.specs.Setup.{SetupView}
use Rattle.word_semantics.specs.Pointers.{site_at, known, moved, directed}
use Rattle.flow_code.specs.declared.code.Code.{Code}
use Rattle.flow_code.specs.Valid.{is_valid}
use Rattle.flow_code.proofs.ValidParts.{left, right, layout_is_fit}
use Rattle.facts.specs.PointsTo.{place, element_in, element_of, IsReached, are_whole_elements, MayPoint, constraints_of, included, shifted, strided}
use Rattle.facts.specs.declared.constraint.Node.{Node}
use Rattle.facts.specs.declared.constraint.Constraint.TheVariants.{Included, Shifted, Strided}
use Rattle.points_to_sound.specs.Objects.{Object, IsObject, global, made_one, PointsInto, IsSized}
use Rattle.points_to_sound.specs.Pointing.{pointed, IsGood, nowhere, points}
use Rattle.points_to_sound.proofs.Classes.{class_moved, class_stays, class_below}

-- ---- sites

pub site_there : (sites : List Site) (k : ℕ) (site : Site) → site_at sites k ≡ Some site → (0 < k) × (k ≤ length sites)
site_there sites zero site e = cc
site_there sites (suc k) site e = let lt = slice_get_within sites k site e in (omega arith, omega arith)

pub known_is : (sites : List Site) (w : ℕ) → site_of w ≤ length sites → known sites w ≡ w
known_is sites w le = by (nat_le (site_of w) (length sites)) refl
  where
    by : (b : Bool) → nat_le (site_of w) (length sites) ≡ b → (if b then w else w % 2 ^ 54) ≡ w
    by true e = refl
    by false e = grind (arith, e)

parts_of_layout : (a b c : Bool) (e n : ℕ) → (a && b && c && nat_le 1 e && (n == 0)) ≡ true → 1 ≤ e
parts_of_layout a b c e n h = leb-true 1 e (right (a && b && c) (nat_le 1 e) (left (a && b && c && nat_le 1 e) (n == 0) h))

-- an element of a site that a valid code has isn't empty
pub some_element : (code : Code) → is_valid code ≡ true → (k : ℕ) (site : Site) → site_at code.sites k ≡ Some site → 1 ≤ element_of code.sites k
some_element code valid zero site e = cc
some_element code valid (suc k) site e =
    let l = layout_is_fit code valid k site e in
    subst (λ o. 1 ≤ element_in o) (sym e) (parts_of_layout (nat_le 1 site.layout.size) (nat_le site.layout.size 65535) (length site.layout.kinds == site.layout.size) site.layout.element (site.layout.size % site.layout.element) l)

pub same_place : (s s2 c c2 : ℕ) → s ≡ s2 → c ≡ c2 → place s c ≡ place s2 c2
same_place s s2 c c2 e f = cc

-- ---- a move

pub record MovedTo (w q : ℕ) (by : ℤ) : Type 0 where
  pub some : site_of w ≡ 0 → ⊥
  pub to : ℕ
  pub sum : pos (offset_of w) +ℤ by ≡ pos to
  pub within : to ≤ length_of w
  pub is : q ≡ pack (site_of w) (base_of w) (length_of w) to

pub moved_inv : (w q : ℕ) (by : ℤ) → pointer.moved w by ≡ Ok q → MovedTo w q by
moved_inv w q by h = at (site_of w == 0) refl h
  where
    in_object : (site_of w ≡ 0 → ⊥) → (k : ℕ) → pos (offset_of w) +ℤ by ≡ pos k → (b : Bool) → nat_le k (length_of w) ≡ b → (if b then Ok (pack (site_of w) (base_of w) (length_of w) k) else Err OutOfObject) ≡ Ok q → MovedTo w q by
    in_object some k sum true e h = record { some = some; to = k; sum = sum; within = leb-true k (length_of w) e; is = cc }
    in_object some k sum false e h = cc

    to : (site_of w ≡ 0 → ⊥) → (z : ℤ) → pos (offset_of w) +ℤ by ≡ z → moved_to w z ≡ Ok q → MovedTo w q by
    to some (pos k) sum h = in_object some k sum (nat_le k (length_of w)) refl h
    to some (negsuc k) sum h = cc

    at : (b : Bool) → (site_of w == 0) ≡ b → (if b then Err BadDereference else moved_to w (pos (offset_of w) +ℤ by)) ≡ Ok q → MovedTo w q by
    at true e h = cc
    at false e h = to (λ z. true≢false (sym (eq-eqb (site_of w) 0 z) ∙ e)) (pos (offset_of w) +ℤ by) refl h

pub record HasParts (w q to : ℕ) : Type 0 where
  pub site : site_of q ≡ site_of w
  pub base : base_of q ≡ base_of w
  pub cells : length_of q ≡ length_of w
  pub offset : offset_of q ≡ to

pub moved_parts : (w q to : ℕ) → to ≤ length_of w → q ≡ pack (site_of w) (base_of w) (length_of w) to → HasParts w q to
moved_parts w q to le e =
    let b : base_of w < 2 ^ 22 = omega arith in
    let c : length_of w < 2 ^ 16 = omega arith in
    record {
      site = ap site_of e ∙ site_of-pack (site_of w) (base_of w) (length_of w) to b c (omega arith);
      base = ap base_of e ∙ base_of-pack (site_of w) (base_of w) (length_of w) to b c (omega arith);
      cells = ap length_of e ∙ length_of-pack (site_of w) (base_of w) (length_of w) to b c (omega arith);
      offset = ap offset_of e ∙ offset_of-pack (site_of w) (base_of w) (length_of w) to b c (omega arith);
    }

module _ (code : Code) (s : SetupView) (made : List Object) where
  -- what points to a place that the one may have points to one that the other may have
  pub good_to : (n m : Node) (w : ℕ) → ((p : Place) → MayPoint code n p → MayPoint code m p) → IsGood code s made n w → IsGood code s made m w
  good_to n m w f (nowhere e) = nowhere e
  good_to n m w f (points o is p may) = points o is p (f (pointed code w) may)

  pub good_included : (n m : Node) (w : ℕ) → Contains (constraints_of code) (Included n m) → IsGood code s made n w → IsGood code s made m w
  good_included n m w c g = good_to n m w (λ p h. included c h) g

  -- objects that are made stay
  pub object_more : (new o : Object) → IsObject code s made o → IsObject code s (new ∷ made) o
  object_more new o (global base a e) = global base a e
  object_more new o (made_one i e) = made_one (suc i) e

  pub good_more : (new : Object) (n : Node) (w : ℕ) → IsGood code s made n w → IsGood code s (new ∷ made) n w
  good_more new n w (nowhere e) = nowhere e
  good_more new n w (points o is p may) = points o (object_more new o is) p may

  module _ (valid : is_valid code ≡ true) (sized : (o : Object) → IsObject code s made o → IsSized code o) where
    -- a good word is read as it is
    pub good_known : (n : Node) (w : ℕ) → IsGood code s made n w → known code.sites w ≡ w
    good_known n w (nowhere e) = known_is code.sites w (omega arith)
    good_known n w (points o is p may) = let z = sized o is in let t = site_there code.sites o.site z.site z.is_site in known_is code.sites w (subst (λ k. k ≤ length code.sites) (sym p.site) t.1)

    pub good_element : (o : Object) → IsObject code s made o → (w : ℕ) → PointsInto o w → 1 ≤ element_of code.sites (site_of w)
    good_element o is w p = let z = sized o is in subst (λ k. 1 ≤ element_of code.sites k) (sym p.site) (some_element code valid o.site z.site z.is_site)

    -- a move leads into the same object
    pub moved_good : (n m : Node) (w q : ℕ) (by : ℤ) → ((k : ℕ) → 1 ≤ element_of code.sites (site_of w) → pos (offset_of w) +ℤ by ≡ pos k → MayPoint code n (pointed code w) → MayPoint code m (place (site_of w) (class_of (element_of code.sites (site_of w)) k))) → moved code.sites w by ≡ Ok q → IsGood code s made n w → IsGood code s made m q
    moved_good n m w q by f h g = on g
      where
        is_moved : MovedTo w q by
        is_moved = moved_inv w q by (subst (λ v. pointer.moved v by ≡ Ok q) (good_known n w g) h)

        parts : HasParts w q is_moved.to
        parts = moved_parts w q is_moved.to is_moved.within is_moved.is

        on : IsGood code s made n w → IsGood code s made m q
        on (nowhere e) = absurd (is_moved.some e)
        on (points o is p may) = points o is
            (record { site = parts.site ∙ p.site; base = parts.base ∙ p.base; cells = parts.cells ∙ p.cells; offset = subst (λ k. k ≤ o.cells) (sym parts.offset) (subst (λ k. is_moved.to ≤ k) p.cells is_moved.within) })
            (subst (MayPoint code m)
            (same_place (site_of w) (site_of q) _ _ (sym parts.site) (ap (λ k. class_of (element_of code.sites k) is_moved.to) (sym parts.site) ∙ ap (class_of (element_of code.sites (site_of q))) (sym parts.offset)))
            (f is_moved.to (good_element o is w p) is_moved.sum may))

    -- by so many cells
    pub good_shifted : (n m : Node) (w q : ℕ) (z : ℤ) (element : ℕ) (back : Bool) → Contains (constraints_of code) (Shifted n m z element back) → moved code.sites w (directed back z *ℤ pos element) ≡ Ok q → IsGood code s made n w → IsGood code s made m q
    good_shifted n m w q z element back c h g =
        moved_good n m w q (directed back z *ℤ pos element)
        (λ k some sum may. subst (MayPoint code m) (same_place (site_of w) (site_of w) _ _ refl (sym (class_moved (element_of code.sites (site_of w)) (offset_of w) k (directed back z *ℤ pos element) some sum))) (shifted c may))
        h g

    -- by any number of steps
    pub good_strided : (n m : Node) (w q : ℕ) (z : ℤ) (stride : ℕ) → Contains (constraints_of code) (Strided n m stride) → moved code.sites w (z *ℤ pos stride) ≡ Ok q → IsGood code s made n w → IsGood code s made m q
    good_strided n m w q z stride c h g =
        moved_good n m w q (z *ℤ pos stride)
        (λ k some sum may. strided (class_of (element_of code.sites (site_of w)) k) c may (reached (are_whole_elements stride (element_of code.sites (site_of w))) refl k some sum))
        h g
      where
        reached : (b : Bool) → are_whole_elements stride (element_of code.sites (site_of w)) ≡ b → (k : ℕ) → 1 ≤ element_of code.sites (site_of w) → pos (offset_of w) +ℤ (z *ℤ pos stride) ≡ pos k → IsReached b (element_of code.sites (site_of w)) (class_of (element_of code.sites (site_of w)) (offset_of w)) (class_of (element_of code.sites (site_of w)) k)
        reached true e k some sum = class_stays (element_of code.sites (site_of w)) (offset_of w) k stride z some e sum
        reached false e k some sum = class_below (element_of code.sites (site_of w)) k some
