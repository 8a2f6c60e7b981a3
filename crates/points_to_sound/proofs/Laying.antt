-- New objects of a thread, each at the first free cell of its arena.
use Rattle.std.proofs.Common.{◌≡◌, ℕ, zero, suc, ◌+◌, ◌%◌, ◌<◌, ◌≤◌, ◌^◌, ◌&&◌, ◌==◌, nat_lt, nat_le, not, Bool, true, false, if◌then◌else◌, List, ◌∷◌, length, Some, refl, sym, ap, subst, ◌∙◌, ℤ, pos, negsuc, arith, eqb-true}
use Rattle.std.proofs.lemmas.Bool.{leb-true}
use Rattle.std.proofs.lemmas.Option.{slice_get_within}
use Rattle.rr_base.specs.Words.{site_of, base_of, length_of, offset_of, pack, class_of}
use Rattle.rr_base.proofs.Lists.{slice_get_inside}
use Rattle.rr_base.proofs.WordLaws.{site_of-pack, base_of-pack, length_of-pack, offset_of-pack, pack-lt}
use Rattle.rr_base.specs.declared.layout.Site.{Site}
use Rattle.sync_objects.specs.Setup.{SetupView}
use Rattle.word_semantics.specs.Cells.{is_size, cells_in}
use Rattle.word_semantics.specs.Pointers.{site_at, pointer_at}
use Rattle.flow_code.specs.declared.code.Code.{Code}
use Rattle.flow_code.specs.Kinds.{is_site}
use Rattle.flow_code.specs.Threads.{arena_end}
use Rattle.flow_code.specs.Valid.{is_valid}
use Rattle.flow_code.proofs.ValidParts.{left, right, few_sites, layout_is_fit}
use Rattle.facts.specs.PointsTo.{place, element_of, MayPoint}
use Rattle.facts.specs.declared.constraint.Node.{Node}
use Rattle.points_to_sound.specs.Objects.{Object, IsObject, made_one, IsSized}
use Rattle.points_to_sound.specs.Pointing.{IsGood, points}
use Rattle.points_to_sound.proofs.Moving.{good_more, same_place}

-- objects are laid one after the other from the first free cell on
pub data Lays (code : Code) (s : SetupView) (t : ℕ) (made : List Object) (from : ℕ) : List Object → ℕ → Type 0 where
  lays_none : Lays code s t made from made from
  lays_one : (after : List Object) (at : ℕ) (o : Object) → Lays code s t made from after at → o.base ≡ at → IsSized code o → at + o.cells ≤ arena_end code s t → Lays code s t made from (o ∷ after) (at + o.cells)

-- what was good stays so
pub lays_good : (code : Code) (s : SetupView) (t : ℕ) (made : List Object) (from : ℕ) (after : List Object) (to : ℕ) (n : Node) (w : ℕ) → Lays code s t made from after to → IsGood code s made n w → IsGood code s after n w
lays_good code s t made from after to n w lays_none g = g
lays_good code s t made from after to n w (lays_one before at o l b z le) g = good_more code s before o n w (lays_good code s t made from before at n w l g)

-- a site of the code is there, and its objects have cells
pub record HasSite (code : Code) (k : ℕ) : Type 0 where
  pub site : Site
  pub is_site : site_at code.sites k ≡ Some site
  pub some : 1 ≤ site.layout.size
  pub few : site.layout.size ≤ 65535
  pub low : k ≤ 1023

size_parts : (n m : ℕ) (c d e : Bool) → (nat_le 1 n && nat_le n m && c && d && e) ≡ true → (1 ≤ n) × (n ≤ m)
size_parts n m c d e h =
    let two = left (nat_le 1 n && nat_le n m) c (left (nat_le 1 n && nat_le n m && c) d (left (nat_le 1 n && nat_le n m && c && d) e h)) in
    (leb-true 1 n (left (nat_le 1 n) (nat_le n m) two), leb-true n m (right (nat_le 1 n) (nat_le n m) two))

pub site_has : (code : Code) → is_valid code ≡ true → (k : ℕ) (site : Site) → site_at code.sites k ≡ Some site → HasSite code k
site_has code valid zero site e = cc
site_has code valid (suc k) site e =
    let lt = slice_get_within code.sites k site e in
    let p = size_parts site.layout.size 65535 (length site.layout.kinds == site.layout.size) (nat_le 1 site.layout.element) (site.layout.size % site.layout.element == 0) (layout_is_fit code valid k site e) in
    let few = few_sites code valid in
    record { site = site; is_site = e; some = p.0; few = p.1; low = omega arith }

pub site_is : (code : Code) → is_valid code ≡ true → (k : ℕ) → is_site code k ≡ true → HasSite code k
site_is code valid zero h = cc
site_is code valid (suc k) h =
    let le = leb-true (suc k) (length code.sites) (right (nat_le 1 (suc k)) (nat_le (suc k) (length code.sites)) h) in
    let x = slice_get_inside code.sites k (omega arith) in
    site_has code valid (suc k) x.0 x.1

-- ---- the pointer to a new object

pub record StartsAt (w site base cells : ℕ) : Type 0 where
  pub site_is : site_of w ≡ site
  pub base_is : base_of w ≡ base
  pub cells_is : length_of w ≡ cells
  pub offset_is : offset_of w ≡ 0

small_mod : (n m : ℕ) → n < m → n % m ≡ n
small_mod n m h = grind (arith, h)

pub starts_at : (site base cells : ℕ) → site ≤ 1023 → base < 2 ^ 22 → cells ≤ 65535 → StartsAt (pointer_at site base cells) site base cells
starts_at site base cells hs hb hc =
    let small = small_mod (pack site base cells 0) (2 ^ 64) (pack-lt site base cells 0 (omega arith) hb (omega arith) (omega arith)) in
    record {
      site_is = ap site_of small ∙ site_of-pack site base cells 0 hb (omega arith) (omega arith);
      base_is = ap base_of small ∙ base_of-pack site base cells 0 hb (omega arith) (omega arith);
      cells_is = ap length_of small ∙ length_of-pack site base cells 0 hb (omega arith) (omega arith);
      offset_is = ap offset_of small ∙ offset_of-pack site base cells 0 hb (omega arith) (omega arith);
    }

pub class_zero : (element : ℕ) → class_of element 0 ≡ 0
class_zero element = by (nat_lt 64 element)
  where
    by : (b : Bool) → (if b then 0 else 0 % element) ≡ 0
    by true = refl
    by false = grind arith

-- it is good for a node that may point to the site's first class
pub first_good : (code : Code) (s : SetupView) (made : List Object) (o : Object) (n : Node) (w : ℕ) → IsObject code s made o → StartsAt w o.site o.base o.cells → MayPoint code n (place o.site 0) → IsGood code s made n w
first_good code s made o n w is p may =
    points o is
    (record { site = p.site_is; base = p.base_is; cells = p.cells_is; offset = subst (λ k. k ≤ o.cells) (sym p.offset_is) (omega arith) })
    (subst (MayPoint code n) (same_place o.site (site_of w) _ _ (sym p.site_is) (sym (ap (class_of (element_of code.sites (site_of w))) p.offset_is ∙ class_zero (element_of code.sites (site_of w))))) may)

-- a new object of a site, with so many cells
abbrev pub new_object : (site base cells : ℕ) → Object
new_object site base cells = record { site = site; base = base; cells = cells }

pub record IsNew (code : Code) (s : SetupView) (t : ℕ) (made : List Object) (n : Node) (site base cells : ℕ) : Type 0 where
  pub sized : IsSized code (new_object site base cells)
  pub good : IsGood code s (new_object site base cells ∷ made) n (pointer_at site base cells)

pub is_new : (code : Code) (s : SetupView) (t : ℕ) (made : List Object) (n : Node) (k base cells : ℕ) → arena_end code s t < 2 ^ 22 → (h : HasSite code k) → 1 ≤ cells → cells ≤ 65535 → cells % h.site.layout.size ≡ 0 → base + cells ≤ arena_end code s t → MayPoint code n (place k 0) → IsNew code s t made n k base cells
is_new code s t made n k base cells low h some few whole fits may = record {
  sized = record { site = h.site; is_site = h.is_site; some = some; few = few; whole = whole; low = omega arith };
  good = first_good code s (new_object k base cells ∷ made) (new_object k base cells) n (pointer_at k base cells) (made_one 0 refl) (starts_at k base cells h.low (omega arith) few) may;
}

-- ---- the size of a malloc

pub record IsSize (unit n : ℕ) : Type 0 where
  pub some : 1 ≤ n
  pub few : n ≤ 65535
  pub whole : n % unit ≡ 0

pub size_is : (unit : ℕ) (z : ℤ) → is_size unit z ≡ true → IsSize unit (cells_in z)
size_is unit (pos n) h =
    let a = left (nat_le 1 n && nat_le n 65535 && not (unit == 0)) (n % unit == 0) h in
    let b = left (nat_le 1 n && nat_le n 65535) (not (unit == 0)) a in
    record { some = leb-true 1 n (left (nat_le 1 n) (nat_le n 65535) b); few = leb-true n 65535 (right (nat_le 1 n) (nat_le n 65535) b); whole = eqb-true (n % unit) 0 (right (nat_le 1 n && nat_le n 65535 && not (unit == 0)) (n % unit == 0) h) }
size_is unit (negsuc n) h = cc
