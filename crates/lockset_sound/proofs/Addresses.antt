-- Words of pointers that move, and of addresses as a run counts their cells.
use Rattle.std.proofs.Common.{◌≡◌, ℕ, zero, suc, ◌+◌, ◌*◌, ◌%◌, ◌^◌, ◌<◌, ◌≤◌, ◌==◌, ◌&&◌, nat_le, Bool, true, false, if◌then◌else◌, ℤ, pos, negsuc, ◌+ℤ◌, List, [], ◌∷◌, length, drop, Some, None, Ok, Err, refl, sym, ap, subst, ◌∙◌, arith, eq-eqb}
use Rattle.std.proofs.lemmas.Bool.{and_parts, leb-true}
use Rattle.std.proofs.lemmas.Option.{same_Some, slice_get_within}
use Rattle.std.proofs.lemmas.Int.{ints}
use Rattle.std.proofs.Math.Nat.{mod-eq_of_lt}
use Rattle.std.specs.Prelude.{slice_get}
use Rattle.rr_base.specs.Words as pointer
use Rattle.rr_base.specs.Words.{site_of, base_of, length_of, offset_of, pack, moved_to}
use Rattle.rr_base.specs.declared.trap.Trap.TheVariants.{BadDereference, OutOfObject}
use Rattle.rr_base.specs.declared.layout.CellKind.{CellKind}
use Rattle.rr_base.specs.declared.layout.CellKind.TheVariants as cell_kind
use Rattle.rr_base.specs.declared.layout.Layout.{Layout}
use Rattle.rr_base.specs.declared.layout.Site.{Site}
use Rattle.word_semantics.specs.Pointers.{site_at, same_kind, kind_at, kind_in, moved}
use Rattle.word_semantics.specs.Operators.{based}
use Rattle.flow_code.specs.declared.code.Code.{Code}
use Rattle.flow_code.specs.Addresses.{begin_with, is_address}
use Rattle.flow_code.specs.Valid.{is_valid}
use Rattle.flow_code.proofs.Objects.{lies_at, address_parts}
use Rattle.flow_code.proofs.ValidParts.{few_sites, few_globals, layout_is_fit, globals_are_fit}

pub on_base : (v n : ℕ) → offset_of v + n < 2 ^ 16 → base_of (v + n) ≡ base_of v
on_base v n h = omega arith

pub on_site : (v n : ℕ) → offset_of v + n < 2 ^ 16 → site_of (v + n) ≡ site_of v
on_site v n h = omega arith

pub on_length : (v n : ℕ) → offset_of v + n < 2 ^ 16 → length_of (v + n) ≡ length_of v
on_length v n h = omega arith

pub on_offset : (v n : ℕ) → offset_of v + n < 2 ^ 16 → offset_of (v + n) ≡ offset_of v + n
on_offset v n h = omega arith

pub low : (v : ℕ) → offset_of v < 2 ^ 16
low v = omega arith

-- two sums with one number in common
pub sums : (a b k m : ℕ) (by : ℤ) → pos a +ℤ by ≡ pos k → pos b +ℤ by ≡ pos m → k + b ≡ m + a
sums a b k m by e f = omega (arith, ints)

-- where a pointer that has moved stands
moved_to_is : (u w k : ℕ) (z : ℤ) → pos k ≡ z → moved_to u z ≡ Ok w → (w ≡ pack (site_of u) (base_of u) (length_of u) k) × (k ≤ length_of u)
moved_to_is u w k (negsuc n) e h = cc
moved_to_is u w k (pos n) e h = by (nat_le n (length_of u)) refl h
  where
    by : (b : Bool) → nat_le n (length_of u) ≡ b → (if b then Ok (pack (site_of u) (base_of u) (length_of u) n) else Err OutOfObject) ≡ Ok w → (w ≡ pack (site_of u) (base_of u) (length_of u) k) × (k ≤ length_of u)
    by true f g = let same : k ≡ n = cc in let is : pack (site_of u) (base_of u) (length_of u) n ≡ w = cc in let le = leb-true n (length_of u) f in (sym is ∙ ap (pack (site_of u) (base_of u) (length_of u)) (sym same), omega arith)
    by false f g = cc

packed : (v n k m : ℕ) → offset_of v + n < 2 ^ 16 → k + n ≡ m + offset_of (v + n) → k ≤ length_of (v + n) → (pack (site_of (v + n)) (base_of (v + n)) (length_of (v + n)) k ≡ v + m) × (offset_of v + m < 2 ^ 16)
packed v n k m near e le = (omega arith, omega arith)

to_natural : (z : ℤ) (u w : ℕ) → moved_to u z ≡ Ok w → (k : ℕ) × (pos k ≡ z)
to_natural (pos k) u w h = (k, refl)
to_natural (negsuc k) u w h = cc

-- a word so many cells after another one, moved on or back to no less than that one
pub moved_after : (sites : List Site) (v n w m : ℕ) (by : ℤ) → offset_of v + n < 2 ^ 16 → moved sites (v + n) by ≡ Ok w → pos n +ℤ by ≡ pos m → (w ≡ v + m) × (offset_of v + m < 2 ^ 16)
moved_after sites v n w m by near h e = read (nat_le (site_of (v + n)) (length sites)) h
  where
    go : (b : Bool) → (if b then Err BadDereference else moved_to (v + n) (pos (offset_of (v + n)) +ℤ by)) ≡ Ok w → (w ≡ v + m) × (offset_of v + m < 2 ^ 16)
    go true g = cc
    go false g =
        let k = to_natural (pos (offset_of (v + n)) +ℤ by) (v + n) w g in
        let r = moved_to_is (v + n) w k.0 (pos (offset_of (v + n)) +ℤ by) k.1 g in
        let s = sums (offset_of (v + n)) n k.0 m by (sym k.1) e in
        let p = packed v n k.0 m near s r.1 in
        (r.0 ∙ p.0, p.1)

    none : (site_of ((v + n) % 2 ^ 54) == 0) ≡ true
    none = eq-eqb (site_of ((v + n) % 2 ^ 54)) 0 (omega arith)

    not_there : pointer.moved ((v + n) % 2 ^ 54) by ≡ Ok w → ⊥
    not_there g = clash (site_of ((v + n) % 2 ^ 54) == 0) none g
      where
        clash : (b : Bool) → b ≡ true → (if b then Err BadDereference else moved_to ((v + n) % 2 ^ 54) (pos (offset_of ((v + n) % 2 ^ 54)) +ℤ by)) ≡ Ok w → ⊥
        clash true i j = cc
        clash false i j = cc

    read : (b : Bool) → pointer.moved (if b then v + n else (v + n) % 2 ^ 54) by ≡ Ok w → (w ≡ v + m) × (offset_of v + m < 2 ^ 16)
    read true g = go (site_of (v + n) == 0) g
    read false g = absurd (not_there g)

address_moves : (slots site base cells w : ℕ) → slots ≤ 16 → site ≤ 1023 → base ≤ 2 ^ 20 → cells ≤ 65535 → w ≡ pack site base cells 0 → (base_of (based slots w) ≡ base_of w + 2 * slots) × (offset_of (based slots w) ≡ 0) × (site_of (based slots w) ≡ site) × (length_of (based slots w) ≡ cells) × (base_of w ≡ base)
address_moves slots site base cells w few low near short is = (omega arith, omega arith, omega arith, omega arith, omega arith)

-- a site of a valid code: its number is low, and its objects have few cells
site_is_small : (code : Code) → is_valid code ≡ true → (k : ℕ) (site : Site) → site_at code.sites k ≡ Some site → (k ≤ 1023) × (site.layout.size ≤ 65535)
site_is_small code valid zero site e = cc
site_is_small code valid (suc k) site e =
    let n = site.layout.size in
    let fits = layout_is_fit code valid k site e in
    let a = and_parts (nat_le 1 n && nat_le n 65535 && (length site.layout.kinds == n) && nat_le 1 site.layout.element) (n % site.layout.element == 0) fits in
    let b = and_parts (nat_le 1 n && nat_le n 65535 && (length site.layout.kinds == n)) (nat_le 1 site.layout.element) a.0 in
    let c = and_parts (nat_le 1 n && nat_le n 65535) (length site.layout.kinds == n) b.0 in
    let d = and_parts (nat_le 1 n) (nat_le n 65535) c.0 in
    let few = few_sites code valid in
    let lt = slice_get_within code.sites k site e in
    (omega arith, leb-true n 65535 d.1)

pub same_kind_is : (k w : CellKind) → same_kind k w ≡ true → k ≡ w
same_kind_is cell_kind.Whole cell_kind.Whole h = refl
same_kind_is cell_kind.Pointer cell_kind.Pointer h = refl
same_kind_is cell_kind.Mutex cell_kind.Mutex h = refl
same_kind_is cell_kind.Cond cell_kind.Cond h = refl
same_kind_is cell_kind.Barrier cell_kind.Barrier h = refl
same_kind_is cell_kind.Rw cell_kind.Rw h = refl
same_kind_is _ _ h = cc

-- the kinds that a list begins with
begins_with_kinds : (xs ys : List CellKind) (n : ℕ) (k : CellKind) → begin_with xs ys ≡ true → slice_get ys n ≡ Some k → slice_get xs n ≡ Some k
begins_with_kinds xs [] n k h e = cc
begins_with_kinds [] (y ∷ ys) n k h e = cc
begins_with_kinds (x ∷ xs) (y ∷ ys) zero k h e = ap Some (same_kind_is x y (and_parts (same_kind x y) (begin_with xs ys) h).0) ∙ e
begins_with_kinds (x ∷ xs) (y ∷ ys) (suc n) k h e = begins_with_kinds xs ys n k (and_parts (same_kind x y) (begin_with xs ys) h).1 e

dropped : {A : Type 0} (xs : List A) (b n : ℕ) (x : A) → slice_get (drop b xs) n ≡ Some x → slice_get xs (b + n) ≡ Some x
dropped xs zero n x e = ap (slice_get xs) (omega arith) ∙ e
dropped [] (suc b) n x e = cc
dropped (y ∷ xs) (suc b) n x e = let next : suc b + n ≡ suc (b + n) = omega arith in ap (slice_get (y ∷ xs)) next ∙ dropped xs b n x e

-- the kind of a cell of one layout alone
kind_is : (layout : Layout) (n : ℕ) (k : CellKind) → n < layout.size → kind_at layout n ≡ Some k → slice_get layout.kinds n ≡ Some k
kind_is layout n k lt e = by (layout.size == 0) e
  where
    by : (b : Bool) → (if b then None else slice_get layout.kinds (n % layout.size)) ≡ Some k → slice_get layout.kinds n ≡ Some k
    by true g = cc
    by false g = ap (slice_get layout.kinds) (sym (mod-eq_of_lt lt)) ∙ g

-- an address as a run counts its cells
pub record IsBased (code : Code) (slots w : ℕ) : Type 0 where
  pub base : base_of (based slots w) ≡ base_of w + 2 * slots
  pub front : offset_of (based slots w) ≡ 0
  pub kinds : (n : ℕ) (k : CellKind) → n < length_of (based slots w) → kind_in (site_at code.sites (site_of (based slots w))) n ≡ Some k → slice_get code.global_kinds (base_of w + n) ≡ Some k

pub based_address : (code : Code) (slots w : ℕ) → slots ≤ 16 → is_valid code ≡ true → is_address code w ≡ true → IsBased code slots w
based_address code slots w few valid h =
    let x = address_parts code w h in
    let small = site_is_small code valid (site_of w) x.site x.is_site in
    let lies = lies_at code (globals_are_fit code valid) (site_of w) x.base x.is_base in
    let same : lies.site ≡ x.site = same_Some lies.site x.site (sym lies.is_site ∙ x.is_site) in
    let room : x.base + x.site.layout.size ≤ length code.globals = subst (λ (z : Site). x.base + z.layout.size ≤ length code.globals) same lies.within in
    let kinds : begin_with (drop x.base code.global_kinds) x.site.layout.kinds ≡ true = subst (λ (z : Site). begin_with (drop x.base code.global_kinds) z.layout.kinds ≡ true) same lies.kinds in
    let a = address_moves slots (site_of w) x.base x.site.layout.size w few small.0 (let globals = few_globals code valid in omega arith) small.1 x.is_word in
    record {
      base = a.0;
      front = a.1;
      kinds = λ n k lt e.
          ap (λ b. slice_get code.global_kinds (b + n)) a.4
          ∙ dropped code.global_kinds x.base n k
          (begins_with_kinds (drop x.base code.global_kinds) x.site.layout.kinds n k kinds
          (kind_is x.site.layout n k (subst (λ z. n < z) a.3 lt) (ap (λ o. kind_in o n) (sym x.is_site) ∙ ap (λ z. kind_in (site_at code.sites z) n) (sym a.2) ∙ e)));
    }
