-- The cells of types: as many as their sizes tell, and a whole number of elements.
use Rattle.std.proofs.Common.{◌≡◌, ℕ, zero, suc, ◌+◌, ◌*◌, ◌%◌, ◌≤◌, ◌<◌, min, Bool, true, false, ◌==◌, nat_le, if◌then◌else◌, List, [], ◌∷◌, ◌++◌, map, length, Option, Some, None, slice_get, unwrap_or, refl, sym, ap, ◌∙◌, arith, length-append, append_assoc, append-nil, mul_assoc}
use native.Mathlib.Nat.{mul-mod_left}
use Rattle.std.proofs.lemmas.Bool.{and_from}
use Rattle.std.proofs.lemmas.Bool.Decides.{nat_tests}
use Rattle.rr_base.specs.declared.layout.CellKind.{CellKind}
use Rattle.word_semantics.specs.Layouts.{layout_fits}
use Rattle.c_types.specs.declared.types.BaseType.{BaseType}
use Rattle.c_types.specs.declared.types.BaseType.TheVariants as base
use Rattle.c_types.specs.declared.types.Layer.{Layer}
use Rattle.c_types.specs.declared.types.Layer.TheVariants as layer
use Rattle.c_types.specs.declared.types.ObjectType.{ObjectType}
use Rattle.c_types.specs.Types.{repeated, base_kinds, layered_kinds, kinds_of_type, layered_element, layout_of_type, members_kinds, kinds_after, base_size, layered_size, size_of_type}
use Rattle.c_types.specs.Scopes.{Known, cells_of_type, cells_of_some}
use Rattle.c_sites.specs.Sites.{known_types, is_laid_out, layout_by, empty_layout}
use Rattle.source_sound.proofs.Environment.{IsFormedBase, IsFormedLayered}

-- ---- types that have a size

-- structs are among the first ones, Void isn't, and no array is empty
abbrev pub IsWithin : ℕ → List Layer → BaseType → Type 0
IsWithin n [] b = IsFormedBase n b
IsWithin n (layer.Pointer ∷ ls) b = Unit {0}
IsWithin n (layer.Array m ∷ ls) b = (1 ≤ m) × IsWithin n ls b

pub formed_within : (n : ℕ) (ls : List Layer) (b : BaseType) → IsFormedLayered n ls b → IsWithin n ls b
formed_within n [] b h = h
formed_within n (layer.Pointer ∷ ls) b h = tt
formed_within n (layer.Array m ∷ ls) b h = (h.0, formed_within n ls b h.1)

within_base : (m n : ℕ) → m ≤ n → (b : BaseType) → IsFormedBase m b → IsFormedBase n b
within_base m n le base.Void h = absurd h
within_base m n le (base.Struct k) h = omega (arith, le, h)
within_base m n le base.Int h = tt
within_base m n le (base.Function fn) h = tt
within_base m n le base.Mutex h = tt
within_base m n le base.Cond h = tt
within_base m n le base.Barrier h = tt
within_base m n le base.RwLock h = tt

pub within_more : (m n : ℕ) → m ≤ n → (ls : List Layer) (b : BaseType) → IsWithin m ls b → IsWithin n ls b
within_more m n le [] b h = within_base m n le b h
within_more m n le (layer.Pointer ∷ ls) b h = tt
within_more m n le (layer.Array k ∷ ls) b h = (h.0, within_more m n le ls b h.1)

-- ---- sizes

length_repeated : {A : Type 0} (n : ℕ) (xs : List A) → length (repeated n xs) ≡ n * length xs
length_repeated zero xs = omega arith
length_repeated (suc n) xs = let more = length_repeated n xs in length-append xs (repeated n xs) ∙ ap (λ k. length xs + k) more ∙ omega arith

size_got : (ks : List (List CellKind)) (k : ℕ) → unwrap_or (slice_get (map (λ x. length x) ks) k) 0 ≡ length (unwrap_or (slice_get ks k) [])
size_got [] k = refl
size_got (x ∷ ks) zero = refl
size_got (x ∷ ks) (suc k) = size_got ks k

base_sized : (ks : List (List CellKind)) (b : BaseType) → base_size (map (λ x. length x) ks) b ≡ length (base_kinds ks b)
base_sized ks base.Int = refl
base_sized ks (base.Function fn) = refl
base_sized ks base.Void = refl
base_sized ks (base.Struct k) = size_got ks k
base_sized ks base.Mutex = refl
base_sized ks base.Cond = refl
base_sized ks base.Barrier = refl
base_sized ks base.RwLock = refl

pub layers_sized : (ks : List (List CellKind)) (ls : List Layer) (b : BaseType) → layered_size (map (λ x. length x) ks) ls b ≡ length (layered_kinds ks ls b)
layers_sized ks [] b = base_sized ks b
layers_sized ks (layer.Pointer ∷ ls) b = refl
layers_sized ks (layer.Array n ∷ ls) b = ap (λ k. n * k) (layers_sized ks ls b) ∙ sym (length_repeated n (layered_kinds ks ls b))

-- ---- later structs change nothing of types that have a size

got_before : (ks more : List (List CellKind)) (k : ℕ) → k < length ks → slice_get (ks ++ more) k ≡ slice_get ks k
got_before [] more k lt = absurd (omega (arith, lt))
got_before (x ∷ ks) more zero lt = refl
got_before (x ∷ ks) more (suc k) lt = got_before ks more k (omega (arith, lt))

base_before : (ks more : List (List CellKind)) (b : BaseType) → IsFormedBase (length ks) b → base_kinds (ks ++ more) b ≡ base_kinds ks b
base_before ks more base.Int h = refl
base_before ks more (base.Function fn) h = refl
base_before ks more base.Void h = refl
base_before ks more (base.Struct k) h = ap (λ o. unwrap_or o []) (got_before ks more k h)
base_before ks more base.Mutex h = refl
base_before ks more base.Cond h = refl
base_before ks more base.Barrier h = refl
base_before ks more base.RwLock h = refl

pub kinds_before : (ks more : List (List CellKind)) (ls : List Layer) (b : BaseType) → IsWithin (length ks) ls b → layered_kinds (ks ++ more) ls b ≡ layered_kinds ks ls b
kinds_before ks more [] b h = base_before ks more b h
kinds_before ks more (layer.Pointer ∷ ls) b h = refl
kinds_before ks more (layer.Array n ∷ ls) b h = ap (λ xs. repeated n xs) (kinds_before ks more ls b h.1)

-- ---- elements

-- each struct has 1 to 65,535 cells
abbrev pub AreSmall : List (List CellKind) → Type 0
AreSmall [] = Unit {0}
AreSmall (k ∷ ks) = (1 ≤ length k) × (length k ≤ 65535) × AreSmall ks

pub small_parts : (ks more : List (List CellKind)) → AreSmall ks → AreSmall more → AreSmall (ks ++ more)
small_parts [] more h g = g
small_parts (k ∷ ks) more h g = (h.0, h.1, small_parts ks more h.2 g)

small_got : (ks : List (List CellKind)) (k : ℕ) → AreSmall ks → k < length ks → (1 ≤ length (unwrap_or (slice_get ks k) [])) × (length (unwrap_or (slice_get ks k) []) ≤ 65535)
small_got [] k h lt = absurd (omega (arith, lt))
small_got (x ∷ ks) zero h lt = (h.0, h.1)
small_got (x ∷ ks) (suc k) h lt = small_got ks k h.2 (omega (arith, lt))

pub small_base : (ks : List (List CellKind)) (b : BaseType) → AreSmall ks → IsFormedBase (length ks) b → (1 ≤ length (base_kinds ks b)) × (length (base_kinds ks b) ≤ 65535)
small_base ks base.Void small h = absurd h
small_base ks (base.Struct k) small h = small_got ks k small h
small_base ks base.Int small h = (omega arith, omega arith)
small_base ks (base.Function fn) small h = (omega arith, omega arith)
small_base ks base.Mutex small h = (omega arith, omega arith)
small_base ks base.Cond small h = (omega arith, omega arith)
small_base ks base.Barrier small h = (omega arith, omega arith)
small_base ks base.RwLock small h = (omega arith, omega arith)

-- so many elements, each of so many cells
pub record AreElements (cells element : ℕ) : Type 0 where
  pub many : ℕ
  pub some : 1 ≤ many
  pub each : 1 ≤ element
  pub all : cells ≡ many * element

times_some : (m n : ℕ) → 1 ≤ m → 1 ≤ n → 1 ≤ m * n
times_some zero n h g = absurd (omega (arith, h))
times_some (suc m) zero h g = absurd (omega (arith, g))
times_some (suc m) (suc n) h g = omega arith

pub elements_of : (ks : List (List CellKind)) (ls : List Layer) (b : BaseType) → AreSmall ks → IsWithin (length ks) ls b → AreElements (length (layered_kinds ks ls b)) (layered_element ks ls b)
elements_of ks [] b small h = record { many = 1; some = omega arith; each = (small_base ks b small h).0; all = omega arith }
elements_of ks (layer.Pointer ∷ ls) b small h = record { many = 1; some = omega arith; each = omega arith; all = refl }
elements_of ks (layer.Array n ∷ ls) b small h =
    let rest = elements_of ks ls b small h.1 in
    record { many = n * rest.many; some = times_some n rest.many h.0 rest.some; each = rest.each; all = length_repeated n (layered_kinds ks ls b) ∙ ap (λ k. n * k) rest.all ∙ times_assoc n rest.many (layered_element ks ls b) }
  where
    times_assoc : (a b c : ℕ) → a * (b * c) ≡ a * b * c
    times_assoc a b c = sym (mul_assoc a b c)

-- ---- layouts

le_self : (m n : ℕ) → 1 ≤ m → n ≤ m * n
le_self zero n h = absurd (omega (arith, h))
le_self (suc m) n h = omega arith

rest_none : (m n : ℕ) → 1 ≤ n → (m * n) % n ≡ 0
rest_none m n some = mul-mod_left m n

test_le : (m n : ℕ) → m ≤ n → nat_le m n ≡ true
test_le m n h = grind (arith, nat_tests)

test_eq : (m n : ℕ) → m ≡ n → (m == n) ≡ true
test_eq m n h = grind (arith, nat_tests)

pub laid_out : (ks : List (List CellKind)) (t : ObjectType) → AreSmall ks → IsWithin (length ks) t.layers t.base → length (kinds_of_type ks t) ≤ 65535 → is_laid_out ks t ≡ true
laid_out ks t small h le =
    let es = elements_of ks t.layers t.base small h in
    let own = le_self es.many (layered_element ks t.layers t.base) es.some in
    let all = es.all in
    and_from _ _ (test_le (length (kinds_of_type ks t)) 65535 le) (test_le (layered_element ks t.layers t.base) 65535 (omega (arith, own, all, le)))

fitting : (ks : List (List CellKind)) (t : ObjectType) → AreSmall ks → IsWithin (length ks) t.layers t.base → length (kinds_of_type ks t) ≤ 65535 → layout_fits (layout_of_type ks t) ≡ true
fitting ks t small h le =
    let es = elements_of ks t.layers t.base small h in
    let own = times_some es.many (layered_element ks t.layers t.base) es.some es.each in
    let all = es.all in
    and_from _ _ (and_from _ _ (and_from _ _ (and_from _ _
    (test_le 1 (length (kinds_of_type ks t)) (omega (arith, own, all)))
    (test_le (length (kinds_of_type ks t)) 65535 le))
    (test_eq (length (kinds_of_type ks t)) (length (kinds_of_type ks t)) refl))
    (test_le 1 (layered_element ks t.layers t.base) es.each))
    (test_eq (length (kinds_of_type ks t) % layered_element ks t.layers t.base) 0 (ap (λ n. n % layered_element ks t.layers t.base) all ∙ rest_none es.many (layered_element ks t.layers t.base) es.each))

-- the layout of a type whose objects aren't too large
pub layout_is : (ks : List (List CellKind)) (t : ObjectType) → AreSmall ks → IsWithin (length ks) t.layers t.base → length (kinds_of_type ks t) ≤ 65535 → layout_by ks (Some t) ≡ layout_of_type ks t
layout_is ks t small h le = ap (λ b. if b then layout_of_type ks t else empty_layout) (laid_out ks t small h le)

pub layout_good : (ks : List (List CellKind)) (t : ObjectType) → AreSmall ks → IsWithin (length ks) t.layers t.base → length (kinds_of_type ks t) ≤ 65535 → layout_fits (layout_by ks (Some t)) ≡ true
layout_good ks t small h le = ap layout_fits (layout_is ks t small h le) ∙ fitting ks t small h le

-- as many kinds as cells
pub layout_length : (ks : List (List CellKind)) (t : Option ObjectType) → length (layout_by ks t).kinds ≡ (layout_by ks t).size
layout_length ks None = refl
layout_length ks (Some t) = by (is_laid_out ks t)
  where
    by : (b : Bool) → length (if b then layout_of_type ks t else empty_layout).kinds ≡ (if b then layout_of_type ks t else empty_layout).size
    by true = refl
    by false = refl

-- ---- one struct more

pub after_parts : (ks : List (List CellKind)) (xs ys : List (List ObjectType)) → kinds_after ks (xs ++ ys) ≡ kinds_after (kinds_after ks xs) ys
after_parts ks [] ys = refl
after_parts ks (x ∷ xs) ys = after_parts (ks ++ members_kinds ks x ∷ []) xs ys

pub after_more : (ks : List (List CellKind)) (xs : List (List ObjectType)) → (more : List (List CellKind)) × (kinds_after ks xs ≡ ks ++ more)
after_more ks [] = ([], sym (append-nil ks))
after_more ks (x ∷ xs) = let rest = after_more (ks ++ members_kinds ks x ∷ []) xs in (members_kinds ks x ∷ rest.0, rest.1 ∙ append_assoc ks (members_kinds ks x ∷ []) rest.0)

-- the sizes that are known are those of the structs' cells, of which none has too many
pub record AreSized (known : Known) (ks : List (List CellKind)) : Type 0 where
  pub sizes : known.sizes ≡ map (λ x. length x) ks
  pub small : AreSmall ks
  pub many : length ks ≡ length known.structs

-- the cells of objects of these types, one after another
abbrev pub cells_of_all : Known → List (Option ObjectType) → ℕ
cells_of_all known [] = 0
cells_of_all known (t ∷ ts) = cells_of_some known t + cells_of_all known ts

module _ (known : Known) (ks : List (List CellKind)) (sized : AreSized known ks) where
  pub size_is : (t : ObjectType) → size_of_type known.sizes t ≡ length (kinds_of_type ks t)
  size_is t = ap (λ s. layered_size s t.layers t.base) sized.sizes ∙ layers_sized ks t.layers t.base

  pub cells_are : (t : ObjectType) → cells_of_type known t ≡ min (length (kinds_of_type ks t)) 65536
  cells_are t = ap (λ n. min n 65536) (size_is t)

  -- exact where it isn't too large
  pub cells_exact : (t : ObjectType) → cells_of_type known t ≤ 65535 → cells_of_type known t ≡ length (kinds_of_type ks t)
  cells_exact t le = let e = cells_are t in omega (arith, e, le)

  pub all_exact : (ts : List (Option ObjectType)) → cells_of_all known ts ≤ 65535 → cells_of_all known ts ≡ length (members_kinds ks (known_types ts))
  all_exact [] le = refl
  all_exact (None ∷ ts) le = let more = all_exact ts (omega (arith, le)) in omega (arith, more)
  all_exact (Some t ∷ ts) le =
      let own = cells_exact t (omega (arith, le)) in
      let more = all_exact ts (omega (arith, le)) in
      let long = length-append (kinds_of_type ks t) (members_kinds ks (known_types ts)) in
      omega (arith, own, more, long)
