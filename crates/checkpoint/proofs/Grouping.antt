-- Objects by their groups, one after another, are those of a machine in order.
use Rattle.std.proofs.Common.{◌≡◌, ℕ, zero, suc, ◌+◌, ◌-◌, ◌*◌, ◌/◌, ◌%◌, ◌<◌, ◌≤◌, ◌^◌, true, nat_lt, List, [], ◌∷◌, ◌++◌, length, map, Option, Some, None, refl, sym, ap, subst, ◌∙◌, arith, append_assoc, append-nil}
use Rattle.std.specs.Prelude.{slice_get}
use Rattle.std.specs.List.{filter_map, flat_map}
use Rattle.std.proofs.lemmas.Bool.{lt-ltb}
use Rattle.std.proofs.lemmas.List.{map-append}
use Rattle.std.proofs.lemmas.Option.{slice_get_within}
use Rattle.sync_objects.specs.Setup.{SetupView, IsWithinLimits}
use Rattle.sync_objects.specs.Start.{start_word}
use Rattle.sync_objects.specs.declared.object.ObjId.{ObjId}
use Rattle.sync_objects.specs.declared.object.ObjId.TheVariants as object
use Rattle.flow_code.specs.declared.code.Code.{Code}
use Rattle.core_run.specs.Words.{cells_of, has_object, place_of, start_words}
use Rattle.core_run.proofs.Beginnings.{start_word_at}
use Rattle.snapshots.specs.Snapshots.{numbers_from, stripes_in_order, objects_in_order, objects_at}
use Rattle.checkpoint.specs.Groups.{object_at, in_group, listed_of}
use Rattle.checkpoint.specs.declared.grouped.Group.{Group}
use Rattle.checkpoint.specs.declared.grouped.Group.TheVariants as group
use Rattle.checkpoint.proofs.Listing.{filter_none, filter_some}
use Rattle.checkpoint.proofs.Ordering.{stripe_there}

filter_append : {A B : Type 0} (f : A → Option B) (xs ys : List A) → filter_map f (xs ++ ys) ≡ filter_map f xs ++ filter_map f ys
filter_append {A = A} {B = B} f [] ys = refl
filter_append {A = A} {B = B} f (x ∷ xs) ys = by (f x) refl (filter_append f xs ys)
  where
    by : (o : Option B) → f x ≡ o → filter_map f (xs ++ ys) ≡ filter_map f xs ++ filter_map f ys → filter_map f (x ∷ xs ++ ys) ≡ filter_map f (x ∷ xs) ++ filter_map f ys
    by None e h = filter_none f x (xs ++ ys) e ∙ h ∙ ap (λ z. z ++ filter_map f ys) (sym (filter_none f x xs e))
    by (Some y) e h = filter_some f x (xs ++ ys) y e ∙ ap (λ z. y ∷ z) h ∙ ap (λ z. z ++ filter_map f ys) (sym (filter_some f x xs y e))

-- one object more of a group
pub group_step : (cells : ℕ) (words : List ℕ) (g : Group) (old found found1 : List (ObjId × ℕ × ℕ)) (n count : ℕ) → n < count → found1 ≡ found ++ filter_map (listed_of cells words) (object_at g n ∷ []) →
    found ++ filter_map (listed_of cells words) (map (λ k. object_at g k) (numbers_from n (count - n))) ≡ old → found1 ++ filter_map (listed_of cells words) (map (λ k. object_at g k) (numbers_from (n + 1) (count - (n + 1)))) ≡ old
group_step cells words g old found found1 n count lt e h =
    let f = listed_of cells words in
    let rest = map (λ k. object_at g k) (numbers_from (n + 1) (count - (n + 1))) in
    let left : suc (count - (n + 1)) ≡ count - n = omega (arith, lt) in
    ap (λ z. z ++ filter_map f rest) e
    ∙ append_assoc found (filter_map f (object_at g n ∷ [])) (filter_map f rest)
    ∙ ap (λ z. found ++ z) (sym (filter_append f (object_at g n ∷ []) rest))
    ∙ ap (λ m. found ++ filter_map f (map (λ k. object_at g k) (numbers_from n m))) left
    ∙ h

pub group_start : (cells : ℕ) (words : List ℕ) (g : Group) (found : List (ObjId × ℕ × ℕ)) (count : ℕ) → found ++ filter_map (listed_of cells words) (map (λ k. object_at g k) (numbers_from 0 (count - 0))) ≡ found ++ filter_map (listed_of cells words) (in_group g count)
group_start cells words g found count = let same : count - 0 ≡ count = omega arith in ap (λ n. found ++ filter_map (listed_of cells words) (map (λ k. object_at g k) (numbers_from 0 n))) same

pub group_end : (cells : ℕ) (words : List ℕ) (g : Group) (found all : List (ObjId × ℕ × ℕ)) (n count : ℕ) → count ≤ n → found ++ filter_map (listed_of cells words) (map (λ k. object_at g k) (numbers_from n (count - n))) ≡ all → found ≡ all
group_end cells words g found all n count le h = let none : count - n ≡ 0 = omega (arith, le) in sym (append-nil found) ∙ ap (λ m. found ++ filter_map (listed_of cells words) (map (λ k. object_at g k) (numbers_from n m))) (sym none) ∙ h

-- ---- stripes

map_same : (f g : ℕ → ObjId) (a b n : ℕ) → ((i : ℕ) → i < n → f (a + i) ≡ g (b + i)) → map f (numbers_from a n) ≡ map g (numbers_from b n)
map_same f g a b zero h = refl
map_same f g a b (suc n) h =
    let first : f (a + 0) ≡ g (b + 0) = h 0 (omega arith) in
    let a_is : a + 0 ≡ a = omega arith in
    let b_is : b + 0 ≡ b = omega arith in
    ap (λ z. z ∷ map f (numbers_from (a + 1) n)) (ap f (sym a_is) ∙ first ∙ ap g b_is)
    ∙ ap (λ z. g b ∷ z) (map_same f g (a + 1) (b + 1) n (λ i lt. let p : a + 1 + i ≡ a + suc i = omega arith in let q : b + suc i ≡ b + 1 + i = omega arith in ap f p ∙ h (suc i) (omega (arith, lt)) ∙ ap g q))

numbers_append : (a m n : ℕ) → numbers_from a (m + n) ≡ numbers_from a m ++ numbers_from (a + m) n
numbers_append a zero n =
    let p : 0 + n ≡ n = omega arith in
    let q : a ≡ a + 0 = omega arith in
    ap (numbers_from a) p ∙ ap (λ k. numbers_from k n) q
numbers_append a (suc m) n =
    let p : suc m + n ≡ suc (m + n) = omega arith in
    let q : a + 1 + m ≡ a + suc m = omega arith in
    ap (numbers_from a) p ∙ ap (λ z. a ∷ z) (numbers_append (a + 1) m n ∙ ap (λ k. numbers_from (a + 1) m ++ numbers_from k n) q)

one_lock : (l : ℕ) → stripes_in_order l ≡ map (λ k. object_at group.Stripes k) (numbers_from (8 * l) 8)
one_lock l = map_same (λ stripe. object.Weak l stripe) (λ k. object_at group.Stripes k) 0 (8 * l) 8 (λ i lt. same i lt)
  where
    same : (i : ℕ) → i < 8 → object.Weak l (0 + i) ≡ object.Weak ((8 * l + i) / 8) ((8 * l + i) % 8)
    same i lt =
        let p : l ≡ (8 * l + i) / 8 = omega (arith, lt) in
        let q : 0 + i ≡ (8 * l + i) % 8 = omega (arith, lt) in
        ap (λ k. object.Weak k (0 + i)) p ∙ ap (object.Weak ((8 * l + i) / 8)) q

all_locks : (l n : ℕ) → flat_map stripes_in_order (numbers_from l n) ≡ map (λ k. object_at group.Stripes k) (numbers_from (8 * l) (8 * n))
all_locks l zero = refl
all_locks l (suc n) =
    let next : 8 * (l + 1) ≡ 8 * l + 8 = omega arith in
    let count : 8 + 8 * n ≡ 8 * suc n = omega arith in
    ap (λ z. z ++ flat_map stripes_in_order (numbers_from (l + 1) n)) (one_lock l)
    ∙ ap (λ z. map (λ k. object_at group.Stripes k) (numbers_from (8 * l) 8) ++ z) (all_locks (l + 1) n ∙ ap (λ k. map (λ k. object_at group.Stripes k) (numbers_from k (8 * n))) next)
    ∙ sym (map-append (λ k. object_at group.Stripes k) (numbers_from (8 * l) 8) (numbers_from (8 * l + 8) (8 * n)))
    ∙ ap (map (λ k. object_at group.Stripes k)) (sym (numbers_append (8 * l) 8 (8 * n)) ∙ ap (numbers_from (8 * l)) count)

pub stripes_are : (locks : ℕ) → flat_map stripes_in_order (numbers_from 0 locks) ≡ in_group group.Stripes (8 * locks)
stripes_are locks = all_locks 0 locks

-- ---- all groups, one after another

-- so many cells, slots and locks
module _ (cells slots locks : ℕ) where
  -- the objects in their order
  abbrev ordered : List ObjId
  ordered =
      map (λ cell. object.Mutex cell) (numbers_from 0 cells)
      ++ map (λ cell. object.Cond cell) (numbers_from 0 cells)
      ++ map (λ cell. object.Barrier cell) (numbers_from 0 cells)
      ++ flat_map stripes_in_order (numbers_from 0 locks)
      ++ map (λ slot. object.Slot slot) (numbers_from 0 slots)
      ++ (object.Threads ∷ object.Halt ∷ object.Input ∷ object.Output ∷ [])
      ++ map (λ cell. object.Rw cell) (numbers_from 0 cells)

  module _ (words : List ℕ) where
    abbrev part : List ObjId → List (ObjId × ℕ × ℕ)
    part os = filter_map (listed_of cells words) os

    joined : (os ps : List ObjId) (found : List (ObjId × ℕ × ℕ)) → found ≡ part os → (found1 : List (ObjId × ℕ × ℕ)) → found1 ≡ found ++ part ps → found1 ≡ part (os ++ ps)
    joined os ps found e found1 h = h ∙ ap (λ z. z ++ part ps) e ∙ sym (filter_append (listed_of cells words) os ps)

    four : (xs : List ObjId) → (((xs ++ object.Threads ∷ []) ++ object.Halt ∷ []) ++ object.Input ∷ []) ++ object.Output ∷ [] ≡ xs ++ (object.Threads ∷ object.Halt ∷ object.Input ∷ object.Output ∷ [])
    four xs =
        ap (λ z. (z ++ object.Input ∷ []) ++ object.Output ∷ []) (append_assoc xs (object.Threads ∷ []) (object.Halt ∷ []))
        ∙ ap (λ z. z ++ object.Output ∷ []) (append_assoc xs (object.Threads ∷ object.Halt ∷ []) (object.Input ∷ []))
        ∙ append_assoc xs (object.Threads ∷ object.Halt ∷ object.Input ∷ []) (object.Output ∷ [])

    all_groups : (f0 f1 f2 f3 f4 f5 f6 f7 f8 f9 f10 : List (ObjId × ℕ × ℕ)) → f0 ≡ [] → f1 ≡ f0 ++ part (in_group group.Mutexes cells) → f2 ≡ f1 ++ part (in_group group.Conds cells) → f3 ≡ f2 ++ part (in_group group.Barriers cells) → f4 ≡ f3 ++ part (in_group group.Stripes (8 * locks)) → f5 ≡ f4 ++ part (in_group group.Slots slots) → f6 ≡ f5 ++ part (object.Threads ∷ []) → f7 ≡ f6 ++ part (object.Halt ∷ []) → f8 ≡ f7 ++ part (object.Input ∷ []) → f9 ≡ f8 ++ part (object.Output ∷ []) → f10 ≡ f9 ++ part (in_group group.Rws cells) → f10 ≡ part ordered
    all_groups f0 f1 f2 f3 f4 f5 f6 f7 f8 f9 f10 e0 e1 e2 e3 e4 e5 e6 e7 e8 e9 e10 =
        let m = in_group group.Mutexes cells in
        let c = in_group group.Conds cells in
        let b = in_group group.Barriers cells in
        let w = in_group group.Stripes (8 * locks) in
        let l = in_group group.Slots slots in
        let r = in_group group.Rws cells in
        let g2 = joined m c f1 (e1 ∙ ap (λ z. z ++ part m) e0) f2 e2 in
        let g3 = joined (m ++ c) b f2 g2 f3 e3 in
        let g4 = joined (m ++ c ++ b) w f3 g3 f4 e4 in
        let g5 = joined (m ++ c ++ b ++ w) l f4 g4 f5 e5 in
        let t = m ++ c ++ b ++ w ++ l in
        let g6 = joined t (object.Threads ∷ []) f5 g5 f6 e6 in
        let g7 = joined (t ++ object.Threads ∷ []) (object.Halt ∷ []) f6 g6 f7 e7 in
        let g8 = joined ((t ++ object.Threads ∷ []) ++ object.Halt ∷ []) (object.Input ∷ []) f7 g7 f8 e8 in
        let g9 = joined (((t ++ object.Threads ∷ []) ++ object.Halt ∷ []) ++ object.Input ∷ []) (object.Output ∷ []) f8 g8 f9 e9 in
        let g10 = joined ((((t ++ object.Threads ∷ []) ++ object.Halt ∷ []) ++ object.Input ∷ []) ++ object.Output ∷ []) r f9 g9 f10 e10 in
        g10 ∙ ap (λ z. part (z ++ r)) (four t) ∙ ap (λ z. part (m ++ c ++ b ++ z ++ l ++ (object.Threads ∷ object.Halt ∷ object.Input ∷ object.Output ∷ []) ++ r)) (sym (stripes_are locks))

-- the same where these are the cells, slots and locks of a machine
pub groups_of : (code : Code) (s : SetupView) (cells slots locks : ℕ) (words : List ℕ) → cells ≡ cells_of code s → slots ≡ s.slots → locks ≡ length code.locks → (f0 f1 f2 f3 f4 f5 f6 f7 f8 f9 f10 : List (ObjId × ℕ × ℕ)) → f0 ≡ [] → f1 ≡ f0 ++ filter_map (listed_of cells words) (in_group group.Mutexes cells) → f2 ≡ f1 ++ filter_map (listed_of cells words) (in_group group.Conds cells) → f3 ≡ f2 ++ filter_map (listed_of cells words) (in_group group.Barriers cells) → f4 ≡ f3 ++ filter_map (listed_of cells words) (in_group group.Stripes (8 * locks)) → f5 ≡ f4 ++ filter_map (listed_of cells words) (in_group group.Slots slots) → f6 ≡ f5 ++ filter_map (listed_of cells words) (object.Threads ∷ []) → f7 ≡ f6 ++ filter_map (listed_of cells words) (object.Halt ∷ []) → f8 ≡ f7 ++ filter_map (listed_of cells words) (object.Input ∷ []) → f9 ≡ f8 ++ filter_map (listed_of cells words) (object.Output ∷ []) → f10 ≡ f9 ++ filter_map (listed_of cells words) (in_group group.Rws cells) → f10 ≡ objects_at code s words
groups_of code s cells slots locks words a b c f0 f1 f2 f3 f4 f5 f6 f7 f8 f9 f10 e0 e1 e2 e3 e4 e5 e6 e7 e8 e9 e10 =
    all_groups cells slots locks words f0 f1 f2 f3 f4 f5 f6 f7 f8 f9 f10 e0 e1 e2 e3 e4 e5 e6 e7 e8 e9 e10
    ∙ ap (λ n. filter_map (listed_of n words) (ordered n slots locks)) a
    ∙ ap (λ n. filter_map (listed_of (cells_of code s) words) (ordered (cells_of code s) n locks)) b
    ∙ ap (λ n. filter_map (listed_of (cells_of code s) words) (ordered (cells_of code s) s.slots n)) c

-- ---- places

module _ (code : Code) (s : SetupView) (limits : IsWithinLimits s) where
  pub place_within : (o : ObjId) (n : ℕ) → n ≡ length (start_words code s) → has_object code s o ≡ true → place_of (cells_of code s) o < n
  place_within o n e h = subst (λ k. place_of (cells_of code s) o < k) (sym e) (slice_get_within (start_words code s) (place_of (cells_of code s) o) (start_word o) (start_word_at code s o limits h))

  -- the same for as many cells as the machine has
  module _ (cells : ℕ) (same : cells ≡ cells_of code s) (words : List ℕ) (len : length words ≡ length (start_words code s)) where
    pub there_within : (o : ObjId) → has_object code s o ≡ true → place_of cells o < length words
    there_within o h = subst (λ k. place_of k o < length words) (sym same) (place_within o (length words) len h)

    pub mutex_within : (n : ℕ) → n < cells → place_of cells (object.Mutex n) < length words
    mutex_within n lt = there_within (object.Mutex n) (lt-ltb n (cells_of code s) (omega (arith, lt, same)))

    pub cond_within : (n : ℕ) → n < cells → place_of cells (object.Cond n) < length words
    cond_within n lt = there_within (object.Cond n) (lt-ltb n (cells_of code s) (omega (arith, lt, same)))

    pub barrier_within : (n : ℕ) → n < cells → place_of cells (object.Barrier n) < length words
    barrier_within n lt = there_within (object.Barrier n) (lt-ltb n (cells_of code s) (omega (arith, lt, same)))

    pub rw_within : (n : ℕ) → n < cells → place_of cells (object.Rw n) < length words
    rw_within n lt = there_within (object.Rw n) (lt-ltb n (cells_of code s) (omega (arith, lt, same)))

    pub slot_within : (n : ℕ) → n < s.slots → place_of cells (object.Slot n) < length words
    slot_within n lt = there_within (object.Slot n) (lt-ltb n s.slots lt)

    pub weak_within : (n : ℕ) → n < 8 * length code.locks → place_of cells (object_at group.Stripes n) < length words
    weak_within n lt = there_within (object.Weak (n / 8) (n % 8)) (stripe_there code s (n / 8) (n % 8) (omega (arith, lt)) (omega arith))
