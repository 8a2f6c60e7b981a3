-- The cells of the global locks, and whether the locks of two groups keep them apart.
use Rattle.std.proofs.Common.{◌≡◌, ℕ, ◌+◌, ◌≤◌, Bool, true, false, ◌&&◌, ◌||◌, List, [], length, refl, sym, ap, ap₂, subst, ◌∙◌, arith, ◌⊎◌, inl, inr, ⊎_elim, Some}
use Rattle.std.specs.Prelude.{slice_get, ◌↔◌, IsTrue}
use Rattle.std.specs.Bool.{Decides}
use Rattle.std.specs.Cmp.Lexicographic.{pointwise}
use Rattle.std.proofs.lemmas.Slice.Eq.{slice_eq-Decides}
use Rattle.std.specs.List.{Contains, list_any}
use Rattle.sync_objects.specs.declared.mode.Mode.{Mode}
use Rattle.sync_objects.specs.declared.mode.Mode.TheVariants.{Read, Write}
use Rattle.facts.specs.declared.locks.Held.{Held}
use Rattle.facts.specs.declared.locks.LockPath.{LockPath}
use Rattle.facts.specs.declared.locks.LockPath.TheVariants.{Cell, Formal}
use Rattle.facts.specs.Locks.{mode_same, held_same, has_held, held_as}
use Rattle.facts.specs.Pairs.{is_global_lock, shuts_out, share_lock}
use Rattle.facts.proofs.TotalOrders.{orders_held}
use Rattle.race_pairs.specs.declared.touch.Group.{Group}
use Rattle.race_pairs.specs.Gains.{Gains, Below}
use Rattle.race_pairs.specs.Races.{held_cell, Meet, Exclude}
use Rattle.race_pairs.specs.Groups.{HasLocks}
use Rattle.race_pairs.proofs.Elements.{got, held, holds, any_some, some_any}
use Rattle.race_pairs.proofs.Gaining.{only, alike, more, all_below}

-- ---- found one by one

abbrev pub CellAt : List Held → Mode → ℕ → ℕ → Type 0
CellAt hs mode k n = slice_get hs k ≡ Some (held_cell mode n)

pub cell_more : (hs : List Held) (mode : Mode) (k : ℕ) (p : Held) (xs ys : List ℕ) → slice_get hs k ≡ Some p → Gains (Below k (CellAt hs mode)) [] xs → Gains (λ n. p ≡ held_cell mode n) xs ys → Gains (Below (k + 1) (CellAt hs mode)) [] ys
cell_more hs mode k p xs ys at g h = more (CellAt hs mode) k [] xs ys g (alike (λ n. p ≡ held_cell mode n) (CellAt hs mode k) xs ys (λ n e. at ∙ ap Some e) (λ n e. let s : p ≡ held_cell mode n = cc in s) h)

pub cells_all : (hs : List Held) (mode : Mode) (k : ℕ) (xs : List ℕ) → length hs ≤ k → Gains (Below k (CellAt hs mode)) [] xs → Gains (λ n. Contains hs (held_cell mode n)) [] xs
cells_all hs mode k xs le g =
    alike (λ n. (j : ℕ) × CellAt hs mode j n) (λ n. Contains hs (held_cell mode n)) [] xs
    (λ n h. held hs h.0 (held_cell mode n) h.1)
    (λ n h. holds hs (held_cell mode n) h)
    (all_below (CellAt hs mode) k [] xs (λ j n h. let l = (got hs j (held_cell mode n) h).0 in omega (arith, l)) g)

-- ---- locks that keep accesses apart

and_both : (p q : Bool) → p && q ≡ true → (p ≡ true) × (q ≡ true)
and_both true q h = (refl, h)
and_both false q h = cc

or_left : (p q : Bool) → p ≡ true → p || q ≡ true
or_left true q h = refl
or_left false q h = cc

or_right : (p q : Bool) → q ≡ true → p || q ≡ true
or_right true q h = refl
or_right false q h = h

or_either : (p q : Bool) → p || q ≡ true → (p ≡ true) ⊎ (q ≡ true)
or_either true q h = inl refl
or_either false q h = inr h

or_swap : (p q : Bool) → p || q ≡ q || p
or_swap true true = refl
or_swap true false = refl
or_swap false true = refl
or_swap false false = refl

either : (b : Bool) → (b ≡ true) ⊎ (b ≡ false)
either true = inl refl
either false = inr refl

held_of : (h : Held) (p : LockPath) (mode : Mode) → h.path ≡ p → h.mode ≡ mode → h ≡ held_as mode p
held_of h p mode e f = ap₂ {C = Held} (λ a b. held_as b a) e f

mode_is_write : (a : Mode) → mode_same a Write ≡ true → a ≡ Write
mode_is_write Read h = cc
mode_is_write Write h = refl

-- a test that compares locks part by part says of two lists whether they are the same
pub locks_same : (E : Held → Held → Bool) (hs ks : List Held) (r : Bool) → r ≡ pointwise E hs ks → ((h k : Held) → E h k ≡ held_same h k) → Decides r (hs ≡ ks)
locks_same E hs ks r e is_test = slice_eq-Decides decides hs ks r e
  where
    decides : (h k : Held) → Decides (E h k) (h ≡ k)
    decides h k = (λ t. orders_held.same_is h k (sym (is_test h k) ∙ t), λ t. is_test h k ∙ subst (λ z. held_same h z ≡ true) t (orders_held.same_self h))

global_is : (p : LockPath) → is_global_lock p ≡ true → (n : ℕ) × (p ≡ Cell n)
global_is (Cell n) h = (n, refl)
global_is (Formal i k) h = cc

-- the first of two lists of locks has one for writing that the other has
shut_out : (hs ks : List Held) → list_any (λ h. shuts_out h ks) hs ≡ true → (n : ℕ) × Contains hs (held_cell Write n) × Contains ks (held_cell Read n)
shut_out hs ks t =
    let (k, h, at, o) = any_some (λ h. shuts_out h ks) hs t in
    let a = and_both (mode_same h.mode Write && is_global_lock h.path) (has_held (held_as Read h.path) ks) o in
    let b = and_both (mode_same h.mode Write) (is_global_lock h.path) a.0 in
    let (j, q, there, s) = any_some (held_same (held_as Read h.path)) ks a.1 in
    let e : held_as Read h.path ≡ q = orders_held.same_is (held_as Read h.path) q s in
    let (n, is) = global_is h.path b.1 in
    (n, subst (Contains hs) (held_of h (Cell n) Write is (mode_is_write h.mode b.0)) (held hs k h at), subst (Contains ks) (sym e ∙ ap (held_as Read) is) (held ks j q there))

shutting_out : (hs ks : List Held) (n : ℕ) → Contains hs (held_cell Write n) → Contains ks (held_cell Read n) → list_any (λ h. shuts_out h ks) hs ≡ true
shutting_out hs ks n h k =
    let i = holds hs (held_cell Write n) h in
    let j = holds ks (held_cell Read n) k in
    some_any (λ z. shuts_out z ks) hs i.0 (held_cell Write n) i.1 (some_any (held_same (held_cell Read n)) ks j.0 (held_cell Read n) j.1 (orders_held.same_self (held_cell Read n)))

-- locks are apart where no group of the two excludes the other
pub apart_is : (hs ks : List Held) (g h : Group) → HasLocks hs g → HasLocks ks h → (Exclude g h → ⊥) → share_lock hs ks ≡ false
apart_is hs ks g h a b never = ⊎_elim (λ t. absurd (never (meeting (or_either (list_any (λ z. shuts_out z ks) hs) (list_any (λ z. shuts_out z hs) ks) t)))) (λ f. f) (either (share_lock hs ks))
  where
    meeting : (list_any (λ z. shuts_out z ks) hs ≡ true) ⊎ (list_any (λ z. shuts_out z hs) ks ≡ true) → Exclude g h
    meeting (inl t) = let s = shut_out hs ks t in inl (s.0, a.writing.gained s.0 s.1, b.reading.gained s.0 s.2)
    meeting (inr t) = let s = shut_out ks hs t in inr (s.0, a.reading.gained s.0 s.2, b.writing.gained s.0 s.1)

pub never_exclude : (hs ks : List Held) (g h : Group) → HasLocks hs g → HasLocks ks h → share_lock hs ks ≡ false → Exclude g h → ⊥
never_exclude hs ks g h a b f (inl (n, i, j)) =
    let t = or_left (list_any (λ z. shuts_out z ks) hs) (list_any (λ z. shuts_out z hs) ks) (shutting_out hs ks n (only (λ m. Contains hs (held_cell Write m)) g.writing a.writing n i) (only (λ m. Contains ks (held_cell Read m)) h.reading b.reading n j)) in cc
never_exclude hs ks g h a b f (inr (n, i, j)) =
    let t = or_right (list_any (λ z. shuts_out z ks) hs) (list_any (λ z. shuts_out z hs) ks) (shutting_out ks hs n (only (λ m. Contains ks (held_cell Write m)) h.writing b.writing n j) (only (λ m. Contains hs (held_cell Read m)) g.reading a.reading n i)) in cc

met : (ms ns xs ys : List ℕ) → ms ≡ xs → ns ≡ ys → Meet ms ns → Meet xs ys
met ms ns xs ys e f (n, i, j) = (n, subst (λ (zs : List ℕ). Contains zs n) e i, subst (λ (zs : List ℕ). Contains zs n) f j)

-- two groups whose first lists don't meet, by whether the others do
pub exclude_by : (g h : Group) (ms ns xs ys : List ℕ) (a b : Bool) → ms ≡ g.writing → ns ≡ h.reading → xs ≡ g.reading → ys ≡ h.writing → IsTrue a ↔ Meet ms ns → a ≡ false → IsTrue b ↔ Meet xs ys → IsTrue b ↔ Exclude g h
exclude_by g h ms ns xs ys a b e f i j first none second = (
  λ t. inr (met xs ys g.reading h.writing i j (second.0 t)),
  λ m. ⊎_elim
      (λ (z : Meet g.writing h.reading). absurd (never (first.1 (met g.writing h.reading ms ns (sym e) (sym f) z))))
      (λ (z : Meet g.reading h.writing). second.1 (met g.reading h.writing xs ys (sym i) (sym j) z))
      m,
)
  where
    never : IsTrue a → ⊥
    never t = cc

pub exclude_swap : (g h : Group) → Exclude g h → Exclude h g
exclude_swap g h (inl (n, i, j)) = inr (n, j, i)
exclude_swap g h (inr (n, i, j)) = inl (n, j, i)

pub apart_swap : (hs ks : List Held) → share_lock hs ks ≡ false → share_lock ks hs ≡ false
apart_swap hs ks h = or_swap (list_any (λ k. shuts_out k hs) ks) (list_any (λ k. shuts_out k ks) hs) ∙ h
