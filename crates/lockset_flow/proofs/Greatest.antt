-- The points at the end of the rounds are the greatest solution.
use Rattle.std.proofs.Common.{◌≡◌, ℕ, zero, suc, ◌<◌, Bool, true, List, [], ◌∷◌, ◌++◌, length, get_or, refl, sym, ap, ◌∙◌, subst, arith, ◌⊎◌, inl, inr, ⊎_elim, Some, length-append}
use Rattle.std.specs.Prelude.{slice_get}
use Rattle.std.specs.List.{list_all}
use Rattle.std.proofs.lemmas.Option.{same_Some, slice_get_within, slice_get-get_or}
use Rattle.flow_code.specs.declared.code.Function.{Function}
use Rattle.facts.specs.declared.locks.Held.{Held}
use Rattle.facts.specs.declared.locks.RelLocks.{RelLocks}
use Rattle.facts.specs.Locks.{nothing, topmost, Below, Points, PointsBelow, IsSolution, IsGreatest, held_ascend, held_are_sized, ascends, locks_are_sized}
use Rattle.lockset_flow.specs.Flow.{AreSized}
use Rattle.lockset_flow.specs.Rounds.{start_row, starts, starting, Good, AllGood, Settled}
use Rattle.lockset_flow.proofs.Meets.{below_refl, below_trans, both_and}

starts_long : (top : List Held) (n : ℕ) → length (starts top n) ≡ n
starts_long top zero = refl
starts_long top (suc n) = omega (arith, length-append (starts top n) (start_row top n ∷ []), starts_long top n)

pub start_long : (top : List Held) (n m : ℕ) (x : Points) → x ≡ starting top n → n ≡ m → length x.before ≡ m
start_long top n m x is e = ap (λ (z : Points). length z.before) is ∙ starts_long top n ∙ e

append_got : (xs : List RelLocks) (x y : RelLocks) (k : ℕ) → slice_get (xs ++ x ∷ []) k ≡ Some y → (slice_get xs k ≡ Some y) ⊎ ((k ≡ length xs) × (x ≡ y))
append_got [] x y zero h = inr (refl, same_Some x y h)
append_got [] x y (suc k) h = cc
append_got (z ∷ zs) x y zero h = inl h
append_got (z ∷ zs) x y (suc k) h = ⊎_elim (λ e. inl e) (λ (e : (k ≡ length zs) × (x ≡ y)). inr (ap suc e.0, e.1)) (append_got zs x y k h)

starts_row : (top : List Held) (n k : ℕ) (l : RelLocks) → slice_get (starts top n) k ≡ Some l → start_row top k ≡ l
starts_row top zero k l h = cc
starts_row top (suc n) k l h =
    ⊎_elim
    (λ (e : slice_get (starts top n) k ≡ Some l). starts_row top n k l e)
    (λ (e : (k ≡ length (starts top n)) × (start_row top n ≡ l)). let d : k ≡ n = e.0 ∙ starts_long top n in ap (start_row top) d ∙ e.1)
    (append_got (starts top n) (start_row top n) l k h)

-- ---- below what the rounds start with

nothing_below : (top : List Held) → Below nothing (topmost top)
nothing_below top = record { plus = λ p h. cc; minus = λ p h. h }

start_below : (top : List Held) (k : ℕ) → Below (start_row top k) (topmost top)
start_below top zero = nothing_below top
start_below top (suc k) = below_refl (topmost top)

first_below : (top : List Held) (n : ℕ) (x : Points) → length x.before ≡ n → PointsBelow x (starting top n) → (k : ℕ) (l : RelLocks) → slice_get x.before k ≡ Some l → Below l (start_row top k)
first_below top n x long down k l h =
    let lt : k < length (starts top n) = omega (arith, slice_get_within x.before k l h, long, starts_long top n) in
    let g = slice_get-get_or (starts top n) k nothing lt in
    subst (Below l) (sym (starts_row top n k (get_or (starts top n) k nothing) g)) (down.before k l (get_or (starts top n) k nothing) h g)

solution_below : (exits : List RelLocks) (f : Function) (top : List Held) (n : ℕ) (y : Points) → IsSolution exits f top y → PointsBelow y (starting top n)
solution_below exits f top n y s = record { before = λ k a b h i. subst (Below a) (starts_row top n k b i) (row k a h); exit = s.exit_within }
  where
    row : (k : ℕ) (a : RelLocks) → slice_get y.before k ≡ Some a → Below a (start_row top k)
    row zero a h = s.entry a h
    row (suc k) a h = s.within (suc k) a h

start_good : (top : List Held) (n : ℕ) → held_ascend top ≡ true → held_are_sized top ≡ true → AllGood (starting top n)
start_good top n a s = record { before = λ k l h. subst Good (starts_row top n k l h) (row k); exit = most }
  where
    most : Good (topmost top)
    most = (both_and (held_ascend top) true a refl, both_and (held_are_sized top) true s refl)

    row : (k : ℕ) → Good (start_row top k)
    row zero = (refl, refl)
    row (suc k) = most

all_of : (t : RelLocks → Bool) (ls : List RelLocks) → ((k : ℕ) (l : RelLocks) → slice_get ls k ≡ Some l → t l ≡ true) → list_all t ls ≡ true
all_of t [] h = refl
all_of t (l ∷ ls) h = both_and (t l) (list_all t ls) (h 0 l refl) (all_of t ls (λ k m e. h (suc k) m e))

-- ---- the end of the rounds

pub greatest : (exits : List RelLocks) (f : Function) (top : List Held) (n : ℕ) (first x : Points) → n ≡ length f.instrs → first ≡ starting top n → held_ascend top ≡ true → held_are_sized top ≡ true → Settled exits f first x → IsGreatest exits f top x
greatest exits f top n first x e is a s t = record {
  solves = record {
    long = long ∙ e;
    entry = λ l h. first_below top n x long down 0 l h;
    within = λ k l h. below_trans l (start_row top k) (topmost top) (first_below top n x long down k l h) (start_below top k);
    steps = λ k to i l m at one h g. (t.met k (slice_get_within f.instrs k i at)).flows to i at one i l m at h g;
    exit_within = down.exit;
    returned = λ k i l at ret h. (t.met k (slice_get_within f.instrs k i at)).left i at ret l h;
  };
  most = λ y k. t.above top y k (subst (PointsBelow y) (sym is) (solution_below exits f top n y k));
  in_order = all_of ascends x.before (λ k l h. (good.before k l h).0);
  exit_in_order = good.exit.0;
}
  where
    long : length x.before ≡ n
    long = t.long ∙ ap (λ (z : Points). length z.before) is ∙ starts_long top n

    down : PointsBelow x (starting top n)
    down = subst (PointsBelow x) is t.down

    good : AllGood x
    good = t.good (subst AllGood (sym is) (start_good top n a s))

pub sized_end : (exits : List RelLocks) (f : Function) (top : List Held) (n : ℕ) (first x : Points) → first ≡ starting top n → held_ascend top ≡ true → held_are_sized top ≡ true → Settled exits f first x → AreSized x
sized_end exits f top n first x is a s t = record { before = all_of locks_are_sized x.before (λ k l h. (good.before k l h).1); exit = good.exit.1 }
  where
    good : AllGood x
    good = t.good (subst AllGood (sym is) (start_good top n a s))
