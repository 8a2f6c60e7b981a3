-- How many entries a log has at most, and which bytes its input has.
use Rattle.std.proofs.Common.{◌≡◌, ℕ, zero, suc, ◌+◌, ◌*◌, ◌<◌, ◌≤◌, Bool, true, false, cond, eqb, List, [], ◌∷◌, length, get_or, refl, ap, arith, ⊎_elim}
use Rattle.std.specs.Prelude.{count_by, not, ◌&&◌}
use Rattle.std.specs.List.{AllByRecursion}
use Rattle.std.proofs.lemmas.Bool.{cases_eq, eq-eqb, ne_eqb}
use Rattle.std.proofs.lemmas.List.Sums.{sum_by-cons}
use Rattle.sync_objects.specs.declared.entry.Entry.{Entry}
use Rattle.sync_objects.specs.Names.{is_ending}
use Rattle.sync_objects.specs.Setup.{SetupView, IsWithinLimits}
use Rattle.order_log.specs.Log.{is_ending_of, is_other_of, IsEntryWithin, AreWithin}
use Rattle.order_log.proofs.Heads.{AreBytes}

pub AreBytes-from_reads : (bs : List ℕ) → ((i : ℕ) → get_or bs i 0 < 256) → AreBytes bs
AreBytes-from_reads [] h = tt
AreBytes-from_reads (b ∷ bs) h = (h 0, AreBytes-from_reads bs (λ i. h (suc i)))

-- ---- entries of the first threads

abbrev of_thread : ℕ → List Entry → ℕ
of_thread thread es = count_by (is_other_of thread) es + count_by (is_ending_of thread) es

abbrev of_threads : ℕ → List Entry → ℕ
of_threads zero es = 0
of_threads (suc n) es = of_threads n es + of_thread n es

-- one entry is one of its thread's
one_of : (thread : ℕ) (e : Entry) (es : List Entry) → of_thread thread (e ∷ es) ≡ of_thread thread es + cond (eqb e.thread thread) 1 0
one_of thread e es =
    let others = sum_by-cons (λ x. cond (is_other_of thread x) 1 0) e es in
    let endings = sum_by-cons (λ x. cond (is_ending_of thread x) 1 0) e es in
    let one = by (eqb e.thread thread) (is_ending e.op) in
    omega arith
  where
    by : (t u : Bool) → cond {A = ℕ} (t && not u) 1 0 + cond {A = ℕ} (t && u) 1 0 ≡ cond t 1 0
    by true true = refl
    by true false = refl
    by false true = refl
    by false false = refl

later_of : (n : ℕ) (e : Entry) (es : List Entry) → n ≤ e.thread → of_threads n (e ∷ es) ≡ of_threads n es
later_of zero e es le = refl
later_of (suc n) e es le =
    let others = later_of n e es (omega arith) in
    let here = one_of n e es in
    let none : cond {A = ℕ} (eqb e.thread n) 1 0 ≡ 0 = ap (λ (b : Bool). cond {A = ℕ} b 1 0) (ne_eqb e.thread n (λ h. omega arith)) in
    omega arith

more_here : (n : ℕ) (e : Entry) (es : List Entry) → e.thread < suc n → (e.thread < n → of_threads n (e ∷ es) ≡ of_threads n es + 1) → of_threads (suc n) (e ∷ es) ≡ of_threads (suc n) es + 1
more_here n e es lt before = ⊎_elim last earlier (cases_eq e.thread n)
  where
    last : e.thread ≡ n → of_threads (suc n) (e ∷ es) ≡ of_threads (suc n) es + 1
    last same =
        let others = later_of n e es (omega arith) in
        let here = one_of n e es in
        let one : cond {A = ℕ} (eqb e.thread n) 1 0 ≡ 1 = ap (λ (b : Bool). cond {A = ℕ} b 1 0) (eq-eqb e.thread n same) in
        omega arith

    earlier : (e.thread ≡ n → ⊥) → of_threads (suc n) (e ∷ es) ≡ of_threads (suc n) es + 1
    earlier other =
        let others = before (grind arith) in
        let here = one_of n e es in
        let none : cond {A = ℕ} (eqb e.thread n) 1 0 ≡ 0 = ap (λ (b : Bool). cond {A = ℕ} b 1 0) (ne_eqb e.thread n other) in
        omega arith

more_of : (n : ℕ) (e : Entry) (es : List Entry) → e.thread < n → of_threads n (e ∷ es) ≡ of_threads n es + 1
more_of zero e es lt = absurd (omega arith)
more_of (suc n) e es lt = more_here n e es lt (more_of n e es)

none_of : (n : ℕ) → of_threads n [] ≡ 0
none_of zero = refl
none_of (suc n) = let rest = none_of n in omega arith

abbrev AreBelow : ℕ → List Entry → Type 0
AreBelow n es = AllByRecursion (λ (e : Entry). e.thread < n) es

all_of : (n : ℕ) (es : List Entry) → AreBelow n es → of_threads n es ≡ length es
all_of n [] below = none_of n
all_of n (e ∷ es) below = let one = more_of n e es below.0 in let rest = all_of n es below.1 in omega arith

few_of : (n : ℕ) (es : List Entry) → ((thread : ℕ) → of_thread thread es ≤ 1048582) → of_threads n es ≤ n * 1048582
few_of zero es h = omega arith
few_of (suc n) es h = let rest = few_of n es h in let here = h n in omega arith

below_all : (s : SetupView) (es : List Entry) → s.slots ≤ 16 → AllByRecursion (IsEntryWithin s) es → AreBelow 16 es
below_all s [] few h = tt
below_all s (e ∷ es) few h = let lt = h.0.thread in (omega arith, below_all s es few h.1)

pub few_entries : (s : SetupView) (es : List Entry) → IsWithinLimits s → AreWithin s es → length es ≤ 16777312
few_entries s es limits within =
    let all = all_of 16 es (below_all s es limits.few_slots within.each) in
    let few = few_of 16 es (λ thread. let a = within.others thread in let b = within.endings thread in omega arith) in
    omega arith
