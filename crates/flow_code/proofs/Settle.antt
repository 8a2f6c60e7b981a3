-- Quiet steps end, and what comes after them doesn't depend on how many of them are made.
use Rattle.std.proofs.Common.{◌≡◌, ℕ, zero, suc, ◌+◌, ◌-◌, ◌<◌, ◌≤◌, ◌⊎◌, inl, inr, ⊎_elim, false, if◌then◌else◌, List, [], ◌∷◌, length, take, Some, refl, sym, ap, subst, ◌∙◌, ℤ, pos, arith}
use Rattle.std.specs.Prelude.{slice_get, sum_by, fold}
use Rattle.std.proofs.lemmas.Bool.{true≢false}
use Rattle.sync_objects.specs.Setup.{SetupView}
use Rattle.flow_code.specs.declared.code.Code.{Code}
use Rattle.word_semantics.specs.declared.event.Due.{Due}
use Rattle.flow_code.specs.declared.thread.Stripe.{Stripe}
use Rattle.word_semantics.specs.declared.event.Due.TheVariants as due
use Rattle.word_semantics.specs.declared.event.Action.TheVariants as action
use Rattle.flow_code.specs.Threads.{Frame, Thread, instrs_in}
use Rattle.flow_code.specs.Next.{due_of, action_of, action_at, stepped}
use Rattle.flow_code.specs.Settle.{is_quiet, left_in, weight, settle_on, settle, settled, IsRunnable}
use Rattle.flow_code.proofs.Quietly.{Moves, on, to_mark, back, forgets, quiet_moves, quiet_stands, quiet_answer, mark_is_due}

-- sums over all frames but the last one

fold_grows : (g : Frame → ℕ) (fs : List Frame) (a : ℕ) → a ≤ fold (λ n f. n + g f) a fs
fold_grows g [] a = omega arith
fold_grows g (f ∷ fs) a = let more = fold_grows g fs (a + g f) in omega arith

fold_without : (g : Frame → ℕ) (fs : List Frame) (n a : ℕ) (f : Frame) → slice_get fs n ≡ Some f → fold (λ m x. m + g x) a (take n fs) + g f ≤ fold (λ m x. m + g x) a fs
fold_without g [] n a f e = cc
fold_without g (y ∷ fs) zero a f e =
    let same : y ≡ f = cc in
    let weighs : g y ≡ g f = ap g same in
    let more = fold_grows g fs (a + g y) in
    omega arith
fold_without g (y ∷ fs) (suc n) a f e = fold_without g fs n (a + g y) f e

sum_without : (g : Frame → ℕ) (fs : List Frame) (n : ℕ) (f : Frame) → slice_get fs n ≡ Some f → sum_by g (take n fs) + g f ≤ sum_by g fs
sum_without g fs n f e = fold_without g fs n 0 f e

-- what is due is quiet or not
quiet_or_not : (d : Due) → (d ≡ due.Quiet) ⊎ (is_quiet d ≡ false)
quiet_or_not due.Nothing = inr refl
quiet_or_not due.Quiet = inl refl
quiet_or_not (due.Load c) = inr refl
quiet_or_not (due.Store c w) = inr refl
quiet_or_not due.Mark = inr refl
quiet_or_not (due.Operate o obj) = inr refl
quiet_or_not (due.Trap kind) = inr refl

not_quiet : (d : Due) → (d ≡ due.Quiet → ⊥) → is_quiet d ≡ false
not_quiet d h = ⊎_elim (λ e. absurd (h e)) (λ e. e) (quiet_or_not d)

pub weight_quiet : (code : Code) (s : SetupView) (t : ℕ) (th : Thread) → due_of code s t th ≡ due.Quiet → weight code s t th ≡ 1 + left_in code th.top + sum_by (left_in code) th.below + length th.stripes
unfolding weight
weight_quiet code s t th e = ap (λ d. if is_quiet d then 1 + left_in code th.top + sum_by (left_in code) th.below + length th.stripes else 0) e

pub weight_none : (code : Code) (s : SetupView) (t : ℕ) (th : Thread) → is_quiet (due_of code s t th) ≡ false → weight code s t th ≡ 0
unfolding weight
weight_none code s t th e = ap (λ b. if b then 1 + left_in code th.top + sum_by (left_in code) th.below + length th.stripes else 0) e

left_by : (code : Code) (f g : Frame) → f.function ≡ g.function → left_in code f ≡ length (instrs_in (slice_get code.functions g.function)) - f.instr
left_by code f g e = ap (λ k. length (instrs_in (slice_get code.functions k)) - f.instr) e

module _ (code : Code) (s : SetupView) (t : ℕ) (runnable : IsRunnable code) where
  weight_moves : (th q : Thread) → due_of code s t th ≡ due.Quiet → Moves code th q → weight code s t q < weight code s t th
  weight_moves th q e m = ⊎_elim (λ h. by h m) (λ h. let w = weight_quiet code s t th e in let v = weight_none code s t q h in omega arith) (quiet_or_not (due_of code s t q))
    where
      by : due_of code s t q ≡ due.Quiet → Moves code th q → weight code s t q < weight code s t th
      by h (on below function further stripes) =
          let w = weight_quiet code s t th e in
          let v = weight_quiet code s t q h in
          let same = ap (sum_by (left_in code)) below in
          let kept = ap (λ (z : List Stripe). length z) stripes in
          let left = left_by code q.top th.top function in
          let stands : th.top.instr < length (instrs_in (slice_get code.functions th.top.function)) = quiet_stands code s t th e in
          omega arith
      by h (forgets below top fewer) =
          let w = weight_quiet code s t th e in
          let v = weight_quiet code s t q h in
          let same = ap (sum_by (left_in code)) below in
          let left = ap (left_in code) top in
          omega arith
      by h (to_mark at) = absurd (mark_is_due code s t q at h)
      by h (back f at below function further stripes) =
          let w = weight_quiet code s t th e in
          let v = weight_quiet code s t q h in
          let same = ap (sum_by (left_in code)) below in
          let kept = ap (λ (z : List Stripe). length z) stripes in
          let left = left_by code q.top f function in
          let rest = sum_without (left_in code) th.below (length th.below - 1) f at in
          let stands : th.top.instr < length (instrs_in (slice_get code.functions th.top.function)) = quiet_stands code s t th e in
          omega arith

  -- a quiet step leaves fewer of them
  pub weight_falls : (th : Thread) (answer : ℤ) → due_of code s t th ≡ due.Quiet → weight code s t (stepped code s t th answer) < weight code s t th
  weight_falls th answer e = weight_moves th (stepped code s t th answer) e (quiet_moves code s t th answer runnable e)

  -- the state after all quiet steps doesn't depend on the bound
  same_settle : (m n : ℕ) (th : Thread) → weight code s t th ≤ m → weight code s t th ≤ n → settle m code s t th ≡ settle n code s t th
  same_settle zero zero th h k = refl
  same_settle zero (suc n) th h k = ⊎_elim (λ e. let w = weight_quiet code s t th e in absurd (omega arith)) (λ e. sym (ap (settle_on (settle n code s t) code s t th) e)) (quiet_or_not (due_of code s t th))
  same_settle (suc m) zero th h k = ⊎_elim (λ e. let w = weight_quiet code s t th e in absurd (omega arith)) (λ e. ap (settle_on (settle m code s t) code s t th) e) (quiet_or_not (due_of code s t th))
  same_settle (suc m) (suc n) th h k = go (λ lt le. same_settle m n (stepped code s t th (pos 0)) lt le) (quiet_or_not (due_of code s t th))
    where
      go : (weight code s t (stepped code s t th (pos 0)) ≤ m → weight code s t (stepped code s t th (pos 0)) ≤ n → settle m code s t (stepped code s t th (pos 0)) ≡ settle n code s t (stepped code s t th (pos 0))) → (due_of code s t th ≡ due.Quiet) ⊎ (is_quiet (due_of code s t th) ≡ false) → settle (suc m) code s t th ≡ settle (suc n) code s t th
      go again (inl e) =
          let falls = weight_falls th (pos 0) e in
          ap (λ d. settle_on (settle m code s t) code s t th (is_quiet d)) e ∙ again (omega arith) (omega arith) ∙ sym (ap (λ d. settle_on (settle n code s t) code s t th (is_quiet d)) e)
      go again (inr e) = ap (settle_on (settle m code s t) code s t th) e ∙ sym (ap (settle_on (settle n code s t) code s t th) e)

  -- a quiet step changes nothing of what comes after all of them
  pub settled_step : (th : Thread) (answer : ℤ) → due_of code s t th ≡ due.Quiet → settled code s t (stepped code s t th answer) ≡ settled code s t th
  unfolding settled
  settled_step th answer e =
      let falls = weight_falls th (pos 0) e in
      let q = stepped code s t th (pos 0) in
      ap (λ z. settle (weight code s t z) code s t z) (quiet_answer code s t th answer e)
      ∙ same_settle (weight code s t q) (weight code s t th) q (omega arith) (omega arith)
      ∙ sym (ap (λ d. settle_on (settle (weight code s t th) code s t) code s t th (is_quiet d)) e)
      ∙ same_settle (suc (weight code s t th)) (weight code s t th) th (omega arith) (omega arith)

  settle_quiet : (n : ℕ) (th : Thread) → weight code s t th ≤ n → due_of code s t (settle n code s t th) ≡ due.Quiet → ⊥
  settle_quiet zero th h e = let w = weight_quiet code s t th e in absurd (omega arith)
  settle_quiet (suc n) th h e = go (settle_quiet n (stepped code s t th (pos 0))) (quiet_or_not (due_of code s t th)) e
    where
      go : (weight code s t (stepped code s t th (pos 0)) ≤ n → due_of code s t (settle n code s t (stepped code s t th (pos 0))) ≡ due.Quiet → ⊥) → (due_of code s t th ≡ due.Quiet) ⊎ (is_quiet (due_of code s t th) ≡ false) → due_of code s t (settle (suc n) code s t th) ≡ due.Quiet → ⊥
      go again (inl q) e =
          let falls = weight_falls th (pos 0) q in
          again (omega arith) (sym (ap (λ d. due_of code s t (settle_on (settle n code s t) code s t th (is_quiet d))) q) ∙ e)
      go again (inr q) e =
          let at = sym (ap (λ b. due_of code s t (settle_on (settle n code s t) code s t th b)) q) ∙ e in
          true≢false (ap is_quiet (sym at) ∙ q)

  -- after all quiet steps no quiet one is due
  pub settled_quiet : (th : Thread) → due_of code s t (settled code s t th) ≡ due.Quiet → ⊥
  unfolding settled
  settled_quiet th = settle_quiet (weight code s t th) th (omega arith)

-- where no quiet step is due, all of them are made
pub settled_none : (code : Code) (s : SetupView) (t : ℕ) (th : Thread) → (due_of code s t th ≡ due.Quiet → ⊥) → settled code s t th ≡ th
unfolding settled
settled_none code s t th h = ap (λ n. settle n code s t th) (weight_none code s t th (not_quiet (due_of code s t th) h))

-- what each quiet step keeps holds after all of them
settle_keeps : (code : Code) (s : SetupView) (t : ℕ) (P : Thread → Type 0) → ((th : Thread) → due_of code s t th ≡ due.Quiet → P th → P (stepped code s t th (pos 0))) → (n : ℕ) (th : Thread) → P th → P (settle n code s t th)
settle_keeps code s t P keeps zero th p = p
settle_keeps code s t P keeps (suc n) th p = go (settle_keeps code s t P keeps n (stepped code s t th (pos 0))) (quiet_or_not (due_of code s t th))
  where
    go : (P (stepped code s t th (pos 0)) → P (settle n code s t (stepped code s t th (pos 0)))) → (due_of code s t th ≡ due.Quiet) ⊎ (is_quiet (due_of code s t th) ≡ false) → P (settle (suc n) code s t th)
    go again (inl e) = subst (λ d. P (settle_on (settle n code s t) code s t th (is_quiet d))) (sym e) (again (keeps th e p))
    go again (inr e) = subst (λ b. P (settle_on (settle n code s t) code s t th b)) (sym e) p

pub settled_keeps : (code : Code) (s : SetupView) (t : ℕ) (P : Thread → Type 0) → ((th : Thread) → due_of code s t th ≡ due.Quiet → P th → P (stepped code s t th (pos 0))) → (th : Thread) → P th → P (settled code s t th)
unfolding settled
settled_keeps code s t P keeps th p = settle_keeps code s t P keeps (weight code s t th) th p

-- the same by what comes next

action_is_quiet : (d : Due) → action_of d ≡ action.Quiet → d ≡ due.Quiet
action_is_quiet due.Nothing e = cc
action_is_quiet due.Quiet e = refl
action_is_quiet (due.Load c) e = cc
action_is_quiet (due.Store c w) e = cc
action_is_quiet due.Mark e = cc
action_is_quiet (due.Operate o obj) e = cc
action_is_quiet (due.Trap kind) e = cc

pub action_is : (code : Code) (s : SetupView) (t : ℕ) (th : Thread) → action_at code s t th ≡ action_of (due_of code s t th)
unfolding action_at
action_is code s t th = refl

pub quiet_due_at : (code : Code) (s : SetupView) (t : ℕ) (th : Thread) → action_at code s t th ≡ action.Quiet → due_of code s t th ≡ due.Quiet
quiet_due_at code s t th e = action_is_quiet (due_of code s t th) (sym (action_is code s t th) ∙ e)

pub quiet_action_at : (code : Code) (s : SetupView) (t : ℕ) (th : Thread) → due_of code s t th ≡ due.Quiet → action_at code s t th ≡ action.Quiet
quiet_action_at code s t th e = action_is code s t th ∙ ap action_of e

-- the steps that are left are those of the thread before a quiet step
pub settled_taken : (code : Code) (s : SetupView) (t : ℕ) (th q : Thread) (answer : ℤ) → IsRunnable code → q ≡ stepped code s t th answer → action_at code s t th ≡ action.Quiet → settled code s t q ≡ settled code s t th
settled_taken code s t th q answer runnable e h = ap (settled code s t) e ∙ settled_step code s t runnable th answer (quiet_due_at code s t th h)

pub settled_end : (code : Code) (s : SetupView) (t : ℕ) (th : Thread) → (action_at code s t th ≡ action.Quiet → ⊥) → settled code s t th ≡ th
settled_end code s t th h = settled_none code s t th (λ e. h (quiet_action_at code s t th e))

pub weight_taken : (code : Code) (s : SetupView) (t : ℕ) (th q : Thread) (answer : ℤ) → IsRunnable code → q ≡ stepped code s t th answer → action_at code s t th ≡ action.Quiet → weight code s t q < weight code s t th
weight_taken code s t th q answer runnable e h =
    let falls = weight_falls code s t runnable th answer (quiet_due_at code s t th h) in
    let same = ap (weight code s t) e in
    omega arith

-- after all quiet steps the next one isn't quiet
pub settled_action : (code : Code) (s : SetupView) (t : ℕ) (th : Thread) → IsRunnable code → action_at code s t (settled code s t th) ≡ action.Quiet → ⊥
settled_action code s t th runnable e = settled_quiet code s t runnable th (quiet_due_at code s t (settled code s t th) e)
