-- Quiet steps that a thread makes by its code alone.
use Rattle.std.specs.Prelude.{◌≡◌, ℕ, ◌≤◌, Bool, true, false, pos}
use Rattle.sync_objects.specs.Setup.{SetupView}
use Rattle.flow_code.specs.declared.code.Code.{Code}
use Rattle.word_semantics.specs.declared.event.Due.TheVariants as due
use Rattle.flow_code.specs.Threads.{Thread}
use Rattle.flow_code.specs.Next.{phase_due, phase_after}
use Rattle.flow_code.specs.Settle.{IsRunnable, weight, settled}
use Rattle.thread_interpreter.specs.Flows.{IsSoundFlow}

-- where b is true, a quiet step was made by the code, and else none
pub record StepsIf (b : Bool) (code : Code) (s : SetupView) (th q : Thread) : Type 0 where
  pub quiet : b ≡ true → (t : ℕ) → phase_due code s t th th.phase ≡ due.Quiet
  pub thread : b ≡ true → (t : ℕ) → q ≡ phase_after code s t th th.phase (pos 0)
  pub same : b ≡ false → q ≡ th

-- q is th after some of its quiet steps: it stays sound, comes to the same by all of them, and has no more of them left
pub record Passes (code : Code) (s : SetupView) (th q : Thread) : Type 0 where
  pub sound : (t : ℕ) → IsSoundFlow code s t th → IsSoundFlow code s t q
  pub same : IsRunnable code → (t : ℕ) → settled code s t q ≡ settled code s t th
  pub falls : IsRunnable code → (t : ℕ) → weight code s t q ≤ weight code s t th
