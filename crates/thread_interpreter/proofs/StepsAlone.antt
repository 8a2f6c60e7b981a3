-- A quiet step that the thread makes by its code alone: it is the machine's, so the thread stays sound, and fewer steps are left.
use Rattle.std.proofs.Common.{◌≡◌, ℕ, ◌<◌, ◌≤◌, Bool, true, false, refl, pos, subst, sym, ap, ◌∙◌, arith}
use Rattle.sync_objects.specs.Setup.{SetupView}
use Rattle.flow_code.specs.declared.code.Code.{Code}
use Rattle.word_semantics.specs.declared.event.Due.TheVariants as due
use Rattle.flow_code.specs.Threads.{Thread}
use Rattle.flow_code.specs.Settle.{IsRunnable, weight, settled}
use Rattle.flow_code.proofs.Dues.{quiet_due}
use Rattle.flow_code.proofs.Settle.{settled_taken, weight_taken, quiet_action_at}
use Rattle.thread_interpreter.specs.Flows.{IsSoundFlow}
use Rattle.thread_interpreter.specs.Passing.{Passes, StepsIf}
use Rattle.thread_interpreter.proofs.FlowFacts.{sound_next, next_is}

pub sound_if : (b : Bool) (code : Code) (s : SetupView) (t : ℕ) (th q : Thread) → IsSoundFlow code s t th → StepsIf b code s th q → IsSoundFlow code s t q
sound_if true code s t th q f h = sound_next code s t th q due.Quiet (pos 0) f (sym (quiet_due code s t th (h.quiet refl t))) (h.thread refl t)
sound_if false code s t th q f h = subst (IsSoundFlow code s t) (sym (h.same refl)) f

pub settled_if : (b : Bool) (code : Code) (s : SetupView) (t : ℕ) (th q : Thread) → IsRunnable code → StepsIf b code s th q → settled code s t q ≡ settled code s t th
settled_if true code s t th q r h =
    let e = quiet_due code s t th (h.quiet refl t) in
    settled_taken code s t th q (pos 0) r (next_is code s t th q due.Quiet (pos 0) (sym e) (h.thread refl t)) (quiet_action_at code s t th e)
settled_if false code s t th q r h = ap (settled code s t) (h.same refl)

pub weight_if : (b : Bool) (code : Code) (s : SetupView) (t : ℕ) (th q : Thread) → IsRunnable code → StepsIf b code s th q → b ≡ true → weight code s t q < weight code s t th
weight_if true code s t th q r h made =
    let e = quiet_due code s t th (h.quiet refl t) in
    weight_taken code s t th q (pos 0) r (next_is code s t th q due.Quiet (pos 0) (sym e) (h.thread refl t)) (quiet_action_at code s t th e)
weight_if false code s t th q r h made = cc

weight_after : (b : Bool) (code : Code) (s : SetupView) (t : ℕ) (th q : Thread) → IsRunnable code → StepsIf b code s th q → weight code s t q ≤ weight code s t th
weight_after true code s t th q r h = let falls = weight_if true code s t th q r h refl in omega arith
weight_after false code s t th q r h = let same = ap (weight code s t) (h.same refl) in omega arith

pub passes_none : (code : Code) (s : SetupView) (th : Thread) → Passes code s th th
passes_none code s th = record { sound = λ t f. f; same = λ r t. refl; falls = λ r t. omega arith }

-- one step more, if it was made
pub passes_on : (b : Bool) (code : Code) (s : SetupView) (th q z : Thread) → Passes code s th q → StepsIf b code s q z → Passes code s th z
passes_on b code s th q z p h = record {
  sound = λ t f. sound_if b code s t q z (p.sound t f) h;
  same = λ r t. settled_if b code s t q z r h ∙ p.same r t;
  falls = λ r t. let one = weight_after b code s t q z r h in let rest = p.falls r t in omega arith;
}
