-- The machine's step of a thread whose next is an operation.
use Rattle.std.proofs.Common.{◌≡◌, ℕ, ℤ, true, if◌then◌else◌, ap, ◌∙◌}
use Rattle.sync_objects.specs.Setup.{SetupView}
use Rattle.sync_objects.specs.Advance.{advanced, Advances}
use Rattle.sync_objects.specs.Names.{name_of}
use Rattle.sync_objects.specs.declared.object.ObjId.{ObjId}
use Rattle.sync_objects.specs.declared.operation.Op.{Op}
use Rattle.word_semantics.specs.declared.event.Action.TheVariants as action
use Rattle.flow_code.specs.declared.code.Code.{Code}
use Rattle.flow_code.specs.Next.{action_at, stepped}
use Rattle.flow_code.specs.Settle.{settled}
use Rattle.core_run.specs.Machine.{Told, entry_of, action_effect, change_of}
use Rattle.thread_interpreter.specs.Pieces.{piece_next}
use Rattle.core_run.specs.Words.{has_object}
use Rattle.core_run.proofs.Lawful.{effect_go}
use Rattle.run_theory.specs.Steps.{Change, Operates, Refused}
use Rattle.thread_step.specs.Steps.{IsMachinesStep}

module _ (code : Code) (s : SetupView) (t : ℕ) (told : Told) (o : Op) (obj : ObjId) where
  abbrev change : ℕ → Change Told
  change w = change_of told (entry_of t told.thread (name_of o) obj) (piece_next code told.thread o) (λ answer. stepped code s t told.thread answer) w (advanced o t w)

  pub operation_step : (old new : ℕ) (answer : ℤ) → settled code s t told.thread ≡ told.thread → action_at code s t told.thread ≡ action.Operate o obj → has_object code s obj ≡ true → advanced o t old ≡ Advances new answer → IsMachinesStep code s t told o obj old new answer
  operation_step old new answer quiet next has moves = record {
    change = change;
    effect = effect_go code s t told
        ∙ ap (λ th. action_effect code s t told th (action_at code s t th)) quiet
        ∙ ap (action_effect code s t told told.thread) next
        ∙ ap (λ b. if b then Operates (entry_of t told.thread (name_of o) obj) change else Refused) has;
    leaves = ap (change_of told (entry_of t told.thread (name_of o) obj) (piece_next code told.thread o) (λ a. stepped code s t told.thread a) old) moves;
  }
