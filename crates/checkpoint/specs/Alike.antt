-- When walks from two states come to the same: they print the same, allow the same entries, and end in the same way.
use Rattle.std.specs.Prelude.{◌≡◌, ◌↔◌, ℕ, List, Option, Some, None}
use Rattle.sync_objects.specs.Setup.{SetupView}
use Rattle.sync_objects.specs.declared.entry.Entry.{Entry}
use Rattle.flow_code.specs.declared.code.Code.{Code}
use Rattle.core_run.specs.Histories.{HaveEnded}
use Rattle.core_run.specs.Machine.{Told}
use Rattle.core_run.specs.Walks.{walk_of, out_of, first_trap}
use Rattle.run_theory.specs.Steps.{State}

module _ (code : Code) (s : SetupView) where
  -- in both states all threads have ended or in neither, and the lowest thread that has trapped is the same, by the same trap
  pub record EndAlike (a b : State Told) : Type 0 where
    pub ended : HaveEnded code s a ↔ HaveEnded code s b
    pub trap : first_trap 0 a.threads ≡ first_trap 0 b.threads

  -- two walks are allowed or both are not, and end alike
  abbrev pub BothEndAlike : Option (State Told) → Option (State Told) → Type 0
  BothEndAlike None None = Unit {0}
  BothEndAlike None (Some b) = ⊥
  BothEndAlike (Some a) None = ⊥
  BothEndAlike (Some a) (Some b) = EndAlike a b

  -- the walks of the entries from the two states come to the same
  pub record WalkAlike (es : List Entry) (a b : State Told) : Type 0 where
    pub out : out_of code s es a ≡ out_of code s es b
    pub ends : BothEndAlike (walk_of code s es a) (walk_of code s es b)
