-- Drafts of which a snapshot can be made.
use Rattle.std.specs.Prelude.{◌≡◌, ℕ, ◌+◌, ◌<◌, ◌≤◌, ◌^◌, List, [], ◌∷◌, length}
use Rattle.snapshots.specs.declared.draft.DraftThread.{DraftThread}
use Rattle.snapshots.specs.declared.draft.HeadPhase.{HeadPhase}
use Rattle.snapshots.specs.declared.draft.HeadPhase.TheVariants as phase

-- a trap has a number, and its line 32 bits
abbrev pub IsPhase : HeadPhase → Type 0
IsPhase phase.Fresh = Unit {0}
IsPhase (phase.Begun f) = Unit {0}
IsPhase phase.Running = Unit {0}
IsPhase phase.Ended = Unit {0}
IsPhase (phase.Trapped kind line) = (1 ≤ kind) × (kind ≤ 18) × (line < 2 ^ 32)

-- its first line says which thread it is and how many lines there are
pub record CanBe (t : ℕ) (d : DraftThread) : Type 0 where
  pub number : d.head.number ≡ t
  pub frames : d.head.frames ≡ length d.frames
  pub stripes : d.head.stripes ≡ length d.stripes
  pub regions : d.head.regions ≡ length d.regions
  pub phase : IsPhase d.head.phase

-- so of all threads from t on
abbrev pub AllCanBe : ℕ → List DraftThread → Type 0
AllCanBe t [] = Unit {0}
AllCanBe t (d ∷ ds) = CanBe t d × AllCanBe (t + 1) ds
