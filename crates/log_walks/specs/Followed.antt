-- Threads that have followed a log of weakened code side by side, as far as a position: what each of them has come to.
use Rattle.std.specs.Prelude.{◌≡◌, ℕ, ◌+◌, if◌then◌else◌, List, Some, slice_get, take}
use Rattle.sync_objects.specs.Names.{is_weak}
use Rattle.sync_objects.specs.Setup.{SetupView}
use Rattle.sync_objects.specs.declared.entry.Entry.{Entry}
use Rattle.flow_code.specs.declared.code.Code.{Code}
use Rattle.core_run.specs.Histories.{run_of}
use Rattle.core_run.specs.Machine.{Told, machine}
use Rattle.run_theory.specs.Labels.{Label}
use Rattle.run_theory.specs.Paths.{IsPrefixOf}
use Rattle.run_theory.specs.Steps.{State, entries_of}
use Rattle.replay_theory.specs.Numbered.{numbered, with_number}
use Rattle.replay_theory.specs.Following.{Departs}

-- the count that an operation leaves to its thread: those on stripes are no events of the program
abbrev pub floor : Entry → ℕ
floor e = if is_weak e.op then e.count else e.count + 1

-- a thread has made a front part of its entries of the log, at least those before the position
pub record ComesTo (es : List Entry) (departure t : ℕ) (told : Told) : Type 0 where
  pub follows : IsPrefixOf told.entries (entries_of t (numbered es))
  pub reached : IsPrefixOf (entries_of t (numbered (take departure es))) told.entries

module _ (code : Code) (s : SetupView) (es : List Entry) (departure : ℕ) where
  -- it has come to the position; where the entry there is its own, it has made no more and departs from it
  pub record StandsBy (words : List ℕ) (t : ℕ) (told : Told) : Type 0 where
    pub comes : ComesTo es departure t told
    pub departs : (e : Entry) → slice_get es departure ≡ Some e → e.thread ≡ t →
        (told.entries ≡ entries_of t (numbered (take departure es)))
        × Departs (machine code s) floor (entries_of t (numbered (take departure es))) words told (with_number (numbered (take departure es)) e)

  -- a run has led to this state, in which all threads have come to the position
  pub record HaveCome (end : State Told) : Type 0 where
    pub labels : List Label
    pub ran : run_of code s labels ≡ Some end
    pub threads : (t : ℕ) (told : Told) → slice_get end.threads t ≡ Some told → ComesTo es departure t told

  -- and in which each of them stands so by the log
  pub record Followed (end : State Told) : Type 0 where
    pub labels : List Label
    pub ran : run_of code s labels ≡ Some end
    pub threads : (t : ℕ) (told : Told) → slice_get end.threads t ≡ Some told → StandsBy end.words t told
