-- Accesses of running threads, by the rows of their outermost frames.
use Rattle.std.proofs.Common.{◌≡◌, ℕ, true, List, length, reverse, Some, sym, subst}
use Rattle.std.specs.Prelude.{slice_get}
use Rattle.sync_objects.specs.Setup.{SetupView, IsWithinLimits}
use Rattle.flow_code.specs.declared.act.Instr.{Instr}
use Rattle.flow_code.specs.declared.code.Code.{Code}
use Rattle.flow_code.specs.declared.code.Function.{Function}
use Rattle.flow_code.specs.declared.thread.Phase.TheVariants.{Running}
use Rattle.flow_code.specs.Constants.{constants_fit}
use Rattle.flow_code.specs.Settle.{settled}
use Rattle.flow_code.specs.Threads.{Thread}
use Rattle.flow_code.specs.Valid.{is_valid}
use Rattle.core_run.specs.Histories.{IsReachable}
use Rattle.core_run.specs.Machine.{Told}
use Rattle.run_theory.specs.Steps.{State}
use Rattle.facts.specs.Accesses.{Access, access_of}
use Rattle.facts.specs.Locks.{Points}
use Rattle.facts.specs.Summaries.{AreSolution, AreSummaries, StandsAt}
use Rattle.facts.specs.declared.locks.Held.{Held}
use Rattle.facts.specs.declared.locks.Summary.{Summary}
use Rattle.lockset_sound.specs.Frames.{holds_at, ThreadStack, IsGuarded, IsListed}
use Rattle.lockset_sound.proofs.Climbing.{guarded}
use Rattle.lockset_sound.proofs.Corollaries.{listed}
use Rattle.lockset_sound.proofs.InRuns.{frames_settled}
use Rattle.lockset_sound.proofs.Running.{KnownThread}

pub guarded_at : (code : Code) (setup : SetupView) (tops : List (List Held)) (points : List Points) (state : State Told) (t : ℕ) (told : Told) (th : Thread) (f : Function) (i : Instr) (a : Access) → is_valid code ≡ true → constants_fit code ≡ true → IsWithinLimits setup → AreSolution code tops points → length tops ≡ length code.functions → IsReachable code setup state → slice_get state.threads t ≡ Some told → told.thread.phase ≡ Running → th ≡ settled code setup t told.thread → StandsAt code th.top.function th.top.instr f i → access_of i.act ≡ Some a → IsGuarded code setup.slots points (holds_at code setup t state) th.top (reverse th.below) a.store
guarded_at code setup tops points state t told th f i a valid constants limits solves long reached at running is stands accesses =
    let frames = frames_settled code valid constants setup limits tops points solves long state t told reached at running in
    guarded code setup.slots tops points solves long (holds_at code setup t state) th.top (reverse th.below) f i a
    (subst (λ z. ThreadStack code setup.slots points (holds_at code setup t state) z) (sym is) frames.stack)
    (subst (λ z. KnownThread code setup.slots z) (sym is) frames.known).1
    stands accesses

pub listed_at : (code : Code) (setup : SetupView) (summaries : List Summary) (state : State Told) (t : ℕ) (told : Told) (th : Thread) (f : Function) (i : Instr) (a : Access) → is_valid code ≡ true → constants_fit code ≡ true → IsWithinLimits setup → AreSummaries code summaries → IsReachable code setup state → slice_get state.threads t ≡ Some told → told.thread.phase ≡ Running → th ≡ settled code setup t told.thread → StandsAt code th.top.function th.top.instr f i → access_of i.act ≡ Some a → IsListed code setup.slots summaries (holds_at code setup t state) th.top (reverse th.below) a.store
listed_at code setup summaries state t told th f i a valid constants limits sums reached at running is stands accesses =
    listed code summaries sums setup.slots (holds_at code setup t state) th.top (reverse th.below) a.store
    (guarded_at code setup sums.tops sums.points state t told th f i a valid constants limits sums.greatest.solves sums.known.0 reached at running is stands accesses)
