-- Worked rows of the numbers that a checkpoint in memory keeps, and of the states that a checkpoint can keep.
use Rattle.std.proofs.Common.{◌≡◌, ℕ, zero, suc, false, [], ◌∷◌, Some, refl, subst, arith}
use Rattle.std.specs.Prelude.{slice_get}
use Rattle.std.proofs.lemmas.Bool.{true≢false}
use Rattle.std.proofs.lemmas.Option.{same_Some}
use Rattle.rr_base.specs.declared.trap.Trap.TheVariants as trap
use Rattle.flow_code.specs.declared.thread.Phase.TheVariants as phase
use Rattle.thread_interpreter.specs.Parts.{frames_in, is_loaded, AreWords}
use Rattle.thread_interpreter.specs.Starts.{no_frame}
use Rattle.thread_interpreter.specs.declared.part.PhasePart.TheVariants as part
use Rattle.thread_interpreter.specs.declared.part.ThreadPart.{ThreadPart}
use Rattle.core_run.specs.Machine.{Told}
use Rattle.snapshot_reached.specs.Stored.{CanBeKept, IsStored, IsStoredThread}

-- a thread with the greatest word in a register
running : ThreadPart
running = record { count = 1; arena = 8; entries = 0; revokes = 0; printed = 0; frames = record { function = 0; instr = 1; made = 0; kept = 0; registers = 18446744073709551615 ∷ [] } ∷ []; stripes = []; regions = []; phase = part.Running }

running_stored : IsStoredThread running
unfolding running
running_stored = record { registers = ((omega arith, tt), tt); line = λ kind line e. cc }

-- a thread that trapped in line 7
trapped : ThreadPart
trapped = record { count = 3; arena = 8; entries = 1; revokes = 0; printed = 0; frames = []; stripes = []; regions = []; phase = part.Trapped trap.Overflow 7 }

trapped_stored : IsStoredThread trapped
unfolding trapped
trapped_stored = record { registers = tt; line = λ kind line e. (let same : 7 ≡ line = cc in omega (arith, same)) }

-- both, beside a cell whose word is -1
both_stored : IsStored (record { at = 4; cells = (1040, 18446744073709551615) ∷ []; objects = []; threads = running ∷ trapped ∷ [] })
both_stored = record { words = (omega arith, tt); threads = (running_stored, (trapped_stored, tt)) }

-- no word has 65 bits
too_wide : IsStored (record { at = 0; cells = (1040, 18446744073709551616) ∷ []; objects = []; threads = [] }) → ⊥
too_wide h = let low = h.words.0 in absurd (omega (arith, low))

-- a thread that hasn't begun
fresh : Told
fresh = record { thread = record { count = 0; arena = 8; entries = 0; revokes = 0; printed = 0; phase = phase.Fresh; top = no_frame; below = []; stripes = []; regions = [] }; entries = []; accesses = []; pieces = [] }

it_alone : (t : ℕ) (told : Told) → slice_get (fresh ∷ []) t ≡ Some told → fresh ≡ told
it_alone zero told e = same_Some fresh told e
it_alone (suc t) told e = cc

fresh_kept : CanBeKept (record { words = []; threads = fresh ∷ [] })
unfolding fresh
fresh_kept = record {
  entered = λ t told e. subst (λ (z : Told). is_loaded z.thread.phase ≡ false) (it_alone t told e) refl;
  words = λ t told e. subst (λ (z : Told). AreWords (frames_in z.thread.phase z.thread)) (it_alone t told e) (record { each = λ k f g. cc });
}

-- a thread that has loaded its argument, and is to come into its function by its own steps
loaded : Told
loaded = record { thread = record { count = 2; arena = 8; entries = 1; revokes = 0; printed = 0; phase = phase.Loaded 0 5; top = no_frame; below = []; stripes = []; regions = [] }; entries = []; accesses = []; pieces = [] }

loaded_not : CanBeKept (record { words = []; threads = loaded ∷ [] }) → ⊥
unfolding loaded
loaded_not h = true≢false (h.entered 0 loaded refl)
