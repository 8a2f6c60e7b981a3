-- A thread that follows a run comes to the run's next event by its quiet steps, where no code has stripes.
use Rattle.std.proofs.Common.{◌≡◌, ℕ, ◌⊎◌, inl, inr, List, refl, sym, ap, subst, ◌∙◌, ℤ, pos, append-nil}
use Rattle.sync_objects.specs.Setup.{SetupView}
use Rattle.sync_objects.specs.declared.operation.Op.TheVariants as op
use Rattle.rr_base.specs.declared.trap.Trap.TheVariants as trap
use Rattle.flow_code.specs.declared.code.Code.{Code}
use Rattle.word_semantics.specs.declared.event.Due.TheVariants as due
use Rattle.word_semantics.specs.declared.event.Action.{Action}
use Rattle.word_semantics.specs.declared.event.Action.TheVariants as action
use Rattle.flow_code.specs.Threads.{Thread}
use Rattle.flow_code.specs.Next.{act_at, due_of, action_at, stepped}
use Rattle.flow_code.specs.Settle.{settled, IsRunnable}
use Rattle.flow_code.proofs.Settle.{settled_step, settled_none, quiet_action_at}
use Rattle.core_tree.specs.Runs.{Run, does, traps, ends}
use Rattle.lower_sound.specs.Follows.{Comes, here, quietly, IsFull, Prints, Follows}
use Rattle.thread_interpreter.specs.Pieces.{piece_at}
use Rattle.lowering_simulation.specs.RunEvents.{printed_at}
use Rattle.lowering_simulation.specs.SourceRuns.{IsBeforeEntry}
use Rattle.lowering_simulation.proofs.Makings.{IsAt, event, full}
use Rattle.lowering_simulation.proofs.Proper.{IsEvent, HasEvents}

-- what a thread's action prints by the code, it prints by the machine
pub printed_so : (code : Code) (n : Thread) (a : Action) (out : List ℕ) → Prints code n a out → printed_at code n a ≡ out
printed_so code n (action.Operate op.Print obj) out (runs, c, arguments, into, stands, is) = append-nil (piece_at (act_at code n.top) n.top.registers) ∙ ap (λ o. piece_at o n.top.registers) stands ∙ sym is
printed_so code n (action.Operate o obj) out h = sym h
printed_so code n (action.Load c) out h = sym h
printed_so code n (action.Store c v) out h = sym h
printed_so code n action.Mark out h = sym h
printed_so code n action.Quiet out h = sym h
printed_so code n action.Ended out h = sym h

module _ (code : Code) (s : SetupView) (runnable : IsRunnable code) where
  -- the thread has this run before it
  abbrev pub MakesRun : ℕ → Run → Thread → Type 0
  MakesRun t r th = HasEvents r × Follows code s t r th

  abbrev Arrived : ℕ → Run → Thread → Type 0
  Arrived t r n = IsAt code s IsBeforeEntry MakesRun t n r

  module _ (t : ℕ) where
    comes_settled : (m n : Thread) → Comes code s t m n → settled code s t m ≡ settled code s t n
    comes_settled m n here = refl
    comes_settled m n (quietly e c) = sym (settled_step code s t runnable m (pos 0) e) ∙ comes_settled (stepped code s t m (pos 0)) n c

    comes_to : (m n : Thread) → Comes code s t m n → (due_of code s t n ≡ due.Quiet → ⊥) → n ≡ settled code s t m
    comes_to m n c loud = sym (comes_settled m n c ∙ settled_none code s t n loud)

    no_quiet_event : (n : Thread) (a : Action) → IsEvent a → action_at code s t n ≡ a → due_of code s t n ≡ due.Quiet → ⊥
    no_quiet_event n a e at q = subst IsEvent (sym at ∙ quiet_action_at code s t n q) e

    at_does : (a : Action) (out : List ℕ) (more : ℤ → Run) (m n : Thread) → Comes code s t m n → HasEvents (does a out more) → IsFull code s t n a ⊎ ((action_at code s t n ≡ a) × Prints code n a out × ((z : ℤ) → Follows code s t (more z) (stepped code s t n z))) → Arrived t (does a out more) (settled code s t m)
    at_does a out more m n c h (inl fills) = subst (Arrived t (does a out more)) (comes_to m n c (λ q. let both : due.Quiet ≡ due.Trap trap.LogFull = sym q ∙ fills.traps in cc)) (full fills.entry fills.traps)
    at_does a out more m n c h (inr (at, prints, goes)) = subst (Arrived t (does a out more)) (comes_to m n c (no_quiet_event n a h.0 at)) (event (h.0, at, printed_so code n a out prints, λ z. (h.1 z, goes z)))

    pub arrives_at : (r : Run) (th : Thread) → MakesRun t r th → Arrived t r (settled code s t th)
    arrives_at (does a out more) m (h, f) = at_does a out more m f.0 f.1 h f.2
    arrives_at (traps kind line) m (h, f) = subst (Arrived t (traps kind line)) (comes_to m f.0 f.1 (λ q. let both : due.Quiet ≡ due.Trap kind = sym q ∙ f.2 in cc)) (event (f.2, f.3))
    arrives_at ends m (h, f) = subst (Arrived t ends) (comes_to m f.0 f.1 (λ q. let both : due.Quiet ≡ due.Nothing = sym q ∙ f.2 in cc)) (event f.2)
