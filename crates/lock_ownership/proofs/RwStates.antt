-- In each state that is reached who holds a read-write lock for writing has no reader beside it.
use Rattle.std.proofs.Common.{◌≡◌, ℕ, true, inl, inr, [], refl, sym, ap, subst, ◌∙◌}
use Rattle.sync_objects.specs.Setup.{SetupView, IsWithinLimits}
use Rattle.sync_objects.specs.Start.{start_word}
use Rattle.sync_objects.specs.States.{Shared, Free}
use Rattle.sync_objects.specs.Words.{word_of}
use Rattle.sync_objects.specs.declared.object.ObjId.{ObjId}
use Rattle.sync_objects.specs.declared.object.ObjId.TheVariants as object
use Rattle.sync_objects.proofs.Starts.{starts-Rw}
use Rattle.std.proofs.lemmas.Option.{get_or_from_slice_get}
use Rattle.flow_code.specs.declared.code.Code.{Code}
use Rattle.flow_code.specs.Settle.{IsRunnable}
use Rattle.core_run.specs.Histories.{IsReachable}
use Rattle.core_run.specs.Machine.{Told, machine, start_state}
use Rattle.core_run.specs.Words.{cells_of, has_object, place_of, start_words}
use Rattle.core_run.proofs.Beginnings.{start_word_at}
use Rattle.run_theory.specs.Labels.{Label, label_thread}
use Rattle.run_theory.specs.Steps.{State}
use Rattle.run_theory.proofs.Kept.{kept_along, reaches_step}
use Rattle.lock_ownership.specs.Holders.{word_of_object, shared, IsExclusive}
use Rattle.lock_ownership.proofs.ObjectSteps.{OperatesOn, ObjectStep, object_step}
use Rattle.lock_ownership.proofs.RwMoves.{rw_in, RwMove, rw_move, exclusive_after}
use Rattle.lock_ownership.proofs.Stepping.{has_stepped}

module _ (code : Code) (s : SetupView) (cell : ℕ) where
  abbrev this : ObjId
  this = object.Rw cell

  -- what an operation on the lock does to its state
  pub rw_moves : (st st1 : State Told) (l : Label) → (x : OperatesOn code s this st l st1) → RwMove x.noted.entry.op (label_thread l) x.answer (shared code s this st) (shared code s this st1)
  rw_moves st st1 l x =
      subst (λ n. RwMove n (label_thread l) x.answer (shared code s this st) (shared code s this st1)) (sym x.named)
      (rw_move x.operation (label_thread l) x.answer (word_of_object code s this st) (word_of_object code s this st1) x.fits x.row)

module _ (code : Code) (s : SetupView) (run : IsRunnable code) (limits : IsWithinLimits s) (cell : ℕ) (has : has_object code s (object.Rw cell) ≡ true) where
  abbrev lock : ObjId
  lock = object.Rw cell

  -- at the start nobody holds it
  start_unheld : shared code s lock (start_state code s) ≡ Shared 0 Free
  start_unheld =
      ap rw_in (get_or_from_slice_get (start_words code s) (place_of (cells_of code s) lock) (start_word lock) 0 (start_word_at code s lock limits has) ∙ ap (word_of 0) (starts-Rw cell))

  after : (st st1 : State Told) (l : Label) → ObjectStep code s lock st l st1 → IsExclusive (shared code s lock st) → IsExclusive (shared code s lock st1)
  after st st1 l (inl a) h = subst (λ w. IsExclusive (rw_in w)) (sym a.same) h
  after st st1 l (inr x) h = exclusive_after x.noted.entry.op (label_thread l) x.answer (shared code s lock st) (shared code s lock st1) (rw_moves code s cell st st1 l x) h

  record Held (st : State Told) : Type 0 where
    reached : IsReachable code s st
    exclusive : IsExclusive (shared code s lock st)

  pub exclusive_at : (st : State Told) → IsReachable code s st → IsExclusive (shared code s lock st)
  exclusive_at st reached =
      (kept_along (machine code s) Held
      (λ a b l h e. record {
        reached = reaches_step (machine code s) (start_state code s) a b l h.reached e;
        exclusive = after a b l (object_step code s lock run limits has a b l h.reached (has_stepped code s a b l e)) h.exclusive;
      })
      reached.0 (start_state code s) st reached.1 (record { reached = ([], refl); exclusive = subst IsExclusive (sym start_unheld) tt })).exclusive
