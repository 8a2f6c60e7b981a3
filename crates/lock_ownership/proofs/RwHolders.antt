-- The word of a read-write lock tells who holds it, and in which way, as the law of order by a lock asks.
use Rattle.std.proofs.Common.{◌≡◌, ℕ, ◌||◌, inl, inr, Bool, true, false, Some, refl, sym, ap, subst, ◌∙◌}
use Rattle.std.proofs.lemmas.Bool.{true≢false}
use Rattle.sync_objects.specs.Modes.{covers}
use Rattle.sync_objects.specs.Setup.{SetupView, IsWithinLimits}
use Rattle.sync_objects.specs.States.{reads, writes}
use Rattle.sync_objects.specs.declared.mode.Mode.{Mode}
use Rattle.sync_objects.specs.declared.mode.Mode.TheVariants.{Read, Write}
use Rattle.sync_objects.specs.declared.object.ObjId.{ObjId}
use Rattle.sync_objects.specs.declared.object.ObjId.TheVariants as object
use Rattle.sync_objects.specs.declared.operation.OpName.TheVariants as name
use Rattle.flow_code.specs.declared.code.Code.{Code}
use Rattle.flow_code.specs.Settle.{IsRunnable}
use Rattle.core_run.specs.Histories.{IsReachable}
use Rattle.core_run.specs.Machine.{Told, machine, start_state}
use Rattle.core_run.specs.Words.{has_object}
use Rattle.run_theory.specs.Labels.{Label, label_thread}
use Rattle.run_theory.specs.Ordered.{Did, IsRelease, by_write_unlock, by_read_unlock, IsAcquire, by_write_lock, by_read_lock, Releases, Acquires, IsHeldBy}
use Rattle.run_theory.specs.Steps.{State, stepped}
use Rattle.lock_ownership.specs.Holders.{word_of_object, shared, holds_as, holds_lock}
use Rattle.lock_ownership.proofs.ObjectSteps.{ObjectStep, object_step}
use Rattle.lock_ownership.proofs.RwMoves.{rw_in, one_holds_rw, lets_go_by, Gets, to_read, to_write, gets_by}
use Rattle.lock_ownership.proofs.RwStates.{rw_moves, exclusive_at}
use Rattle.lock_ownership.proofs.Stepping.{has_stepped}

module _ (code : Code) (s : SetupView) (run : IsRunnable code) (limits : IsWithinLimits s) (cell : ℕ) (has : has_object code s (object.Rw cell) ≡ true) where
  abbrev lock : ObjId
  lock = object.Rw cell

  -- the mode in which the holder lets it go is enough
  record Ending (held : Mode) (t : ℕ) (st : State Told) : Type 0 where
    mode : Mode
    enough : covers mode held ≡ true
    is_release : IsRelease lock mode name.RwUnlock t (word_of_object code s lock st)

  ending : (held : Mode) (t : ℕ) (st : State Told) → holds_as held t (shared code s lock st) ≡ true → Ending held t st
  ending Write t st h = record { mode = Write; enough = refl; is_release = by_write_unlock cell t (word_of_object code s lock st) h }
  ending Read t st h = by (reads t (shared code s lock st)) refl h
    where
      by : (b : Bool) → reads t (shared code s lock st) ≡ b → (b || writes t (shared code s lock st)) ≡ true → Ending Read t st
      by true e g = record { mode = Read; enough = refl; is_release = by_read_unlock cell t (word_of_object code s lock st) e }
      by false e g = record { mode = Write; enough = refl; is_release = by_write_unlock cell t (word_of_object code s lock st) g }

  stepping : (st st1 : State Told) (l : Label) → IsReachable code s st → stepped (machine code s) st l ≡ Some st1 → ObjectStep code s lock st l st1
  stepping st st1 l reached e = object_step code s lock run limits has st st1 l reached (has_stepped code s st st1 l e)

  module _ (held : Mode) (st st1 : State Told) (l : Label) (t : ℕ) where
    releases_at : holds_lock code s lock held t st ≡ true → holds_lock code s lock held t st1 ≡ false → ObjectStep code s lock st l st1 → Releases (machine code s) lock held t st l
    releases_at was isnt (inl a) = absurd (true≢false (sym was ∙ sym (ap (λ w. holds_as held t (rw_in w)) a.same) ∙ isnt))
    releases_at was isnt (inr x) =
        let g = lets_go_by x.noted.entry.op (label_thread l) x.answer (shared code s lock st) (shared code s lock st1) held t (rw_moves code s cell st st1 l x) was isnt in
        let e = ending held t st was in
        record {
          operation = x.noted;
          before = word_of_object code s lock st;
          answer = x.answer;
          happens = x.happens ∙ ap (λ u. Some (Did u x.noted (word_of_object code s lock st) x.answer)) (sym g.own);
          on_lock = x.on;
          mode = e.mode;
          enough = e.enough;
          is_release = subst (λ n. IsRelease lock e.mode n t (word_of_object code s lock st)) (sym g.name) e.is_release;
        }

    acquires_at : IsReachable code s st → holds_lock code s lock held t st ≡ false → holds_lock code s lock held t st1 ≡ true → ObjectStep code s lock st l st1 → Acquires (machine code s) lock held t st l
    acquires_at reached wasnt now (inl a) = absurd (true≢false (sym now ∙ ap (λ w. holds_as held t (rw_in w)) a.same ∙ wasnt))
    acquires_at reached wasnt now (inr x) =
        by (gets_by x.noted.entry.op (label_thread l) x.answer (shared code s lock st) (shared code s lock st1) held t (rw_moves code s cell st st1 l x) (exclusive_at code s run limits cell has st reached) wasnt now)
      where
        found : (mode : Mode) → t ≡ label_thread l → covers mode held ≡ true → IsAcquire lock mode x.noted.entry.op x.answer → Acquires (machine code s) lock held t st l
        found mode own enough is = record {
          operation = x.noted;
          before = word_of_object code s lock st;
          answer = x.answer;
          happens = x.happens ∙ ap (λ u. Some (Did u x.noted (word_of_object code s lock st) x.answer)) (sym own);
          on_lock = x.on;
          mode = mode;
          enough = enough;
          is_acquire = is;
        }

        by : Gets x.noted.entry.op (label_thread l) x.answer held t → Acquires (machine code s) lock held t st l
        by (to_read own op zero_is reading) =
            found Read own (ap (covers Read) reading) (subst (λ n. IsAcquire lock Read n x.answer) (sym op) (subst (IsAcquire lock Read name.RdLock) (sym zero_is) (by_read_lock cell)))
        by (to_write own op zero_is) =
            found Write own refl (subst (λ n. IsAcquire lock Write n x.answer) (sym op) (subst (IsAcquire lock Write name.WrLock) (sym zero_is) (by_write_lock cell)))

  pub held_as_shown : IsHeldBy (machine code s) lock (holds_lock code s lock) (start_state code s)
  held_as_shown = record {
    known = has;
    one = λ a b st t u reached apart f g. one_holds_rw a b t u (shared code s lock st) (exclusive_at code s run limits cell has st reached) apart f g;
    released = λ held st st1 l t reached e was isnt. releases_at held st st1 l t was isnt (stepping st st1 l reached e);
    acquired = λ held st st1 l t reached e wasnt now. acquires_at held st st1 l t reached wasnt now (stepping st st1 l reached e);
  }
