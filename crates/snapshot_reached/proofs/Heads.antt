-- The first line of each thread of a reached state is as it must be.
use Rattle.std.proofs.Common.{◌≡◌, ℕ, zero, suc, ◌+◌, ◌^◌, ◌<◌, ◌≤◌, true, false, [], ◌∷◌, ◌++◌, length, map, Some, refl, arith, nat_le, nat_lt}
use Rattle.std.specs.Prelude.{◌&&◌, ◌==◌, slice_get}
use Rattle.std.proofs.lemmas.Bool.{le-leb, lt-ltb, eq-eqb}
use Rattle.std.proofs.lemmas.List.{length-map, length-append}
use Rattle.rr_base.specs.Traps.{trap_number}
use Rattle.rr_base.specs.declared.trap.Trap.{Trap}
use Rattle.rr_base.specs.declared.trap.Trap.TheVariants as trap
use Rattle.sync_objects.specs.Setup.{SetupView, IsWithinLimits}
use Rattle.word_semantics.specs.Library.{most_printed}
use Rattle.word_semantics.specs.Limits.{most_entries, most_frames, most_revokes}
use Rattle.flow_code.specs.declared.code.Code.{Code}
use Rattle.flow_code.specs.declared.thread.Phase.{Phase}
use Rattle.flow_code.specs.declared.thread.Phase.TheVariants as phase
use Rattle.flow_code.specs.Ranges.{InRange, IsCounted, within, leaving, over}
use Rattle.flow_code.specs.Threads.{Thread, arena_start, arena_end}
use Rattle.flow_code.specs.Valid.{is_valid}
use Rattle.flow_code.proofs.Runnable.{valid_runnable}
use Rattle.thread_interpreter.specs.Flows.{most_extra}
use Rattle.thread_interpreter.specs.Parts.{frame_part, is_loaded, part_of}
use Rattle.core_run.specs.Histories.{IsReachable}
use Rattle.core_run.specs.Machine.{Told}
use Rattle.core_run.proofs.Reached.{kept}
use Rattle.run_theory.specs.Steps.{State}
use Rattle.lockset_sound.proofs.RootsInRuns.{roots_hold}
use Rattle.frame_sound.proofs.Roots.{root_begins}
use Rattle.snapshots.specs.Conditions.{begins, phase_fits, head_fits}
use Rattle.snapshots.specs.Text.{head_of}
use Rattle.snapshot_reached.proofs.Cells.{both}
use Rattle.snapshot_reached.proofs.Arenas.{arena_from}

-- ---- numbers

numbered : (k : Trap) → (1 ≤ trap_number k) × (trap_number k ≤ 18)
numbered trap.DivideByZero = (omega arith, omega arith)
numbered trap.Overflow = (omega arith, omega arith)
numbered trap.ShiftRange = (omega arith, omega arith)
numbered trap.BadDereference = (omega arith, omega arith)
numbered trap.OutOfObject = (omega arith, omega arith)
numbered trap.BadKind = (omega arith, omega arith)
numbered trap.BadSize = (omega arith, omega arith)
numbered trap.ArenaFull = (omega arith, omega arith)
numbered trap.MutexMisuse = (omega arith, omega arith)
numbered trap.BarrierMisuse = (omega arith, omega arith)
numbered trap.BadThread = (omega arith, omega arith)
numbered trap.Limit = (omega arith, omega arith)
numbered trap.CastRange = (omega arith, omega arith)
numbered trap.PointerToNumber = (omega arith, omega arith)
numbered trap.CompareObjects = (omega arith, omega arith)
numbered trap.Depth = (omega arith, omega arith)
numbered trap.LogFull = (omega arith, omega arith)
numbered trap.RwMisuse = (omega arith, omega arith)

module _ (code : Code) (s : SetupView) (t : ℕ) where
  few_events : (th : Thread) → IsCounted code s 0 t th → th.count ≤ s.limit + most_extra
  few_events th (within h) = omega (arith, h)
  few_events th (leaving h e) = omega (arith, h)
  few_events th (over h e) = omega (arith, h)

  running_frames : (th : Thread) → length (map frame_part (th.below ++ th.top ∷ [])) ≡ length th.below + 1
  running_frames th = omega (arith, length-map (th.below ++ th.top ∷ []) frame_part, length-append th.below (th.top ∷ []))

  -- a line of the source has a number of 32 bits
  pub record HasLine (p : Phase) : Type 0 where
    pub small : (k : Trap) (line : ℕ) → p ≡ phase.Trapped k line → line < 2 ^ 32

  phases : (th : Thread) (p : Phase) → th.phase ≡ p → is_loaded p ≡ false → HasLine p → InRange code s 0 t th → (p ≡ phase.Fresh → 1 ≤ t) → ((f : ℕ) → p ≡ phase.Begun f → begins code t f ≡ true)
      → phase_fits code t (head_of t (part_of (record th { phase = p }))) (head_of t (part_of (record th { phase = p }))).phase ≡ true
  phases th phase.Fresh e n line r fresh begun = both (nat_le 1 t) true (le-leb 1 t (fresh refl)) refl
  phases th (phase.Begun f) e n line r fresh begun = both (begins code t f) true (begun f refl) refl
  phases th (phase.Loaded f w) e n line r fresh begun = cc
  phases th phase.Running e n line r fresh begun =
      let long = running_frames th in
      let few = r.few_frames in
      both (nat_le 1 (length (map frame_part (th.below ++ th.top ∷ [])))) (nat_le (length (map frame_part (th.below ++ th.top ∷ []))) most_frames)
      (le-leb 1 (length (map frame_part (th.below ++ th.top ∷ []))) (omega (arith, long)))
      (le-leb (length (map frame_part (th.below ++ th.top ∷ []))) most_frames (omega (arith, long, few)))
  phases th phase.Ended e n line r fresh begun = refl
  phases th phase.Halted e n line r fresh begun = refl
  phases th (phase.Trapped k l) e n line r fresh begun =
      let m = numbered k in
      both (nat_le 1 (trap_number k)) (nat_le (trap_number k) 18 && (nat_lt l (2 ^ 32) && true)) (le-leb 1 (trap_number k) m.0)
      (both (nat_le (trap_number k) 18) (nat_lt l (2 ^ 32) && true) (le-leb (trap_number k) 18 m.1) (both (nat_lt l (2 ^ 32)) true (lt-ltb l (2 ^ 32) (line.small k l refl)) refl))
  phases th phase.Stopped e n line r fresh begun = refl
  phases th phase.Closed e n line r fresh begun = refl

module _ (code : Code) (valid : is_valid code ≡ true) (s : SetupView) (limits : IsWithinLimits s) (st : State Told) (reached : IsReachable code s st) where
  -- a thread that stands anywhere but between the load of its argument and its function
  pub heads_fit : (t : ℕ) (told : Told) → slice_get st.threads t ≡ Some told → is_loaded told.thread.phase ≡ false → HasLine code s t told.thread.phase → head_fits code s t (head_of t (part_of told.thread)) ≡ true
  heads_fit t told at n line =
      let th = told.thread in
      let h = head_of t (part_of th) in
      let r = (kept code s (valid_runnable code valid) limits st reached).in_range.each t told at in
      let root = (roots_hold code valid s limits st reached).threads t told at in
      let fits = phases code s t th th.phase refl n line r (λ e. (let ne = root.fresh e in above t ne)) (λ f e. root_begins code valid t f (root.begun f e)) in
      both (t == t) _ (eq-eqb t t refl)
      (both (nat_le th.count (s.limit + most_extra)) _ (le-leb th.count (s.limit + most_extra) (few_events code s t th r.counted))
      (both (nat_le (arena_start code s t) th.arena) _ (le-leb (arena_start code s t) th.arena (arena_from code s st reached t told at))
      (both (nat_le th.arena (arena_end code s t)) _ (le-leb th.arena (arena_end code s t) r.room)
      (both (nat_le th.entries most_entries) _ (le-leb th.entries most_entries r.few_entries)
      (both (nat_le th.revokes most_revokes) _ (le-leb th.revokes most_revokes r.few_revokes)
      (both (nat_le th.printed most_printed) (phase_fits code t h h.phase) (le-leb th.printed most_printed r.few_printed) fits))))))
    where
      above : (k : ℕ) → (k ≡ 0 → ⊥) → 1 ≤ k
      above zero ne = absurd (ne refl)
      above (suc k) ne = omega arith
