-- Accesses by the summaries of functions, and that no two threads hold a lock at once, but for reading.
use Rattle.std.proofs.Common.{◌≡◌, ℕ, ◌+◌, ◌*◌, Bool, true, List, Some, sym, subst, ◌∙◌, arith, eqb-true}
use Rattle.std.specs.Prelude.{slice_get}
use Rattle.std.proofs.lemmas.Bool.{and_parts}
use Rattle.std.proofs.lemmas.Option.{same_Some, slice_get_within}
use Rattle.rr_base.proofs.Lists.{slice_get_inside}
use Rattle.rr_base.specs.declared.layout.CellKind.{CellKind}
use Rattle.rr_base.specs.declared.layout.CellKind.TheVariants as kind
use Rattle.sync_objects.specs.Modes.{excludes}
use Rattle.sync_objects.specs.Setup.{SetupView, IsWithinLimits}
use Rattle.sync_objects.specs.declared.mode.Mode.{Mode}
use Rattle.sync_objects.specs.States.{LockState, Free, HeldBy, is_held_by}
use Rattle.sync_objects.specs.declared.object.ObjId.TheVariants as object
use Rattle.flow_code.specs.declared.code.Code.{Code}
use Rattle.flow_code.specs.declared.code.Function.{Function}
use Rattle.flow_code.specs.Settle.{IsRunnable}
use Rattle.flow_code.specs.Threads.{Frame}
use Rattle.core_run.specs.Histories.{IsReachable}
use Rattle.core_run.specs.Machine.{Told}
use Rattle.core_run.specs.Words.{has_object}
use Rattle.run_theory.specs.Steps.{State}
use Rattle.lock_ownership.specs.Holders.{holder, names, shared, holds_lock}
use Rattle.lock_ownership.proofs.RwMoves.{one_holds_rw}
use Rattle.lock_ownership.proofs.RwStates.{exclusive_at}
use Rattle.facts.specs.Locks.{Points}
use Rattle.facts.specs.Summaries.{AreSummaries, Guards, own, called}
use Rattle.facts.specs.declared.locks.Guarded.{Guarded}
use Rattle.facts.specs.declared.locks.Summary.{Summary}
use Rattle.lockset_sound.specs.Frames.{holds_at, HoldsGlobal, root_frame, IsGuarded, IsListed}
use Rattle.lockset_sound.specs.Leading.{Holds}
use Rattle.lockset_sound.proofs.Stacks.{points_of}

guards_there : (code : Code) (xs : List Points) (n : ℕ) (row : Guarded) → Guards code xs n row → (f : Function) × (slice_get code.functions n ≡ Some f)
guards_there code xs n _ (own f k fn i x l a st ex el e) = (fn, st.function)
guards_there code xs n _ (called f k fn i x l g arguments into b st ex el e h) = (fn, st.function)

-- what is guarded by the points of the summaries is listed in them
pub listed : (code : Code) (ss : List Summary) (sums : AreSummaries code ss) (slots : ℕ) (now : Holds) (f : Frame) (fs : List Frame) (store : Bool) → IsGuarded code slots sums.points now f fs store → IsListed code slots ss now f fs store
listed code ss sums slots now f fs store g =
    let n = (root_frame f fs).function in
    let there = guards_there code sums.points n g.row g.guards in
    let x = points_of code slots sums.tops sums.points sums.greatest.solves sums.known.0 n there.0 there.1 in
    let within = slice_get_within code.functions n there.0 there.1 in
    let size = sums.long in
    let s = slice_get_inside ss n (omega arith) in
    record {
      summary = s.0;
      row = g.row;
      summed = s.1;
      listed = ((sums.each n x.0 s.0 x.1 s.1).of g.row).1 g.guards;
      function = g.function;
      instr = g.instr;
      store_is = g.store_is;
      held = g.held;
    }

-- no lock is held by two threads at once in modes that exclude each other
pub one_holds : (code : Code) (s : SetupView) (st : State Told) (a b : Mode) (k : CellKind) (t u cell : ℕ) → IsRunnable code → IsWithinLimits s → IsReachable code s st → excludes a b ≡ true → holds_at code s t st a k cell ≡ true → holds_at code s u st b k cell ≡ true → t ≡ u
one_holds code s st a b kind.Mutex t u cell run limits reached apart h k =
    let x = and_parts (has_object code s (object.Mutex cell)) (names code s (object.Mutex cell) t st) h in
    let y = and_parts (has_object code s (object.Mutex cell)) (names code s (object.Mutex cell) u st) k in
    by (holder code s (object.Mutex cell) st) x.1 y.1
  where
    by : (x : LockState) → is_held_by t x ≡ true → is_held_by u x ≡ true → t ≡ u
    by Free p q = cc
    by (HeldBy v) p q = sym (eqb-true v t p) ∙ eqb-true v u q
one_holds code s st a b kind.Rw t u cell run limits reached apart h k =
    let x = and_parts (has_object code s (object.Rw cell)) (holds_lock code s (object.Rw cell) a t st) h in
    let y = and_parts (has_object code s (object.Rw cell)) (holds_lock code s (object.Rw cell) b u st) k in
    one_holds_rw a b t u (shared code s (object.Rw cell) st) (exclusive_at code s run limits cell x.0 st reached) apart x.1 y.1
one_holds code s st a b _ t u cell run limits reached apart h k = cc

-- a global cell has one lock, so its holders don't hold it in modes that exclude each other, but for one thread
pub one_holds_global : (code : Code) (s : SetupView) (st : State Told) (a b : Mode) (t u n : ℕ) → IsRunnable code → IsWithinLimits s → IsReachable code s st → excludes a b ≡ true → HoldsGlobal code s.slots (holds_at code s t st) a n → HoldsGlobal code s.slots (holds_at code s u st) b n → t ≡ u
one_holds_global code s st a b t u n run limits reached apart h k =
    let same : k.cell_kind ≡ h.cell_kind = same_Some k.cell_kind h.cell_kind (sym k.kind_is ∙ h.kind_is) in
    one_holds code s st a b h.cell_kind t u (2 * s.slots + n) run limits reached apart h.holds (subst (λ z. holds_at code s u st b z (2 * s.slots + n) ≡ true) same k.holds)
