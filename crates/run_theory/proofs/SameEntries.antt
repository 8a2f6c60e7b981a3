-- The tests of sameness answer true exactly where the two are equal.
use Rattle.std.proofs.Common.{◌≡◌, ◌≢◌, Bool, true, false, ◌&&◌, eqb, List, [], ◌∷◌, Some, refl, sym, ap, ◌∙◌, ◌⊎◌, inl, inr, eq-eqb}
use Rattle.std.specs.Prelude.{slice_get}
use Rattle.std.proofs.lemmas.Option.{same_Some}
use Rattle.std.proofs.lemmas.Bool.{eqb-true, and_parts, and_from}
use Rattle.sync_objects.specs.declared.entry.Entry.{Entry}
use Rattle.sync_objects.specs.declared.object.ObjId.{ObjId}
use Rattle.sync_objects.specs.declared.object.ObjId.TheVariants.{Mutex, Cond, Barrier, Rw, Weak, Slot, Threads, Halt, Input, Output}
use Rattle.sync_objects.specs.declared.operation.OpName.{OpName}
use Rattle.sync_objects.specs.declared.operation.OpName.TheVariants.{Lock, TryLock, Unlock, MutexInit, CondEnter, CondWake, Signal, BarrierInit, Arrive, Pass, Take, Retake, Give, Revoke, Draw, Start, Begin, End, Join, Close, Leave, HaltAll, TrapHere, Stop, GetChar, Print, RdLock, WrLock, RwUnlock, RwInit}
use Rattle.run_theory.specs.Same.{same_object, operation_index, same_operation, same_entry}

pub same_object-refl : (o : ObjId) → same_object o o ≡ true
same_object-refl (Mutex c) = eq-eqb c c refl
same_object-refl (Cond c) = eq-eqb c c refl
same_object-refl (Barrier c) = eq-eqb c c refl
same_object-refl (Rw c) = eq-eqb c c refl
same_object-refl (Weak l s) = and_from (eqb l l) (eqb s s) (eq-eqb l l refl) (eq-eqb s s refl)
same_object-refl (Slot k) = eq-eqb k k refl
same_object-refl Threads = refl
same_object-refl Halt = refl
same_object-refl Input = refl
same_object-refl Output = refl

pub same_object-true : (o p : ObjId) → same_object o p ≡ true → o ≡ p
same_object-true (Mutex c) (Mutex d) h = ap Mutex (eqb-true c d h)
same_object-true (Cond c) (Cond d) h = ap Cond (eqb-true c d h)
same_object-true (Barrier c) (Barrier d) h = ap Barrier (eqb-true c d h)
same_object-true (Rw c) (Rw d) h = ap Rw (eqb-true c d h)
same_object-true (Weak l s) (Weak k r) h =
    let both = and_parts (eqb l k) (eqb s r) h in
    ap (λ z. Weak z s) (eqb-true l k both.0) ∙ ap (λ z. Weak k z) (eqb-true s r both.1)
same_object-true (Slot k) (Slot n) h = ap Slot (eqb-true k n h)
same_object-true Threads Threads h = refl
same_object-true Halt Halt h = refl
same_object-true Input Input h = refl
same_object-true Output Output h = refl
same_object-true _ _ h = cc

object_cases_on : (o p : ObjId) (b : Bool) → same_object o p ≡ b → (o ≡ p) ⊎ (o ≢ p)
object_cases_on o p true h = inl (same_object-true o p h)
object_cases_on o p false h = inr (λ e. let t : same_object o p ≡ true = ap (same_object o) (sym e) ∙ same_object-refl o in cc)

-- two objects are the same or they aren't
pub object_cases : (o p : ObjId) → (o ≡ p) ⊎ (o ≢ p)
object_cases o p = object_cases_on o p (same_object o p) refl

pub same_object-ne : (o p : ObjId) → o ≢ p → same_object o p ≡ false
same_object-ne o p ne = go (same_object o p) refl
  where
    go : (b : Bool) → same_object o p ≡ b → same_object o p ≡ false
    go true h = absurd (ne (same_object-true o p h))
    go false h = h

all_operations : List OpName
all_operations = Lock ∷ TryLock ∷ Unlock ∷ MutexInit ∷ CondEnter ∷ CondWake ∷ Signal ∷ BarrierInit ∷ Arrive ∷ Pass ∷ Take ∷ Retake ∷ Give ∷ Revoke ∷ Draw ∷ Start ∷ Begin ∷ End ∷ Join ∷ Close ∷ Leave ∷ HaltAll ∷ TrapHere ∷ Stop ∷ GetChar ∷ Print ∷ RdLock ∷ WrLock ∷ RwUnlock ∷ RwInit ∷ []

found_again : (op : OpName) → slice_get all_operations (operation_index op) ≡ Some op
unfolding all_operations
found_again Lock = refl
found_again TryLock = refl
found_again Unlock = refl
found_again MutexInit = refl
found_again CondEnter = refl
found_again CondWake = refl
found_again Signal = refl
found_again BarrierInit = refl
found_again Arrive = refl
found_again Pass = refl
found_again Take = refl
found_again Retake = refl
found_again Give = refl
found_again Revoke = refl
found_again Draw = refl
found_again Start = refl
found_again Begin = refl
found_again End = refl
found_again Join = refl
found_again Close = refl
found_again Leave = refl
found_again HaltAll = refl
found_again TrapHere = refl
found_again Stop = refl
found_again GetChar = refl
found_again Print = refl
found_again RdLock = refl
found_again WrLock = refl
found_again RwUnlock = refl
found_again RwInit = refl

pub same_operation-true : (a b : OpName) → same_operation a b ≡ true → a ≡ b
same_operation-true a b h =
    same_Some _ _ (sym (found_again a) ∙ ap (slice_get all_operations) (eqb-true (operation_index a) (operation_index b) h) ∙ found_again b)

pub same_operation-refl : (a : OpName) → same_operation a a ≡ true
same_operation-refl a = eq-eqb (operation_index a) (operation_index a) refl

pub same_entry-refl : (e : Entry) → same_entry e e ≡ true
same_entry-refl e =
    and_from (eqb e.thread e.thread && eqb e.count e.count && same_operation e.op e.op) (same_object e.obj e.obj)
    (and_from (eqb e.thread e.thread && eqb e.count e.count) (same_operation e.op e.op)
    (and_from (eqb e.thread e.thread) (eqb e.count e.count) (eq-eqb e.thread e.thread refl) (eq-eqb e.count e.count refl))
    (same_operation-refl e.op))
    (same_object-refl e.obj)

pub same_entry-true : (a b : Entry) → same_entry a b ≡ true → a ≡ b
same_entry-true a b h =
    let objects = and_parts (eqb a.thread b.thread && eqb a.count b.count && same_operation a.op b.op) (same_object a.obj b.obj) h in
    let operations = and_parts (eqb a.thread b.thread && eqb a.count b.count) (same_operation a.op b.op) objects.0 in
    let counts = and_parts (eqb a.thread b.thread) (eqb a.count b.count) operations.0 in
    λ i. record {
      thread = eqb-true a.thread b.thread counts.0 i;
      count = eqb-true a.count b.count counts.1 i;
      op = same_operation-true a.op b.op operations.1 i;
      obj = same_object-true a.obj b.obj objects.1 i;
    }

pub same_entry-ne : (a b : Entry) → a ≢ b → same_entry a b ≡ false
same_entry-ne a b ne = go (same_entry a b) refl
  where
    go : (t : Bool) → same_entry a b ≡ t → same_entry a b ≡ false
    go true h = absurd (ne (same_entry-true a b h))
    go false h = h
