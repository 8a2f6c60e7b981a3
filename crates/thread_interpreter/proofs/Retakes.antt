-- What an operation does to its thread, unless it takes an owed stripe again.
use Rattle.std.proofs.Common.{◌≡◌, ℕ, true, false, refl, ℤ, subst}
use Rattle.sync_objects.specs.Setup.{SetupView}
use Rattle.sync_objects.specs.declared.object.ObjId.{ObjId}
use Rattle.sync_objects.specs.declared.operation.Op.{Op}
use Rattle.sync_objects.specs.declared.operation.Op.TheVariants as op
use Rattle.flow_code.specs.declared.code.Code.{Code}
use Rattle.word_semantics.specs.declared.event.Due.TheVariants as due
use Rattle.flow_code.specs.Threads.{Thread}
use Rattle.flow_code.specs.Next.{after_due, phase_after, counted, repaid}
use Rattle.thread_interpreter.specs.Flows.{is_retake, Fits}

pub after_other : (code : Code) (s : SetupView) (t : ℕ) (th : Thread) (o : Op) (obj : ObjId) (answer : ℤ) → is_retake o ≡ false → after_due code s t th (due.Operate o obj) answer ≡ counted o (phase_after code s t th th.phase answer)
after_other code s t th op.Lock obj answer h = refl
after_other code s t th op.TryLock obj answer h = refl
after_other code s t th op.Unlock obj answer h = refl
after_other code s t th op.MutexInit obj answer h = refl
after_other code s t th op.CondEnter obj answer h = refl
after_other code s t th (op.CondWake epoch) obj answer h = refl
after_other code s t th op.Signal obj answer h = refl
after_other code s t th (op.BarrierInit count) obj answer h = refl
after_other code s t th op.Arrive obj answer h = refl
after_other code s t th (op.Pass generation) obj answer h = refl
after_other code s t th op.RdLock obj answer h = refl
after_other code s t th op.WrLock obj answer h = refl
after_other code s t th op.RwUnlock obj answer h = refl
after_other code s t th op.RwInit obj answer h = refl
after_other code s t th op.Take obj answer h = refl
after_other code s t th op.Retake obj answer h = cc
after_other code s t th op.Give obj answer h = refl
after_other code s t th op.Revoke obj answer h = refl
after_other code s t th (op.Draw slots) obj answer h = refl
after_other code s t th (op.Start function) obj answer h = refl
after_other code s t th op.Begin obj answer h = refl
after_other code s t th op.End obj answer h = refl
after_other code s t th op.Join obj answer h = refl
after_other code s t th op.Close obj answer h = refl
after_other code s t th op.Leave obj answer h = refl
after_other code s t th op.HaltAll obj answer h = refl
after_other code s t th op.TrapHere obj answer h = refl
after_other code s t th op.Stop obj answer h = refl
after_other code s t th (op.GetChar len) obj answer h = refl
after_other code s t th op.Print obj answer h = refl

pub after_retake : (code : Code) (s : SetupView) (t : ℕ) (th : Thread) (o : Op) (obj : ObjId) (answer : ℤ) → is_retake o ≡ true → after_due code s t th (due.Operate o obj) answer ≡ counted o (record th { stripes = repaid th.stripes })
after_retake code s t th op.Retake obj answer h = refl
after_retake code s t th op.Lock obj answer h = cc
after_retake code s t th op.TryLock obj answer h = cc
after_retake code s t th op.Unlock obj answer h = cc
after_retake code s t th op.MutexInit obj answer h = cc
after_retake code s t th op.CondEnter obj answer h = cc
after_retake code s t th (op.CondWake epoch) obj answer h = cc
after_retake code s t th op.Signal obj answer h = cc
after_retake code s t th (op.BarrierInit count) obj answer h = cc
after_retake code s t th op.Arrive obj answer h = cc
after_retake code s t th (op.Pass generation) obj answer h = cc
after_retake code s t th op.RdLock obj answer h = cc
after_retake code s t th op.WrLock obj answer h = cc
after_retake code s t th op.RwUnlock obj answer h = cc
after_retake code s t th op.RwInit obj answer h = cc
after_retake code s t th op.Take obj answer h = cc
after_retake code s t th op.Give obj answer h = cc
after_retake code s t th op.Revoke obj answer h = cc
after_retake code s t th (op.Draw slots) obj answer h = cc
after_retake code s t th (op.Start function) obj answer h = cc
after_retake code s t th op.Begin obj answer h = cc
after_retake code s t th op.End obj answer h = cc
after_retake code s t th op.Join obj answer h = cc
after_retake code s t th op.Close obj answer h = cc
after_retake code s t th op.Leave obj answer h = cc
after_retake code s t th op.HaltAll obj answer h = cc
after_retake code s t th op.TrapHere obj answer h = cc
after_retake code s t th op.Stop obj answer h = cc
after_retake code s t th (op.GetChar len) obj answer h = cc
after_retake code s t th op.Print obj answer h = cc

pub fits_along : (th th2 : Thread) → th ≡ th2 → Fits th → Fits th2
fits_along th th2 e f = subst Fits e f
