-- What a call prints leaves the thread within what it may print.
use Rattle.std.proofs.Common.{◌≡◌, ℕ, ◌+◌, ◌≤◌, nat_le, ℤ, List, length, Bool, true, false, if◌then◌else◌, refl, arith}
use Rattle.std.proofs.lemmas.Bool.{leb-true}
use Rattle.sync_objects.specs.declared.operation.Op.{Op}
use Rattle.sync_objects.specs.declared.operation.Op.TheVariants as op
use Rattle.sync_objects.specs.declared.object.ObjId.{ObjId}
use Rattle.sync_objects.specs.declared.object.ObjId.TheVariants as object
use Rattle.rr_base.specs.declared.trap.Trap.TheVariants as trap
use Rattle.word_semantics.specs.declared.library_call.LibraryCall.{LibraryCall}
use Rattle.word_semantics.specs.declared.library_call.LibraryCall.TheVariants as call
use Rattle.word_semantics.specs.declared.event.Due.TheVariants as due
use Rattle.word_semantics.specs.Library.{Caller, most_printed, piece_of, print_due, library_due}

operated_by : (b : Bool) (o : Op) (obj : ObjId) → (if b then due.Operate op.Print object.Output else due.Trap trap.Limit) ≡ due.Operate o obj → b ≡ true
operated_by true o obj e = refl
operated_by false o obj e = cc

print_within : (w : Caller) (bytes : ℕ) (o : Op) (obj : ObjId) → print_due w bytes ≡ due.Operate o obj → w.printed + bytes ≤ most_printed
print_within w bytes o obj e = leb-true _ _ (operated_by (nat_le (w.printed + bytes) most_printed) o obj e)

-- where a call makes an operation, its bytes still fit
pub prints_within : (w : Caller) (c : LibraryCall) (words : List ℕ) (made : ℕ) (kept : ℤ) (o : Op) (obj : ObjId)
    → library_due w c words made kept ≡ due.Operate o obj → w.printed ≤ most_printed
    → w.printed + length (piece_of c words) ≤ most_printed
prints_within w (call.Print format) words made kept o obj e h = print_within w _ o obj e
prints_within w call.PutChar words made kept o obj e h = print_within w 1 o obj e
prints_within w _ words made kept o obj e h = omega arith
