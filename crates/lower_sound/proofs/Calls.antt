-- What the table of library calls holds: which operations there are, and how many events at most.
use Rattle.std.proofs.Common.{◌≡◌, ℕ, zero, suc, ◌+◌, inr, ◌⊎◌, Bool, true, false, if◌then◌else◌, ◌==◌, nat_le, ℤ, List, length, Result, Ok, Err, refl}
use Rattle.rr_base.specs.declared.trap.Trap.{Trap}
use Rattle.rr_base.specs.declared.layout.CellKind.TheVariants as kind
use Rattle.word_semantics.specs.declared.library_call.LibraryCall.{LibraryCall}
use Rattle.word_semantics.specs.declared.library_call.LibraryCall.TheVariants as call
use Rattle.word_semantics.specs.declared.event.Due.{Due}
use Rattle.word_semantics.specs.declared.event.Due.TheVariants as due
use Rattle.word_semantics.specs.declared.event.Onward.{Onward}
use Rattle.word_semantics.specs.declared.event.Onward.TheVariants as onward
use Rattle.word_semantics.specs.Values.{number}
use Rattle.word_semantics.specs.Library.{Caller, argument, at_cell, cell_of, is_misuse, is_serial, is_joinable, most_printed, printed_piece, library_due, library_onward}
use Rattle.word_semantics.specs.Limits.{is_free_of_limit}

-- there is a next step, and an operation in it is neither one with which a thread ends nor one on a stripe
abbrev pub IsPlain : Due → Type 0
IsPlain due.Nothing = ⊥
IsPlain (due.Operate o obj) = is_free_of_limit o ≡ false
IsPlain _ = Unit {0}

abbrev pub IsNotExit : LibraryCall → Type 0
IsNotExit call.Exit = ⊥
IsNotExit _ = Unit {0}

at_plain : (r : Result ℕ Trap) (f : ℕ → Due) → ((c : ℕ) → IsPlain (f c)) → IsPlain (at_cell r f)
at_plain (Ok c) f h = h c
at_plain (Err t) f h = tt

if_plain : (b : Bool) (x y : Due) → IsPlain x → IsPlain y → IsPlain (if b then x else y)
if_plain true x y h k = h
if_plain false x y h k = k

pub plain_due : (w : Caller) (c : LibraryCall) (ws : List ℕ) (made : ℕ) (kept : ℤ) → IsNotExit c → IsPlain (library_due w c ws made kept)
plain_due w (call.Create f) ws zero kept h = at_plain (cell_of w ws 0 kind.Whole) _ (λ c. refl)
plain_due w (call.Create f) ws (suc zero) kept h = tt
plain_due w (call.Create f) ws (suc (suc zero)) kept h = at_plain (cell_of w ws 0 kind.Whole) _ (λ c. tt)
plain_due w (call.Create f) ws (suc (suc (suc n))) kept h = refl
plain_due w call.Join ws zero kept h =
    if_plain (argument ws 1 == 0) _ _ (if_plain (is_joinable w (number (argument ws 0))) _ _ refl tt)
    (at_plain (cell_of w ws 1 kind.Pointer) _ (λ c. if_plain (is_joinable w (number (argument ws 0))) _ _ refl tt))
plain_due w call.Join ws (suc zero) kept h = if_plain (is_misuse kept) _ _ tt tt
plain_due w call.Join ws (suc (suc n)) kept h = at_plain (cell_of w ws 1 kind.Pointer) _ (λ c. tt)
plain_due w call.Exit ws made kept h = absurd h
plain_due w call.SelfNumber ws made kept h = tt
plain_due w call.SameThread ws made kept h = tt
plain_due w call.MutexInit ws zero kept h = at_plain (cell_of w ws 0 kind.Mutex) _ (λ c. refl)
plain_due w call.MutexInit ws (suc n) kept h = if_plain (is_misuse kept) _ _ tt tt
plain_due w call.MutexLock ws zero kept h = at_plain (cell_of w ws 0 kind.Mutex) _ (λ c. refl)
plain_due w call.MutexLock ws (suc n) kept h = if_plain (is_misuse kept) _ _ tt tt
plain_due w call.MutexUnlock ws zero kept h = at_plain (cell_of w ws 0 kind.Mutex) _ (λ c. refl)
plain_due w call.MutexUnlock ws (suc n) kept h = if_plain (is_misuse kept) _ _ tt tt
plain_due w call.MutexTryLock ws zero kept h = at_plain (cell_of w ws 0 kind.Mutex) _ (λ c. refl)
plain_due w call.MutexTryLock ws (suc n) kept h = tt
plain_due w call.MutexDestroy ws made kept h = at_plain (cell_of w ws 0 kind.Mutex) _ (λ c. tt)
plain_due w call.CondInit ws made kept h = at_plain (cell_of w ws 0 kind.Cond) _ (λ c. tt)
plain_due w call.CondWait ws zero kept h = at_plain (cell_of w ws 0 kind.Cond) _ (λ c. at_plain (cell_of w ws 1 kind.Mutex) _ (λ m. refl))
plain_due w call.CondWait ws (suc zero) kept h = at_plain (cell_of w ws 0 kind.Cond) _ (λ c. at_plain (cell_of w ws 1 kind.Mutex) _ (λ m. refl))
plain_due w call.CondWait ws (suc (suc zero)) kept h = at_plain (cell_of w ws 0 kind.Cond) _ (λ c. at_plain (cell_of w ws 1 kind.Mutex) _ (λ m. if_plain (is_misuse kept) _ _ tt refl))
plain_due w call.CondWait ws (suc (suc (suc n))) kept h = at_plain (cell_of w ws 0 kind.Cond) _ (λ c. at_plain (cell_of w ws 1 kind.Mutex) _ (λ m. refl))
plain_due w call.CondSignal ws made kept h = at_plain (cell_of w ws 0 kind.Cond) _ (λ c. refl)
plain_due w call.CondDestroy ws made kept h = at_plain (cell_of w ws 0 kind.Cond) _ (λ c. tt)
plain_due w call.BarrierInit ws zero kept h = at_plain (cell_of w ws 0 kind.Barrier) _ (λ c. refl)
plain_due w call.BarrierInit ws (suc n) kept h = if_plain (is_misuse kept) _ _ tt tt
plain_due w call.BarrierWait ws zero kept h = at_plain (cell_of w ws 0 kind.Barrier) _ (λ c. refl)
plain_due w call.BarrierWait ws (suc n) kept h = if_plain (is_misuse kept) _ _ tt (if_plain (is_serial kept) _ _ tt (at_plain (cell_of w ws 0 kind.Barrier) _ (λ c. refl)))
plain_due w call.BarrierDestroy ws made kept h = at_plain (cell_of w ws 0 kind.Barrier) _ (λ c. tt)
plain_due w call.RwInit ws zero kept h = at_plain (cell_of w ws 0 kind.Rw) _ (λ c. refl)
plain_due w call.RwInit ws (suc n) kept h = if_plain (is_misuse kept) _ _ tt tt
plain_due w call.RwRdLock ws zero kept h = at_plain (cell_of w ws 0 kind.Rw) _ (λ c. refl)
plain_due w call.RwRdLock ws (suc n) kept h = if_plain (is_misuse kept) _ _ tt tt
plain_due w call.RwWrLock ws zero kept h = at_plain (cell_of w ws 0 kind.Rw) _ (λ c. refl)
plain_due w call.RwWrLock ws (suc n) kept h = if_plain (is_misuse kept) _ _ tt tt
plain_due w call.RwUnlock ws zero kept h = at_plain (cell_of w ws 0 kind.Rw) _ (λ c. refl)
plain_due w call.RwUnlock ws (suc n) kept h = if_plain (is_misuse kept) _ _ tt tt
plain_due w call.RwDestroy ws made kept h = at_plain (cell_of w ws 0 kind.Rw) _ (λ c. tt)
plain_due w call.Free ws made kept h = tt
plain_due w call.GetChar ws made kept h = refl
plain_due w (call.Print format) ws made kept h = if_plain (nat_le (w.printed + length (printed_piece format ws)) most_printed) _ _ refl tt
plain_due w call.PutChar ws made kept h = if_plain (nat_le (w.printed + 1) most_printed) _ _ refl tt

-- ---- at most four events

abbrev pub IsTrap : Due → Type 0
IsTrap (due.Trap t) = Unit {0}
IsTrap _ = ⊥

abbrev pub IsOver : Onward → Type 0
IsOver (onward.Stays kept) = ⊥
IsOver _ = Unit {0}

if_over : (b : Bool) (x y : Onward) → IsOver x → IsOver y → IsOver (if b then x else y)
if_over true x y h k = h
if_over false x y h k = k

-- after three events a call is over with the fourth
pub ends_by_four : (w : Caller) (c : LibraryCall) (ws : List ℕ) (n : ℕ) (kept answer : ℤ) → IsNotExit c → IsTrap (library_due w c ws (suc (suc (suc n))) kept) ⊎ IsOver (library_onward w c ws (suc (suc (suc n))) kept answer)
ends_by_four w (call.Create f) ws n kept answer h = inr tt
ends_by_four w call.Join ws n kept answer h = inr tt
ends_by_four w call.Exit ws n kept answer h = absurd h
ends_by_four w call.SelfNumber ws n kept answer h = inr tt
ends_by_four w call.SameThread ws n kept answer h = inr tt
ends_by_four w call.MutexInit ws n kept answer h = inr tt
ends_by_four w call.MutexLock ws n kept answer h = inr tt
ends_by_four w call.MutexUnlock ws n kept answer h = inr tt
ends_by_four w call.MutexTryLock ws n kept answer h = inr tt
ends_by_four w call.MutexDestroy ws n kept answer h = inr tt
ends_by_four w call.CondInit ws n kept answer h = inr tt
ends_by_four w call.CondWait ws n kept answer h = inr tt
ends_by_four w call.CondSignal ws n kept answer h = inr tt
ends_by_four w call.CondDestroy ws n kept answer h = inr tt
ends_by_four w call.BarrierInit ws n kept answer h = inr tt
ends_by_four w call.BarrierWait ws n kept answer h = inr (if_over (is_serial kept) _ _ tt tt)
ends_by_four w call.BarrierDestroy ws n kept answer h = inr tt
ends_by_four w call.RwInit ws n kept answer h = inr tt
ends_by_four w call.RwRdLock ws n kept answer h = inr tt
ends_by_four w call.RwWrLock ws n kept answer h = inr tt
ends_by_four w call.RwUnlock ws n kept answer h = inr tt
ends_by_four w call.RwDestroy ws n kept answer h = inr tt
ends_by_four w call.Free ws n kept answer h = inr tt
ends_by_four w call.GetChar ws n kept answer h = inr tt
ends_by_four w (call.Print format) ws n kept answer h = inr tt
ends_by_four w call.PutChar ws n kept answer h = inr tt
