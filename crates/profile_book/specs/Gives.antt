-- For private clauses: what is looked for, or the fault where it isn't there.
use Rattle.std.specs.Prelude.{◌≡◌, Option, Some, None, Result, Ok, Err}
use Rattle.profile_book.specs.declared.fault.ProfileFault.{ProfileFault}
use Rattle.profile_book.specs.declared.fault.ProfileFault.TheVariants as fault

-- the text is JSON by now; memory may still run out
abbrev pub Gives : {X : Type 0} → Option X → Result X ProfileFault → Type 0
Gives found (Ok x) = found ≡ Some x
Gives found (Err fault.NotJson) = ⊥
Gives found (Err fault.NotProfile) = found ≡ None
Gives found (Err fault.OutOfMemory) = Unit {0}
