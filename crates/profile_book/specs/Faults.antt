-- The numbers of faults.
use Rattle.std.specs.Prelude.{ℕ, Option, Some, None}
use Rattle.profile_book.specs.declared.fault.ProfileFault.{ProfileFault}
use Rattle.profile_book.specs.declared.fault.ProfileFault.TheVariants.{NotJson, NotProfile, OutOfMemory}

-- the number that `profile refused` tells; lack of memory has none
abbrev pub number_of : ProfileFault → Option ℕ
number_of NotJson = Some 21
number_of NotProfile = Some 22
number_of OutOfMemory = None
