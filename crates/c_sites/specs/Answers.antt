-- What the check of a source answers.
use Rattle.std.specs.Prelude.{◌≡◌, ℕ, List, Option, Some, None}
use Rattle.c_tree.specs.Tree.{Outer}
use Rattle.c_sites.specs.declared.checking.TypeFault.{TypeFault}
use Rattle.c_sites.specs.declared.checking.TypeFault.TheVariants as faults
use Rattle.c_types.specs.Found.{number_of}
use Rattle.c_sites.specs.Whole.{first_fault}

-- it is the first fault of the source, unless memory runs out
abbrev pub IsFault : TypeFault → List Outer → Type 0
IsFault faults.OutOfMemory os = Unit {0}
IsFault (faults.Found x) os = first_fault os ≡ Some x

-- the number by which messages tell the fault
abbrev pub told_number : TypeFault → Option ℕ
told_number faults.OutOfMemory = None
told_number (faults.Found x) = Some (number_of x.fault)
