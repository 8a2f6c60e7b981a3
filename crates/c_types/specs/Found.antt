-- Faults with their places, and the first of several: in the text, and at one place by its number.
use Rattle.std.specs.Prelude.{ℕ, ◌==◌, nat_lt, Bool, true, false, if◌then◌else◌, List, [], ◌∷◌, Option, Some, None}
use Rattle.c_types.specs.declared.fault.FaultKind.{FaultKind}
use Rattle.c_types.specs.declared.fault.FaultKind.TheVariants as fault
use Rattle.c_types.specs.declared.fault.Found.{Found}
use Rattle.rr_base.specs.declared.position.Position.{Position}

-- the number shown for it; at one place the lowest comes first
abbrev pub number_of : FaultKind → ℕ
number_of fault.UnknownName = 9
number_of fault.DuplicateName = 10
number_of fault.TypeMismatch = 11
number_of fault.NotPlace = 12
number_of fault.BadCall = 13
number_of fault.BadRoot = 14
number_of fault.NoMain = 15
number_of fault.ObjectTooLarge = 16
number_of fault.TooManySites = 17
number_of fault.GlobalsTooLarge = 18
number_of fault.NotConstant = 19
number_of fault.OutOfProfile = 20

-- by line, then by column, then by the number of the fault
abbrev pub is_before : Found → Found → Bool
is_before x y =
    if x.at.line == y.at.line
    then (if x.at.column == y.at.column then nat_lt (number_of x.fault) (number_of y.fault) else nat_lt x.at.column y.at.column)
    else nat_lt x.at.line y.at.line

-- one broken rule at one place of the source
abbrev pub found_at : FaultKind → Position → Found
found_at kind at = record { fault = kind; at = at }

-- the first of what was found before and another one
abbrev pub first_of : Option Found → Found → Option Found
first_of None x = Some x
first_of (Some y) x = if is_before x y then Some x else Some y

-- the first of what was found before and all of a list
abbrev pub first_among : Option Found → List Found → Option Found
first_among before [] = before
first_among before (x ∷ xs) = first_among (first_of before x) xs

-- a fault where it comes
abbrev pub where_it_comes : Bool → FaultKind → Position → List Found
where_it_comes true kind at = found_at kind at ∷ []
where_it_comes false kind at = []
