-- What a call is, by the arguments that it wants where they are judged.
use Rattle.std.proofs.Common.{◌≡◌, ℕ, Bool, true, false, if◌then◌else◌, [], Option, Some, None, refl}
use Rattle.rr_base.specs.Texts.{Text}
use Rattle.c_tree.specs.Tree.{Exps}
use Rattle.c_types.specs.declared.library.LibraryName.{LibraryName}
use Rattle.c_types.specs.declared.library.LibraryName.TheVariants as library
use Rattle.c_types.specs.declared.names.Signature.{Signature}
use Rattle.c_types.specs.Scopes.{Known, Meaning, variable, function_of}
use Rattle.c_types.specs.Operands.{Standing, no_type}
use Rattle.c_types.specs.Library.{library_named}
use Rattle.c_types.specs.Standing.{Target, Callee, callee_wants, callee_gives, call_standing, some_library_callee, library_callee, function_callee, pointer_callee, pointed_signature, can_be_used, callee_of, fit_wanted}
use Rattle.c_rules.specs.Faults.{some_library_wants, library_wants, pointer_wants, wants_of}

-- what is called, with these arguments
abbrev called : Known → Callee → Exps → Standing
called known c es = call_standing c (fit_wanted known (callee_wants c) es)

either_way : (b : Bool) → no_type ≡ (if b then no_type else no_type)
either_way true = refl
either_way false = refl

function_called : (known : Known) (b : Bool) (f : Signature) (es : Exps) → called known (function_callee b f) es ≡ (if fit_wanted known f.params es then callee_gives (function_callee b f) else no_type)
function_called known false f es = either_way (fit_wanted known f.params es)
function_called known true f es = refl

pointer_called : (known : Known) (f : Option Signature) (es : Exps) → called known (pointer_callee f) es ≡ (if fit_wanted known (pointer_wants f) es then callee_gives (pointer_callee f) else no_type)
pointer_called known None es = either_way (fit_wanted known [] es)
pointer_called known (Some f) es = refl

some_library_called : (known : Known) (c : LibraryName) (w : Target) (format : Option ℕ) (es : Exps) → called known (some_library_callee c w format) es ≡ (if fit_wanted known (some_library_wants c format) es then callee_gives (some_library_callee c w format) else no_type)
some_library_called known library.PrintFormat w None es = either_way (fit_wanted known (some_library_wants library.PrintFormat None) es)
some_library_called known library.PrintFormat w (Some n) es = refl
some_library_called known library.Malloc w format es = refl
some_library_called known _ w format es = refl

library_called : (known : Known) (c : Option LibraryName) (w : Target) (format : Option ℕ) (es : Exps) → called known (library_callee c w format) es ≡ (if fit_wanted known (library_wants c format) es then callee_gives (library_callee c w format) else no_type)
library_called known None w format es = either_way (fit_wanted known (library_wants None format) es)
library_called known (Some c) w format es = some_library_called known c w format es

pub called_by_wants : (known : Known) (w : Target) (name : Text) (format : Option ℕ) (m : Option Meaning) (es : Exps) → call_standing (callee_of known w name format m) (fit_wanted known (callee_wants (callee_of known w name format m)) es) ≡ (if fit_wanted known (wants_of known name format m) es then callee_gives (callee_of known w name format m) else no_type)
called_by_wants known w name format (Some (variable t)) es = pointer_called known (pointed_signature known t) es
called_by_wants known w name format (Some (function_of f)) es = function_called known (can_be_used known name) f es
called_by_wants known w name format None es = library_called known (library_named name) w format es
