-- The core tree of a function that is defined is sound where its definition has no fault, in a file that suits it.
use Rattle.std.proofs.Common.{◌≡◌, ℕ, true, false, List, [], Option, Some}
use Rattle.c_tree.specs.declared.name.Name.{Name}
use Rattle.c_tree.specs.Tree.{Formal, Parts}
use Rattle.c_types.specs.declared.library.StarredType.{StarredType}
use Rattle.c_types.specs.Scopes.{Known, opened}
use Rattle.c_programs.specs.Declarators.{params_faults, after_params}
use Rattle.c_programs.specs.Statements.{parts_faults}
use Rattle.c_locals.specs.Addresses.{numbered_from, parts_addressed}
use Rattle.c_spots.specs.Spots.{in_function, definition_spots}
use Rattle.core_tree.specs.Core.{Program}
use Rattle.c_operators.specs.Context.{Source}
use Rattle.c_elaborate.specs.Functions.{definition}
use Rattle.core_tree.specs.Sound.{IsSoundFunction}
use Rattle.source_sound.proofs.Among.{AreAmong}
use Rattle.source_sound.proofs.Premises.{HaveSpots}
use Rattle.source_sound.proofs.Listed.{lists_of, FormalsListed, PartsListed}
use Rattle.source_sound.proofs.Results.{IsPlainResult}
use Rattle.source_sound.proofs.Functions.{FileSuits, definition_sound}
use Rattle.source_sound.proofs.WordsSound.{values_sound, wanted_sound}

pub defined_sound : (p : Program) (home : ℕ → Option ℕ) (structs : ℕ) (s : Source) (ns : List ℕ) (known : Known) (n : ℕ) (name : Name) (result : StarredType) (qs : List Formal) (body : Parts)
    → FileSuits p home (definition s ns (opened known) n name (Some result) qs body) structs s known
    → IsPlainResult (Some result) → FormalsListed (lists_of s.whole) qs → PartsListed (lists_of s.whole) body → params_faults (opened known) true qs ≡ [] → parts_faults (after_params (opened known) qs) (Some result) false body ≡ []
    → AreAmong ns (parts_addressed (numbered_from n qs) body) → HaveSpots p s.sites (definition_spots (in_function name.text ns) (opened known) n qs body)
    → IsSoundFunction p home (definition s ns (opened known) n name (Some result) qs body)
defined_sound p home structs s ns known n name result qs body =
    definition_sound p home structs s ns known n name result qs body
    (values_sound p home (definition s ns (opened known) n name (Some result) qs body)) (wanted_sound p home (definition s ns (opened known) n name (Some result) qs body))
