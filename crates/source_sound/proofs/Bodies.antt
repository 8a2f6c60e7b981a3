-- What is used of the definitions of functions: each is sound where it has no fault and the names of the file lead to what is
-- there.
use Rattle.std.proofs.Common.{◌≡◌, ℕ, ◌≤◌, true, false, List, [], ◌∷◌, length, position, Option, Some, None, bytes_eq}
use Rattle.rr_base.specs.Texts.{Text, entry_of}
use Rattle.c_tree.specs.declared.name.Name.{Name}
use Rattle.c_tree.specs.Tree.{Formal, Parts}
use Rattle.c_types.specs.declared.library.StarredType.{StarredType}
use Rattle.c_types.specs.declared.names.Signature.{Signature}
use Rattle.c_types.specs.declared.types.ObjectType.{ObjectType}
use Rattle.c_types.specs.Constants.{constant_named}
use Rattle.c_types.specs.Library.{starred_type}
use Rattle.c_types.specs.Scopes.{Known, Scope, Meaning, variable, function_of, has_name, member_of, cells_of_type, opened}
use Rattle.c_types.specs.Standing.{is_main}
use Rattle.c_programs.specs.Declarators.{params_faults, after_params}
use Rattle.c_programs.specs.Statements.{parts_faults}
use Rattle.c_locals.specs.Addresses.{numbered_from, parts_addressed}
use Rattle.c_spots.specs.Spots.{in_function, definition_spots}
use Rattle.core_tree.specs.Core.{Program}
use Rattle.c_operators.specs.Context.{Source, global_named, function_counted}
use Rattle.c_values.specs.Calls.{gives_pointer}
use Rattle.c_elaborate.specs.Functions.{definition}
use Rattle.core_tree.specs.Sound.{IsFunction, IsAddress, IsSoundFunction}
use Rattle.source_sound.proofs.Among.{AreAmong}
use Rattle.source_sound.proofs.Environment.{IsFormed, IsFormedValue}
use Rattle.source_sound.proofs.Premises.{HaveSpots}
use Rattle.c_types.specs.Signatures.{type_numbered}
use Rattle.source_sound.proofs.Listed.{lists_of, FormalsListed, PartsListed}
use Rattle.source_sound.proofs.PointerNumbers.{PointsKnown, HavePointerTypes}
use Rattle.source_sound.proofs.Results.{IsPlainResult}
use Rattle.source_sound.proofs.Signatures.{kinds_wanted, AreFits}

module _ (p : Program) (home : ℕ → Option ℕ) (n : ℕ) where
  -- a function that is defined, but for `main`, is called by its name
  abbrev pub IsCalled : List Text → Text → Signature → Type 0
  IsCalled names name g =
      has_name names name ≡ true → is_main name ≡ false
      → AreFits g.params × IsFunction p (function_counted (position (λ x. bytes_eq name x) names)) (kinds_wanted g.params) (gives_pointer g.result)

  abbrev pub IsGiven : Option StarredType → Type 0
  IsGiven result = (t : StarredType) × (result ≡ Some t) × IsFormedValue n (starred_type t)

  -- what a name of the file means
  abbrev pub IsFileName : Source → List Text → Text → Meaning → Type 0
  IsFileName s names name (variable None) = ⊥
  IsFileName s names name (variable (Some t)) = (constant_named name ≡ None) × IsFormed n t × IsAddress p home (global_named s name) × PointsKnown (lists_of s.whole) n t
  IsFileName s names name (function_of g) = (constant_named name ≡ None) × IsGiven g.result × IsCalled names name g × ((k : ℕ) × (type_numbered (lists_of s.whole) g ≡ Some k))

  -- what is known of the file after the name of a function
  pub record Begins (s : Source) (known : Known) (scope : Scope) : Type 0 where
    pub scopes : known.scopes ≡ scope ∷ []
    pub struct_names : length known.struct_names ≡ n
    pub lists : lists_of known ≡ lists_of s.whole
    pub pointer_types : HavePointerTypes p n (lists_of s.whole)
    pub sizes : (t : ObjectType) → IsFormed n t → 1 ≤ cells_of_type s.whole t
    pub members : (k : ℕ) (name : Text) (m : Option ObjectType) → member_of known k name ≡ Some m → (t : ObjectType) × (m ≡ Some t) × IsFormed n t
    pub names : (name : Text) (m : Meaning) → entry_of scope name ≡ Some m → IsFileName s known.defined name m
    pub sites : s.sites ≡ p.sites

  -- definitions are sound
  abbrev pub DefinitionsAreSound : Source → Type 0
  DefinitionsAreSound s = (ns : List ℕ) (known : Known) (scope : Scope) (m : ℕ) (name : Name) (result : Option StarredType) (ps : List Formal) (parts : Parts)
      → Begins s known scope → IsGiven result → IsPlainResult result → FormalsListed (lists_of s.whole) ps → PartsListed (lists_of s.whole) parts → params_faults (opened known) true ps ≡ [] → parts_faults (after_params (opened known) ps) result false parts ≡ []
      → AreAmong ns (parts_addressed (numbered_from m ps) parts)
      → HaveSpots p s.sites (definition_spots (in_function name.text ns) (opened known) m ps parts)
      → IsSoundFunction p home (definition s ns (opened known) m name result ps parts)
