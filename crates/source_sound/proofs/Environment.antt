-- What is known where an expression stands fits the core tree: names lead to registers, objects and globals that are there
-- and are of the kind that their types tell.
use Rattle.std.specs.Prelude.{◌≡◌, ℕ, ◌<◌, ◌≤◌, Bool, true, false, List, [], ◌∷◌, Option, Some, None}
use Rattle.rr_base.specs.Texts.{Text}
use Rattle.rr_base.specs.declared.position.Position.{Position}
use Rattle.c_types.specs.declared.types.BaseType.{BaseType}
use Rattle.c_types.specs.declared.types.BaseType.TheVariants as base
use Rattle.c_types.specs.declared.types.Layer.{Layer}
use Rattle.c_types.specs.declared.types.Layer.TheVariants as layer
use Rattle.c_types.specs.declared.types.ObjectType.{ObjectType}
use Rattle.c_types.specs.declared.library.Wanted.{Wanted}
use Rattle.c_types.specs.declared.library.Wanted.TheVariants as wants
use Rattle.c_types.specs.declared.names.Signature.{Signature}
use Rattle.c_types.specs.declared.library.StarredType.{StarredType}
use Rattle.c_types.specs.Constants.{constant_named}
use Rattle.c_types.specs.Library.{starred_type}
use Rattle.c_types.specs.Scopes.{Meaning, variable, function_of, seen, has_name, member_of, struct_numbered, function_numbered, cells_of_type}
use Rattle.c_types.specs.Operands.{Standing, zero_literal, null_literal, a_place, operand_of}
use Rattle.c_types.specs.Standing.{Target, no_target, some_target, target_of, type_struct, type_function, is_main}
use Rattle.c_types.specs.Signatures.{type_numbered, signature_numbered}
use Rattle.c_spots.specs.Spots.{Spot}
use Rattle.core_tree.specs.Core.{Function, Program}
use Rattle.core_tree.specs.Meaning.{is_pointer}
use Rattle.c_operators.specs.Denoted.{Denoted, denoted_register, denoted_cells, denoted_zero, denoted_null, denoted_value, is_pointing}
use Rattle.c_operators.specs.declared.home.Home.{Home}
use Rattle.c_operators.specs.declared.home.Home.TheVariants as kept
use Rattle.c_operators.specs.Context.{Context, home_of, home_numbered, site_at, function_counted, pointer_counted}
use Rattle.c_operators.specs.Operators.{is_some_address}
use Rattle.c_values.specs.Calls.{is_pointer_wanted, gives_pointer}
use Rattle.c_values.specs.Expressions.{variable_denoted}
use Rattle.core_tree.specs.Sound.{IsPointer, IsFunction, IsPointerType, HasSite, HasRegister, IsSoundExp}

-- ---- types

-- the base is Void only behind a pointer, structs are those of the file, and no array is empty
abbrev pub IsFormedBase : (structs : ℕ) → BaseType → Type 0
IsFormedBase n base.Void = ⊥
IsFormedBase n (base.Struct k) = k < n
IsFormedBase n _ = Unit {0}

abbrev pub IsFormedPointee : (structs : ℕ) → BaseType → Type 0
IsFormedPointee n base.Void = Unit {0}
IsFormedPointee n b = IsFormedBase n b

abbrev pub IsFormedLayered : (structs : ℕ) → List Layer → BaseType → Type 0
IsFormedLayered n [] b = IsFormedBase n b
IsFormedLayered n (layer.Array m ∷ ls) b = (1 ≤ m) × IsFormedLayered n ls b
-- behind a pointer may stand Void
IsFormedLayered n (layer.Pointer ∷ []) b = IsFormedPointee n b
IsFormedLayered n (layer.Pointer ∷ layer.Pointer ∷ ls) b = IsFormedLayered n (layer.Pointer ∷ ls) b
IsFormedLayered n (layer.Pointer ∷ layer.Array m ∷ ls) b = (1 ≤ m) × IsFormedLayered n ls b

-- a type of an object, or to which a pointer points
abbrev pub IsFormed : (structs : ℕ) → ObjectType → Type 0
IsFormed n t = IsFormedLayered n t.layers t.base

-- the type is formed, or Void, as a value that a function gives or to which a pointer points
abbrev pub IsFormedOrVoid : (structs : ℕ) → ObjectType → Type 0
IsFormedOrVoid n t = IsFormedLayered n (layer.Pointer ∷ t.layers) t.base

-- a type of a value: no struct or array is one
abbrev pub IsFormedGiven : (structs : ℕ) → List Layer → BaseType → Type 0
IsFormedGiven n [] (base.Struct k) = ⊥
IsFormedGiven n [] _ = Unit {0}
IsFormedGiven n (layer.Pointer ∷ ls) b = IsFormedLayered n (layer.Pointer ∷ ls) b
IsFormedGiven n (layer.Array m ∷ ls) b = ⊥

abbrev pub IsFormedValue : (structs : ℕ) → ObjectType → Type 0
IsFormedValue n t = IsFormedGiven n t.layers t.base

-- what a function gives is known, and is formed
abbrev pub IsFormedResult : (structs : ℕ) → Option StarredType → Type 0
IsFormedResult n None = ⊥
IsFormedResult n (Some t) = IsFormedValue n (starred_type t)

-- what a `malloc` is to make an object of is known, and is formed
abbrev pub IsFormedTarget : (structs : ℕ) → Target → Type 0
IsFormedTarget n no_target = Unit {0}
IsFormedTarget n some_target = ⊥
IsFormedTarget n (target_of t) = IsFormed n t

-- ---- what `&` is applied to, and the places of allocations

abbrev pub IsKept : Option Home → Type 0
IsKept (Some (kept.Register n)) = ⊥
IsKept _ = Unit {0}

-- no formal or local with one of these numbers is in a register
abbrev pub AreKept : Context → List ℕ → Type 0
AreKept h [] = Unit {0}
AreKept h (n ∷ ns) = IsKept (home_numbered h.frame (Some n)) × AreKept h ns

abbrev pub places_of : List Spot → List Position
places_of [] = []
places_of (s ∷ ss) = s.at ∷ places_of ss

-- ---- what stands for an expression

module _ (p : Program) (home : ℕ → Option ℕ) (f : Function) where
  -- it is an object that a name or a pointer leads to
  abbrev pub IsObject : Standing → Type 0
  IsObject (a_place t) = Unit {0}
  IsObject _ = ⊥

  -- the register, cells, literal or value is there, and is of the kind that is known of the expression
  abbrev pub DenotedFits : Standing → Denoted → Type 0
  DenotedFits s (denoted_register n at) = IsObject s × HasRegister p home f n (is_pointing (operand_of s))
  DenotedFits s (denoted_cells e at) = IsObject s × IsPointer e × IsSoundExp p home f e
  DenotedFits s (denoted_zero at) = s ≡ zero_literal
  DenotedFits s (denoted_null at) = s ≡ null_literal
  DenotedFits s (denoted_value e) = (is_pointer e ≡ is_some_address (operand_of s)) × IsSoundExp p home f e

  -- whether an argument of the kind that is wanted is a pointer; an attribute is none
  abbrev pub wanted_kinds : List Wanted → List Bool
  wanted_kinds [] = []
  wanted_kinds (wants.Fits t ∷ ws) = is_pointer_wanted t ∷ wanted_kinds ws
  wanted_kinds (_ ∷ ws) = wanted_kinds ws

  -- each parameter's type is known
  abbrev pub AreFitting : List Wanted → Type 0
  AreFitting [] = Unit {0}
  AreFitting (wants.Fits t ∷ ws) = AreFitting ws
  AreFitting (_ ∷ ws) = ⊥

  -- a function that is called or started by its name
  pub record CallSuits (h : Context) (name : Text) (g : Signature) : Type 0 where
    pub params : AreFitting g.params
    pub callable : IsFunction p (function_counted (function_numbered h.known name)) (wanted_kinds g.params) (gives_pointer g.result)

  -- what is called through a pointer of the type with the number
  pub record PointerSuits (structs : ℕ) (h : Context) (k : ℕ) (g : Signature) : Type 0 where
    pub params : AreFitting g.params
    pub result : IsFormedResult structs g.result
    pub callable : IsPointerType p (pointer_counted h.known k) (false ∷ wanted_kinds g.params) (gives_pointer g.result)

  -- the names in reach, and the sizes and members of structs
  pub record Suits (h : Context) : Type 0 where
    -- the structs of the file
    pub structs : ℕ
    pub sizes : (t : ObjectType) → IsFormed structs t → 1 ≤ cells_of_type h.source.whole t
    pub members : (k : ℕ) (name : Text) (m : Option ObjectType) → member_of h.known k name ≡ Some m → (t : ObjectType) × (m ≡ Some t) × IsFormed structs t
    -- a struct that is named is one of the file
    pub names : (name : Text) (k : ℕ) → struct_numbered h.known name ≡ Some k → k < structs
    -- no name of the source is a constant of the library
    pub own : (name : Text) (m : Meaning) → seen h.known name ≡ Some m → constant_named name ≡ None
    -- no name is of a type with a fault
    pub typed : (name : Text) → seen h.known name ≡ Some (variable None) → ⊥
    pub formed : (name : Text) (t : ObjectType) → seen h.known name ≡ Some (variable (Some t)) → IsFormed structs t
    pub variables : (name : Text) (t : ObjectType) (at : Position) → seen h.known name ≡ Some (variable (Some t)) → DenotedFits (a_place t) (variable_denoted h name (home_of h name) at)
    -- no struct is in a register
    pub registers : (name : Text) (t : ObjectType) (n : ℕ) → seen h.known name ≡ Some (variable (Some t)) → home_of h name ≡ Some (kept.Register n) → type_struct t ≡ None
    pub results : (name : Text) (g : Signature) → seen h.known name ≡ Some (function_of g) → IsFormedResult structs g.result
    pub functions : (name : Text) (g : Signature) → seen h.known name ≡ Some (function_of g) → has_name h.known.defined name ≡ true → is_main name ≡ false → CallSuits h name g
    -- what is called through a variable is a type of pointers of the program
    pub pointers : (name : Text) (t : ObjectType) (k : ℕ) (g : Signature) → seen h.known name ≡ Some (variable (Some t)) → type_function t ≡ Some k → signature_numbered h.known k ≡ Some g → PointerSuits structs h k g
    -- a function's type has a number
    pub numbered : (name : Text) (g : Signature) → seen h.known name ≡ Some (function_of g) → (k : ℕ) × (type_numbered h.known g ≡ Some k)

  -- each of these places is that of a site
  abbrev pub HaveSites : Context → List Position → Type 0
  HaveSites h [] = Unit {0}
  HaveSites h (at ∷ ats) = HasSite p (site_at h.source.sites at) × HaveSites h ats
