-- The types of the pointers to functions of a source, and to which functions each may point (C99 6.7.5.3).
use Rattle.std.specs.Prelude.{ℕ, ◌+◌, ◌==◌, Bool, false, not, ◌&&◌, if◌then◌else◌, List, [], ◌∷◌, ◌++◌, map, Option, Some, None}
use Rattle.rr_base.specs.Texts.{Text}
use Rattle.c_types.specs.declared.library.Wanted.{Wanted}
use Rattle.c_types.specs.declared.library.Wanted.TheVariants as wants
use Rattle.c_types.specs.declared.names.PointerType.{PointerType}
use Rattle.c_types.specs.Scopes.{Known, Meaning, variable, function_of, seen, has_name}
use Rattle.c_types.specs.Signatures.{pointer_numbered}
use Rattle.c_types.specs.Standing.{is_main}
use Rattle.core_tree.specs.Core as core
use Rattle.c_operators.specs.Denoted.{position_of}
use Rattle.c_values.specs.Calls.{is_pointer_wanted, gives_pointer}

-- ---- functions

-- the number of the pointers to what a name means
abbrev pub pointed_by : Known → Option Meaning → Option ℕ
pointed_by known (Some (function_of f)) = pointer_numbered known f
pointed_by known (Some (variable t)) = None
pointed_by known None = None

-- the number of the pointers that may point to the function: none unless its name stands as a value somewhere
abbrev pub target_type : Known → List Text → Text → Option ℕ
target_type known taken name = if has_name taken name && not (is_main name) then pointed_by known (seen known name) else None

-- the same of each function that the source defines, by its number
abbrev pub target_types : Known → List Text → List (Option ℕ)
target_types known taken = map (target_type known taken) known.defined

-- a function to which no pointer may point has no number
abbrev pub is_numbered : ℕ → Option ℕ → Bool
is_numbered k None = false
is_numbered k (Some j) = j == k

-- the functions with this number of pointers, the first of all having the number n
abbrev pub targets_from : ℕ → ℕ → List (Option ℕ) → List ℕ
targets_from k n [] = []
targets_from k n (t ∷ ts) = (if is_numbered k t then n ∷ [] else []) ++ targets_from k (n + 1) ts

-- ---- types

-- a parameter is a pointer to an object; one that has a fault is none
abbrev pub is_pointer_kind : Wanted → Bool
is_pointer_kind (wants.Fits t) = is_pointer_wanted t
is_pointer_kind wants.Anything = false
is_pointer_kind wants.Attribute = false
is_pointer_kind wants.Root = false
is_pointer_kind wants.Text = false

-- the type with the number k, where the functions may be pointed to by pointers of these numbers
abbrev pub pointer_type : List (Option ℕ) → ℕ → PointerType → core.Pointer
pointer_type ts k p = record {
  kinds = map is_pointer_kind p.signature.params;
  gives_pointer = gives_pointer p.signature.result;
  place = position_of p.at;
  targets = targets_from k 0 ts;
}

-- types, the first of which has the number k
abbrev pub pointer_types : List (Option ℕ) → ℕ → List PointerType → List core.Pointer
pointer_types ts k [] = []
pointer_types ts k (p ∷ ps) = pointer_type ts k p ∷ pointer_types ts (k + 1) ps

-- those of a source after which so much is known, and in which these names stand as values
abbrev pub source_pointers : Known → List Text → List core.Pointer
source_pointers known taken = pointer_types (target_types known taken) 0 known.pointers
