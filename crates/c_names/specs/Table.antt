-- What the table of names knows.
use Rattle.std.specs.Prelude.{List, map, reverse, Option}
use Rattle.std.specs.Borrow.{Bor}
use Rattle.indexmap.specs.IndexMap.{IndexMap}
use Rattle.rr_base.specs.Texts.{Text}
use Rattle.c_types.specs.declared.types.ObjectType.{ObjectType}
use Rattle.c_names.specs.declared.table.Declared.{Declared}
use Rattle.c_names.specs.declared.table.Declared.TheVariants as declared
use Rattle.c_types.specs.Scopes.{Known, Members, Scope, Meaning, variable, function_of}
use Rattle.c_names.specs.declared.table.Table.{Table}

-- the table borrows its names from the source
abbrev pub texts_of : List (Bor Text) → List Text
texts_of names = map (λ n. n.now) names

-- what a declared name in the table is
abbrev pub meaning_of : Declared → Meaning
meaning_of (declared.Variable t) = variable t
meaning_of (declared.Function f) = function_of f

-- of a struct that is defined, as the table keeps them
abbrev pub members_of : List (Bor Text × Option ObjectType) → Members
members_of entries = map (λ m. (m.0.now, m.1)) entries

-- in the order of declaration, as the map keeps it
abbrev pub scope_of : List (Bor Text × Declared) → Scope
scope_of entries = map (λ d. (d.0.now, meaning_of d.1)) entries

-- the table keeps the innermost scope last
abbrev pub scopes_of : {S : Type 0} → List (IndexMap (Bor Text) Declared S) → List Scope
scopes_of scopes = reverse (map (λ s. scope_of s.entries) scopes)

-- what the table holds at a place, in the words of the rules
abbrev pub known_of : Table → Known
known_of t = record {
  struct_names = texts_of t.struct_names.keys;
  structs = map (λ s. members_of s.entries) t.structs;
  sizes = t.sizes;
  defined = texts_of t.defined.keys;
  begun = texts_of t.begun.keys;
  pointers = t.pointers;
  function_types = t.function_types;
  global_cells = t.global_cells;
  scopes = scopes_of t.scopes;
}
