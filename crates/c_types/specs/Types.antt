-- Types, and the cells of which their objects consist (C99 6.2.5).
use Rattle.std.specs.Prelude.{ℕ, zero, suc, ◌*◌, Bool, true, false, List, [], ◌∷◌, ◌++◌, length, slice_get, unwrap_or}
use Rattle.rr_base.specs.declared.layout.CellKind.{CellKind}
use Rattle.rr_base.specs.declared.layout.CellKind.TheVariants as cell
use Rattle.rr_base.specs.declared.layout.Layout.{Layout}
use Rattle.c_types.specs.declared.types.BaseType.{BaseType}
use Rattle.c_types.specs.declared.types.BaseType.TheVariants as base
use Rattle.c_types.specs.declared.types.Layer.{Layer}
use Rattle.c_types.specs.declared.types.Layer.TheVariants as layer
use Rattle.c_types.specs.declared.types.ObjectType.{ObjectType}

-- a type that has no layers
abbrev pub bare : BaseType → ObjectType
bare b = record { layers = []; base = b }

-- a number of 64 bits: `int`, `long` and `pthread_t`
abbrev pub int_type : ObjectType
int_type = bare base.Int

-- the new layer is the outermost
abbrev pub pointer_to : ObjectType → ObjectType
pointer_to t = record { layers = layer.Pointer ∷ t.layers; base = t.base }

-- so many elements of the type, one after another
abbrev pub array_of : ℕ → ObjectType → ObjectType
array_of n t = record { layers = layer.Array n ∷ t.layers; base = t.base }

-- the outermost layer is an array's
abbrev pub layered_is_array : List Layer → Bool
layered_is_array [] = false
layered_is_array (layer.Pointer ∷ ls) = false
layered_is_array (layer.Array n ∷ ls) = true

-- ---- cells, where each struct has the given ones

-- a list so many times over
abbrev pub repeated : {A : Type 0} → ℕ → List A → List A
repeated zero xs = []
repeated (suc n) xs = xs ++ repeated n xs

-- `void` and a struct that isn't known have no cells
abbrev pub base_kinds : List (List CellKind) → BaseType → List CellKind
base_kinds structs base.Int = cell.Whole ∷ []
base_kinds structs base.Void = []
base_kinds structs (base.Struct k) = unwrap_or (slice_get structs k) []
base_kinds structs (base.Function k) = cell.Whole ∷ []
base_kinds structs base.Mutex = cell.Mutex ∷ []
base_kinds structs base.Cond = cell.Cond ∷ []
base_kinds structs base.Barrier = cell.Barrier ∷ []
base_kinds structs base.RwLock = cell.Rw ∷ []

-- a pointer takes one cell whatever it points to
abbrev pub layered_kinds : List (List CellKind) → List Layer → BaseType → List CellKind
layered_kinds structs [] b = base_kinds structs b
layered_kinds structs (layer.Pointer ∷ ls) b = cell.Pointer ∷ []
layered_kinds structs (layer.Array n ∷ ls) b = repeated n (layered_kinds structs ls b)

-- the kind of each cell of an object, in order
abbrev pub kinds_of_type : List (List CellKind) → ObjectType → List CellKind
kinds_of_type structs t = layered_kinds structs t.layers t.base

-- the size of the innermost type that is no array
abbrev pub layered_element : List (List CellKind) → List Layer → BaseType → ℕ
layered_element structs [] b = length (base_kinds structs b)
layered_element structs (layer.Pointer ∷ ls) b = 1
layered_element structs (layer.Array n ∷ ls) b = layered_element structs ls b

-- sizes in cells; an array of arrays counts by its innermost elements
abbrev pub layout_of_type : List (List CellKind) → ObjectType → Layout
layout_of_type structs t = record {
  size = length (kinds_of_type structs t);
  element = layered_element structs t.layers t.base;
  kinds = kinds_of_type structs t;
}

-- ---- structs, each by the types of its members

-- a struct's cells are those of its members, one after another
abbrev pub members_kinds : List (List CellKind) → List ObjectType → List CellKind
members_kinds structs [] = []
members_kinds structs (t ∷ ts) = kinds_of_type structs t ++ members_kinds structs ts

-- the cells of each struct, where those of the first are known: a struct holds earlier ones only
abbrev pub kinds_after : List (List CellKind) → List (List ObjectType) → List (List CellKind)
kinds_after known [] = known
kinds_after known (s ∷ more) = kinds_after (known ++ members_kinds known s ∷ []) more

-- the cells of each struct, given the types of its members
abbrev pub struct_kinds : List (List ObjectType) → List (List CellKind)
struct_kinds structs = kinds_after [] structs

-- ---- sizes, where each struct has the given one

-- in cells: one each but for `void` and structs
abbrev pub base_size : List ℕ → BaseType → ℕ
base_size sizes base.Int = 1
base_size sizes base.Void = 0
base_size sizes (base.Struct k) = unwrap_or (slice_get sizes k) 0
base_size sizes (base.Function k) = 1
base_size sizes base.Mutex = 1
base_size sizes base.Cond = 1
base_size sizes base.Barrier = 1
base_size sizes base.RwLock = 1

-- in cells, the layers taken from the outermost
abbrev pub layered_size : List ℕ → List Layer → BaseType → ℕ
layered_size sizes [] b = base_size sizes b
layered_size sizes (layer.Pointer ∷ ls) b = 1
layered_size sizes (layer.Array n ∷ ls) b = n * layered_size sizes ls b

-- how many cells an object takes, without a bound
abbrev pub size_of_type : List ℕ → ObjectType → ℕ
size_of_type sizes t = layered_size sizes t.layers t.base
