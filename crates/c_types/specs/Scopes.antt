-- What a name means at its place in a source (C99 6.2.1, 6.2.3).
use Rattle.std.specs.Prelude.{ℕ, ◌+◌, nat_lt, min, Bool, true, false, ◌||◌, if◌then◌else◌, List, [], ◌∷◌, ◌++◌, map, drop, length, replicate, position, slice_get, Option, Some, None, is_some}
use Rattle.std.specs.Option.{option_map}
use Rattle.std.specs.Str.{bytes_eq}
use Rattle.rr_base.specs.Texts.{Text, entry_of}
use Rattle.c_tree.specs.declared.ctype.Specifier.{Specifier}
use Rattle.c_tree.specs.declared.ctype.Specifier.TheVariants as specifier
use Rattle.c_tree.specs.declared.ctype.CType.{CType}
use Rattle.c_types.specs.declared.types.BaseType.{BaseType}
use Rattle.c_types.specs.declared.types.BaseType.TheVariants as base
use Rattle.c_types.specs.declared.types.Layer.{Layer}
use Rattle.c_types.specs.declared.types.Layer.TheVariants as layer
use Rattle.c_types.specs.declared.types.ObjectType.{ObjectType}
use Rattle.c_types.specs.declared.names.Signature.{Signature}
use Rattle.c_types.specs.declared.names.PointerType.{PointerType}
use Rattle.c_types.specs.Types.{size_of_type}

-- a member of a struct. It has no type where its declaration has a fault
abbrev pub Members : Type 0
Members = List (Text × Option ObjectType)

-- what an ordinary name is declared as
pub data Meaning : Type 0 where
  variable : Option ObjectType → Meaning
  function_of : Signature → Meaning

-- the ordinary names of one block or of the file, the oldest first
abbrev pub Scope : Type 0
Scope = List (Text × Meaning)

-- what is known at a place of a source
pub record Known : Type 0 where
  -- the structs of the whole file, in the order of their definitions; the first ones are defined before the place
  pub struct_names : List Text
  pub structs : List Members
  -- how many cells each of these has
  pub sizes : List ℕ
  -- the functions that the file defines anywhere, and those whose definition has begun
  pub defined : List Text
  pub begun : List Text
  -- the types of the pointers to functions that the file declares, each once, in the order of their first declarations
  pub pointers : List PointerType
  -- the types of the file's functions, in the order of their declarations
  pub function_types : List Signature
  -- how many cells the globals have that are declared before the place
  pub global_cells : ℕ
  -- what is declared before the place, the innermost scope first, and in each the oldest name first
  pub scopes : List Scope

-- ---- ordinary names

-- the second counts only where there is no first
abbrev pub or_else : {A : Type 0} → Option A → Option A → Option A
or_else (Some x) other = Some x
or_else None other = other

-- a use of a name sees its newest declaration in the innermost scope that has one
abbrev pub seen_in : List Scope → Text → Option Meaning
seen_in [] name = None
seen_in (s ∷ ss) name = or_else (entry_of s name) (seen_in ss name)

-- what an ordinary name means at this place, if it is declared
abbrev pub seen : Known → Text → Option Meaning
seen known name = seen_in known.scopes name

-- the text is in the list, byte by byte
abbrev pub has_name : List Text → Text → Bool
has_name [] name = false
has_name (n ∷ ns) name = bytes_eq name n || has_name ns name

-- a function's number is that of its definition, which may stand anywhere in the file
abbrev pub function_numbered : Known → Text → Option ℕ
function_numbered known name = position (λ n. bytes_eq name n) known.defined

-- ---- types by name

-- a struct's number is that of its definition, which may stand anywhere in the file
abbrev pub struct_numbered : Known → Text → Option ℕ
struct_numbered known name = position (λ n. bytes_eq name n) known.struct_names

-- none where the file defines no such struct; a `pthread_t` is a number
abbrev pub base_of : Known → Specifier → Option BaseType
base_of known (specifier.Int at) = Some base.Int
base_of known (specifier.Long second int at) = Some base.Int
base_of known (specifier.Void at) = Some base.Void
base_of known (specifier.Struct name at) = option_map base.Struct (struct_numbered known name.text)
base_of known (specifier.PthreadT at) = Some base.Int
base_of known (specifier.PthreadMutexT at) = Some base.Mutex
base_of known (specifier.PthreadCondT at) = Some base.Cond
base_of known (specifier.PthreadBarrierT at) = Some base.Barrier
base_of known (specifier.PthreadRwlockT at) = Some base.RwLock

-- so many stars after a base
abbrev pub starred : ℕ → BaseType → ObjectType
starred n b = record { layers = replicate n layer.Pointer; base = b }

-- the type in a cast or a `sizeof`
abbrev pub type_named : Known → CType → Option ObjectType
type_named known t = option_map (starred t.stars) (base_of known t.specifier)

-- the member of a struct that is defined before the place
abbrev pub member_among : Option Members → Text → Option (Option ObjectType)
member_among None name = None
member_among (Some members) name = entry_of members name

-- none without such a member; a type of none where its declaration has a fault
abbrev pub member_of : Known → ℕ → Text → Option (Option ObjectType)
member_of known k name = member_among (slice_get known.structs k) name

-- the position of a name among those of a struct's members, counted from 0
abbrev pub numbered_among : Option Members → Text → Option ℕ
numbered_among None name = None
numbered_among (Some members) name = position (λ m. bytes_eq name m.0) members

-- by this number code addresses a member, counted from 0
abbrev pub member_numbered : Known → ℕ → Text → Option ℕ
member_numbered known k name = numbered_among (slice_get known.structs k) name

-- the types only, in order; no members where there is no struct
abbrev pub members_of : Option Members → List (Option ObjectType)
members_of None = []
members_of (Some members) = map (λ m. m.1) members

-- the member at a position in its struct, counted from 0
abbrev pub member_at : Known → ℕ → ℕ → Option (Option ObjectType)
member_at known k i = slice_get (members_of (slice_get known.structs k)) i

-- a type has a size: it isn't Void, nor a struct that is still to be defined, nor an array of these
abbrev pub is_complete_base : Known → BaseType → Bool
is_complete_base known base.Int = true
is_complete_base known base.Void = false
is_complete_base known (base.Struct k) = nat_lt k (length known.structs)
is_complete_base known (base.Function k) = true
is_complete_base known base.Mutex = true
is_complete_base known base.Cond = true
is_complete_base known base.Barrier = true
is_complete_base known base.RwLock = true

-- a pointer has a size whatever it points to
abbrev pub is_complete_layered : Known → List Layer → BaseType → Bool
is_complete_layered known [] b = is_complete_base known b
is_complete_layered known (layer.Pointer ∷ ls) b = true
is_complete_layered known (layer.Array n ∷ ls) b = is_complete_layered known ls b

-- an object may have the type, and `sizeof` apply to it (C99 6.2.5)
abbrev pub is_complete : Known → ObjectType → Bool
is_complete known t = is_complete_layered known t.layers t.base

-- ---- sizes

-- the greatest number of cells that one object may have
abbrev pub most_cells : ℕ
most_cells = 65535

-- a number of cells. More than one object may have count as one more than that: what has them is refused
abbrev pub counted_cells : ℕ → ℕ
counted_cells n = min n (most_cells + 1)

-- what `sizeof` gives: it counts cells, not bytes
abbrev pub cells_of_type : Known → ObjectType → ℕ
cells_of_type known t = counted_cells (size_of_type known.sizes t)

-- a type that isn't known counts as none
abbrev pub cells_of_some : Known → Option ObjectType → ℕ
cells_of_some known None = 0
cells_of_some known (Some t) = cells_of_type known t

-- ---- scopes

-- where a declaration at this place puts its name
abbrev pub innermost : List Scope → Scope
innermost [] = []
innermost (s ∷ ss) = s

-- a name is added after the others, but where it is there the older one stays
abbrev pub with_name : {A : Type 0} → List (Text × A) → Text → A → List (Text × A)
with_name es name x = if is_some (entry_of es name) then es else es ++ (name, x) ∷ []

-- into the innermost scope
abbrev pub declared_in : List Scope → Text → Meaning → List Scope
declared_in [] name m = []
declared_in (s ∷ ss) name m = with_name s name m ∷ ss

-- known after an ordinary name is declared at this place
abbrev pub declare : Known → Text → Meaning → Known
declare known name m = record known { scopes = declared_in known.scopes name m }

-- known where a block, a function or a `for` begins its scope
abbrev pub opened : Known → Known
opened known = record known { scopes = [] ∷ known.scopes }

-- known after the block, whose names are gone
abbrev pub closed : Known → Known
closed known = record known { scopes = drop 1 known.scopes }

-- a name is added after the others, but where it is there
abbrev pub with_text : List Text → Text → List Text
with_text names name = if has_name names name then names else names ++ name ∷ []
