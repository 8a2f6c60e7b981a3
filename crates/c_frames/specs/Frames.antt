-- Where each formal and local of a function is kept, and what its core tree says of them (C99 6.9.1).
use Rattle.std.specs.Prelude.{ℕ, ◌+◌, nat_lt, Bool, false, not, ◌||◌, if◌then◌else◌, List, [], ◌∷◌, ◌++◌, length, map, Option, Some, None}
use Rattle.rr_base.specs.declared.layout.Site.{Site}
use Rattle.rr_base.specs.declared.position.Position.{Position}
use Rattle.c_tree.specs.declared.name.Name.{Name}
use Rattle.c_tree.specs.Tree.{Formal, formal, formal_pointer}
use Rattle.c_types.specs.declared.library.StarredType.{StarredType}
use Rattle.c_rules.specs.Faults.{name_place}
use Rattle.c_locals.specs.Kept.{is_kept}
use Rattle.c_locals.specs.Addresses.{is_among}
use Rattle.core_tree.specs.Core as core
use Rattle.c_operators.specs.declared.home.Home.{Home}
use Rattle.c_operators.specs.declared.home.Home.TheVariants as home
use Rattle.c_operators.specs.Context.{Frame, site_at}
use Rattle.c_values.specs.Calls.{gives_pointer}
use Rattle.c_frames.specs.declared.local.Local.{Local}
use Rattle.c_frames.specs.Locals.{local_at}

-- ---- the formals and locals of a function, in the order of the text

-- a formal without a name is never kept in cells
abbrev pub formal_at : Bool → Bool → Option Name → Position → Local
formal_at kept pointer None at = local_at false pointer at
formal_at kept pointer (Some name) at = local_at kept pointer (name_place name)

-- a formal of C99 6.7.5.3, by the specifier, stars and name that it has; a pointer to functions is a number
abbrev pub formal_of : Formal → Local
formal_of (formal s stars name at) = formal_at (is_kept s stars []) (nat_lt 0 stars) name at
formal_of (formal_pointer s stars name ps at) = local_at false false (name_place name)

-- those to which `&` is applied, by their numbers from n on, are kept in cells too
abbrev pub marked : List ℕ → ℕ → List Local → List Local
marked ns n [] = []
marked ns n (l ∷ ls) = record l { is_kept = l.is_kept || is_among ns n } ∷ marked ns (n + 1) ls

-- ---- where they are kept

-- to count those of which something holds
abbrev pub one_if : Bool → ℕ
one_if b = if b then 1 else 0

-- how many are kept in cells
abbrev pub kept_count : List Local → ℕ
kept_count [] = 0
kept_count (l ∷ ls) = one_if l.is_kept + kept_count ls

-- each formal has the next register, also one that is kept in cells
abbrev pub formal_homes : ℕ → ℕ → List Local → List Home
formal_homes r k [] = []
formal_homes r k (l ∷ ls) = (if l.is_kept then home.Object k else home.Register r) ∷ formal_homes (r + 1) (k + one_if l.is_kept) ls

-- unlike a formal, a local that is kept in cells takes no register
abbrev pub local_homes : ℕ → ℕ → List Local → List Home
local_homes r k [] = []
local_homes r k (l ∷ ls) = (if l.is_kept then home.Object k else home.Register r) ∷ local_homes (r + one_if (not l.is_kept)) (k + one_if l.is_kept) ls

-- registers and objects both have numbers from 0, formals before locals
abbrev pub homes_of : List Local → List Local → List Home
homes_of formals locals = formal_homes 0 0 formals ++ local_homes (length formals) (kept_count formals) locals

-- for locals in registers only, in the order of these
abbrev pub local_pointers : List Local → List Bool
local_pointers [] = []
local_pointers (l ∷ ls) = (if l.is_kept then [] else l.is_pointer ∷ []) ++ local_pointers ls

-- whether each register is a pointer
abbrev pub pointers_of : List Local → List Local → List Bool
pointers_of formals locals = map (λ l. l.is_pointer) formals ++ local_pointers locals

-- the site of each that is kept in cells
abbrev pub sites_of : List Site → List Local → List ℕ
sites_of sites [] = []
sites_of sites (l ∷ ls) = (if l.is_kept then site_at sites l.at ∷ [] else []) ++ sites_of sites ls

-- formals kept in cells, whose words first come in registers
abbrev pub arrivals_of : ℕ → ℕ → List Local → List core.Arrival
arrivals_of r k [] = []
arrivals_of r k (l ∷ ls) =
    (if l.is_kept then core.arrives r k l.at ∷ [] else []) ++ arrivals_of (r + 1) (k + one_if l.is_kept) ls

-- ---- a definition

-- the formals and locals have numbers from n on
abbrev pub frame_of : ℕ → List Local → List Local → Option StarredType → Frame
frame_of n formals locals result = record { first = n; homes = homes_of formals locals; gives_pointer = gives_pointer result }

-- of these formals and locals, with this body
abbrev pub function_by : List Site → Name → Option StarredType → List Local → List Local → core.Statement → core.Function
function_by sites name result formals locals body = record {
  name = name.text;
  place = name_place name;
  formals = length formals;
  pointers = pointers_of formals locals;
  objects = sites_of sites (formals ++ locals);
  arrivals = arrivals_of 0 0 formals;
  gives_pointer = gives_pointer result;
  body = body;
}
