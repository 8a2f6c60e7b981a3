-- Where pointers may point, whatever the order in which a code's instructions run (an inclusion-based points-to analysis).
-- Each register, and the cells of each place, have a set of places. The sets are the least ones that meet
-- the constraints of the code.
use Rattle.std.specs.Prelude.{◌≡◌, ◌↔◌, ℕ, ◌+◌, ◌%◌, ◌<◌, ◌==◌, nat_lt, ◌&&◌, ◌||◌, Bool, true, false, if◌then◌else◌, ℤ, pos, ◌+ℤ◌, ◌*ℤ◌, List, [], ◌∷◌, ◌++◌, length, take, drop, slice_get, slice_index_or, unsigned_abs, Option, Some, None}
use Rattle.std.specs.Int.{int_rem_euclid}
use Rattle.std.specs.List.{Contains}
use Rattle.rr_base.specs.Words.{site_of, class_of}
use Rattle.rr_base.specs.declared.layout.CellKind.{CellKind}
use Rattle.rr_base.specs.declared.layout.Place.{Place}
use Rattle.rr_base.specs.declared.layout.Site.{Site}
use Rattle.flow_code.specs.declared.act.Act.{Act}
use Rattle.flow_code.specs.declared.act.Act.TheVariants as act
use Rattle.flow_code.specs.declared.act.Instr.{Instr}
use Rattle.word_semantics.specs.declared.library_call.LibraryCall.{LibraryCall}
use Rattle.word_semantics.specs.declared.library_call.LibraryCall.TheVariants as call
use Rattle.flow_code.specs.declared.code.Code.{Code}
use Rattle.flow_code.specs.declared.code.Function.{Function}
use Rattle.flow_code.specs.declared.work.Work.{Work}
use Rattle.flow_code.specs.declared.work.Work.TheVariants as work
use Rattle.flow_code.specs.Addresses.{address_at}
use Rattle.word_semantics.specs.Pointers.{directed, site_at, base_at}
use Rattle.facts.specs.Blocks.{constant_at}
use Rattle.facts.specs.declared.constraint.Node.{Node}
use Rattle.facts.specs.declared.constraint.Node.TheVariants.{Register, Result, Ended, Cells}
use Rattle.facts.specs.declared.constraint.Constraint.{Constraint}
use Rattle.facts.specs.declared.constraint.Constraint.TheVariants.{Given, Included, Shifted, Strided, Loaded, Stored}

-- ---- places

-- all cells of one class in the objects that one site makes
abbrev pub place : ℕ → ℕ → Place
place site class = record { site = site; class = class }

-- how many cells one element has; 1 where there is no site
abbrev pub element_in : Option Site → ℕ
element_in None = 1
element_in (Some site) = site.layout.element

-- how many cells an element of the site's objects has
abbrev pub element_of : List Site → ℕ → ℕ
element_of sites s = element_in (site_at sites s)

-- the classes of a site: one for each cell of an element, or one alone if the element is large
abbrev pub classes_of : ℕ → ℕ
classes_of element = if nat_lt 64 element then 1 else element

-- which class of an element lies so many cells on, round its end
abbrev pub class_on : (element class : ℕ) → ℤ → ℕ
class_on element class by = if nat_lt 64 element then 0 else unsigned_abs (int_rem_euclid (pos class +ℤ by) (pos element))

-- the place so many cells on, in the same site
abbrev pub place_on : List Site → Place → ℤ → Place
place_on sites p by = place p.site (class_on (element_of sites p.site) p.class by)

-- where a class may come to lie by some number of steps of so many cells: it stays if these are whole elements, and may
-- be any class of the site otherwise
abbrev pub IsReached : Bool → (element from to : ℕ) → Type 0
IsReached true element from to = to ≡ from
IsReached false element from to = to < classes_of element

-- steps of so many cells lead to the same cell of another element
abbrev pub are_whole_elements : (stride element : ℕ) → Bool
are_whole_elements stride element = stride % element == 0

-- ---- the constraints of an instruction

-- a pointer that is moved by a number of elements of so many cells, which may be a constant
abbrev pub move_constraint : Node → Node → Option ℤ → (element : ℕ) → Bool → Constraint
move_constraint from to None element back = Strided from to element
move_constraint from to (Some z) element back = Shifted from to z element back

-- A copy passes on what the register has. A cast to a number passes on nothing, and one to a pointer points nowhere.
abbrev pub work_constraints : (f : ℕ) → List Instr → (k into : ℕ) → Work → List Constraint
work_constraints f is k into (work.Address w) = Given (Register f into) (place (site_of w) 0) ∷ []
work_constraints f is k into (work.Copy r) = Included (Register f r) (Register f into) ∷ []
work_constraints f is k into (work.Move r by element back) = move_constraint (Register f r) (Register f into) (constant_at is k by) element back ∷ []
work_constraints f is k into (work.Member r by) = Shifted (Register f r) (Register f into) (pos by) 1 false ∷ []
work_constraints f is k into _ = []

-- the arguments of a call go to the formals from i on
abbrev pub argument_constraints : (f : ℕ) → List ℕ → (g i : ℕ) → List Constraint
argument_constraints f [] g i = []
argument_constraints f (r ∷ rs) g i = Included (Register f r) (Register g i) ∷ argument_constraints f rs g (i + 1)

-- the register that gets the call's value may point where g's results do
abbrev pub result_constraints : (f g : ℕ) → Option ℕ → List Constraint
result_constraints f g None = []
result_constraints f g (Some into) = Included (Result g) (Register f into) ∷ []

-- A started function gets its argument and gives its result to those that join the thread; `pthread_exit` gives one too.
-- `pthread_join` stores what it is given.
abbrev pub library_constraints : (f : ℕ) → LibraryCall → List ℕ → List Constraint
library_constraints f (call.Create g) (thread ∷ argument ∷ []) = Included (Register f argument) (Register g 0) ∷ Included (Result g) Ended ∷ []
library_constraints f call.Join (thread ∷ into ∷ []) = Stored (Register f into) Ended ∷ []
library_constraints f call.Exit (value ∷ []) = Included (Register f value) Ended ∷ []
library_constraints f _ _ = []

-- function f's results may point where the returned register does
abbrev pub return_constraints : (f : ℕ) → Option ℕ → List Constraint
return_constraints f None = []
return_constraints f (Some r) = Included (Register f r) (Result f) ∷ []

-- those of the k-th instruction of function f, whose instructions these are
abbrev pub act_constraints : (f : ℕ) → List Instr → (k : ℕ) → Act → List Constraint
act_constraints f is k (act.Compute into w) = work_constraints f is k into w
act_constraints f is k (act.Alloc into site size) = Given (Register f into) (place site 0) ∷ []
act_constraints f is k (act.LoadCell into through) = Loaded (Register f through) (Register f into) ∷ []
act_constraints f is k (act.StoreCell through from) = Stored (Register f through) (Register f from) ∷ []
act_constraints f is k (act.Call g arguments into) = argument_constraints f arguments g 0 ++ result_constraints f g into
act_constraints f is k (act.Library c arguments into) = library_constraints f c arguments
act_constraints f is k (act.Return value) = return_constraints f value
act_constraints f is k _ = []

-- ---- the constraints of a code

-- those of the last instructions, the first of which is the k-th
abbrev pub instrs_constraints : (f : ℕ) → List Instr → (k : ℕ) → List Instr → List Constraint
instrs_constraints f is k [] = []
instrs_constraints f is k (i ∷ rest) = act_constraints f is k i.act ++ instrs_constraints f is (k + 1) rest

-- those of these functions, numbered from f on
abbrev pub functions_constraints : (f : ℕ) → List Function → List Constraint
functions_constraints f [] = []
functions_constraints f (fn ∷ fns) = instrs_constraints f fn.instrs 0 fn.instrs ++ functions_constraints (f + 1) fns

-- where a cell points at the start
abbrev pub word_constraints : (s element offset : ℕ) → Option ℕ → List Constraint
word_constraints s element offset None = []
word_constraints s element offset (Some w) = Given (Cells (place s (class_of element offset))) (place (site_of w) 0) ∷ []

-- the pointers that the cells of an object from this offset on hold at the start
abbrev pub cells_constraints : (s element offset : ℕ) → List CellKind → List ℕ → List Constraint
cells_constraints s element offset [] ws = []
cells_constraints s element offset (k ∷ ks) [] = []
cells_constraints s element offset (k ∷ ks) (w ∷ ws) = word_constraints s element offset (address_at k w) ++ cells_constraints s element (offset + 1) ks ws

-- where the cells of one global point at the start; no global, none
abbrev pub object_constraints : Code → (s : ℕ) → Site → Option ℕ → List Constraint
object_constraints code s site None = []
object_constraints code s site (Some base) = cells_constraints s site.layout.element 0 (take site.layout.size (drop base code.global_kinds)) (drop base code.globals)

-- those of the global objects of these sites, numbered from s on
abbrev pub sites_constraints : Code → (s : ℕ) → List Site → List Constraint
sites_constraints code s [] = []
sites_constraints code s (site ∷ sites) = object_constraints code s site (base_at code.global_bases s) ++ sites_constraints code (s + 1) sites

-- those of all functions' instructions and all globals' initial values
abbrev pub constraints_of : Code → List Constraint
constraints_of code = functions_constraints 0 code.functions ++ sites_constraints code 1 code.sites

-- ---- the least sets

-- which node may point to which place, by these constraints
pub data May (sites : List Site) (cs : List Constraint) : Node → Place → Type 0 where
  given : {n : Node} {p : Place} → Contains cs (Given n p) → May sites cs n p
  included : {a b : Node} {p : Place} → Contains cs (Included a b) → May sites cs a p → May sites cs b p
  shifted : {a b : Node} {by : ℤ} {element : ℕ} {back : Bool} {p : Place} → Contains cs (Shifted a b by element back) → May sites cs a p → May sites cs b (place_on sites p (directed back by *ℤ pos element))
  strided : {a b : Node} {stride : ℕ} {p : Place} (class : ℕ) → Contains cs (Strided a b stride) → May sites cs a p → IsReached (are_whole_elements stride (element_of sites p.site)) (element_of sites p.site) p.class class → May sites cs b (place p.site class)
  loaded : {a b : Node} {o p : Place} → Contains cs (Loaded a b) → May sites cs a o → May sites cs (Cells o) p → May sites cs b p
  stored : {a b : Node} {o p : Place} → Contains cs (Stored a b) → May sites cs a o → May sites cs b p → May sites cs (Cells o) p

-- some order of the code's instructions may make the node point there
abbrev pub MayPoint : Code → Node → Place → Type 0
MayPoint code n p = May code.sites (constraints_of code) n p

-- ---- the sets as lists

-- the order of places in a list: by site, then by class
abbrev pub is_before : Place → Place → Bool
is_before p q = nat_lt p.site q.site || ((p.site == q.site) && nat_lt p.class q.class)

-- each place comes before the next: by site, and then by class
abbrev pub are_ascending : List Place → Bool
are_ascending [] = true
are_ascending (p ∷ []) = true
are_ascending (p ∷ q ∷ ps) = is_before p q && are_ascending (q ∷ ps)

-- the list has each place of the set once, in order
pub record Lists (Set : Place → Type 0) (ps : List Place) : Type 0 where
  pub ascending : are_ascending ps ≡ true
  pub of : (p : Place) → Contains ps p ↔ Set p

-- a list for each register of each function, and for each class of each site
pub record Tables : Type 0 where
  pub registers : List (List (List Place))
  pub cells : List (List (List Place))

-- the places listed for row i, entry j; none where the table ends before
abbrev pub list_at : List (List (List Place)) → ℕ → ℕ → List Place
list_at rows i j = slice_index_or (slice_index_or rows i []) j []

-- the tables have a list for each register of each function
pub record HasRegisters (code : Code) (t : Tables) : Type 0 where
  pub functions : length t.registers ≡ length code.functions
  pub registers : (f : ℕ) (fn : Function) → slice_get code.functions f ≡ Some fn → length (slice_index_or t.registers f []) ≡ fn.registers

-- the lists of a code's registers and places are those to which they may point
pub record IsPointsTo (code : Code) (t : Tables) : Type 0 where
  pub functions : length t.registers ≡ length code.functions
  pub registers : (f : ℕ) (fn : Function) → slice_get code.functions f ≡ Some fn → length (slice_index_or t.registers f []) ≡ fn.registers
  pub sites : length t.cells ≡ length code.sites
  pub classes : (s : ℕ) (site : Site) → slice_get code.sites s ≡ Some site → length (slice_index_or t.cells s []) ≡ classes_of site.layout.element
  pub of_registers : (f r : ℕ) → Lists (MayPoint code (Register f r)) (list_at t.registers f r)
  pub of_cells : (s c : ℕ) → Lists (MayPoint code (Cells (place (s + 1) c))) (list_at t.cells s c)
