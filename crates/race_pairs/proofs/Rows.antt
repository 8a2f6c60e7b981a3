-- Worked rows of roots, places, locks, pairs and their order.
use Rattle.std.proofs.Common.{◌≡◌, ℕ, true, false, List, [], ◌∷◌, Some, None, refl, codes}
use Rattle.rr_base.specs.declared.layout.Place.{Place}
use Rattle.flow_code.specs.declared.act.Act.{Act}
use Rattle.flow_code.specs.declared.act.Act.TheVariants as act
use Rattle.word_semantics.specs.declared.library_call.LibraryCall.TheVariants as call
use Rattle.flow_code.specs.declared.act.Instr.{Instr}
use Rattle.flow_code.specs.declared.code.Code.{Code}
use Rattle.flow_code.specs.declared.code.Function.{Function}
use Rattle.facts.specs.Accesses.{access_of}
use Rattle.facts.specs.declared.locks.Guarded.{Guarded}
use Rattle.sync_objects.specs.declared.mode.Mode.TheVariants.{Read, Write}
use Rattle.facts.specs.declared.locks.Held.{Held}
use Rattle.facts.specs.declared.locks.LockPath.TheVariants.{Cell, Formal}
use Rattle.facts.specs.declared.locks.Minus.TheVariants as minus
use Rattle.facts.specs.declared.pair.AccessAt.{AccessAt}
use Rattle.facts.specs.declared.pair.Pair.{Pair}
use Rattle.facts.specs.PointsTo.{Tables}
use Rattle.facts.specs.Locks.{held_as}
use Rattle.facts.specs.Pairs.{is_root, places_of, share_lock, pair_less, pairs_ascend}
use Rattle.facts.specs.Pairs as facts_pairs
use Rattle.facts.specs.Accesses.{through_of}
use Rattle.race_pairs.specs.Touches.{reached}
use Rattle.race_pairs.specs.Races.{alone, may_meet, pair_of}

abbrev instr : Act → Instr
instr a = record { at = record { line = 1; column = 1 }; act = a }

abbrev function : List ℕ → List Instr → Function
function name is = record { name = name; line = 1; formals = 0; registers = 2; pointers = []; gives_pointer = false; instrs = is; loops = []; regions = [] }

-- `inc` loads and stores a counter; `main` starts it and loads the counter; nothing starts `helper`
abbrev code : Code
code = record {
  functions = function (codes "inc") (instr (act.LoadCell 1 0) ∷ instr (act.StoreCell 0 1) ∷ [])
      ∷ function (codes "main") (instr (act.Library (call.Create 0) (1 ∷ 1 ∷ []) None) ∷ instr (act.LoadCell 1 0) ∷ [])
      ∷ function (codes "helper") (instr (act.Library call.Join (1 ∷ 0 ∷ []) None) ∷ [])
      ∷ [];
  sites = [];
  globals = [];
  global_kinds = [];
  global_bases = [];
  locks = [];
}

abbrev x : Place
x = record { site = 1; class = 0 }

-- the first register of each function points to the counter
abbrev tables : Tables
tables = record { registers = ((x ∷ []) ∷ [] ∷ []) ∷ ((x ∷ []) ∷ [] ∷ []) ∷ ((x ∷ []) ∷ [] ∷ []) ∷ []; cells = [] }

abbrev at : (function instr : ℕ) → AccessAt
at f k = record { function = f; instr = k }

-- ---- roots

pub main_row : is_root code 1 ≡ true
main_row = refl

pub started_row : is_root code 0 ≡ true
started_row = refl

pub helper_row : is_root code 2 ≡ false
helper_row = refl

pub main_alone_row : facts_pairs.may_meet code 1 1 ≡ false
main_alone_row = refl

pub two_threads_row : facts_pairs.may_meet code 0 0 ≡ true
two_threads_row = refl

-- ---- places

pub load_row : places_of code tables (at 1 1) ≡ x ∷ []
load_row = refl

-- a creation stores the thread's number, a join what the thread gave
pub create_row : places_of code tables (at 1 0) ≡ []
create_row = refl

pub join_row : places_of code tables (at 2 0) ≡ x ∷ []
join_row = refl

pub nowhere_row : places_of code tables (at 2 1) ≡ []
nowhere_row = refl

pub through_row : through_of (access_of (act.StoreCell 4 5)) ≡ Some 4
through_row = refl

-- ---- locks

-- the second cell is held for writing by the one, and by the other in some way
pub shared_row : share_lock (held_as Read (Cell 3) ∷ held_as Read (Cell 7) ∷ held_as Write (Cell 7) ∷ []) (held_as Read (Cell 7) ∷ held_as Read (Formal 0 0) ∷ []) ≡ true
shared_row = refl

pub turned_lock_row : share_lock (held_as Read (Cell 7) ∷ []) (held_as Read (Cell 7) ∷ held_as Write (Cell 7) ∷ []) ≡ true
turned_lock_row = refl

-- two that read keep no one apart
pub readers_row : share_lock (held_as Read (Cell 7) ∷ []) (held_as Read (Cell 7) ∷ []) ≡ false
readers_row = refl

pub formal_row : share_lock (held_as Read (Formal 0 0) ∷ held_as Write (Formal 0 0) ∷ []) (held_as Read (Formal 0 0) ∷ held_as Write (Formal 0 0) ∷ []) ≡ false
formal_row = refl

pub other_lock_row : share_lock (held_as Write (Cell 3) ∷ []) (held_as Read (Cell 7) ∷ []) ≡ false
other_lock_row = refl

-- ---- pairs

abbrev load : List Held → Guarded
load plus = record { function = 0; instr = 0; store = false; plus = plus; minus = minus.All }

abbrev read : List Held → Guarded
read plus = record { function = 1; instr = 1; store = false; plus = plus; minus = minus.All }

pub any_thread_row : alone (reached code 0 0 (load [])) ≡ None
any_thread_row = refl

pub one_thread_row : alone (reached code 1 0 (read [])) ≡ Some 1
one_thread_row = refl

pub main_main_row : may_meet (Some 1) (Some 1) ≡ false
main_main_row = refl

pub main_other_row : may_meet (Some 1) None ≡ true
main_other_row = refl

pub other_other_row : may_meet None None ≡ true
other_other_row = refl

pub turned_row : pair_of x (at 1 1) (at 0 1) ≡ record { place = x; first = at 0 1; second = at 1 1 }
turned_row = refl

pub straight_row : pair_of x (at 0 1) (at 1 1) ≡ record { place = x; first = at 0 1; second = at 1 1 }
straight_row = refl

-- ---- order

abbrev pair : (class : ℕ) → AccessAt → AccessAt → Pair
pair class a b = record { place = record { site = 1; class = class }; first = a; second = b }

pub place_first_row : pair_less (pair 0 (at 3 0) (at 3 0)) (pair 1 (at 0 0) (at 0 0)) ≡ true
place_first_row = refl

pub ascend_row : pairs_ascend (pair 0 (at 0 0) (at 0 1) ∷ pair 0 (at 0 1) (at 0 1) ∷ pair 0 (at 0 1) (at 1 1) ∷ []) ≡ true
ascend_row = refl

pub twice_row : pairs_ascend (pair 0 (at 0 0) (at 0 1) ∷ pair 0 (at 0 0) (at 0 1) ∷ []) ≡ false
twice_row = refl
