-- What is carried on from instruction to instruction of a block: the last thing that was put into each register.
use Rattle.std.specs.Prelude.{◌≡◌, ◌<◌, ℕ, nat_eq, Bool, false, if◌then◌else◌, ℤ, List, length, Option, Some, None, slice_index_or}
use Rattle.std.specs.HashMap.{HashMap, get}
use Rattle.rr_base.specs.Words.{base_of}
use Rattle.flow_code.specs.declared.code.Function.{Function}
use Rattle.facts.specs.Paths.{Root, global, formal, Known, is_never_assigned}
use Rattle.facts.specs.declared.known.Reach.{Reach}
use Rattle.facts.specs.declared.known.Reach.TheVariants.{Global, Formal}

-- what was put there, or else what has been there from the start of the block
abbrev pub last_put : {X : Type 0} → Option X → X → X
last_put None start = start
last_put (Some x) start = x

module _ {S : Type 0} where
  abbrev pub constant_in : HashMap ℕ (Option ℤ) S → ℕ → Option ℤ
  constant_in held r = last_put (get nat_eq held r) None

-- so many cells behind a root
abbrev pub known_after : Root → Option ℕ → Option Known
known_after root None = None
known_after root (Some n) = Some (record { root = root; cells = n })

-- what is known, as the definition has it
abbrev pub known_by : Option Reach → Option Known
known_by None = None
known_by (Some (Global w n)) = Some (record { root = global (base_of w); cells = n })
known_by (Some (Formal i n)) = Some (record { root = formal i; cells = n })

-- each tells whether the formal in its place is never assigned
pub record AreFixed (f : Function) (fixed : List Bool) : Type 0 where
  pub long : length fixed ≡ f.formals
  pub each : (r : ℕ) → r < f.formals → slice_index_or fixed r false ≡ is_never_assigned f.instrs r

-- a formal that keeps its value points to its own first cell
abbrev pub formal_in : List Bool → ℕ → Option Known
formal_in fixed r = if slice_index_or fixed r false then Some (record { root = formal r; cells = 0 }) else None

-- what register r leads to, by its block or else as a formal
abbrev pub put_or_formal : List Bool → ℕ → Option (Option Reach) → Option Known
put_or_formal fixed r None = formal_in fixed r
put_or_formal fixed r (Some o) = known_by o

module _ {S : Type 0} where
  abbrev pub known_in : HashMap ℕ (Option Reach) S → List Bool → ℕ → Option Known
  known_in held fixed r = put_or_formal fixed r (get nat_eq held r)
