-- Rounds in which numbers are added to rows: what a part of a round may add, and what holds once it adds nothing.
use Rattle.std.specs.Prelude.{◌≡◌, ℕ, ◌/◌, ◌%◌, ◌<◌, List, length, slice_get, Some, Bool, true, false, ℤ, pos, ◌*ℤ◌}
use Rattle.std.specs.List.{Contains}
use Rattle.flow_code.specs.declared.code.Code.{Code}
use Rattle.word_semantics.specs.Pointers.{directed}
use Rattle.facts.specs.declared.constraint.Node.{Node}
use Rattle.facts.specs.declared.constraint.Node.TheVariants.{Cells}
use Rattle.facts.specs.declared.constraint.Constraint.{Constraint}
use Rattle.facts.specs.declared.constraint.Constraint.TheVariants.{Given, Included, Shifted, Strided, Loaded, Stored}
use Rattle.facts.specs.PointsTo.{place, place_on, element_of, IsReached, are_whole_elements, constraints_of, MayPoint}
use Rattle.points_to.specs.Ascending.{widths, rooms}
use Rattle.points_to.specs.Nodes.{number_of, place_from, node_row, Has, IsProper, IsPlace}

-- ---- what may be added

-- the number is that of a place to which the node may point
abbrev pub Fine : Code → Node → ℕ → Type 0
Fine code n p = IsPlace code.sites (place_from p) × MayPoint code n (place_from p)

-- no row has a place to which its node may not point
abbrev pub AreFine : Code → List (List (List ℕ)) → Type 0
AreFine code blocks = (n : Node) (p : ℕ) → IsProper (length code.functions) n → Has (length code.functions) blocks n p → Fine code n p

-- true: there is less room for numbers than before; false: as much
abbrev pub Falls : Bool → (old new : List (List (List ℕ))) → Type 0
Falls true old new = rooms new < rooms old
Falls false old new = rooms new ≡ rooms old

-- a part of a round; where it adds nothing, `Met` holds already
pub record Adds (code : Code) (Met : List (List (List ℕ)) → Type 0) (old new : List (List (List ℕ))) (added : Bool) : Type 0 where
  pub wide : widths new ≡ widths old
  pub fine : AreFine code old → AreFine code new
  pub met : added ≡ false → (new ≡ old) × Met new
  pub falls : Falls added old new

-- wherever the first node may point, the second may point, too
abbrev pub GivesAll : Code → Node → Node → Type 0
GivesAll code a b = (p : ℕ) → Fine code a p → Fine code b p

-- ---- what holds

-- a fact for each number of a node's row
abbrev pub ForAll : Code → Node → (ℕ → List (List (List ℕ)) → Type 0) → List (List (List ℕ)) → Type 0
ForAll code a Q blocks = (p : ℕ) → Has (length code.functions) blocks a p → Q p blocks

-- as far as the first k numbers of the row, and for the k-th
abbrev pub ForFirst : Code → ℕ → Node → (ℕ → List (List (List ℕ)) → Type 0) → List (List (List ℕ)) → Type 0
ForFirst code k a Q blocks = (j p : ℕ) → j < k → slice_get (node_row (length code.functions) blocks a) j ≡ Some p → Q p blocks

-- for the k-th number of the row alone, if there is one
abbrev pub ForOne : Code → ℕ → Node → (ℕ → List (List (List ℕ)) → Type 0) → List (List (List ℕ)) → Type 0
ForOne code k a Q blocks = (p : ℕ) → slice_get (node_row (length code.functions) blocks a) k ≡ Some p → Q p blocks

-- the second node's row has all numbers of the first one's
abbrev pub Holds : Code → Node → Node → List (List (List ℕ)) → Type 0
Holds code a b blocks = (p : ℕ) → Has (length code.functions) blocks a p → Has (length code.functions) blocks b p

-- the place of the number, moved on
abbrev pub number_on : Code → ℤ → (element : ℕ) → Bool → ℕ → ℕ
number_on code by element back p = number_of (place_on code.sites (place_from p) (directed back by *ℤ pos element))

-- the class may be reached from the place of the number
abbrev pub Reaches : Code → (stride p class : ℕ) → Type 0
Reaches code stride p class = IsReached (are_whole_elements stride (element_of code.sites (p / 64))) (element_of code.sites (p / 64)) (p % 64) class

-- the row has each place that the stride reaches from this one
abbrev pub IsSwept : Code → Node → (stride p : ℕ) → List (List (List ℕ)) → Type 0
IsSwept code b stride p blocks = (class : ℕ) → Reaches code stride p class → Has (length code.functions) blocks b (number_of (place (p / 64) class))

-- the rows meet the constraint
abbrev pub Meets : Code → Constraint → List (List (List ℕ)) → Type 0
Meets code (Given n q) blocks = Has (length code.functions) blocks n (number_of q)
Meets code (Included a b) blocks = Holds code a b blocks
Meets code (Shifted a b by element back) blocks = ForAll code a (λ p r. Has (length code.functions) r b (number_on code by element back p)) blocks
Meets code (Strided a b stride) blocks = ForAll code a (IsSwept code b stride) blocks
Meets code (Loaded a b) blocks = ForAll code a (λ o r. Holds code (Cells (place_from o)) b r) blocks
Meets code (Stored a b) blocks = ForAll code a (λ o r. Holds code b (Cells (place_from o)) r) blocks

-- all constraints of the code are met: a round adds nothing more
abbrev pub MeetsAll : Code → List (List (List ℕ)) → Type 0
MeetsAll code blocks = (c : Constraint) → Contains (constraints_of code) c → Meets code c blocks
