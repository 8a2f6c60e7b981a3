-- Where the sets of a code's nodes stand as rows of numbers. The first block has the results of functions, and after them
-- what ended threads give. Then come a block for the registers of each function, and one for the classes of each site.
use Rattle.std.specs.Prelude.{ℕ, ◌+◌, ◌*◌, ◌/◌, ◌%◌, ◌^◌, ◌<◌, ◌≤◌, List, ◌∷◌, ◌++◌, length, map, slice_index}
use Rattle.std.specs.List.{Contains}
use Rattle.rr_base.specs.declared.layout.Place.{Place}
use Rattle.rr_base.specs.declared.layout.Site.{Site}
use Rattle.flow_code.specs.declared.code.Code.{Code}
use Rattle.flow_code.specs.declared.code.Function.{Function}
use Rattle.facts.specs.declared.constraint.Node.{Node}
use Rattle.facts.specs.declared.constraint.Node.TheVariants.{Register, Result, Ended, Cells}
use Rattle.facts.specs.declared.constraint.Constraint.{Constraint}
use Rattle.facts.specs.declared.constraint.Constraint.TheVariants.{Given, Included, Shifted, Strided, Loaded, Stored}
use Rattle.facts.specs.PointsTo.{place, element_of, classes_of, constraints_of}
use Rattle.points_to.specs.Ascending.{row_at}

-- ---- places as numbers

-- sites and classes in one number: each site has at most 64 classes
abbrev pub number_of : Place → ℕ
number_of p = p.site * 64 + p.class

-- the place that has this number
abbrev pub place_from : ℕ → Place
place_from n = place (n / 64) (n % 64)

-- the places of the numbers of a block's rows
abbrev pub listed : List (List ℕ) → List (List Place)
listed rows = map (λ row. map place_from row) rows

-- ---- nodes

-- the number of the block in which the node has its row
abbrev pub block_at : (functions : ℕ) → Node → ℕ
block_at functions (Register f r) = f + 1
block_at functions (Result g) = 0
block_at functions Ended = 0
block_at functions (Cells p) = functions + p.site

-- which row of its block is the node's
abbrev pub index_at : (functions : ℕ) → Node → ℕ
index_at functions (Register f r) = r
index_at functions (Result g) = g
index_at functions Ended = functions
index_at functions (Cells p) = p.class

-- the numbers of the places to which the node may point
abbrev pub node_row : (functions : ℕ) → List (List (List ℕ)) → Node → List ℕ
node_row functions blocks n = row_at blocks (block_at functions n) (index_at functions n)

-- the number is in the node's row
abbrev pub Has : (functions : ℕ) → List (List (List ℕ)) → Node → ℕ → Type 0
Has functions blocks n p = Contains (node_row functions blocks n) p

-- how many rows each block has
abbrev pub widths_of : Code → List ℕ
widths_of code = (length code.functions + 1) ∷ (map (λ (f : Function). f.registers) code.functions ++ map (λ (s : Site). classes_of s.layout.element) code.sites)

-- ---- what is there

-- no two such nodes stand at one place
abbrev pub IsProper : (functions : ℕ) → Node → Type 0
IsProper functions (Register f r) = f < functions
IsProper functions (Result g) = g < functions
IsProper functions Ended = Unit {0}
IsProper functions (Cells p) = 1 ≤ p.site

-- the node has a row
abbrev pub IsNode : Code → Node → Type 0
IsNode code n = IsProper (length code.functions) n × (index_at (length code.functions) n < slice_index (widths_of code) (block_at (length code.functions) n))

-- sites count from 1, and each has its own number of classes
abbrev pub IsPlace : List Site → Place → Type 0
IsPlace sites p = (1 ≤ p.site) × (p.site ≤ length sites) × (p.class < classes_of (element_of sites p.site))

-- all nodes and places of the constraint are there in the code
abbrev pub IsWithin : Code → Constraint → Type 0
IsWithin code (Given n p) = IsNode code n × IsPlace code.sites p
IsWithin code (Included a b) = IsNode code a × IsNode code b
IsWithin code (Shifted a b by element back) = IsNode code a × IsNode code b
IsWithin code (Strided a b stride) = IsNode code a × IsNode code b
IsWithin code (Loaded a b) = IsNode code a × IsNode code b
IsWithin code (Stored a b) = IsNode code a × IsNode code b

-- all that the constraints of a code speak of is there
pub record AreThere (code : Code) : Type 0 where
  pub within : (c : Constraint) → Contains (constraints_of code) c → IsWithin code c
  pub elements : (s : ℕ) → 1 ≤ element_of code.sites s
  pub sites : length code.sites ≤ 1023
  pub functions : length code.functions ≤ 2 ^ 20
