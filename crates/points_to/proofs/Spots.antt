-- Where nodes stand: no two at one place, and each in its block.
use Rattle.std.proofs.Common.{◌≡◌, ℕ, ◌+◌, ◌*◌, ◌/◌, ◌%◌, ◌<◌, List, length, refl, ap, arith}
use Rattle.std.specs.Prelude.{slice_index}
use Rattle.rr_base.specs.declared.layout.Place.{Place}
use Rattle.flow_code.specs.declared.code.Code.{Code}
use Rattle.facts.specs.declared.constraint.Node.{Node}
use Rattle.facts.specs.declared.constraint.Node.TheVariants.{Register, Result, Ended, Cells}
use Rattle.facts.specs.PointsTo.{place}
use Rattle.points_to.specs.Ascending.{block_of, widths}
use Rattle.points_to.specs.Nodes.{number_of, place_from, block_at, index_at, widths_of, IsProper, IsNode}
use Rattle.points_to.proofs.Blocks.{width_of}

same_register : (f g r q : ℕ) → f ≡ g → r ≡ q → Register f r ≡ Register g q
same_register f g r q e h = cc

same_place : (s t c d : ℕ) → s ≡ t → c ≡ d → place s c ≡ place t d
same_place s t c d e h = cc

pub same_node : (F : ℕ) (m n : Node) → IsProper F m → IsProper F n → block_at F m ≡ block_at F n → index_at F m ≡ index_at F n → m ≡ n
same_node F (Register f r) (Register g q) p p' b i = same_register f g r q (omega arith) i
same_node F (Register f r) (Result g) p p' b i = absurd (omega arith)
same_node F (Register f r) Ended p p' b i = absurd (omega arith)
same_node F (Register f r) (Cells x) p p' b i = absurd (omega arith)
same_node F (Result g) (Register f r) p p' b i = absurd (omega arith)
same_node F (Result g) (Result h) p p' b i = ap Result i
same_node F (Result g) Ended p p' b i = absurd (omega arith)
same_node F (Result g) (Cells x) p p' b i = absurd (omega arith)
same_node F Ended (Register f r) p p' b i = absurd (omega arith)
same_node F Ended (Result h) p p' b i = absurd (omega arith)
same_node F Ended Ended p p' b i = refl
same_node F Ended (Cells x) p p' b i = absurd (omega arith)
same_node F (Cells x) (Register f r) p p' b i = absurd (omega arith)
same_node F (Cells x) (Result h) p p' b i = absurd (omega arith)
same_node F (Cells x) Ended p p' b i = absurd (omega arith)
same_node F (Cells x) (Cells y) p p' b i = ap Cells (same_place x.site y.site x.class y.class (omega arith) i)

-- a node of a code has its row
pub node_fits : (code : Code) (blocks : List (List (List ℕ))) (n : Node) (b i : ℕ) → widths blocks ≡ widths_of code → IsNode code n → b ≡ block_at (length code.functions) n → i ≡ index_at (length code.functions) n → i < length (block_of blocks b)
node_fits code blocks n b i wide node e h = omega (arith, node.1, ap (λ k. slice_index (widths_of code) k) e, ap (λ (z : List ℕ). slice_index z b) wide, width_of blocks b)

pub place_number : (p : Place) → p.class < 64 → place_from (number_of p) ≡ p
place_number p lt = same_place ((p.site * 64 + p.class) / 64) p.site ((p.site * 64 + p.class) % 64) p.class (omega arith) (omega arith)

pub number_place : (n : ℕ) → number_of (place_from n) ≡ n
number_place n = omega arith
