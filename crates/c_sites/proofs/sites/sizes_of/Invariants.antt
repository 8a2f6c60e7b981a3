use Rattle.std.proofs.Common.{◌≡◌, length, map, take}
use Rattle.c_types.specs.Scopes.{counted_cells}
use Rattle.c_sites.proofs.sites.sizes_of.Given as goal

abbrev pub invariant-loop-kinds : goal.invariant-loop-kinds
invariant-loop-kinds l = l.sizes ≡ map (λ kinds. counted_cells (length kinds)) (take l.kinds-index l.structs)
