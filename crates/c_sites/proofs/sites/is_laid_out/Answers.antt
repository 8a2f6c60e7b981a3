use Rattle.std.proofs.Common.{ap, ◌∙◌}
use Rattle.c_types.specs.Scopes.{counted_cells}
use Rattle.c_types.specs.Types.{size_of_type, layered_element}
use Rattle.c_sites.proofs.Sizing.{counted_sizes, laid_out-within, laid_out-beyond}
use Rattle.c_sites.proofs.sites.is_laid_out.Goals as goal

pub returns-then-cells_of-le-MAX_CELLS : goal.returns-then-cells_of-le-MAX_CELLS
returns-then-cells_of-le-MAX_CELLS c =
    let cells = c.cells_of.ensures ∙ ap (λ s. counted_cells (size_of_type s c.args.of.now)) c.requires ∙ counted_sizes c.args.structs.now c.args.of.now in
    let element = c.element_of-element.ensures ∙ ap (λ ls. layered_element c.args.structs.now ls c.args.of.now.base) c.as_slice.ensures in
    laid_out-within c.args.structs.now c.args.of.now _ cells _ element c.if-cells_of-le-MAX_CELLS.true

pub returns-else-cells_of-le-MAX_CELLS : goal.returns-else-cells_of-le-MAX_CELLS
returns-else-cells_of-le-MAX_CELLS c =
    let cells = c.cells_of.ensures ∙ ap (λ s. counted_cells (size_of_type s c.args.of.now)) c.requires ∙ counted_sizes c.args.structs.now c.args.of.now in
    laid_out-beyond c.args.structs.now c.args.of.now _ cells c.if-cells_of-le-MAX_CELLS.false
