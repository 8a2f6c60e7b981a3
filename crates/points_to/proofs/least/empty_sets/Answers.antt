use Rattle.std.proofs.Common.{◌≡◌, [], sym, subst}
use Rattle.points_to.specs.Ascending.{row_at}
use Rattle.points_to.proofs.Blocks.{no_rows}
use Rattle.points_to.proofs.least.empty_sets.Goals as goal

pub returns-clause-empty : goal.returns-clause-empty
returns-clause-empty c = c.push_classes.ensures.empty (c.push_registers.ensures.empty (c.push_block.ensures.empty (λ b n. subst (λ z. row_at z b n ≡ []) (sym c.new-sets.ensures) (no_rows b n))))
