use Rattle.std.proofs.Common.{◌≡◌, subst, IfOk}
use Rattle.c_sites.specs.Layouts.{layout_after}
use Rattle.c_sites.proofs.layouts.layout_of.Goals as goal

pub returns : goal.returns
returns c =
    subst (λ k. IfOk c.layout_after.result (λ l. l ≡ layout_after k c.args.of.now)) c.in_ok-table.ensures.known c.layout_after.ensures
