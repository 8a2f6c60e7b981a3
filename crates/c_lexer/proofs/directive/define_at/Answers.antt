use Rattle.std.proofs.Common.{sym, ◌∙◌}
use Rattle.c_lexer.proofs.Definitions.{free-new, valued-new}
use Rattle.c_lexer.proofs.directive.define_at.Goals as goal

pub returns-then-may_define-clause-new : goal.returns-then-may_define-clause-new
returns-then-may_define-clause-new c =
    rw c.valued.ensures.value (valued-new _ c.parts_of-parts.result _ _ (free-new c.args.names.now _ (sym c.may_define.ensures ∙ c.if-may_define.true)))
