use Rattle.c_lexer.proofs.Definitions.{line-new}
use Rattle.c_lexer.proofs.directive.directive_at.Goals as goal

pub returns-then-starts_with-2-clause-new : goal.returns-then-starts_with-2-clause-new
returns-then-starts_with-2-clause-new c = line-new c.run_len.result c.define_at.result c.args.names.now c.args.text.now c.define_at.ensures.within c.define_at.ensures.new
