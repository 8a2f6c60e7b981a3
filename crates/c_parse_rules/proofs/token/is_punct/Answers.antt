use Rattle.std.proofs.Common.{◌∙◌}
use Rattle.c_parse_rules.proofs.Singles.{punct_same}
use Rattle.c_parse_rules.proofs.token.is_punct.Goals as goal

pub returns-in-Punct : goal.returns-in-Punct
returns-in-Punct c = rw c.in-Punct.is (c.eq.ensures ∙ punct_same c.args.wanted c.in-Punct.punct)
