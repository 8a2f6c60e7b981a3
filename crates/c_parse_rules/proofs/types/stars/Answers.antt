use Rattle.std.proofs.Common.{◌∙◌, sym, arith}
use Rattle.c_parse_rules.specs.Gives.{lexemes}
use Rattle.c_parse_rules.proofs.Turns.{stars_turn}
use Rattle.c_parse_rules.proofs.types.stars.Goals as goal

pub loop-following-preserved : goal.loop-following-preserved
loop-following-preserved c =
    let star = rw c.in-Some.is at c.in_ok-following.ensures in
    record {
      read = sym (stars_turn c.args.level c.loop-following.count (lexemes c.loop-following.rest.now) (lexemes c.in-Some.following.now) _ star.0 star.1) ∙ c.loop-following.invariant.read;
      count = omega (arith, star.3);
    }
