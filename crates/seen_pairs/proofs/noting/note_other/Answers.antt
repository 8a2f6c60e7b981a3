use Rattle.seen_pairs.proofs.Sets.{unless_own, unless_other}
use Rattle.seen_pairs.proofs.noting.note_other.Goals as goal

pub returns-then-is_own : goal.returns-then-is_own
returns-then-is_own c = unless_own c.args.pairs.now.keys c.args.is_own c.args.mine.now c.args.other.now c.if-is_own.true

pub returns : goal.returns
returns c = unless_other c.args.pairs.now.keys c.note_stacks.new.pairs.keys c.args.is_own c.args.mine.now c.args.other.now c.if-is_own.false c.in_ok-note_stacks.ensures
