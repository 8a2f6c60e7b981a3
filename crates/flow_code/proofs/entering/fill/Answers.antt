use Rattle.std.proofs.Common.{arith}
use Rattle.word_semantics.specs.Registers.{words_of}
use Rattle.flow_code.proofs.Filling.{filled_more}
use Rattle.flow_code.proofs.entering.fill.Goals as goal

pub loop-k-preserved : goal.loop-k-preserved
loop-k-preserved c =
    let more = filled_more c.loop-k.k (words_of c.args.registers.now c.args.arguments.now) in
    record {
      items = cc (c.in-Ok.ensures.items, c.argument.ensures, c.loop-k.invariant.items);
      len = omega (arith, c.in-Ok.ensures.len);
      room = omega (arith, c.in-Ok.ensures.capacity);
    }
