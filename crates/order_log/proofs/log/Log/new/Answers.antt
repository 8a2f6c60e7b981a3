use Rattle.std.proofs.Common.{List, subst, ◌∙◌}
use Rattle.order_log.proofs.Heads.{AreBytes}
use Rattle.order_log.proofs.log.Log.new.Goals as goal

pub invariant_of-result : goal.invariant_of-result
invariant_of-result c = (
  record {
    profile = c.requires.names;
    input = subst (λ (bs : List _). AreBytes bs) (c.as_slice.ensures ∙ c.input.ensures.value) c.law_bytes.ensures;
    operations = c.requires.fitting;
  },
  record { setup = c.input.ensures.within; entries = c.requires.within },
)
