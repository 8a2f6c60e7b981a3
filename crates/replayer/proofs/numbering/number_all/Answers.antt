use Rattle.std.proofs.Common.{◌≡◌, ◌++◌, ◌∷◌, [], rules, ap, ◌∙◌, arith}
use Rattle.replayer.proofs.Numbers.{small, one_more}
use Rattle.replayer.proofs.numbering.number_all.Goals as goal

pub overflow_cast-number : goal.overflow_cast-number
overflow_cast-number c =
    let few = small c.args.entries.now c.loop-k.counts c.loop-k.counts c.loop-k.noted c.at-entry.result.now c.loop-k.k c.loop-k.invariant c.at-entry.ensures c.requires in
    let is = c.count_of-number.ensures in
    omega (arith, few, is)

pub loop-k-preserved : goal.loop-k-preserved
loop-k-preserved c =
    let pushed : c.push.new.self ≡ c.loop-k.noted ++ record { entry = c.at-entry.result.now; number = c.count_of-number.result } ∷ [] = search rules in
    one_more c.args.entries.now c.loop-k.counts c.count_up.new.counts c.loop-k.noted c.at-entry.result.now c.loop-k.k c.loop-k.invariant c.at-entry.ensures c.push.new.self (pushed ∙ ap (λ n. c.loop-k.noted ++ record { entry = c.at-entry.result.now; number = n } ∷ []) c.count_of-number.ensures) (search rules)
