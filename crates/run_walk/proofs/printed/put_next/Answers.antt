use Rattle.std.proofs.Common.{◌++◌, refl, ap, ◌∙◌}
use Rattle.run_walk.proofs.Slices.{next_first, next_rest, no_next}
use Rattle.run_walk.proofs.printed.put_next.Goals as goal

pub returns-in_default-clause-rest : goal.returns-in_default-clause-rest
returns-in_default-clause-rest c = no_next c.args.slices.now c.args.thread c.at.result.now c.at.ensures c.in_default.len_below

pub returns-clause-out : goal.returns-clause-out
returns-clause-out c =
    c.in_ok-extend_from_slice.ensures.ok
    ∙ ap (λ ps. c.args.out.now ++ ps) (c.as_slice.ensures ∙ c.first-item.is ∙ next_first c.args.slices.now c.args.thread c.at.result.now c.at.ensures c.first-item.result c.in-len1-up.len_at_least)

pub returns-clause-rest : goal.returns-clause-rest
returns-clause-rest c = next_rest c.args.slices.now c.args.thread c.at.result.now c.at.ensures _ c.set.new.self c.set.ensures refl
