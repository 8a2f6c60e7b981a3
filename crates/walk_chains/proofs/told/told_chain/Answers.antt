use Rattle.std.proofs.Common.{◌≡◌, subst, ap, ◌∙◌}
use Rattle.chain_report.specs.Finds.{FoundIs}
use Rattle.core_run.specs.Walks.{WalkIs}
use Rattle.job_outcomes.specs.Outcomes.{answers}
use Rattle.walk_hits.specs.Telling.{answer_of}
use Rattle.walk_chains.proofs.told.told_chain.Goals as goal

pub returns : goal.returns
returns c =
    let code = c.args.weakened.now.weak in
    let s = c.args.log.now.setup in
    let w = c.in_ok-walk.walk in
    let found = c.in_ok-found.found in
    let by_code = subst (λ x. WalkIs x c.setup.result.now c.entries.result.now c.formula_of.result w) c.code.ensures.value c.in_ok-walk.ensures in
    let by_setup = subst (λ x. WalkIs code x c.entries.result.now c.formula_of.result w) c.setup.ensures by_code in
    let by_entries = subst (λ x. WalkIs code s x c.formula_of.result w) c.entries.ensures.value by_setup in
    let finds = subst (λ x. FoundIs code x c.entries-2.result.now c.args.one c.args.other found) c.setup-2.ensures c.in_ok-found.ensures in
    record {
      walk = w;
      walks = subst (λ x. WalkIs code s c.args.log.now.entries x w) c.formula_of.ensures by_entries;
      found = found;
      finds = subst (λ x. FoundIs code s x c.args.one c.args.other found) c.entries-2.ensures.value finds;
      told = c.answers.ensures ∙ ap answers (c.answer_of-answer.ensures ∙ ap (λ x. answer_of x w) c.in_ok-lines.ensures);
    }
