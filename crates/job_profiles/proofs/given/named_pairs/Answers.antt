use Rattle.std.proofs.Common.{◌∙◌, sym, ap, subst}
use Rattle.std.specs.Prelude.{filter}
use Rattle.profiles.specs.Profile.{ArePairs}
use Rattle.profiles.specs.declared.profile.Profile.TheVariants as profile
use Rattle.order_log.specs.Log.{HasNames}
use Rattle.job_profiles.specs.Profiles.{are_names}
use Rattle.job_profiles.proofs.Kept.{pairs_kept, have_names}
use Rattle.job_profiles.proofs.given.named_pairs.Goals as goal

pub new-requires : goal.new-requires
new-requires c =
    let is = c.in_ok-kept.ensures ∙ ap (filter are_names) (c.as_slice.ensures ∙ c.as_list.ensures.value) in
    subst ArePairs (sym is) (pairs_kept c.args.pairs.now c.as_list.ensures.kept)

pub returns-clause-names : goal.returns-clause-names
returns-clause-names c =
    let is = c.new.ensures ∙ c.in_ok-kept.ensures ∙ ap (filter are_names) (c.as_slice.ensures ∙ c.as_list.ensures.value) in
    subst (λ ps. HasNames (profile.Pairs ps)) (sym is) (have_names c.args.pairs.now c.as_list.ensures.kept)
