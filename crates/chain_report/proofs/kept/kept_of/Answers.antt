use Rattle.std.proofs.Common.{ap, ◌∙◌}
use Rattle.std.specs.Map.{lookup}
use Rattle.std.specs.Option.{unwrap_or}
use Rattle.run_theory.specs.Same.{same_object}
use Rattle.chain_report.specs.Past.{nothing}
use Rattle.chain_report.proofs.Objects.{object_eq, object_alike, lookup_same, looked_up}
use Rattle.chain_report.proofs.kept.kept_of.Goals as goal

pub returns : goal.returns
returns c =
    c.unwrap_or.ensures
    ∙ ap (λ o. unwrap_or o nothing) (c.copied.ensures ∙ c.get.ensures.value ∙ lookup_same object_eq same_object object_alike c.args.obj c.args.objects.now.entries)
    ∙ looked_up object_eq same_object object_alike nothing (lookup (same_object c.args.obj) c.args.objects.now.entries)
