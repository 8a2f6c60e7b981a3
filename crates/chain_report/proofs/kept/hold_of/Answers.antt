use Rattle.std.proofs.Common.{None, ap, ◌∙◌}
use Rattle.std.specs.Map.{lookup}
use Rattle.std.specs.Option.{unwrap_or}
use Rattle.chain_report.specs.Past.{same_hold}
use Rattle.chain_report.proofs.Objects.{hold_eq, hold_alike, lookup_same, looked_up}
use Rattle.chain_report.proofs.kept.hold_of.Goals as goal

pub returns : goal.returns
returns c =
    c.unwrap_or.ensures
    ∙ ap (λ o. unwrap_or o None) (c.copied.ensures ∙ c.get.ensures.value ∙ lookup_same hold_eq same_hold hold_alike c.args.hold c.args.holds.now.entries)
    ∙ looked_up hold_eq same_hold hold_alike None (lookup (same_hold c.args.hold) c.args.holds.now.entries)
