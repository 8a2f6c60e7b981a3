use Rattle.std.proofs.Common.{None}
use Rattle.chain_report.specs.Past.{same_hold}
use Rattle.chain_report.proofs.Objects.{hold_eq, hold_alike, put}
use Rattle.chain_report.proofs.kept.note_hold.Goals as goal

pub returns : goal.returns
returns c h = put hold_eq same_hold hold_alike None c.args.held c.args.hold h c.args.holds.now.entries c.insert.new.self.entries (c.in_ok-insert.ensures.updates.0 h)
