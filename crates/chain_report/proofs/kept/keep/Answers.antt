use Rattle.run_theory.specs.Same.{same_object}
use Rattle.chain_report.specs.Past.{nothing}
use Rattle.chain_report.proofs.Objects.{object_eq, object_alike, put}
use Rattle.chain_report.proofs.kept.keep.Goals as goal

pub returns : goal.returns
returns c p = put object_eq same_object object_alike nothing c.args.kept c.args.obj p c.args.objects.now.entries c.insert.new.self.entries (c.in_ok-insert.ensures.updates.0 p)
