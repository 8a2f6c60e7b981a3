use Rattle.snapshot_reader.proofs.CallsFit.{other_call}
use Rattle.snapshot_reader.proofs.calls.call_goes_on.Goals as goal

pub returns-in_default : goal.returns-in_default
returns-in_default c = other_call _ _ c.args.library.now _ _ _ c.in_default.not-Create c.in_default.not-Join c.in_default.not-CondWait c.in_default.not-BarrierWait
