use Rattle.front.proofs.One.{one_reading}
use Rattle.front.proofs.reading.law_one_reading.Goals as goal

pub returns : goal.returns
returns c = one_reading
