use Rattle.std.proofs.Common.{refl, Ok}
use Rattle.snapshots.specs.Text.{snapshot_text}
use Rattle.snapshot_reader.proofs.OneAnswer.{one_answer}
use Rattle.snapshot_reader.proofs.laws.law_read_back.Goals as goal

pub returns : goal.returns
returns c code s n x r h a = one_answer code s n (snapshot_text x) r (Ok x) a (h, refl)
