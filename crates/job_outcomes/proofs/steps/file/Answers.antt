use Rattle.job_outcomes.proofs.Reading.{large_file}
use Rattle.job_outcomes.proofs.steps.file.Goals as goal

pub returns-in-None-clause-content : goal.returns-in-None-clause-content
returns-in-None-clause-content g c = large_file (g.S.Shelf.files c.args.shelf.now) c.args.most c.args.what c.args.name.now _ c.in-None.is c.in_ok-bytes.ensures.content
