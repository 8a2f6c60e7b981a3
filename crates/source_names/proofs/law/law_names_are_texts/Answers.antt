use Rattle.source_names.proofs.Functions.{names_are_texts}
use Rattle.source_names.proofs.law.law_names_are_texts.Goals as goal

pub returns : goal.returns
returns c = names_are_texts
