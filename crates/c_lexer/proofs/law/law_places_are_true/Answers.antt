use Rattle.c_lexer.proofs.Places.{places_are_true}
use Rattle.c_lexer.proofs.law.law_places_are_true.Goals as goal

pub returns : goal.returns
returns c = places_are_true
