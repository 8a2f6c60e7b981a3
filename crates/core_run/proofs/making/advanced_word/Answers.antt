use Rattle.std.proofs.Common.{◌≡◌, true, Some}
use Rattle.std.specs.Prelude.{slice_get}
use Rattle.core_run.specs.Words.{has_object, place_of, cells_of}
use Rattle.core_run.specs.Parts.{no_row}
use Rattle.core_run.proofs.Performed.{askable}
use Rattle.core_run.proofs.making.advanced_word.Goals as goal

pub advance-requires-clause-number : goal.advance-requires-clause-number
advance-requires-clause-number c =
    let has : has_object c.args.flow.now.code c.args.flow.now.setup c.args.obj ≡ true = cc in
    let at : slice_get c.args.words.now (place_of (cells_of c.args.flow.now.code c.args.flow.now.setup) c.args.obj) ≡ Some c.in-Some.word = cc in
    (askable c.args.flow.now.code c.args.flow.now.setup c.args.words.now c.args.op c.args.obj c.in-Some.word c.requires.sound has at c.requires.fits).number

pub returns-in-None : goal.returns-in-None
returns-in-None c =
    let at : slice_get c.args.words.now (place_of (cells_of c.args.flow.now.code c.args.flow.now.setup) c.args.obj) ≡ Some c.in-Some.word = cc in
    no_row c.in-Some.word at c.in-None.ensures.table
