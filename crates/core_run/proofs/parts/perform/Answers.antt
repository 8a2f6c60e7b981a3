use Rattle.std.proofs.Common.{◌≡◌, [], ◌∷◌, true, Some, sym, ap, ◌∙◌, rules, to_z, of_z, FitsSigned}
use Rattle.std.proofs.lemmas.Int.{to_z-of_z}
use Rattle.std.specs.Prelude.{slice_get, slice_set}
use mir.Syntax.{w64}
use Rattle.sync_objects.specs.Advance.{advanced, Advances}
use Rattle.flow_code.specs.Next.{stepped}
use Rattle.thread_interpreter.specs.Pieces.{piece_next}
use Rattle.core_run.specs.Words.{has_object, place_of, cells_of}
use Rattle.core_run.proofs.Performed.{askable_next, range_next, allowed, silent, prints}
use Rattle.core_run.proofs.parts.perform.Goals as goal

pub advance-requires-clause-range : goal.advance-requires-clause-range
advance-requires-clause-range c = range_next _ _ _ _ _ _ c.requires.runnable c.requires.limits c.requires.next

pub advance-requires-clause-number : goal.advance-requires-clause-number
advance-requires-clause-number c =
    let code = c.args.flow.now.code in
    let setup = c.args.flow.now.setup in
    let has : true ≡ has_object code setup c.args.obj = cc in
    let at : Some c.in-Some.word ≡ slice_get c.args.words.now.items (place_of (cells_of code setup) c.args.obj) = cc in
    (askable_next code setup c.args.thread c.args.flow.now.kept.thread c.args.words.now.items c.args.op c.args.obj c.in-Some.word c.requires.runnable c.requires.next c.requires.sound has at).number

pub advance-requires-clause-sound : goal.advance-requires-clause-sound
advance-requires-clause-sound c =
    let code = c.args.flow.now.code in
    let setup = c.args.flow.now.setup in
    let has : true ≡ has_object code setup c.args.obj = cc in
    let at : Some c.in-Some.word ≡ slice_get c.args.words.now.items (place_of (cells_of code setup) c.args.obj) = cc in
    (askable_next code setup c.args.thread c.args.flow.now.kept.thread c.args.words.now.items c.args.op c.args.obj c.in-Some.word c.requires.runnable c.requires.next c.requires.sound has at).sound

pub returns-then-is_print-clause-made : goal.returns-then-is_print-clause-made
returns-then-is_print-clause-made c = λ told.
    let code = c.args.flow.now.code in
    let setup = c.args.flow.now.setup in
    let th = c.args.flow.now.kept.thread in
    let has : has_object code setup c.args.obj ≡ true = cc in
    let at : slice_get c.args.words.now.items (place_of (cells_of code setup) c.args.obj) ≡ Some c.in-Some.word = cc in
    let moves : advanced c.args.op c.args.thread c.in-Some.word ≡ Advances c.in-Some-advance.next c.in-Some-advance.answer = c.in-Some-advance.ensures.table in
    let place : c.place_of-place.result ≡ place_of (cells_of code setup) c.args.obj = c.place_of-place.ensures ∙ ap (λ z. place_of z c.args.obj) c.requires.cells in
    let words_are : slice_set c.args.words.now.items c.place_of-place.result c.in-Some-advance.next ≡ slice_set c.args.words.now.items (place_of (cells_of code setup) c.args.obj) c.in-Some-advance.next = ap (λ z. slice_set c.args.words.now.items z c.in-Some-advance.next) place in
    let fits : FitsSigned w64 c.in-Some-advance.answer = search rules in
    let same : to_z w64 (of_z w64 c.in-Some-advance.answer) ≡ c.in-Some-advance.answer = to_z-of_z w64 c.in-Some-advance.answer fits in
    let thread_is : c.take_answer.new.self.kept.thread ≡ stepped code setup c.args.thread th c.in-Some-advance.answer = cc in
    let printed : piece_next code th c.args.op ≡ c.in_ok-bytes.bytes ∷ [] = prints code th c.args.op (sym c.is_print.ensures ∙ c.if-is_print.true) ∙ ap (λ z. z ∷ []) (sym c.in_ok-bytes.ensures) in
    allowed code setup c.args.thread told th c.args.op c.args.obj c.args.words.now.items c.in-Some.word c.in-Some-advance.next c.in-Some-advance.answer _ _ (c.in_ok-bytes.bytes ∷ []) has at moves words_are thread_is printed

pub returns-clause-made : goal.returns-clause-made
returns-clause-made c = λ told.
    let code = c.args.flow.now.code in
    let setup = c.args.flow.now.setup in
    let th = c.args.flow.now.kept.thread in
    let has : has_object code setup c.args.obj ≡ true = cc in
    let at : slice_get c.args.words.now.items (place_of (cells_of code setup) c.args.obj) ≡ Some c.in-Some.word = cc in
    let moves : advanced c.args.op c.args.thread c.in-Some.word ≡ Advances c.in-Some-advance.next c.in-Some-advance.answer = c.in-Some-advance.ensures.table in
    let place : c.place_of-place.result ≡ place_of (cells_of code setup) c.args.obj = c.place_of-place.ensures ∙ ap (λ z. place_of z c.args.obj) c.requires.cells in
    let words_are : slice_set c.args.words.now.items c.place_of-place.result c.in-Some-advance.next ≡ slice_set c.args.words.now.items (place_of (cells_of code setup) c.args.obj) c.in-Some-advance.next = ap (λ z. slice_set c.args.words.now.items z c.in-Some-advance.next) place in
    let fits : FitsSigned w64 c.in-Some-advance.answer = search rules in
    let same : to_z w64 (of_z w64 c.in-Some-advance.answer) ≡ c.in-Some-advance.answer = to_z-of_z w64 c.in-Some-advance.answer fits in
    let thread_is : c.take_answer-2.new.self.kept.thread ≡ stepped code setup c.args.thread th c.in-Some-advance.answer = cc in
    let printed : piece_next code th c.args.op ≡ [] = silent code th c.args.op (sym c.is_print.ensures ∙ c.if-is_print.false) in
    allowed code setup c.args.thread told th c.args.op c.args.obj c.args.words.now.items c.in-Some.word c.in-Some-advance.next c.in-Some-advance.answer _ _ [] has at moves words_are thread_is printed
