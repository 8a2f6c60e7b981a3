use Rattle.std.proofs.Common.{◌≡◌, ◌∙◌, ◌+◌, ◌*◌, ap, sym, arith}
use Rattle.std.specs.Prelude.{replicate, slice_get}
use Rattle.std.proofs.lemmas.List.{take_rest}
use Rattle.core_run.specs.Words.{cells_of}
use Rattle.checkpoint.proofs.Putting.{zeros_are, cell_below, object_below, words_put}
use Rattle.checkpoint.proofs.resuming.words_in.Goals as goal

pub put_cells-requires : goal.put_cells-requires
put_cells-requires c =
    let same : 2 * c.from.result + c.len.result + c.from-2.result * c.cells.result ≡ cells_of c.args.code.now c.args.setup.now = cc (c.from.ensures, c.len.ensures, c.from-2.ensures, c.cells.ensures.value, c.slots-slots.ensures.value) in
    let end : c.loop-k._k ≡ 2 * c.from.result + c.len.result + c.from-2.result * c.cells.result = omega (arith, c.loop-k-test.false, c.loop-k.auto._k-end) in
    let filled = zeros_are c.args.code.now c.args.setup.now (2 * c.from.result + c.len.result + c.from-2.result * c.cells.result) c.loop-k.words.items c.deref.result.now _ c.extend_from_slice.new.self.items same (c.loop-k.invariant.words ∙ ap (λ m. replicate m 0) end) (c.deref.ensures.value ∙ c.in_ok-start.ensures) (take_rest c.deref.result.now (2 * c.from.result + c.len.result + c.from-2.result * c.cells.result)) c.in_ok-extend_from_slice.ensures.items in
    λ k x at. cell_below c.args.code.now c.args.setup.now c.slots-slots.ensures.within x.0 c.extend_from_slice.new.self.items filled (c.requires.cells k x (ap (λ z. slice_get z k) (sym c.as_slice.ensures) ∙ at))

pub put_objects-requires : goal.put_objects-requires
put_objects-requires c =
    let same : 2 * c.from.result + c.len.result + c.from-2.result * c.cells.result ≡ cells_of c.args.code.now c.args.setup.now = cc (c.from.ensures, c.len.ensures, c.from-2.ensures, c.cells.ensures.value, c.slots-slots.ensures.value) in
    let end : c.loop-k._k ≡ 2 * c.from.result + c.len.result + c.from-2.result * c.cells.result = omega (arith, c.loop-k-test.false, c.loop-k.auto._k-end) in
    let filled = zeros_are c.args.code.now c.args.setup.now (2 * c.from.result + c.len.result + c.from-2.result * c.cells.result) c.loop-k.words.items c.deref.result.now _ c.extend_from_slice.new.self.items same (c.loop-k.invariant.words ∙ ap (λ m. replicate m 0) end) (c.deref.ensures.value ∙ c.in_ok-start.ensures) (take_rest c.deref.result.now (2 * c.from.result + c.len.result + c.from-2.result * c.cells.result)) c.in_ok-extend_from_slice.ensures.items in
    λ k x at. object_below c.args.code.now c.args.setup.now c.slots-slots.ensures.within (2 * c.from.result + c.len.result + c.from-2.result * c.cells.result) c.as_slice.result.now x.0 c.extend_from_slice.new.self.items c.put_cells.new.words.items same filled c.put_cells.ensures (c.requires.objects k x (ap (λ z. slice_get z k) (sym c.as_slice-2.ensures) ∙ at)).there

pub returns : goal.returns
returns c =
    let same : 2 * c.from.result + c.len.result + c.from-2.result * c.cells.result ≡ cells_of c.args.code.now c.args.setup.now = cc (c.from.ensures, c.len.ensures, c.from-2.ensures, c.cells.ensures.value, c.slots-slots.ensures.value) in
    let end : c.loop-k._k ≡ 2 * c.from.result + c.len.result + c.from-2.result * c.cells.result = omega (arith, c.loop-k-test.false, c.loop-k.auto._k-end) in
    let filled = zeros_are c.args.code.now c.args.setup.now (2 * c.from.result + c.len.result + c.from-2.result * c.cells.result) c.loop-k.words.items c.deref.result.now _ c.extend_from_slice.new.self.items same (c.loop-k.invariant.words ∙ ap (λ m. replicate m 0) end) (c.deref.ensures.value ∙ c.in_ok-start.ensures) (take_rest c.deref.result.now (2 * c.from.result + c.len.result + c.from-2.result * c.cells.result)) c.in_ok-extend_from_slice.ensures.items in
    words_put c.args.code.now c.args.setup.now (2 * c.from.result + c.len.result + c.from-2.result * c.cells.result) c.args.snapshot.now c.as_slice.result.now c.as_slice-2.result.now c.extend_from_slice.new.self.items c.put_cells.new.words.items c.put_objects.new.words.items same c.as_slice.ensures c.as_slice-2.ensures filled c.put_cells.ensures c.put_objects.ensures
