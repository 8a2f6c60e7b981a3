use Rattle.std.proofs.Common.{◌≡◌, ◌+◌, [], ◌∷◌, ◌++◌, arith, sym, ap, subst, ◌∙◌, length, rules}
use mathlib.Core.Option.{some}
use lib.ListN.{get_elem?}
use Rattle.std.specs.Slots.{slots_items}
use Rattle.shared_cells.specs.Rule.{Board}
use Rattle.shared_cells.specs.Seats.{AreSeats}
use Rattle.core_run.specs.Words.{cells_of}
use Rattle.shared_cells.specs.Words.{objects_end, departure_place, first_words, lone_cells, spot_of}
use Rattle.shared_cells.specs.Closing.{Closes}
use Rattle.shared_cells.proofs.Keeping.{length-first_words}
use Rattle.shared_cells.proofs.Ended.{gathered, gathered_one, departure_low, closes}
use Rattle.shared_cells.proofs.Spreading.{spots_rise}
use Rattle.shared_cells.proofs.cells.Cells.close.Goals as goal

pub loop-k-init : goal.loop-k-init
loop-k-init c = record {
  room = search rules;
  count = search rules;
  items = c.reserve.ensures.items ∙ c.new-words.ensures.items;
}

pub put_word-requires : goal.put_word-requires
put_word-requires c =
    let room = c.loop-k.invariant.room in
    let count = c.loop-k.invariant.count in
    let more = c.loop-k-test.true in
    omega (arith, room, count, more)

pub loop-k-preserved : goal.loop-k-preserved
loop-k-preserved c =
    let room = c.loop-k.invariant.room in
    let kept = c.put_word.ensures.room in
    record {
      room = omega (arith, room, kept);
      count = c.put_word.ensures.count ∙ ap (λ n. n + 1) c.loop-k.invariant.count;
      items = c.put_word.ensures.items ∙ ap (λ xs. xs ++ c.word.result ∷ []) c.loop-k.invariant.items ∙ sym (gathered_one c.self.inside.cells c.self.inside.lone (slots_items c.close_with-closed.result.words) c.loop-k.k c.word.result (subst (λ z. get_elem? (slots_items c.close_with-closed.result.words) z ≡ some c.word.result) c.spot_of.ensures c.word.ensures));
    }

pub word-departure-requires : goal.word-departure-requires
word-departure-requires c =
    let key = c.self.inside.table.shared.key in
    let place = c.self.invariant.0.departure_is in
    let size = c.self.invariant.0.size in
    let words = length-first_words key.code key.setup in
    let up = spots_rise (cells_of key.code key.setup) (lone_cells key.code key.setup) (departure_place key.code key.setup) (length (first_words key.code key.setup)) (omega (arith, words)) in
    let all = c.close_with-closed.ensures.counts.0 in
    (omega (arith, place, size, up, all), c.close_with-closed.ensures.values.0)

pub overflow_cast-departure : goal.overflow_cast-departure
overflow_cast-departure c =
    let key = c.self.inside.table.shared.key in
    let closed = c.close_with-closed.result in
    let whole = c.join-whole.result in
    let at : get_elem? (slots_items closed.words) (spot_of key.code key.setup (departure_place key.code key.setup)) ≡ some c.word-departure.result = subst (λ p. get_elem? (slots_items closed.words) p ≡ some c.word-departure.result) c.self.invariant.0.departure_is c.word-departure.ensures in
    let low = departure_low key (slots_items closed.words) (slots_items closed.slots) whole.id whole.me.0 c.word-departure.result c.close_with-closed.ensures.values.2 at in
    record { fits = omega (arith, low) }

pub returns : goal.returns
returns c =
    let key = c.self.inside.table.shared.key in
    let id = c.self.inside.table.shared.table_id in
    let closed = c.close_with-closed.result in
    let whole = c.join-whole.result in
    let seats = c.args.seats.items in
    let board = c.self.invariant.0 in
    let ws = slots_items closed.words in
    let at : get_elem? ws (spot_of key.code key.setup (departure_place key.code key.setup)) ≡ some c.word-departure.result = subst (λ p. get_elem? ws p ≡ some c.word-departure.result) board.departure_is c.word-departure.ensures in
    let over = c.loop-k-test.false in
    let end : c.loop-k.k ≡ objects_end key.code key.setup = (let objects = board.objects_are in omega (arith, over, c.loop-k.auto.k-end, objects)) in
    let items = c.loop-k.invariant.items ∙ ap (λ n. gathered n c.self.inside.lone ws c.loop-k.k) board.cells_are ∙ ap (λ n. gathered (cells_of key.code key.setup) n ws c.loop-k.k) board.lone_are ∙ ap (gathered (cells_of key.code key.setup) (lone_cells key.code key.setup) ws) end in
    subst (λ (z : Board). Closes z.code z.setup seats c.loop-k.words.items c.word-departure.result) c.self.view_is
    (closes key ws (slots_items closed.slots) whole.id whole.me.0 c.word-departure.result c.close_with-closed.ensures.values.2 at id seats c.loop-k.words.items board.runnable board.limits (subst (λ (z : Board). AreSeats z seats) (sym c.self.view_is) c.requires) c.join-whole.ensures.view items)
