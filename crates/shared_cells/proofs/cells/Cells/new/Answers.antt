use Rattle.std.proofs.Common.{◌≡◌, ℕ, ◌+◌, ◌-◌, ◌*◌, ap, arith, length, rules, subst, sym, ◌∙◌}
use Rattle.sync_objects.specs.Setup.{IsWithinLimits}
use Rattle.core_run.specs.Words.{cells_of}
use Rattle.shared_cells.specs.Rule.{Knowledge, IsBoard}
use Rattle.shared_cells.specs.Seats.{AreAtStart}
use Rattle.shared_cells.specs.Words.{departure_place, memory_place, first_words, lone_cells, spot_of, spread, IsSpread}
use Rattle.shared_cells.proofs.Dealt.{starts_with}
use Rattle.shared_cells.proofs.Keeping.{length-first_words}
use Rattle.shared_cells.proofs.cells.Cells.new.Goals as goal

pub of_words-requires : goal.of_words-requires
of_words-requires c =
    let code = c.args.code.now in
    let setup = c.args.setup.now in
    let words = c.as_slice.result.now in
    let table = c.as_slice-2.result.now in
    let cells_are : 2 * c.from.result + c.len.result + c.from-2.result * c.cells.result ≡ cells_of code setup = search rules in
    let lone_are : 2 * c.from-3.result + c.min.result ≡ lone_cells code setup = search rules in
    starts_with (record { code = code; setup = setup }) words table (c.as_slice.ensures.value ∙ c.in_ok-words.ensures)
    (subst (λ ws. IsSpread (cells_of code setup) (lone_cells code setup) words ws) (sym c.as_slice-2.ensures.value)
    (subst (λ n. IsSpread (cells_of code setup) n words c.in_ok-words-2.words.items) lone_are
    (subst (λ n. IsSpread n (2 * c.from-3.result + c.min.result) words c.in_ok-words-2.words.items) cells_are c.in_ok-words-2.ensures.spread)))

pub invariant_of-made : goal.invariant_of-made
invariant_of-made c =
    let code = c.args.code.now in
    let setup = c.args.setup.now in
    let table = c.in_ok-table.table.shared in
    let cells_are : 2 * c.from.result + c.len.result + c.from-2.result * c.cells.result ≡ cells_of code setup = search rules in
    let lone_are : 2 * c.from-3.result + c.min.result ≡ lone_cells code setup = search rules in
    let limits : IsWithinLimits setup = search rules in
    let count : c.len-count.result ≡ length (first_words code setup) = search rules in
    let locks : c.len-3.result ≡ length code.locks = search rules in
    let words = length-first_words code setup in
    let known : table.key ≡ record { code = code; setup = setup } = search rules in
    let at_least : (place n : ℕ) → n ≡ place → spread (2 * c.from.result + c.len.result + c.from-2.result * c.cells.result) (2 * c.from-3.result + c.min.result) n ≡ spot_of code setup place = λ place n e.
    ap (λ z. spread z (2 * c.from-3.result + c.min.result) n) cells_are ∙ ap (λ z. spread (cells_of code setup) z n) lone_are ∙ ap (spot_of code setup) e in
    let cells = 2 * c.from.result + c.len.result + c.from-2.result * c.cells.result in
    let lone = 2 * c.from-3.result + c.min.result in
    let objects = c.len-count.result - 2 - 8 * c.len-3.result in
    let board : IsBoard cells lone objects c.spot_of.result c.spot_of-2.result (record { code = code; setup = setup }) table.table_id = record {
      runnable = c.requires.runnable;
      limits = limits;
      cells_are = cells_are;
      lone_are = lone_are;
      objects_are = omega (arith, count, locks, words);
      departure_is = c.spot_of.ensures ∙ at_least (departure_place code setup) (c.len-count.result - 2) (omega (arith, count, words));
      memory_is = c.spot_of-2.ensures ∙ at_least (memory_place code setup) (c.len-count.result - 1) (omega (arith, count, words));
      memory_fits = search rules;
      size = c.in_ok-table.ensures.0 ∙ ap length c.as_slice-2.ensures.value ∙ c.in_ok-words-2.ensures.spread.size ∙ at_least (length (first_words code setup)) (length c.as_slice.result.now) (ap length (c.as_slice.ensures.value ∙ c.in_ok-words.ensures));
      no_slots = search rules;
    } in
    (subst (λ z. IsBoard cells lone objects c.spot_of.result c.spot_of-2.result z table.table_id) (sym known) board, ap (λ (z : Knowledge). z.code) (sym known), ap (λ (z : Knowledge). z.setup) (sym known))

pub returns-clause-start : goal.returns-clause-start
returns-clause-start c =
    let known : c.in_ok-table.table.shared.key ≡ record { code = c.args.code.now; setup = c.args.setup.now } = search rules in
    subst (λ (z : Knowledge). AreAtStart z.code z.setup c.in_ok-seats.seats.items) known c.in_ok-seats.ensures.start
