use Rattle.std.proofs.Common.{◌≡◌, ◌<◌, ◌+◌, ◌-◌, ◌++◌, ◌∷◌, [], arith, subst, ap, ◌∙◌}
use Rattle.shared_cells.specs.Views.{SeatView}
use Rattle.shared_cells.proofs.Dealt.{dealt_first, dealt_more, dealt_last, split_allowed, started_reached}
use Rattle.std.proofs.lemmas.Option.{slice_get_within}
use Rattle.shared_cells.proofs.dealing.deal.Goals as goal

pub loop-k-init : goal.loop-k-init
loop-k-init c =
    let shared = c.args.shared.now in
    record {
      low = omega (arith, c.requires.slots.0, c.requires.slots.1);
      dealt = dealt_first shared.key shared.table_id c.args.first c.new-seats.result.items c.requires.table.0 c.requires.first c.new-seats.ensures.items;
    }

pub split_seat-rest-requires : goal.split_seat-rest-requires
split_seat-rest-requires c =
    let shared = c.args.shared.now in
    let d = c.loop-k.invariant.dealt in
    let k = c.loop-k.k in
    let more = c.loop-k-test.true in
    let lt : k + 1 < shared.key.setup.slots = omega (arith, more, c.requires.slots.0) in
    (d.table, c.requires.table.1, split_allowed shared.key shared.table_id k c.loop-k.last c.loop-k.seats.items lt d)

pub loop-k-preserved : goal.loop-k-preserved
loop-k-preserved c =
    let shared = c.args.shared.now in
    let d = c.loop-k.invariant.dealt in
    let k = c.loop-k.k in
    let more = c.loop-k-test.true in
    let lt : k + 1 < shared.key.setup.slots = omega (arith, more, c.requires.slots.0) in
    let split = c.split_seat-rest.ensures in
    record {
      low = omega (arith, lt);
      dealt = dealt_more shared.key shared.table_id k c.loop-k.last c.split_seat-rest.new.seat c.split_seat-rest.result c.loop-k.seats.items c.push.new.self.items lt d split.0 split.2 split.3 split.4 c.in_ok-push.ensures.items;
    }

pub returns-clause-seats : goal.returns-clause-seats
returns-clause-seats c =
    let shared = c.args.shared.now in
    let k = c.loop-k.k in
    let over = c.loop-k-test.false in
    let low = c.loop-k.invariant.low in
    let at : c.args.slots - 1 ≡ k = omega (arith, over, c.loop-k.auto.k-end, c.requires.slots.0, c.requires.slots.1) in
    let end : k + 1 ≡ shared.key.setup.slots = omega (arith, at, c.requires.slots.0, c.requires.slots.1) in
    let all = dealt_last shared.key shared.table_id k c.loop-k.last c.loop-k.seats.items c.push-2.new.self.items end c.loop-k.invariant.dealt (c.in_ok-push-2.ensures.items ∙ ap (λ n. c.loop-k.seats.items ++ record { seat = c.loop-k.last; thread = n; marks = 0 } ∷ []) at) in
    record {
      count = all.0;
      each = λ j seat there. (let started = all.1 j seat there in (started.seat_of, ap (λ (v : SeatView). v.from) started.view));
    }

pub returns-clause-start : goal.returns-clause-start
returns-clause-start c = λ j seat there.
    let shared = c.args.shared.now in
    let k = c.loop-k.k in
    let over = c.loop-k-test.false in
    let at : c.args.slots - 1 ≡ k = omega (arith, over, c.loop-k.auto.k-end, c.requires.slots.0, c.requires.slots.1) in
    let end : k + 1 ≡ shared.key.setup.slots = omega (arith, at, c.requires.slots.0, c.requires.slots.1) in
    let all = dealt_last shared.key shared.table_id k c.loop-k.last c.loop-k.seats.items c.push-2.new.self.items end c.loop-k.invariant.dealt (c.in_ok-push-2.ensures.items ∙ ap (λ n. c.loop-k.seats.items ++ record { seat = c.loop-k.last; thread = n; marks = 0 } ∷ []) at) in
    let started = all.1 j seat there in
    let within : j < shared.key.setup.slots = subst (λ n. j < n) all.0 (slice_get_within c.push-2.new.self.items j seat there) in
    (started.view, started_reached shared.key shared.table_id j seat started within, started.marks)
