use Rattle.shared_cells.specs.Rule.{Board}
use Rattle.shared_cells.proofs.Joined.{joining_starts, may_join, join_allowed, joining_more}
use Rattle.shared_cells.proofs.dealing.join.Goals as goal

pub loop-seat-init : goal.loop-seat-init
loop-seat-init c =
    let shared = c.args.shared.now in
    let b : Board = record { code = shared.key.code; setup = shared.key.setup; table = shared.table_id } in
    joining_starts b c.args.seats.items c.requires.seats c.pop.new.self.items c.in-Some.last c.in-Some.ensures.items

pub join_seat-requires : goal.join_seat-requires
join_seat-requires c =
    let shared = c.args.shared.now in
    let b : Board = record { code = shared.key.code; setup = shared.key.setup; table = shared.table_id } in
    let seat = c.in-Some-pop.seat in
    let whole = c.loop-seat.whole in
    let j = c.loop-seat.invariant in
    let may = may_join b c.args.seats.items c.requires.seats c.loop-seat.seats.items c.pop-in-loop-seat.new.self.items seat whole j c.in-Some-pop.ensures.items in
    (may.table, j.table, j.no_slot, c.requires.words, join_allowed shared.key seat.seat.id whole.id seat.seat.me.0 whole.me.0 may.first may.second may.next)

pub loop-seat-preserved : goal.loop-seat-preserved
loop-seat-preserved c =
    let shared = c.args.shared.now in
    let b : Board = record { code = shared.key.code; setup = shared.key.setup; table = shared.table_id } in
    joining_more b c.args.seats.items c.requires.seats c.loop-seat.seats.items c.pop-in-loop-seat.new.self.items c.in-Some-pop.seat c.loop-seat.whole c.join_seat.new.seat c.loop-seat.invariant c.in-Some-pop.ensures.items c.join_seat.ensures.0 c.join_seat.ensures.2
