use Rattle.std.proofs.Common.{◌≡◌, ◌≤◌, min, refl, sym, ap, ◌∙◌, arith}
use Rattle.std.proofs.lemmas.Bool.{true≢false}
use Rattle.shared_cells.specs.Seats.{view_of}
use Rattle.shared_cells.specs.Views.{SeatView, looked, departing}
use Rattle.shared_cells.specs.Words.{memory_place, departure_place}
use Rattle.replayer.specs.declared.step.Step.TheVariants as step
use Rattle.weak_turns.proofs.Searching.{set_or_not}
use Rattle.replayer.proofs.Follows.{departing_carrying, departs_tried, looked_carrying, looked_twice, lowered_carrying}
use Rattle.replayer.proofs.Looking.{saw_no_memory}
use Rattle.replayer.proofs.trying.try_next.Goals as goal
use Rattle.replayer.proofs.trying.try_next.Goals.{in-Departs, in_default-matches}

pub returns-then-matches-clause-tried : goal.returns-then-matches-clause-tried
returns-then-matches-clause-tried c =
    let old = c.args.seat.now in
    let s1 = c.lacks_memory.new.seat in
    let s2 = c.depart-bound.new.seat in
    let s3 = c.step.new.seat in
    let s4 = c.least.new.seat in
    let w = c.args.next in
    let tells = c.lacks_memory.ensures.tells in
    let bound = c.depart-bound.result in
    let cells = c.args.cells.now in
    let departs : c.in-Ok.step ≡ step.Departs = elim c.match-matches.branch [ in-Departs d ↦ d.in-Departs.is | in_default-matches d ↦ absurd (true≢false (sym c.if-matches.true ∙ d.matches-is)) ] in
    let both = looked_twice old s1 s2 (memory_place cells.code cells.setup) tells.value (departure_place cells.code cells.setup) bound tells.view tells.marks c.depart-bound.ensures.view c.depart-bound.ensures.marks in
    let v2 = departing (looked (view_of old) (memory_place cells.code cells.setup) tells.value) (departure_place cells.code cells.setup) bound in
    let met : min (view_of old).met bound ≤ bound = omega arith in
    departs_tried cells old s2 s3 s4 c.step.new.run w bound c.least.result c.in-Ok.step c.if-bound-next.false departs v2 both.0 refl refl met both.1 c.in-Ok.ensures.comes c.least.ensures.seat c.least.ensures.view c.least.ensures.marks

pub returns-then-lacks_memory-clause-out : goal.returns-then-lacks_memory-clause-out
returns-then-lacks_memory-clause-out c = λ e.
    let tells = c.lacks_memory.ensures.tells in
    saw_no_memory c.args.cells.now c.args.seat.now c.lacks_memory.new.seat tells.value tells.view (set_or_not tells.value c.lacks_memory.result tells.is c.if-lacks_memory.true)

pub returns-in_default-clause-out : goal.returns-in_default-clause-out
returns-in_default-clause-out c = λ e. saw_no_memory c.args.cells.now c.step.new.seat c.no_memory.new.seat 1 c.no_memory.ensures.view (λ z. cc)

pub returns-then-lacks_memory-clause-carrying : goal.returns-then-lacks_memory-clause-carrying
returns-then-lacks_memory-clause-carrying c = looked_carrying c.args.cells.now c.args.seat.now c.lacks_memory.new.seat c.args.run.now (memory_place c.args.cells.now.code c.args.cells.now.setup) c.lacks_memory.ensures.tells.value c.lacks_memory.ensures.tells.view c.lacks_memory.ensures.tells.marks c.lacks_memory.ensures.seat c.requires.carrying

pub returns-then-bound-next-clause-carrying : goal.returns-then-bound-next-clause-carrying
returns-then-bound-next-clause-carrying c = departing_carrying c.args.cells.now c.lacks_memory.new.seat c.depart-bound.new.seat c.args.run.now (departure_place c.args.cells.now.code c.args.cells.now.setup) c.depart-bound.result c.depart-bound.ensures.view c.depart-bound.ensures.marks c.depart-bound.ensures.seat
    (looked_carrying c.args.cells.now c.args.seat.now c.lacks_memory.new.seat c.args.run.now (memory_place c.args.cells.now.code c.args.cells.now.setup) c.lacks_memory.ensures.tells.value c.lacks_memory.ensures.tells.view c.lacks_memory.ensures.tells.marks c.lacks_memory.ensures.seat c.requires.carrying)

pub step-requires-clause-carrying : goal.step-requires-clause-carrying
step-requires-clause-carrying c = departing_carrying c.args.cells.now c.lacks_memory.new.seat c.depart-bound.new.seat c.args.run.now (departure_place c.args.cells.now.code c.args.cells.now.setup) c.depart-bound.result c.depart-bound.ensures.view c.depart-bound.ensures.marks c.depart-bound.ensures.seat
    (looked_carrying c.args.cells.now c.args.seat.now c.lacks_memory.new.seat c.args.run.now (memory_place c.args.cells.now.code c.args.cells.now.setup) c.lacks_memory.ensures.tells.value c.lacks_memory.ensures.tells.view c.lacks_memory.ensures.tells.marks c.lacks_memory.ensures.seat c.requires.carrying)

pub returns-then-bound-next-clause-tried : goal.returns-then-bound-next-clause-tried
returns-then-bound-next-clause-tried c =
    let old = c.args.seat.now in
    let s1 = c.lacks_memory.new.seat in
    let s2 = c.depart-bound.new.seat in
    let tells = c.lacks_memory.ensures.tells in
    let bound = c.depart-bound.result in
    let cells = c.args.cells.now in
    let both = looked_twice old s1 s2 (memory_place cells.code cells.setup) tells.value (departure_place cells.code cells.setup) bound tells.view tells.marks c.depart-bound.ensures.view c.depart-bound.ensures.marks in
    let met = ap (λ (z : SeatView). z.met) both.0 in
    record {
      carrying = departing_carrying c.args.cells.now c.lacks_memory.new.seat c.depart-bound.new.seat c.args.run.now (departure_place c.args.cells.now.code c.args.cells.now.setup) c.depart-bound.result c.depart-bound.ensures.view c.depart-bound.ensures.marks c.depart-bound.ensures.seat
          (looked_carrying c.args.cells.now c.args.seat.now c.lacks_memory.new.seat c.args.run.now (memory_place c.args.cells.now.code c.args.cells.now.setup) c.lacks_memory.ensures.tells.value c.lacks_memory.ensures.tells.view c.lacks_memory.ensures.tells.marks c.lacks_memory.ensures.seat c.requires.carrying);
      thread = ap (λ (z : SeatView). z.from) both.0;
      bound = omega (arith, met);
      met = tt;
      positions = ap (λ (z : SeatView). z.positions) both.0;
      early = λ le. refl;
      is = both.1;
    }

pub returns-in_default-clause-carrying : goal.returns-in_default-clause-carrying
returns-in_default-clause-carrying c = looked_carrying c.args.cells.now c.step.new.seat c.no_memory.new.seat c.step.new.run (memory_place c.args.cells.now.code c.args.cells.now.setup) 1 c.no_memory.ensures.view c.no_memory.ensures.marks c.no_memory.ensures.seat c.step.ensures.carrying

pub returns-then-matches-clause-carrying : goal.returns-then-matches-clause-carrying
returns-then-matches-clause-carrying c = lowered_carrying c.args.cells.now c.step.new.seat c.least.new.seat c.step.new.run c.args.next.position c.least.result c.least.ensures.view c.least.ensures.marks c.least.ensures.seat c.step.ensures.carrying
