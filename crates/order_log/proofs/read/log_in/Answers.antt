use Rattle.std.proofs.Common.{◌≡◌, Ok, codes, arith, rules}
use Rattle.order_log.specs.Recogniser.{lines_in, log_at}
use Rattle.order_log.proofs.Kept.{numbered_within, input_size, log_kept}
use Rattle.order_log.proofs.read.log_in.Goals as goal

pub input-requires : goal.input-requires
input-requires c = (numbered_within (codes "input ") 0 1048576 c.in_ok-size.size _ _ c.in_ok-size.ensures).1

pub overflow_cast-slots : goal.overflow_cast-slots
overflow_cast-slots c = let few = (numbered_within (codes "slots ") 1 16 c.in_ok-slots.slots _ _ c.in_ok-slots.ensures).1 in omega arith

pub new-setup-requires : goal.new-setup-requires
new-setup-requires c =
    let slots = numbered_within (codes "slots ") 1 16 c.in_ok-slots.slots _ _ c.in_ok-slots.ensures in
    let cells = numbered_within (codes "cells ") 1024 131072 c.in_ok-cells.cells _ _ c.in_ok-cells.ensures in
    let limit = numbered_within (codes "limit ") 1 67108864 c.in_ok-limit.limit _ _ c.in_ok-limit.ensures in
    let size = (numbered_within (codes "input ") 0 1048576 c.in_ok-size.size _ _ c.in_ok-size.ensures).1 in
    let long = input_size c.in_ok-size.size _ _ c.in_ok-input.input c.in_ok-input.ensures in
    record { some_slot = slots.0; few_slots = slots.1; enough_cells = cells.0; few_cells = cells.1; some_event = limit.0; few_events = limit.1; short_input = omega arith }

pub new-requires : goal.new-requires
unfolding log_at
new-requires c =
    let whole : log_at (lines_in 1 c.args.bytes.now) ≡ Ok (record { setup = c.new-setup.result; profile = c.in_ok-profile.profile; entries = c.in_ok-entries.entries }) = search rules in
    let kept = log_kept c.args.bytes.now _ whole in
    record { names = kept.0.profile; fitting = kept.0.operations; within = kept.1.entries }
