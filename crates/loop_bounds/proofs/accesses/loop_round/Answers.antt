use Rattle.std.proofs.Common.{◌≡◌, Some, None, sym, ap, ◌∙◌, arith}
use Rattle.std.specs.Option.{option_copied}
use Rattle.weak_lock_facts.specs.Ranges.{mark_before}
use Rattle.loop_bounds.specs.Tables.{first_at}
use Rattle.loop_bounds.proofs.Innermost.{round_at}
use Rattle.loop_bounds.proofs.FirstLoops.{no_round, no_head, head_round}
use Rattle.loop_bounds.proofs.accesses.loop_round.Goals as goal

pub returns-in_err-mark : goal.returns-in_err-mark
returns-in_err-mark c =
    let is = c.args.instrs.now in
    let k = c.args.at in
    let none : mark_before is k k ≡ None = sym (round_at is c.args.rounds.now k c.requires.rounds (omega (arith, c.requires.length, c.requires.at))) ∙ c.in_err-mark.was in
    ap option_copied c.from_residual.ensures ∙ sym (no_round is k c.args.loops.now none)

pub returns-in_err-head : goal.returns-in_err-head
returns-in_err-head c =
    let is = c.args.instrs.now in
    let k = c.args.at in
    let m = c.in_ok-mark.mark in
    let round : mark_before is k k ≡ Some m = sym (round_at is c.args.rounds.now k c.requires.rounds (omega (arith, c.requires.length, c.requires.at))) ∙ c.in_ok-mark.was in
    let none : first_at c.args.loops.now m ≡ None = sym (c.requires.heads m) ∙ sym c.get.ensures.value ∙ ap option_copied c.in_err-head.was in
    ap option_copied c.from_residual-in_err-head.ensures ∙ sym (no_head is k m c.args.loops.now round none)

pub returns-then-at-head : goal.returns-then-at-head
returns-then-at-head c =
    let is = c.args.instrs.now in
    let k = c.args.at in
    let m = c.in_ok-mark.mark in
    let round : mark_before is k k ≡ Some m = sym (round_at is c.args.rounds.now k c.requires.rounds (omega (arith, c.requires.length, c.requires.at))) ∙ c.in_ok-mark.was in
    let first : first_at c.args.loops.now m ≡ Some c.in_ok-head.head.now = sym (c.requires.heads m) ∙ sym c.get.ensures.value ∙ ap option_copied c.in_ok-head.was in
    sym (head_round is k m c.in_ok-head.head.now c.args.loops.now round first (omega (arith, c.if-at-head.true)) c.requires.calm)
