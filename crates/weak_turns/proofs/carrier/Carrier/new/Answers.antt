use Rattle.std.proofs.Common.{◌≡◌, ◌*◌, length, ap, ◌∙◌, arith}
use Rattle.flow_code.specs.declared.code.Code.{Code}
use Rattle.weak_turns.proofs.Beginning.{sound_start}
use Rattle.weak_turns.proofs.carrier.Carrier.new.Goals as goal

pub invariant_of-result : goal.invariant_of-result
invariant_of-result c =
    let cells = c.args.cells.now in
    let count : c.len-stripes.result ≡ length cells.code.locks = c.len-stripes.ensures ∙ ap (λ (z : Code). length z.locks) c.code.ensures in
    let made = c.loop-k.invariant in
    let over = c.loop-k-test.false in
    let most = c.loop-k.auto._k-end in
    let stripes : length c.loop-k.since.items ≡ 8 * length cells.code.locks = omega (arith, count, made, over, most) in
    sound_start cells c.args.seat c.args.run c.args.budget c.loop-k.since.items c.requires.valid c.requires.constants c.requires.limits c.requires.seat c.requires.view c.requires.reached c.requires.marks c.requires.code c.requires.setup c.requires.number c.requires.told c.requires.reads stripes
