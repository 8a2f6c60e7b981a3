use Rattle.std.proofs.Common.{◌≡◌, pos, None, rules, sym, ap, ◌∙◌}
use Rattle.sync_objects.specs.Names.{Fits}
use Rattle.log_walks.specs.Known.{known_op, op_advance}
use Rattle.log_walks.proofs.known.allowed.Goals as goal

pub returns-in_default : goal.returns-in_default
returns-in_default c =
    let fits : Fits c.args.entry.op c.args.entry.obj = search rules in
    let none : known_op c.args.slots c.args.entry.op ≡ None = sym c.known_op.ensures ∙ c.in_default.is in
    (fits, pos 0, ap (λ o. op_advance o c.args.entry.thread c.args.word) none)
