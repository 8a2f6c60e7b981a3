use Rattle.std.proofs.Common.{◌≡◌, Bool, sym, subst}
use Rattle.walk_accesses.specs.Accesses.{AccessIs}
use Rattle.chain_report.specs.Finds.{ConflictIs}
use Rattle.chain_report.proofs.Deciding.{no_first, no_second, decided}
use Rattle.chain_report.proofs.finder.are_conflicting.Goals as goal

pub returns-in_default : goal.returns-in_default
returns-in_default c =
    no_first c.args.code.now c.args.setup.now c.args.entries.now c.args.i c.args.j
    (subst (AccessIs c.args.code.now c.args.setup.now c.args.entries.now c.args.i.thread c.args.i.count) c.in_default.is c.in_ok-first.ensures)

pub returns-in_default-2 : goal.returns-in_default-2
returns-in_default-2 c =
    no_second c.args.code.now c.args.setup.now c.args.entries.now c.args.i c.args.j
    (subst (AccessIs c.args.code.now c.args.setup.now c.args.entries.now c.args.j.thread c.args.j.count) c.in_default-2.is c.in_ok-second.ensures)

pub returns : goal.returns
returns c =
    subst (ConflictIs c.args.code.now c.args.setup.now c.args.entries.now c.args.i c.args.j) (sym c.conflict.ensures)
    (decided c.args.code.now c.args.setup.now c.args.entries.now c.args.i c.args.j c.in-Some.first c.in-Some-2.second c.if-i-j.false
    (subst (AccessIs c.args.code.now c.args.setup.now c.args.entries.now c.args.i.thread c.args.i.count) c.in-Some.is c.in_ok-first.ensures)
    (subst (AccessIs c.args.code.now c.args.setup.now c.args.entries.now c.args.j.thread c.args.j.count) c.in-Some-2.is c.in_ok-second.ensures))
