use Rattle.std.proofs.Common.{◌≤◌, inl, inr, sym, subst, arith}
use Rattle.sync_objects.specs.Setup.{IsWithinLimits}
use Rattle.core_run.specs.Machine.{start_state}
use Rattle.core_run.specs.Walks.{IsUnfinished, WalkIs}
use Rattle.shared_cells.specs.Closing.{Closes}
use Rattle.run_walk.specs.Remains.{IsWalked}
use Rattle.replayer.specs.Following.{made_in}
use Rattle.replayer.specs.Replays.{HaveFollowed, entries_taken}
use Rattle.replayer.proofs.Counting.{if_ok_map}
use Rattle.replayer.proofs.Ending.{are_seats, is_wrong, is_unfinished, is_whole, taken_before, taken_all, walk_short}
use Rattle.replayer.proofs.replaying.conclude.Goals as goal

pub close-requires : goal.close-requires
close-requires c = are_seats c.args.code.now c.args.setup.now c.args.cells c.args.entries.now c.args.gathered.seats.items c.args.gathered.remains.items c.args.gathered.all_ended c.requires.followed c.requires.code c.requires.setup

pub returns-then-closed-clause-walk : goal.returns-then-closed-clause-walk
returns-then-closed-clause-walk c =
    let code = c.args.code.now in
    let s = c.args.setup.now in
    let seats = c.args.gathered.seats.items in
    let d = c.in_ok-closed.closed.departure in
    let words = c.in_ok-closed.closed.words.items in
    let closes : Closes code s seats words d = subst (λ z. Closes code z seats words d) c.requires.setup (subst (λ z. Closes z c.args.cells.setup seats words d) c.requires.code c.in_ok-closed.ensures) in
    let limits = subst IsWithinLimits c.requires.setup c.requires.followed.done.followers.limits in
    (d, omega arith, inl (is_wrong code s c.args.cells c.args.entries.now seats c.args.gathered.remains.items c.args.gathered.all_ended c.requires.followed c.requires.code c.requires.setup words d closes c.requires.runnable limits c.requires.race_free c.requires.threads c.law_wrong.ensures c.law_known.ensures c.if-closed.true c.requires.few))

pub returns-then-not-all_ended-clause-walk : goal.returns-then-not-all_ended-clause-walk
returns-then-not-all_ended-clause-walk c =
    let code = c.args.code.now in
    let s = c.args.setup.now in
    let seats = c.args.gathered.seats.items in
    let d = c.in_ok-closed.closed.departure in
    let words = c.in_ok-closed.closed.words.items in
    let closes : Closes code s seats words d = subst (λ z. Closes code z seats words d) c.requires.setup (subst (λ z. Closes z c.args.cells.setup seats words d) c.requires.code c.in_ok-closed.ensures) in
    let limits = subst IsWithinLimits c.requires.setup c.requires.followed.done.followers.limits in
    (c.len.result, omega arith, inr (subst (λ n. IsUnfinished code s (start_state code s) c.args.entries.now n) (sym c.len.ensures) (is_unfinished code s c.args.cells c.args.entries.now seats c.args.gathered.remains.items c.args.gathered.all_ended c.requires.followed c.requires.code c.requires.setup words d closes c.requires.runnable limits c.requires.race_free c.requires.threads c.law_unfinished.ensures c.if-closed.false c.requires.few c.if-not-all_ended.true)))

pub returns-then-closed-clause-taken : goal.returns-then-closed-clause-taken
returns-then-closed-clause-taken c = λ h.
    let code = c.args.code.now in
    let s = c.args.setup.now in
    let seats = c.args.gathered.seats.items in
    let d = c.in_ok-closed.closed.departure in
    let words = c.in_ok-closed.closed.words.items in
    let closes : Closes code s seats words d = subst (λ z. Closes code z seats words d) c.requires.setup (subst (λ z. Closes z c.args.cells.setup seats words d) c.requires.code c.in_ok-closed.ensures) in
    let limits = subst IsWithinLimits c.requires.setup c.requires.followed.done.followers.limits in
    taken_before code s c.args.cells c.args.entries.now seats c.args.gathered.remains.items c.args.gathered.all_ended h c.requires.code c.requires.setup words d closes c.requires.runnable limits c.requires.threads c.if-closed.true

pub returns-then-not-all_ended-clause-taken : goal.returns-then-not-all_ended-clause-taken
returns-then-not-all_ended-clause-taken c = λ h.
    let code = c.args.code.now in
    let s = c.args.setup.now in
    let seats = c.args.gathered.seats.items in
    let d = c.in_ok-closed.closed.departure in
    let words = c.in_ok-closed.closed.words.items in
    let closes : Closes code s seats words d = subst (λ z. Closes code z seats words d) c.requires.setup (subst (λ z. Closes z c.args.cells.setup seats words d) c.requires.code c.in_ok-closed.ensures) in
    let limits = subst IsWithinLimits c.requires.setup c.requires.followed.done.followers.limits in
    subst (λ n. n ≤ made_in h.fs) (sym c.len.ensures) (taken_all code s c.args.cells c.args.entries.now seats c.args.gathered.remains.items c.args.gathered.all_ended h c.requires.code c.requires.setup words d closes c.requires.runnable limits c.requires.threads c.if-closed.false c.requires.few)

pub whole_walk-requires-clause-walked : goal.whole_walk-requires-clause-walked
whole_walk-requires-clause-walked c =
    let code = c.args.code.now in
    let s = c.args.setup.now in
    let es = c.args.entries.now in
    let seats = c.args.gathered.seats.items in
    let d = c.in_ok-closed.closed.departure in
    let words = c.in_ok-closed.closed.words.items in
    let closes : Closes code s seats words d = subst (λ z. Closes code z seats words d) c.requires.setup (subst (λ z. Closes z c.args.cells.setup seats words d) c.requires.code c.in_ok-closed.ensures) in
    let limits = subst IsWithinLimits c.requires.setup c.requires.followed.done.followers.limits in
    subst (IsWalked code s es) (sym c.deref.ensures.value)
    (is_whole code s c.args.cells es seats c.args.gathered.remains.items c.args.gathered.all_ended c.requires.followed c.requires.code c.requires.setup words d closes c.requires.runnable limits c.requires.race_free c.requires.threads c.law_whole.ensures c.if-closed.false c.requires.few c.if-not-all_ended.false)

pub returns-clause-taken : goal.returns-clause-taken
returns-clause-taken c =
    let code = c.args.code.now in
    let s = c.args.setup.now in
    let es = c.args.entries.now in
    let seats = c.args.gathered.seats.items in
    let d = c.in_ok-closed.closed.departure in
    let words = c.in_ok-closed.closed.words.items in
    let closes : Closes code s seats words d = subst (λ z. Closes code z seats words d) c.requires.setup (subst (λ z. Closes z c.args.cells.setup seats words d) c.requires.code c.in_ok-closed.ensures) in
    let limits = subst IsWithinLimits c.requires.setup c.requires.followed.done.followers.limits in
    if_ok_map (WalkIs code s es c.args.formula.now) (λ w. (h : HaveFollowed c.args.cells es seats c.args.gathered.remains.items c.args.gathered.all_ended) → entries_taken es w ≤ made_in h.fs)
    (λ w is h.
    let short = walk_short code s es c.args.formula.now w is in
    let all = taken_all code s c.args.cells es seats c.args.gathered.remains.items c.args.gathered.all_ended h c.requires.code c.requires.setup words d closes c.requires.runnable limits c.requires.threads c.if-closed.false c.requires.few in
    omega (arith, short, all))
    c.whole_walk.result c.whole_walk.ensures
