use Rattle.std.proofs.Common.{◌≡◌, ◌<◌, ◌+◌, ◌∷◌, List, true, get_or, drop, length, sym, ap, ◌∙◌, arith}
use Rattle.std.specs.Prelude.{◌&&◌}
use Rattle.std.specs.List.{list_all}
use Rattle.std.proofs.lemmas.List.{drop_more}
use Rattle.facts.specs.declared.locks.LockPath.{LockPath}
use Rattle.facts.specs.declared.locks.LockPath.TheVariants.{Cell}
use Rattle.facts.specs.Locks.{is_less, is_same, has}
use Rattle.facts.proofs.TotalOrders.{orders_paths}
use Rattle.lockset_flow.proofs.Walking.{from_has, begins_has}
use Rattle.lockset_flow.proofs.meeting.are_among.Goals as goal

pub loop-path-preserved : goal.loop-path-preserved
loop-path-preserved c =
    let paths = c.args.paths.now in
    let others = c.args.others.now in
    let i = c.loop-path.path-index in
    let p = get_or paths i (Cell 0) in
    let ps = drop (i + 1) paths in
    let lt : i < length paths = omega arith in
    let split : drop i paths ≡ p ∷ ps = drop_more paths i (Cell 0) lt in
    let within : (q : LockPath) → has q c.from-rest.result.now ≡ true → has q others ≡ true = λ q h. c.loop-path.invariant.1 q (from_has is_less is_same orders_paths p q c.loop-path.rest.now (ap (has q) (sym c.from-rest.ensures) ∙ h)) in
    let there : has p others ≡ true = within p (begins_has is_less is_same orders_paths p c.from-rest.result.now (sym c.begins_with.ensures ∙ c.if-not-begins_with.false)) in (
      sym (ap (λ (z : List LockPath). list_all (λ q. has q others) z) split ∙ ap (λ b. b && list_all (λ q. has q others) ps) there) ∙ c.loop-path.invariant.0,
      within,
    )
