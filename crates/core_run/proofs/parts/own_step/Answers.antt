use Rattle.std.proofs.Common.{ℕ, List, subst, ⊎_elim}
use Rattle.core_run.specs.Parts.{OwnIs}
use Rattle.core_run.proofs.PartFacts.{own_found, quiet_found, ended_found, operate_found}
use Rattle.core_run.proofs.parts.own_step.Goals as goal

pub returns-in_ok-own-in-Load-clause-own : goal.returns-in_ok-own-in-Load-clause-own
returns-in_ok-own-in-Load-clause-own c = λ told is.
    subst (λ (z : List ℕ). OwnIs c.args.flow.now.code c.args.flow.now.setup c.args.thread told z z c.load.new.flow.kept.thread c.in_ok-own-in-Load.own) c.deref.ensures.value (own_found _ _ _ _ _ _ _ told _ _ _ c.settle.ensures.code c.settle.ensures.setup c.settle.ensures.number c.requires.number is c.in_ok-settle.ensures.thread c.next_action.ensures _ _ _ _ _ c.in-Load.is (c.in_ok-own-in-Load.ensures.own told))

pub returns-in_ok-own-in-Store-clause-own : goal.returns-in_ok-own-in-Store-clause-own
returns-in_ok-own-in-Store-clause-own c = λ told is.
    own_found _ _ _ _ _ _ _ told _ _ _ c.settle.ensures.code c.settle.ensures.setup c.settle.ensures.number c.requires.number is c.in_ok-settle.ensures.thread c.next_action.ensures _ _ _ _ _ c.in-Store.is (c.in_ok-own-in-Store.ensures.own told)

pub returns-in_ok-own-in-Mark-clause-own : goal.returns-in_ok-own-in-Mark-clause-own
returns-in_ok-own-in-Mark-clause-own c = λ told is.
    own_found _ _ _ _ _ _ _ told _ _ _ c.settle.ensures.code c.settle.ensures.setup c.settle.ensures.number c.requires.number is c.in_ok-settle.ensures.thread c.next_action.ensures _ _ _ _ _ c.in-Mark.is (c.in_ok-own-in-Mark.ensures.own told _)

pub returns-in-Quiet-clause-own : goal.returns-in-Quiet-clause-own
returns-in-Quiet-clause-own c = λ told is.
    ⊎_elim
    (λ q. quiet_found _ _ _ _ _ _ _ told _ _ _ c.settle.ensures.code c.settle.ensures.setup c.settle.ensures.number c.requires.number is c.in_ok-settle.ensures.thread c.next_action.ensures _ q)
    (λ r. ⊎_elim
    (λ x. operate_found _ _ _ _ _ _ _ told _ _ _ c.settle.ensures.code c.settle.ensures.setup c.settle.ensures.number c.requires.number is c.in_ok-settle.ensures.thread c.next_action.ensures _ x.0 x.1 x.2)
    (λ e. ended_found _ _ _ _ _ _ _ told _ _ _ c.settle.ensures.code c.settle.ensures.setup c.settle.ensures.number c.requires.number is c.in_ok-settle.ensures.thread c.next_action.ensures _ e)
    r)
    c.in-Quiet.is
