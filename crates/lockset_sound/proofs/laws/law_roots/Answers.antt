use Rattle.std.proofs.Common.{sym, subst}
use Rattle.lockset_sound.proofs.Racing.{is_a_root, may_both}
use Rattle.lockset_sound.proofs.Roots.{root_of}
use Rattle.lockset_sound.proofs.RootsInRuns.{root_settled}
use Rattle.lockset_sound.proofs.RootSteps.{RootOf}
use Rattle.lockset_sound.proofs.laws.law_roots.Goals as goal

pub returns-clause-root : goal.returns-clause-root
returns-clause-root c = λ code setup state t told th valid limits reached at running is.
    is_a_root code t (root_of th) (subst (λ z. RootOf code t (root_of z)) (sym is) (root_settled code valid setup limits state t told reached at running))

pub returns-clause-meet : goal.returns-clause-meet
returns-clause-meet c = λ code setup state t u told other th uh valid limits reached ne at there running both is as_well.
    may_both code t u (root_of th) (root_of uh) ne
    (subst (λ z. RootOf code t (root_of z)) (sym is) (root_settled code valid setup limits state t told reached at running))
    (subst (λ z. RootOf code u (root_of z)) (sym as_well) (root_settled code valid setup limits state u other reached there both))
