use Rattle.std.proofs.Common.{reverse, sym, subst}
use Rattle.flow_code.proofs.Runnable.{valid_runnable}
use Rattle.lockset_sound.proofs.ByRows.{listed_at}
use Rattle.lockset_sound.proofs.Racing.{races}
use Rattle.lockset_sound.proofs.Roots.{root_of}
use Rattle.lockset_sound.proofs.RootsInRuns.{root_settled}
use Rattle.lockset_sound.proofs.RootSteps.{RootOf}
use Rattle.lockset_sound.proofs.laws.law_may_race.Goals as goal

pub returns : goal.returns
returns c = λ code setup tables summaries state t u told other th uh f g i j a b place valid constants limits sums reached ne at there running both is as_well stands others accesses too stores first second.
    races code setup tables summaries state t u th.top uh.top (reverse th.below) (reverse uh.below) a.store b.store place (valid_runnable code valid) limits reached ne
    (subst (λ z. RootOf code t (root_of z)) (sym is) (root_settled code valid setup limits state t told reached at running))
    (subst (λ z. RootOf code u (root_of z)) (sym as_well) (root_settled code valid setup limits state u other reached there both))
    (listed_at code setup summaries state t told th f i a valid constants limits sums reached at running is stands accesses)
    (listed_at code setup summaries state u other uh g j b valid constants limits sums reached there both as_well others too)
    stores first second
