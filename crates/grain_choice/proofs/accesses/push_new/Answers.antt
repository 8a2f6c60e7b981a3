use Rattle.std.proofs.Common.{◌≡◌, Bool, true, false, cond, List, [], ◌∷◌, refl, sym, ap, ◌∙◌}
use Rattle.std.specs.Prelude.{◌||◌}
use Rattle.std.proofs.lemmas.List.Folds.{list_any-append}
use Rattle.facts.specs.declared.pair.AccessAt.{AccessAt}
use Rattle.facts.specs.Pairs.{access_same}
use Rattle.grain_choice.specs.Listed.{is_listed}
use Rattle.grain_choice.proofs.accesses.push_new.Goals as goal

either_is : (e p : Bool) → cond e true p ≡ (p || (e || false))
either_is true true = refl
either_is true false = refl
either_is false true = refl
either_is false false = refl

pub returns-in_ok-push-clause-agree : goal.returns-in_ok-push-clause-agree
returns-in_ok-push-clause-agree c a =
    let is = access_same c.args.access a in
    c.in_ok-insert.ensures.updates.0 (a.function, a.instr)
    ∙ either_is is _
    ∙ ap (λ b. b || (is || false)) (c.requires a)
    ∙ sym (ap (λ (bs : List AccessAt). is_listed bs a) c.in_ok-push.ensures.items ∙ list_any-append (λ b. access_same b a) c.args.listed.now.items (c.args.access ∷ []))
