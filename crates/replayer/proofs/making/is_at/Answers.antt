use Rattle.std.proofs.Common.{◌≡◌, sym, ap, ◌∙◌, rules}
use Rattle.sync_objects.specs.declared.object.ObjId.{ObjId}
use Rattle.sync_objects.specs.contracts.object.ObjIdPartialEq.TheImpl
use Rattle.run_theory.specs.Same.{same_object}
use Rattle.run_theory.proofs.SameEntries.{same_object-true, same_object-refl}
use Rattle.replayer.proofs.making.is_at.Goals as goal

eq_is_same : (o p : ObjId) → TheImpl.ghosts.eq o p ≡ same_object o p
eq_is_same o p = search rules

pub returns : goal.returns
returns c =
    let a = c.args.entry.obj in
    let b = c.args.obj in
    let is : c.eq.result ≡ same_object a b = c.eq.ensures ∙ eq_is_same a b in (
      λ t. same_object-true a b (sym is ∙ t),
      λ e. is ∙ ap (same_object a) (sym e) ∙ same_object-refl a,
    )
