-- What the counts have for an object, by the derived test of whether two objects are one.
use Rattle.std.proofs.Common.{◌≡◌, ℕ, Bool, List, [], ◌∷◌, Some, refl, ap, ◌∙◌, cond, rules}
use Rattle.std.specs.Map.{lookup}
use Rattle.sync_objects.specs.declared.object.ObjId.{ObjId}
use Rattle.sync_objects.specs.contracts.object.ObjIdPartialEq.TheImpl
use Rattle.run_theory.specs.Same.{same_object}

-- the derived test of equality
abbrev pub eq : ObjId → ObjId → Bool
eq = TheImpl.ghosts.eq

pub eq_is_same : (o p : ObjId) → eq o p ≡ same_object o p
eq_is_same o p = search rules

pub lookup_same : (t u : ObjId → Bool) → ((o : ObjId) → t o ≡ u o) → (es : List (ObjId × ℕ)) → lookup t es ≡ lookup u es
lookup_same t u same [] = refl
lookup_same t u same (e ∷ es) = ap (λ b. cond b (Some e.1) (lookup t es)) (same e.0) ∙ ap (λ o. cond (u e.0) (Some e.1) o) (lookup_same t u same es)
