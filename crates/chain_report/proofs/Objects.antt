-- What the tables have for an object and for a hold, by the derived tests of whether two are one.
use Rattle.std.proofs.Common.{◌≡◌, ◌==◌, ◌&&◌, Bool, true, false, if◌then◌else◌, List, [], ◌∷◌, Option, Some, None, refl, sym, ap, ◌∙◌, cond, rules}
use Rattle.std.specs.Map.{lookup}
use Rattle.std.specs.Option.{option_map_or, unwrap_or}
use Rattle.sync_objects.specs.declared.object.ObjId.{ObjId}
use Rattle.sync_objects.specs.contracts.object.ObjIdPartialEq.TheImpl as object_test
use Rattle.run_theory.specs.Same.{same_object}
use Rattle.chain_report.specs.Past.{same_hold}
use Rattle.chain_report.specs.contracts.kept.HoldPartialEq.TheImpl as hold_test
use Rattle.chain_report.specs.declared.kept.Hold.{Hold}

-- the derived tests of equality
abbrev pub object_eq : ObjId → ObjId → Bool
object_eq = object_test.ghosts.eq

abbrev pub hold_eq : Hold → Hold → Bool
hold_eq = hold_test.ghosts.eq

pub object_alike : (o p : ObjId) → object_eq o p ≡ same_object o p
object_alike o p = search rules

pub hold_alike : (a b : Hold) → hold_eq a b ≡ same_hold a b
hold_alike a b = ap (λ z. z && (a.thread == b.thread)) (object_alike a.lock b.lock)

module _ {K V : Type 0} (eq same : K → K → Bool) (alike : (a b : K) → eq a b ≡ same a b) where
  pub lookup_same : (k : K) (es : List (K × V)) → lookup (eq k) es ≡ lookup (same k) es
  lookup_same k [] = refl
  lookup_same k (e ∷ es) = ap (λ b. cond b (Some e.1) (lookup (eq k) es)) (alike k e.0) ∙ ap (λ o. cond (same k e.0) (Some e.1) o) (lookup_same k es)

  -- what a table has for a key that was looked up
  pub looked_up : (none : V) (o : Option V) → unwrap_or o none ≡ option_map_or (λ v. v) o none
  looked_up none None = refl
  looked_up none (Some v) = refl

  -- .. and for each key after a value was put at one
  pub put : (none v : V) (k p : K) (old new : List (K × V)) → lookup (eq p) new ≡ cond (eq k p) (Some v) (lookup (eq p) old) →
      option_map_or (λ w. w) (lookup (same p) new) none ≡ (if same k p then v else option_map_or (λ w. w) (lookup (same p) old) none)
  put none v k p old new h =
      ap (λ o. option_map_or (λ w. w) o none) (
      sym (lookup_same p new)
      ∙ h
      ∙ ap (λ b. cond b (Some v) (lookup (eq p) old)) (alike k p)
      ∙ ap (λ o. cond (same k p) (Some v) o) (lookup_same p old)
      )
      ∙ by (same k p) (lookup (same p) old)
    where
      by : (b : Bool) (o : Option V) → option_map_or (λ w. w) (cond b (Some v) o) none ≡ (if b then v else option_map_or (λ w. w) o none)
      by true o = refl
      by false o = refl
