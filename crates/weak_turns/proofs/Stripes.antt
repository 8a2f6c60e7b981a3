-- The stripes of a thread stay those of its open regions.
use Rattle.std.proofs.Common.{◌≡◌, ℕ, suc, ◌+◌, ◌*◌, ◌/◌, ◌%◌, ◌<◌, ◌||◌, nat_lt, Bool, true, false, List, [], ◌∷◌, Option, Some, None, ℤ, refl, sym, ap, subst, ◌∙◌, arith}
use Rattle.std.specs.Prelude.{slice_get}
use Rattle.std.proofs.lemmas.Bool.{ltb-true, ltb-false}
use Rattle.sync_objects.specs.Setup.{SetupView}
use Rattle.flow_code.specs.declared.code.Code.{Code}
use Rattle.flow_code.specs.Holding.{nesting}
use Rattle.flow_code.specs.Next.{stepped, gave_up, holds}
use Rattle.flow_code.specs.Settle.{settled}
use Rattle.flow_code.specs.Threads.{OpenRegion, Thread}
use Rattle.lock_ownership.specs.ThreadStripes.{HasItsStripes, IsOpen}
use Rattle.lock_ownership.proofs.DueSteps.{revoked_steps, settled_settles, stepped_steps}
use Rattle.lock_ownership.proofs.Holds.{numbered, holds_is, owes_is}
use Rattle.lock_ownership.proofs.Regions.{Agree, AreOpen}
use Rattle.lock_ownership.proofs.Standings.{standing, is_held, is_owed, is_there}
use Rattle.lock_ownership.proofs.StripeLaws.{has_its, settled_holds}

in_words : (o : Option Bool) → (is_held o || is_owed o) ≡ is_there o
in_words None = refl
in_words (Some true) = refl
in_words (Some false) = refl

all_open : (rs : List OpenRegion) → ((i : ℕ) (r : OpenRegion) → slice_get rs i ≡ Some r → IsOpen r) → AreOpen rs
all_open [] h = tt
all_open (r ∷ rs) h = (h 0 r refl, all_open rs (λ i q e. h (suc i) q e))

module _ (th : Thread) (h : HasItsStripes th) where
  there : (n : ℕ) → is_there (standing th.stripes n) ≡ nat_lt 0 (nesting th.regions n)
  there n =
      let lock = n / 8 in
      let stripe = n % 8 in
      let small : stripe < 8 = omega arith in
      let same : 8 * lock + stripe ≡ n = omega arith in
      subst (λ k. is_there (standing th.stripes k) ≡ nat_lt 0 (nesting th.regions k)) same
      (sym (in_words (standing th.stripes (numbered lock stripe)))
      ∙ sym (ap (λ b. b || is_owed (standing th.stripes (numbered lock stripe))) (holds_is 0 lock stripe th.stripes small h.sorted))
      ∙ sym (ap (λ b. holds th.stripes lock stripe || b) (owes_is 0 lock stripe th.stripes small h.sorted))
      ∙ h.nested lock stripe small)

  pub agree : Agree th.stripes th.regions
  agree = record {
    sorted = h.sorted;
    opened = all_open th.regions h.open_regions;
    listed = λ n e. ltb-true 0 (nesting th.regions n) (sym (there n) ∙ e);
    only = λ n e. let over = ltb-false 0 (nesting th.regions n) (sym (there n) ∙ e) in omega arith;
  }

module _ (code : Code) (s : SetupView) (t : ℕ) (th : Thread) (h : HasItsStripes th) where
  -- after the next step, after all quiet ones
  pub stripes_stepped : (answer : ℤ) → HasItsStripes (stepped code s t (settled code s t th) answer)
  stripes_stepped answer = has_its (stepped code s t (settled code s t th) answer) ((stepped_steps code s t (settled code s t th) answer).agrees ((settled_settles code s t th).agrees (agree th h)))

  -- after a revoke
  pub stripes_revoked : (lock stripe : ℕ) → holds th.stripes lock stripe ≡ true → HasItsStripes (gave_up th lock stripe)
  stripes_revoked lock stripe e = has_its (gave_up th lock stripe) ((revoked_steps th lock stripe e).agrees (agree th h))

-- where the stripes and the regions are the same
pub stripes_same : (th q : Thread) → q.stripes ≡ th.stripes → q.regions ≡ th.regions → HasItsStripes th → HasItsStripes q
stripes_same th q e f h = has_its q (subst (λ rs. Agree q.stripes rs) (sym f) (subst (λ xs. Agree xs th.regions) (sym e) (agree th h)))

-- quiet steps let no stripe go, and get none
pub holds_settled : (code : Code) (s : SetupView) (t : ℕ) (th : Thread) → HasItsStripes th → (lock stripe : ℕ) → holds (settled code s t th).stripes lock stripe ≡ holds th.stripes lock stripe
holds_settled code s t th h lock stripe = settled_holds code s t th lock stripe (agree th h)
