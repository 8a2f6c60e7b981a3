-- Where threads begin: thread 0 with `main`, all others with a function that a thread may run.
use Rattle.std.proofs.Common.{◌≡◌, ℕ, zero, suc, ⊎_elim, Bool, true, false, List, [], ◌∷◌, Some, refl, subst, arith}
use Rattle.std.specs.Prelude.{◌||◌, slice_get}
use Rattle.std.specs.List.{list_any}
use Rattle.std.proofs.lemmas.Bool.{eqb-true}
use Rattle.word_semantics.specs.declared.library_call.LibraryCall.TheVariants as call
use Rattle.facts.specs.Pairs.{creates, is_started}
use Rattle.flow_code.specs.declared.act.Act.{Act}
use Rattle.flow_code.specs.declared.act.Act.TheVariants as act
use Rattle.flow_code.specs.declared.act.Instr.{Instr}
use Rattle.flow_code.specs.declared.code.Code.{Code}
use Rattle.flow_code.specs.declared.code.Function.{Function}
use Rattle.flow_code.specs.Kinds.{may_start, starts_fit, act_fits}
use Rattle.flow_code.specs.Valid.{is_valid}
use Rattle.flow_code.proofs.ValidParts.{left, function_is_fit, act_is_fit}
use Rattle.lockset_sound.proofs.RootSteps.{RootOf}
use Rattle.snapshots.specs.Conditions.{begins}

-- ---- functions that some instruction starts

-- the item of which the test holds
found : {A : Type 0} (p : A → Bool) (xs : List A) → list_any p xs ≡ true → (k : ℕ) × (x : A) × (slice_get xs k ≡ Some x) × (p x ≡ true)
found p [] h = cc
found {A = A} p (x ∷ xs) h = by (p x) refl h (found p xs)
  where
    by : (b : Bool) → p x ≡ b → (b || list_any p xs) ≡ true → (list_any p xs ≡ true → (k : ℕ) × (y : A) × (slice_get xs k ≡ Some y) × (p y ≡ true)) → (k : ℕ) × (y : A) × (slice_get (x ∷ xs) k ≡ Some y) × (p y ≡ true)
    by true e g more = (0, x, refl, e)
    by false e g more =
        let m = more g in
        (suc m.0, m.1, m.2, m.3)

module _ (code : Code) (valid : is_valid code ≡ true) where
  creates_one : (f : ℕ) (g : Function) (a : Act) → act_fits code g a ≡ true → creates f a ≡ true → may_start (slice_get code.functions f) ≡ true
  creates_one f g (act.Library (call.Create h) arguments into) fits e =
      subst (λ z. may_start (slice_get code.functions z) ≡ true) (eqb-true h f e) (left (starts_fit code (call.Create h)) _ (left _ _ fits))
  creates_one f g _ fits e = cc

  started : (f : ℕ) → is_started code f ≡ true → may_start (slice_get code.functions f) ≡ true
  started f h =
      let g = found (λ (fn : Function). list_any (λ (i : Instr). creates f i.act) fn.instrs) code.functions h in
      let i = found (λ (i : Instr). creates f i.act) g.1.instrs g.3 in
      creates_one f g.1 i.1.act (act_is_fit code g.1 (function_is_fit code valid g.0 g.1 g.2) i.0 i.1 i.2) i.3

  pub root_begins : (t f : ℕ) → RootOf code t f → begins code t f ≡ true
  root_begins zero f r = ⊎_elim (λ a. a.1) (λ b. absurd (b.0 refl)) r
  root_begins (suc k) f r = ⊎_elim (λ a. (let clash : suc k ≡ 0 = a.0 in absurd (omega (arith, clash)))) (λ b. started f b.1.started) r
