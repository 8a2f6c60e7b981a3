-- The stripes of a thread are listed as they must be, with the numbers of the open regions that have them.
use Rattle.std.proofs.Common.{◌≡◌, ℕ, zero, suc, ◌+◌, ◌*◌, ◌<◌, ◌≤◌, ◌==◌, ◌&&◌, ◌||◌, not, nat_le, nat_lt, Bool, true, false, cond, List, [], ◌∷◌, length, map, Option, Some, None, refl, sym, ap, ◌∙◌, subst, arith, eq-eqb}
use Rattle.std.specs.Prelude.{slice_get, if◌then◌else◌}
use Rattle.std.proofs.lemmas.Bool.{le-leb, lt-ltb, ltb-true}
use Rattle.std.proofs.lemmas.List.Sums.{sum_by-cons}
use Rattle.std.proofs.lemmas.Option.{same_Some}
use Rattle.sync_objects.specs.Setup.{SetupView}
use Rattle.sync_objects.specs.declared.object.ObjId.TheVariants as object
use Rattle.flow_code.specs.declared.code.Code.{Code}
use Rattle.flow_code.specs.declared.thread.Stripe.{Stripe}
use Rattle.flow_code.specs.Holding.{number_of_stripe, number_of_pair, has_stripe, nesting}
use Rattle.flow_code.specs.Next.{holds, same_stripe, has_ended}
use Rattle.flow_code.specs.Threads.{OpenRegion, Thread}
use Rattle.thread_interpreter.specs.Parts.{stripe_part, region_part, part_of}
use Rattle.core_run.specs.Words.{has_object}
use Rattle.lock_ownership.specs.ThreadStripes.{AscendFrom, owes_stripe, IsOpen, HasItsStripes}
use Rattle.lock_ownership.proofs.Holds.{same_number}
use Rattle.snapshots.specs.Conditions.{AllFit, is_after, has_pair, nesting_in, stripes_judged}
use Rattle.snapshot_reached.proofs.Cells.{both}

-- ---- stripes by lock and stripe, and by number

pair_same : (n lock stripe : ℕ) (ps : List (ℕ × ℕ)) → stripe < 8 → AscendFrom number_of_pair (λ x. x.1) n ps → has_pair ps (lock, stripe) ≡ has_stripe ps (8 * lock + stripe)
pair_same n lock stripe [] small h = refl
pair_same n lock stripe (q ∷ ps) small h =
    ap (λ b. b || has_pair ps (lock, stripe)) (same_number lock stripe (record { lock = q.0; stripe = q.1; owed = false }) small h.1)
    ∙ ap (λ b. (number_of_pair q == 8 * lock + stripe) || b) (pair_same (number_of_pair q + 1) lock stripe ps small h.2)

nesting_same : (lock stripe : ℕ) (rs : List OpenRegion) → stripe < 8 → ((i : ℕ) (r : OpenRegion) → slice_get rs i ≡ Some r → IsOpen r) → nesting_in (map region_part rs) (lock, stripe) ≡ nesting rs (8 * lock + stripe)
nesting_same lock stripe [] small are_open = refl
nesting_same lock stripe (r ∷ rs) small are_open =
    sum_by-cons (λ x. cond (has_pair x.stripes (lock, stripe)) 1 0) (region_part r) (map region_part rs)
    ∙ ap (λ b. cond b 1 0 + nesting_in (map region_part rs) (lock, stripe)) (pair_same 0 lock stripe r.stripes small (are_open 0 r refl).sorted)
    ∙ ap (λ z. cond (has_stripe r.stripes (8 * lock + stripe)) 1 0 + z) (nesting_same lock stripe rs small (λ i x e. are_open (suc i) x e))
    ∙ sym (sum_by-cons (λ (x : OpenRegion). cond (has_stripe x.stripes (8 * lock + stripe)) 1 0) r rs)

-- ---- a stripe of the list is held or owed

there : (a b h o : Bool) → a ≡ true → ((a && not b) || h || ((a && b) || o)) ≡ true
there true true true o e = refl
there true true false o e = refl
there true false h o e = refl
there false b h o e = cc

more : (a b h o : Bool) → (h || o) ≡ true → ((a && not b) || h || ((a && b) || o)) ≡ true
more true true true o e = refl
more true true false o e = refl
more true false h o e = refl
more false b h o e = e

listed : (xs : List Stripe) (k : ℕ) (x : Stripe) → slice_get xs k ≡ Some x → (holds xs x.lock x.stripe || owes_stripe xs x.lock x.stripe) ≡ true
listed [] k x e = cc
listed (y ∷ ys) zero x e =
    let same : y ≡ x = same_Some y x e in
    there (same_stripe x.lock x.stripe y) y.owed (holds ys x.lock x.stripe) (owes_stripe ys x.lock x.stripe)
    (ap (λ (z : Stripe). same_stripe x.lock x.stripe z) same ∙ both (x.lock == x.lock) (x.stripe == x.stripe) (eq-eqb x.lock x.lock refl) (eq-eqb x.stripe x.stripe refl))
listed (y ∷ ys) (suc k) x e = more (same_stripe x.lock x.stripe y) y.owed (holds ys x.lock x.stripe) (owes_stripe ys x.lock x.stripe) (listed ys k x e)

-- ---- as the conditions say it

module _ (code : Code) (s : SetupView) (rs : List OpenRegion) (are_open : (i : ℕ) (r : OpenRegion) → slice_get rs i ≡ Some r → IsOpen r) where
  -- the machine has the stripe, and some open region has it
  record IsThere (x : Stripe) : Type 0 where
    lock : x.lock < length code.locks
    nested : 1 ≤ nesting rs (number_of_stripe x)

  above : (before : Option ℕ) (low n : ℕ) → ((m : ℕ) → before ≡ Some m → m < low) → low ≤ n → is_after before n ≡ true
  above None low n h le = refl
  above (Some m) low n h le = let lt = h m refl in lt-ltb m n (omega arith)

  judged : (before : Option ℕ) (n : ℕ) (xs : List Stripe) → ((m : ℕ) → before ≡ Some m → m < n) → AscendFrom number_of_stripe (λ x. x.stripe) n xs → ((k : ℕ) (x : Stripe) → slice_get xs k ≡ Some x → IsThere x)
      → AllFit (stripes_judged code s (map region_part rs) before (map (stripe_part rs) xs))
  judged before n [] low h all = tt
  judged before n (x ∷ xs) low h all =
      let here = all 0 x refl in
      let first = h.0 in (
        both (has_object code s (object.Weak x.lock x.stripe)) _ (both (nat_lt x.lock (length code.locks)) (nat_lt x.stripe 8) (lt-ltb x.lock (length code.locks) here.lock) (lt-ltb x.stripe 8 h.1))
            (both (is_after before (number_of_stripe x)) _ (above before n (number_of_stripe x) low first)
            (both (nat_le 1 (nesting rs (number_of_stripe x))) (nesting rs (number_of_stripe x) == nesting_in (map region_part rs) (x.lock, x.stripe)) (le-leb 1 (nesting rs (number_of_stripe x)) here.nested)
            (eq-eqb (nesting rs (number_of_stripe x)) (nesting_in (map region_part rs) (x.lock, x.stripe)) (sym (nesting_same x.lock x.stripe rs h.1 are_open))))),
        judged (Some (number_of_stripe x)) (number_of_stripe x + 1) xs (λ m e. (let same : number_of_stripe x ≡ m = cc in omega (arith, same))) h.2 (λ k y e. all (suc k) y e),
      )

small_stripe : (n k : ℕ) (x : Stripe) (xs : List Stripe) → AscendFrom number_of_stripe (λ y. y.stripe) n xs → slice_get xs k ≡ Some x → x.stripe < 8
small_stripe n k x [] h e = cc
small_stripe n zero x (y ∷ ys) h e = subst (λ (z : Stripe). z.stripe < 8) (same_Some y x e) h.1
small_stripe n (suc k) x (y ∷ ys) h e = small_stripe (number_of_stripe y + 1) k x ys h.2 e

-- a thread of whose stripes the machine has the locks
pub stripes_fit : (code : Code) (s : SetupView) (th : Thread) → HasItsStripes th → ((k : ℕ) (x : Stripe) → slice_get th.stripes k ≡ Some x → x.lock < length code.locks)
    → AllFit (stripes_judged code s (part_of th).regions None (part_of th).stripes)
stripes_fit code s th h locks = by (has_ended th.phase)
  where
    nested : (k : ℕ) (x : Stripe) → slice_get th.stripes k ≡ Some x → 1 ≤ nesting th.regions (number_of_stripe x)
    nested k x e =
        let has = listed th.stripes k x e in
        ltb-true 0 (nesting th.regions (number_of_stripe x)) (sym (h.nested x.lock x.stripe (small_stripe 0 k x th.stripes h.sorted e)) ∙ has)

    by : (b : Bool) → AllFit (stripes_judged code s (map region_part (if b then [] else th.regions)) None (map (stripe_part th.regions) (if b then [] else th.stripes)))
    by true = tt
    by false = judged code s th.regions h.open_regions None 0 th.stripes (λ m e. cc) h.sorted (λ k x e. record { lock = locks k x e; nested = nested k x e })
