-- The search for a stripe that is wanted, among those that the thread holds.
use Rattle.std.proofs.Common.{◌≡◌, ◌≢◌, ℕ, ◌+◌, ◌-◌, ◌*◌, ◌^◌, ◌<◌, ◌≤◌, ◌==◌, ◌&&◌, ◌||◌, ◌⊎◌, inl, inr, not, nat_lt, Bool, true, false, List, [], ◌∷◌, ◌++◌, length, Option, Some, None, refl, sym, ap, subst, ◌∙◌, ⊎_elim, arith, eqb-true}
use Rattle.std.proofs.lemmas.Bool.{lt-ltb, true≢false, eq-eqb}
use Rattle.std.proofs.lemmas.Bool.Decides.{nat_tests}
use Rattle.std.specs.Prelude.{slice_index}
use Rattle.word_semantics.specs.Limits.{most_entries, most_revokes}
use Rattle.core_run.specs.Words.{has_object}
use Rattle.flow_code.specs.Next.{holds, same_stripe}
use Rattle.flow_code.specs.Threads.{Thread}
use Rattle.flow_code.specs.declared.thread.Stripe.{Stripe}
use Rattle.sync_objects.specs.declared.object.ObjId.TheVariants as object
use Rattle.shared_cells.specs.Rule.{Board}
use Rattle.shared_cells.specs.Seats.{Tells, is_set}
use Rattle.shared_cells.specs.Views.{Note}
use Rattle.shared_cells.specs.declared.seat.Seat.{Seat}
use Rattle.thread_step.specs.Steps.{Stepping}
use Rattle.weak_turns.specs.Finding.{IsAlike, HeldIs, HasSearched, IsMet, FindsRevoke, Chooses, behind, unwanted, wanted, comes_first, number_in, searched_to}
use Rattle.weak_turns.specs.Turns.{thread_of, want_place, IsHeldLong, AreUnwanted, Meets, Saw}
use Rattle.weak_turns.specs.declared.revokes.LockStripe.{LockStripe}
use Rattle.weak_turns.proofs.Noting.{Within, older, meets_none, meets_look, meets_then}

pub set_or_not : (w : ℕ) (b : Bool) → b ≡ is_set w → b ≡ true → w ≢ 0
set_or_not w b e f z = true≢false (sym f ∙ e ∙ ap not (eq-eqb w 0 z))

pub unset : (w : ℕ) (b : Bool) → b ≡ is_set w → b ≡ false → w ≡ 0
unset w b e f = by (w == 0) refl (sym e ∙ f)
  where
    by : (c : Bool) → (w == 0) ≡ c → not c ≡ false → w ≡ 0
    by true p q = eqb-true w 0 p
    by false p q = cc

pub has_stripe_of : (cells : Board) (lock stripe number : ℕ) → 8 * lock + stripe ≡ number → stripe < 8 → number < 8 * length cells.code.locks → has_object cells.code cells.setup (object.Weak lock stripe) ≡ true
has_stripe_of cells lock stripe number e small within =
    let lt : lock < length cells.code.locks = omega arith in
    ap (λ b. b && nat_lt stripe 8) (lt-ltb lock (length cells.code.locks) lt) ∙ lt-ltb stripe 8 small

-- ---- what a list of stripes holds

or_cases : (a b : Bool) → a || b ≡ true → (a ≡ true) ⊎ (b ≡ true)
or_cases true b h = inl refl
or_cases false b h = inr h

or_second : (a b : Bool) → b ≡ true → a || b ≡ true
or_second true b h = refl
or_second false b h = h

-- the last of the stripes, or one before it
held_last : (xs : List Stripe) (item : Stripe) (lock stripe : ℕ) → holds (xs ++ item ∷ []) lock stripe ≡ true → (holds xs lock stripe ≡ true) ⊎ ((item.lock ≡ lock) × (item.stripe ≡ stripe) × (item.owed ≡ false))
held_last [] item lock stripe h = inr (parts (item.lock == lock) (item.stripe == stripe) item.owed refl refl refl h)
  where
    parts : (a b o : Bool) → (item.lock == lock) ≡ a → (item.stripe == stripe) ≡ b → item.owed ≡ o → (a && b && not o) || false ≡ true → (item.lock ≡ lock) × (item.stripe ≡ stripe) × (item.owed ≡ false)
    parts true true false e f g h = (eqb-true item.lock lock e, eqb-true item.stripe stripe f, g)
    parts true true true e f g h = cc
    parts true false o e f g h = cc
    parts false b o e f g h = cc
held_last (x ∷ xs) item lock stripe h = ⊎_elim
    (λ (e : same_stripe lock stripe x && not x.owed ≡ true). inl (ap (λ b. b || holds xs lock stripe) e))
    (λ (e : holds (xs ++ item ∷ []) lock stripe ≡ true). ⊎_elim (λ (f : holds xs lock stripe ≡ true). inl (or_second (same_stripe lock stripe x && not x.owed) (holds xs lock stripe) f)) inr (held_last xs item lock stripe e))
    (or_cases (same_stripe lock stripe x && not x.owed) (holds (xs ++ item ∷ []) lock stripe) h)

held_before : (xs : List Stripe) (item : Stripe) (lock stripe : ℕ) → holds xs lock stripe ≡ true → holds (xs ++ item ∷ []) lock stripe ≡ true
held_before [] item lock stripe h = cc
held_before (x ∷ xs) item lock stripe h = ⊎_elim
    (λ (e : same_stripe lock stripe x && not x.owed ≡ true). ap (λ b. b || holds (xs ++ item ∷ []) lock stripe) e)
    (λ (e : holds xs lock stripe ≡ true). or_second (same_stripe lock stripe x && not x.owed) (holds (xs ++ item ∷ []) lock stripe) (held_before xs item lock stripe e))
    (or_cases (same_stripe lock stripe x && not x.owed) (holds xs lock stripe) h)

held_here : (xs : List Stripe) (item : Stripe) → item.owed ≡ false → holds (xs ++ item ∷ []) item.lock item.stripe ≡ true
held_here [] item h = here (item.lock == item.lock) (item.stripe == item.stripe) item.owed (eq-eqb item.lock item.lock refl) (eq-eqb item.stripe item.stripe refl) h
  where
    here : (a b o : Bool) → a ≡ true → b ≡ true → o ≡ false → (a && b && not o) || false ≡ true
    here a b o e f g = ap (λ z. (z && b && not o) || false) e ∙ ap (λ z. (true && z && not o) || false) f ∙ ap (λ z. (true && true && not z) || false) g
held_here (x ∷ xs) item h = or_second (same_stripe item.lock item.stripe x && not x.owed) (holds (xs ++ item ∷ []) item.lock item.stripe) (held_here xs item h)

module _ (cells : Board) (a : Seat) (since : List ℕ) (budget turn : ℕ) (all_locks : length since ≡ 8 * length cells.code.locks) where
  abbrev th : Thread
  th = thread_of a

  -- the thread, if these were its stripes
  abbrev having : List Stripe → Thread
  having done = record th { stripes = done }

  pub searched_none : HasSearched cells a a since budget turn [] None
  searched_none = record { fresh = []; meets = meets_none a; unwanted = λ lock stripe lt h. let none = h.held in absurd (true≢false (sym none)); met = tt }

  module _ (done : List Stripe) (due : Option LockStripe) (b : Seat) (before : HasSearched cells a b since budget turn done due) (item : Stripe) where
    abbrev more : List Stripe
    more = done ++ item ∷ []

    abbrev number : ℕ
    number = 8 * item.lock + item.stripe

    earlier : (lock stripe : ℕ) → IsHeldLong (having more) since budget turn lock stripe → holds done lock stripe ≡ true → IsHeldLong (having done) since budget turn lock stripe
    earlier lock stripe h e = record { stripe_is = h.stripe_is; lock_is = h.lock_is; held = e; long = h.long }

    later : (lock stripe : ℕ) → IsHeldLong (having done) since budget turn lock stripe → IsHeldLong (having more) since budget turn lock stripe
    later lock stripe h = record { stripe_is = h.stripe_is; lock_is = h.lock_is; held = held_before done item lock stripe h.held; long = h.long }

    -- what was met still stands, with one stripe more
    met_on : (xs ys : List Note) → Within xs ys → (o : Option LockStripe) → IsMet cells (having done) since budget turn xs o → IsMet cells (having more) since budget turn ys o
    met_on xs ys on None m = tt
    met_on xs ys on (Some p) m = (later p.lock p.stripe m.0, m.1, m.2, on _ m.3, m.4)

    within_all : (o : Option LockStripe) (xs : List Note) → IsMet cells (having done) since budget turn xs o → searched_to cells o ≤ 8 * length cells.code.locks
    within_all None xs m = omega arith
    within_all (Some p) xs m = let lt = m.1 in omega arith

    -- the stripes of the search so far, and this one where it is one of them
    unwanted_with : (xs ys : List Note) → Within xs ys → (most : ℕ) → AreUnwanted cells (having done) since budget turn xs most
        → ((lock stripe : ℕ) → 8 * lock + stripe < most → IsHeldLong (having more) since budget turn lock stripe → item.lock ≡ lock → item.stripe ≡ stripe → item.owed ≡ false → Saw ys (want_place cells lock stripe) 0)
        → AreUnwanted cells (having more) since budget turn ys most
    unwanted_with xs ys on most old new lock stripe lt h = ⊎_elim
        (λ e. on _ (old lock stripe lt (earlier lock stripe h e)))
        (λ e. new lock stripe lt h e.0 e.1 e.2)
        (held_last done item lock stripe h.held)

    -- this one isn't held so long
    pub passed_over : HeldIs item since budget turn None → HasSearched cells a b since budget turn more due
    passed_over not_held = record {
      fresh = before.fresh;
      meets = before.meets;
      unwanted = unwanted_with before.fresh before.fresh (λ x h. h) (searched_to cells due) before.unwanted (λ lock stripe lt h e f g.
          let small = h.stripe_is in
          let long = h.long in
          let all = within_all due before.fresh before.met in
          let here : 8 * lock + stripe ≡ number = omega arith in
          absurd (not_held g (omega arith) (omega arith) (subst (λ n. budget ≤ turn - slice_index since n) here long)));
      met = met_on before.fresh before.fresh (λ x h. h) due before.met;
    }

    module _ (p : LockStripe) (is : HeldIs item since budget turn (Some p)) where
      abbrev low : number_in p ≡ number
      low = ap (λ k. 8 * k + p.stripe) is.lock ∙ ap (λ k. 8 * item.lock + k) is.stripe

      same_number_is : (lock stripe : ℕ) → item.lock ≡ lock → item.stripe ≡ stripe → 8 * lock + stripe ≡ number_in p
      same_number_is lock stripe e f = sym (ap (λ k. 8 * k + item.stripe) e ∙ ap (λ k. 8 * lock + k) f) ∙ sym low

      held_long_here : IsHeldLong (having more) since budget turn p.lock p.stripe
      held_long_here = record {
        stripe_is = subst (λ k. k < 8) (sym is.stripe) is.stripe_is;
        lock_is = subst (λ k. k < 2 ^ 16) (sym is.lock) is.lock_is;
        held = subst (λ k. holds more k p.stripe ≡ true) (sym is.lock) (subst (λ k. holds more item.lock k ≡ true) (sym is.stripe) (held_here done item is.held));
        long = subst (λ n. budget ≤ turn - slice_index since n) (sym low) is.long;
      }

      number_below : number_in p < 8 * length cells.code.locks
      number_below = let lt = is.counted in let e = low in omega arith

      -- it comes after one that was found
      pub after_found : comes_first p due ≡ false → HasSearched cells a b since budget turn more due
      after_found e = record {
        fresh = before.fresh;
        meets = before.meets;
        unwanted = unwanted_with before.fresh before.fresh (λ x h. h) (searched_to cells due) before.unwanted (λ lock stripe lt h f g o.
            let same = same_number_is lock stripe f g in
            let past = not_first due e in
            absurd (omega arith));
        met = met_on before.fresh before.fresh (λ x h. h) due before.met;
      }
        where
          not_first : (o : Option LockStripe) → comes_first p o ≡ false → searched_to cells o ≤ number_in p
          not_first None e = cc
          not_first (Some q) e = grind (arith, nat_tests, e)

      module _ (c : Seat) (set : Bool) (tells : Tells b c (want_place cells p.lock p.stripe) set) where
        abbrev note : List Note
        note = record { failed = false; word = want_place cells p.lock p.stripe; value = tells.value } ∷ []

        abbrev all : List Note
        all = note ++ before.fresh

        both : Meets a c all
        both = meets_then a b c before.fresh note before.meets (meets_look b c (want_place cells p.lock p.stripe) tells.value tells.view tells.marks)

        -- nobody wants it
        pub unwanted_too : set ≡ false → HasSearched cells a c since budget turn more due
        unwanted_too e = record {
          fresh = all;
          meets = both;
          unwanted = unwanted_with before.fresh all (older note before.fresh) (searched_to cells due) before.unwanted (λ lock stripe lt h f g o.
              subst (λ k. Saw all (want_place cells k stripe) 0) (is.lock ∙ f)
              (subst (λ k. Saw all (want_place cells p.lock k) 0) (is.stripe ∙ g)
              (subst (Saw all (want_place cells p.lock p.stripe)) (unset tells.value set tells.is e) (0, omega arith, refl))));
          met = met_on before.fresh all (older note before.fresh) due before.met;
        }

        -- somebody does, and it is the first so far
        pub finds_first : set ≡ true → comes_first p due ≡ true → HasSearched cells a c since budget turn more (Some p)
        finds_first e first = record {
          fresh = all;
          meets = both;
          unwanted = unwanted_with before.fresh all (older note before.fresh) (number_in p) (λ lock stripe lt h. before.unwanted lock stripe (below due first lock stripe lt) h) (λ lock stripe lt h f g o.
              let same = same_number_is lock stripe f g in absurd (omega arith));
          met = (held_long_here, number_below, tells.value, (0, omega arith, refl), set_or_not tells.value set tells.is e);
        }
          where
            below : (o : Option LockStripe) → comes_first p o ≡ true → (lock stripe : ℕ) → 8 * lock + stripe < number_in p → 8 * lock + stripe < searched_to cells o
            below None e lock stripe lt = let most = number_below in omega arith
            below (Some q) e lock stripe lt = let less : number_in p < number_in q = grind (arith, nat_tests, e) in omega arith

  -- one stripe more was gone over
  pub chosen : (done : List Stripe) (due next : Option LockStripe) (b c : Seat) (before : HasSearched cells a b since budget turn done due) (item : Stripe) (p : LockStripe) → HeldIs item since budget turn (Some p) → Chooses cells b c p due next → HasSearched cells a c since budget turn (done ++ item ∷ []) next
  chosen done due _ b c before item p is (behind e same) = subst (λ z. HasSearched cells a z since budget turn (done ++ item ∷ []) due) (sym same) (after_found done due b before item p is e)
  chosen done due _ b c before item p is (unwanted tells) = unwanted_too done due b before item p is c false tells refl
  chosen done due _ b c before item p is (wanted first tells) = finds_first done due b before item p is c true tells refl first

  -- all of the thread's stripes were gone over
  pub found : (r : Stepping) (alike : IsAlike r th) (due : Option LockStripe) (b : Seat) → HasSearched cells a b since budget turn r.flow.kept.thread.stripes due → th.entries < most_entries → th.revokes < most_revokes → FindsRevoke cells a b since budget turn due
  found r alike None b s few_entries few_revokes = record {
    fresh = s.fresh;
    meets = s.meets;
    is = inr (λ lock stripe lt h. s.unwanted lock stripe lt (record { stripe_is = h.stripe_is; lock_is = h.lock_is; held = alike.stripes lock stripe ∙ h.held; long = h.long }));
  }
  found r alike (Some p) b s few_entries few_revokes = record {
    fresh = s.fresh;
    meets = s.meets;
    is = record {
      few_entries = few_entries;
      few_revokes = few_revokes;
      has = has_stripe_of cells p.lock p.stripe (number_in p) refl s.met.0.stripe_is s.met.1;
      held = record { stripe_is = s.met.0.stripe_is; lock_is = s.met.0.lock_is; held = sym (alike.stripes p.lock p.stripe) ∙ s.met.0.held; long = s.met.0.long };
      wanted = (s.met.2, s.met.3, s.met.4);
      first = λ lock stripe lt h. s.unwanted lock stripe lt (record { stripe_is = h.stripe_is; lock_is = h.lock_is; held = alike.stripes lock stripe ∙ h.held; long = h.long });
    };
  }
