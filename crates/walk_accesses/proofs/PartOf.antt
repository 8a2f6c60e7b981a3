-- In the part of which entry an access is.
use Rattle.std.proofs.Common.{◌≡◌, ◌≢◌, ℕ, zero, suc, ◌+◌, ◌<◌, ◌≤◌, ◌⊎◌, ⊎_elim, List, [], ◌∷◌, length, drop, Option, Some, None, refl, sym, ap, subst, ◌∙◌, arith}
use Rattle.std.specs.Prelude.{slice_get, Contains}
use Rattle.std.proofs.Math.Seq.{drop-append_seam}
use Rattle.std.proofs.lemmas.Bool.{cases_eq}
use Rattle.std.proofs.lemmas.List.Elements.{Contains-append_cases}
use Rattle.std.proofs.lemmas.Option.{same_Some}
use Rattle.sync_objects.specs.Setup.{SetupView, IsWithinLimits}
use Rattle.sync_objects.specs.declared.entry.Entry.{Entry}
use Rattle.flow_code.specs.declared.code.Code.{Code}
use Rattle.flow_code.specs.Settle.{IsRunnable}
use Rattle.thread_interpreter.specs.declared.access.Access.{Access}
use Rattle.core_run.specs.Machine.{Told, machine, start_state}
use Rattle.run_theory.specs.Steps.{State}
use Rattle.run_theory.specs.Walk.{part}
use Rattle.walk_accesses.specs.Accesses.{Placed, placed, placed_on, placed_from, accesses_of, accesses_between, accesses_in}
use Rattle.walk_accesses.specs.Parts.{IsInPart}
use Rattle.walk_accesses.proofs.Lists.{none, there, first_or_later}
use Rattle.walk_accesses.proofs.Grown.{MakesPart, part_stands, part_own, part_other}

-- an access that is placed is one of those
placed_here : (at : ℕ) (xs : List Access) (x : Placed) → Contains (placed at xs) x → (x.part ≡ at) × Contains xs x.access
placed_here at [] x c = absurd (none x c)
placed_here at (a ∷ xs) x c = ⊎_elim
    (λ (e : record { part = at; access = a } ≡ x). (ap (λ (z : Placed). z.part) (sym e), (zero, omega arith, ap (λ (z : Placed). z.access) e)))
    (λ (q : Contains (placed at xs) x). let r = placed_here at xs x q in (r.0, there a x.access xs r.1))
    (first_or_later (record { part = at; access = a }) x (placed at xs) c)

module _ (code : Code) (s : SetupView) (runnable : IsRunnable code) (limits : IsWithinLimits s) where
  -- the access is in the part of the entry at place k of the rest, which is its thread's first one above it, and its thread
  -- hasn't come to it yet
  record Placing (at : ℕ) (es : List Entry) (st : State Told) (x : Placed) : Type 0 where
    k : ℕ
    part_is : x.part ≡ at + k
    entry : Entry
    stands : slice_get es k ≡ Some entry
    own : entry.thread ≡ x.access.thread
    above : x.access.count < entry.count
    first : (j : ℕ) (e : Entry) → j < k → slice_get es j ≡ Some e → e.thread ≡ x.access.thread → e.count ≤ x.access.count
    late : (told : Told) → slice_get st.threads x.access.thread ≡ Some told → told.thread.count ≤ x.access.count

  module _ (at : ℕ) (e : Entry) (es : List Entry) (st st1 : State Told) (x : Placed) (made : part (machine code s) e st ≡ Some st1) where
    stands : (told : Told) × (slice_get st.threads e.thread ≡ Some told)
    stands = part_stands code s runnable limits e st st1 made

    makes : MakesPart e stands.0 st1
    makes = part_own code s runnable limits e st st1 stands.0 stands.1 made

    between : accesses_between e.thread st st1 ≡ makes.comes.gained.more
    between =
        ap (λ z. drop (length (accesses_of z)) (accesses_of (slice_get st1.threads e.thread))) stands.1 ∙ ap (λ z. drop (length stands.0.accesses) (accesses_of z)) makes.comes.stands
        ∙ ap (drop (length stands.0.accesses)) makes.comes.gained.accesses ∙ drop-append_seam stands.0.accesses makes.comes.gained.more

    in_first : Contains (placed at makes.comes.gained.more) x → Placing at (e ∷ es) st x
    in_first c =
        let h = placed_here at makes.comes.gained.more x c in
        let own : x.access.thread ≡ e.thread = makes.comes.gained.own x.access h.1 in
        record {
          k = 0;
          part_is = omega (arith, h.0);
          entry = e;
          stands = refl;
          own = sym own;
          above = makes.before x.access h.1;
          first = λ j z lt. absurd (omega (arith, lt));
          late = λ told at_t.
              let low = makes.comes.gained.low x.access h.1 in
              let same : told.thread.count ≡ stands.0.thread.count = ap (λ (z : Told). z.thread.count) (same_Some told stands.0 (sym at_t ∙ ap (slice_get st.threads) own ∙ stands.1)) in
              omega (arith, low, same);
        }

    in_rest : Placing (at + 1) es st1 x → Placing at (e ∷ es) st x
    in_rest p = record {
      k = suc p.k;
      part_is = omega (arith, p.part_is);
      entry = p.entry;
      stands = p.stands;
      own = p.own;
      above = p.above;
      first = first;
      late = late;
    }
      where
        reached : e.thread ≡ x.access.thread → makes.comes.after.thread.count ≤ x.access.count
        reached same = p.late makes.comes.after (ap (slice_get st1.threads) (sym same) ∙ makes.comes.stands)

        first : (j : ℕ) (z : Entry) → j < suc p.k → slice_get (e ∷ es) j ≡ Some z → z.thread ≡ x.access.thread → z.count ≤ x.access.count
        first zero z lt q same =
            let is : e ≡ z = same_Some e z q in
            let le = reached (ap (λ (y : Entry). y.thread) is ∙ same) in
            let count : e.count ≡ z.count = ap (λ (y : Entry). y.count) is in
            omega (arith, le, count, makes.reaches)
        first (suc j) z lt q same = p.first j z (omega arith) q same

        late : (told : Told) → slice_get st.threads x.access.thread ≡ Some told → told.thread.count ≤ x.access.count
        late told at_t = ⊎_elim
            (λ (same : x.access.thread ≡ e.thread).
            let le = reached (sym same) in
            let count : told.thread.count ≡ stands.0.thread.count = ap (λ (z : Told). z.thread.count) (same_Some told stands.0 (sym at_t ∙ ap (slice_get st.threads) same ∙ stands.1)) in
            omega (arith, le, count, makes.comes.gained.rises))
            (λ (ne : x.access.thread ≢ e.thread). p.late told (part_other code s runnable limits e x.access.thread st st1 ne made ∙ at_t))
            (cases_eq x.access.thread e.thread)

  places : (at : ℕ) (es : List Entry) (st : State Told) (x : Placed) → Contains (placed_from code s at es st) x → Placing at es st x
  places at [] st x c = absurd (none x c)
  places at (e ∷ es) st x c = by (part (machine code s) e st) refl c (λ st1 q. places (at + 1) es st1 x q)
    where
      by : (o : Option (State Told)) → part (machine code s) e st ≡ o → Contains (placed_on code s (placed_from code s (at + 1) es) at e st o) x → ((st1 : State Told) → Contains (placed_from code s (at + 1) es st1) x → Placing (at + 1) es st1 x) → Placing at (e ∷ es) st x
      by None q k again = absurd (none x k)
      by (Some st1) q k again = ⊎_elim
          (λ (h : Contains (placed at (accesses_between e.thread st st1)) x). in_first at e es st st1 x q (subst (λ xs. Contains (placed at xs) x) (between at e es st st1 x q) h))
          (λ (h : Contains (placed_from code s (at + 1) es st1) x). in_rest at e es st st1 x q (again st1 h))
          (Contains-append_cases (placed at (accesses_between e.thread st st1)) (placed_from code s (at + 1) es st1) x k)

  pub in_part : (es : List Entry) (x : Placed) → Contains (accesses_in code s es) x → IsInPart es x
  in_part es x c =
      let p = places 0 es (start_state code s) x c in
      let same : p.k ≡ x.part = omega (arith, p.part_is) in
      record {
        entry = p.entry;
        stands = ap (slice_get es) (sym same) ∙ p.stands;
        own = p.own;
        above = p.above;
        first = λ j e lt. p.first j e (omega (arith, lt, same));
      }
