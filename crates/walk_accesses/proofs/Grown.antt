-- What the parts of a walk add to the accesses of threads.
use Rattle.std.proofs.Common.{◌≡◌, ◌≢◌, ℕ, zero, suc, ◌+◌, ◌-◌, ◌<◌, ◌≤◌, ◌⊎◌, ⊎_elim, Bool, true, false, if◌then◌else◌, List, [], ◌∷◌, Option, Some, None, refl, sym, ap, subst, ◌∙◌, arith}
use Rattle.std.specs.Prelude.{slice_get, slice_set, option_and_then, Contains}
use Rattle.std.proofs.lemmas.Bool.{cases_eq}
use Rattle.std.proofs.lemmas.Option.{same_Some}
use Rattle.rr_base.proofs.Lists.{slice_get-set_other, slice_get-set_same}
use Rattle.sync_objects.specs.Setup.{SetupView, IsWithinLimits}
use Rattle.sync_objects.specs.declared.entry.Entry.{Entry}
use Rattle.sync_objects.specs.declared.entry.Noted.{Noted}
use Rattle.flow_code.specs.declared.code.Code.{Code}
use Rattle.flow_code.specs.Settle.{IsRunnable}
use Rattle.thread_interpreter.specs.declared.access.Access.{Access}
use Rattle.core_run.specs.Machine.{Told, effect_of, machine}
use Rattle.core_run.proofs.EntryParts.{part_outside}
use Rattle.core_run.proofs.Lawful.{lawful}
use Rattle.run_theory.specs.Labels.{Label, Go, label_thread, label_of}
use Rattle.run_theory.specs.Same.{same_entry}
use Rattle.run_theory.specs.Steps.{State, stepped, added, count_or_zero}
use Rattle.run_theory.specs.Walk.{if_nothing, if_only, alone, made, part, walk}
use Rattle.run_theory.proofs.Apart.{thread_of_label}
use Rattle.run_theory.proofs.Counts.{counted}
use Rattle.run_theory.proofs.Swap.{steps_of, adds_of}
use Rattle.walk_accesses.proofs.Gains.{Gained, gained_none, gained_both, effect_adds, outcome_gains, outcome_silent}

-- the thread has come to a state in which it has gained accesses
pub record Comes (t : ℕ) (told : Told) (st1 : State Told) : Type 0 where
  pub after : Told
  pub stands : slice_get st1.threads t ≡ Some after
  pub gained : Gained t told after

abbrev pub stays : (t : ℕ) (told : Told) (st1 : State Told) → slice_get st1.threads t ≡ Some told → Comes t told st1
stays t told st1 at = record { after = told; stands = at; gained = gained_none t told told refl (omega arith) }

abbrev pub both_come : (t : ℕ) (told : Told) (mid st1 : State Told) (c : Comes t told mid) → Comes t c.after st1 → Comes t told st1
both_come t told mid st1 c d = record { after = d.after; stands = d.stands; gained = gained_both t told c.after d.after c.gained d.gained }

-- the thread has gone so many steps alone
pub record GoesAlone (n t : ℕ) (told : Told) (st1 : State Told) : Type 0 where
  pub comes : Comes t told st1
  pub count : comes.after.thread.count ≡ told.thread.count + n

-- .. and has made the entry then, before which are all accesses that it has gained; its count has come up to the entry's
pub record MakesPart (e : Entry) (told : Told) (st1 : State Told) : Type 0 where
  pub comes : Comes e.thread told st1
  pub before : (a : Access) → Contains comes.gained.more a → a.count < e.count
  pub reaches : e.count ≤ comes.after.thread.count

module _ (code : Code) (s : SetupView) where
  -- one step alone adds nothing to the entries
  pub step_alone : (n t : ℕ) (st st1 : State Told) → alone (machine code s) (suc n) t st ≡ Some st1 → (added (machine code s) st (Go t) ≡ []) × (mid : State Told) × (stepped (machine code s) st (Go t) ≡ Some mid) × (alone (machine code s) n t mid ≡ Some st1)
  step_alone n t st st1 e = by (added (machine code s) st (Go t)) (stepped (machine code s) st (Go t)) refl refl e
    where
      by : (xs : List Noted) (o : Option (State Told)) → added (machine code s) st (Go t) ≡ xs → stepped (machine code s) st (Go t) ≡ o → if_nothing xs (option_and_then (alone (machine code s) n t) o) ≡ Some st1 → (added (machine code s) st (Go t) ≡ []) × (mid : State Told) × (stepped (machine code s) st (Go t) ≡ Some mid) × (alone (machine code s) n t mid ≡ Some st1)
      by [] None p q h = cc
      by [] (Some mid) p q h = (p, mid, q, h)
      by (x ∷ xs) o p q h = cc

  -- steps alone one after another
  pub alone_split : (n k t : ℕ) (st st1 : State Told) → alone (machine code s) (n + k) t st ≡ Some st1 → (mid : State Told) × (alone (machine code s) n t st ≡ Some mid) × (alone (machine code s) k t mid ≡ Some st1)
  alone_split zero k t st st1 e = let same : 0 + k ≡ k = omega arith in (st, refl, ap (λ j. alone (machine code s) j t st) (sym same) ∙ e)
  alone_split (suc n) k t st st1 e =
      let next : suc n + k ≡ suc (n + k) = omega arith in
      let x = step_alone (n + k) t st st1 (ap (λ j. alone (machine code s) j t st) (sym next) ∙ e) in
      let y = alone_split n k t x.1 st1 x.3 in
      (y.0, ap (λ z. if_nothing z (option_and_then (alone (machine code s) n t) (stepped (machine code s) st (Go t)))) x.0 ∙ ap (option_and_then (alone (machine code s) n t)) x.2 ∙ y.1, y.2)

module _ (code : Code) (s : SetupView) (runnable : IsRunnable code) (limits : IsWithinLimits s) where
  step_own : (st st1 : State Told) (l : Label) (t : ℕ) (told : Told) → label_thread l ≡ t → slice_get st.threads t ≡ Some told → stepped (machine code s) st l ≡ Some st1 → Comes t told st1
  step_own st st1 l t told own at e =
      let x = steps_of (machine code s) st l st1 e in
      let same : x.before ≡ told = same_Some x.before told (sym x.stands ∙ ap (slice_get st.threads) own ∙ at) in
      let threads : st1.threads ≡ slice_set st.threads (label_thread l) x.after = ap (λ (z : State Told). z.threads) x.to in
      let g = outcome_gains code s l (label_thread l) x.before x.after st.words x.words (effect_of code s l x.before) ((lawful code s runnable limits).effects l x.before) (effect_adds code s l x.before) x.leaves in
      record {
        after = x.after;
        stands = ap (slice_get st1.threads) (sym own) ∙ ap (λ ths. slice_get ths (label_thread l)) threads ∙ slice_get-set_same st.threads (label_thread l) x.after x.before x.stands;
        gained = subst (λ u. Gained u told x.after) own (subst (λ z. Gained (label_thread l) z x.after) same g);
      }

  step_other : (st st1 : State Told) (l : Label) (t : ℕ) → t ≢ label_thread l → stepped (machine code s) st l ≡ Some st1 → slice_get st1.threads t ≡ slice_get st.threads t
  step_other st st1 l t ne e =
      let x = steps_of (machine code s) st l st1 e in
      let threads : st1.threads ≡ slice_set st.threads (label_thread l) x.after = ap (λ (z : State Told). z.threads) x.to in
      ap (λ ths. slice_get ths t) threads ∙ slice_get-set_other st.threads (label_thread l) t x.after ne

  pub alone_own : (n t : ℕ) (st st1 : State Told) (told : Told) → slice_get st.threads t ≡ Some told → alone (machine code s) n t st ≡ Some st1 → GoesAlone n t told st1
  alone_own zero t st st1 told at e = record { comes = stays t told st1 (ap (λ (z : State Told). slice_get z.threads t) (sym (same_Some st st1 e)) ∙ at); count = omega arith }
  alone_own (suc n) t st st1 told at e =
      let x = step_alone code s n t st st1 e in
      let c = step_own st x.1 (Go t) t told refl at x.2 in
      let rest = alone_own n t x.1 st1 c.after c.stands x.3 in
      let one : c.after.thread.count ≡ suc told.thread.count =
      sym (ap (count_or_zero (machine code s)) c.stands) ∙ counted (machine code s) (lawful code s runnable limits) (Go t) st x.1 x.2 x.0 ∙ ap (λ z. suc (count_or_zero (machine code s) z)) at in
      record { comes = both_come t told x.1 st1 c rest.comes; count = omega (arith, rest.count, one) }

  alone_other : (n t u : ℕ) (st st1 : State Told) → u ≢ t → alone (machine code s) n t st ≡ Some st1 → slice_get st1.threads u ≡ slice_get st.threads u
  alone_other zero t u st st1 ne e = ap (λ (z : State Told). slice_get z.threads u) (sym (same_Some st st1 e))
  alone_other (suc n) t u st st1 ne e =
      let x = step_alone code s n t st st1 e in
      alone_other n t u x.1 st1 ne x.3 ∙ step_other st x.1 (Go t) u ne x.2

  -- the label of an entry adds it
  step_made : (e : Entry) (st st1 : State Told) → made (machine code s) e st ≡ Some st1 → (added (machine code s) st (label_of e) ≡ [] → ⊥) × (stepped (machine code s) st (label_of e) ≡ Some st1)
  step_made e st st1 h = by (added (machine code s) st (label_of e)) refl h
    where
      if_same : (b : Bool) (o : Option (State Told)) → (if b then o else None) ≡ Some st1 → o ≡ Some st1
      if_same true o q = q
      if_same false o q = cc

      by : (xs : List Noted) → added (machine code s) st (label_of e) ≡ xs → if_only e xs (stepped (machine code s) st (label_of e)) ≡ Some st1 → (added (machine code s) st (label_of e) ≡ [] → ⊥) × (stepped (machine code s) st (label_of e) ≡ Some st1)
      by [] p q = cc
      by (x ∷ []) p q = ((λ no. let clash : [] ≡ x ∷ [] = sym no ∙ p in cc), if_same (same_entry x.entry e) (stepped (machine code s) st (label_of e)) q)
      by (x ∷ y ∷ xs) p q = cc

  own_label : (e : Entry) → label_thread (label_of e) ≡ e.thread
  own_label e = sym (thread_of_label e (label_of e) refl)

  pub made_own : (e : Entry) (st st1 : State Told) (told : Told) → slice_get st.threads e.thread ≡ Some told → made (machine code s) e st ≡ Some st1 → (c : Comes e.thread told st1) × (c.after.accesses ≡ told.accesses)
  made_own e st st1 told at h =
      let y = step_made e st st1 h in
      let x = steps_of (machine code s) st (label_of e) st1 y.1 in
      let c = step_own st st1 (label_of e) e.thread told (own_label e) at y.1 in
      let same : x.before ≡ told = same_Some x.before told (sym x.stands ∙ ap (slice_get st.threads) (own_label e) ∙ at) in
      let threads : st1.threads ≡ slice_set st.threads (label_thread (label_of e)) x.after = ap (λ (z : State Told). z.threads) x.to in
      let here : slice_get st1.threads e.thread ≡ Some x.after = ap (slice_get st1.threads) (sym (own_label e)) ∙ ap (λ ths. slice_get ths (label_thread (label_of e))) threads ∙ slice_get-set_same st.threads (label_thread (label_of e)) x.after x.before x.stands in
      let silent = outcome_silent code s (label_thread (label_of e)) x.before x.after st.words x.words (effect_of code s (label_of e) x.before) (effect_adds code s (label_of e) x.before) (λ no. y.0 (adds_of (machine code s) st (label_of e) st1 x ∙ no)) x.leaves in
      (c, ap (λ (z : Told). z.accesses) (same_Some c.after x.after (sym c.stands ∙ here)) ∙ silent ∙ ap (λ (z : Told). z.accesses) same)

  made_other : (e : Entry) (u : ℕ) (st st1 : State Told) → u ≢ e.thread → made (machine code s) e st ≡ Some st1 → slice_get st1.threads u ≡ slice_get st.threads u
  made_other e u st st1 ne h = step_other st st1 (label_of e) u (λ same. ne (same ∙ own_label e)) (step_made e st st1 h).1

  -- a part is made of steps alone and of the entry
  pub part_split : (e : Entry) (st st1 : State Told) (told : Told) → slice_get st.threads e.thread ≡ Some told → part (machine code s) e st ≡ Some st1 → (mid : State Told) × (alone (machine code s) (e.count - told.thread.count) e.thread st ≡ Some mid) × (made (machine code s) e mid ≡ Some st1)
  part_split e st st1 told at h = by (alone (machine code s) (e.count - told.thread.count) e.thread st) refl (ap (λ n. option_and_then (made (machine code s) e) (alone (machine code s) (e.count - n) e.thread st)) (sym (ap (count_or_zero (machine code s)) at)) ∙ h)
    where
      by : (o : Option (State Told)) → alone (machine code s) (e.count - told.thread.count) e.thread st ≡ o → option_and_then (made (machine code s) e) o ≡ Some st1 → (mid : State Told) × (alone (machine code s) (e.count - told.thread.count) e.thread st ≡ Some mid) × (made (machine code s) e mid ≡ Some st1)
      by None q k = cc
      by (Some mid) q k = (mid, q, k)

  -- a part is one of a thread of the machine
  pub part_stands : (e : Entry) (st st1 : State Told) → part (machine code s) e st ≡ Some st1 → (told : Told) × (slice_get st.threads e.thread ≡ Some told)
  part_stands e st st1 h = by (slice_get st.threads e.thread) refl
    where
      by : (o : Option Told) → slice_get st.threads e.thread ≡ o → (told : Told) × (slice_get st.threads e.thread ≡ Some told)
      by None q = let clash : None ≡ Some st1 = sym (part_outside code s (record { loads = false; stores = false; thread = None; low = 0; high = 0; value = None }) e st q) ∙ h in cc
      by (Some told) q = (told, q)

  pub part_own : (e : Entry) (st st1 : State Told) (told : Told) → slice_get st.threads e.thread ≡ Some told → part (machine code s) e st ≡ Some st1 → MakesPart e told st1
  part_own e st st1 told at h =
      let x = part_split e st st1 told at h in
      let a = alone_own (e.count - told.thread.count) e.thread st x.0 told at x.1 in
      let g = a.comes.gained in
      let b = made_own e x.0 st1 a.comes.after a.comes.stands x.2 in
      record {
        comes = record {
          after = b.0.after;
          stands = b.0.stands;
          gained = record {
            more = g.more;
            accesses = b.1 ∙ g.accesses;
            own = g.own;
            low = g.low;
            high = λ z c. let lt = g.high z c in omega (arith, lt, b.0.gained.rises);
            rises = omega (arith, g.rises, b.0.gained.rises);
          };
        };
        before = λ z c. let lt = g.high z c in let le = g.low z c in omega (arith, lt, le, a.count);
        reaches = omega (arith, a.count, b.0.gained.rises);
      }

  pub part_other : (e : Entry) (u : ℕ) (st st1 : State Told) → u ≢ e.thread → part (machine code s) e st ≡ Some st1 → slice_get st1.threads u ≡ slice_get st.threads u
  part_other e u st st1 ne h =
      let told = part_stands e st st1 h in
      let x = part_split e st st1 told.0 told.1 h in
      made_other e u x.0 st1 ne x.2 ∙ alone_other (e.count - told.0.thread.count) e.thread u st x.0 ne x.1

  part_comes : (e : Entry) (t : ℕ) (st st1 : State Told) (told : Told) → slice_get st.threads t ≡ Some told → part (machine code s) e st ≡ Some st1 → Comes t told st1
  part_comes e t st st1 told at h = ⊎_elim
      (λ (same : t ≡ e.thread). subst (λ u. Comes u told st1) (sym same) (part_own e st st1 told (ap (slice_get st.threads) (sym same) ∙ at) h).comes)
      (λ (ne : t ≢ e.thread). stays t told st1 (part_other e t st st1 ne h ∙ at))
      (cases_eq t e.thread)

  -- the first part of a walk, and the rest of it
  pub walk_split : (e : Entry) (es : List Entry) (st end : State Told) → walk (machine code s) (e ∷ es) st ≡ Some end → (st1 : State Told) × (part (machine code s) e st ≡ Some st1) × (walk (machine code s) es st1 ≡ Some end)
  walk_split e es st end h = by (part (machine code s) e st) refl h
    where
      by : (o : Option (State Told)) → part (machine code s) e st ≡ o → option_and_then (walk (machine code s) es) o ≡ Some end → (st1 : State Told) × (part (machine code s) e st ≡ Some st1) × (walk (machine code s) es st1 ≡ Some end)
      by None q k = cc
      by (Some st1) q k = (st1, q, k)

  pub walk_comes : (es : List Entry) (t : ℕ) (st end : State Told) (told : Told) → slice_get st.threads t ≡ Some told → walk (machine code s) es st ≡ Some end → Comes t told end
  walk_comes [] t st end told at h = stays t told end (ap (λ (z : State Told). slice_get z.threads t) (sym (same_Some st end h)) ∙ at)
  walk_comes (e ∷ es) t st end told at h =
      let x = walk_split e es st end h in
      let c = part_comes e t st x.0 told at x.1 in
      both_come t told x.0 end c (walk_comes es t x.0 end c.after c.stands x.2)
