-- Where its thread departs from it, an entry has no part.
use Rattle.std.proofs.Common.{◌≡◌, ◌≢◌, ℕ, zero, suc, ◌+◌, ◌-◌, ◌<◌, ◌≤◌, Bool, true, false, List, [], ◌∷◌, ◌++◌, Option, Some, None, refl, sym, ap, ◌∙◌, subst, arith}
use Rattle.std.specs.Prelude.{slice_get, option_and_then, if◌then◌else◌}
use Rattle.std.proofs.lemmas.Option.{get_or_from_slice_get, same_Some}
use Rattle.sync_objects.specs.declared.entry.Entry.{Entry}
use Rattle.sync_objects.specs.declared.entry.Noted.{Noted}
use Rattle.sync_objects.specs.declared.object.ObjId.{ObjId}
use Rattle.run_theory.specs.Labels.{Go, label_thread, label_of}
use Rattle.run_theory.specs.Laws.{IsLawfulEffect, IsLawful}
use Rattle.run_theory.specs.Merge.{entries_at}
use Rattle.run_theory.specs.Same.{same_entry}
use Rattle.run_theory.specs.Steps.{Change, NotAllowed, Blocked, Effect, Refused, Marks, Loads, Stores, Operates, Machine, State, changed_outcome, outcome, with_thread, step_of_thread, stepped, added, effect_entry, entry_of_thread, run, entries_of, count_of, count_or_zero, number_at}
use Rattle.run_theory.specs.Walk.{if_nothing, if_only, alone, made, part}
use Rattle.run_theory.proofs.Apart.{thread_of_label}
use Rattle.run_theory.proofs.SameEntries.{same_entry-true}
use Rattle.replay_theory.specs.Following.{IsNoStep, Departs, Above, Early, Other, Barred}
use Rattle.replay_theory.specs.Numbered.{with_number}
use Rattle.replay_theory.proofs.Alone.{Leading, stays}
use Rattle.replay_theory.proofs.Words.{HasNumbers, word_kept}

zero_plus : (k : ℕ) → 0 + k ≡ k
zero_plus k = omega arith

suc_plus : (n k : ℕ) → suc n + k ≡ suc (n + k)
suc_plus n k = omega arith

if_nothing_inv : {A : Type 0} (xs : List Noted) (o : Option A) (a : A) → if_nothing xs o ≡ Some a → (xs ≡ []) × (o ≡ Some a)
if_nothing_inv [] o a h = (refl, h)
if_nothing_inv (x ∷ xs) o a h = cc

and_then_inv : {A B : Type 0} (f : A → Option B) (o : Option A) (b : B) → option_and_then f o ≡ Some b → (a : A) × (o ≡ Some a) × (f a ≡ Some b)
and_then_inv f None b h = cc
and_then_inv f (Some a) b h = (a, refl, h)

none_at_all : {A : Type 0} (b : Bool) (o : Option A) → o ≡ None → (if b then o else None) ≡ None
none_at_all true o h = h
none_at_all false o h = refl

only_none : {A : Type 0} (e : Entry) (xs : List Noted) (o : Option A) → o ≡ None → if_only e xs o ≡ None
only_none e [] o h = refl
only_none e (x ∷ []) o h = none_at_all (same_entry x.entry e) o h
only_none e (x ∷ y ∷ xs) o h = refl

-- another entry than this one is no answer
only_other : {A : Type 0} (e : Entry) (x : Noted) (o : Option A) → x.entry ≢ e → if_only e (x ∷ []) o ≡ None
only_other e x o ne = go (same_entry x.entry e) refl
  where
    go : (b : Bool) → same_entry x.entry e ≡ b → (if b then o else None) ≡ None
    go true h = absurd (ne (same_entry-true x.entry e h))
    go false h = refl

module _ {T : Type 0} (m : Machine T) (law : IsLawful m) where
  alone_then : (n k t : ℕ) (s q : State T) → alone m n t s ≡ Some q → alone m (n + k) t s ≡ alone m k t q
  alone_then zero k t s q h = let e : s ≡ q = same_Some _ _ h in ap (λ z. alone m z t s) (zero_plus k) ∙ ap (alone m k t) e
  alone_then (suc n) k t s q h =
      let p = if_nothing_inv (added m s (Go t)) (option_and_then (alone m n t) (stepped m s (Go t))) q h in
      let r = and_then_inv (alone m n t) (stepped m s (Go t)) q p.1 in
      ap (λ z. alone m z t s) (suc_plus n k)
      ∙ ap (λ z. if_nothing z (option_and_then (alone m (n + k) t) (stepped m s (Go t)))) p.0
      ∙ ap (option_and_then (alone m (n + k) t)) r.1
      ∙ alone_then n k t r.0 q r.2

  -- ---- no step, no entry

  no_step : (s : State T) (t : ℕ) (th : T) → slice_get s.threads t ≡ Some th → (k : ℕ) → IsNoStep (m.effect (Go t) th) → alone m (suc k) t s ≡ None
  no_step s t th stands k none =
      ap (λ o. if_nothing (entry_of_thread m s.words (Go t) o) (option_and_then (alone m k t) (step_of_thread m s (Go t) o))) stands
      ∙ go (m.effect (Go t) th) none
    where
      go : (f : Effect T) → IsNoStep f → if_nothing (effect_entry m s.words f) (option_and_then (alone m k t) (with_thread m s.threads t (outcome m s.words f))) ≡ None
      go Refused h = refl
      go (Operates e change) h = refl
      go (Marks x) h = absurd h
      go (Loads c next) h = absurd h
      go (Stores c w x) h = absurd h

  made_none : (e : Entry) (s : State T) (th : T) → slice_get s.threads e.thread ≡ Some th → ((f : Effect T) → m.effect (label_of e) th ≡ f → if_only e (effect_entry m s.words f) (with_thread m s.threads (label_thread (label_of e)) (outcome m s.words f)) ≡ None) → made m e s ≡ None
  made_none e s th stands none =
      ap (λ o. if_only e (entry_of_thread m s.words (label_of e) o) (step_of_thread m s (label_of e) o)) (ap (slice_get s.threads) (sym (thread_of_label e (label_of e) refl)) ∙ stands)
      ∙ none (m.effect (label_of e) th) refl

  -- another effect
  made_other : (e : Entry) (s : State T) (th : T) → slice_get s.threads e.thread ≡ Some th → ((change : ℕ → Change T) → m.effect (label_of e) th ≢ Operates e change) → made m e s ≡ None
  made_other e s th stands differs = made_none e s th stands go
    where
      go : (f : Effect T) → m.effect (label_of e) th ≡ f → if_only e (effect_entry m s.words f) (with_thread m s.threads (label_thread (label_of e)) (outcome m s.words f)) ≡ None
      go Refused is = refl
      go (Marks x) is = refl
      go (Loads c next) is = refl
      go (Stores c w x) is = refl
      go (Operates x change) is = only_other e (record { entry = x; number = number_at m s.words x.obj }) (with_thread m s.threads (label_thread (label_of e)) (outcome m s.words (Operates x change))) (λ same. differs change (is ∙ ap (λ z. Operates z change) same))

  -- a word that doesn't allow it
  made_barred : (e : Entry) (s : State T) (th : T) (change : ℕ → Change T) (w : ℕ) → slice_get s.threads e.thread ≡ Some th → m.effect (label_of e) th ≡ Operates e change → slice_get s.words (m.place e.obj) ≡ Some w → change w ≡ NotAllowed → made m e s ≡ None
  made_barred e s th change w stands is there barred = made_none e s th stands (λ f same.
      ap (λ z. if_only e (effect_entry m s.words z) (with_thread m s.threads (label_thread (label_of e)) (outcome m s.words z))) (sym same ∙ is)
      ∙ ap (λ z. if_only e (effect_entry m s.words (Operates e change)) (with_thread m s.threads (label_thread (label_of e)) z)) (blocked (slice_get s.words (m.place e.obj)) there)
      ∙ only_none e (effect_entry m s.words (Operates e change)) (with_thread m s.threads (label_thread (label_of e)) Blocked) refl)
    where
      blocked : (o : Option ℕ) → o ≡ Some w → Rattle.run_theory.specs.Steps.change_outcome s.words (m.place e.obj) change o ≡ Blocked
      blocked o h = ap (Rattle.run_theory.specs.Steps.change_outcome s.words (m.place e.obj) change) h ∙ ap (changed_outcome s.words (m.place e.obj)) barred

  -- ---- no part

  part_none : (e : Entry) (s : State T) (k : ℕ) → e.count - count_of m s e.thread ≡ k → option_and_then (made m e) (alone m k e.thread s) ≡ None → part m e s ≡ None
  part_none e s k is none = ap (λ z. option_and_then (made m e) (alone m z e.thread s)) is ∙ none

  module _ (floor : Entry → ℕ) (before : List Noted) (e : Entry) (s s1 : State T) (th : T) (leads : Leading m law s s1 e.thread) (at_end : slice_get s1.threads e.thread ≡ Some th) where
    -- the thread is in its last state once it has gone alone
    stands : slice_get leads.mid.threads e.thread ≡ Some th
    stands = stays m law leads.rest leads.mid s1 e.thread leads.goes leads.none ∙ at_end

    counts : m.count th ≡ leads.steps + count_of m s e.thread
    counts = sym (ap (count_or_zero m) stands) ∙ leads.counts

    here : m.count th ≡ e.count → made m e leads.mid ≡ None → part m e s ≡ None
    here same none = part_none e s leads.steps (omega (arith, counts, same)) (ap (option_and_then (made m e)) leads.goes_alone ∙ none)

    early : m.count th < e.count → IsNoStep (m.effect (Go e.thread) th) → part m e s ≡ None
    early less none = go (e.count - m.count th) refl
      where
        go : (k : ℕ) → e.count - m.count th ≡ k → part m e s ≡ None
        go zero is = absurd (omega (arith, less, is))
        go (suc k) is = part_none e s (leads.steps + suc k) (omega (arith, counts, is, less)) (ap (option_and_then (made m e)) (alone_then leads.steps (suc k) e.thread s leads.mid leads.goes_alone ∙ no_step leads.mid e.thread th stands k none))

    barred : (change : ℕ → Change T) (seen now : ℕ) → HasNumbers m law before s → ((o : ObjId) → o ≡ e.obj → m.has_object o ≡ true → number_at m s1.words o ≤ entries_at o before) → m.count th ≡ e.count → m.effect (label_of e) th ≡ Operates e change → change seen ≡ NotAllowed → m.number seen ≡ entries_at e.obj before → slice_get s1.words (m.place e.obj) ≡ Some now → m.number seen ≤ m.number now → (m.number seen ≡ m.number now → seen ≡ now) → part m e s ≡ None
    barred change seen now has few same is none number there up alike =
        let lawful : IsLawfulEffect m (label_of e) th (Operates e change) = subst (IsLawfulEffect m (label_of e) th) is (law.effects (label_of e) th) in
        let known = lawful.object in
        let number_is : number_at m s1.words e.obj ≡ m.number now = ap m.number (get_or_from_slice_get s1.words (m.place e.obj) now 0 there) in
        let no_more = few e.obj refl known in
        let kept = word_kept m law leads.rest leads.mid s1 leads.goes e.obj known (omega (arith, no_more, has e.obj known, leads.numbers e.obj known)) in
        let is_seen = alike (omega (arith, number, number_is, no_more, up)) in
        here same (made_barred e leads.mid th change seen stands is (sym kept ∙ there ∙ ap Some (sym is_seen)) none)

  -- an entry at a lower count than its thread's
  above : (e : Entry) (s : State T) (th : T) → slice_get s.threads e.thread ≡ Some th → e.count < m.count th → part m e s ≡ None
  above e s th stands less =
      part_none e s 0 (omega (arith, less, ap (count_or_zero m) stands))
      (made_other e s th stands (λ change is.
      let lawful : IsLawfulEffect m (label_of e) th (Operates e change) = subst (IsLawfulEffect m (label_of e) th) is (law.effects (label_of e) th) in
      omega (arith, less, lawful.counted)))

  -- the thread that is in some state at the end was in one before
  was_there : (s s1 : State T) (e : Entry) (th : T) (leads : Leading m law s s1 e.thread) → slice_get s1.threads e.thread ≡ Some th → (c : ℕ) → c < count_of m s e.thread → (x : T) × (slice_get s.threads e.thread ≡ Some x) × (c < m.count x)
  was_there s s1 e th leads at_end c less = go (slice_get s.threads e.thread) refl
    where
      go : (o : Option T) → slice_get s.threads e.thread ≡ o → (x : T) × (o ≡ Some x) × (c < m.count x)
      go None is = absurd (omega (arith, less, ap (count_or_zero m) is))
      go (Some x) is = (x, refl, omega (arith, less, ap (count_or_zero m) is))

  pub departs_none : (floor : Entry → ℕ) (before : List Noted) (e : Entry) (s s1 : State T) (th : T) → Leading m law s s1 e.thread → slice_get s1.threads e.thread ≡ Some th → HasNumbers m law before s → ((o : ObjId) → o ≡ e.obj → m.has_object o ≡ true → number_at m s1.words o ≤ entries_at o before) → ((ys : List Noted) (y : Noted) → entries_of e.thread before ≡ ys ++ y ∷ [] → floor y.entry ≤ count_of m s e.thread) → Departs m floor (entries_of e.thread before) s1.words th (with_number before e) → part m e s ≡ None
  departs_none floor before e s s1 th leads at_end has few floors (Above ys y is less) =
      let x = was_there s s1 e th leads at_end e.count (omega (arith, less, floors ys y is)) in
      above e s x.0 x.1 x.2
  departs_none floor before e s s1 th leads at_end has few floors (Early less none) = early floor before e s s1 th leads at_end less none
  departs_none floor before e s s1 th leads at_end has few floors (Other same differs) = here floor before e s s1 th leads at_end same (made_other e leads.mid th (stands floor before e s s1 th leads at_end) differs)
  departs_none floor before e s s1 th leads at_end has few floors (Barred same change seen now is none number there up alike) = barred floor before e s s1 th leads at_end change seen now has few same is none number there up alike
