-- A step of the code of one thread is its own step of the machine.
use Rattle.std.proofs.Common.{◌≡◌, ℕ, suc, Bool, true, false, if◌then◌else◌, nat_lt, pos, List, [], ◌∷◌, ◌++◌, Option, Some, None, sym, ap, subst, ◌∙◌, append-nil}
use Rattle.std.specs.Prelude.{slice_get, slice_set, Contains}
use Rattle.std.specs.Option.{option_map}
use Rattle.std.proofs.lemmas.Option.{same_Some}
use Rattle.rr_base.proofs.Lists.{slice_get-set_same}
use Rattle.sync_objects.specs.Setup.{SetupView}
use Rattle.sync_objects.specs.declared.entry.Entry.{Entry}
use Rattle.word_semantics.specs.Values.{number}
use Rattle.word_semantics.specs.declared.event.Action.{Action}
use Rattle.word_semantics.specs.declared.event.Action.TheVariants as action
use Rattle.flow_code.specs.declared.code.Code.{Code}
use Rattle.flow_code.specs.Threads.{Thread}
use Rattle.flow_code.specs.Next.{stepped as thread_stepped, action_at}
use Rattle.flow_code.specs.Settle.{settled}
use Rattle.thread_interpreter.specs.declared.access.Access.{Access}
use Rattle.core_run.specs.Words.{cells_of, has_object}
use Rattle.core_run.specs.Machine.{Told, access_of, accessed, action_effect, effect_of, machine}
use Rattle.core_run.proofs.Lawful.{effect_go}
use Rattle.run_theory.specs.Labels.{Go}
use Rattle.run_theory.specs.Steps.{Change, Becomes, Leaves, Refused, Loads, Stores, Operates, State, outcome, effect_entry, stepped, added}
use Rattle.run_theory.specs.Walk.{alone}
use Rattle.run_theory.proofs.Swap.{load_inv, change_inv, steps_of, adds_of}
use Rattle.walk_accesses.specs.Steps.{GoesTo, IsIn, LooksAfter, Steps, access_by, answer_of, next_access, words_by}
use Rattle.walk_accesses.proofs.Lists.{none, only_one}
use Rattle.walk_accesses.proofs.Grown.{step_alone}

-- the access, if there is one
abbrev pub listed : Option Access → List Access
listed None = []
listed (Some a) = a ∷ []

-- what a step that adds no entry does, by the access that it makes
pub record Does (code : Code) (s : SetupView) (t : ℕ) (told told1 : Told) (th : Thread) (ws ws1 : List ℕ) (made : Option Access) : Type 0 where
  pub thread_is : told1.thread ≡ thread_stepped code s t th (answer_of made)
  pub words_are : ws1 ≡ words_by ws made
  pub accesses : told1.accesses ≡ told.accesses ++ listed made
  pub counted : (a : Access) → Contains (listed made) a → a.count ≡ th.count

module _ (code : Code) (s : SetupView) (t : ℕ) (told told1 : Told) (th : Thread) (ws ws1 : List ℕ) where
  loaded : (c : ℕ) (b : Bool) → outcome (machine code s) ws (if b then Loads c (λ w. accessed told (thread_stepped code s t th (number w)) (access_of t th c w false)) else Refused) ≡ Leaves ws1 told1 → Does code s t told told1 th ws ws1 (access_by t th ws (action.Load c))
  loaded c false h = cc
  loaded c true h =
      let i = load_inv ws (λ w. accessed told (thread_stepped code s t th (number w)) (access_of t th c w false)) (slice_get ws c) ws1 told1 h in
      let made : Some (access_of t th c i.0 false) ≡ access_by t th ws (action.Load c) = ap (option_map (λ w. access_of t th c w false)) (sym i.1) in
      subst (Does code s t told told1 th ws ws1) made
      (record {
        thread_is = ap (λ (z : Told). z.thread) i.3;
        words_are = i.2;
        accesses = ap (λ (z : Told). z.accesses) i.3;
        counted = λ a k. ap (λ (z : Access). z.count) (sym (only_one (access_of t th c i.0 false) a k));
      })

  stored : (c w : ℕ) (b : Bool) → outcome (machine code s) ws (if b then Stores c w (accessed told (thread_stepped code s t th (pos 0)) (access_of t th c w true)) else Refused) ≡ Leaves ws1 told1 → Does code s t told told1 th ws ws1 (access_by t th ws (action.Store c w))
  stored c w false h = cc
  stored c w true h =
      let q : Told = accessed told (thread_stepped code s t th (pos 0)) (access_of t th c w true) in
      let i = change_inv ws c (λ v. Becomes w (pos 0) q) (slice_get ws c) ws1 told1 h in
      let becomes : Becomes w (pos 0) q ≡ Becomes i.1 i.2 told1 = i.4 in
      let same : q ≡ told1 = cc in
      let word : w ≡ i.1 = cc in
      record {
        thread_is = ap (λ (z : Told). z.thread) (sym same);
        words_are = i.5 ∙ ap (slice_set ws c) (sym word);
        accesses = ap (λ (z : Told). z.accesses) (sym same);
        counted = λ a k. ap (λ (z : Access). z.count) (sym (only_one (access_of t th c w true) a k));
      }

  operates_not : (b : Bool) (e : Entry) (change : ℕ → Change Told) → outcome (machine code s) ws (if b then Operates e change else Refused) ≡ Leaves ws1 told1 → effect_entry (machine code s) ws (if b then Operates e change else Refused) ≡ [] → ⊥
  operates_not true e change h none_added = cc
  operates_not false e change h none_added = cc

  does : (a : Action) → outcome (machine code s) ws (action_effect code s t told th a) ≡ Leaves ws1 told1 → effect_entry (machine code s) ws (action_effect code s t told th a) ≡ [] → Does code s t told told1 th ws ws1 (access_by t th ws a)
  does action.Quiet h none_added = cc
  does (action.Load c) h none_added = loaded c (nat_lt c (cells_of code s)) h
  does (action.Store c w) h none_added = stored c w (nat_lt c (cells_of code s)) h
  does action.Mark h none_added =
      let words : ws ≡ ws1 = cc in
      let told_is : record told { thread = thread_stepped code s t th (pos 0) } ≡ told1 = cc in
      record {
        thread_is = ap (λ (z : Told). z.thread) (sym told_is);
        words_are = sym words;
        accesses = ap (λ (z : Told). z.accesses) (sym told_is) ∙ sym (append-nil told.accesses);
        counted = λ a k. absurd (none a k);
      }
  does (action.Operate o obj) h none_added = absurd (operates_not (has_object code s obj) _ _ h none_added)
  does action.Ended h none_added = cc

-- so many steps alone are left, up to the state
pub record Between (code : Code) (s : SetupView) (k t : ℕ) (st1 : State Told) (th : Thread) (ws : List ℕ) : Type 0 where
  pub state : State Told
  pub is_in : IsIn t state th ws
  pub rest : alone (machine code s) k t state ≡ Some st1

module _ (code : Code) (s : SetupView) (t : ℕ) where
  pub step_does : (st mid : State Told) (told : Told) → slice_get st.threads t ≡ Some told → stepped (machine code s) st (Go t) ≡ Some mid → added (machine code s) st (Go t) ≡ [] →
      (told1 : Told) × (slice_get mid.threads t ≡ Some told1) × Does code s t told told1 (settled code s t told.thread) st.words mid.words (next_access code s t (settled code s t told.thread) st.words)
  step_does st mid told at h none_added =
      let x = steps_of (machine code s) st (Go t) mid h in
      let same : x.before ≡ told = same_Some x.before told (sym x.stands ∙ at) in
      let effect : effect_of code s (Go t) x.before ≡ action_effect code s t told (settled code s t told.thread) (action_at code s t (settled code s t told.thread)) = ap (effect_of code s (Go t)) same ∙ effect_go code s t told in
      let threads : mid.threads ≡ slice_set st.threads t x.after = ap (λ (z : State Told). z.threads) x.to in
      let words : mid.words ≡ x.words = ap (λ (z : State Told). z.words) x.to in (
        x.after,
        ap (λ ths. slice_get ths t) threads ∙ slice_get-set_same st.threads t x.after x.before x.stands,
        subst (λ z. Does code s t told x.after (settled code s t told.thread) st.words z (next_access code s t (settled code s t told.thread) st.words)) (sym words)
            (does code s t told x.after (settled code s t told.thread) st.words x.words (action_at code s t (settled code s t told.thread))
            (ap (outcome (machine code s) st.words) (sym effect) ∙ x.leaves) (ap (effect_entry (machine code s) st.words) (sym effect) ∙ sym (adds_of (machine code s) st (Go t) mid x) ∙ none_added)),
      )

  pub between_start : (n : ℕ) (st st1 : State Told) (th : Thread) (ws : List ℕ) → IsIn t st th ws → alone (machine code s) n t st ≡ Some st1 → Between code s n t st1 th ws
  between_start n st st1 th ws i h = record { state = st; is_in = i; rest = h }

  pub between_next : (k : ℕ) (st1 : State Told) (th th1 : Thread) (ws ws1 : List ℕ) (made : Option Access) → Between code s (suc k) t st1 th ws → Steps code s t th th1 ws ws1 made → Between code s k t st1 th1 ws1
  between_next k st1 th th1 ws ws1 made b step =
      let x = step_alone code s k t b.state st1 b.rest in
      let i = b.is_in in
      let d = step_does b.state x.1 i.told i.stands x.2 x.0 in
      let next : next_access code s t (settled code s t i.told.thread) b.state.words ≡ next_access code s t (settled code s t th) ws =
      ap (λ z. next_access code s t (settled code s t z) b.state.words) i.thread_is ∙ ap (next_access code s t (settled code s t th)) i.words_are in
      record {
        state = x.1;
        is_in = record {
          told = d.0;
          stands = d.1;
          thread_is = d.2.thread_is ∙ ap (λ z. thread_stepped code s t (settled code s t i.told.thread) (answer_of z)) next ∙ ap (λ z. thread_stepped code s t (settled code s t z) (answer_of (next_access code s t (settled code s t th) ws))) i.thread_is ∙ sym step.thread_is;
          words_are = d.2.words_are ∙ ap (words_by b.state.words) next ∙ ap (λ z. words_by z (next_access code s t (settled code s t th) ws)) i.words_are ∙ ap (words_by ws) (sym step.made_is) ∙ sym step.words_are;
        };
        rest = x.3;
      }

  pub between_end : (n : ℕ) (st st1 : State Told) (th : Thread) (ws : List ℕ) → alone (machine code s) n t st ≡ Some st1 → Between code s 0 t st1 th ws → GoesTo code s n t st th ws
  between_end n st st1 th ws h b = record { state = st1; goes = h; is_in = subst (λ z. IsIn t z th ws) (same_Some b.state st1 b.rest) b.is_in }

  -- the access after so many steps
  pub look : (n : ℕ) (st : State Told) (th th1 : Thread) (ws ws1 : List ℕ) (made : Option Access) → GoesTo code s n t st th ws → Steps code s t th th1 ws ws1 made → LooksAfter code s n t st made
  look n st th th1 ws ws1 made there step = record { thread = th; words = ws; there = there; made_is = step.made_is }
