-- The access of a thread at a count, in the parts of a walk.
use Rattle.std.proofs.Common.{◌≡◌, ◌≢◌, ℕ, zero, suc, ◌+◌, ◌-◌, ◌<◌, ◌≤◌, ◌⊎◌, ⊎_elim, Bool, true, false, ltb, List, [], ◌∷◌, ◌++◌, Option, Some, None, refl, sym, ap, subst, ◌∙◌, arith, append-nil}
use Rattle.std.specs.Prelude.{slice_get, option_and_then, option_map, Contains, replicate, IfOk, Result}
use Rattle.std.proofs.lemmas.Bool.{cases_eq, ltb-true, ltb-false}
use Rattle.std.proofs.lemmas.List.Elements.{Contains-append_left, Contains-append_right, Contains-append_cases}
use Rattle.std.proofs.lemmas.Option.{same_Some, slice_get-map}
use Rattle.std.proofs.lemmas.Result.{IfOk-weaker}
use Rattle.sync_objects.specs.Setup.{SetupView, IsWithinLimits}
use Rattle.sync_objects.specs.declared.entry.Entry.{Entry}
use Rattle.flow_code.specs.declared.code.Code.{Code}
use Rattle.flow_code.specs.Settle.{IsRunnable, settled}
use Rattle.flow_code.specs.Threads.{Thread}
use Rattle.flow_code.proofs.Counts.{settled_count}
use Rattle.thread_interpreter.specs.declared.access.Access.{Access}
use Rattle.thread_interpreter.specs.declared.access.Formula.{Formula}
use Rattle.thread_interpreter.specs.Flows.{Running}
use Rattle.core_run.specs.Machine.{Told, machine, start_state}
use Rattle.core_run.specs.Shown.{running_thread, told_thread, RunAll, IsShown, PartStep, AreStarted}
use Rattle.core_run.specs.Walks.{walk_of}
use Rattle.core_run.specs.Words.{start_words}
use Rattle.core_run.proofs.ThreadRanges.{start_thread_is}
use Rattle.core_run.proofs.Walked.{run_all_here}
use Rattle.core_run.proofs.WalkLoop.{Walked, walked_start}
use Rattle.run_theory.specs.Labels.{Go}
use Rattle.run_theory.specs.Steps.{State, stepped, added}
use Rattle.run_theory.specs.Walk.{alone, if_nothing, part}
use Rattle.walk_accesses.specs.Accesses.{HasWalk, AccessIs}
use Rattle.walk_accesses.specs.Steps.{FindsAt, Looks, LooksAfter, next_access}
use Rattle.walk_accesses.proofs.Lists.{none, only_one, here}
use Rattle.walk_accesses.proofs.Grown.{Comes, GoesAlone, both_come, step_alone, alone_split, alone_own, made_own, part_split, part_stands, part_own, part_other, walk_split, walk_comes}
use Rattle.walk_accesses.proofs.OwnSteps.{Does, listed, step_does}
use Rattle.walk_accesses.proofs.States.{next_walked, next_is, begins, rest_walks}

-- ---- one thread

-- the accesses of a thread at a count are those of a list
pub record Splits (accesses : List Access) (count : ℕ) (made : Option Access) : Type 0 where
  pub front : List Access
  pub back : List Access
  pub split : accesses ≡ (front ++ listed made) ++ back
  pub no_front : (a : Access) → Contains front a → a.count ≢ count
  pub at_count : (a : Access) → Contains (listed made) a → a.count ≡ count
  pub no_back : (a : Access) → Contains back a → a.count ≢ count

found_in : (accesses : List Access) (count : ℕ) (made : Option Access) (x : Splits accesses count made) (a : Access) → Contains accesses a → a.count ≡ count → Contains (listed made) a
found_in accesses count made x a c e = ⊎_elim
    (λ (q : Contains (x.front ++ listed made) a). ⊎_elim (λ (r : Contains x.front a). absurd (x.no_front a r e)) (λ (r : Contains (listed made) a). r) (Contains-append_cases x.front (listed made) a q))
    (λ (q : Contains x.back a). absurd (x.no_back a q e))
    (Contains-append_cases (x.front ++ listed made) x.back a (subst (λ xs. Contains xs a) x.split c))

module _ (code : Code) (s : SetupView) (es : List Entry) (t count : ℕ) (end : State Told) (walked : walk_of code s es (start_state code s) ≡ Some end) where
  same_told : (told told1 : Told) (end1 : State Told) → slice_get end.threads t ≡ Some told → walk_of code s es (start_state code s) ≡ Some end1 → slice_get end1.threads t ≡ Some told1 → told1 ≡ told
  same_told told told1 end1 at h at1 = same_Some told1 told (sym at1 ∙ ap (λ (z : State Told). slice_get z.threads t) (same_Some end1 end (sym h ∙ walked)) ∙ at)

  -- what the accesses in the last state say
  pub told_access : (told : Told) (made : Option Access) → slice_get end.threads t ≡ Some told → Splits told.accesses count made → AccessIs code s es t count made
  told_access told None at x = λ a m. absurd (none a (found_in told.accesses count None x a (subst (λ (z : Told). Contains z.accesses a) (same_told told m.told m.end at m.walked m.stands) m.made) m.counted))
  told_access told (Some b) at x = (
    record {
      end = end;
      walked = walked;
      told = told;
      stands = at;
      made = subst (λ xs. Contains xs b) (sym x.split) (Contains-append_left (x.front ++ b ∷ []) x.back b (Contains-append_right x.front (b ∷ []) b (here b [])));
      counted = x.at_count b (here b []);
    },
    λ a m. sym (only_one b a (found_in told.accesses count (Some b) x a (subst (λ (z : Told). Contains z.accesses a) (same_told told m.told m.end at m.walked m.stands) m.made) m.counted)),
  )

  -- .. where the machine has no such thread, or it has no access there
  pub no_access : ((told : Told) → slice_get end.threads t ≡ Some told → (a : Access) → Contains told.accesses a → a.count ≢ count) → AccessIs code s es t count None
  no_access h = λ a m. h m.told (ap (λ (z : State Told). slice_get z.threads t) (same_Some end m.end (sym walked ∙ m.walked)) ∙ m.stands) a m.made m.counted

-- ---- the parts of a walk

-- no access is asked for
abbrev pub asks_none : Formula
asks_none = record { loads = false; stores = false; thread = None; low = 0; high = 0; value = None }

-- a running thread stands for one of the state
running_there : (f : Formula) (flows : List Running) (words : List ℕ) (reads : List (List Access)) (st : State Told) (t : ℕ) (told : Told) → IsShown f flows words reads st → slice_get st.threads t ≡ Some told → (r : Running) × (slice_get flows t ≡ Some r) × (told.thread ≡ r.kept.thread)
running_there f flows words reads st t told h at = by (slice_get flows t) refl
  where
    same : option_map running_thread (slice_get flows t) ≡ Some told.thread
    same = sym (slice_get-map running_thread flows t) ∙ ap (λ xs. slice_get xs t) h.threads_are ∙ slice_get-map told_thread st.threads t ∙ ap (option_map told_thread) at

    by : (o : Option Running) → slice_get flows t ≡ o → (r : Running) × (slice_get flows t ≡ Some r) × (told.thread ≡ r.kept.thread)
    by None q = let clash : None ≡ Some told.thread = ap (option_map running_thread) (sym q) ∙ same in cc
    by (Some r) q = (r, q, sym (same_Some r.kept.thread told.thread (ap (option_map running_thread) (sym q) ∙ same)))

module _ (code : Code) (s : SetupView) (es : List Entry) (t count : ℕ) (f : Formula) where
  -- no access of the thread so far is at the count
  pub record NotYet (at : ℕ) (rest : List Entry) (flows : List Running) (words : List ℕ) (reads : List (List Access)) (out : List ℕ) : Type 0 where
    pub walked : Walked code s es f at rest flows words reads out
    pub none : (told : Told) → slice_get walked.state.threads t ≡ Some told → (a : Access) → Contains told.accesses a → a.count ≢ count

  pub not_yet_start : (flows : List Running) (words : List ℕ) (reads : List (List Access)) (out : List ℕ) → AreStarted code s flows → words ≡ start_words code s → reads ≡ replicate s.slots [] → out ≡ [] → NotYet 0 es flows words reads out
  not_yet_start flows words reads out started ws rs os =
      let w = walked_start code s es f flows words reads started ws rs in
      let start = begins code s es f flows words reads w in
      subst (λ z. NotYet 0 es flows words reads z) (sym os)
      (record {
        walked = w;
        none = λ told at a c. absurd (none a (subst (λ (z : Told). Contains z.accesses a) (start_thread_is code s t told (ap (λ (z : State Told). slice_get z.threads t) start ∙ at)) c));
      })

  pub never : (at : ℕ) (flows : List Running) (words : List ℕ) (reads : List (List Access)) (out : List ℕ) → NotYet at [] flows words reads out → AccessIs code s es t count None
  never at flows words reads out n = no_access code s es t count n.walked.state (rest_walks code s es f at [] flows words reads out n.walked) n.none

  module _ (at : ℕ) (e : Entry) (rest : List Entry) (flows : List Running) (words : List ℕ) (reads : List (List Access)) (out : List ℕ) (n : NotYet at (e ∷ rest) flows words reads out) where
    pub never_wrong : HasWalk code s es → part (machine code s) e n.walked.state ≡ None → ⊥
    never_wrong h wrong =
        let clash : Some h.end ≡ None = sym h.walked ∙ rest_walks code s es f at (e ∷ rest) flows words reads out n.walked ∙ ap (option_and_then (walk_of code s rest)) wrong in
        cc

    module _ (runnable : IsRunnable code) (limits : IsWithinLimits s) where
      module _ (flows1 : List Running) (words1 : List ℕ) (reads1 : List (List Access)) (out1 : List ℕ) (all : RunAll code s 0 flows1) (p : PartStep code s f e n.walked.state flows1 words1 reads1 out out1 true) (early : e.thread ≡ t → e.count ≤ count) where
        none_next : (told : Told) → slice_get p.2.next.threads t ≡ Some told → (a : Access) → Contains told.accesses a → a.count ≢ count
        none_next told at_t a c e_count = ⊎_elim own other (cases_eq t e.thread)
          where
            own : t ≡ e.thread → ⊥
            own same =
                let stands = part_stands code s runnable limits e n.walked.state p.2.next p.2.parts in
                let m = part_own code s runnable limits e n.walked.state p.2.next stands.0 stands.1 p.2.parts in
                let is : told ≡ m.comes.after = same_Some told m.comes.after (sym at_t ∙ ap (slice_get p.2.next.threads) same ∙ m.comes.stands) in
                let le = early (sym same) in
                ⊎_elim
                (λ (q : Contains stands.0.accesses a). n.none stands.0 (ap (slice_get n.walked.state.threads) same ∙ stands.1) a q e_count)
                (λ (q : Contains m.comes.gained.more a). let lt = m.before a q in absurd (omega (arith, lt, le, e_count)))
                (Contains-append_cases stands.0.accesses m.comes.gained.more a (subst (λ xs. Contains xs a) (ap (λ (z : Told). z.accesses) is ∙ m.comes.gained.accesses) c))

            other : t ≢ e.thread → ⊥
            other ne = n.none told (sym (part_other code s runnable limits e t n.walked.state p.2.next ne p.2.parts) ∙ at_t) a c e_count

        pub not_yet_next : NotYet (at + 1) rest flows1 words1 reads1 out1
        not_yet_next =
            let w = next_walked code s es f at e rest flows flows1 words words1 reads reads1 out out1 all n.walked p in
            let is = next_is code s es f at e rest flows flows1 words words1 reads reads1 out out1 all n.walked p in
            record { walked = w; none = λ told at_t. none_next told (ap (λ (z : State Told). slice_get z.threads t) is ∙ at_t) }

      module _ (h : HasWalk code s es) (own : e.thread ≡ t) (late : count < e.count) where
        walks : walk_of code s (e ∷ rest) n.walked.state ≡ Some h.end
        walks = sym (rest_walks code s es f at (e ∷ rest) flows words reads out n.walked) ∙ h.walked

        first : (st1 : State Told) × (part (machine code s) e n.walked.state ≡ Some st1) × (walk_of code s rest st1 ≡ Some h.end)
        first = walk_split code s runnable limits e rest n.walked.state h.end walks

        pub is_there : (told : Told) × (slice_get n.walked.state.threads t ≡ Some told)
        is_there = let x = part_stands code s runnable limits e n.walked.state first.0 first.1 in (x.0, ap (slice_get n.walked.state.threads) (sym own) ∙ x.1)

        -- the thread is past the count
        pub past_it : count < is_there.0.thread.count → AccessIs code s es t count None
        past_it lt =
            let c = walk_comes code s runnable limits (e ∷ rest) t n.walked.state h.end is_there.0 is_there.1 walks in
            told_access code s es t count h.end h.walked c.after None c.stands
            (record {
              front = is_there.0.accesses;
              back = c.gained.more;
              split = c.gained.accesses ∙ ap (λ xs. xs ++ c.gained.more) (sym (append-nil is_there.0.accesses));
              no_front = n.none is_there.0 is_there.1;
              at_count = λ a q. absurd (none a q);
              no_back = λ a q same. let le = c.gained.low a q in absurd (omega (arith, le, lt, same));
            })

        module _ (le : is_there.0.thread.count ≤ count) where
          abbrev left : ℕ
          left = count - is_there.0.thread.count

          abbrev more_left : ℕ
          more_left = e.count - count - 1

          goes : (mid2 : State Told) × (alone (machine code s) (e.count - is_there.0.thread.count) t n.walked.state ≡ Some mid2) × ((told : Told) → slice_get mid2.threads t ≡ Some told → Comes t told h.end)
          goes =
              let there : slice_get n.walked.state.threads e.thread ≡ Some is_there.0 = ap (slice_get n.walked.state.threads) own ∙ is_there.1 in
              let x = part_split code s runnable limits e n.walked.state first.0 is_there.0 there first.1 in (
                x.0,
                ap (λ u. alone (machine code s) (e.count - is_there.0.thread.count) u n.walked.state) (sym own) ∙ x.1,
                λ told at_t.
                    let y = made_own code s runnable limits e x.0 first.0 told (ap (slice_get x.0.threads) own ∙ at_t) x.2 in
                    let after = subst (λ u. Comes u told first.0) own y.0 in
                    both_come t told first.0 h.end after (walk_comes code s runnable limits rest t first.0 h.end after.after after.stands first.2),
              )

          halves : (mid : State Told) × (alone (machine code s) left t n.walked.state ≡ Some mid) × (alone (machine code s) (suc more_left) t mid ≡ Some goes.0)
          halves =
              let sum : e.count - is_there.0.thread.count ≡ left + suc more_left = omega (arith, le, late) in
              alone_split code s left (suc more_left) t n.walked.state goes.0 (ap (λ k. alone (machine code s) k t n.walked.state) (sym sum) ∙ goes.1)

          -- the thread goes alone to the count
          pub goes_there : (st1 : State Told) × (alone (machine code s) left t n.walked.state ≡ Some st1)
          goes_there = (halves.0, halves.1)

          before : GoesAlone left t is_there.0 halves.0
          before = alone_own code s runnable limits left t n.walked.state halves.0 is_there.0 is_there.1 halves.1

          there : before.comes.after.thread.count ≡ count
          there = omega (arith, before.count, le)

          -- the step at the count
          step : (added (machine code s) halves.0 (Go t) ≡ []) × (mid : State Told) × (stepped (machine code s) halves.0 (Go t) ≡ Some mid) × (alone (machine code s) more_left t mid ≡ Some goes.0)
          step = step_alone code s more_left t halves.0 goes.0 halves.2

          does : (told1 : Told) × (slice_get step.1.threads t ≡ Some told1) × Does code s t before.comes.after told1 (settled code s t before.comes.after.thread) halves.0.words step.1.words (next_access code s t (settled code s t before.comes.after.thread) halves.0.words)
          does = step_does code s t halves.0 step.1 before.comes.after before.comes.stands step.2 step.0

          one : GoesAlone (suc zero) t before.comes.after step.1
          one = alone_own code s runnable limits (suc zero) t halves.0 step.1 before.comes.after before.comes.stands
              (ap (λ z. if_nothing z (option_and_then (alone (machine code s) zero t) (stepped (machine code s) halves.0 (Go t)))) step.0 ∙ ap (option_and_then (alone (machine code s) zero t)) step.2)

          past : does.0.thread.count ≡ count + 1
          past = let same : does.0.thread.count ≡ one.comes.after.thread.count = ap (λ (z : Told). z.thread.count) (same_Some does.0 one.comes.after (sym does.1 ∙ one.comes.stands)) in omega (arith, same, one.count, there)

          after : GoesAlone more_left t does.0 goes.0
          after = alone_own code s runnable limits more_left t step.1 goes.0 does.0 does.1 step.3

          last : Comes t does.0 h.end
          last = both_come t does.0 goes.0 h.end after.comes (goes.2 after.comes.after after.comes.stands)

          module _ (made : Option Access) (looks : LooksAfter code s left t n.walked.state made) where
            made_is : made ≡ next_access code s t (settled code s t before.comes.after.thread) halves.0.words
            made_is =
                let i = looks.there.is_in in
                let state : looks.there.state ≡ halves.0 = same_Some looks.there.state halves.0 (sym looks.there.goes ∙ halves.1) in
                let told : i.told ≡ before.comes.after = same_Some i.told before.comes.after (sym i.stands ∙ ap (λ (z : State Told). slice_get z.threads t) state ∙ before.comes.stands) in
                looks.made_is
                ∙ ap (λ z. next_access code s t (settled code s t z) looks.words) (sym i.thread_is ∙ ap (λ (z : Told). z.thread) told)
                ∙ ap (next_access code s t (settled code s t before.comes.after.thread)) (sym i.words_are ∙ ap (λ (z : State Told). z.words) state)

            no_front : (a : Access) → Contains before.comes.after.accesses a → a.count ≢ count
            no_front a c same = ⊎_elim
                (λ (q : Contains is_there.0.accesses a). n.none is_there.0 is_there.1 a q same)
                (λ (q : Contains before.comes.gained.more a). let lt = before.comes.gained.high a q in absurd (omega (arith, lt, there, same)))
                (Contains-append_cases is_there.0.accesses before.comes.gained.more a (subst (λ xs. Contains xs a) before.comes.gained.accesses c))

            pub ahead_of : AccessIs code s es t count made
            ahead_of = told_access code s es t count h.end h.walked last.after made last.stands
                (record {
                  front = before.comes.after.accesses;
                  back = last.gained.more;
                  split = last.gained.accesses ∙ ap (λ xs. xs ++ last.gained.more) (does.2.accesses ∙ ap (λ z. before.comes.after.accesses ++ listed z) (sym made_is));
                  no_front = no_front;
                  at_count = λ a q. does.2.counted a (subst (λ z. Contains (listed z) a) made_is q) ∙ settled_count code s t before.comes.after.thread ∙ there;
                  no_back = λ a q same. let low = last.gained.low a q in absurd (omega (arith, low, past, same));
                })

        running : (r : Running) × (slice_get flows t ≡ Some r) × (is_there.0.thread ≡ r.kept.thread)
        running = running_there f flows words reads n.walked.state t is_there.0 n.walked.shown is_there.1

        -- what is answered is the access there
        pub answered : {E : Type 0} (result : Result (Option Access) E) → ((r : Running) → slice_get flows t ≡ Some r → IfOk result (FindsAt count r words)) → IfOk result (AccessIs code s es t count)
        answered result finds = IfOk-weaker result (FindsAt count running.0 words) (AccessIs code s es t count) (λ made x. by made x (ltb count is_there.0.thread.count) refl) (finds running.0 running.1)
          where
            same_count : is_there.0.thread.count ≡ (running.0).kept.thread.count
            same_count = ap (λ (z : Thread). z.count) running.2

            by : (made : Option Access) → FindsAt count running.0 words made → (b : Bool) → ltb count is_there.0.thread.count ≡ b → AccessIs code s es t count made
            by made x true e =
                let lt = ltb-true count is_there.0.thread.count e in
                subst (AccessIs code s es t count) (sym (x.past (omega (arith, lt, same_count)))) (past_it lt)
            by made x false e =
                let le = ltb-false count is_there.0.thread.count e in
                let parts = run_all_here code s t flows running.0 n.walked.all running.1 in
                let goes_on = goes_there le in
                let th = (running.0).kept.thread in
                let looks = subst (λ k. Looks code s (count - k) t th words made) (sym same_count)
                (subst (λ u. Looks code s (count - th.count) u th words made) parts.2
                (subst (λ z. Looks code z (count - th.count) (running.0).number th words made) parts.1
                (subst (λ c. Looks c (running.0).setup (count - th.count) (running.0).number th words made) parts.0 (x.ahead (omega (arith, le, same_count)))))) in
                ahead_of le made (looks n.walked.state goes_on.0 (record { told = is_there.0; stands = is_there.1; thread_is = running.2; words_are = sym n.walked.shown.words_are }) goes_on.1)
