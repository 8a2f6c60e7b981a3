-- The walk between two entries, with what was noted of it.
use Rattle.std.proofs.Common.{◌≡◌, ℕ, zero, suc, ◌+◌, ◌<◌, inl, inr, ⊎_elim, true, List, [], ◌∷◌, ◌++◌, length, map, take, Some, None, refl, sym, ap, ◌∙◌, subst, arith, length-set}
use Rattle.std.specs.Prelude.{slice_get, slice_set, Contains, replicate, option_and_then}
use Rattle.std.proofs.lemmas.Bool.{cases_eq}
use Rattle.std.proofs.lemmas.List.{append-nil, length-append, length-map}
use Rattle.std.proofs.lemmas.Option.{same_Some, slice_get_within}
use Rattle.sync_objects.specs.Setup.{SetupView}
use Rattle.sync_objects.specs.declared.entry.Entry.{Entry}
use Rattle.flow_code.specs.declared.code.Code.{Code}
use Rattle.thread_interpreter.specs.declared.access.Access.{Access}
use Rattle.thread_interpreter.specs.Flows.{Running}
use Rattle.core_run.specs.Machine.{Told, machine, start_told, start_threads_from, start_state}
use Rattle.core_run.specs.Shown.{running_thread, told_thread, RunAll, PartStep, AreStarted}
use Rattle.thread_interpreter.specs.Stacks.{stack_of}
use Rattle.core_run.specs.Walks.{walk_of}
use Rattle.core_run.specs.Words.{start_words}
use Rattle.core_run.proofs.WalkLoop.{Walked, walked_start, walked_more}
use Rattle.core_run.proofs.Walked.{stands}
use Rattle.run_theory.specs.Steps.{State}
use Rattle.run_theory.specs.Walk.{part}
use Rattle.run_theory.proofs.Solo.{walk-append}
use Rattle.seen_pairs.specs.Pairings.{no_reads, IsNoted, Follows, AreNoted}
use Rattle.seen_pairs.specs.Seen.{stacks_in, AreAtOnce, WereAtOnce}
use Rattle.seen_pairs.proofs.Lists.{none, some_at}
use Rattle.seen_pairs.proofs.Parts.{Changes, part_changes, seen_changes}

-- ---- the start: no stack has a function

start_stack : (code : Code) (s : SetupView) (k : ℕ) → stack_of (start_told code s k).thread ≡ []
start_stack code s zero = refl
start_stack code s (suc k) = refl

start_stacks : (code : Code) (s : SetupView) (k n : ℕ) → map (λ (told : Told). stack_of told.thread) (start_threads_from code s k n) ≡ replicate n []
start_stacks code s k zero = refl
start_stacks code s k (suc n) = ap (λ xs. xs ∷ map (λ (told : Told). stack_of told.thread) (start_threads_from code s (k + 1) n)) (start_stack code s k) ∙ ap (λ xs. [] ∷ xs) (start_stacks code s (k + 1) n)

empty_stack : (n t : ℕ) (xs : List ℕ) → slice_get (replicate n []) t ≡ Some xs → xs ≡ []
empty_stack zero t xs e = cc
empty_stack (suc n) zero xs e = cc
empty_stack (suc n) (suc t) xs e = empty_stack n t xs e

none_at_once : (n f g : ℕ) → AreAtOnce (replicate n []) f g → ⊥
none_at_once n f g a = none f (subst (λ xs. Contains xs f) (empty_stack n a.first a.first_stack a.first_is) a.on_first)

-- ---- lists

take_all : (xs ys : List Entry) → take (length xs) (xs ++ ys) ≡ xs
take_all [] ys = refl
take_all (x ∷ xs) ys = ap (λ zs. x ∷ zs) (take_all xs ys)

take_front : (xs ys : List Entry) (x : Entry) → take (length xs + 1) (xs ++ x ∷ ys) ≡ xs ++ x ∷ []
take_front [] ys x = refl
take_front (z ∷ xs) ys x = let next : length (z ∷ xs) + 1 ≡ suc (length xs + 1) = omega arith in ap (λ n. take n (z ∷ (xs ++ x ∷ ys))) next ∙ ap (λ zs. z ∷ zs) (take_front xs ys x)

module _ (code : Code) (s : SetupView) (es : List Entry) where
  -- the rest is still to be walked, and what was at work at once so far is noted
  pub record Along (rest : List Entry) (flows : List Running) (words : List ℕ) (reads : List (List Access)) (out : List ℕ) (stacks : List (List ℕ)) (noted : List (ℕ × ℕ)) : Type 0 where
    pub at : ℕ
    pub walked : Walked code s es no_reads at rest flows words reads out
    pub stacks_are : stacks ≡ stacks_in walked.state
    pub now : (f g : ℕ) → AreAtOnce stacks f g → IsNoted noted f g
    pub before : (f g k : ℕ) (st : State Told) → k < at → walk_of code s (take (k + 1) es) (start_state code s) ≡ Some st → AreAtOnce (stacks_in st) f g → IsNoted noted f g
    pub only : (f g : ℕ) → Contains noted (f, g) → WereAtOnce code s es f g

  front_is : (at : ℕ) (rest : List Entry) (flows : List Running) (words : List ℕ) (reads : List (List Access)) (out : List ℕ) (w : Walked code s es no_reads at rest flows words reads out) → take at es ≡ w.front
  front_is at rest flows words reads out w = ap (take at) w.split ∙ ap (λ n. take n (w.front ++ rest)) (sym w.count) ∙ take_all w.front rest

  -- the entries so far lead to the state
  leads : (at : ℕ) (rest : List Entry) (flows : List Running) (words : List ℕ) (reads : List (List Access)) (out : List ℕ) (w : Walked code s es no_reads at rest flows words reads out) → walk_of code s (take at es) (start_state code s) ≡ Some w.state
  leads at rest flows words reads out w = ap (λ z. walk_of code s z (start_state code s)) (front_is at rest flows words reads out w) ∙ w.walked

  pub along_start : (flows : List Running) (words : List ℕ) (reads : List (List Access)) (out : List ℕ) (stacks : List (List ℕ)) (noted : List (ℕ × ℕ)) → AreStarted code s flows → words ≡ start_words code s → reads ≡ replicate s.slots [] → stacks ≡ replicate s.slots [] → out ≡ [] → noted ≡ [] → Along es flows words reads out stacks noted
  along_start flows words reads out stacks noted started ws rs ss os ns =
      let w = walked_start code s es no_reads flows words reads started ws rs in
      let same : start_state code s ≡ w.state = same_Some (start_state code s) w.state (leads 0 es flows words reads [] w) in
      record {
        at = 0;
        walked = record { front = w.front; split = w.split; count = w.count; state = w.state; walked = w.walked; all = w.all; shown = w.shown; out_is = os ∙ w.out_is };
        stacks_are = ss ∙ sym (start_stacks code s 0 s.slots) ∙ ap stacks_in same;
        now = λ f g a. absurd (none_at_once s.slots f g (subst (λ zs. AreAtOnce zs f g) ss a));
        before = λ f g k st lt. absurd (omega arith);
        only = λ f g c. absurd (none (f, g) (subst (λ zs. Contains zs (f, g)) ns c));
      }

  noted_stays : (old new : List (ℕ × ℕ)) → ((f g : ℕ) → Contains old (f, g) → Contains new (f, g)) → (f g : ℕ) → IsNoted old f g → IsNoted new f g
  noted_stays old new h f g n = ⊎_elim (λ c. inl (h f g c)) (λ c. inr (h g f c)) n

  module _ (e : Entry) (rest : List Entry) (flows : List Running) (words : List ℕ) (reads : List (List Access)) (out : List ℕ) (stacks : List (List ℕ)) (noted : List (ℕ × ℕ)) (a : Along (e ∷ rest) flows words reads out stacks noted) where
    -- the entry's part is refused
    pub along_wrong : part (machine code s) e a.walked.state ≡ None → walk_of code s es (start_state code s) ≡ None
    along_wrong h =
        ap (λ z. walk_of code s z (start_state code s)) a.walked.split ∙ walk-append (machine code s) a.walked.front (e ∷ rest) (start_state code s)
        ∙ ap (option_and_then (walk_of code s (e ∷ rest))) a.walked.walked ∙ ap (option_and_then (walk_of code s rest)) h

    module _ (flows1 : List Running) (words1 : List ℕ) (reads1 : List (List Access)) (out1 : List ℕ) (all : RunAll code s 0 flows1) (p : PartStep code s no_reads e a.walked.state flows1 words1 reads1 out out1 true) where
      walked1 : Walked code s es no_reads (a.at + 1) rest flows1 words1 reads1 out1
      walked1 = walked_more code s es no_reads a.at flows words reads out e rest flows1 words1 reads1 out1 all a.walked p

      -- the stacks then
      pub stacks_then : (r : Running) → slice_get flows1 e.thread ≡ Some r → slice_set stacks e.thread (stack_of r.kept.thread) ≡ stacks_in p.2.next
      stacks_then r at =
          let told = stands no_reads flows1 words1 reads1 p.2.next e.thread r p.2.shown at in
          ap (λ zs. slice_set zs e.thread (stack_of r.kept.thread)) a.stacks_are
          ∙ ap (λ th. slice_set (stacks_in a.walked.state) e.thread (stack_of th)) (sym told.is)
          ∙ sym (seen_changes (machine code s) (λ (z : Told). stack_of z.thread) e.thread a.walked.state p.2.next told.told (part_changes (machine code s) e a.walked.state p.2.next p.2.parts) told.at)

      within : a.at < length es
      within = omega (arith, ap length a.walked.split ∙ length-append a.walked.front (e ∷ rest), a.walked.count)

      -- the walk up to this entry ends in the next state
      to_here : walk_of code s (take (a.at + 1) es) (start_state code s) ≡ Some p.2.next
      to_here =
          ap (λ n. walk_of code s (take (n + 1) es) (start_state code s)) (sym a.walked.count)
          ∙ ap (λ z. walk_of code s (take (length a.walked.front + 1) z) (start_state code s)) a.walked.split
          ∙ ap (λ z. walk_of code s z (start_state code s)) (take_front a.walked.front rest e)
          ∙ walk-append (machine code s) a.walked.front (e ∷ []) (start_state code s)
          ∙ ap (option_and_then (walk_of code s (e ∷ []))) a.walked.walked ∙ ap (option_and_then (walk_of code s [])) p.2.parts

      state_is : p.2.next ≡ walked1.state
      state_is = same_Some p.2.next walked1.state (sym to_here ∙ leads (a.at + 1) rest flows1 words1 reads1 out1 walked1)

      changes : Changes (machine code s) e.thread a.walked.state p.2.next
      changes = part_changes (machine code s) e a.walked.state p.2.next p.2.parts

      same_count : length p.2.next.threads ≡ length a.walked.state.threads
      same_count = ap length changes.threads ∙ length-set a.walked.state.threads e.thread changes.after

      flows_count : length flows1 ≡ length p.2.next.threads
      flows_count = sym (length-map flows1 running_thread) ∙ ap length p.2.shown.threads_are ∙ length-map p.2.next.threads told_thread

      -- the entry's thread is one of the threads
      pub is_thread : e.thread < length flows1
      is_thread = let lt = slice_get_within a.walked.state.threads e.thread changes.before changes.stands in omega (arith, same_count, flows_count)

      -- there is a stack for each thread
      pub stacks_count : length stacks ≡ length flows1
      stacks_count = ap length a.stacks_are ∙ length-map a.walked.state.threads (λ (told : Told). stack_of told.thread) ∙ sym same_count ∙ sym flows_count

      along_more : (stacks1 : List (List ℕ)) (noted1 : List (ℕ × ℕ)) → stacks1 ≡ stacks_in p.2.next → Follows stacks stacks1 noted noted1 → Along rest flows1 words1 reads1 out1 stacks1 noted1
      along_more stacks1 noted1 ss h = record { at = a.at + 1; walked = walked1; stacks_are = ss ∙ ap stacks_in state_is; now = now1; before = before1; only = only1 }
        where
          now1 : (f g : ℕ) → AreAtOnce stacks1 f g → IsNoted noted1 f g
          now1 f g x = ⊎_elim (λ old. noted_stays noted noted1 h.stays f g (a.now f g old)) (λ new. new) (h.noted f g x)

          before1 : (f g k : ℕ) (st : State Told) → k < a.at + 1 → walk_of code s (take (k + 1) es) (start_state code s) ≡ Some st → AreAtOnce (stacks_in st) f g → IsNoted noted1 f g
          before1 f g k st lt w x = ⊎_elim
              (λ (same : k ≡ a.at). now1 f g (subst (λ zs. AreAtOnce zs f g) (ap stacks_in (same_Some st p.2.next (sym w ∙ ap (λ n. walk_of code s (take (n + 1) es) (start_state code s)) same ∙ to_here)) ∙ sym ss) x))
              (λ (ne : k ≡ a.at → ⊥). noted_stays noted noted1 h.stays f g (a.before f g k st (omega (arith, ne)) w x))
              (cases_eq k a.at)

          only1 : (f g : ℕ) → Contains noted1 (f, g) → WereAtOnce code s es f g
          only1 f g c = ⊎_elim (λ old. a.only f g old) (λ x. record { at = a.at; within = within; state = p.2.next; walked = to_here; at_once = subst (λ zs. AreAtOnce zs f g) ss x }) (h.only f g c)

      -- the next entry
      pub along_next : (flows2 : List Running) (stacks1 : List (List ℕ)) (noted1 : List (ℕ × ℕ)) → flows2 ≡ flows1 → ((r : Running) → slice_get flows2 e.thread ≡ Some r → stacks1 ≡ slice_set stacks e.thread (stack_of r.kept.thread)) → Follows stacks stacks1 noted noted1 → Along rest flows1 words1 reads1 out1 stacks1 noted1
      along_next flows2 stacks1 noted1 same ss h =
          let r = some_at flows1 e.thread is_thread in
          along_more stacks1 noted1 (ss r.0 (ap (λ zs. slice_get zs e.thread) same ∙ r.1) ∙ stacks_then r.0 r.1) h

  -- all entries are walked
  pub along_all : (flows : List Running) (words : List ℕ) (reads : List (List Access)) (out : List ℕ) (stacks : List (List ℕ)) (noted : List (ℕ × ℕ)) → Along [] flows words reads out stacks noted → AreNoted code s es noted
  along_all flows words reads out stacks noted a =
      let all : es ≡ a.walked.front = a.walked.split ∙ append-nil a.walked.front in
      record {
        end = a.walked.state;
        walked = ap (λ z. walk_of code s z (start_state code s)) all ∙ a.walked.walked;
        all = λ f g w. let within = w.within in a.before f g w.at w.state (omega (arith, ap length all, a.walked.count)) w.walked w.at_once;
        only = a.only;
      }
