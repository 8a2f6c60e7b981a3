-- Whole threads: the code of a core tree makes the events of each of its threads.
use Rattle.std.proofs.Common.{◌≡◌, ℕ, zero, suc, ◌+◌, ◌≤◌, ◌<◌, inl, inr, Bool, true, false, cond, nat_le, ◌&&◌, ℤ, List, [], ◌∷◌, ◌++◌, length, map, Option, Some, None, option_map, slice_get, refl, sym, ◌∙◌, ap, subst, arith}
use mathlib.Core.Path.{fun_ext}
use Rattle.std.proofs.lemmas.List.{append-nil}
use Rattle.std.proofs.lemmas.Option.{slice_get-map}
use Rattle.std.proofs.lemmas.Bool.Decides.{nat_tests}
use Rattle.rr_base.proofs.Lists.{slice_get_inside}
use Rattle.sync_objects.specs.Setup.{SetupView}
use Rattle.sync_objects.specs.declared.object.ObjId.TheVariants as object_id
use Rattle.sync_objects.specs.declared.operation.Op.TheVariants as op
use Rattle.rr_base.specs.declared.trap.Trap.TheVariants as trap
use Rattle.flow_code.specs.declared.thread.Phase.{Phase}
use Rattle.flow_code.specs.declared.thread.Phase.TheVariants as phase
use Rattle.word_semantics.specs.declared.event.Due.{Due}
use Rattle.word_semantics.specs.declared.event.Due.TheVariants as due
use Rattle.word_semantics.specs.declared.event.Action.TheVariants as action
use Rattle.word_semantics.specs.Values.{word}
use Rattle.word_semantics.specs.Library.{count_in}
use Rattle.flow_code.specs.Threads.{Thread, line_of, line_of_function}
use Rattle.word_semantics.specs.Cells.{argument_cell}
use Rattle.flow_code.specs.Next.{due_of, action_of, action_at, stepped, listed, limited, owing, first_owed, phase_due, phase_after, after_due, one_more, or_else, enter_due, counted}
use Rattle.word_semantics.specs.Limits.{most_entries}
use Rattle.flow_code.specs.Next as next
use Rattle.flow_code.specs.Threads as threads
use Rattle.core_tree.specs.Core.{Function, Program}
use Rattle.core_tree.specs.Runs as runs
use Rattle.core_tree.specs.Runs.{Run, does, traps, ends, State}
use Rattle.core_tree.specs.Meaning as meaning
use Rattle.core_tree.specs.Meaning.{Callee, defined, pointed, callees, word_given, line_given, made_objects, main_of}
use Rattle.flow_lower.specs.Lowered.{lowered, function_code}
use Rattle.core_tree.specs.Within.{IsWithin}
use Rattle.lower_sound.specs.Follows.{Prints, Follows, here, IsAtStart}
use Rattle.lower_sound.proofs.Functions.{in_code, objects_here, fits_here, shows_entered, enter_follows, body_follows, function_within, callee_found, served}
use Rattle.lower_sound.proofs.Objects.{count_of_objects}
use Rattle.lower_sound.proofs.Ends.{finishes}

module _ (p : Program) (s : SetupView) (t : ℕ) (fine : IsWithin p) (pointerless : p.pointers ≡ []) where
  -- each number is that of a function, or of nothing
  abbrev callee_at : ℕ → Option Callee
  callee_at i = option_map defined (slice_get p.functions i)

  abbrev any_callee : ℕ → Option Callee
  any_callee i = slice_get (callees p) i

  all_callees : any_callee ≡ callee_at
  all_callees =
      fun_ext (λ i.
      ap (λ qs. slice_get (map defined p.functions ++ map pointed qs) i) pointerless
      ∙ ap (λ cs. slice_get cs i) (append-nil (map defined p.functions)) ∙ slice_get-map defined p.functions i)

  due_in : (m : Thread) (ph : Phase) → m.phase ≡ ph → m.stripes ≡ [] → due_of (lowered p) s t m ≡ listed (nat_le most_entries m.entries) (owing None (limited (nat_le s.limit m.count) (phase_due (lowered p) s t m ph)))
  due_in m ph is nothing =
      ap (λ x. listed (nat_le most_entries m.entries) (owing (first_owed x) (limited (nat_le s.limit m.count) (phase_due (lowered p) s t m m.phase)))) nothing
      ∙ ap (λ x. listed (nat_le most_entries m.entries) (owing None (limited (nat_le s.limit m.count) (phase_due (lowered p) s t m x)))) is

  after_mark : (m : Thread) (ph : Phase) (answer : ℤ) → m.phase ≡ ph → due_of (lowered p) s t m ≡ due.Mark → stepped (lowered p) s t m answer ≡ one_more (phase_after (lowered p) s t m ph answer)
  unfolding stepped
  after_mark m ph answer is e = ap (λ d. after_due (lowered p) s t m d answer) e ∙ ap (λ x. one_more (phase_after (lowered p) s t m x answer)) is

  -- a thread that is about to enter its first function
  enters : (i : ℕ) (f : Function) (is : slice_get p.functions i ≡ Some f) (ws : List ℕ) (m : Thread) (σ : State) (ph : Phase) → m.phase ≡ ph → m.stripes ≡ []
      → phase_due (lowered p) s t m ph ≡ enter_due (lowered p) s t m 0 i → ((answer : ℤ) → phase_after (lowered p) s t m ph answer ≡ next.entered (lowered p) s t m [] i ws) → line_of (lowered p) m.phase m.top ≡ f.place.line
      → m.count ≡ σ.count → m.arena ≡ σ.arena → m.printed ≡ σ.printed → σ.depth ≡ 0
      → Follows (lowered p) s t (meaning.first_function p s t (Some (defined f)) ws σ (λ u σ'. ends)) m
  enters i f is ws m σ ph in_phase nothing is_due is_after is_line count arena printed depth =
      enter_follows p s t i f is 0 m σ ws f.place.line (λ u σ1. meaning.body_of p s t (meaning.calls_of p s t s.limit) (defined f) σ1 (λ flow σ2. meaning.finish p s t (meaning.is_main f) (line_given f.place.line flow) (word_given flow) σ2 (λ u' σ3. ends)))
      (due_in m ph in_phase nothing ∙ ap (λ d. listed (nat_le most_entries m.entries) (owing None (limited (nat_le s.limit m.count) d))) is_due) is_line count arena depth (λ made fits low marks answer.
      let n1 = one_more (next.entered (lowered p) s t m [] i ws) in
      let is_arena = ap (λ o. or_else o m.arena) (fits_here p s t i f m.arena is ∙ ap (λ a. option_map (λ (x : List ℕ × ℕ). x.1) (made_objects p.sites (meaning.arena_end p s t) f.objects a)) arena ∙ ap (option_map (λ (x : List ℕ × ℕ). x.1)) fits) in
      let shows = shows_entered p s t i f is [] s.limit m σ ws made n1 fits refl refl refl nothing refl is_arena refl count arena printed depth low (omega arith) in
      subst (λ x. Follows (lowered p) s t (meaning.body_of p s t (meaning.calls_of p s t s.limit) (defined f) (meaning.entered σ ws made.0 made.1) (λ flow σ2. meaning.finish p s t (meaning.is_main f) (line_given f.place.line flow) (word_given flow) σ2 (λ u' σ3. ends))) x)
      (sym (after_mark m ph answer in_phase marks ∙ ap one_more (is_after answer)))
      (body_follows p s t i f is [] s.limit (meaning.calls_of p s t s.limit) (served p s t fine pointerless s.limit) (function_within p s t fine pointerless i f is) (λ flow σ2. meaning.finish p s t (meaning.is_main f) (line_given f.place.line flow) (word_given flow) σ2 (λ u' σ3. ends)) n1 (meaning.entered σ ws made.0 made.1)
      (ap length (objects_here p s t i f is) ∙ count_of_objects (length f.pointers) f.objects) shows (λ o fl σ' ret shown later.
      finishes p s t i f is s.limit o σ' (word_given fl) (line_given f.place.line fl) shown ret)))

  line_begun : (i : ℕ) (f : Function) → slice_get p.functions i ≡ Some f → line_of_function (slice_get (lowered p).functions i) ≡ f.place.line
  line_begun i f is = ap line_of_function (in_code p s t i f is)

  -- at a count below the limit
  low_count : (m : Thread) (b : Bool) → nat_le s.limit m.count ≡ b → b ≡ false → m.count < s.limit
  low_count m b e low = grind (arith, nat_tests)

  acts : (m : Thread) (d : Due) → due_of (lowered p) s t m ≡ d → action_at (lowered p) s t m ≡ action_of d
  unfolding action_at
  acts m d e = ap action_of e

  -- a load or a Mark
  plain : (m : Thread) (c line : ℕ) (d : Due) (more : ℤ → Run) → m.count ≡ c → line_of (lowered p) m.phase m.top ≡ line → due_of (lowered p) s t m ≡ listed (nat_le most_entries m.entries) (owing None (limited (nat_le s.limit m.count) d))
      → ((l b : Bool) → listed l (owing None (limited b d)) ≡ cond b (due.Trap trap.Limit) d) → Prints (lowered p) m (action_of d) [] → (m.count < s.limit → due_of (lowered p) s t m ≡ d → (answer : ℤ) → Follows (lowered p) s t (more answer) (stepped (lowered p) s t m answer))
      → Follows (lowered p) s t (cond (nat_le s.limit c && true) (traps trap.Limit line) (does (action_of d) [] more)) m
  plain m c line d more count is_line is_due passes none go =
      subst (λ b. Follows (lowered p) s t (cond b (traps trap.Limit line) (does (action_of d) [] more)) m) (sym (and_true (nat_le s.limit c) ∙ ap (nat_le s.limit) (sym count)))
      (by (nat_le s.limit m.count) (is_due ∙ passes (nat_le most_entries m.entries) (nat_le s.limit m.count)) refl)
    where
      and_true : (b : Bool) → (b && true) ≡ b
      and_true true = refl
      and_true false = refl

      by : (b : Bool) → due_of (lowered p) s t m ≡ cond b (due.Trap trap.Limit) d → nat_le s.limit m.count ≡ b → Follows (lowered p) s t (cond b (traps trap.Limit line) (does (action_of d) [] more)) m
      by true e is_b = (m, here, e, is_line)
      by false e is_b = (m, here, inr (acts m d e, none, go (low_count m false is_b refl) e))

  -- the thread begins
  begin_event : (m : Thread) (c : ℕ) (more : ℤ → Run) → m.count ≡ c → c < s.limit → due_of (lowered p) s t m ≡ listed (nat_le most_entries m.entries) (owing None (limited (nat_le s.limit m.count) (due.Operate op.Begin (object_id.Slot t))))
      → (due_of (lowered p) s t m ≡ due.Operate op.Begin (object_id.Slot t) → (answer : ℤ) → Follows (lowered p) s t (more answer) (stepped (lowered p) s t m answer))
      → Follows (lowered p) s t (cond (nat_le s.limit c && true) (traps trap.Limit 0) (does (action.Operate op.Begin (object_id.Slot t)) [] more)) m
  begin_event m c more count low is_due go =
      subst (λ b. Follows (lowered p) s t (cond (b && true) (traps trap.Limit 0) (does (action.Operate op.Begin (object_id.Slot t)) [] more)) m) (sym (is_low c low))
      (by (nat_le most_entries m.entries) refl (is_due ∙ ap (λ b. listed (nat_le most_entries m.entries) (owing None (limited b (due.Operate op.Begin (object_id.Slot t))))) (is_low m.count (omega (arith, count, low)))))
    where
      is_low : (n : ℕ) → n < s.limit → nat_le s.limit n ≡ false
      is_low n lt = grind (arith, nat_tests)

      by : (l : Bool) → nat_le most_entries m.entries ≡ l → due_of (lowered p) s t m ≡ listed l (due.Operate op.Begin (object_id.Slot t)) → Follows (lowered p) s t (does (action.Operate op.Begin (object_id.Slot t)) [] more) m
      by true is_l e = (m, here, inl (record { entry = refl; full = is_l; traps = e }))
      by false is_l e = (m, here, inr (acts m (due.Operate op.Begin (object_id.Slot t)) e, refl, go e))

  after_begin : (m : Thread) (answer : ℤ) → m.phase ≡ phase.Fresh → due_of (lowered p) s t m ≡ due.Operate op.Begin (object_id.Slot t) → stepped (lowered p) s t m answer ≡ counted op.Begin (record m { phase = phase.Begun (count_in answer) })
  unfolding stepped
  after_begin m answer is e = ap (λ d. after_due (lowered p) s t m d answer) e ∙ ap (λ x. counted op.Begin (phase_after (lowered p) s t m x answer)) is

  after_load : (m : Thread) (ph : Phase) (c : ℕ) (answer : ℤ) → m.phase ≡ ph → due_of (lowered p) s t m ≡ due.Load c → stepped (lowered p) s t m answer ≡ one_more (phase_after (lowered p) s t m ph answer)
  unfolding stepped
  after_load m ph c answer is e = ap (λ d. after_due (lowered p) s t m d answer) e ∙ ap (λ x. one_more (phase_after (lowered p) s t m x answer)) is

  load_passes : (c : ℕ) (l b : Bool) → listed l (owing None (limited b (due.Load c))) ≡ cond b (due.Trap trap.Limit) (due.Load c)
  load_passes c true true = refl
  load_passes c true false = refl
  load_passes c false true = refl
  load_passes c false false = refl

  -- the line of a function that a thread is about to enter
  same_line : (i : ℕ) → line_of_function (slice_get (lowered p).functions i) ≡ meaning.line_of_callee (callee_at i)
  same_line i = ap line_of_function (slice_get-map function_code p.functions i) ∙ by (slice_get p.functions i)
    where
      by : (o : Option Function) → line_of_function (option_map function_code o) ≡ meaning.line_of_callee (option_map defined o)
      by None = refl
      by (Some f) = refl

  -- where no such function is, only the Mark comes
  nowhere : (i w : ℕ) (m : Thread) (σ : State) → slice_get p.functions i ≡ None → m.phase ≡ phase.Loaded i w → m.stripes ≡ [] → m.count ≡ σ.count → Follows (lowered p) s t (meaning.first_function p s t None (w ∷ []) σ (λ u σ'. ends)) m
  nowhere i w m σ none in_phase nothing count =
      plain m σ.count 0 due.Mark (λ answer. ends) count (ap (λ x. line_of (lowered p) x m.top) in_phase ∙ ap line_of_function no_code)
      (due_in m (phase.Loaded i w) in_phase nothing ∙ marks) mark_passes refl
      (λ low e answer. subst (λ x. Follows (lowered p) s t ends x) (sym (after_mark m (phase.Loaded i w) answer in_phase e)) (ended, here, ended_due))
    where
      no_code : slice_get (lowered p).functions i ≡ None
      no_code = slice_get-map function_code p.functions i ∙ ap (option_map function_code) none

      -- at the limit the trap is the same, whatever would be due
      marks : listed (nat_le most_entries m.entries) (owing None (limited (nat_le s.limit m.count) (enter_due (lowered p) s t m 0 i))) ≡ listed (nat_le most_entries m.entries) (owing None (limited (nat_le s.limit m.count) due.Mark))
      marks =
          ap (λ o. listed (nat_le most_entries m.entries) (owing None (limited (nat_le s.limit m.count) (cond (nat_le s.limit m.count) (due.Trap trap.Limit) (next.mark_if (threads.fitted p.sites (threads.arena_end (lowered p) s t) (threads.objects_of (threads.instrs_in o)) m.arena)))))) no_code
          ∙ by (nat_le most_entries m.entries) (nat_le s.limit m.count)
        where
          by : (l b : Bool) → listed l (owing None (limited b (cond b (due.Trap trap.Limit) due.Mark))) ≡ listed l (owing None (limited b due.Mark))
          by true true = refl
          by true false = refl
          by false true = refl
          by false false = refl

      mark_passes : (l b : Bool) → listed l (owing None (limited b due.Mark)) ≡ cond b (due.Trap trap.Limit) due.Mark
      mark_passes true true = refl
      mark_passes true false = refl
      mark_passes false true = refl
      mark_passes false false = refl

      ended : Thread
      ended = one_more (next.entered (lowered p) s t m [] i (w ∷ []))

      ended_due : due_of (lowered p) s t ended ≡ due.Nothing
      ended_due =
          due_in ended phase.Running refl nothing
          ∙ ap (λ o. listed (nat_le most_entries ended.entries) (owing None (limited (nat_le s.limit ended.count) (next.act_due (lowered p) s t ended (next.act_in (threads.instr_in o ended.top.instr)))))) no_code
          ∙ nothing_passes (nat_le most_entries ended.entries) (nat_le s.limit ended.count)
        where
          nothing_passes : (l b : Bool) → listed l (owing None (limited b due.Nothing)) ≡ due.Nothing
          nothing_passes true true = refl
          nothing_passes true false = refl
          nothing_passes false true = refl
          nothing_passes false false = refl

  -- a thread with its argument enters its function
  loaded : (i w : ℕ) (m : Thread) (σ : State) → m.phase ≡ phase.Loaded i w → m.stripes ≡ [] → m.count ≡ σ.count → m.arena ≡ σ.arena → m.printed ≡ σ.printed → σ.depth ≡ 0
      → Follows (lowered p) s t (meaning.first_function p s t (callee_at i) (w ∷ []) σ (λ u σ'. ends)) m
  loaded i w m σ in_phase nothing count arena printed depth = by (slice_get p.functions i) refl
    where
      by : (o : Option Function) → slice_get p.functions i ≡ o → Follows (lowered p) s t (meaning.first_function p s t (option_map defined o) (w ∷ []) σ (λ u σ'. ends)) m
      by None e = nowhere i w m σ e in_phase nothing count
      by (Some f) e =
          enters i f e (w ∷ []) m σ (phase.Loaded i w) in_phase nothing refl (λ answer. refl) (ap (λ x. line_of (lowered p) x m.top) in_phase ∙ line_begun i f e) count arena printed depth

  -- a thread that has begun loads its argument
  begun : (k i : ℕ) (m : Thread) (σ : State) → t ≡ suc k → m.phase ≡ phase.Begun i → m.stripes ≡ [] → m.count ≡ σ.count → m.arena ≡ σ.arena → m.printed ≡ σ.printed → σ.depth ≡ 0
      → Follows (lowered p) s t (runs.event s.limit (meaning.line_of_callee (callee_at i)) (action.Load (argument_cell t)) σ (λ w σ'. meaning.first_function p s t (callee_at i) (word w ∷ []) σ' (λ u σ''. ends))) m
  begun k i m σ other in_phase nothing count arena printed depth =
      plain m σ.count (meaning.line_of_callee (callee_at i)) (due.Load (argument_cell t)) (λ w. meaning.first_function p s t (callee_at i) (word w ∷ []) (runs.counted σ) (λ u σ''. ends)) count
      (ap (λ x. line_of (lowered p) x m.top) in_phase ∙ same_line i)
      (due_in m (phase.Begun i) in_phase nothing ∙ ap (λ d. listed (nat_le most_entries m.entries) (owing None (limited (nat_le s.limit m.count) d))) (loads t other)) (load_passes (argument_cell t)) refl (λ low e answer.
      subst (λ x. Follows (lowered p) s t (meaning.first_function p s t (callee_at i) (word answer ∷ []) (runs.counted σ) (λ u σ''. ends)) x) (sym (after_load m (phase.Begun i) (argument_cell t) answer in_phase e ∙ ap one_more (goes_on t other answer)))
      (loaded i (word answer) (one_more (record m { phase = phase.Loaded i (word answer) })) (runs.counted σ) refl nothing (ap (λ c. c + 1) count) arena printed depth))
    where
      loads : (t' : ℕ) → t' ≡ suc k → next.begun_due (lowered p) s t' m i ≡ due.Load (argument_cell t')
      loads zero e = absurd (omega (arith, e))
      loads (suc n) e = refl

      goes_on : (t' : ℕ) → t' ≡ suc k → (answer : ℤ) → next.begun_after (lowered p) s t' m i answer ≡ record m { phase = phase.Loaded i (word answer) }
      goes_on zero e answer = absurd (omega (arith, e))
      goes_on (suc n) e answer = refl

-- thread 0 enters `main`
main_follows : (p : Program) (s : SetupView) (fine : IsWithin p) (none : p.pointers ≡ []) (m : Thread) → IsAtStart p s 0 m → Follows (lowered p) s 0 (meaning.run_of p s 0) m
main_follows p s fine none m h =
    let found = slice_get_inside p.functions (main_of p) fine.main in
    let line = ap (λ x. line_of (lowered p) x m.top) h.phase ∙ line_begun p s 0 fine none (main_of p) found.0 found.1 in
    subst (λ o. Follows (lowered p) s 0 (meaning.first_function p s 0 o [] (meaning.start p s 0) (λ u σ'. ends)) m) (sym (callee_found p s 0 (main_of p) found.0 found.1))
    (enters p s 0 fine none (main_of p) found.0 found.1 [] m (meaning.start p s 0) (phase.Begun (main_of p)) h.phase h.stripes refl (λ answer. refl) line h.count h.arena h.printed refl)

-- what a thread does that is started with a function, as a number tells what it calls
abbrev thread_run : (p : Program) (s : SetupView) (t : ℕ) → (ℕ → Option Callee) → ℤ → State → Run
thread_run p s t at f σ = runs.event s.limit (meaning.line_of_callee (at (count_in f))) (action.Load (argument_cell t)) σ (λ w σ'. meaning.first_function p s t (at (count_in f)) (word w ∷ []) σ' (λ u σ''. ends))

-- any other thread begins when it is started
other_follows : (p : Program) (s : SetupView) (k : ℕ) (fine : IsWithin p) (none : p.pointers ≡ []) (m : Thread) → 1 ≤ s.limit → IsAtStart p s (suc k) m → Follows (lowered p) s (suc k) (meaning.run_of p s (suc k)) m
other_follows p s k fine none m some h =
    subst (λ at. Follows (lowered p) s (suc k) (runs.event s.limit 0 (action.Operate op.Begin (object_id.Slot (suc k))) (meaning.start p s (suc k)) (thread_run p s (suc k) at)) m) (sym (all_callees p s (suc k) fine none))
    (begin_event p s (suc k) fine none m 0 (λ f. thread_run p s (suc k) (callee_at p s (suc k) fine none) f (runs.counted (meaning.start p s (suc k))))
    h.count (omega (arith, some)) (due_in p s (suc k) fine none m phase.Fresh h.phase h.stripes) (λ e answer.
    subst (λ x. Follows (lowered p) s (suc k) (thread_run p s (suc k) (callee_at p s (suc k) fine none) answer (runs.counted (meaning.start p s (suc k)))) x)
    (sym (after_begin p s (suc k) fine none m answer h.phase e))
    (begun p s (suc k) fine none k (count_in answer) (counted op.Begin (record m { phase = phase.Begun (count_in answer) })) (runs.counted (meaning.start p s (suc k))) refl refl h.stripes (ap (λ c. c + 1) h.count) h.arena h.printed refl)))

-- each thread of the code makes the events of the tree's thread
pub follows : (p : Program) (s : SetupView) (t : ℕ) (m : Thread) → IsWithin p → p.pointers ≡ [] → 1 ≤ s.limit → IsAtStart p s t m → Follows (lowered p) s t (meaning.run_of p s t) m
follows p s zero m fine none some h = main_follows p s fine none m h
follows p s (suc k) m fine none some h = other_follows p s k fine none m some h
