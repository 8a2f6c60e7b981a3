-- Functions: their entry, their body and their end.
use Rattle.std.proofs.Common.{◌≡◌, ℕ, zero, suc, ◌+◌, ◌-◌, ◌≤◌, ◌<◌, inr, Bool, true, false, cond, nat_le, nat_eq, ℤ, pos, List, [], ◌∷◌, ◌++◌, length, map, replicate, take, Option, Some, None, option_map, slice_get, slice_index_or, refl, sym, ◌∙◌, ap, subst, arith, length-append}
use Rattle.std.proofs.Math.Seq.{take-append_seam}
use Rattle.std.proofs.lemmas.List.{length-replicate, get_or_append_left}
use Rattle.std.proofs.lemmas.Option.{slice_get-map}
use Rattle.std.proofs.lemmas.Bool.Decides.{nat_tests}
use Rattle.rr_base.proofs.Lists.{slice_get-append_at, slice_get-append_found, slice_get_inside}
use Rattle.sync_objects.specs.Setup.{SetupView}
use Rattle.rr_base.specs.declared.trap.Trap.{Trap}
use Rattle.rr_base.specs.declared.trap.Trap.TheVariants as trap
use Rattle.flow_code.specs.declared.act.Act.{Act}
use Rattle.flow_code.specs.declared.act.Act.TheVariants as act
use Rattle.flow_code.specs.declared.thread.Phase.TheVariants as phase
use Rattle.word_semantics.specs.declared.event.Due.TheVariants as due
use Rattle.word_semantics.specs.declared.event.Action.TheVariants as action
use Rattle.word_semantics.specs.Registers.{register}
use Rattle.flow_code.specs.Threads.{Frame, Thread, instrs_in, registers_in, objects_in, objects_of, fitted, placed, with_arguments, first_frame, arena_end, line_of, is_main}
use Rattle.flow_code.specs.Next.{past, given, in_frame, act_at, act_due, act_after, due_of, action_at, stepped, listed, limited, owing, first_owed, phase_due, phase_after, after_due, one_more, one_made, enter_due, mark_if, or_else, value_of, back_in, result_of}
use Rattle.word_semantics.specs.Limits.{most_entries, most_frames}
use Rattle.word_semantics.specs.Registers.{words_of}
use Rattle.word_semantics.specs.Cells.{access_kind}
use Rattle.flow_code.specs.Next as next
use Rattle.core_tree.specs.Core.{Arrival, arrives, Function, Program}
use Rattle.core_tree.specs.Runs.{Run, State, M, counted}
use Rattle.core_tree.specs.Meaning as meaning
use Rattle.core_tree.specs.Meaning.{Calls, Completion, goes, breaks, continues, returns, word_given, line_given, made_objects, listed_word, left, defined, pointed, callees}
use Rattle.flow_lower.specs.Lowered.{body_kept, one, lowered, function_code, function_kinds, body_code, statement_kinds, arrivals_code}
use Rattle.core_tree.specs.Within.{IsWithin, IsWithinFunction, AreWithinArrivals}
use Rattle.lower_sound.specs.Follows.{Follows, here}
use Rattle.lower_sound.proofs.Machine.{Shows, by_quiet}
use Rattle.lower_sound.proofs.Places.{HasAt, has_front, first_of, start_of, body_at, end_at, statement_part, from_arrivals, has_arrivals, has_body, has_end, has_kinds}
use Rattle.lower_sound.proofs.Events.{by_store}
use Rattle.lower_sound.proofs.Arriving.{shows_counted, shows_past}
use Rattle.lower_sound.proofs.Calling.{Returns, Serves}
use Rattle.lower_sound.proofs.Loops.{ReturnsHere, Lands}
use Rattle.lower_sound.proofs.Keeping.{meaning_kept}
use Rattle.lower_sound.proofs.Statements.{statement_leads}
use Rattle.lower_sound.proofs.Objects.{statement_begins, arrivals_begin, objects_from, objects_are, count_of_objects, fitted_same, placed_length, placed_below, made_addresses, placed_at, arguments_length, arguments_are}

pub its_objects : (f : Function) → objects_of (body_code f) ≡ objects_from (first_of f) f.objects
its_objects f =
    objects_are f.place (first_of f) f.objects (from_arrivals f)
    (arrivals_begin (first_of f) f.arrivals _ (statement_begins (first_of f) (body_kept f) (first_of f + length f.objects) (body_at f) (end_at f) (end_at f) (one f.place (act.Return None)) refl))

pub enough_registers : (f : Function) → first_of f + length f.objects ≤ length (function_kinds f)
enough_registers f = omega (arith, length-append f.pointers (replicate (length f.objects) true ++ statement_kinds (body_kept f)), length-append (replicate (length f.objects) true) (statement_kinds (body_kept f)), length-replicate (length f.objects) true)

-- ---- the body of a function

module _ (p : Program) (s : SetupView) (t : ℕ) (i : ℕ) (f : Function) (is : slice_get p.functions i ≡ Some f) (callers : List Frame) (budget : ℕ) (calls : Calls) (serves : Serves p s t calls budget) (within : IsWithinFunction (length p.functions) f) where
  -- the formals that are kept in cells are stored
  arrivals_follow : (arrivals : List Arrival) (pc : ℕ) → HasAt (body_code f) pc (arrivals_code (length f.pointers) arrivals) → AreWithinArrivals (length f.pointers) (length f.objects) arrivals → (k : Unit {0} → State → Run) (m : Thread) (σ : State)
      → m.top.instr ≡ pc → Shows p s t i f is callers budget m σ
      → ((n : Thread) (σ' : State) → n.top.instr ≡ pc + length arrivals → Shows p s t i f is callers budget n σ' → m.count ≤ n.count → Follows (lowered p) s t (k tt σ') n)
      → Follows (lowered p) s t (meaning.stored p s t f.pointers arrivals σ k) m
  arrivals_follow [] pc code w k m σ e h go = go m σ (e ∙ omega arith) h (omega arith)
  arrivals_follow (arrives n j at ∷ more) pc code w k m σ e h go =
      by_store p s t i f is callers budget m σ at (length f.pointers + j) n (σ.objects j) (σ.registers n) (access_kind (slice_index_or f.pointers n false)) (λ u σ'. meaning.stored p s t f.pointers more σ' k) h
      (ap (slice_get (body_code f)) e ∙ code.0) (h.objects j w.1) (h.registers n w.0) (ap access_kind (get_or_append_left f.pointers (replicate (length f.objects) true ++ statement_kinds (body_kept f)) false n w.0)) (λ low.
      arrivals_follow more (pc + 1) code.1 w.2 k (one_more (in_frame m (past m.top))) (counted σ) (ap (λ z. z + 1) e) (shows_counted p s t i f is callers budget (in_frame m (past m.top)) σ low (shows_past p s t i f is callers budget m σ h))
      (λ o σ' place shows later. go o σ' (place ∙ omega arith) shows (omega (arith, later))))

  -- where the body ends the thread returns
  ends_here : (m o : Thread) (σ : State) (fl : Completion) → Lands p s t i f is callers budget m o σ fl (end_at f) (end_at f) (end_at f) → ReturnsHere p s t i f is callers budget o (word_given fl) (line_given f.place.line fl)
  ends_here m o σ goes x = record { at = f.place; value = None; stands = ap (slice_get (body_code f)) x.reached ∙ has_end f; gives = refl; same_line = refl }
  ends_here m o σ breaks x = record { at = f.place; value = None; stands = ap (slice_get (body_code f)) x.reached ∙ has_end f; gives = refl; same_line = refl }
  ends_here m o σ continues x = record { at = f.place; value = None; stands = ap (slice_get (body_code f)) x.reached ∙ has_end f; gives = refl; same_line = refl }
  ends_here m o σ (returns w line) x = x.reached

  pub body_follows : (k : Completion → State → Run) (m : Thread) (σ : State) → m.top.instr ≡ start_of f → Shows p s t i f is callers budget m σ
      → ((o : Thread) (fl : Completion) (σ' : State) → ReturnsHere p s t i f is callers budget o (word_given fl) (line_given f.place.line fl) → Shows p s t i f is callers budget o σ' → m.count ≤ o.count → Follows (lowered p) s t (k fl σ') o)
      → Follows (lowered p) s t (meaning.body_of p s t calls (defined f) σ k) m
  body_follows k m σ e h go =
      arrivals_follow f.arrivals (start_of f) (has_front (body_code f) (start_of f) (arrivals_code (length f.pointers) f.arrivals) _ (has_arrivals f)) within.0 _ m σ e h (λ n σ' place shows later.
      subst (λ (body : M Completion). Follows (lowered p) s t (body σ' k) n) (meaning_kept p s t calls f.body)
      (statement_leads p s t i f is callers budget calls serves f.body within.1 (length f.pointers + length f.objects) (body_at f) (end_at f) (end_at f)
      (has_front (body_code f) (body_at f) (statement_part f) _ (has_body f)) (has_kinds f) (omega arith) k n σ' place shows (λ o fl σ'' x.
      go o fl σ'' (ends_here n o σ'' fl (record { reached = x.reached; shows = x.shows; later = x.later })) x.shows (omega (arith, later, x.later)))))

-- ---- the entry of a function

module _ (p : Program) (s : SetupView) (t : ℕ) where
  pub in_code : (i : ℕ) (f : Function) → slice_get p.functions i ≡ Some f → slice_get (lowered p).functions i ≡ Some (function_code f)
  in_code i f is = slice_get-map function_code p.functions i ∙ ap (option_map function_code) is

  pub objects_here : (i : ℕ) (f : Function) → slice_get p.functions i ≡ Some f → objects_in (lowered p) i ≡ objects_from (length f.pointers) f.objects
  objects_here i f is = ap (λ o. objects_of (instrs_in o)) (in_code i f is) ∙ its_objects f

  -- whether the objects fit, and the next free cell
  pub fits_here : (i : ℕ) (f : Function) (at : ℕ) → slice_get p.functions i ≡ Some f → fitted p.sites (arena_end (lowered p) s t) (objects_in (lowered p) i) at ≡ option_map (λ m. m.1) (made_objects p.sites (meaning.arena_end p s t) f.objects at)
  fits_here i f at is = ap (λ os. fitted p.sites (arena_end (lowered p) s t) os at) (objects_here i f is) ∙ fitted_same p.sites (arena_end (lowered p) s t) (length f.pointers) f.objects at

  -- the thread in the first frame of a function shows the state in which the function is entered
  pub shows_entered : (i : ℕ) (f : Function) (is : slice_get p.functions i ≡ Some f) (callers : List Frame) (budget : ℕ) (m : Thread) (σ : State) (ws : List ℕ) (made : List ℕ × ℕ) (n : Thread) → made_objects p.sites (meaning.arena_end p s t) f.objects σ.arena ≡ Some made
      → n.top ≡ first_frame (lowered p) i ws m.arena → n.phase ≡ phase.Running → n.below ≡ callers → n.stripes ≡ [] → n.count ≡ m.count + 1 → n.arena ≡ made.1 → n.printed ≡ m.printed
      → m.count ≡ σ.count → m.arena ≡ σ.arena → m.printed ≡ σ.printed → σ.depth ≡ length callers → m.count < s.limit → s.limit ≤ m.count + 1 + budget
      → Shows p s t i f is callers budget n (meaning.entered σ ws made.0 made.1)
  shows_entered i f is callers budget m σ ws made n fits top phase' below stripes count arena printed count' arena' printed' depth low enough =
      let frame = top ∙ ap (λ a. first_frame (lowered p) i ws a) arena' in
      let regs : n.top.registers ≡ placed p.sites (objects_from (length f.pointers) f.objects) σ.arena (with_arguments (length (function_kinds f)) ws) =
      ap (λ x. x.registers) frame ∙ ap (λ os. placed p.sites os σ.arena (with_arguments (registers_in (slice_get (lowered p).functions i)) ws)) (objects_here i f is) ∙ ap (λ o. placed p.sites (objects_from (length f.pointers) f.objects) σ.arena (with_arguments (registers_in o) ws)) (in_code i f is) in
      record {
        function = ap (λ x. x.function) top;
        made = ap (λ x. x.made) top;
        kept = ap (λ x. x.kept) top;
        phase = phase';
        below = below;
        stripes = stripes;
        size = ap length regs ∙ placed_length p.sites (objects_from (length f.pointers) f.objects) σ.arena (with_arguments (length (function_kinds f)) ws) ∙ arguments_length (length (function_kinds f)) ws;
        registers = λ q lt. ap (λ r. register r q) regs ∙ placed_below p.sites f.objects (length f.pointers) σ.arena q (with_arguments (length (function_kinds f)) ws) lt ∙ arguments_are (length (function_kinds f)) ws q (omega (arith, lt, enough_registers f));
        objects = λ q lt. ap (λ r. register r (length f.pointers + q)) regs ∙ placed_at p.sites f.objects (length f.pointers) σ.arena q (with_arguments (length (function_kinds f)) ws) lt (omega (arith, arguments_length (length (function_kinds f)) ws, enough_registers f))
            ∙ ap (λ l. listed_word l q) (sym (made_addresses p.sites (meaning.arena_end p s t) f.objects σ.arena made fits));
        count = count ∙ ap (λ z. z + 1) count';
        arena = arena;
        printed = printed ∙ printed';
        depth = ap (λ z. z + 1) depth;
        small = omega (arith, count, low);
        enough = omega (arith, count, enough);
      }

  is_mark : (m : Thread) → due_of (lowered p) s t m ≡ due.Mark → action_at (lowered p) s t m ≡ action.Mark
  unfolding action_at
  is_mark m e = ap next.action_of e

  -- the Mark with which a function is entered, or the trap that stands in its place
  pub enter_follows : (i : ℕ) (f : Function) (is : slice_get p.functions i ≡ Some f) (frames : ℕ) (m : Thread) (σ : State) (ws : List ℕ) (line : ℕ) (K : Unit {0} → State → Run)
      → due_of (lowered p) s t m ≡ listed (nat_le most_entries m.entries) (owing None (limited (nat_le s.limit m.count) (enter_due (lowered p) s t m frames i))) → line_of (lowered p) m.phase m.top ≡ line
      → m.count ≡ σ.count → m.arena ≡ σ.arena → σ.depth ≡ frames
      → ((made : List ℕ × ℕ) → made_objects p.sites (meaning.arena_end p s t) f.objects σ.arena ≡ Some made → m.count < s.limit → due_of (lowered p) s t m ≡ due.Mark → (answer : ℤ) → Follows (lowered p) s t (K tt (meaning.entered σ ws made.0 made.1)) (stepped (lowered p) s t m answer))
      → Follows (lowered p) s t (meaning.enter p s t (defined f) ws line σ K) m
  enter_follows i f is frames m σ ws line K is_due is_line count arena depth go =
      subst (λ c. Follows (lowered p) s t (cond (nat_le s.limit c) (Run.traps trap.Limit line) (cond (nat_le most_frames σ.depth) (Run.traps trap.Depth line) (meaning.enter_made p s t ws line (made_objects p.sites (meaning.arena_end p s t) f.objects σ.arena) σ K))) m) count
      (subst (λ d. Follows (lowered p) s t (cond (nat_le s.limit m.count) (Run.traps trap.Limit line) (cond (nat_le most_frames d) (Run.traps trap.Depth line) (meaning.enter_made p s t ws line (made_objects p.sites (meaning.arena_end p s t) f.objects σ.arena) σ K))) m) (sym depth)
      (by (nat_le s.limit m.count) (nat_le most_frames frames) (made_objects p.sites (meaning.arena_end p s t) f.objects σ.arena) refl refl refl))
    where
      passes : (l b : Bool) (kind : Trap) → listed l (owing None (limited b (due.Trap kind))) ≡ due.Trap kind
      passes true true kind = refl
      passes true false kind = refl
      passes false true kind = refl
      passes false false kind = refl

      mark_passes : (l : Bool) → listed l (owing None (limited false due.Mark)) ≡ due.Mark
      mark_passes true = refl
      mark_passes false = refl

      fits : fitted p.sites (arena_end (lowered p) s t) (objects_in (lowered p) i) m.arena ≡ option_map (λ m. m.1) (made_objects p.sites (meaning.arena_end p s t) f.objects σ.arena)
      fits = fits_here i f m.arena is ∙ ap (λ a. option_map (λ (m : List ℕ × ℕ). m.1) (made_objects p.sites (meaning.arena_end p s t) f.objects a)) arena

      by : (b d : Bool) (o : Option (List ℕ × ℕ)) → nat_le s.limit m.count ≡ b → nat_le most_frames frames ≡ d → made_objects p.sites (meaning.arena_end p s t) f.objects σ.arena ≡ o
          → Follows (lowered p) s t (cond b (Run.traps trap.Limit line) (cond d (Run.traps trap.Depth line) (meaning.enter_made p s t ws line o σ K))) m
      by true d o is_b is_d is_o = (
        m,
        here,
        is_due ∙ ap (λ b. listed (nat_le most_entries m.entries) (owing None (limited (nat_le s.limit m.count) (cond b (due.Trap trap.Limit) (cond (nat_le most_frames frames) (due.Trap trap.Depth) (mark_if (fitted p.sites (arena_end (lowered p) s t) (objects_in (lowered p) i) m.arena))))))) is_b
            ∙ passes (nat_le most_entries m.entries) (nat_le s.limit m.count) trap.Limit,
        is_line,
      )
      by false true o is_b is_d is_o = (
        m,
        here,
        is_due ∙ ap (λ b. listed (nat_le most_entries m.entries) (owing None (limited (nat_le s.limit m.count) (cond b (due.Trap trap.Limit) (cond (nat_le most_frames frames) (due.Trap trap.Depth) (mark_if (fitted p.sites (arena_end (lowered p) s t) (objects_in (lowered p) i) m.arena))))))) is_b
            ∙ ap (λ d. listed (nat_le most_entries m.entries) (owing None (limited (nat_le s.limit m.count) (cond d (due.Trap trap.Depth) (mark_if (fitted p.sites (arena_end (lowered p) s t) (objects_in (lowered p) i) m.arena)))))) is_d
            ∙ passes (nat_le most_entries m.entries) (nat_le s.limit m.count) trap.Depth,
        is_line,
      )
      by false false None is_b is_d is_o = (
        m,
        here,
        is_due ∙ ap (λ b. listed (nat_le most_entries m.entries) (owing None (limited (nat_le s.limit m.count) (cond b (due.Trap trap.Limit) (cond (nat_le most_frames frames) (due.Trap trap.Depth) (mark_if (fitted p.sites (arena_end (lowered p) s t) (objects_in (lowered p) i) m.arena))))))) is_b
            ∙ ap (λ d. listed (nat_le most_entries m.entries) (owing None (limited (nat_le s.limit m.count) (cond d (due.Trap trap.Depth) (mark_if (fitted p.sites (arena_end (lowered p) s t) (objects_in (lowered p) i) m.arena)))))) is_d
            ∙ ap (λ o. listed (nat_le most_entries m.entries) (owing None (limited (nat_le s.limit m.count) (mark_if o)))) (fits ∙ ap (option_map (λ (m : List ℕ × ℕ). m.1)) is_o)
            ∙ passes (nat_le most_entries m.entries) (nat_le s.limit m.count) trap.ArenaFull,
        is_line,
      )
      by false false (Some made) is_b is_d is_o =
          let marks = is_due ∙ ap (λ b. listed (nat_le most_entries m.entries) (owing None (limited (nat_le s.limit m.count) (cond b (due.Trap trap.Limit) (cond (nat_le most_frames frames) (due.Trap trap.Depth) (mark_if (fitted p.sites (arena_end (lowered p) s t) (objects_in (lowered p) i) m.arena))))))) is_b
          ∙ ap (λ d. listed (nat_le most_entries m.entries) (owing None (limited (nat_le s.limit m.count) (cond d (due.Trap trap.Depth) (mark_if (fitted p.sites (arena_end (lowered p) s t) (objects_in (lowered p) i) m.arena)))))) is_d
          ∙ ap (λ o. listed (nat_le most_entries m.entries) (owing None (limited (nat_le s.limit m.count) (mark_if o)))) (fits ∙ ap (option_map (λ (m : List ℕ × ℕ). m.1)) is_o)
          ∙ ap (λ b. listed (nat_le most_entries m.entries) (owing None (limited b due.Mark))) is_b
          ∙ mark_passes (nat_le most_entries m.entries) in
          (m, here, inr (is_mark m marks, refl, λ answer. go made is_o (grind (arith, nat_tests)) marks answer))

  -- what is due at an instruction of a thread that runs and owes nothing
  due_running : (m : Thread) (a : Act) → m.phase ≡ phase.Running → m.stripes ≡ [] → act_at (lowered p) m.top ≡ Some a
      → due_of (lowered p) s t m ≡ listed (nat_le most_entries m.entries) (owing None (limited (nat_le s.limit m.count) (act_due (lowered p) s t m (Some a))))
  due_running m a running nothing stands =
      ap (λ x. listed (nat_le most_entries m.entries) (owing (first_owed x) (limited (nat_le s.limit m.count) (phase_due (lowered p) s t m m.phase)))) nothing
      ∙ ap (λ x. listed (nat_le most_entries m.entries) (owing None (limited (nat_le s.limit m.count) (phase_due (lowered p) s t m x)))) running
      ∙ ap (λ x. listed (nat_le most_entries m.entries) (owing None (limited (nat_le s.limit m.count) (act_due (lowered p) s t m x)))) stands

  after_call : (m : Thread) (g : ℕ) (arguments : List ℕ) (into : Option ℕ) (answer : ℤ) → m.phase ≡ phase.Running → act_at (lowered p) m.top ≡ Some (act.Call g arguments into) → due_of (lowered p) s t m ≡ due.Mark
      → stepped (lowered p) s t m answer ≡ one_more (next.entered (lowered p) s t m (m.below ++ one_made m.top (pos 0) ∷ []) g (words_of m.top.registers arguments))
  unfolding stepped
  after_call m g arguments into answer running stands marks =
      ap (λ d. after_due (lowered p) s t m d answer) marks ∙ ap (λ x. one_more (phase_after (lowered p) s t m x answer)) running ∙ ap (λ x. one_more (act_after (lowered p) s t m x answer)) stands

  -- no call more may be made
  serves_none : Serves p s t (meaning.calls_of p s t 0) 0
  serves_none g into arguments line m σ k there stands is_line running nothing count arena printed depth small enough go = (
    m,
    here,
    due_running m (act.Call g arguments (Some into)) running nothing stands
        ∙ ap (λ b. listed (nat_le most_entries m.entries) (owing None (limited b (cond b (due.Trap trap.Limit) (cond (nat_le most_frames (length m.below + 1)) (due.Trap trap.Depth) (mark_if (fitted p.sites (arena_end (lowered p) s t) (objects_in (lowered p) g) m.arena))))))) full
        ∙ passes (nat_le most_entries m.entries),
    is_line,
  )
    where
      full : nat_le s.limit m.count ≡ true
      full = at_most (omega (arith, enough))
        where
          at_most : s.limit ≤ m.count → nat_le s.limit m.count ≡ true
          at_most le = grind (arith, nat_tests)

      passes : (l : Bool) → listed l (owing None (limited true (due.Trap trap.Limit))) ≡ due.Trap trap.Limit
      passes true = refl
      passes false = refl

  -- the caller goes on after its call
  resumes : (g : ℕ) (f : Function) (is : slice_get p.functions g ≡ Some f) (budget : ℕ) (m o : Thread) (σ' : State) (into w line : ℕ) (arguments : List ℕ) (r : Run) → act_at (lowered p) m.top ≡ Some (act.Call g arguments (Some into))
      → Shows p s t g f is (m.below ++ one_made m.top (pos 0) ∷ []) budget o σ' → ReturnsHere p s t g f is (m.below ++ one_made m.top (pos 0) ∷ []) budget o w line
      → Follows (lowered p) s t r (record o { top = past (given m.top (Some into) w); below = m.below }) → Follows (lowered p) s t r o
  resumes g f is budget m o σ' into w line arguments r stands h ret go =
      by_quiet p s t g f is callers budget r o resumed σ' ret.at (act.Return ret.value) h ret.stands quiet after go
    where
      callers : List Frame
      callers = m.below ++ one_made m.top (pos 0) ∷ []

      resumed : Thread
      resumed = record o { top = past (given m.top (Some into) w); below = m.below }

      some_caller : nat_eq (length callers) 0 ≡ false
      some_caller = not_none (length callers) (omega (arith, length-append m.below (one_made m.top (pos 0) ∷ [])))
        where
          not_none : (n : ℕ) → 1 ≤ n → nat_eq n 0 ≡ false
          not_none n le = grind (arith, nat_tests)

      v : ℕ
      v = value_of o.top.registers ret.value

      main : Bool
      main = is_main (lowered p) o.top.function

      quiet : act_due (lowered p) s t o (Some (act.Return ret.value)) ≡ due.Quiet
      quiet = ap (λ b. cond (nat_eq (length b) 0) (next.end_due main t o.top.made v) due.Quiet) h.below ∙ ap (λ b. cond b (next.end_due main t o.top.made v) due.Quiet) some_caller

      one_less : length callers - 1 ≡ length m.below
      one_less = omega (arith, length-append m.below (one_made m.top (pos 0) ∷ []))

      last : slice_get callers (length callers - 1) ≡ Some (one_made m.top (pos 0))
      last = ap (slice_get callers) one_less ∙ slice_get-append_at m.below (one_made m.top (pos 0)) [] (length m.below) refl

      front : take (length callers - 1) callers ≡ m.below
      front = ap (λ n. take n callers) one_less ∙ take-append_seam m.below (one_made m.top (pos 0) ∷ [])

      after : act_after (lowered p) s t o (Some (act.Return ret.value)) (pos 0) ≡ resumed
      after =
          ap (λ b. cond (nat_eq (length b) 0) (next.end_onward main o o.top.made) (back_in (lowered p) (record o { below = b }) v (slice_get b (length b - 1)))) h.below
          ∙ ap (λ b. cond b (next.end_onward main o o.top.made) (back_in (lowered p) (record o { below = callers }) v (slice_get callers (length callers - 1)))) some_caller
          ∙ ap (back_in (lowered p) (record o { below = callers }) v) last
          ∙ ap (λ b. record o { top = past (given (one_made m.top (pos 0)) (result_of (act_at (lowered p) m.top)) v); below = b }) front
          ∙ ap (λ a. record o { top = past (given (one_made m.top (pos 0)) (result_of a) v); below = m.below }) stands
          ∙ ap (λ x. record o { top = past (given m.top (Some into) x); below = m.below }) ret.gives

  -- in a program without pointers to functions each call is one of a function
  pub function_within : IsWithin p → p.pointers ≡ [] → (i : ℕ) (f : Function) → slice_get p.functions i ≡ Some f → IsWithinFunction (length p.functions) f
  function_within fine none i f is = subst (λ n. IsWithinFunction n f) (omega (arith, ap length none)) (fine.functions i f is)

  pub callee_found : (i : ℕ) (f : Function) → slice_get p.functions i ≡ Some f → slice_get (callees p) i ≡ Some (defined f)
  callee_found i f is = slice_get-append_found (map defined p.functions) (map pointed p.pointers) i (defined f) (slice_get-map defined p.functions i ∙ ap (option_map defined) is)

  module _ (fine : IsWithin p) (pointerless : p.pointers ≡ []) where
    -- one call more, with what so many calls do
    serves_at : (n : ℕ) → Serves p s t (meaning.calls_of p s t n) n → (g : ℕ) (f : Function) (is : slice_get p.functions g ≡ Some f) (into : ℕ) (arguments : List ℕ) (line : ℕ) (m : Thread) (σ : State) (k : ℕ → State → Run)
        → act_at (lowered p) m.top ≡ Some (act.Call g arguments (Some into)) → line_of (lowered p) m.phase m.top ≡ line
        → m.phase ≡ phase.Running → m.stripes ≡ [] → m.count ≡ σ.count → m.arena ≡ σ.arena → m.printed ≡ σ.printed → σ.depth ≡ length m.below + 1 → m.count ≤ s.limit → s.limit ≤ m.count + suc n
        → ((v : ℕ) (o : Thread) (σ' : State) → Returns s.limit (suc n) m o σ σ' into v → Follows (lowered p) s t (k v σ') o)
        → Follows (lowered p) s t (meaning.called p s t (meaning.calls_of p s t n) (Some (defined f)) (words_of m.top.registers arguments) line σ k) m
    serves_at n serves g f is into arguments line m σ k stands is_line running nothing count arena printed depth small enough go =
        enter_follows g f is (length m.below + 1) m σ ws line (λ u σ1. meaning.body_of p s t (meaning.calls_of p s t n) (defined f) σ1 (λ flow inner. k (word_given flow) (left σ inner)))
        (due_running m (act.Call g arguments (Some into)) running nothing stands) is_line count arena depth (λ made fits low marks answer.
        let inside = next.entered (lowered p) s t m callers g ws in
        let n1 = one_more inside in
        let is_arena = ap (λ o. or_else o m.arena) (fits_here g f m.arena is ∙ ap (λ a. option_map (λ (x : List ℕ × ℕ). x.1) (made_objects p.sites (meaning.arena_end p s t) f.objects a)) arena ∙ ap (option_map (λ (x : List ℕ × ℕ). x.1)) fits) in
        let shows = shows_entered g f is callers n m σ ws made n1 fits refl refl refl nothing refl is_arena refl count arena printed (depth ∙ sym (length-append m.below (one_made m.top (pos 0) ∷ []))) low (omega (arith, enough)) in
        subst (λ x. Follows (lowered p) s t (meaning.body_of p s t (meaning.calls_of p s t n) (defined f) (meaning.entered σ ws made.0 made.1) (λ flow inner. k (word_given flow) (left σ inner))) x) (sym (after_call m g arguments (Some into) answer running stands marks))
        (body_follows p s t g f is callers n (meaning.calls_of p s t n) serves (function_within fine pointerless g f is) (λ flow inner. k (word_given flow) (left σ inner)) n1 (meaning.entered σ ws made.0 made.1)
        (ap length (objects_here g f is) ∙ count_of_objects (length f.pointers) f.objects) shows (λ o fl σ' ret shown later.
        resumes g f is n m o σ' into (word_given fl) (line_given f.place.line fl) arguments _ stands shown ret
        (go (word_given fl) (record o { top = past (given m.top (Some into) (word_given fl)); below = m.below }) (left σ σ') (record {
          top = refl;
          phase = shown.phase;
          below = refl;
          stripes = shown.stripes;
          registers = λ q. refl;
          objects = λ q. refl;
          count = shown.count;
          arena = shown.arena;
          printed = shown.printed;
          depth = refl;
          small = shown.small;
          later = omega (arith, later);
        })))))
      where
        ws : List ℕ
        ws = words_of m.top.registers arguments

        callers : List Frame
        callers = m.below ++ one_made m.top (pos 0) ∷ []

    serves_more : (n : ℕ) → Serves p s t (meaning.calls_of p s t n) n → Serves p s t (meaning.calls_of p s t (suc n)) (suc n)
    serves_more n serves g into arguments line m σ k there stands is_line running nothing count arena printed depth small enough go =
        let found = slice_get_inside p.functions g there in
        subst (λ o. Follows (lowered p) s t (meaning.called p s t (meaning.calls_of p s t n) o (words_of m.top.registers arguments) line σ k) m) (sym (callee_found g found.0 found.1))
        (serves_at n serves g found.0 found.1 into arguments line m σ k stands is_line running nothing count arena printed depth small enough go)

    pub served : (n : ℕ) → Serves p s t (meaning.calls_of p s t n) n
    served zero = serves_none
    served (suc n) = serves_more n (served n)
