-- The walk between two entries, and its end.
use Rattle.std.proofs.Common.{◌≡◌, ℕ, zero, suc, ◌+◌, ◌≤◌, ◌^◌, ◌-◌, Bool, true, false, List, [], ◌∷◌, ◌++◌, length, map, take, drop, Option, Some, None, refl, sym, ap, ◌∙◌, subst, arith, append_assoc}
use Rattle.std.specs.Prelude.{slice_get, replicate, ◌&&◌}
use Rattle.std.specs.Option.{option_and_then}
use Rattle.std.specs.List.{filter_map, flat_map}
use Rattle.std.proofs.lemmas.List.{append-nil, length-append, length-map}
use Rattle.std.proofs.lemmas.Option.{same_Some}
use Rattle.sync_objects.specs.Setup.{SetupView, IsWithinLimits}
use Rattle.sync_objects.specs.declared.entry.Entry.{Entry}
use Rattle.flow_code.specs.declared.code.Code.{Code}
use Rattle.flow_code.specs.Settle.{IsRunnable}
use Rattle.flow_code.specs.Next.{has_ended}
use Rattle.thread_interpreter.specs.declared.access.Access.{Access}
use Rattle.thread_interpreter.specs.declared.access.Formula.{Formula}
use Rattle.thread_interpreter.specs.declared.outcome.Ending.{Ending}
use Rattle.core_run.specs.declared.outcome.Walk.{Walk}
use Rattle.core_run.specs.declared.outcome.Walk.TheVariants as walk_case
use Rattle.thread_interpreter.specs.Endings.{ending_of, trap_of}
use Rattle.thread_interpreter.specs.Flows.{Running}
use Rattle.core_run.specs.Kept.{IsKept}
use Rattle.core_run.specs.Machine.{Told, machine, start_state, start_threads_from}
use Rattle.core_run.specs.Parts.{AreUsable}
use Rattle.core_run.specs.Walks.{kept_reads, printed_between, walk_of, out_of, out_on, IsWhole, IsRefusedAt, IsUnfinished, Shows, WalkIs, first_trap, trap_or}
use Rattle.core_run.specs.Words.{cells_of, start_words}
use Rattle.core_run.specs.Shown.{running_thread, told_thread, RunAll, IsShown, PartStep, AreStarted, all_ended, endings, trap_from, ShownAs}
use Rattle.core_run.proofs.Beginnings.{length-start_words}
use Rattle.core_run.proofs.Reached.{kept}
use Rattle.core_run.proofs.SoundWords.{sound_more}
use Rattle.run_theory.specs.Steps.{State, Reaches}
use Rattle.run_theory.specs.Walk.{part, IsSoloRun}
use Rattle.run_theory.proofs.Solo.{solo_of_walk, walk-append}
use Rattle.run_theory.proofs.Kept.{reaches_more, reaches_step}

-- ---- states along a walk can be reached

pub reaches_solo : (code : Code) (s : SetupView) (es : List Entry) (s0 s1 s2 : State Told) → Reaches (machine code s) s0 s1 → IsSoloRun (machine code s) es s1 s2 → Reaches (machine code s) s0 s2
reaches_solo code s [] s0 s1 s2 r h = subst (Reaches (machine code s) s0) h r
reaches_solo code s (e ∷ es) s0 s1 s2 r h =
    let p = h.1 in
    reaches_solo code s es s0 h.0 s2 (reaches_step (machine code s) s0 p.between h.0 p.last (reaches_more (machine code s) s0 s1 p.between r (p.before, p.leads)) p.ends) h.2

-- ---- the walk between two entries

-- the entries before the rest are walked, and this is shown of the state after them
pub record Walked (code : Code) (s : SetupView) (es : List Entry) (f : Formula) (at : ℕ) (rest : List Entry) (flows : List Running) (words : List ℕ) (reads : List (List Access)) (out : List ℕ) : Type 0 where
  pub front : List Entry
  pub split : es ≡ front ++ rest
  pub count : length front ≡ at
  pub state : State Told
  pub walked : walk_of code s front (start_state code s) ≡ Some state
  pub all : RunAll code s 0 flows
  pub shown : IsShown f flows words reads state
  pub out_is : out ≡ out_of code s front (start_state code s)

no_reads : (code : Code) (s : SetupView) (f : Formula) (k n : ℕ) → replicate n [] ≡ map (kept_reads f) (start_threads_from code s k n)
no_reads code s f k zero = refl
no_reads code s f k (suc n) = ap (λ z. [] ∷ z) (no_reads code s f (k + 1) n)

pub walked_start : (code : Code) (s : SetupView) (es : List Entry) (f : Formula) (flows : List Running) (words : List ℕ) (reads : List (List Access)) → AreStarted code s flows → words ≡ start_words code s → reads ≡ replicate s.slots [] → Walked code s es f 0 es flows words reads []
walked_start code s es f flows words reads started ws rs = record {
  front = [];
  split = refl;
  count = refl;
  state = start_state code s;
  walked = refl;
  all = started.all;
  shown = record { words_are = ws; threads_are = started.threads; reads_are = rs ∙ no_reads code s f 0 s.slots };
  out_is = refl;
}

-- the walk and its bytes after one entry more
walk_push : (code : Code) (s : SetupView) (es : List Entry) (e : Entry) (s0 : State Told) (st : State Told) → walk_of code s es s0 ≡ Some st → walk_of code s (es ++ e ∷ []) s0 ≡ option_and_then (walk_of code s []) (part (machine code s) e st)
walk_push code s es e s0 st h = walk-append (machine code s) es (e ∷ []) s0 ∙ ap (option_and_then (walk_of code s (e ∷ []))) h

out_push : (code : Code) (s : SetupView) (es : List Entry) (e : Entry) (s0 st next : State Told) → walk_of code s es s0 ≡ Some st → part (machine code s) e st ≡ Some next → out_of code s (es ++ e ∷ []) s0 ≡ out_of code s es s0 ++ printed_between e.thread st next
out_push code s [] e s0 st next h p =
    let is : s0 ≡ st = same_Some _ _ h in
    subst (λ z. out_of code s (e ∷ []) z ≡ printed_between e.thread st next) (sym is) (ap (out_on code s (out_of code s []) e st) p ∙ append-nil _)
out_push code s (x ∷ es) e s0 st next h p = go (part (machine code s) x s0) (λ m q. out_push code s es e m st next q p) h
  where
    go : (o : Option (State Told)) → ((m : State Told) → walk_of code s es m ≡ Some st → out_of code s (es ++ e ∷ []) m ≡ out_of code s es m ++ printed_between e.thread st next) → option_and_then (walk_of code s es) o ≡ Some st → out_on code s (out_of code s (es ++ e ∷ [])) x s0 o ≡ out_on code s (out_of code s es) x s0 o ++ printed_between e.thread st next
    go None again q = cc
    go (Some m) again q = ap (λ z. printed_between x.thread s0 m ++ z) (again m q) ∙ sym (append_assoc (printed_between x.thread s0 m) (out_of code s es m) (printed_between e.thread st next))

module _ (code : Code) (s : SetupView) (es : List Entry) (f : Formula) (at : ℕ) (flows : List Running) (words : List ℕ) (reads : List (List Access)) (out : List ℕ) where
  pub walked_more : (e : Entry) (rest : List Entry) (flows1 : List Running) (words1 : List ℕ) (reads1 : List (List Access)) (out1 : List ℕ) → RunAll code s 0 flows1 → (w : Walked code s es f at (e ∷ rest) flows words reads out) → PartStep code s f e w.state flows1 words1 reads1 out out1 true → Walked code s es f (at + 1) rest flows1 words1 reads1 out1
  walked_more e rest flows1 words1 reads1 out1 all w p = record {
    front = w.front ++ e ∷ [];
    split = w.split ∙ sym (append_assoc w.front (e ∷ []) rest);
    count = length-append w.front (e ∷ []) ∙ omega (arith, w.count);
    state = p.2.next;
    walked = walk_push code s w.front e (start_state code s) w.state w.walked ∙ ap (option_and_then (walk_of code s [])) p.2.parts;
    all = all;
    shown = p.2.shown;
    out_is = p.1 ∙ ap (λ z. z ++ p.0) w.out_is ∙ ap (λ z. out_of code s w.front (start_state code s) ++ z) p.2.prints ∙ sym (out_push code s w.front e (start_state code s) w.state p.2.next w.walked p.2.parts);
  }

  front_is : (rest : List Entry) (w : Walked code s es f at rest flows words reads out) → take at es ≡ w.front
  front_is rest w = ap (take at) w.split ∙ ap (λ n. take n (w.front ++ rest)) (sym w.count) ∙ take_front w.front rest
    where
      take_front : (xs ys : List Entry) → take (length xs) (xs ++ ys) ≡ xs
      take_front [] ys = refl
      take_front (x ∷ xs) ys = ap (λ z. x ∷ z) (take_front xs ys)

  pub walked_wrong : (e : Entry) (rest : List Entry) → (w : Walked code s es f at (e ∷ rest) flows words reads out) → part (machine code s) e w.state ≡ None → IsRefusedAt code s (start_state code s) es at
  walked_wrong e rest w p = record {
    within = omega (arith, ap length w.split ∙ length-append w.front (e ∷ rest), w.count);
    before = w.state;
    front = ap (λ z. walk_of code s z (start_state code s)) (front_is (e ∷ rest) w) ∙ w.walked;
    refused = ap (λ z. walk_of code s z (start_state code s)) longer ∙ walk_push code s w.front e (start_state code s) w.state w.walked ∙ ap (option_and_then (walk_of code s [])) p;
  }
    where
      take_next : (xs ys : List Entry) → take (suc (length xs)) (xs ++ e ∷ ys) ≡ xs ++ e ∷ []
      take_next [] ys = refl
      take_next (x ∷ xs) ys = ap (λ z. x ∷ z) (take_next xs ys)

      longer : take (at + 1) es ≡ w.front ++ e ∷ []
      longer = let next : at + 1 ≡ suc (length w.front) = omega (arith, w.count) in ap (take (at + 1)) w.split ∙ ap (λ n. take n (w.front ++ e ∷ rest)) next ∙ take_next w.front rest

  pub walked_kept : (rest : List Entry) → IsRunnable code → IsWithinLimits s → (w : Walked code s es f at rest flows words reads out) → IsKept code s w.state
  walked_kept rest runnable limits w = kept code s runnable limits w.state (reaches_solo code s w.front (start_state code s) (start_state code s) w.state ([], refl) (solo_of_walk (machine code s) w.front (start_state code s) w.state w.walked))

  pub walked_usable : (rest : List Entry) → IsRunnable code → IsWithinLimits s → Walked code s es f at rest flows words reads out → AreUsable code s words
  walked_usable rest runnable limits w = subst (AreUsable code s) (sym w.shown.words_are) (sound_more code s (2 ^ 25) (2 ^ 32 - 2) w.state.words (omega arith) (walked_kept rest runnable limits w).sound)

  pub walked_threads : (rest : List Entry) → IsRunnable code → IsWithinLimits s → Walked code s es f at rest flows words reads out → length flows ≡ s.slots
  walked_threads rest runnable limits w = sym (length-map flows running_thread) ∙ ap length w.shown.threads_are ∙ length-map w.state.threads told_thread ∙ (walked_kept rest runnable limits w).threads

  pub walked_reads : (rest : List Entry) → IsRunnable code → IsWithinLimits s → Walked code s es f at rest flows words reads out → length reads ≡ length flows
  walked_reads rest runnable limits w = ap length w.shown.reads_are ∙ length-map w.state.threads (kept_reads f) ∙ sym (length-map w.state.threads told_thread) ∙ ap length (sym w.shown.threads_are) ∙ length-map flows running_thread

  walked_words : (rest : List Entry) → IsRunnable code → IsWithinLimits s → Walked code s es f at rest flows words reads out → length words ≡ length (start_words code s)
  walked_words rest runnable limits w = ap length w.shown.words_are ∙ (walked_kept rest runnable limits w).words

  pub walked_len : (rest : List Entry) → IsRunnable code → IsWithinLimits s → Walked code s es f at rest flows words reads out → cells_of code s ≤ length words
  walked_len rest runnable limits w = omega (arith, walked_words rest runnable limits w, length-start_words code s)

-- the rest begins with the next entry
pub rest_is : (es : List Entry) (at : ℕ) (e : Entry) → slice_get es at ≡ Some e → drop at es ≡ e ∷ drop (at + 1) es
rest_is [] at e h = cc
rest_is (x ∷ es) zero e h = ap (λ z. z ∷ es) (same_Some _ _ h)
rest_is (x ∷ es) (suc at) e h = let next : suc at + 1 ≡ suc (at + 1) = omega arith in rest_is es at e h ∙ ap (λ n. e ∷ drop n (x ∷ es)) (sym next)

pub no_rest : (es : List Entry) (at : ℕ) → length es ≤ at → drop at es ≡ []
no_rest [] zero h = refl
no_rest [] (suc at) h = refl
no_rest (x ∷ es) zero h = absurd (omega arith)
no_rest (x ∷ es) (suc at) h = no_rest es at (omega arith)

pub walked_as : (code : Code) (s : SetupView) (es : List Entry) (f : Formula) (at : ℕ) (rest rest1 : List Entry) (flows : List Running) (words : List ℕ) (reads : List (List Access)) (out : List ℕ) → rest ≡ rest1 → Walked code s es f at rest flows words reads out → Walked code s es f at rest1 flows words reads out
walked_as code s es f at rest rest1 flows words reads out e w = record { front = w.front; split = w.split ∙ ap (λ z. w.front ++ z) e; count = w.count; state = w.state; walked = w.walked; all = w.all; shown = w.shown; out_is = w.out_is }

-- ---- the end

head_same : (r : Running) (rs : List Running) (x : Told) (ts : List Told) → map running_thread (r ∷ rs) ≡ map told_thread (x ∷ ts) → (r.kept.thread ≡ x.thread) × (map running_thread rs ≡ map told_thread ts)
head_same r rs x ts e = (cc e, cc e)

both_true : (a b : Bool) → a && b ≡ true → (a ≡ true) × (b ≡ true)
both_true true b h = (refl, h)
both_true false b h = cc

pub ended_at : (rs : List Running) (ts : List Told) → map running_thread rs ≡ map told_thread ts → all_ended rs ≡ true → (t : ℕ) (th : Told) → slice_get ts t ≡ Some th → has_ended th.thread.phase ≡ true
ended_at [] [] e h t th g = cc
ended_at [] (x ∷ ts) e h t th g = cc
ended_at (r ∷ rs) [] e h t th g = cc
ended_at (r ∷ rs) (x ∷ ts) e h zero th g = let is : x ≡ th = same_Some _ _ g in subst (λ (z : Told). has_ended z.thread.phase ≡ true) is (subst (λ z. has_ended z.phase ≡ true) (head_same r rs x ts e).0 (both_true (has_ended r.kept.thread.phase) (all_ended rs) h).0)
ended_at (r ∷ rs) (x ∷ ts) e h (suc t) th g = ended_at rs ts (head_same r rs x ts e).1 (both_true (has_ended r.kept.thread.phase) (all_ended rs) h).1 t th g

all_true : (a b : Bool) → a ≡ true → b ≡ true → a && b ≡ true
all_true a b h k = ap (λ z. z && b) h ∙ k

pub ended_all : (rs : List Running) (ts : List Told) → map running_thread rs ≡ map told_thread ts → ((t : ℕ) (th : Told) → slice_get ts t ≡ Some th → has_ended th.thread.phase ≡ true) → all_ended rs ≡ true
ended_all [] ts e h = refl
ended_all (r ∷ rs) [] e h = cc
ended_all (r ∷ rs) (x ∷ ts) e h = all_true (has_ended r.kept.thread.phase) (all_ended rs) (ap (λ z. has_ended z.phase) (head_same r rs x ts e).0 ∙ h 0 x refl) (ended_all rs ts (head_same r rs x ts e).1 (λ t th g. h (suc t) th g))

pub endings_are : (rs : List Running) (ts : List Told) → map running_thread rs ≡ map told_thread ts → endings rs ≡ filter_map (λ (told : Told). ending_of told.thread.phase) ts
endings_are [] [] e = refl
endings_are [] (x ∷ ts) e = cc
endings_are (r ∷ rs) [] e = cc
endings_are (r ∷ rs) (x ∷ ts) e = go (ending_of r.kept.thread.phase) (ending_of x.thread.phase) (ap (λ z. ending_of z.phase) (head_same r rs x ts e).0) (endings_are rs ts (head_same r rs x ts e).1)
  where
    go : (a b : Option Ending) → a ≡ b → endings rs ≡ filter_map (λ (told : Told). ending_of told.thread.phase) ts → endings (r ∷ rs) ≡ filter_map (λ (told : Told). ending_of told.thread.phase) (x ∷ ts)
    go a b q k = cc ((ap (λ z. ending_of z.phase) (head_same r rs x ts e).0), k)

pub trap_is : (t : ℕ) (rs : List Running) (ts : List Told) → map running_thread rs ≡ map told_thread ts → trap_from t rs ≡ first_trap t ts
trap_is t [] [] e = refl
trap_is t [] (x ∷ ts) e = cc
trap_is t (r ∷ rs) [] e = cc
trap_is t (r ∷ rs) (x ∷ ts) e = ap (λ z. trap_or t (trap_of z.phase) (trap_from (t + 1) rs)) (head_same r rs x ts e).0 ∙ ap (trap_or t (trap_of x.thread.phase)) (trap_is (t + 1) rs ts (head_same r rs x ts e).1)

pub reads_are : (f : Formula) (ts : List Told) → flat_map (λ xs. xs) (map (kept_reads f) ts) ≡ flat_map (kept_reads f) ts
reads_are f [] = refl
reads_are f (x ∷ ts) = ap (λ z. kept_reads f x ++ z) (reads_are f ts)

module _ (code : Code) (s : SetupView) (es : List Entry) (f : Formula) (at : ℕ) (flows : List Running) (words : List ℕ) (reads : List (List Access)) (out : List ℕ) (w : Walked code s es f at [] flows words reads out) where
  all_is : es ≡ w.front
  all_is = w.split ∙ append-nil w.front

  walked_all : walk_of code s es (start_state code s) ≡ Some w.state
  walked_all = ap (λ z. walk_of code s z (start_state code s)) all_is ∙ w.walked

  pub walked_unfinished : all_ended flows ≡ false → IsUnfinished code s (start_state code s) es at
  walked_unfinished h = record {
    all = sym w.count ∙ ap length (sym all_is);
    last = w.state;
    walked = walked_all;
    open_end = λ ended. let clash : true ≡ false = sym (ended_all flows w.state.threads w.shown.threads_are ended) ∙ h in cc clash;
  }

  whole : all_ended flows ≡ true → IsWhole code s (start_state code s) es w.state
  whole h = record { walked = walked_all; ended = ended_at flows w.state.threads w.shown.threads_are h }

  shows : all_ended flows ≡ true → (o : List ℕ) (r : List Access) (e : List Ending) → o ≡ out → r ≡ flat_map (λ xs. xs) reads → e ≡ endings flows → Shows code s (start_state code s) es f w.state o r e
  shows h o r e a b c = record {
    whole = whole h;
    out_is = a ∙ w.out_is ∙ ap (λ z. out_of code s z (start_state code s)) (sym all_is);
    reads_are = b ∙ ap (flat_map (λ xs. xs)) w.shown.reads_are ∙ reads_are f w.state.threads;
    ends_are = c ∙ endings_are flows w.state.threads w.shown.threads_are;
  }

  pub walked_done : all_ended flows ≡ true → (x : Walk) → ShownAs flows reads out x → WalkIs code s es f x
  walked_done h (walk_case.Done o r e) q = (w.state, shows h o r e q.0 q.1 q.2, sym (trap_is 0 flows w.state.threads w.shown.threads_are) ∙ q.3)
  walked_done h (walk_case.Trapped kind thread line o r e) q = (w.state, shows h o r e q.0 q.1 q.2, sym (trap_is 0 flows w.state.threads w.shown.threads_are) ∙ q.3)
  walked_done h (walk_case.Wrong k) q = absurd q
