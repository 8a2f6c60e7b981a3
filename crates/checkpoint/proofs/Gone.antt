-- A walk from a state, between two of its entries, and what it comes to.
use Rattle.std.proofs.Common.{◌≡◌, ℕ, zero, suc, ◌+◌, ◌-◌, ◌*◌, ◌^◌, ◌<◌, ◌≤◌, ⊎_elim, ◌⊎◌, inl, inr, true, false, List, [], ◌∷◌, ◌++◌, length, map, take, drop, replicate, Option, Some, None, refl, sym, ap, subst, ◌∙◌, arith, append_assoc, append-nil, length-append, length-drop}
use Rattle.std.specs.Prelude.{slice_get, option_and_then}
use Rattle.std.proofs.lemmas.List.{length-map, length-take-le}
use Rattle.std.proofs.lemmas.Option.{same_Some, slice_get_within}
use Rattle.rr_base.proofs.Lists.{slice_get-append_at, slice_get-take}
use Rattle.sync_objects.specs.Setup.{SetupView, IsWithinLimits}
use Rattle.sync_objects.specs.declared.entry.Entry.{Entry}
use Rattle.flow_code.specs.declared.code.Code.{Code}
use Rattle.flow_code.specs.Settle.{IsRunnable}
use Rattle.thread_interpreter.specs.declared.access.Access.{Access}
use Rattle.thread_interpreter.specs.declared.access.Formula.{Formula}
use Rattle.thread_interpreter.specs.Flows.{Running}
use Rattle.core_run.specs.Kept.{AreSound, most_operations}
use Rattle.core_run.specs.Machine.{Told, machine}
use Rattle.core_run.specs.Outside.{IsOutside}
use Rattle.core_run.specs.Parts.{AreUsable}
use Rattle.core_run.specs.Shown.{running_thread, told_thread, RunAll, IsShown, PartEndIs}
use Rattle.core_run.specs.Walks.{kept_reads, printed_between, walk_of, out_of, out_on, IsRefusedAt}
use Rattle.core_run.specs.Words.{cells_of, start_words}
use Rattle.core_run.specs.declared.outcome.PartEnd.{PartEnd}
use Rattle.core_run.specs.declared.outcome.PartEnd.TheVariants as end
use Rattle.core_run.proofs.Beginnings.{length-start_words}
use Rattle.core_run.proofs.WalkLoop.{rest_is, no_rest}
use Rattle.core_run.proofs.SoundWords.{sound_more}
use Rattle.run_theory.specs.Steps.{State}
use Rattle.run_theory.specs.Walk.{part}
use Rattle.run_theory.proofs.Solo.{walk-append}
use Rattle.checkpoint.specs.Going.{no_reads, few_walked, fresh_told, standing, LacksCell, LacksNone, IsAllWalked}
use Rattle.checkpoint.proofs.Rest.{less_or, never_refused, take_within}
use Rattle.checkpoint.proofs.Sounding.{Sounds, part_sounds}

threads_show : (flows : List Running) → map running_thread flows ≡ map told_thread (map (λ (r : Running). fresh_told r.kept.thread) flows)
threads_show [] = refl
threads_show (r ∷ rs) = ap (λ z. r.kept.thread ∷ z) (threads_show rs)

reads_show : (n : ℕ) (flows : List Running) → length flows ≡ n → replicate n [] ≡ map (kept_reads no_reads) (map (λ (r : Running). fresh_told r.kept.thread) flows)
reads_show zero [] e = refl
reads_show zero (r ∷ rs) e = absurd (omega (arith, e))
reads_show (suc n) [] e = absurd (omega (arith, e))
reads_show (suc n) (r ∷ rs) e = ap (λ z. [] ∷ z) (reads_show n rs (omega (arith, e)))

take_front : (xs ys : List Entry) → take (length xs) (xs ++ ys) ≡ xs
take_front [] ys = refl
take_front (x ∷ xs) ys = ap (λ z. x ∷ z) (take_front xs ys)

-- ---- a stretch of entries

pub stretch_few : (es : List Entry) (first last : ℕ) → first ≤ last → last ≤ length es → length es ≤ few_walked → first + length (drop first (take last es)) ≤ few_walked
stretch_few es first last order within few = omega (arith, order, within, few, length-drop first (take last es), length-take-le last es within)

-- the next entry of it
pub next_is : (es : List Entry) (at last : ℕ) (e : Entry) → at < last → slice_get es at ≡ Some e → drop at (take last es) ≡ e ∷ drop (at + 1) (take last es)
next_is es at last e lt h = rest_is (take last es) at e (slice_get-take last es at lt ∙ h)

-- the end of it
pub none_left : (es : List Entry) (at last : ℕ) → last ≤ length es → last ≤ at → drop at (take last es) ≡ []
none_left es at last within le = no_rest (take last es) at (omega (arith, le, within, length-take-le last es within))

-- what an entry's part comes to, where no access is asked for
pub part_told : (code : Code) (s : SetupView) (f : Formula) (e : Entry) (flows flows1 : List Running) (words words1 : List ℕ) (reads reads1 : List (List Access)) (out out1 : List ℕ) (x y : PartEnd) → f ≡ no_reads → x ≡ y → ((st : State Told) → IsShown f flows words reads st → PartEndIs code s f e st flows1 words1 reads1 out out1 x) → (st : State Told) → IsShown no_reads flows words reads st → PartEndIs code s no_reads e st flows1 words1 reads1 out out1 y
part_told code s f e flows flows1 words words1 reads reads1 out out1 x y a b h st shown =
    subst (λ g. PartEndIs code s g e st flows1 words1 reads1 out out1 y) a (subst (PartEndIs code s f e st flows1 words1 reads1 out out1) b (h st (subst (λ g. IsShown g flows words reads st) (sym a) shown)))

module _ (code : Code) (s : SetupView) where
  -- the walk and its bytes after one entry more
  walk_push : (es : List Entry) (e : Entry) (s0 st : State Told) → walk_of code s es s0 ≡ Some st → walk_of code s (es ++ e ∷ []) s0 ≡ option_and_then (walk_of code s []) (part (machine code s) e st)
  walk_push es e s0 st h = walk-append (machine code s) es (e ∷ []) s0 ∙ ap (option_and_then (walk_of code s (e ∷ []))) h

  out_push : (es : List Entry) (e : Entry) (s0 st next : State Told) → walk_of code s es s0 ≡ Some st → part (machine code s) e st ≡ Some next → out_of code s (es ++ e ∷ []) s0 ≡ out_of code s es s0 ++ printed_between e.thread st next
  out_push [] e s0 st next h p =
      let is : s0 ≡ st = same_Some _ _ h in
      subst (λ z. out_of code s (e ∷ []) z ≡ printed_between e.thread st next) (sym is) (ap (out_on code s (out_of code s []) e st) p ∙ append-nil _)
  out_push (x ∷ es) e s0 st next h p = go (part (machine code s) x s0) (λ m q. out_push es e m st next q p) h
    where
      go : (o : Option (State Told)) → ((m : State Told) → walk_of code s es m ≡ Some st → out_of code s (es ++ e ∷ []) m ≡ out_of code s es m ++ printed_between e.thread st next) → option_and_then (walk_of code s es) o ≡ Some st → out_on code s (out_of code s (es ++ e ∷ [])) x s0 o ≡ out_on code s (out_of code s es) x s0 o ++ printed_between e.thread st next
      go None again q = cc
      go (Some m) again q = ap (λ z. printed_between x.thread s0 m ++ z) (again m q) ∙ sym (append_assoc (printed_between x.thread s0 m) (out_of code s es m) (printed_between e.thread st next))

  -- the front of the entries is walked, and this is shown of the state after it
  pub record Gone (from : State Told) (es : List Entry) (first at : ℕ) (rest : List Entry) (flows : List Running) (words : List ℕ) (reads : List (List Access)) (out : List ℕ) : Type 0 where
    pub front : List Entry
    pub split : es ≡ front ++ rest
    pub count : at ≡ first + length front
    pub state : State Told
    pub walked : walk_of code s front from ≡ Some state
    pub all : RunAll code s 0 flows
    pub shown : IsShown no_reads flows words reads state
    pub out_is : out ≡ out_of code s front from
    pub sounds : Sounds code s (length (start_words code s)) (most_operations + length front) state
    pub within : (t : ℕ) (c : LacksCell code s from es t) → c.at < length front → ⊥

  pub gone_start : (es : List Entry) (first : ℕ) (flows : List Running) (words : List ℕ) (reads : List (List Access)) (out : List ℕ) → RunAll code s 0 flows → length flows ≡ s.slots → reads ≡ replicate s.slots [] → length words ≡ length (start_words code s) → AreSound code s most_operations words → out ≡ [] → Gone (standing flows words) es first first es flows words reads out
  gone_start es first flows words reads out all threads empty len sound none = record {
    front = [];
    split = refl;
    count = omega arith;
    state = standing flows words;
    walked = refl;
    all = all;
    shown = record { words_are = refl; threads_are = threads_show flows; reads_are = empty ∙ reads_show s.slots flows threads };
    out_is = none;
    sounds = record { threads = length-map flows (λ (r : Running). fresh_told r.kept.thread) ∙ threads; words = len; sound = sound_more code s most_operations (most_operations + 0) words (omega arith) sound };
    within = λ t c lt. absurd (omega (arith, lt));
  }

  module _ (from : State Told) (es : List Entry) (first at : ℕ) (flows : List Running) (words : List ℕ) (reads : List (List Access)) (out : List ℕ) where
    pub gone_as : (rest rest1 : List Entry) → rest ≡ rest1 → Gone from es first at rest flows words reads out → Gone from es first at rest1 flows words reads out
    gone_as rest rest1 e w = record {
      front = w.front;
      split = w.split ∙ ap (λ z. w.front ++ z) e;
      count = w.count;
      state = w.state;
      walked = w.walked;
      all = w.all;
      shown = w.shown;
      out_is = w.out_is;
      sounds = w.sounds;
      within = w.within;
    }

    -- what the next part needs

    pub gone_threads : (rest : List Entry) → Gone from es first at rest flows words reads out → length flows ≡ s.slots
    gone_threads rest w = sym (length-map flows running_thread) ∙ ap length w.shown.threads_are ∙ length-map w.state.threads told_thread ∙ w.sounds.threads

    pub gone_reads : (rest : List Entry) → Gone from es first at rest flows words reads out → length reads ≡ length flows
    gone_reads rest w = ap length w.shown.reads_are ∙ length-map w.state.threads (kept_reads no_reads) ∙ sym (length-map w.state.threads told_thread) ∙ ap length (sym w.shown.threads_are) ∙ length-map flows running_thread

    pub gone_len : (rest : List Entry) → Gone from es first at rest flows words reads out → cells_of code s ≤ length words
    gone_len rest w = omega (arith, ap length w.shown.words_are ∙ w.sounds.words, length-start_words code s)

    pub gone_usable : (rest : List Entry) → first + length es ≤ few_walked → Gone from es first at rest flows words reads out → AreUsable code s words
    gone_usable rest few w =
        let longer = ap length w.split ∙ length-append w.front rest in
        subst (AreUsable code s) (sym w.shown.words_are) (sound_more code s (most_operations + length w.front) (2 ^ 32 - 2) w.state.words (omega (arith, few, longer)) w.sounds.sound)

    -- an entry of which it is known that its thread stays within its cells there
    stays_within : (e : Entry) (rest : List Entry) (w : Gone from es first at (e ∷ rest) flows words reads out) → (IsOutside code s e w.state → ⊥) → (t : ℕ) (c : LacksCell code s from es t) → c.at ≡ length w.front → ⊥
    stays_within e rest w inside t c here =
        let at_e : slice_get es (length w.front) ≡ Some e = ap (λ z. slice_get z (length w.front)) w.split ∙ slice_get-append_at w.front e rest (length w.front) refl in
        let entry_is : c.entry ≡ e = same_Some c.entry e (sym c.stands ∙ ap (slice_get es) here ∙ at_e) in
        let front_is : take (length w.front) es ≡ w.front = ap (take (length w.front)) w.split ∙ take_front w.front (e ∷ rest) in
        let state_is : c.before ≡ w.state = same_Some c.before w.state (sym c.front ∙ ap (λ n. walk_of code s (take n es) from) here ∙ ap (λ z. walk_of code s z from) front_is ∙ w.walked) in
        inside (subst (λ z. IsOutside code s z w.state) entry_is (subst (IsOutside code s c.entry) state_is c.outside))

    pub gone_more : (runnable : IsRunnable code) (limits : IsWithinLimits s) (e : Entry) (rest : List Entry) (flows1 : List Running) (words1 : List ℕ) (reads1 : List (List Access)) (out1 : List ℕ) → first + length es ≤ few_walked → RunAll code s 0 flows1 → (w : Gone from es first at (e ∷ rest) flows words reads out) → PartEndIs code s no_reads e w.state flows1 words1 reads1 out out1 end.Made → Gone from es first (at + 1) rest flows1 words1 reads1 out1
    gone_more runnable limits e rest flows1 words1 reads1 out1 few all w p =
        let longer = ap length w.split ∙ length-append w.front (e ∷ rest) in
        let more = length-append w.front (e ∷ []) in
        record {
          front = w.front ++ e ∷ [];
          split = w.split ∙ sym (append_assoc w.front (e ∷ []) rest);
          count = omega (arith, w.count, more);
          state = p.0.2.next;
          walked = walk_push w.front e from w.state w.walked ∙ ap (option_and_then (walk_of code s [])) p.0.2.parts;
          all = all;
          shown = p.0.2.shown;
          out_is = p.0.1 ∙ ap (λ z. z ++ p.0.0) w.out_is ∙ ap (λ z. out_of code s w.front from ++ z) p.0.2.prints ∙ sym (out_push w.front e from w.state p.0.2.next w.walked p.0.2.parts);
          sounds = subst (λ n. Sounds code s (length (start_words code s)) n p.0.2.next) (omega (arith, more)) (part_sounds code s runnable limits (length (start_words code s)) (most_operations + length w.front) e w.state p.0.2.next (omega (arith, few, longer)) p.0.2.parts w.sounds);
          within = λ t c lt. ⊎_elim (λ less. w.within t c less) (λ le. stays_within e rest w p.1 t c (omega (arith, lt, le, more))) (less_or c.at (length w.front));
        }

    -- the next entry's part isn't allowed

    refused_next : (e : Entry) (rest : List Entry) (w : Gone from es first at (e ∷ rest) flows words reads out) → part (machine code s) e w.state ≡ None → walk_of code s (take (length w.front + 1) es) from ≡ None
    refused_next e rest w p =
        let len : length w.front + 1 ≡ length (w.front ++ e ∷ []) = sym (length-append w.front (e ∷ [])) in
        ap (λ n. walk_of code s (take n es) from) len
        ∙ ap (λ z. walk_of code s (take (length (w.front ++ e ∷ [])) z) from) (w.split ∙ sym (append_assoc w.front (e ∷ []) rest))
        ∙ ap (λ z. walk_of code s z from) (take_front (w.front ++ e ∷ []) rest)
        ∙ walk_push w.front e from w.state w.walked
        ∙ ap (option_and_then (walk_of code s [])) p

    front_walks : (rest : List Entry) (w : Gone from es first at rest flows words reads out) → walk_of code s (take (length w.front) es) from ≡ Some w.state
    front_walks rest w = ap (λ z. walk_of code s (take (length w.front) z) from) w.split ∙ ap (λ z. walk_of code s z from) (take_front w.front rest) ∙ w.walked

    pub gone_refused : (e : Entry) (rest : List Entry) (w : Gone from es first at (e ∷ rest) flows words reads out) (flows1 : List Running) (words1 : List ℕ) (reads1 : List (List Access)) (out1 : List ℕ) → PartEndIs code s no_reads e w.state flows1 words1 reads1 out out1 end.Refused → (k : ℕ) × (at ≡ first + k) × IsRefusedAt code s from es k × LacksNone code s from es
    gone_refused e rest w flows1 words1 reads1 out1 p =
        let longer = ap length w.split ∙ length-append w.front (e ∷ rest) in (
          length w.front,
          w.count,
          record { within = omega (arith, longer); before = w.state; front = front_walks (e ∷ rest) w; refused = refused_next e rest w p.0 },
          λ t c. ⊎_elim
              (λ less. w.within t c less)
              (λ le. ⊎_elim
              (λ past. never_refused code s (length w.front + 1) (take c.at es) from c.before c.front (ap (λ z. walk_of code s z from) (sym (take_within (length w.front + 1) c.at es (omega (arith, past)))) ∙ refused_next e rest w p.0))
              (λ ge. stays_within e rest w p.1 t c (omega (arith, le, ge)))
              (less_or (length w.front) c.at))
              (less_or c.at (length w.front)),
        )

    pub gone_outside : (e : Entry) (rest : List Entry) (w : Gone from es first at (e ∷ rest) flows words reads out) (flows1 : List Running) (words1 : List ℕ) (reads1 : List (List Access)) (out1 : List ℕ) → PartEndIs code s no_reads e w.state flows1 words1 reads1 out out1 end.Outside → (k : ℕ) × (at ≡ first + k) × IsRefusedAt code s from es k × LacksCell code s from es e.thread
    gone_outside e rest w flows1 words1 reads1 out1 p =
        let longer = ap length w.split ∙ length-append w.front (e ∷ rest) in (
          length w.front,
          w.count,
          record { within = omega (arith, longer); before = w.state; front = front_walks (e ∷ rest) w; refused = refused_next e rest w p.0 },
          record {
            at = length w.front;
            entry = e;
            stands = ap (λ z. slice_get z (length w.front)) w.split ∙ slice_get-append_at w.front e rest (length w.front) refl;
            thread = refl;
            before = w.state;
            front = front_walks (e ∷ rest) w;
            outside = p.1;
          },
        )

    pub gone_all : Gone from es first at [] flows words reads out → IsAllWalked code s from es flows words reads out
    gone_all w =
        let all : es ≡ w.front = w.split ∙ append-nil w.front in
        record {
          last = w.state;
          walked = ap (λ z. walk_of code s z from) all ∙ w.walked;
          shown = w.shown;
          out_is = w.out_is ∙ ap (λ z. out_of code s z from) (sym all);
          within = λ t c. w.within t c (subst (λ (z : List Entry). c.at < length z) all (slice_get_within es c.at c.entry c.stands));
        }
