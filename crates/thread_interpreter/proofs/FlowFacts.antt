-- What a sound running thread's next step asks of its numbers, and that it stays sound.
use Rattle.std.proofs.Common.{◌≡◌, ℕ, ◌<◌, false, refl, ℤ, Some, None, nat_le, subst, sym, ap, ◌∙◌, arith}
use Rattle.sync_objects.specs.Setup.{SetupView, IsWithinLimits}
use Rattle.flow_code.specs.declared.code.Code.{Code}
use Rattle.word_semantics.specs.declared.event.Due.{Due}
use Rattle.word_semantics.specs.declared.event.Due.TheVariants as due
use Rattle.word_semantics.specs.declared.event.Action.{Action}
use Rattle.word_semantics.specs.declared.event.Action.TheVariants as action
use Rattle.flow_code.specs.declared.act.Instr.{Instr}
use Rattle.flow_code.specs.declared.thread.Phase.TheVariants as phase
use Rattle.flow_code.specs.Threads.{Thread, instr_at}
use Rattle.flow_code.specs.Next.{act_at, act_in, act_due, phase_due, limited, first_owed, owing, listed, due_of, action_of, action_at, after_due, stepped, gave_up, stopped, slot_closed, has_ended}
use Rattle.word_semantics.specs.Limits.{most_entries, most_revokes}
use Rattle.flow_code.specs.Settle.{IsRunnable}
use Rattle.flow_code.proofs.Ranges.{stepped_in_range, gave_up_in_range, stopped_in_range, shut_in_range, count_fits, arena_fits}
use Rattle.flow_code.proofs.Counts.{stepped_is}
use Rattle.thread_interpreter.specs.Flows.{Fits, most_extra, IsSoundFlow}
use Rattle.thread_interpreter.specs.Starts.{start_thread}
use Rattle.thread_interpreter.proofs.StartRanges.{start_in_range}

pub fits_of : (code : Code) (s : SetupView) (t : ℕ) (th : Thread) → IsSoundFlow code s t th → Fits th
fits_of code s t th f =
    let c = count_fits code s most_extra t th f.limits f.range in
    let a = arena_fits code s most_extra t th f.runnable f.limits f.number f.range in
    let e = f.range.few_entries in
    let m = f.range.few_made in
    let p = f.range.few_printed in
    record { count = omega arith; entries = omega arith; made = omega arith; arena = omega arith; printed = omega arith }

pub sound_step : (code : Code) (s : SetupView) (t : ℕ) (th : Thread) (answer : ℤ) → IsSoundFlow code s t th → IsSoundFlow code s t (stepped code s t th answer)
sound_step code s t th answer f = record { runnable = f.runnable; limits = f.limits; number = f.number; range = stepped_in_range code s most_extra t th answer f.range }

pub sound_after : (code : Code) (s : SetupView) (t : ℕ) (th : Thread) (answer : ℤ) → IsSoundFlow code s t th → IsSoundFlow code s t (after_due code s t th (due_of code s t th) answer)
sound_after code s t th answer f = subst (IsSoundFlow code s t) (stepped_is code s t th (due_of code s t th) answer refl) (sound_step code s t th answer f)

pub fits_after : (code : Code) (s : SetupView) (t : ℕ) (th : Thread) (answer : ℤ) → IsSoundFlow code s t th → Fits (after_due code s t th (due_of code s t th) answer)
fits_after code s t th answer f = fits_of code s t _ (sound_after code s t th answer f)

pub sound_give_up : (code : Code) (s : SetupView) (t : ℕ) (th : Thread) (lock stripe : ℕ) → th.entries < most_entries → th.revokes < most_revokes → IsSoundFlow code s t th → IsSoundFlow code s t (gave_up th lock stripe)
sound_give_up code s t th lock stripe e r f = record { runnable = f.runnable; limits = f.limits; number = f.number; range = gave_up_in_range code s most_extra t th lock stripe e r f.range }

pub sound_stop : (code : Code) (s : SetupView) (t : ℕ) (th : Thread) → has_ended th.phase ≡ false → IsSoundFlow code s t th → IsSoundFlow code s t (stopped th)
sound_stop code s t th lives f = record { runnable = f.runnable; limits = f.limits; number = f.number; range = stopped_in_range code s most_extra t th lives f.range }

pub sound_shut : (code : Code) (s : SetupView) (t : ℕ) (th : Thread) → has_ended th.phase ≡ false → IsSoundFlow code s t th → IsSoundFlow code s t (slot_closed th)
sound_shut code s t th lives f = record { runnable = f.runnable; limits = f.limits; number = f.number; range = shut_in_range code s most_extra t th lives f.range }

-- the same, for what the code computes

pub fits_step : (code : Code) (s : SetupView) (t : ℕ) (th : Thread) (d : Due) (answer : ℤ) → IsSoundFlow code s t th → d ≡ due_of code s t th → Fits (after_due code s t th d answer)
fits_step code s t th d answer f e = subst (λ x. Fits (after_due code s t th x answer)) (sym e) (fits_after code s t th answer f)

pub sound_next : (code : Code) (s : SetupView) (t : ℕ) (th q : Thread) (d : Due) (answer : ℤ) → IsSoundFlow code s t th → d ≡ due_of code s t th → q ≡ after_due code s t th d answer → IsSoundFlow code s t q
sound_next code s t th q d answer f e h = subst (IsSoundFlow code s t) (sym (h ∙ ap (λ x. after_due code s t th x answer) e)) (sound_after code s t th answer f)

pub next_is : (code : Code) (s : SetupView) (t : ℕ) (th q : Thread) (d : Due) (answer : ℤ) → d ≡ due_of code s t th → q ≡ after_due code s t th d answer → q ≡ stepped code s t th answer
next_is code s t th q d answer e h = h ∙ sym (stepped_is code s t th d answer (sym e))

-- a thread at its start is sound
pub sound_start : (code : Code) (s : SetupView) (t : ℕ) → IsRunnable code → IsWithinLimits s → t < s.slots → IsSoundFlow code s t (start_thread code s t)
sound_start code s t r l n = record { runnable = r; limits = l; number = n; range = start_in_range code s most_extra t }

pub sound_given_up : (code : Code) (s : SetupView) (t : ℕ) (th q : Thread) (lock stripe : ℕ) → IsSoundFlow code s t th → th.entries < most_entries → th.revokes < most_revokes → q ≡ gave_up th lock stripe → IsSoundFlow code s t q
sound_given_up code s t th q lock stripe f e r h = subst (IsSoundFlow code s t) (sym h) (sound_give_up code s t th lock stripe e r f)

pub sound_begun : (code : Code) (s : SetupView) (t : ℕ) (th : Thread) → IsRunnable code → IsWithinLimits s → t < s.slots → th ≡ start_thread code s t → IsSoundFlow code s t th
sound_begun code s t th r l n h = subst (IsSoundFlow code s t) (sym h) (sound_start code s t r l n)

-- an access or a mark that comes next is what is due

load_due : (c : ℕ) (d : Due) → action.Load c ≡ action_of d → due.Load c ≡ d
load_due c due.Nothing e = cc
load_due c due.Quiet e = cc
load_due c (due.Load b) e = cc
load_due c (due.Store b w) e = cc
load_due c due.Mark e = cc
load_due c (due.Operate o obj) e = cc
load_due c (due.Trap kind) e = cc

store_due : (c w : ℕ) (d : Due) → action.Store c w ≡ action_of d → due.Store c w ≡ d
store_due c w due.Nothing e = cc
store_due c w due.Quiet e = cc
store_due c w (due.Load b) e = cc
store_due c w (due.Store b v) e = cc
store_due c w due.Mark e = cc
store_due c w (due.Operate o obj) e = cc
store_due c w (due.Trap kind) e = cc

mark_due : (d : Due) → action.Mark ≡ action_of d → due.Mark ≡ d
mark_due due.Nothing e = cc
mark_due due.Quiet e = cc
mark_due (due.Load b) e = cc
mark_due (due.Store b w) e = cc
mark_due due.Mark e = refl
mark_due (due.Operate o obj) e = cc
mark_due (due.Trap kind) e = cc

pub known_load : (code : Code) (s : SetupView) (t : ℕ) (th : Thread) (a : Action) (c : ℕ) → a ≡ action_at code s t th → a ≡ action.Load c → due.Load c ≡ due_of code s t th
unfolding action_at
known_load code s t th a c e h = load_due c (due_of code s t th) (sym h ∙ e)

pub known_store : (code : Code) (s : SetupView) (t : ℕ) (th : Thread) (a : Action) (c w : ℕ) → a ≡ action_at code s t th → a ≡ action.Store c w → due.Store c w ≡ due_of code s t th
unfolding action_at
known_store code s t th a c w e h = store_due c w (due_of code s t th) (sym h ∙ e)

pub known_mark : (code : Code) (s : SetupView) (t : ℕ) (th : Thread) (a : Action) → a ≡ action_at code s t th → a ≡ action.Mark → due.Mark ≡ due_of code s t th
unfolding action_at
known_mark code s t th a e h = mark_due (due_of code s t th) (sym h ∙ e)

pub known_next : (code : Code) (s : SetupView) (t : ℕ) (th : Thread) (a : Action) → a ≡ action_of (due_of code s t th) → a ≡ action_at code s t th
unfolding action_at
known_next code s t th a e = e

-- where nothing stands in its place, the act of a running thread's instruction is what is due
pub due_free : (code : Code) (s : SetupView) (t : ℕ) (th : Thread) (i : Instr) → nat_le s.limit th.count ≡ false → nat_le most_entries th.entries ≡ false → first_owed th.stripes ≡ None → th.phase ≡ phase.Running → instr_at code th.top ≡ Some i → act_due code s t th (Some i.act) ≡ due_of code s t th
due_free code s t th i l e o p at =
    let d = phase_due code s t th th.phase in
    let here : act_due code s t th (Some i.act) ≡ act_due code s t th (act_at code th.top) = ap (λ x. act_due code s t th (act_in x)) (sym at) in
    let runs : act_due code s t th (act_at code th.top) ≡ d = ap (phase_due code s t th) (sym p) in
    let plain : d ≡ listed false (owing None (limited false d)) = refl in
    let below : d ≡ listed false (owing None (limited (nat_le s.limit th.count) d)) = subst (λ b. d ≡ listed false (owing None (limited b d))) (sym l) plain in
    let paid : d ≡ listed false (owing (first_owed th.stripes) (limited (nat_le s.limit th.count) d)) = subst (λ x. d ≡ listed false (owing x (limited (nat_le s.limit th.count) d))) (sym o) below in
    let is : d ≡ due_of code s t th = subst (λ b. d ≡ listed b (owing (first_owed th.stripes) (limited (nat_le s.limit th.count) d))) (sym e) paid in
    here ∙ (runs ∙ is)
