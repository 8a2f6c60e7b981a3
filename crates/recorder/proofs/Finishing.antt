-- What is left of a run whose threads have all ended, by the seats that were given back.
use Rattle.std.proofs.Common.{◌≡◌, ℕ, zero, suc, ◌≤◌, true, false, List, [], ◌∷◌, ◌++◌, length, map, Some, refl, sym, ap, subst, ◌∙◌, pos, arith}
use Rattle.std.specs.Prelude.{slice_get}
use Rattle.std.specs.List.{AllZip}
use Rattle.std.proofs.lemmas.Bool.{true≢false}
use Rattle.std.proofs.lemmas.List.{length-map}
use Rattle.std.proofs.lemmas.Option.{same_Some}
use Rattle.crew.specs.Counts.{RoseAtLeast, RoseBy, rises}
use Rattle.sync_objects.specs.Setup.{SetupView, IsWithinLimits}
use Rattle.sync_objects.specs.declared.entry.Entry.{Entry}
use Rattle.sync_objects.specs.declared.entry.Noted.{Noted}
use Rattle.word_semantics.specs.declared.event.Action.TheVariants as action
use Rattle.flow_code.specs.declared.code.Code.{Code}
use Rattle.flow_code.specs.Next.{has_ended}
use Rattle.flow_code.specs.Settle.{IsRunnable, settled}
use Rattle.flow_code.proofs.Counts.{action_counts}
use Rattle.thread_interpreter.specs.declared.access.Formula.{Formula}
use Rattle.core_run.specs.declared.outcome.Walk.{Walk}
use Rattle.core_run.specs.Histories.{HasNoRace, lists_of, entries_in}
use Rattle.core_run.specs.Machine.{Told, start_state}
use Rattle.core_run.specs.Walks.{WalkIs, walk_of}
use Rattle.core_run.proofs.Reached.{kept}
use Rattle.core_run.proofs.WholeRuns.{merges_walk, written_is_merge}
use Rattle.run_theory.specs.Merge.{Taken, Stuck, Takes, merged_after, merged_on, next_entry, total_length, written_merge}
use Rattle.shared_cells.specs.Closing.{Closes}
use Rattle.shared_cells.specs.Rule.{Board}
use Rattle.shared_cells.specs.Seats.{AreSeats, IsSeatOf, view_of}
use Rattle.shared_cells.specs.Threads.{AreMarks, after_marks, own}
use Rattle.shared_cells.specs.Views.{SeatView}
use Rattle.shared_cells.specs.declared.seat.Seat.{Seat}
use Rattle.thread_step.specs.Steps.{Stepping}
use Rattle.run_walk.specs.declared.remains.Remains.{Remains}
use Rattle.run_walk.specs.Remains.{IsWalked, RemainsOf, remains_in}
use Rattle.run_walk.proofs.Remaining.{all_remain, same_remains}
use Rattle.weak_turns.specs.Carrying.{Carrying, IsSameCarrier, run_has_ended}
use Rattle.weak_turns.specs.Shown.{Carries}
use Rattle.weak_turns.proofs.Showing.{same_phase}
use Rattle.recorder.specs.Carriers.{AreCarriers, AreParts}
use Rattle.recorder.specs.Finished.{IsFinished}
use Rattle.recorder.specs.Records.{Records}
use Rattle.recorder.proofs.Ends.{beside, whole_walk}

-- ---- a thread that has ended has no marks to come

marks_open : (code : Code) (s : SetupView) (t n : ℕ) (told : Told) → AreMarks code s t (suc n) told → has_ended (after_marks code s t (suc n) told).thread.phase ≡ false
marks_open code s t n told h = (action_counts code s t (settled code s t (after_marks code s t n told).thread) action.Mark (pos 0) tt h.1).lives

none_to_come : (v : SeatView) (n : ℕ) (r : Stepping) → Carries v n r → run_has_ended r ≡ true → n ≡ 0
none_to_come v zero r c e = refl
none_to_come v (suc n) r c e = absurd (true≢false (sym (ap has_ended (same_phase v (suc n) r c) ∙ e) ∙ marks_open v.code v.setup v.from n (own v) c.ahead))

-- what the seat knows of its thread is what the run shows
record IsShownBy (r : Stepping) (told : Told) : Type 0 where
  ended : has_ended told.thread.phase ≡ true
  entries : r.entries ≡ told.entries
  rest : RemainsOf (remains_in r) told

own_shown : (v : SeatView) (n : ℕ) (r : Stepping) → Carries v n r → run_has_ended r ≡ true → IsShownBy r (own v)
own_shown v n r c e =
    let none = none_to_come v n r c e in
    let here : Carries v 0 r = subst (λ k. Carries v k r) none c in
    let phase = same_phase v 0 r here in
    record {
      ended = ap has_ended phase ∙ e;
      entries = here.shows.entries;
      rest = same_remains r (own v) here.shows.pieces here.shows.reads (sym phase);
    }

-- lists that are the threads' entries, place by place
lists_so : (lists : List (List Noted)) (threads : List Told) → length lists ≡ length threads → ((t : ℕ) (list : List Noted) (told : Told) → slice_get lists t ≡ Some list → slice_get threads t ≡ Some told → list ≡ told.entries) → lists ≡ map (λ (told : Told). told.entries) threads
lists_so [] [] len h = refl
lists_so [] (x ∷ threads) len h = cc
lists_so (xs ∷ lists) [] len h = cc
lists_so (xs ∷ lists) (x ∷ threads) len h = ap (λ z. z ∷ lists) (h 0 xs x refl refl) ∙ ap (λ zs. x.entries ∷ zs) (lists_so lists threads (omega (arith, len)) (λ t a b p q. h (suc t) a b p q))

-- ---- from the carriers that were given to those that came back

module _ {A B : Type 0} (R : A → B → Type 0) where
  zip_length : (xs : List A) (ys : List B) → AllZip R xs ys → length ys ≡ length xs
  zip_length [] [] h = refl
  zip_length [] (y ∷ ys) h = absurd h
  zip_length (x ∷ xs) [] h = absurd h
  zip_length (x ∷ xs) (y ∷ ys) h = ap suc (zip_length xs ys h.1)

  zip_at : (xs : List A) (ys : List B) (t : ℕ) (y : B) → AllZip R xs ys → slice_get ys t ≡ Some y → (x : A) × (slice_get xs t ≡ Some x) × R x y
  zip_at [] [] t y h e = cc
  zip_at [] (z ∷ ys) t y h e = absurd h
  zip_at (x ∷ xs) [] t y h e = absurd h
  zip_at (x ∷ xs) (z ∷ ys) zero y h e = (x, refl, subst (R x) (same_Some z y e) h.0)
  zip_at (x ∷ xs) (z ∷ ys) (suc t) y h e = zip_at xs ys t y h.1 e

module _ (R : Carrying → Carrying → Type 0) (cells : Board) (given back : List Carrying) (led : AllZip R given back) (leads : (x y : Carrying) → R x y → IsSameCarrier x y) (seats : List Seat) (lists : List (List Noted)) (remains : List Remains) (budget : ℕ) (are : AreCarriers cells budget given) (parts : AreParts back seats lists remains) where
  at_place : (t : ℕ) (seat : Seat) → slice_get seats t ≡ Some seat → (later : Carrying) × (slice_get back t ≡ Some later) × (seat ≡ later.seat)
  at_place t seat at =
      let later = beside seats back t seat parts.seat_count at in
      (later.0, later.1, same_Some seat later.0.seat (sym at ∙ (parts.each t later.0 later.1).seat))

  seat_of : (t : ℕ) (seat : Seat) → slice_get seats t ≡ Some seat → IsSeatOf cells seat × ((view_of seat).from ≡ t)
  seat_of t seat at =
      let p = at_place t seat at in
      let x = zip_at R given back t p.0 led p.1 in
      let of = are.each t x.0 x.1 in
      let taken = parts.each t p.0 p.1 in (
        subst (IsSeatOf cells) (sym p.2) (subst (λ b. IsSeatOf b p.0.seat) ((leads x.0 p.0 x.2).cells ∙ of.cells_are) taken.sound.carrying.seat_of),
        ap (λ z. (view_of z).from) p.2 ∙ (leads x.0 p.0 x.2).thread ∙ of.thread,
      )

  -- all seats are there
  pub seats_are : AreSeats cells seats
  seats_are = record { count = parts.seat_count ∙ zip_length R given back led ∙ are.count; each = seat_of }

  module _ (words : List ℕ) (departure : ℕ) (runnable : IsRunnable cells.code) (limits : IsWithinLimits cells.setup) (closes : Closes cells.code cells.setup seats words departure) where
    threads_count : length closes.state.threads ≡ length seats
    threads_count = (kept cells.code cells.setup runnable limits closes.state closes.reached).threads ∙ sym seats_are.count

    record IsAt (t : ℕ) (told : Told) : Type 0 where
      ended : has_ended told.thread.phase ≡ true
      list : (xs : List Noted) → slice_get lists t ≡ Some xs → xs ≡ told.entries
      rest : (r : Remains) → slice_get remains t ≡ Some r → RemainsOf r told

    thread_at : (t : ℕ) (told : Told) → slice_get closes.state.threads t ≡ Some told → IsAt t told
    thread_at t told at =
        let seat = beside closes.state.threads seats t told threads_count at in
        let p = at_place t seat.0 seat.1 in
        let taken = parts.each t p.0 p.1 in
        let shown = own_shown (view_of p.0.seat) p.0.seat.marks p.0.run taken.sound.carrying.carries taken.ended in
        let knows : told ≡ own (view_of p.0.seat) = same_Some told (own (view_of p.0.seat)) (sym at ∙ closes.threads t seat.0 seat.1 ∙ ap (λ z. Some (own (view_of z))) p.2) in
        record {
          ended = ap (λ (z : Told). has_ended z.thread.phase) knows ∙ shown.ended;
          list = λ xs is. same_Some xs p.0.run.entries (sym is ∙ taken.list) ∙ shown.entries ∙ sym (ap (λ (z : Told). z.entries) knows);
          rest = λ r is. subst (λ z. RemainsOf z told) (same_Some (remains_in p.0.run) r (sym taken.rest ∙ is)) (subst (RemainsOf (remains_in p.0.run)) (sym knows) shown.rest);
        }

    pub finished : IsFinished cells.code cells.setup lists remains
    finished = record {
      state = closes.state;
      reached = closes.reached;
      ended = λ t told at. (thread_at t told at).ended;
      lists_are = lists_so lists closes.state.threads (parts.list_count ∙ sym parts.seat_count ∙ sym threads_count) (λ t list told at there. (thread_at t told there).list list at);
      remains_are = all_remain remains closes.state.threads (parts.rest_count ∙ sym parts.seat_count ∙ sym threads_count) (λ t rest told at there. (thread_at t told there).rest rest at);
    }

-- ---- the log

after_length : (n : ℕ) (before : List Noted) (lists : List (List Noted)) → length (merged_after n before lists) ≤ n
after_length zero before lists = omega arith
after_length (suc n) before lists = by (next_entry before lists) (λ b ls. after_length n b ls)
  where
    by : (x : Taken) → ((b : List Noted) (ls : List (List Noted)) → length (merged_after n b ls) ≤ n) → length (merged_on (merged_after n) before x) ≤ suc n
    by Stuck again = omega arith
    by (Takes x ls) again = let few = again (before ++ x ∷ []) ls in omega arith

-- no more entries are written than the lists have
pub few_written : (lists : List (List Noted)) → length (entries_in (written_merge lists)) ≤ total_length lists
few_written lists = let few = after_length (total_length lists) [] lists in let same = length-map (written_merge lists) (λ (x : Noted). x.entry) in omega arith

module _ (code : Code) (s : SetupView) (lists : List (List Noted)) (remains : List Remains) (entries : List Entry) (runnable : IsRunnable code) (limits : IsWithinLimits s) (done : IsFinished code s lists remains) (free : HasNoRace code s) (is : entries ≡ entries_in (written_merge lists)) where
  log : entries ≡ entries_in (written_merge (lists_of done.state))
  log = is ∙ ap (λ ls. entries_in (written_merge ls)) done.lists_are

  same : walk_of code s entries (start_state code s) ≡ Some done.state
  same = ap (λ es. walk_of code s es (start_state code s)) log ∙ merges_walk code s runnable limits done.reached.0 done.state (written_merge (lists_of done.state)) free done.reached.1 done.ended (written_is_merge code s runnable limits done.reached.0 done.state done.reached.1)

  -- the walk of the log ends as the run has
  pub walked : IsWalked code s entries remains
  walked = record { end = done.state; whole = record { walked = same; ended = done.ended }; remain = done.remains_are }

  pub records_finished : (f : Formula) (w : Walk) → WalkIs code s entries f w → Records code s f entries w
  records_finished f w walks = record {
    labels = done.reached.0;
    end = done.state;
    ran = done.reached.1;
    ended = done.ended;
    log = log;
    same = same;
    walk = walks;
    whole = whole_walk code s entries f done.state w same done.ended walks;
  }

-- ---- the turns

-- each of those that came back has had at least as many turns as its thread has entries
enough : (given back : List Carrying) (lists : List (List Noted)) → length lists ≡ length back → length back ≡ length given →
    ((t : ℕ) (c later : Carrying) (list : List Noted) → slice_get given t ≡ Some c → slice_get back t ≡ Some later → slice_get lists t ≡ Some list → (c.turns ≡ 0) × (length list ≤ later.turns)) → total_length lists ≤ rises (λ (c : Carrying). c.turns) given back
enough [] [] [] n m h = omega arith
enough (x ∷ given) (y ∷ back) (z ∷ lists) n m h =
    let at = h 0 x y z refl refl refl in
    let rest = enough given back lists (omega (arith, n)) (omega (arith, m)) (λ t c later list p q r. h (suc t) c later list p q r) in
    let fresh = at.0 in
    let few = at.1 in
    omega arith
enough [] (y ∷ back) lists n m h = cc
enough (x ∷ given) [] lists n m h = cc
enough [] [] (z ∷ lists) n m h = cc
enough (x ∷ given) (y ∷ back) [] n m h = cc

module _ (R : Carrying → Carrying → Type 0) (cells : Board) (given back : List Carrying) (led : AllZip R given back) (seats : List Seat) (lists : List (List Noted)) (remains : List Remains) (budget : ℕ) (are : AreCarriers cells budget given) (parts : AreParts back seats lists remains) where
  pub rose_enough : (entries old new : ℕ) → entries ≤ total_length lists → RoseBy (rises (λ (c : Carrying). c.turns) given back) old new → RoseAtLeast entries old new
  rose_enough entries old new few rose =
      let turns = enough given back lists parts.list_count (zip_length R given back led) (λ t c later list p q r. let taken = parts.each t later q in ((are.each t c p).fresh, subst (λ (z : List Noted). length z ≤ later.turns) (same_Some later.run.entries list (sym taken.list ∙ r)) taken.sound.listed)) in
      let rises_to = rose.rises in
      omega arith
