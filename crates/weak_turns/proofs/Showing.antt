-- What a run shows of the thread of a seat.
use Rattle.std.proofs.Common.{◌≡◌, ◌≢◌, ℕ, zero, suc, ◌+◌, ◌≤◌, true, false, List, refl, sym, ap, subst, ◌∙◌, inl, ⊎_elim, pos, arith}
use Rattle.std.proofs.lemmas.Bool.{true≢false}
use Rattle.sync_objects.specs.Setup.{SetupView}
use Rattle.word_semantics.specs.declared.event.Action.{Action}
use Rattle.word_semantics.specs.declared.event.Action.TheVariants as action
use Rattle.flow_code.specs.declared.code.Code.{Code}
use Rattle.flow_code.specs.Next.{has_ended, action_at}
use Rattle.flow_code.specs.Settle.{settled}
use Rattle.flow_code.specs.Threads.{Thread}
use Rattle.flow_code.proofs.Counts.{action_counts, ended_action, settled_keeps_all, settled_count}
use Rattle.core_run.specs.Machine.{Told}
use Rattle.core_run.specs.Walks.{kept_reads}
use Rattle.thread_step.specs.Steps.{Stepping, IsSameRun, told_of, next_of}
use Rattle.lock_ownership.specs.ThreadStripes.{HasItsStripes}
use Rattle.shared_cells.specs.Plays.{IsReached}
use Rattle.shared_cells.specs.Threads.{AreMarks, after_marks, own, pending, IsNext}
use Rattle.shared_cells.specs.Views.{Note, SeatView, with_thread}
use Rattle.weak_turns.specs.Finding.{HasRested}
use Rattle.weak_turns.specs.Shown.{IsSameThread, Shows, Carries, IsSettled}

-- ---- a run and a thread

module _ (code : Code) (s : SetupView) (t : ℕ) where
  -- the quiet steps of a run are those in its code
  pub settled_in : (r : Stepping) (th : Thread) → r.flow.code ≡ code → r.flow.setup ≡ s → r.flow.number ≡ t → settled r.flow.code r.flow.setup r.flow.number th ≡ settled code s t th
  settled_in r th a b c = ap (λ z. settled z r.flow.setup r.flow.number th) a ∙ ap (λ z. settled code z r.flow.number th) b ∙ ap (λ z. settled code s z th) c

  module _ (r q : Stepping) (told : Told) (shows : Shows code s t r told) where
    -- what a run and a thread show stays, where the run changes nothing that is told
    pub shows_told : IsSameRun r q → told_of q ≡ told_of r → q.reads ≡ r.reads → Shows code s t q told
    shows_told same e kept = record {
      code_is = same.code ∙ shows.code_is;
      setup_is = same.setup ∙ shows.setup_is;
      number_is = same.number ∙ shows.number_is;
      entries = ap (λ (z : Told). z.entries) e ∙ shows.entries;
      pieces = ap (λ (z : Told). z.pieces) e ∙ shows.pieces;
      reads = kept ∙ shows.reads ∙ ap (λ f. kept_reads f told) (sym same.formula);
      thread = subst (λ th. IsSameThread code s t th told.thread) (sym (ap (λ (z : Told). z.thread) e)) shows.thread;
    }

    -- both come to the same by their quiet steps
    pub rests_alike : HasRested r q → settled code s t q.flow.kept.thread ≡ settled code s t r.flow.kept.thread
    rests_alike h =
        sym (settled_in q q.flow.kept.thread (h.same.code ∙ shows.code_is) (h.same.setup ∙ shows.setup_is) (h.same.number ∙ shows.number_is))
        ∙ h.rest
        ∙ settled_in r r.flow.kept.thread shows.code_is shows.setup_is shows.number_is

    -- nor do quiet steps change it
    pub shows_rested : HasRested r q → has_ended r.flow.kept.thread.phase ≡ false → Shows code s t q told
    shows_rested h lives = record {
      code_is = h.same.code ∙ shows.code_is;
      setup_is = h.same.setup ∙ shows.setup_is;
      number_is = h.same.number ∙ shows.number_is;
      entries = h.entries ∙ shows.entries;
      pieces = h.pieces ∙ shows.pieces;
      reads = h.reads ∙ shows.reads ∙ ap (λ f. kept_reads f told) (sym h.same.formula);
      thread = ⊎_elim (λ e. inl (rests_alike h ∙ e)) (λ x. absurd (true≢false (sym x.0 ∙ lives))) shows.thread;
    }

    pub phase_rested : HasRested r q → q.flow.kept.thread.phase ≡ r.flow.kept.thread.phase
    phase_rested h =
        sym (settled_keeps_all code s t q.flow.kept.thread).phase
        ∙ ap (λ (z : Thread). z.phase) (rests_alike h)
        ∙ (settled_keeps_all code s t r.flow.kept.thread).phase

-- ---- marks that are to come

-- each mark is one event
pub marks_count : (code : Code) (s : SetupView) (t n : ℕ) (told : Told) → AreMarks code s t n told → (after_marks code s t n told).thread.count ≡ told.thread.count + n
marks_count code s t zero told h = omega arith
marks_count code s t (suc n) told h =
    let before = marks_count code s t n told h.0 in
    let th = (after_marks code s t n told).thread in
    let quiet = settled_count code s t th in
    let one = (action_counts code s t (settled code s t th) action.Mark (pos 0) tt h.1).count in
    omega arith

-- ---- a seat and a run

-- notes change nothing of the thread
pub noted_on : (v : SeatView) (n : ℕ) (r : Stepping) (ns : List Note) → Carries v n r → Carries (record v { notes = ns }) n r
noted_on v n r ns c = record { reached = c.reached; ahead = c.ahead; shows = c.shows; stripes = c.stripes }

pub carries_at : (v w : SeatView) (n m : ℕ) (r : Stepping) → w ≡ v → m ≡ n → Carries v n r → Carries w m r
carries_at v w n m r e f c = subst (λ z. Carries z m r) (sym e) (subst (λ k. Carries v k r) (sym f) c)

-- the seat's thread has come to a state that the run shows
pub arrives : (v : SeatView) (told : Told) (q : Stepping) → IsReached (with_thread v told) → Shows v.code v.setup v.from q told → HasItsStripes told.thread → Carries (with_thread v told) 0 q
arrives v told q reached shows stripes = record { reached = reached; ahead = tt; shows = shows; stripes = stripes }

module _ (v : SeatView) (n : ℕ) (r : Stepping) (c : Carries v n r) where
  abbrev pub th : Thread
  th = r.flow.kept.thread

  abbrev pub known : Thread
  known = (pending v n).thread

  pub told_on : (q : Stepping) → IsSameRun r q → told_of q ≡ told_of r → q.reads ≡ r.reads → Carries v n q
  told_on q same e kept = record { reached = c.reached; ahead = c.ahead; shows = shows_told v.code v.setup v.from r q (pending v n) c.shows same e kept; stripes = c.stripes }

  pub rested_on : (q : Stepping) → HasRested r q → has_ended th.phase ≡ false → Carries v n q
  rested_on q h lives = record { reached = c.reached; ahead = c.ahead; shows = shows_rested v.code v.setup v.from r q (pending v n) c.shows h lives; stripes = c.stripes }

  pub rested_phase : (q : Stepping) → HasRested r q → q.flow.kept.thread.phase ≡ th.phase
  rested_phase q h = phase_rested v.code v.setup v.from r q (pending v n) c.shows h

  -- both are in the same phase
  pub same_phase : known.phase ≡ th.phase
  same_phase = ⊎_elim
      (λ e. sym (settled_keeps_all v.code v.setup v.from known).phase ∙ ap (λ (z : Thread). z.phase) (sym e) ∙ (settled_keeps_all v.code v.setup v.from th).phase)
      (λ h. h.1)
      c.shows.thread

  -- by its quiet steps the seat's thread comes to where the run's comes
  pub alike : has_ended th.phase ≡ false → settled v.code v.setup v.from th ≡ settled v.code v.setup v.from known
  alike lives = ⊎_elim (λ e. e) (λ h. absurd (true≢false (sym h.0 ∙ lives))) c.shows.thread

  pub same_count : has_ended th.phase ≡ false → known.count ≡ th.count
  same_count lives = sym (settled_count v.code v.setup v.from known) ∙ ap (λ (z : Thread). z.count) (sym (alike lives)) ∙ settled_count v.code v.setup v.from th

  -- no more marks are to come than there were events
  pub few_marks : has_ended th.phase ≡ false → n ≤ th.count
  few_marks lives =
      let counts = marks_count v.code v.setup v.from n (own v) c.ahead in
      let same = same_count lives in
      omega arith

  -- what the run does next
  pub acts : (a : Action) → next_of r ≡ a → action_at v.code v.setup v.from th ≡ a
  acts a e = sym (ap (λ z. action_at z r.flow.setup r.flow.number th) c.shows.code_is ∙ ap (λ z. action_at v.code z r.flow.number th) c.shows.setup_is ∙ ap (λ k. action_at v.code v.setup k th) c.shows.number_is) ∙ e

  pub lives_if : (a : Action) → next_of r ≡ a → a ≢ action.Ended → has_ended th.phase ≡ false
  lives_if a e acting = by (has_ended th.phase) refl
    where
      by : (b : Rattle.std.specs.Prelude.Bool) → has_ended th.phase ≡ b → b ≡ false
      by true h = absurd (acting (sym (acts a e) ∙ ended_action v.code v.setup v.from th h))
      by false h = refl

  module _ (rests : IsSettled r) where
    -- a run whose quiet steps are made is where the seat's thread comes to by its own
    pub comes : has_ended th.phase ≡ false → settled v.code v.setup v.from known ≡ th
    comes lives = sym (alike lives) ∙ sym (settled_in v.code v.setup v.from r th c.shows.code_is c.shows.setup_is c.shows.number_is) ∙ rests

    pub comes_next : (a : Action) → has_ended th.phase ≡ false → next_of r ≡ a → IsNext v n a
    comes_next a lives e = record { marks = c.ahead; comes = ap (action_at v.code v.setup v.from) (comes lives) ∙ acts a e }
