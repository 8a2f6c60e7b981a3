-- What the thread's own next action comes to.
use Rattle.std.proofs.Common.{◌≡◌, ℕ, None, sym, ap, subst, ◌∙◌, inl, inr, ⊎_elim}
use Rattle.word_semantics.specs.declared.event.Action.TheVariants as action
use Rattle.flow_code.specs.Next.{action_at}
use Rattle.flow_code.specs.Settle.{IsRunnable}
use Rattle.flow_code.proofs.Settle.{settled_action}
use Rattle.sync_objects.specs.declared.object.ObjId.{ObjId}
use Rattle.sync_objects.specs.declared.operation.Op.{Op}
use Rattle.shared_cells.specs.Plays.{Makes}
use Rattle.shared_cells.specs.Seats.{view_of, place_in, AttemptIs, IsRefused, HasMoved, IsSameSeat}
use Rattle.shared_cells.specs.Views.{SeatView, looked}
use Rattle.shared_cells.specs.declared.attempt.Attempt.{Attempt}
use Rattle.shared_cells.specs.declared.attempt.Attempt.TheVariants as attempt
use Rattle.shared_cells.specs.declared.seat.Seat.{Seat}
use Rattle.thread_step.specs.Steps.{Stepping, next_of}
use Rattle.weak_turns.specs.Shown.{Carries, IsSettled}
use Rattle.weak_turns.proofs.Showing.{acts, settled_in}

-- of a thread whose quiet steps are made the next isn't quiet
pub not_quiet : (v : SeatView) (n : ℕ) (r : Stepping) → Carries v n r → IsRunnable v.code → IsSettled r → next_of r ≡ action.Quiet → ⊥
not_quiet v n r c runnable rests e =
    settled_action v.code v.setup v.from r.flow.kept.thread runnable
    (ap (action_at v.code v.setup v.from) (sym (settled_in v.code v.setup v.from r r.flow.kept.thread c.shows.code_is c.shows.setup_is c.shows.number_is) ∙ rests) ∙ acts v n r c action.Quiet e)

-- an attempt stays what it was where the seat stays
pub attempt_same : (old mid new : Seat) (o : Op) (obj : ObjId) (came : Attempt) → IsSameSeat mid new → AttemptIs None old mid o obj came → AttemptIs None old new o obj came
attempt_same old mid new o obj (attempt.Done answer number) s a = record {
  seen = a.seen;
  next = a.next;
  moves = a.moves;
  number_is = a.number_is;
  asked = a.asked;
  later = a.later;
  makes = subst (Makes (looked (view_of old) (place_in (view_of old) obj) a.seen) (place_in (view_of old) obj) old.marks o obj a.seen answer) (sym s.view) a.makes;
  marks = s.marks ∙ a.marks;
}
attempt_same old mid new o obj (attempt.NotYet seen) s a = ⊎_elim
    (λ (x : IsRefused None old mid o obj seen). inl (record { refused = x.refused; found = x.found; later = x.later; view = s.view ∙ x.view; marks = s.marks ∙ x.marks }))
    (λ (x : HasMoved old mid obj seen). inr (record { was = x.was; differs = x.differs; found = x.found; later = x.later; view = s.view ∙ x.view; marks = s.marks ∙ x.marks }))
    a
