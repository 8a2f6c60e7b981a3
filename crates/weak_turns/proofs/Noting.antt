-- Words that a seat has met: what was seen once stays seen in the turn.
use Rattle.std.proofs.Common.{◌≡◌, ℕ, ◌+◌, ◌*◌, length, Bool, true, false, List, [], ◌∷◌, ◌++◌, append_assoc, refl, sym, ap, ◌∙◌, inl, inr, ⊎_elim, arith}
use Rattle.std.specs.Prelude.{Contains}
use Rattle.std.proofs.lemmas.List.Elements.{Contains-append_left, Contains-append_right}
use Rattle.flow_code.specs.Threads.{Thread}
use Rattle.sync_objects.specs.Packing.{shown}
use Rattle.sync_objects.specs.States.{is_running, has_live, is_idle}
use Rattle.sync_objects.specs.declared.kind.ObjKind.TheVariants as kind
use Rattle.sync_objects.specs.declared.object.ObjId.{ObjId}
use Rattle.sync_objects.specs.declared.object.ObjId.TheVariants as object
use Rattle.sync_objects.specs.declared.operation.Op.{Op}
use Rattle.shared_cells.specs.Rule.{Board}
use Rattle.shared_cells.specs.Seats.{IsSeatOf, view_of}
use Rattle.shared_cells.specs.Threads.{Way, Own, Revokes, Stops, Closes, way_of, pending}
use Rattle.shared_cells.specs.Views.{Note, SeatView, looked}
use Rattle.shared_cells.specs.declared.seat.Seat.{Seat}
use Rattle.thread_step.specs.Steps.{Stepping}
use Rattle.weak_turns.specs.Finding.{Sees}
use Rattle.weak_turns.specs.Shown.{IsCarrying}
use Rattle.weak_turns.specs.Turns.{thread_of, number_of, Meets, SawState, object_place, IsStopDue, IsCloseDue, NoEndIsDue, runs, started, may_start, IsRevokeDue, NoRevokeIsDue, AreUnwanted, IsFree, IsCause, StepIs}
use Rattle.weak_turns.specs.declared.played.Played.{Played}
use Rattle.weak_turns.specs.declared.played.Played.TheVariants as played
use Rattle.weak_turns.proofs.Showing.{carries_at, noted_on}

-- what is asked of the words of the program, of the threads and of a slot
abbrev pub running : ℕ → Bool
running w = is_running (shown kind.Halt w)

abbrev pub live : ℕ → Bool
live w = has_live (shown kind.Threads w)

abbrev pub idle : ℕ → Bool
idle w = is_idle (shown kind.Slot w)

abbrev pub Within : List Note → List Note → Type 0
Within xs ys = (x : Note) → Contains xs x → Contains ys x

pub newer : (xs ys : List Note) → Within xs (xs ++ ys)
newer xs ys x h = Contains-append_left xs ys x h

pub older : (xs ys : List Note) → Within ys (xs ++ ys)
older xs ys x h = Contains-append_right xs ys x h

module _ (xs ys : List Note) (all : Within xs ys) (cells : Board) where
  pub state_on : (obj : ObjId) (test : ℕ → Bool) (answer : Bool) → SawState cells xs obj test answer → SawState cells ys obj test answer
  state_on obj test answer s = (s.0, all _ s.1, s.2)

  pub stop_on : (th : Thread) → IsStopDue cells xs th → IsStopDue cells ys th
  stop_on th d = record { begun = d.begun; halted = state_on object.Halt running false d.halted }

  pub close_on : (t : ℕ) (th : Thread) → IsCloseDue cells t xs th → IsCloseDue cells t ys th
  close_on t th d = record { early = d.early; idle = state_on (object.Slot t) idle true d.idle; alone = ⊎_elim (λ s. inl (state_on object.Halt running false s)) (λ s. inr (state_on object.Threads live false s)) d.alone }

  pub no_end_on : (t : ℕ) (th : Thread) → NoEndIsDue cells t xs th → NoEndIsDue cells t ys th
  no_end_on t th (runs begun s) = runs begun (state_on object.Halt running true s)
  no_end_on t th (started early s) = started early (state_on (object.Slot t) idle false s)
  no_end_on t th (may_start early s u) = may_start early (state_on object.Halt running true s) (state_on object.Threads live true u)

  pub unwanted_on : (th : Thread) (since : List ℕ) (budget turn number : ℕ) → AreUnwanted cells th since budget turn xs number → AreUnwanted cells th since budget turn ys number
  unwanted_on th since budget turn number h lock stripe lt held = all _ (h lock stripe lt held)

  pub revoke_on : (th : Thread) (since : List ℕ) (budget turn lock stripe : ℕ) → IsRevokeDue cells th since budget turn xs lock stripe → IsRevokeDue cells th since budget turn ys lock stripe
  revoke_on th since budget turn lock stripe d = record {
    few_entries = d.few_entries;
    few_revokes = d.few_revokes;
    has = d.has;
    held = d.held;
    wanted = (d.wanted.0, all _ d.wanted.1, d.wanted.2);
    first = unwanted_on th since budget turn (8 * lock + stripe) d.first;
  }

  pub no_revoke_on : (th : Thread) (since : List ℕ) (budget turn : ℕ) → NoRevokeIsDue cells th since budget turn xs → NoRevokeIsDue cells th since budget turn ys
  no_revoke_on th since budget turn d = ⊎_elim inl (λ h. inr (unwanted_on th since budget turn (8 * length cells.code.locks) h)) d

  pub free_on : (mid : Seat) (since : List ℕ) (budget turn : ℕ) → IsFree cells mid since budget turn xs → IsFree cells mid since budget turn ys
  free_on mid since budget turn f = record { no_end = no_end_on (number_of mid) (thread_of mid) f.no_end; no_revoke = no_revoke_on (thread_of mid) since budget turn f.no_revoke }

  cause_on : (w : Way) (mid : Seat) (since : List ℕ) (budget turn : ℕ) (o : Op) (obj : ObjId) → IsCause w cells mid since budget turn xs o obj → IsCause w cells mid since budget turn ys o obj
  cause_on Own mid since budget turn o obj h = (free_on mid since budget turn h.0, h.1)
  cause_on (Revokes lock stripe) mid since budget turn o obj h = (no_end_on (number_of mid) (thread_of mid) h.0, revoke_on (thread_of mid) since budget turn lock stripe h.1)
  cause_on Stops mid since budget turn o obj h = stop_on (thread_of mid) h
  cause_on (Closes slot) mid since budget turn o obj h = (h.0, close_on (number_of mid) (thread_of mid) h.1)

  pub step_on : (mid new : Seat) (since later : List ℕ) (budget turn : ℕ) (p : Played) → StepIs cells mid new since later budget turn xs p → StepIs cells mid new since later budget turn ys p
  step_on mid new since later budget turn (played.Tried o obj came) h = (cause_on (way_of o obj) mid since budget turn o obj h.0, h.1, h.2)
  step_on mid new since later budget turn played.Went h = (free_on mid since budget turn h.0, h.1)

-- ---- one seat after another

pub meets_none : (a : Seat) → Meets a a []
meets_none a = record { view = refl; marks = refl }

pub meets_same : (a b : Seat) → view_of b ≡ view_of a → b.marks ≡ a.marks → Meets a b []
meets_same a b e f = record { view = e; marks = f }

pub meets_look : (a b : Seat) (word value : ℕ) → view_of b ≡ looked (view_of a) word value → b.marks ≡ a.marks → Meets a b (record { failed = false; word = word; value = value } ∷ [])
meets_look a b word value e f = record { view = e; marks = f }

abbrev noted : SeatView → List Note → SeatView
noted v ns = record v { notes = ns }

pub meets_then : (a b c : Seat) (xs ys : List Note) → Meets a b xs → Meets b c ys → Meets a c (ys ++ xs)
meets_then a b c xs ys m k = record {
  view = k.view ∙ ap (λ v. noted v (ys ++ v.notes)) m.view ∙ ap (noted (view_of a)) (sym (append_assoc ys xs (view_of a).notes));
  marks = k.marks ∙ m.marks;
}

pub same_thread : (a b : Seat) (xs : List Note) → Meets a b xs → thread_of b ≡ thread_of a
same_thread a b xs m = ap (λ v. (pending v b.marks).thread) m.view ∙ ap (λ n. (pending (view_of a) n).thread) m.marks

pub same_number : (a b : Seat) (xs : List Note) → Meets a b xs → number_of b ≡ number_of a
same_number a b xs m = ap (λ (v : SeatView). v.from) m.view

-- the seat still carries what the run shows
pub carrying_on : (cells : Board) (a b : Seat) (r : Stepping) (xs : List Note) → Meets a b xs → IsSeatOf cells b → IsCarrying cells a r → IsCarrying cells b r
carrying_on cells a b r xs m of h = record { seat_of = of; carries = carries_at (noted (view_of a) (xs ++ (view_of a).notes)) (view_of b) a.marks b.marks r m.view m.marks (noted_on (view_of a) a.marks r _ h.carries) }

-- ---- looks

abbrev pub seen : (cells : Board) → (a b : Seat) → (obj : ObjId) → (test : ℕ → Bool) → (answer : Bool) → Sees cells a b obj test answer → List Note
seen cells a b obj test answer s = record { failed = false; word = object_place cells obj; value = s.word } ∷ []

pub meets_seen : (cells : Board) (a b : Seat) (obj : ObjId) (test : ℕ → Bool) (answer : Bool) (s : Sees cells a b obj test answer) → Meets a b (seen cells a b obj test answer s)
meets_seen cells a b obj test answer s = meets_look a b (object_place cells obj) s.word s.view s.marks

pub is_seen : (cells : Board) (a b : Seat) (obj : ObjId) (test : ℕ → Bool) (answer : Bool) (s : Sees cells a b obj test answer) (want : Bool) → answer ≡ want → SawState cells (seen cells a b obj test answer s) obj test want
is_seen cells a b obj test answer s want e = (s.word, (0, omega arith, refl), s.is ∙ e)
