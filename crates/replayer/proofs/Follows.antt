-- A follower's turns keep it sound, and it is so at the start.
use Rattle.std.proofs.Common.{◌≡◌, ℕ, ◌+◌, ◌<◌, ◌≤◌, Bool, true, false, [], ◌∷◌, ◌++◌, length, take, None, Some, min, refl, sym, ap, subst, ◌∙◌, inl, inr, add-one, arith}
use Rattle.std.specs.Prelude.{slice_get, option_to_list, ◌||◌}
use Rattle.std.proofs.lemmas.Bool.{true≢false}
use Rattle.std.proofs.lemmas.Option.{same_Some, slice_get_within}
use Rattle.sync_objects.specs.declared.entry.Noted.{Noted}
use Rattle.flow_code.specs.Next.{has_ended}
use Rattle.core_run.specs.Machine.{Told}
use Rattle.shared_cells.specs.Rule.{Board}
use Rattle.shared_cells.specs.Seats.{view_of, IsSeatOf}
use Rattle.shared_cells.specs.Views.{SeatView, looked, departing, lowered}
use Rattle.shared_cells.specs.declared.seat.Seat.{Seat}
use Rattle.thread_step.specs.Steps.{Stepping}
use Rattle.weak_turns.specs.Finding.{HasRested}
use Rattle.weak_turns.specs.Shown.{Carries, IsCarrying}
use Rattle.weak_turns.specs.Turns.{SawNoMemory}
use Rattle.weak_turns.proofs.Showing.{carries_at, noted_on, same_phase, rested_on, rested_phase}
use Rattle.replayer.specs.Following.{Following, IsSound, IsOnTrack, StandsSo, TriedIs, next_of, is_over, positions_after, IsMetBy}
use Rattle.replayer.specs.Steps.{told_at, left_by, IsInStep, HasDeparted, StepIs, Comes}
use Rattle.replayer.specs.Wants.{noted_in}
use Rattle.replayer.specs.declared.step.Step.{Step}
use Rattle.replayer.specs.declared.step.Step.TheVariants as step
use Rattle.replayer.specs.declared.tried.Tried.{Tried}
use Rattle.replayer.specs.declared.wanted.Wanted.{Wanted}
use Rattle.replayer.proofs.Attempts.{keeps_still, told_by}
use Rattle.replayer.proofs.Departing.{ended, left-append}
use Rattle.replayer.proofs.Listing.{take_next}

-- a thread whose run has ended departs
pub ended_departs : (cells : Board) (seat : Seat) (run : Stepping) (x : Noted) → IsCarrying cells seat run → IsInStep (told_at seat) x → has_ended run.flow.kept.thread.phase ≡ true → Comes cells seat seat run x step.Departs
ended_departs cells seat run x c in_step over = record {
  carrying = c;
  keeps = keeps_still seat;
  is = (refl, ended (view_of seat) (told_at seat) x (ap has_ended (same_phase (view_of seat) seat.marks run c.carries) ∙ over) in_step);
}

-- quiet steps of the run
pub rested_carrying : (cells : Board) (seat : Seat) (run q : Stepping) → IsCarrying cells seat run → HasRested run q → has_ended run.flow.kept.thread.phase ≡ false → IsCarrying cells seat q
rested_carrying cells seat run q c h lives = record { seat_of = c.seat_of; carries = rested_on (view_of seat) seat.marks run c.carries q h lives }

pub rested_lives : (cells : Board) (seat : Seat) (run q : Stepping) → IsCarrying cells seat run → HasRested run q → has_ended run.flow.kept.thread.phase ≡ false → has_ended q.flow.kept.thread.phase ≡ false
rested_lives cells seat run q c h lives = ap has_ended (rested_phase (view_of seat) seat.marks run c.carries q h) ∙ lives

-- a seat that has put a position shows its thread as before
pub lowered_on : (v : SeatView) (position found n : ℕ) (r : Stepping) → Carries v n r → Carries (lowered v position found) n r
lowered_on v position found n r c = record { reached = c.reached; ahead = c.ahead; shows = c.shows; stripes = c.stripes }

-- nor does a look change it, or one at the departure
pub departing_on : (v : SeatView) (word value n : ℕ) (r : Stepping) → Carries v n r → Carries (departing v word value) n r
departing_on v word value n r c = record { reached = c.reached; ahead = c.ahead; shows = c.shows; stripes = c.stripes }

pub looked_carrying : (cells : Board) (old mid : Seat) (run : Stepping) (word value : ℕ) → view_of mid ≡ looked (view_of old) word value → mid.marks ≡ old.marks → IsSeatOf cells mid → IsCarrying cells old run → IsCarrying cells mid run
looked_carrying cells old mid run word value view marks of c = record { seat_of = of; carries = carries_at (looked (view_of old) word value) (view_of mid) old.marks mid.marks run view marks (noted_on (view_of old) old.marks run _ c.carries) }

pub departing_carrying : (cells : Board) (old mid : Seat) (run : Stepping) (word value : ℕ) → view_of mid ≡ departing (view_of old) word value → mid.marks ≡ old.marks → IsSeatOf cells mid → IsCarrying cells old run → IsCarrying cells mid run
departing_carrying cells old mid run word value view marks of c = record { seat_of = of; carries = carries_at (departing (view_of old) word value) (view_of mid) old.marks mid.marks run view marks (departing_on (view_of old) word value old.marks run c.carries) }

pub lowered_carrying : (cells : Board) (old mid : Seat) (run : Stepping) (position found : ℕ) → view_of mid ≡ lowered (view_of old) position found → mid.marks ≡ old.marks → IsSeatOf cells mid → IsCarrying cells old run → IsCarrying cells mid run
lowered_carrying cells old mid run position found view marks of c = record { seat_of = of; carries = carries_at (lowered (view_of old) position found) (view_of mid) old.marks mid.marks run view marks (lowered_on (view_of old) position found old.marks run c.carries) }

-- a thread that departs puts the entry's position
pub departs_tried : (cells : Board) (old s2 s3 s4 : Seat) (run : Stepping) (w : Wanted) (bound found : ℕ) (st : Step) → w.position < bound → st ≡ step.Departs → (v2 : SeatView) → view_of s2 ≡ v2 → v2.from ≡ (view_of old).from → v2.positions ≡ (view_of old).positions → v2.met ≤ bound → told_at s2 ≡ told_at old → Comes cells s2 s3 run w.noted st → IsSeatOf cells s4 → view_of s4 ≡ lowered (view_of s3) w.position found → s4.marks ≡ s3.marks → TriedIs cells old s4 run w (record { bound = bound; step = st })
departs_tried cells old s2 s3 s4 run w bound found st before is v2 view2 from2 positions2 met2 told2 comes seat4 view4 marks4 =
    subst (λ z. TriedIs cells old s4 run w (record { bound = bound; step = z })) (sym is) (record {
      carrying = lowered_carrying cells s3 s4 run w.position found view4 marks4 seat4 comes.carrying;
      thread = ap (λ (z : SeatView). z.from) view4 ∙ comes.keeps.thread ∙ ap (λ (z : SeatView). z.from) view2 ∙ from2;
      bound = let m = met3 in let k = met4 in omega (arith, m, k, met2);
      met = let k = met4 in omega (arith, k);
      positions = ap (λ (z : SeatView). z.positions) view4 ∙ ap (λ ps. w.position ∷ ps) (comes.keeps.positions ∙ ap (λ (z : SeatView). z.positions) view2 ∙ positions2);
      early = λ le. absurd (omega (arith, before, le));
      is = (told4 ∙ gone.0 ∙ told2, subst (λ told. HasDeparted (view_of s4) told w.noted) (sym told4) (subst (λ v. HasDeparted v (told_at s3) w.noted) (sym view4) gone.1));
    })
  where
    gone : StepIs s2 s3 w.noted step.Departs
    gone = subst (StepIs s2 s3 w.noted) is comes.is

    told4 : told_at s4 ≡ told_at s3
    told4 = told_by s4 (lowered (view_of s3) w.position found) s3.marks view4 marks4

    met3 : (view_of s3).met ≡ v2.met
    met3 = comes.keeps.met ∙ ap (λ (z : SeatView). z.met) view2

    met4 : (view_of s4).met ≡ min (view_of s3).met (min found w.position)
    met4 = ap (λ (z : SeatView). z.met) view4

-- the thread is as before at a seat that has looked at two words, the second one being that of the departure
pub looked_twice : (old s1 s2 : Seat) (word value place result : ℕ) → view_of s1 ≡ looked (view_of old) word value → s1.marks ≡ old.marks → view_of s2 ≡ departing (view_of s1) place result → s2.marks ≡ s1.marks → (view_of s2 ≡ departing (looked (view_of old) word value) place result) × (told_at s2 ≡ told_at old)
looked_twice old s1 s2 word value place result view1 marks1 view2 marks2 =
    let view = view2 ∙ ap (λ v. departing v place result) view1 in
    (view, told_by s2 (departing (looked (view_of old) word value) place result) old.marks view (marks2 ∙ marks1))

-- ---- a turn

-- a follower that isn't over is on its track and hasn't departed
pub record IsGoing (f : Following) (w : Wanted) : Type 0 where
  pub track : IsOnTrack f
  pub stays : f.has_departed ≡ false
  pub in_step : IsInStep (told_at f.seat) w.noted
  pub none : (view_of f.seat).positions ≡ option_to_list f.known
  pub alive : f.is_out ≡ false

or_left : (a b : Bool) → (a || b) ≡ false → a ≡ false
or_left true b e = e
or_left false b e = refl

pub is_going : (f : Following) (w : Wanted) → IsSound f → is_over f ≡ false → next_of f ≡ Some w → IsGoing f w
is_going f w sound open_is next =
    let both = or_left (f.is_out || f.has_departed) _ open_is in
    let alive = or_left f.is_out f.has_departed both in
    let stays : f.has_departed ≡ false = ap (λ b. b || f.has_departed) (sym alive) ∙ both in
    let track = sound.on_track alive in
    let st : StandsSo false f = subst (λ b. StandsSo b f) stays track.stands in
    record { track = track; stays = stays; in_step = st.1 w next; none = st.0; alive = alive }

module _ (f : Following) (w : Wanted) (sound : IsSound f) (next : next_of f ≡ Some w) (going : IsGoing f w) (seat : Seat) (run : Stepping) (tried : Tried) (is : TriedIs f.cells f.seat seat run w tried) where
  own_still : (k : ℕ) (v : Wanted) → slice_get f.wanted k ≡ Some v → v.noted.entry.thread ≡ (view_of seat).from
  own_still k v e = sound.own k v e ∙ sym is.thread

  same_next : (v : Wanted) → next_of f ≡ Some v → w ≡ v
  same_next v e = same_Some w v (sym next ∙ e)

  abbrev pub after : (made : ℕ) → (departed out : Bool) → Following
  after made departed out = record f { seat = seat; run = run; bound = tried.bound; made = made; has_departed = departed; is_out = out }

  sounds : (made : ℕ) (departed : Bool) → made ≤ length f.wanted → made ≤ f.turns → IsOnTrack (after made departed false) → IsSound (after made departed false)
  sounds made departed within listed track = record {
    runnable = sound.runnable;
    limits = sound.limits;
    carrying = is.carrying;
    own = own_still;
    within = within;
    few = sound.few;
    listed = listed;
    on_track = λ _. track;
    cause = λ e. absurd (true≢false (sym e));
  }

  still : (made : ℕ) → IsSound (after made false false) → IsSound (after made f.has_departed f.is_out)
  still made h = subst (λ d. IsSound (after made d f.is_out)) (sym going.stays) (subst (λ o. IsSound (after made false o)) (sym going.alive) h)

  pub sound_waits : tried.step ≡ step.Waits → IsSound (after f.made f.has_departed f.is_out)
  sound_waits e =
      let told : told_at seat ≡ told_at f.seat = subst (StepIs f.seat seat w.noted) e is.is in
      let put : (view_of seat).positions ≡ (view_of f.seat).positions = is.positions ∙ ap (λ s. positions_after s w.position (view_of f.seat).positions) e in
      still f.made (sounds f.made false sound.within sound.listed (record {
        made = ap (λ (z : Told). z.entries) told ∙ going.track.made;
        bound = is.bound;
        stands = (put ∙ going.none, λ v q. subst (λ z. IsInStep z v.noted) (sym told) (subst (λ (z : Wanted). IsInStep (told_at f.seat) z.noted) (same_next v q) going.in_step));
      }))

  pub sound_goes : tried.step ≡ step.Goes → IsSound (after f.made f.has_departed f.is_out)
  sound_goes e =
      let went : StepIs f.seat seat w.noted step.Goes = subst (StepIs f.seat seat w.noted) e is.is in
      let put : (view_of seat).positions ≡ (view_of f.seat).positions = is.positions ∙ ap (λ s. positions_after s w.position (view_of f.seat).positions) e in
      still f.made (sounds f.made false sound.within sound.listed (record {
        made = went.0 ∙ going.track.made;
        bound = is.bound;
        stands = (put ∙ going.none, λ v q. inl (subst (λ (z : Wanted). (told_at seat).thread.count ≤ z.noted.entry.count) (same_next v q) went.1));
      }))

  pub sound_makes : f.made < f.turns → tried.step ≡ step.Makes → IsSound (after (f.made + 1) f.has_departed f.is_out)
  sound_makes room e =
      let made : StepIs f.seat seat w.noted step.Makes = subst (StepIs f.seat seat w.noted) e is.is in
      let put : (view_of seat).positions ≡ (view_of f.seat).positions = is.positions ∙ ap (λ s. positions_after s w.position (view_of f.seat).positions) e in
      let inside = slice_get_within f.wanted f.made w next in
      let left = ap left_by made.0 ∙ left-append (told_at f.seat).entries w.noted in
      let count = made.1 in
      still (f.made + 1) (sounds (f.made + 1) false (omega (arith, inside)) (omega (arith, room)) (record {
        made = made.0 ∙ ap (λ xs. xs ++ w.noted ∷ []) going.track.made ∙ sym (ap (λ n. noted_in (take n f.wanted)) (add-one f.made) ∙ take_next f.made f.wanted w next);
        bound = is.bound;
        stands = (put ∙ going.none, λ v q. inr (omega (arith, left, count)));
      }))

  pub sound_departs : tried.step ≡ step.Departs → IsSound (after f.made true f.is_out)
  sound_departs e =
      let gone : StepIs f.seat seat w.noted step.Departs = subst (StepIs f.seat seat w.noted) e is.is in
      let put : (view_of seat).positions ≡ w.position ∷ (view_of f.seat).positions = is.positions ∙ ap (λ s. positions_after s w.position (view_of f.seat).positions) e in
      let met : (view_of seat).met ≤ w.position = subst (λ s. IsMetBy s (view_of seat).met w.position) e is.met in
      subst (λ o. IsSound (after f.made true o)) (sym going.alive) (sounds f.made true sound.within sound.listed (record {
        made = ap (λ (z : Told). z.entries) gone.0 ∙ going.track.made;
        bound = is.bound;
        stands = (w, next, put ∙ ap (λ ps. w.position ∷ ps) going.none, met, gone.1);
      }))

-- ---- before the first turn

-- a follower that has put a position, where it has put none before
pub sound_known : (f : Following) (seat : Seat) (position found : ℕ) → IsSound f → f.known ≡ None → f.has_departed ≡ false → IsSeatOf f.cells seat → view_of seat ≡ lowered (view_of f.seat) position found → seat.marks ≡ f.seat.marks → IsSound (record f { seat = seat; known = Some position })
sound_known f seat position found sound none stays of_cells view marks = record {
  runnable = sound.runnable;
  limits = sound.limits;
  carrying = lowered_carrying f.cells f.seat seat f.run position found view marks of_cells sound.carrying;
  own = λ k w e. sound.own k w e ∙ sym (ap (λ (z : SeatView). z.from) view);
  within = sound.within;
  few = sound.few;
  listed = sound.listed;
  on_track = λ alive. track (sound.on_track alive);
  cause = λ out. subst (λ (z : SeatView). SawNoMemory f.cells z.notes) (sym view) (sound.cause out);
}
  where
    told : told_at seat ≡ told_at f.seat
    told = told_by seat (lowered (view_of f.seat) position found) f.seat.marks view marks

    track : IsOnTrack f → IsOnTrack (record f { seat = seat; known = Some position })
    track t =
        let st : StandsSo false f = subst (λ b. StandsSo b f) stays t.stands in
        let now : StandsSo false (record f { seat = seat; known = Some position }) =
        (ap (λ (z : SeatView). z.positions) view ∙ ap (λ ps. position ∷ ps) (st.0 ∙ ap option_to_list none), λ w e. subst (λ z. IsInStep z w.noted) (sym told) (st.1 w e)) in
        let low = t.bound in
        let met = ap (λ (z : SeatView). z.met) view in
        record {
          made = ap (λ (z : Told). z.entries) told ∙ t.made;
          bound = omega (arith, low, met);
          stands = subst (λ b. StandsSo b (record f { seat = seat; known = Some position })) (sym stays) now;
        }
