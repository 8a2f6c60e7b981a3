-- The end of a replay: how the threads of its followers stand by the log.
use Rattle.std.proofs.Common.{◌≡◌, ◌≢◌, ℕ, zero, suc, ◌-◌, ◌^◌, ◌<◌, ◌≤◌, Bool, true, false, List, [], ◌∷◌, length, take, Option, Some, None, refl, sym, ap, subst, ◌∙◌, ⊎_elim, ◌⊎◌, inl, inr, arith, get_or}
use Rattle.std.specs.Prelude.{slice_get, option_to_list, ◌||◌, ◌&&◌, nat_le, Contains}
use Rattle.std.specs.List.{AllZip, list_all}
use Rattle.std.specs.Option.{option_map}
use Rattle.std.proofs.lemmas.Bool.{cases_eq, leb-true, true≢false}
use Rattle.std.proofs.lemmas.List.{length-map}
use Rattle.std.proofs.lemmas.Option.{same_Some, slice_get-map, slice_get_within}
use Rattle.rr_base.proofs.Lists.{slice_get_inside}
use Rattle.sync_objects.specs.Setup.{SetupView, IsWithinLimits}
use Rattle.sync_objects.specs.declared.entry.Entry.{Entry}
use Rattle.sync_objects.specs.declared.entry.Noted.{Noted}
use Rattle.flow_code.specs.declared.code.Code.{Code}
use Rattle.flow_code.specs.Next.{has_ended}
use Rattle.flow_code.specs.Settle.{IsRunnable}
use Rattle.core_run.specs.Histories.{HasNoRace, HaveEnded, IsReachable}
use Rattle.core_run.specs.Machine.{Told, machine, start_state}
use Rattle.core_run.specs.Walks.{IsRefusedAt, IsUnfinished, WalkIs, walk_of}
use Rattle.thread_interpreter.specs.declared.access.Formula.{Formula}
use Rattle.core_run.specs.declared.outcome.Walk.{Walk}
use Rattle.core_run.specs.declared.outcome.Walk.TheVariants as walk
use Rattle.core_run.proofs.Reached.{kept}
use Rattle.replay_theory.specs.Following.{Departs}
use Rattle.replay_theory.specs.Numbered.{numbered, with_number}
use Rattle.log_walks.specs.Followed.{floor, ComesTo, HaveCome, StandsBy, Followed}
use Rattle.log_walks.specs.Known.{IsWrongAt}
use Rattle.run_theory.specs.Paths.{IsPrefixOf}
use Rattle.run_theory.specs.Steps.{State, entries_of}
use Rattle.shared_cells.specs.Closing.{Closes}
use Rattle.shared_cells.specs.Rule.{Board}
use Rattle.shared_cells.specs.Seats.{view_of, AreSeats, IsSeatOf}
use Rattle.shared_cells.specs.Threads.{own, after_marks, AreMarks}
use Rattle.shared_cells.specs.Views.{SeatView, never}
use Rattle.shared_cells.specs.Words.{objects_end, HaveGoneOn}
use Rattle.shared_cells.specs.declared.seat.Seat.{Seat}
use Rattle.shared_cells.proofs.ThreadSteps.{goes_nowhere, goes_marks}
use Rattle.run_walk.specs.declared.remains.Remains.{Remains}
use Rattle.run_walk.specs.Remains.{IsWalked, RemainsOf, remains_in}
use Rattle.run_walk.proofs.Remaining.{all_remain, same_remains}
use Rattle.weak_turns.proofs.Showing.{same_phase}
use Rattle.replayer.specs.Following.{Following, IsSound, IsOnTrack, StandsSo, next_of, is_past, is_over, made_in}
use Rattle.replayer.specs.Replays.{IsFollower, HaveFollowed, entries_taken, has_ended_in}
use Rattle.replayer.specs.Steps.{told_at, HasDeparted}
use Rattle.replayer.specs.Wants.{wanted_of, noted_in}
use Rattle.replayer.specs.declared.wanted.Wanted.{Wanted}
use Rattle.replayer.proofs.Counting.{made_enough, prefix_short, noted_short, take_within, take_beyond}
use Rattle.replayer.proofs.Listing.{wanted_are, stands_at, reached_by, take_noted, numbered-take, numbered_at, entry_at, length-numbered}

-- ---- positions

-- what a list contains is its first or in the rest
first_or_rest : (x : ℕ) (xs : List ℕ) (y : ℕ) → Contains (x ∷ xs) y → (x ≡ y) ⊎ Contains xs y
first_or_rest x xs y c = by c.0 c.1 c.2
  where
    by : (k : ℕ) → k < length (x ∷ xs) → get_or (x ∷ xs) k y ≡ y → (x ≡ y) ⊎ Contains xs y
    by zero less is = inl is
    by (suc k) less is = inr (k, omega (arith, less), is)

-- what at most one contains is that one
one_known : (o : Option ℕ) (y : ℕ) → Contains (option_to_list o) y → o ≡ Some y
one_known None y c = let less = c.1 in absurd (omega (arith, less))
one_known (Some x) y c = ⊎_elim (λ e. ap Some e) (λ (more : Contains [] y). let less = more.1 in absurd (omega (arith, less))) (first_or_rest x [] y c)

-- ---- one follower

module _ (cells : Board) (es : List Entry) (t : ℕ) (f : Following) (is : IsFollower cells es t f) (sound : IsSound f) (alive : f.is_out ≡ false) where
  abbrev v : SeatView
  v = view_of f.seat

  track : IsOnTrack f
  track = sound.on_track alive

  -- the thread's entries are the first of its entries of the log
  entries_are : (told_at f.seat).entries ≡ noted_in (take f.made (wanted_of t es))
  entries_are = track.made ∙ ap (λ ws. noted_in (take f.made ws)) is.wanted

  pub follows : IsPrefixOf (told_at f.seat).entries (entries_of t (numbered es))
  follows = subst (λ xs. IsPrefixOf xs (entries_of t (numbered es))) (sym entries_are) (subst (IsPrefixOf (noted_in (take f.made (wanted_of t es)))) (wanted_are t 0 (numbered es)) (take_noted f.made (wanted_of t es)))

  -- its next entry stands after what it knows of the departure
  following : is_over f ≡ true → (w : Wanted) → next_of f ≡ Some w → v.met ≤ w.position
  following over w e = by f.has_departed refl track.stands
    where
      met : v.met ≤ f.bound
      met = track.bound

      by : (b : Bool) → f.has_departed ≡ b → StandsSo b f → v.met ≤ w.position
      by true q s =
          let same : s.0 ≡ w = same_Some s.0 w (sym s.1 ∙ e) in
          subst (λ (z : Wanted). v.met ≤ z.position) same s.3
      by false q s =
          let le : nat_le f.bound w.position ≡ true = ap (is_past f.bound) (sym e) ∙ ap (λ b. b || is_past f.bound (next_of f)) (sym q) ∙ ap (λ b. b || f.has_departed || is_past f.bound (next_of f)) (sym alive) ∙ over in
          let bound = leb-true f.bound w.position le in
          omega (arith, met, bound)

  next_is : (w : Wanted) → slice_get (wanted_of t es) f.made ≡ Some w → next_of f ≡ Some w
  next_is w e = ap (λ ws. slice_get ws f.made) is.wanted ∙ e

  pub reached : is_over f ≡ true → (departure : ℕ) → departure ≤ v.met → IsPrefixOf (entries_of t (numbered (take departure es))) (told_at f.seat).entries
  reached over departure low =
      subst (IsPrefixOf (entries_of t (numbered (take departure es)))) (sym entries_are)
      (subst (λ xs. IsPrefixOf (entries_of t xs) (noted_in (take f.made (wanted_of t es)))) (sym (numbered-take [] departure es))
      (reached_by t 0 (numbered es) f.made departure (λ w e. let le = following over w (next_is w e) in omega (arith, le, low))))

  -- the position that it has put is that of an entry of its own, from which it has departed
  pub record HasPut (departure : ℕ) : Type 0 where
    pub w : Wanted
    pub next : slice_get (wanted_of t es) f.made ≡ Some w
    pub position : w.position ≡ departure
    pub departs : HasDeparted v (told_at f.seat) w.noted

  -- a position that it has put is that of an entry from which it has departed, or the one that was known
  pub has_put : (departure : ℕ) → Contains v.positions departure → HasPut departure ⊎ (f.known ≡ Some departure)
  has_put departure contains = by f.has_departed track.stands
    where
      by : (b : Bool) → StandsSo b f → HasPut departure ⊎ (f.known ≡ Some departure)
      by false s = inr (one_known f.known departure (subst (λ ps. Contains ps departure) s.0 contains))
      by true s = ⊎_elim
          (λ e. inl (record {
            w = s.0;
            next = ap (λ ws. slice_get ws f.made) (sym is.wanted) ∙ s.1;
            position = e;
            departs = s.4;
          }))
          (λ more. inr (one_known f.known departure more))
          (first_or_rest s.0.position (option_to_list f.known) departure (subst (λ ps. Contains ps departure) s.2 contains))

-- what stands among the first ones stands there
take_at : {A : Type 0} (n : ℕ) (xs : List A) (k : ℕ) (x : A) → slice_get (take n xs) k ≡ Some x → slice_get xs k ≡ Some x
take_at zero xs k x e = cc
take_at (suc n) [] k x e = cc
take_at (suc n) (y ∷ xs) zero x e = e
take_at (suc n) (y ∷ xs) (suc k) x e = take_at n xs k x e

-- a walk takes no more entries than there are
pub walk_short : (code : Code) (s : SetupView) (es : List Entry) (f : Formula) (w : Walk) → WalkIs code s es f w → entries_taken es w ≤ length es
walk_short code s es f (walk.Done out reads ends) h = omega arith
walk_short code s es f (walk.Trapped kind thread line out reads ends) h = omega arith
walk_short code s es f (walk.Wrong at) h =
    let is = h.1 in
    ⊎_elim (λ r. let lt = r.within in omega (arith, is, lt)) (λ u. let all = u.all in omega (arith, is, all)) h.2

-- ---- all followers

option_map_some : {A B : Type 0} (g : A → B) (o : Option A) (b : B) → option_map g o ≡ Some b → (a : A) × (o ≡ Some a) × (g a ≡ b)
option_map_some g None b e = cc
option_map_some g (Some a) b e = (a, refl, same_Some (g a) b e)

-- none of them hasn't ended, or one hasn't
one_open : (fs : List Following) → list_all has_ended_in fs ≡ false → (k : ℕ) × (f : Following) × (slice_get fs k ≡ Some f) × (has_ended_in f ≡ false)
one_open [] e = cc
one_open (f ∷ fs) e = by (has_ended_in f) refl e (one_open fs)
  where
    by : (b : Bool) → has_ended_in f ≡ b → (b && list_all has_ended_in fs) ≡ false → (list_all has_ended_in fs ≡ false → (k : ℕ) × (g : Following) × (slice_get fs k ≡ Some g) × (has_ended_in g ≡ false)) → (k : ℕ) × (g : Following) × (slice_get (f ∷ fs) k ≡ Some g) × (has_ended_in g ≡ false)
    by true q h more = let r = more h in (suc r.0, r.1, r.2, r.3)
    by false q h more = (0, f, refl, q)

-- where all have ended, each has
one_ended : (fs : List Following) → list_all has_ended_in fs ≡ true → (k : ℕ) (f : Following) → slice_get fs k ≡ Some f → has_ended_in f ≡ true
one_ended [] e k f at = cc
one_ended (x ∷ fs) e k f at = by (has_ended_in x) refl e (λ h j there. one_ended fs h j f there) k at
  where
    by : (b : Bool) → has_ended_in x ≡ b → (b && list_all has_ended_in fs) ≡ true → (list_all has_ended_in fs ≡ true → (j : ℕ) → slice_get fs j ≡ Some f → has_ended_in f ≡ true) → (k : ℕ) → slice_get (x ∷ fs) k ≡ Some f → has_ended_in f ≡ true
    by false q h more k at = cc
    by true q h more zero at = ap has_ended_in (sym (same_Some x f at)) ∙ q
    by true q h more (suc k) at = more h k at

module _ (code : Code) (s : SetupView) (cells : Board) (es : List Entry) (seats : List Seat) (remains : List Remains) (all_ended : Bool) (h : HaveFollowed cells es seats remains all_ended) (code_is : cells.code ≡ code) (setup_is : cells.setup ≡ s) where
  -- the follower of a seat
  pub record OfSeat (t : ℕ) (seat : Seat) : Type 0 where
    pub f : Following
    pub there : slice_get h.fs t ≡ Some f
    pub seat_is : f.seat ≡ seat
    pub is : IsFollower cells es t f
    pub alive : f.is_out ≡ false
    pub sound : IsSound f
    pub over : is_over f ≡ true

  pub of_seat : (t : ℕ) (seat : Seat) → slice_get seats t ≡ Some seat → OfSeat t seat
  of_seat t seat e =
      let r = option_map_some (λ (f : Following). f.seat) (slice_get h.fs t) seat (sym (slice_get-map (λ (f : Following). f.seat) h.fs t) ∙ ap (λ xs. slice_get xs t) (sym h.seats_are) ∙ e) in
      let whole = h.whole t r.0 r.1 in
      record {
        f = r.0;
        there = r.1;
        seat_is = r.2;
        is = h.done.followers.each t r.0 r.1;
        alive = whole.0;
        sound = whole.1;
        over = h.done.over t r.0 r.1;
      }

  pub seat_count : length seats ≡ s.slots
  seat_count = ap length h.seats_are ∙ length-map h.fs (λ (f : Following). f.seat) ∙ h.done.followers.count ∙ ap (λ (z : SetupView). z.slots) setup_is

  seat_of : (t : ℕ) (seat : Seat) → slice_get seats t ≡ Some seat → IsSeatOf cells seat
  seat_of t seat e =
      let o = of_seat t seat e in
      subst (λ (b : Board). IsSeatOf b seat) o.is.cells_are (subst (IsSeatOf o.f.cells) o.seat_is o.sound.carrying.seat_of)

  from_is : (t : ℕ) (seat : Seat) → slice_get seats t ≡ Some seat → (view_of seat).from ≡ t
  from_is t seat e = let o = of_seat t seat e in subst (λ (z : Seat). (view_of z).from ≡ t) o.seat_is o.is.thread

  pub are_seats : AreSeats cells seats
  are_seats = record {
    count = seat_count ∙ ap (λ (z : SetupView). z.slots) (sym setup_is);
    each = λ t seat e. (seat_of t seat e, from_is t seat e);
  }

  code_here : (t : ℕ) (seat : Seat) → slice_get seats t ≡ Some seat → (view_of seat).code ≡ code
  code_here t seat e = (seat_of t seat e).code_is ∙ code_is

  setup_here : (t : ℕ) (seat : Seat) → slice_get seats t ≡ Some seat → (view_of seat).setup ≡ s
  setup_here t seat e = (seat_of t seat e).setup_is ∙ setup_is

  -- the marks of a seat's thread that are still to come
  marks_ahead : (t : ℕ) (seat : Seat) → slice_get seats t ≡ Some seat → AreMarks code s t seat.marks (own (view_of seat))
  marks_ahead t seat e =
      let o = of_seat t seat e in
      let ahead : AreMarks (view_of seat).code (view_of seat).setup (view_of seat).from seat.marks (own (view_of seat)) = subst (λ (z : Seat). AreMarks (view_of z).code (view_of z).setup (view_of z).from z.marks (own (view_of z))) o.seat_is o.sound.carrying.carries.ahead in
      subst (λ c. AreMarks c s t seat.marks (own (view_of seat))) (code_here t seat e)
      (subst (λ z. AreMarks (view_of seat).code z t seat.marks (own (view_of seat))) (setup_here t seat e)
      (subst (λ k. AreMarks (view_of seat).code (view_of seat).setup k seat.marks (own (view_of seat))) (from_is t seat e) ahead))

  told_is : (t : ℕ) (seat : Seat) → slice_get seats t ≡ Some seat → told_at seat ≡ after_marks code s t seat.marks (own (view_of seat))
  told_is t seat e =
      ap (λ c. after_marks c (view_of seat).setup (view_of seat).from seat.marks (own (view_of seat))) (code_here t seat e)
      ∙ ap (λ z. after_marks code z (view_of seat).from seat.marks (own (view_of seat))) (setup_here t seat e)
      ∙ ap (λ k. after_marks code s k seat.marks (own (view_of seat))) (from_is t seat e)

  -- ---- the marks that were still to come are made

  module _ (words : List ℕ) (departure : ℕ) (closes : Closes code s seats words departure) where
    pub record Marked (n : ℕ) : Type 0 where
      pub state : State Told
      pub reached : IsReachable code s state
      pub words_are : state.words ≡ words
      pub made : (t : ℕ) (seat : Seat) → slice_get seats t ≡ Some seat → t < n → slice_get state.threads t ≡ Some (told_at seat)
      pub ahead : (t : ℕ) (seat : Seat) → slice_get seats t ≡ Some seat → n ≤ t → slice_get state.threads t ≡ Some (own (view_of seat))

    marked : (n : ℕ) → n ≤ length seats → Marked n
    marked zero le = record {
      state = closes.state;
      reached = closes.reached;
      words_are = sym closes.words_are;
      made = λ t seat e lt. absurd (omega (arith, lt));
      ahead = λ t seat e le. closes.threads t seat e;
    }
    marked (suc n) le =
        let m = marked n (omega (arith, le)) in
        let at = slice_get_inside seats n (omega (arith, le)) in
        let g = goes_marks code s at.0.marks m.state n m.state.words (own (view_of at.0)) (goes_nowhere code s m.state n (own (view_of at.0)) m.reached (m.ahead n at.0 at.1 (omega arith))) (marks_ahead n at.0 at.1) in
        record {
          state = g.state;
          reached = g.reached;
          words_are = g.words ∙ m.words_are;
          made = λ t seat e lt. ⊎_elim
              (λ q.
              let same : at.0 ≡ seat = same_Some at.0 seat (sym at.1 ∙ ap (slice_get seats) (sym q) ∙ e) in
              ap (slice_get g.state.threads) q ∙ g.here ∙ ap Some (sym (told_is n at.0 at.1)) ∙ ap (λ z. Some (told_at z)) same)
              (λ ne. g.others t ne ∙ m.made t seat e (omega (arith, lt, ne)))
              (cases_eq t n);
          ahead = λ t seat e low. g.others t (λ q. omega (arith, q, low)) ∙ m.ahead t seat e (omega (arith, low));
        }

    pub all_marked : Marked (length seats)
    all_marked = marked (length seats) (omega arith)

    -- ---- how the threads stand by the log

    module _ (runnable : IsRunnable code) (limits : IsWithinLimits s) where
      pub end : State Told
      end = all_marked.state

      pub thread_count : length all_marked.state.threads ≡ s.slots
      thread_count = (kept code s runnable limits all_marked.state all_marked.reached).threads

      -- each thread has a seat
      seat_at : (t : ℕ) (told : Told) → slice_get all_marked.state.threads t ≡ Some told → (seat : Seat) × (slice_get seats t ≡ Some seat) × (told ≡ told_at seat)
      seat_at t told e =
          let inside = slice_get_within all_marked.state.threads t told e in
          let count = thread_count in
          let seats_are = seat_count in
          let at = slice_get_inside seats t (omega (arith, inside, count, seats_are)) in
          (at.0, at.1, same_Some told (told_at at.0) (sym e ∙ all_marked.made t at.0 at.1 (slice_get_within seats t at.0 at.1)))

      size_is : length words ≡ objects_end code s
      size_is = ap length (sym all_marked.words_are) ∙ (kept code s runnable limits all_marked.state all_marked.reached).words

      -- a position that a seat has put is that of an entry of its thread
      pub record IsPutBy (d : ℕ) : Type 0 where
        pub t : ℕ
        pub seat : Seat
        pub at : slice_get seats t ≡ Some seat
        pub put : Contains (view_of seat).positions d

      -- a thread has departed from its entry at this position
      pub record IsDepartedBy (d : ℕ) : Type 0 where
        pub t : ℕ
        pub seat : Seat
        pub at : slice_get seats t ≡ Some seat
        pub o : OfSeat t seat
        pub put : HasPut cells es t o.f o.is o.sound o.alive d

      -- such a position is known to be wrong where no thread has departed from its entry there
      who_put : (d : ℕ) → IsPutBy d → IsDepartedBy d ⊎ IsWrongAt s.slots es d
      who_put d p =
          let o = of_seat p.t p.seat p.at in
          ⊎_elim
          (λ q. inl (record { t = p.t; seat = p.seat; at = p.at; o = o; put = q }))
          (λ known. inr (subst (λ (z : SetupView). IsWrongAt z.slots es d) setup_is (o.is.known d known)))
          (has_put cells es p.t o.f o.is o.sound o.alive d (subst (λ (z : Seat). Contains (view_of z).positions d) (sym o.seat_is) p.put))

      departed_within : (d : ℕ) → IsDepartedBy d → d < length es
      departed_within d p =
          let q = p.put in
          let st = stands_at p.t 0 (numbered es) p.o.f.made q.w q.next in
          let inside = slice_get_within (numbered es) st.following q.w.noted st.there in
          let long = length-numbered [] es in
          let pos = st.position in
          let same = q.position in
          omega (arith, inside, long, pos, same)

      pub put_within : (d : ℕ) → IsPutBy d → d < length es
      put_within d p = ⊎_elim (λ q. departed_within d q) (λ w. slice_get_within es d w.0 w.1) (who_put d p)

      -- a thread that has departed does so from the last state
      departs_here : (t : ℕ) (seat : Seat) → slice_get seats t ≡ Some seat → (x : Noted) → HasDeparted (view_of seat) (told_at seat) x → Departs (machine code s) floor (told_at seat).entries all_marked.state.words (told_at seat) x
      departs_here t seat at x d =
          let v = view_of seat in
          let told = told_at seat in
          let one = subst (λ c. length words ≡ objects_end c v.setup → HaveGoneOn c v.setup v.notes words → Departs (machine c v.setup) floor told.entries words told x) (code_here t seat at) (d words) in
          let two = subst (λ z. length words ≡ objects_end code z → HaveGoneOn code z v.notes words → Departs (machine code z) floor told.entries words told x) (setup_here t seat at) one in
          subst (λ ws. Departs (machine code s) floor told.entries ws told x) (sym all_marked.words_are) (two size_is (closes.notes t seat at))

      abbrev IsAt : ℕ → Told → Noted → Type 0
      IsAt t told x = (told.entries ≡ entries_of t (numbered (take departure es))) × Departs (machine code s) floor (entries_of t (numbered (take departure es))) all_marked.state.words told x

      departs_at : (t : ℕ) (seat : Seat) → slice_get seats t ≡ Some seat → ((e : Entry) → slice_get es departure ≡ Some e → IsDepartedBy departure) → (e : Entry) → slice_get es departure ≡ Some e → e.thread ≡ t → IsAt t (told_at seat) (with_number (numbered (take departure es)) e)
      departs_at t seat at put e there own_is =
          let p = put e there in
          let o = p.o in
          let q = p.put in
          let st = stands_at p.t 0 (numbered es) o.f.made q.w q.next in
          let pos = st.position in
          let same_pos = q.position in
          let spot : st.following ≡ departure = omega (arith, pos, same_pos) in
          let noted_there : slice_get (numbered es) departure ≡ Some q.w.noted = subst (λ k. slice_get (numbered es) k ≡ Some q.w.noted) spot st.there in
          let entry : q.w.noted.entry ≡ e = same_Some q.w.noted.entry e (sym (entry_at [] es departure q.w.noted noted_there) ∙ there) in
          let whose : p.t ≡ t = sym st.own ∙ ap (λ (z : Entry). z.thread) entry ∙ own_is in
          let seat_same : p.seat ≡ seat = same_Some p.seat seat (sym p.at ∙ ap (slice_get seats) whose ∙ at) in
          let noted : q.w.noted ≡ with_number (numbered (take departure es)) e = numbered_at [] es departure e q.w.noted there noted_there in
          let made : (told_at p.seat).entries ≡ entries_of p.t (numbered (take departure es)) =
          ap (λ z. (told_at z).entries) (sym o.seat_is)
          ∙ entries_are cells es p.t o.f o.is o.sound o.alive
          ∙ st.before
          ∙ ap (λ k. entries_of p.t (take k (numbered es))) spot
          ∙ ap (entries_of p.t) (sym (numbered-take [] departure es)) in
          let d = departs_here p.t p.seat p.at q.w.noted (subst (λ z. HasDeparted (view_of z) (told_at z) q.w.noted) o.seat_is q.departs) in
          let d1 = subst (λ xs. Departs (machine code s) floor xs all_marked.state.words (told_at p.seat) q.w.noted) made d in
          subst (λ k. IsAt k (told_at seat) (with_number (numbered (take departure es)) e)) whose
          (subst (λ z. IsAt p.t (told_at z) (with_number (numbered (take departure es)) e)) seat_same
          (subst (IsAt p.t (told_at p.seat)) noted (made, d1)))

      pub comes_to : (t : ℕ) (told : Told) → slice_get all_marked.state.threads t ≡ Some told → ComesTo es departure t told
      comes_to t told e =
          let r = seat_at t told e in
          let o = of_seat t r.0 r.1 in
          let met = closes.met t r.0 r.1 in
          let same : told_at o.f.seat ≡ told = ap told_at o.seat_is ∙ sym r.2 in
          let low : departure ≤ (view_of o.f.seat).met = subst (λ (z : Seat). departure ≤ (view_of z).met) (sym o.seat_is) met in
          record {
            follows = subst (λ (z : Told). IsPrefixOf z.entries (entries_of t (numbered es))) same (follows cells es t o.f o.is o.sound o.alive);
            reached = subst (λ (z : Told). IsPrefixOf (entries_of t (numbered (take departure es))) z.entries) same (reached cells es t o.f o.is o.sound o.alive o.over departure low);
          }

      pub stands_by : ((e : Entry) → slice_get es departure ≡ Some e → IsDepartedBy departure) → (t : ℕ) (told : Told) → slice_get all_marked.state.threads t ≡ Some told → StandsBy code s es departure all_marked.state.words t told
      stands_by put t told e =
          let r = seat_at t told e in
          record {
            comes = comes_to t told e;
            departs = λ x there own_is. subst (λ (z : Told). IsAt t z (with_number (numbered (take departure es)) x)) (sym r.2) (departs_at t r.0 r.1 put x there own_is);
          }

      -- all threads have come to the departure
      pub have_come : HaveCome code s es departure all_marked.state
      have_come = record { labels = all_marked.reached.0; ran = all_marked.reached.1; threads = comes_to }

      pub followed : ((e : Entry) → slice_get es departure ≡ Some e → IsDepartedBy departure) → Followed code s es departure all_marked.state
      followed put = record {
        labels = all_marked.reached.0;
        ran = all_marked.reached.1;
        threads = stands_by put;
      }

      -- each entry is of a thread of the state
      pub threads_here : ((k : ℕ) (e : Entry) → slice_get es k ≡ Some e → e.thread < s.slots) → (k : ℕ) (e : Entry) → slice_get es k ≡ Some e → e.thread < length all_marked.state.threads
      threads_here small k e at = let lt = small k e at in let count = thread_count in omega (arith, lt, count)

      -- where the departure word was lowered, a seat has put its position
      pub lowered_by : departure ≢ never → IsPutBy departure
      lowered_by low = ⊎_elim
          (λ q. absurd (low q))
          (λ p. record { t = p.0; seat = p.1; at = p.2; put = p.3 })
          closes.put

      -- where it was not, there is no entry at its position
      pub none_put : departure ≡ never → length es < 2 ^ 32 - 1 → (e : Entry) → slice_get es departure ≡ Some e → IsDepartedBy departure
      none_put q few e at = let inside = slice_get_within es departure e at in absurd (omega (arith, q, few, inside))

      -- a thread whose run hasn't ended hasn't in the state
      pub open_end : all_ended ≡ false → HaveEnded code s all_marked.state → ⊥
      open_end open_is ended =
          let one = one_open h.fs (sym h.ended ∙ open_is) in
          let f = one.1 in
          let whole = h.whole one.0 f one.2 in
          let there : slice_get seats one.0 ≡ Some f.seat = ap (λ xs. slice_get xs one.0) h.seats_are ∙ slice_get-map (λ (g : Following). g.seat) h.fs one.0 ∙ ap (option_map (λ (g : Following). g.seat)) one.2 in
          let over = ended one.0 (told_at f.seat) (all_marked.made one.0 f.seat there (slice_get_within seats one.0 f.seat there)) in
          let phase = same_phase (view_of f.seat) f.seat.marks f.run whole.1.carrying.carries in
          true≢false (sym over ∙ ap has_ended phase ∙ one.3)

      -- ---- where all threads have ended

      -- each thread is one that a run shows, which has ended
      record IsOver (t : ℕ) (told : Told) : Type 0 where
        f : Following
        there : slice_get h.fs t ≡ Some f
        ended : has_ended told.thread.phase ≡ true
        rest : RemainsOf (remains_in f.run) told

      over_at : all_ended ≡ true → (t : ℕ) (told : Told) → slice_get all_marked.state.threads t ≡ Some told → IsOver t told
      over_at all t told e =
          let r = seat_at t told e in
          let o = of_seat t r.0 r.1 in
          let same : told_at o.f.seat ≡ told = ap told_at o.seat_is ∙ sym r.2 in
          let shows = o.sound.carrying.carries in
          let phase = same_phase (view_of o.f.seat) o.f.seat.marks o.f.run shows in
          record {
            f = o.f;
            there = o.there;
            ended = ap (λ (z : Told). has_ended z.thread.phase) (sym same) ∙ ap has_ended phase ∙ one_ended h.fs (sym h.ended ∙ all) t o.f o.there;
            rest = subst (RemainsOf (remains_in o.f.run)) same (same_remains o.f.run (told_at o.f.seat) shows.shows.pieces shows.shows.reads (sym phase));
          }

      all_over : all_ended ≡ true → HaveEnded code s all_marked.state
      all_over all t told e = (over_at all t told e).ended

      remains_so : all_ended ≡ true → AllZip RemainsOf remains all_marked.state.threads
      remains_so all =
          let count = thread_count in
          let fs_count = h.done.followers.count in
          let slots = ap (λ (z : SetupView). z.slots) setup_is in
          let rest = λ (f : Following). remains_in f.run in
          let long = ap length h.remains_are ∙ length-map h.fs rest in
          all_remain remains all_marked.state.threads (omega (arith, count, fs_count, slots, long)) (λ t r told at there.
          let o = over_at all t told there in
          subst (λ z. RemainsOf z told) (same_Some (rest o.f) r (sym (ap (λ xs. slice_get xs t) h.remains_are ∙ slice_get-map rest h.fs t ∙ ap (option_map rest) o.there) ∙ at)) o.rest)

      -- ---- what the walk comes to

      module _ (free : HasNoRace code s) (small : (k : ℕ) (e : Entry) → slice_get es k ≡ Some e → e.thread < s.slots) where
        -- a departure is where the walk is refused
        pub is_wrong : ((code : Code) (s : SetupView) (es : List Entry) (departure : ℕ) (end : State Told) → IsRunnable code → IsWithinLimits s → HasNoRace code s → Followed code s es departure end → ((k : ℕ) (e : Entry) → slice_get es k ≡ Some e → e.thread < length end.threads) → departure < length es → IsRefusedAt code s (start_state code s) es departure) →
            ((code : Code) (s : SetupView) (es : List Entry) (departure : ℕ) (end : State Told) → IsRunnable code → IsWithinLimits s → HasNoRace code s → HaveCome code s es departure end → ((k : ℕ) (e : Entry) → slice_get es k ≡ Some e → e.thread < length end.threads) → length es < 2 ^ 32 - 1 → IsWrongAt s.slots es departure → IsRefusedAt code s (start_state code s) es departure) →
            departure ≢ never → length es < 2 ^ 32 - 1 → IsRefusedAt code s (start_state code s) es departure
        is_wrong law law_known low few = ⊎_elim
            (λ put. law code s es departure all_marked.state runnable limits free (followed (λ e at. put)) (threads_here small) (departed_within departure put))
            (λ known. law_known code s es departure all_marked.state runnable limits free have_come (threads_here small) few known)
            (who_put departure (lowered_by low))

        -- where nothing has departed and a thread hasn't ended, the walk takes all entries and leaves a thread that hasn't
        pub is_unfinished : ((code : Code) (s : SetupView) (es : List Entry) (departure : ℕ) (end : State Told) → IsRunnable code → IsWithinLimits s → HasNoRace code s → Followed code s es departure end → ((k : ℕ) (e : Entry) → slice_get es k ≡ Some e → e.thread < length end.threads) → length es ≤ departure → (HaveEnded code s end → ⊥) → IsUnfinished code s (start_state code s) es (length es)) →
            departure ≡ never → length es < 2 ^ 32 - 1 → all_ended ≡ false → IsUnfinished code s (start_state code s) es (length es)
        is_unfinished law high few open_is = law code s es departure all_marked.state runnable limits free (followed (none_put high few)) (threads_here small) (omega (arith, high, few)) (open_end open_is)

        -- where nothing has departed and all threads have ended, the walk comes to their end
        pub is_whole : ((code : Code) (s : SetupView) (es : List Entry) (departure : ℕ) (end : State Told) → IsRunnable code → IsWithinLimits s → HasNoRace code s → Followed code s es departure end → ((k : ℕ) (e : Entry) → slice_get es k ≡ Some e → e.thread < length end.threads) → length es ≤ departure → HaveEnded code s end → walk_of code s es (start_state code s) ≡ Some end) →
            departure ≡ never → length es < 2 ^ 32 - 1 → all_ended ≡ true → IsWalked code s es remains
        is_whole law high few all = record {
          end = all_marked.state;
          whole = record {
            walked = law code s es departure all_marked.state runnable limits free (followed (none_put high few)) (threads_here small) (omega (arith, high, few)) (all_over all);
            ended = all_over all;
          };
          remain = remains_so all;
        }

      -- ---- how many entries were made

      there_is : (i : ℕ) (f : Following) → slice_get h.fs i ≡ Some f → slice_get seats i ≡ Some f.seat
      there_is i f e = ap (λ xs. slice_get xs i) h.seats_are ∙ slice_get-map (λ (g : Following). g.seat) h.fs i ∙ ap (option_map (λ (g : Following). g.seat)) e

      made_there : (i : ℕ) (f : Following) → slice_get h.fs i ≡ Some f → length (entries_of i (numbered (take departure es))) ≤ f.made
      made_there i f e =
          let is = h.done.followers.each i f e in
          let whole = h.whole i f e in
          let low = closes.met i f.seat (there_is i f e) in
          let front = prefix_short (entries_of i (numbered (take departure es))) (told_at f.seat).entries (reached cells es i f is whole.1 whole.0 (h.done.over i f e) departure low) in
          let same = ap length (entries_are cells es i f is whole.1 whole.0) in
          let short = noted_short f.made (wanted_of i es) in
          omega (arith, front, same, short)

      module _ (small : (k : ℕ) (e : Entry) → slice_get es k ≡ Some e → e.thread < s.slots) where
        -- all entries before the departure were made
        pub enough : length (take departure es) ≤ made_in h.fs
        enough =
            let count = h.done.followers.count in
            let slots = ap (λ (z : SetupView). z.slots) setup_is in
            let long = length-numbered [] (take departure es) in
            let made = made_enough (numbered (take departure es)) h.fs
            (λ k x e. let lt = small k x.entry (take_at departure es k x.entry (entry_at [] (take departure es) k x e)) in omega (arith, lt, count, slots))
            made_there in
            omega (arith, made, long)

        pub taken_before : departure ≢ never → departure ≤ made_in h.fs
        taken_before low =
            let within = put_within departure (lowered_by low) in
            let same = take_within departure es (omega (arith, within)) in
            let most = enough in
            omega (arith, same, most)

        pub taken_all : departure ≡ never → length es < 2 ^ 32 - 1 → length es ≤ made_in h.fs
        taken_all high few =
            let same = take_beyond departure es (omega (arith, high, few)) in
            let most = enough in
            omega (arith, same, most)
