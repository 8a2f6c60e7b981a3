-- The followers of a log, as they are made and as they come back.
use Rattle.std.proofs.Common.{◌≡◌, ℕ, zero, suc, ◌+◌, ◌<◌, ◌⊎◌, inl, inr, true, false, List, [], ◌∷◌, ◌++◌, length, Some, refl, sym, ap, subst, ◌∙◌, ⊎_elim, append_assoc, get_or, arith}
use Rattle.std.specs.Prelude.{slice_get}
use Rattle.std.specs.List.{AllZip}
use Rattle.std.proofs.lemmas.List.{append-nil, length-append}
use Rattle.std.proofs.lemmas.Bool.{cases_eq}
use Rattle.std.proofs.lemmas.Option.{same_Some, slice_get-get_or}
use Rattle.rr_base.proofs.Lists.{slice_get-append_at}
use Rattle.sync_objects.specs.Setup.{SetupView, IsWithinLimits}
use Rattle.sync_objects.specs.declared.entry.Entry.{Entry}
use Rattle.sync_objects.specs.declared.entry.Noted.{Noted}
use Rattle.flow_code.specs.declared.code.Code.{Code}
use Rattle.core_run.specs.Machine.{start_told}
use Rattle.replay_theory.specs.Numbered.{numbered}
use Rattle.thread_step.specs.Steps.{Stepping, told_of}
use Rattle.shared_cells.specs.Rule.{Board}
use Rattle.shared_cells.specs.Plays.{IsReached}
use Rattle.shared_cells.specs.Seats.{view_of, IsSeatOf, AreSeats, AreAtStart, start_view}
use Rattle.shared_cells.specs.declared.seat.Seat.{Seat}
use Rattle.log_walks.specs.Known.{IsWrongAt}
use Rattle.replayer.specs.Following.{Following, IsSound, IsSameFollower, is_over}
use Rattle.replayer.specs.Replays.{IsFollower, AreFollowers, AreFresh, AreDone}
use Rattle.replayer.specs.Wants.{wanted_from}
use Rattle.replayer.specs.declared.wanted.Wanted.{Wanted}
use Rattle.replayer.proofs.Listing.{stands_at}

-- ---- as they are made

-- the first seats have their followers, and the others are still to come
pub record AreMaking (cells : Board) (es : List Entry) (seats : List Seat) (fs : List Following) (rest : List Seat) : Type 0 where
  pub front : List Seat
  pub split : front ++ rest ≡ seats
  pub long : length front ≡ length fs
  pub each : (k : ℕ) (f : Following) → slice_get fs k ≡ Some f → IsFollower cells es k f
  pub fresh : AreFresh fs

pub making_begins : (cells : Board) (es : List Entry) (seats rest : List Seat) → rest ≡ seats → AreMaking cells es seats [] rest
making_begins cells es seats rest e = record { front = []; split = e; long = refl; each = λ k f q. cc; fresh = λ k f q. cc }

pub split_last : (fs : List Following) (f : Following) (k : ℕ) (x : Following) → slice_get (fs ++ f ∷ []) k ≡ Some x → (slice_get fs k ≡ Some x) ⊎ ((k ≡ length fs) × (f ≡ x))
split_last [] f zero x e = inr (refl, same_Some f x e)
split_last [] f (suc k) x e = cc
split_last (y ∷ ys) f zero x e = inl e
split_last (y ∷ ys) f (suc k) x e = ⊎_elim inl (λ p. inr (ap suc p.0, p.1)) (split_last ys f k x e)

module _ (cells : Board) (es : List Entry) (seats : List Seat) (fs : List Following) (seat : Seat) (rest : List Seat) (h : AreMaking cells es seats fs (seat ∷ rest)) where
  -- the next seat is the one with as many before it
  pub next_there : slice_get seats (length fs) ≡ Some seat
  next_there = ap (λ xs. slice_get xs (length fs)) (sym h.split) ∙ slice_get-append_at h.front seat rest (length fs) h.long

  pub makes_more : (pushed : List Following) (f : Following) → pushed ≡ fs ++ f ∷ [] → IsFollower cells es (length fs) f → f.turns ≡ 0 → AreMaking cells es seats pushed rest
  makes_more pushed f is one none =
      let long = h.long in
      let front_more = length-append h.front (seat ∷ []) in
      let more = ap length is ∙ length-append fs (f ∷ []) in
      record {
        front = h.front ++ seat ∷ [];
        split = append_assoc h.front (seat ∷ []) rest ∙ h.split;
        long = omega (arith, long, front_more, more);
        each = λ k x e. ⊎_elim
            (λ q. h.each k x q)
            (λ p. subst (IsFollower cells es k) p.1 (subst (λ n. IsFollower cells es n f) (sym p.0) one))
            (split_last fs f k x (ap (λ xs. slice_get xs k) (sym is) ∙ e));
        fresh = λ k x e. ⊎_elim
            (λ q. h.fresh k x q)
            (λ p. ap (λ (z : Following). z.turns) (sym p.1) ∙ none)
            (split_last fs f k x (ap (λ xs. slice_get xs k) (sym is) ∙ e));
      }

pub all_made : (cells : Board) (es : List Entry) (seats : List Seat) (fs : List Following) → AreSeats cells seats → IsWithinLimits cells.setup → AreMaking cells es seats fs [] → AreFollowers cells es fs
all_made cells es seats fs are limits h = record {
  limits = limits;
  count = sym h.long ∙ ap length (sym (append-nil h.front) ∙ h.split) ∙ are.count;
  each = h.each;
}

-- ---- as they come back

-- the first so many are whole
abbrev pub AreWholeBelow : List Following → ℕ → Type 0
AreWholeBelow fs k = (j : ℕ) (f : Following) → j < k → slice_get fs j ≡ Some f → (f.is_out ≡ false) × IsSound f

pub whole_below : (fs : List Following) (k : ℕ) (x : Following) → k < length fs → x ≡ get_or fs k x → x.is_out ≡ false → IsSound x → AreWholeBelow fs k → AreWholeBelow fs (k + 1)
whole_below fs k x inside is alive sound below j f lt e = ⊎_elim
    (λ q.
    let same : x ≡ f = same_Some x f (ap Some is ∙ sym (slice_get-get_or fs k x inside) ∙ ap (slice_get fs) (sym q) ∙ e) in
    (ap (λ (z : Following). z.is_out) (sym same) ∙ alive, subst IsSound same sound))
    (λ ne. below j f (omega (arith, lt, ne)) e)
    (cases_eq j k)

zip_at : {A : Type 0} (R : A → A → Type 0) (xs ys : List A) (k : ℕ) (y : A) → AllZip R xs ys → slice_get ys k ≡ Some y → (x : A) × (slice_get xs k ≡ Some x) × R x y
zip_at R [] [] k y all e = cc
zip_at R [] (z ∷ zs) k y all e = absurd all
zip_at R (x ∷ xs) [] k y all e = absurd all
zip_at R (x ∷ xs) (z ∷ zs) zero y all e = (x, refl, subst (R x) (same_Some z y e) all.0)
zip_at R (x ∷ xs) (z ∷ zs) (suc k) y all e = zip_at R xs zs k y all.1 e

zip_long : {A : Type 0} (R : A → A → Type 0) (xs ys : List A) → AllZip R xs ys → length ys ≡ length xs
zip_long R [] [] all = refl
zip_long R [] (z ∷ zs) all = absurd all
zip_long R (x ∷ xs) [] all = absurd all
zip_long R (x ∷ xs) (z ∷ zs) all = ap suc (zip_long R xs zs all.1)

-- jobs that turns have led to their end
pub done_by : (R : Following → Following → Type 0) (cells : Board) (es : List Entry) (fs gs : List Following) → AreFollowers cells es fs → AllZip R fs gs → ((f g : Following) → R f g → IsSameFollower f g × (is_over g ≡ true)) → AreDone cells es gs
done_by R cells es fs gs h all leads = record {
  followers = record {
    limits = h.limits;
    count = zip_long R fs gs all ∙ h.count;
    each = λ k g e.
        let z = zip_at R fs gs k g all e in
        let f = h.each k z.0 z.1 in
        let same = (leads z.0 g z.2).0 in
        record { cells_are = same.cells ∙ f.cells_are; thread = same.thread ∙ f.thread; wanted = same.wanted ∙ f.wanted; known = λ p is. f.known p (sym same.known ∙ is) };
  };
  over = λ k g e. let z = zip_at R fs gs k g all e in (leads z.0 g z.2).1;
}

-- ---- one follower as it is made

module _ (cells : Board) (code : Code) (s : SetupView) (es : List Entry) (seats : List Seat) (fs : List Following) (seat : Seat) (rest : List Seat) (code_is : cells.code ≡ code) (setup_is : cells.setup ≡ s) (are : AreSeats cells seats) (start : AreAtStart code s seats) (h : AreMaking cells es seats fs (seat ∷ rest)) where
  at : slice_get seats (length fs) ≡ Some seat
  at = next_there cells es seats fs seat rest h

  pub of_cells : IsSeatOf cells seat
  of_cells = (are.each (length fs) seat at).0

  pub from_here : (view_of seat).from ≡ length fs
  from_here = (are.each (length fs) seat at).1

  pub thread_from : seat.thread ≡ (view_of seat).from
  thread_from = sym of_cells.thread_is

  pub small_thread : (thread : ℕ) → thread ≡ seat.thread → thread < s.slots
  small_thread thread e =
      let within = of_cells.within in
      let slots = ap (λ (z : SetupView). z.slots) setup_is in
      omega (arith, e, within, slots)

  pub view_here : view_of seat ≡ start_view cells.code cells.setup (view_of seat).from
  view_here =
      (start (length fs) seat at).0
      ∙ ap (λ z. start_view z s (length fs)) (sym code_is)
      ∙ ap (λ z. start_view cells.code z (length fs)) (sym setup_is)
      ∙ ap (start_view cells.code cells.setup) (sym from_here)

  pub reached_here : IsReached (view_of seat)
  reached_here = (start (length fs) seat at).1

  pub marks_here : seat.marks ≡ 0
  marks_here = (start (length fs) seat at).2

  pub told_here : (thread : ℕ) (r : Stepping) → thread ≡ seat.thread → told_of r ≡ start_told code s thread → told_of r ≡ start_told cells.code cells.setup (view_of seat).from
  told_here thread r e told =
      told
      ∙ ap (λ z. start_told z s thread) (sym code_is)
      ∙ ap (λ z. start_told cells.code z thread) (sym setup_is)
      ∙ ap (start_told cells.code cells.setup) (e ∙ thread_from)

  pub own_here : (thread : ℕ) (noted : List Noted) (wanted : List Wanted) → thread ≡ seat.thread → wanted ≡ wanted_from thread 0 noted → (k : ℕ) (w : Wanted) → slice_get wanted k ≡ Some w → w.noted.entry.thread ≡ (view_of seat).from
  own_here thread noted wanted e is k w q = (stands_at thread 0 noted k w (ap (λ ws. slice_get ws k) (sym is) ∙ q)).own ∙ e ∙ thread_from

  pub follower_here : (thread : ℕ) (noted : List Noted) (wanted : List Wanted) (f : Following) → thread ≡ seat.thread → noted ≡ numbered es → wanted ≡ wanted_from thread 0 noted → f.cells ≡ cells → (view_of f.seat).from ≡ (view_of seat).from → f.wanted ≡ wanted → ((p : ℕ) → f.known ≡ Some p → IsWrongAt cells.setup.slots es p) → IsFollower cells es (length fs) f
  follower_here thread noted wanted f e noted_is is cells_are from_is wanted_is known = record {
    cells_are = cells_are;
    thread = from_is ∙ from_here;
    wanted = wanted_is ∙ is ∙ ap (wanted_from thread 0) noted_is ∙ ap (λ t. wanted_from t 0 (numbered es)) (e ∙ thread_from ∙ from_here);
    known = known;
  }
