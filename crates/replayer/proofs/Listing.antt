-- The entries of one thread of a log, with their positions.
use Rattle.std.proofs.Common.{◌≡◌, ℕ, zero, suc, ◌+◌, ◌≤◌, Bool, true, false, List, [], ◌∷◌, ◌++◌, length, take, Some, refl, sym, ap, ◌∙◌, append_assoc, arith}
use Rattle.std.specs.Prelude.{slice_get, ◌==◌, if◌then◌else◌}
use Rattle.std.proofs.lemmas.Bool.{eqb-true, eqb-false}
use Rattle.std.proofs.lemmas.List.{append-nil}
use Rattle.std.proofs.lemmas.Option.{same_Some}
use Rattle.sync_objects.specs.declared.entry.Entry.{Entry}
use Rattle.sync_objects.specs.declared.entry.Noted.{Noted}
use Rattle.replay_theory.specs.Numbered.{with_number, numbered_after}
use Rattle.run_theory.specs.Paths.{IsPrefixOf}
use Rattle.run_theory.specs.Steps.{entries_of}
use Rattle.run_theory.proofs.Lists.{own_in, own_out}
use Rattle.replayer.specs.Wants.{wanted_from, noted_in}
use Rattle.replayer.specs.declared.wanted.Wanted.{Wanted}

-- without their positions they are the thread's entries
pub wanted_are : (t p : ℕ) (xs : List Noted) → noted_in (wanted_from t p xs) ≡ entries_of t xs
wanted_are t p [] = refl
wanted_are t p (x ∷ xs) = by (x.entry.thread == t) (wanted_are t (p + 1) xs)
  where
    by : (b : Bool) → noted_in (wanted_from t (p + 1) xs) ≡ entries_of t xs → noted_in (if b then record { noted = x; position = p } ∷ wanted_from t (p + 1) xs else wanted_from t (p + 1) xs) ≡ (if b then x ∷ entries_of t xs else entries_of t xs)
    by true more = ap (λ z. x ∷ z) more
    by false more = more

-- one of these, which stand from position p on, stands so far after it, and those before it are the thread's entries up to there
pub record StandsAt (t p : ℕ) (xs : List Noted) (ws : List Wanted) (m : ℕ) (w : Wanted) : Type 0 where
  pub following : ℕ
  pub position : w.position ≡ p + following
  pub there : slice_get xs following ≡ Some w.noted
  pub own : w.noted.entry.thread ≡ t
  pub before : noted_in (take m ws) ≡ entries_of t (take following xs)

pub stands_at : (t p : ℕ) (xs : List Noted) (m : ℕ) (w : Wanted) → slice_get (wanted_from t p xs) m ≡ Some w → StandsAt t p xs (wanted_from t p xs) m w
stands_at t p [] m w e = cc
stands_at t p (x ∷ xs) m w e = by (x.entry.thread == t) refl m e (stands_at t (p + 1) xs)
  where
    by : (b : Bool) → (x.entry.thread == t) ≡ b → (m : ℕ) → slice_get (if b then record { noted = x; position = p } ∷ wanted_from t (p + 1) xs else wanted_from t (p + 1) xs) m ≡ Some w → ((k : ℕ) (v : Wanted) → slice_get (wanted_from t (p + 1) xs) k ≡ Some v → StandsAt t (p + 1) xs (wanted_from t (p + 1) xs) k v) → StandsAt t p (x ∷ xs) (if b then record { noted = x; position = p } ∷ wanted_from t (p + 1) xs else wanted_from t (p + 1) xs) m w
    by true is zero e more =
        let same : record { noted = x; position = p } ≡ w = same_Some (record { noted = x; position = p }) w e in
        record {
          following = 0;
          position = ap (λ (z : Wanted). z.position) (sym same) ∙ (omega arith);
          there = ap (λ (z : Wanted). Some z.noted) same;
          own = ap (λ (z : Wanted). z.noted.entry.thread) (sym same) ∙ eqb-true x.entry.thread t is;
          before = refl;
        }
    by true is (suc k) e more =
        let r = more k w e in
        let at = r.position in
        record {
          following = suc r.following;
          position = omega (arith, at);
          there = r.there;
          own = r.own;
          before = ap (λ z. x ∷ z) r.before ∙ sym (own_in t x (take r.following xs) (eqb-true x.entry.thread t is));
        }
    by false is k e more =
        let r = more k w e in
        let at = r.position in
        record {
          following = suc r.following;
          position = omega (arith, at);
          there = r.there;
          own = r.own;
          before = r.before ∙ sym (own_out t x (take r.following xs) (eqb-false x.entry.thread t is));
        }

-- where the next of these stands at a position or after it, those before it have all of the thread's entries up to there
pub reached_by : (t p : ℕ) (xs : List Noted) (m d : ℕ) → ((w : Wanted) → slice_get (wanted_from t p xs) m ≡ Some w → p + d ≤ w.position) → IsPrefixOf (entries_of t (take d xs)) (noted_in (take m (wanted_from t p xs)))
reached_by t p xs m zero h = (noted_in (take m (wanted_from t p xs)), refl)
reached_by t p [] m (suc d) h = (noted_in (take m []), refl)
reached_by t p (x ∷ xs) m (suc d) h = by (x.entry.thread == t) refl m h (reached_by t (p + 1) xs)
  where
    by : (b : Bool) → (x.entry.thread == t) ≡ b → (m : ℕ) → ((w : Wanted) → slice_get (if b then record { noted = x; position = p } ∷ wanted_from t (p + 1) xs else wanted_from t (p + 1) xs) m ≡ Some w → p + suc d ≤ w.position) → ((k e : ℕ) → ((w : Wanted) → slice_get (wanted_from t (p + 1) xs) k ≡ Some w → p + 1 + e ≤ w.position) → IsPrefixOf (entries_of t (take e xs)) (noted_in (take k (wanted_from t (p + 1) xs)))) → IsPrefixOf (entries_of t (x ∷ take d xs)) (noted_in (take m (if b then record { noted = x; position = p } ∷ wanted_from t (p + 1) xs else wanted_from t (p + 1) xs)))
    by true is zero h more = let le = h (record { noted = x; position = p }) refl in absurd (omega (arith, le))
    by true is (suc k) h more =
        let r = more k d (λ w e. let le = h w e in omega (arith, le)) in
        (r.0, ap (λ z. z ++ r.0) (own_in t x (take d xs) (eqb-true x.entry.thread t is)) ∙ ap (λ z. x ∷ z) r.1)
    by false is k h more =
        let r = more k d (λ w e. let le = h w e in omega (arith, le)) in
        (r.0, ap (λ z. z ++ r.0) (own_out t x (take d xs) (eqb-false x.entry.thread t is)) ∙ r.1)

-- the first of them come first
pub take_noted : (m : ℕ) (ws : List Wanted) → IsPrefixOf (noted_in (take m ws)) (noted_in ws)
take_noted zero ws = (noted_in ws, refl)
take_noted (suc m) [] = ([], refl)
take_noted (suc m) (w ∷ ws) = let r = take_noted m ws in (r.0, ap (λ z. w.noted ∷ z) r.1)

-- one more
pub take_next : (m : ℕ) (ws : List Wanted) (w : Wanted) → slice_get ws m ≡ Some w → noted_in (take (suc m) ws) ≡ noted_in (take m ws) ++ w.noted ∷ []
take_next m [] w e = cc
take_next zero (v ∷ ws) w e = ap (λ (z : Wanted). z.noted ∷ []) (same_Some v w e)
take_next (suc m) (v ∷ ws) w e = ap (λ z. v.noted ∷ z) (take_next m ws w e)

-- ---- numbers

pub numbered-take : (before : List Noted) (d : ℕ) (es : List Entry) → numbered_after before (take d es) ≡ take d (numbered_after before es)
numbered-take before zero es = refl
numbered-take before (suc d) [] = refl
numbered-take before (suc d) (e ∷ es) = ap (λ z. with_number before e ∷ z) (numbered-take (before ++ with_number before e ∷ []) d es)

pub length-numbered : (before : List Noted) (es : List Entry) → length (numbered_after before es) ≡ length es
length-numbered before [] = refl
length-numbered before (e ∷ es) = ap suc (length-numbered (before ++ with_number before e ∷ []) es)

pub numbered_at : (before : List Noted) (es : List Entry) (d : ℕ) (e : Entry) (x : Noted) → slice_get es d ≡ Some e → slice_get (numbered_after before es) d ≡ Some x → x ≡ with_number (before ++ numbered_after before (take d es)) e
numbered_at before [] d e x at is = cc
numbered_at before (e0 ∷ es) zero e x at is =
    sym (same_Some (with_number before e0) x is) ∙ ap (with_number before) (same_Some e0 e at) ∙ ap (λ z. with_number z e) (sym (append-nil before))
numbered_at before (e0 ∷ es) (suc d) e x at is =
    let y = with_number before e0 in
    numbered_at (before ++ y ∷ []) es d e x at is ∙ ap (λ z. with_number z e) (append_assoc before (y ∷ []) (numbered_after (before ++ y ∷ []) (take d es)))

-- an entry of the log with its number
pub entry_at : (before : List Noted) (es : List Entry) (d : ℕ) (x : Noted) → slice_get (numbered_after before es) d ≡ Some x → slice_get es d ≡ Some x.entry
entry_at before [] d x is = cc
entry_at before (e ∷ es) zero x is = ap (λ (z : Noted). Some z.entry) (same_Some (with_number before e) x is)
entry_at before (e ∷ es) (suc d) x is = entry_at (before ++ with_number before e ∷ []) es d x is
