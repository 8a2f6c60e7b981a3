-- Parts of rounds, one after the other.
use Rattle.std.proofs.Common.{◌≡◌, ℕ, zero, suc, ◌+◌, ◌-◌, ◌^◌, ◌<◌, ◌≤◌, Bool, true, false, ◌||◌, List, [], ◌∷◌, length, get_or, refl, sym, ap, ◌∙◌, subst, arith, ⊎_elim, Result, Ok, Err, Some}
use Rattle.std.specs.Prelude.{IfOk, slice_get, slice_set}
use Rattle.std.proofs.lemmas.Option.{same_Some, slice_get-get_or, slice_get_within}
use Rattle.std.proofs.lemmas.Bool.{cases_lt}
use Rattle.lockset_summary.specs.Rounds.{Falls, Changes, ForEach, ForFirst, ForThe, room}

falls_join : (a b : Bool) (r s t : ℕ) → Falls a r s → Falls b s t → Falls (a || b) r t
falls_join true true r s t h k = omega arith
falls_join true false r s t h k = omega arith
falls_join false true r s t h k = omega arith
falls_join false false r s t h k = omega arith

or_false : (a b : Bool) → (a || b) ≡ false → (a ≡ false) × (b ≡ false)
or_false true b h = cc
or_false false b h = (refl, h)

pub ok_map : {A E : Type 0} (r : Result A E) (P Q : A → Type 0) → ((a : A) → P a → Q a) → IfOk r P → IfOk r Q
ok_map (Ok a) P Q f h = f a h
ok_map (Err e) P Q f h = h

pub get_at : {X : Type 0} (xs ys : List X) (k : ℕ) (d : X) → ys ≡ xs → k < length ys → slice_get xs k ≡ Some (get_or ys k d)
get_at xs ys k d e lt = ap (λ z. slice_get z k) (sym e) ∙ slice_get-get_or ys k d lt

module _ (S : Type 0) (weight : S → ℕ) (Sound : S → Type 0) where
  pub weaker : (M N : S → Type 0) (old new : S) (changed : Bool) → (M new → N new) → Changes S weight Sound M old new changed → Changes S weight Sound N old new changed
  weaker M N old new changed m s = record { sound = s.sound; met = λ e. ((s.met e).0, m (s.met e).1); falls = s.falls }

  pub join : (M N : S → Type 0) (old mid new : S) (a b : Bool) → Changes S weight Sound M old mid a → Changes S weight Sound N mid new b → Changes S weight Sound (λ r. M r × N r) old new (a || b)
  join M N old mid new a b s t = record {
    sound = λ f. t.sound (s.sound f);
    met = λ e. let o = or_false a b e in ((t.met o.1).0 ∙ (s.met o.0).0, (subst M (sym (t.met o.1).0) (s.met o.0).1, (t.met o.1).1));
    falls = falls_join a b (weight old) (weight mid) (weight new) s.falls t.falls;
  }

  pub none : (M : S → Type 0) (old : S) → M old → Changes S weight Sound M old old false
  none M old m = record { sound = λ f. f; met = λ e. (refl, m); falls = refl }

  pub falls_by : (changed : Bool) (old new : S) → (changed ≡ false → new ≡ old) → (changed ≡ true → weight new < weight old) → Falls changed (weight old) (weight new)
  falls_by true old new same falls = falls refl
  falls_by false old new same falls = ap weight (same refl)

  -- one number more
  pub more_to : (P : ℕ → S → Type 0) (k : ℕ) (old mid new : S) (a b : Bool) → Changes S weight Sound (λ r. (j : ℕ) → j < k → P j r) old mid a → Changes S weight Sound (P k) mid new b → Changes S weight Sound (λ r. (j : ℕ) → j < k + 1 → P j r) old new (a || b)
  more_to P k old mid new a b s t = weaker _ (λ r. (j : ℕ) → j < k + 1 → P j r) old new (a || b)
      (λ m j lt. ⊎_elim (λ l. m.0 j l) (λ (g : k ≤ j). let e : k ≡ j = omega arith in subst (λ i. P i new) e m.1) (cases_lt j k))
      (join (λ r. (j : ℕ) → j < k → P j r) (P k) old mid new a b s t)

  module _ (X : Type 0) (read : S → List X) (P : ℕ → X → S → Type 0) where
    -- what was done for one item of the list
    pub for_the : (k : ℕ) (x : X) (old new : S) (changed : Bool) → slice_get (read old) k ≡ Some x → Changes S weight Sound (P k x) old new changed → Changes S weight Sound (ForThe S X read P k) old new changed
    for_the k x old new changed h s = record {
      sound = s.sound;
      met = λ e. ((s.met e).0, λ y i. subst (λ z. P k z new) (same_Some x y (sym h ∙ ap (λ z. slice_get (read z) k) (sym (s.met e).0) ∙ i)) (s.met e).1);
      falls = s.falls;
    }

    for_more : (s : S) (k : ℕ) → ForFirst S X read P k s → ForThe S X read P k s → ForFirst S X read P (k + 1) s
    for_more s k first the j x lt h = ⊎_elim (λ l. first j x l h) (λ (g : k ≤ j). let e : k ≡ j = omega arith in subst (λ i. P i x s) e (the x (subst (λ i. slice_get (read s) i ≡ Some x) (sym e) h))) (cases_lt j k)

    -- one item more
    pub more : (k : ℕ) (old mid new : S) (a b : Bool) → Changes S weight Sound (ForFirst S X read P k) old mid a → Changes S weight Sound (ForThe S X read P k) mid new b → Changes S weight Sound (ForFirst S X read P (k + 1)) old new (a || b)
    more k old mid new a b s t = weaker _ (ForFirst S X read P (k + 1)) old new (a || b) (λ m. for_more new k m.0 m.1) (join (ForFirst S X read P k) (ForThe S X read P k) old mid new a b s t)

    -- none yet
    pub no_first : (old : S) → Changes S weight Sound (ForFirst S X read P 0) old old false
    no_first old = none (ForFirst S X read P 0) old (λ j x lt h. absurd (omega arith))

    -- all items that the list had at first
    pub all_of : (k : ℕ) (old new : S) (changed : Bool) → length (read old) ≤ k → Changes S weight Sound (ForFirst S X read P k) old new changed → Changes S weight Sound (ForEach S X read P) old new changed
    all_of k old new changed le s = record {
      sound = s.sound;
      met = λ e. ((s.met e).0, λ j x i. (s.met e).1 j x (omega (arith, slice_get_within (read new) j x i, ap (λ z. length (read z)) (s.met e).0)) i);
      falls = s.falls;
    }

-- ---- one row that grows

pub room_falls : (X : Type 0) (rows : List (List X)) (n : ℕ) (old new : List X) → slice_get rows n ≡ Some old → length new ≡ length old + 1 → length new < 2 ^ 64 → room X (slice_set rows n new) < room X rows
room_falls X [] n old new h e small = cc
room_falls X (x ∷ rows) zero old new h e small = cut (2 ^ 64) (length new) (length x) (room X rows) (e ∙ ap (λ (z : List X). length z + 1) (sym (same_Some x old h))) small
  where
    cut : (m a b c : ℕ) → a ≡ b + 1 → a < m → (m - a) + c < (m - b) + c
    cut m a b c e lt = omega arith
room_falls X (x ∷ rows) (suc n) old new h e small = up (2 ^ 64 - length x) (room X (slice_set rows n new)) (room X rows) (room_falls X rows n old new h e small)
  where
    up : (a b c : ℕ) → b < c → a + b < a + c
    up a b c h = omega arith
