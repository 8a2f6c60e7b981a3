-- The search along calls: what each of its steps keeps, and what an order of all functions gives.
use Rattle.std.proofs.Common.{◌≡◌, ℕ, zero, suc, ◌+◌, ◌<◌, List, [], ◌∷◌, ◌++◌, length, length-set, refl, sym, ap, ◌∙◌, subst, arith, ⊎_elim, Some}
use Rattle.std.specs.Prelude.{slice_get, slice_set, slice_index_or}
use Rattle.std.specs.List.{All, Contains}
use Rattle.std.proofs.lemmas.Bool.{cases_eq}
use Rattle.std.proofs.lemmas.List.Elements.{All-nil, All-push, Contains-push, Contains-append_left}
use Rattle.std.proofs.lemmas.Option.{same_Some}
use Rattle.rr_base.proofs.Lists.{slice_get-set_other, slice_get-set_within}
use Rattle.lockset_summary.specs.declared.visits.Mark.{Mark}
use Rattle.lockset_summary.specs.declared.visits.Mark.TheVariants.{Unseen, Open, Listed}
use Rattle.lockset_summary.specs.declared.visits.Search.{Search}
use Rattle.lockset_summary.specs.Visits.{IsListed, IsSearch}

-- no mark of these is that of a listed function
abbrev pub AreUnseen : List Mark → Type 0
AreUnseen ms = (f : ℕ) → slice_get ms f ≡ Some Listed → ⊥

pub unseen_more : (ms : List Mark) → AreUnseen ms → AreUnseen (ms ++ Unseen ∷ [])
unseen_more [] h zero e = cc
unseen_more [] h (suc f) e = cc
unseen_more (m ∷ ms) h zero e = h zero e
unseen_more (m ∷ ms) h (suc f) e = unseen_more ms (λ g d. h (suc g) d) f e

pub marks_more : (ms zs : List Mark) (k : ℕ) → zs ≡ ms ++ Unseen ∷ [] → (length ms ≡ k) × AreUnseen ms → (length zs ≡ k + 1) × AreUnseen zs
marks_more ms zs k e h = subst (λ (z : List Mark). (length z ≡ k + 1) × AreUnseen z) (sym e) (longer ms ∙ ap (λ n. n + 1) h.0, unseen_more ms h.1)
  where
    longer : (ms : List Mark) → length (ms ++ Unseen ∷ []) ≡ length ms + 1
    longer [] = refl
    longer (m ∷ ms) = let e = longer ms in omega (arith, e)

pub none_seen : (n : ℕ) (s : Search) → length s.marks ≡ n → AreUnseen s.marks → s.path ≡ [] → s.order ≡ [] → IsSearch n s
none_seen n s long unseen path order = record {
  long = long;
  path = subst (All (λ f. f < n)) (sym path) (All-nil (λ f. f < n));
  within = subst (All (λ f. f < n)) (sym order) (All-nil (λ f. f < n));
  listed = λ f h. absurd (unseen f h);
}

-- a function is put on the path, and marked as open
pub entered : (n : ℕ) (s t : Search) (f k : ℕ) → IsSearch n s → f < n → t.path ≡ s.path ++ f ∷ [] → t.marks ≡ slice_set s.marks f (Open k) → t.order ≡ s.order → IsSearch n t
entered n s t f k h lt path marks order = record {
  long = ap (λ (z : List Mark). length z) marks ∙ length-set s.marks f (Open k) ∙ h.long;
  path = subst (All (λ g. g < n)) (sym path) (All-push (λ g. g < n) s.path f h.path lt);
  within = subst (All (λ g. g < n)) (sym order) h.within;
  listed = λ g e. subst (λ z. Contains z g) (sym order) (h.listed g (was g (ap (λ z. slice_get z g) (sym marks) ∙ e)));
}
  where
    differ : Open k ≡ Listed → ⊥
    differ e = cc

    was : (g : ℕ) → slice_get (slice_set s.marks f (Open k)) g ≡ Some Listed → slice_get s.marks g ≡ Some Listed
    was g e = ⊎_elim
        (λ (z : g ≡ f). absurd (differ (same_Some (Open k) Listed (sym (slice_get-set_within s.marks f (Open k) (subst (λ m. f < m) (sym h.long) lt)) ∙ ap (slice_get (slice_set s.marks f (Open k))) (sym z) ∙ e))))
        (λ (z : g ≡ f → ⊥). sym (slice_get-set_other s.marks f g (Open k) z) ∙ e)
        (cases_eq g f)

-- a function is listed
module _ (n : ℕ) (s t : Search) (f : ℕ) (h : IsSearch n s) (lt : f < n) (marks : t.marks ≡ slice_set s.marks f Listed) where
  pub is_listed : IsListed t f
  is_listed = ap (λ z. slice_get z f) marks ∙ slice_get-set_within s.marks f Listed (subst (λ m. f < m) (sym h.long) lt)

  pub stays_listed : (g : ℕ) → IsListed s g → IsListed t g
  stays_listed g e = ⊎_elim
      (λ (z : g ≡ f). subst (IsListed t) (sym z) is_listed)
      (λ (z : g ≡ f → ⊥). ap (λ y. slice_get y g) marks ∙ slice_get-set_other s.marks f g Listed z ∙ e)
      (cases_eq g f)

  pub left : t.order ≡ s.order ++ f ∷ [] → t.path ≡ s.path → IsSearch n t
  left order path = record {
    long = ap (λ (z : List Mark). length z) marks ∙ length-set s.marks f Listed ∙ h.long;
    path = subst (All (λ g. g < n)) (sym path) h.path;
    within = subst (All (λ g. g < n)) (sym order) (All-push (λ g. g < n) s.order f h.within lt);
    listed = λ g e. subst (λ z. Contains z g) (sym order) (⊎_elim
        (λ (z : g ≡ f). subst (Contains (s.order ++ f ∷ [])) (sym z) (Contains-push s.order f))
        (λ (z : g ≡ f → ⊥). Contains-append_left s.order (f ∷ []) g (h.listed g (sym (slice_get-set_other s.marks f g Listed z) ∙ ap (λ y. slice_get y g) (sym marks) ∙ e)))
        (cases_eq g f));
  }

-- ---- an order of all functions

-- where a function stands in the order
pub place_in : (order : List ℕ) (f : ℕ) → Contains order f → (k : ℕ) × (slice_get order k ≡ Some f)
place_in order f c = (c.0, at order c.0 c.1 c.2)
  where
    at : (xs : List ℕ) (k : ℕ) → k < length xs → slice_index_or xs k f ≡ f → slice_get xs k ≡ Some f
    at [] k lt e = absurd (omega arith)
    at (x ∷ xs) zero lt e = ap Some e
    at (x ∷ xs) (suc k) lt e = at xs k (omega arith) e
