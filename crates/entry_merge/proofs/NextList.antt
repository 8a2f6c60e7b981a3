-- The first list that goes on gives the next entry.
use Rattle.std.proofs.Common.{◌≡◌, ℕ, zero, suc, ◌+◌, ◌-◌, ◌≤◌, ◌<◌, Bool, true, false, List, [], ◌∷◌, Some, None, refl, sym, ap, ◌∙◌, arith, cond, take, drop, length, slice_index_or, rules}
use Rattle.std.specs.Prelude.{if◌then◌else◌, ◌==◌, slice_get, slice_set, position}
use Rattle.std.specs.Borrow.{Bor}
use Rattle.std.specs.List.{position_from}
use Rattle.std.proofs.lemmas.Option.{same_Some}
use Rattle.std.proofs.lemmas.Iterator.Adapters.{position_from-zero}
use Rattle.sync_objects.specs.declared.entry.Noted.{Noted}
use Rattle.sync_objects.specs.declared.object.ObjId.{ObjId}
use Rattle.run_theory.specs.Merge.{Stuck, Takes, after_list}
use Rattle.entry_merge.specs.Counts.{is_next, next_by, lists_of}

some_is_not_none : {X : Type 0} {x : X} → Some x ≡ None → ⊥
some_is_not_none h = search rules

false_is_not_true : false ≡ true → ⊥
false_is_not_true e = search rules

not_itself : (i j : ℕ) → i ≡ i + suc j → ⊥
not_itself i j e = omega (arith, e)

above_itself : (i : ℕ) → i + 1 ≤ i + 0 → ⊥
above_itself i le = omega (arith, le)

all_taken : {X : Type 0} (xs : List X) (n : ℕ) → length xs ≤ n → take n xs ≡ xs
all_taken [] zero h = refl
all_taken [] (suc n) h = refl
all_taken (x ∷ xs) zero h = absurd (none_below (length xs) h)
  where
    none_below : (n : ℕ) → suc n ≤ 0 → ⊥
    none_below n h = omega (arith, h)
all_taken (x ∷ xs) (suc n) h = ap (λ ys. x ∷ ys) (all_taken xs n (omega (arith, h)))

first_and_rest : {X : Type 0} (xs : List X) (d : X) → 1 ≤ length xs → xs ≡ slice_index_or xs 0 d ∷ take (length xs - 1) (drop 1 xs)
first_and_rest [] d h = absurd (none_above h)
  where
    none_above : 1 ≤ 0 → ⊥
    none_above h = omega (arith, h)
first_and_rest (x ∷ xs) d h = ap (λ ys. x ∷ ys) (sym (all_taken xs (length (x ∷ xs) - 1) (omega arith)))

module _ (taken : ObjId → ℕ) where
  abbrev pub goes_on : Bor (List Noted) → Bool
  goes_on list = is_next taken list.now

  none_from : (i : ℕ) (ls : List (Bor (List Noted))) → position_from goes_on i ls ≡ None → next_by taken (lists_of ls) ≡ Stuck
  none_from i [] h = refl
  none_from i (l ∷ ls) h = go (none_from (i + 1) ls) l.now h
    where
      by_test : (position_from goes_on (i + 1) ls ≡ None → next_by taken (lists_of ls) ≡ Stuck) → (b : Bool) (x : Noted) (xs : List Noted) → cond b (Some i) (position_from goes_on (i + 1) ls) ≡ None → (if b then Takes x (xs ∷ lists_of ls) else after_list (x ∷ xs) (next_by taken (lists_of ls))) ≡ Stuck
      by_test more true x xs h = absurd (some_is_not_none h)
      by_test more false x xs h = ap (after_list (x ∷ xs)) (more h)

      go : (position_from goes_on (i + 1) ls ≡ None → next_by taken (lists_of ls) ≡ Stuck) → (ys : List Noted) → cond (is_next taken ys) (Some i) (position_from goes_on (i + 1) ls) ≡ None → next_by taken (ys ∷ lists_of ls) ≡ Stuck
      go more [] h = ap (after_list []) (more h)
      go more (x ∷ xs) h = by_test more (x.number == taken x.entry.obj) x xs h

  from_above : (i k : ℕ) (ls : List (Bor (List Noted))) → position_from goes_on i ls ≡ Some k → i ≤ k
  from_above i k [] h = absurd (some_is_not_none (sym h))
  from_above i k (l ∷ ls) h = go (from_above (i + 1) k ls) (goes_on l) h
    where
      go : (position_from goes_on (i + 1) ls ≡ Some k → i + 1 ≤ k) → (b : Bool) → cond b (Some i) (position_from goes_on (i + 1) ls) ≡ Some k → i ≤ k
      go more true h = omega (arith, same_Some _ _ h)
      go more false h = omega (arith, more h)

  some_from : (i j : ℕ) (ls : List (Bor (List Noted))) (list new : Bor (List Noted)) (x : Noted) (xs : List Noted) →
      position_from goes_on i ls ≡ Some (i + j) → slice_get ls j ≡ Some list → list.now ≡ x ∷ xs → new.now ≡ xs →
      next_by taken (lists_of ls) ≡ Takes x (lists_of (slice_set ls j new))
  some_from i j [] list new x xs h there is news = absurd (some_is_not_none (sym h))
  some_from i zero (l ∷ ls) list new x xs h there is news =
      ap (λ ys. next_by taken (ys ∷ lists_of ls)) shown
      ∙ go (x.number == taken x.entry.obj) (ap (λ ys. cond (is_next taken ys) (Some i) (position_from goes_on (i + 1) ls)) (sym shown) ∙ h)
      ∙ ap (λ ys. Takes x (ys ∷ lists_of ls)) (sym news)
    where
      shown : l.now ≡ x ∷ xs
      shown = ap (λ z. z.now) (same_Some _ _ there) ∙ is

      go : (b : Bool) → cond b (Some i) (position_from goes_on (i + 1) ls) ≡ Some (i + 0) → (if b then Takes x (xs ∷ lists_of ls) else after_list (x ∷ xs) (next_by taken (lists_of ls))) ≡ Takes x (xs ∷ lists_of ls)
      go true h = refl
      go false h = absurd (above_itself i (from_above (i + 1) (i + 0) ls h))
  some_from i (suc j) (l ∷ ls) list new x xs h there is news =
      go (λ e. some_from (i + 1) j ls list new x xs (e ∙ ap Some (omega arith)) there is news) l.now h
    where
      by_test : (position_from goes_on (i + 1) ls ≡ Some (i + suc j) → next_by taken (lists_of ls) ≡ Takes x (lists_of (slice_set ls j new))) → (b : Bool) (y : Noted) (ys : List Noted) → cond b (Some i) (position_from goes_on (i + 1) ls) ≡ Some (i + suc j) → (if b then Takes y (ys ∷ lists_of ls) else after_list (y ∷ ys) (next_by taken (lists_of ls))) ≡ Takes x ((y ∷ ys) ∷ lists_of (slice_set ls j new))
      by_test more true y ys h = absurd (not_itself i j (same_Some _ _ h))
      by_test more false y ys h = ap (after_list (y ∷ ys)) (more h)

      go : (position_from goes_on (i + 1) ls ≡ Some (i + suc j) → next_by taken (lists_of ls) ≡ Takes x (lists_of (slice_set ls j new))) → (ys : List Noted) → cond (is_next taken ys) (Some i) (position_from goes_on (i + 1) ls) ≡ Some (i + suc j) → next_by taken (ys ∷ lists_of ls) ≡ Takes x (ys ∷ lists_of (slice_set ls j new))
      go more [] h = ap (after_list []) (more h)
      go more (y ∷ ys) h = by_test more (y.number == taken y.entry.obj) y ys h

  some_is_next : (i j : ℕ) (ls : List (Bor (List Noted))) (list : Bor (List Noted)) → position_from goes_on i ls ≡ Some (i + j) → slice_get ls j ≡ Some list → goes_on list ≡ true
  some_is_next i j [] list h there = absurd (some_is_not_none (sym h))
  some_is_next i zero (l ∷ ls) list h there = ap goes_on (sym (same_Some _ _ there)) ∙ go (goes_on l) h
    where
      go : (b : Bool) → cond b (Some i) (position_from goes_on (i + 1) ls) ≡ Some (i + 0) → b ≡ true
      go true h = refl
      go false h = absurd (above_itself i (from_above (i + 1) (i + 0) ls h))
  some_is_next i (suc j) (l ∷ ls) list h there = go (λ e. some_is_next (i + 1) j ls list (e ∙ ap Some (omega arith)) there) (goes_on l) h
    where
      go : (position_from goes_on (i + 1) ls ≡ Some (i + suc j) → goes_on list ≡ true) → (b : Bool) → cond b (Some i) (position_from goes_on (i + 1) ls) ≡ Some (i + suc j) → goes_on list ≡ true
      go more true h = absurd (not_itself i j (same_Some _ _ h))
      go more false h = more h

  pub none_goes_on : (ls : List (Bor (List Noted))) → position goes_on ls ≡ None → next_by taken (lists_of ls) ≡ Stuck
  none_goes_on ls h = none_from 0 ls (sym (position_from-zero goes_on ls) ∙ h)

  pub this_goes_on : (ls : List (Bor (List Noted))) (j : ℕ) (list new : Bor (List Noted)) (x : Noted) (xs : List Noted) →
      position goes_on ls ≡ Some j → slice_get ls j ≡ Some list → list.now ≡ x ∷ xs → new.now ≡ xs →
      next_by taken (lists_of ls) ≡ Takes x (lists_of (slice_set ls j new))
  this_goes_on ls j list new x xs h there is news = some_from 0 j ls list new x xs (sym (position_from-zero goes_on ls) ∙ h ∙ ap Some (omega arith)) there is news

  pub takes_first : (ls after : List (Bor (List Noted))) (j : ℕ) (list new : Bor (List Noted)) (d : Noted) →
      after ≡ slice_set ls j new → position goes_on ls ≡ Some j → slice_get ls j ≡ Some list → 1 ≤ length list.now → new.now ≡ take (length list.now - 1) (drop 1 list.now) →
      next_by taken (lists_of ls) ≡ Takes (slice_index_or list.now 0 d) (lists_of after)
  takes_first ls after j list new d is h there some news =
      this_goes_on ls j list new (slice_index_or list.now 0 d) (take (length list.now - 1) (drop 1 list.now)) h there (first_and_rest list.now d some) news
      ∙ ap (λ z. Takes (slice_index_or list.now 0 d) (lists_of z)) (sym is)

  -- a list that goes on isn't empty
  pub never_empty : (ls : List (Bor (List Noted))) (j : ℕ) (list : Bor (List Noted)) → position goes_on ls ≡ Some j → slice_get ls j ≡ Some list → length list.now < 1 → ⊥
  never_empty ls j list h there less = go list.now less (some_is_next 0 j ls list (sym (position_from-zero goes_on ls) ∙ h ∙ ap Some (omega arith)) there)
    where
      go : (xs : List Noted) → length xs < 1 → is_next taken xs ≡ true → ⊥
      go [] less is = false_is_not_true is
      go (x ∷ xs) less is = omega (arith, less)
