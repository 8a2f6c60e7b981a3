-- Accesses in rows that ascend: where one may stand, and what it keeps when it is put there.
use Rattle.std.proofs.Common.{◌≡◌, ℕ, zero, suc, ◌+◌, ◌^◌, ◌<◌, ◌≤◌, Bool, true, false, List, [], ◌∷◌, length, insert, refl, sym, ap, ◌∙◌, subst, arith, ◌⊎◌, inl, inr, ⊎_elim, ◌↔◌, Some, length-set}
use Rattle.std.specs.Prelude.{slice_get, slice_set}
use Rattle.std.specs.List.{Contains}
use Rattle.std.proofs.lemmas.Bool.{cases_eq, cases_lt, and_parts, and_from}
use Rattle.std.proofs.lemmas.Option.{same_Some, slice_get_within, get_or_from_slice_get, slice_get-get_or}
use Rattle.std.proofs.lemmas.List.Edits.{length-insert}
use Rattle.rr_base.proofs.Lists.{slice_get-set_other, slice_get-set_same, slice_set-get}
use Rattle.flow_code.specs.declared.code.Code.{Code}
use Rattle.facts.specs.declared.locks.Guarded.{Guarded}
use Rattle.facts.specs.Locks.{Points}
use Rattle.facts.specs.Summaries.{guarded_less, guarded_ascend, Guards, own, called}
use Rattle.lockset_summary.specs.Rounds.{room}
use Rattle.lockset_summary.specs.Guarding.{IsPlace, IsPut, InRow, AreMade, AreAllMet, Makes}
use Rattle.facts.proofs.Orders.{guarded_trans}
use Rattle.lockset_summary.proofs.Order.{guarded_other}
use Rattle.lockset_summary.proofs.Rounds.{falls_by, room_falls}

-- ---- one row

rest_ascends : (a : Guarded) (row : List Guarded) → guarded_ascend (a ∷ row) ≡ true → guarded_ascend row ≡ true
rest_ascends a [] h = refl
rest_ascends a (b ∷ row) h = (and_parts (guarded_less a b) (guarded_ascend (b ∷ row)) h).1

first_least : (a : Guarded) (row : List Guarded) (j : ℕ) (b : Guarded) → guarded_ascend (a ∷ row) ≡ true → slice_get row j ≡ Some b → guarded_less a b ≡ true
first_least a [] j b h k = cc
first_least a (c ∷ row) zero b h k = subst (λ z. guarded_less a z ≡ true) (same_Some c b k) (and_parts (guarded_less a c) (guarded_ascend (c ∷ row)) h).0
first_least a (c ∷ row) (suc j) b h k = let e = and_parts (guarded_less a c) (guarded_ascend (c ∷ row)) h in guarded_trans a c b e.0 (first_least c row j b e.1 k)

-- an earlier access is less
pub earlier_less : (row : List Guarded) (i j : ℕ) (a b : Guarded) → guarded_ascend row ≡ true → i < j → slice_get row i ≡ Some a → slice_get row j ≡ Some b → guarded_less a b ≡ true
earlier_less [] i j a b h lt g k = cc
earlier_less (c ∷ row) i zero a b h lt g k = absurd (omega arith)
earlier_less (c ∷ row) zero (suc j) a b h lt g k = subst (λ z. guarded_less z b ≡ true) (same_Some c a g) (first_least c row j b h k)
earlier_less (c ∷ row) (suc i) (suc j) a b h lt g k = earlier_less row i j a b (rest_ascends c row h) (omega arith) g k

-- ---- an access that is put in its place

cons_ascends : (a : Guarded) (row : List Guarded) → ((b : Guarded) → slice_get row 0 ≡ Some b → guarded_less a b ≡ true) → guarded_ascend row ≡ true → guarded_ascend (a ∷ row) ≡ true
cons_ascends a [] f h = refl
cons_ascends a (b ∷ row) f h = and_from (guarded_less a b) (guarded_ascend (b ∷ row)) (f b refl) h

head_of : (row : List Guarded) (i : ℕ) (a b : Guarded) → slice_get (insert row i a) 0 ≡ Some b → (slice_get row 0 ≡ Some b) ⊎ (b ≡ a)
head_of row zero a b h = inr (sym (same_Some a b h))
head_of [] (suc i) a b h = inr (sym (same_Some a b h))
head_of (c ∷ row) (suc i) a b h = inl h

pub insert_ascends : (row : List Guarded) (i : ℕ) (a : Guarded) → guarded_ascend row ≡ true → IsPlace row a i → guarded_ascend (insert row i a) ≡ true
insert_ascends row zero a h p = cons_ascends a row (λ b g. p.above 0 b (omega arith) g) h
insert_ascends [] (suc i) a h p = absurd (omega (arith, p.within))
insert_ascends (c ∷ row) (suc i) a h p = cons_ascends c (insert row i a)
    (λ b g. ⊎_elim (λ (z : slice_get row 0 ≡ Some b). first_least c row 0 b h z) (λ (z : b ≡ a). subst (λ y. guarded_less c y ≡ true) (sym z) (p.below 0 c (omega arith) refl)) (head_of row i a b g))
    (insert_ascends row i a (rest_ascends c row h) (record { within = omega (arith, p.within); below = λ j b lt g. p.below (suc j) b (omega arith) g; above = λ j b le g. p.above (suc j) b (omega arith) g }))

pub insert_has : (row : List Guarded) (i : ℕ) (a : Guarded) → i ≤ length row → Contains (insert row i a) a
insert_has row zero a h = (0, omega arith, refl)
insert_has [] (suc i) a h = absurd (omega arith)
insert_has (c ∷ row) (suc i) a h = let r = insert_has row i a (omega arith) in (suc r.0, omega (arith, r.1), r.2)

pub insert_from : (row : List Guarded) (i : ℕ) (a b : Guarded) → Contains (insert row i a) b → Contains row b ⊎ (b ≡ a)
insert_from row zero a b (zero, lt, e) = inr (sym e)
insert_from row zero a b (suc k, lt, e) = inl (k, omega arith, e)
insert_from [] (suc i) a b (zero, lt, e) = inr (sym e)
insert_from [] (suc i) a b (suc k, lt, e) = absurd (omega (arith, lt))
insert_from (c ∷ row) (suc i) a b (zero, lt, e) = inl (zero, omega arith, e)
insert_from (c ∷ row) (suc i) a b (suc k, lt, e) = ⊎_elim (λ (z : Contains row b). inl (suc z.0, omega (arith, z.1), z.2)) (λ (z : b ≡ a). inr z) (insert_from row i a b (k, omega arith, e))

pub got_in : (row : List Guarded) (k : ℕ) (a : Guarded) → slice_get row k ≡ Some a → Contains row a
got_in row k a h = (k, slice_get_within row k a h, get_or_from_slice_get row k a a h)

pub in_got : (row : List Guarded) (a : Guarded) → Contains row a → (k : ℕ) × (slice_get row k ≡ Some a)
in_got row a (k, lt, e) = (k, slice_get-get_or row k a lt ∙ ap Some e)

-- ---- where an access may stand

-- the access in the middle is less: so are all before it
pub below_more : (row : List Guarded) (a b : Guarded) (m : ℕ) → guarded_ascend row ≡ true → slice_get row m ≡ Some b → guarded_less b a ≡ true → (j : ℕ) (c : Guarded) → j < m + 1 → slice_get row j ≡ Some c → guarded_less c a ≡ true
below_more row a b m h at l j c lt k = ⊎_elim
    (λ (z : j < m). guarded_trans c b a (earlier_less row j m c b h z k at) l)
    (λ (z : m ≤ j). let e : j ≡ m = omega arith in subst (λ x. guarded_less x a ≡ true) (same_Some b c (sym at ∙ ap (slice_get row) (sym e) ∙ k)) l)
    (cases_lt j m)

-- it is greater: so are all after it
pub above_more : (row : List Guarded) (a b : Guarded) (m : ℕ) → guarded_ascend row ≡ true → slice_get row m ≡ Some b → guarded_less a b ≡ true → (j : ℕ) (c : Guarded) → m ≤ j → slice_get row j ≡ Some c → guarded_less a c ≡ true
above_more row a b m h at l j c le k = ⊎_elim
    (λ (z : m < j). guarded_trans a b c l (earlier_less row m j b c h z at k))
    (λ (z : j ≤ m). let e : j ≡ m = omega arith in subst (λ x. guarded_less a x ≡ true) (same_Some b c (sym at ∙ ap (slice_get row) (sym e) ∙ k)) l)
    (cases_lt m j)

-- it is neither: it is the access
pub is_there : (row : List Guarded) (a b : Guarded) (m : ℕ) → slice_get row m ≡ Some b → guarded_less b a ≡ false → guarded_less a b ≡ false → slice_get row m ≡ Some a
is_there row a b m at l k = ⊎_elim (λ (e : b ≡ a). at ∙ ap Some e) (λ (z : guarded_less a b ≡ true). absurd (differ (sym k ∙ z))) (guarded_other b a l)
  where
    differ : false ≡ true → ⊥
    differ h = cc

pub stays_put : (row : List Guarded) (a : Guarded) (k : ℕ) → guarded_ascend row ≡ true → slice_get row k ≡ Some a → IsPut row a row false
stays_put row a k h at = record { ascends = h; listed = got_in row k a at; from = λ b i. inl i; same = λ e. refl; longer = λ e. cc }

pub puts : (row new : List Guarded) (a : Guarded) (k n : ℕ) → guarded_ascend row ≡ true → IsPlace row a k → new ≡ insert row k a → n ≡ length new → n < 2 ^ 64 → IsPut row a new true
puts row new a k n h p e g lt = record {
  ascends = subst (λ z. guarded_ascend z ≡ true) (sym e) (insert_ascends row k a h p);
  listed = subst (λ z. Contains z a) (sym e) (insert_has row k a p.within);
  from = λ b i. insert_from row k a b (subst (λ z. Contains z b) e i);
  same = λ f. cc;
  longer = λ f. (ap (λ (z : List Guarded). length z) e ∙ length-insert row k a p.within, omega (arith, g));
}

-- ---- one row of all

row_from : (rows : List (List Guarded)) (f : ℕ) (a : Guarded) (old new : List Guarded) (added : Bool) (g : ℕ) (b : Guarded) → slice_get rows f ≡ Some old → IsPut old a new added → InRow (slice_set rows f new) g b → InRow rows g b ⊎ ((g ≡ f) × (b ≡ a))
row_from rows f a old new added g b at put h = ⊎_elim
    (λ (e : g ≡ f).
    let is : new ≡ h.row = same_Some new h.row (sym (slice_get-set_same rows f new old at) ∙ ap (slice_get (slice_set rows f new)) (sym e) ∙ h.stands) in
    ⊎_elim (λ (z : Contains old b). inl (record { row = old; stands = ap (slice_get rows) e ∙ at; listed = z })) (λ (z : b ≡ a). inr (e, z)) (put.from b (subst (λ z. Contains z b) (sym is) h.listed)))
    (λ (ne : g ≡ f → ⊥). inl (record { row = h.row; stands = sym (slice_get-set_other rows f g new ne) ∙ h.stands; listed = h.listed }))
    (cases_eq g f)

pub put_makes : (code : Code) (xs : List Points) (rows : List (List Guarded)) (f : ℕ) (a : Guarded) (old new : List Guarded) (added : Bool) → slice_get rows f ≡ Some old → (AreMade code xs rows → Guards code xs f a) → IsPut old a new added → Makes code xs (λ r. InRow r f a) rows (slice_set rows f new) added
put_makes code xs rows f a old new added at makes put = record {
  sound = λ s. record {
    long = length-set rows f new ∙ s.long;
    ascending = λ g r h. ⊎_elim
        (λ (e : g ≡ f). subst (λ z. guarded_ascend z ≡ true) (same_Some new r (sym (slice_get-set_same rows f new old at) ∙ ap (slice_get (slice_set rows f new)) (sym e) ∙ h)) put.ascends)
        (λ (ne : g ≡ f → ⊥). s.ascending g r (sym (slice_get-set_other rows f g new ne) ∙ h))
        (cases_eq g f);
    made = λ g b h. ⊎_elim (λ z. s.made g b z) (λ (z : (g ≡ f) × (b ≡ a)). subst (λ y. Guards code xs y b) (sym z.0) (subst (Guards code xs f) (sym z.1) (makes s))) (row_from rows f a old new added g b at put h);
  };
  met = λ e. (unchanged e, record { row = new; stands = slice_get-set_same rows f new old at; listed = put.listed });
  falls = falls_by (List (List Guarded)) (room Guarded) (AreMade code xs) added rows (slice_set rows f new) unchanged (λ e. room_falls Guarded rows f old new at (put.longer e).0 (put.longer e).1);
}
  where
    unchanged : added ≡ false → slice_set rows f new ≡ rows
    unchanged e = ap (slice_set rows f) (put.same e) ∙ slice_set-get rows f old at

-- rows to which nothing is added have all accesses
pub complete : (code : Code) (xs : List Points) (rows : List (List Guarded)) → AreAllMet code xs rows → {f : ℕ} {a : Guarded} → Guards code xs f a → InRow rows f a
complete code xs rows met (own f k fn i x l a at points before is) = (met f k fn i x l at points before).own a is
complete code xs rows met (called f k fn i x l g arguments into b at points before is h) = (met f k fn i x l at points before).called g arguments into b is (complete code xs rows met h)

pub row_is : (code : Code) (xs : List Points) (rows : List (List Guarded)) → AreMade code xs rows → AreAllMet code xs rows → (f : ℕ) (row : List Guarded) → slice_get rows f ≡ Some row → (a : Guarded) → Contains row a ↔ Guards code xs f a
row_is code xs rows s met f row at a = ((λ h. s.made f a (record { row = row; stands = at; listed = h })), λ k. let i = complete code xs rows met k in subst (λ z. Contains z a) (same_Some i.row row (sym i.stands ∙ at)) i.listed)

-- the rows at the start
pub none_made : (code : Code) (xs : List Points) (rows : List (List Guarded)) → length rows ≡ length code.functions → ((f : ℕ) (row : List Guarded) → slice_get rows f ≡ Some row → row ≡ []) → AreMade code xs rows
none_made code xs rows long empty = record {
  long = long;
  ascending = λ f row at. ap guarded_ascend (empty f row at);
  made = λ f a h. absurd (nothing a (subst (λ z. Contains z a) (empty f h.row h.stands) h.listed));
}
  where
    nothing : (a : Guarded) → Contains [] a → ⊥
    nothing a (k, lt, e) = omega (arith, lt)
