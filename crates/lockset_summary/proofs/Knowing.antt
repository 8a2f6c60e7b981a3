-- Rows of paths: what one path more keeps, and that rows to which nothing is added have all that functions know.
use Rattle.std.proofs.Common.{◌≡◌, ℕ, zero, suc, ◌+◌, ◌^◌, ◌<◌, ◌≤◌, Bool, true, false, List, [], ◌∷◌, map, length, refl, sym, ap, ◌∙◌, subst, arith, ◌⊎◌, inl, inr, ⊎_elim, Option, Some, None, length-set, nat_lt, get_or, Result, Ok, Err, IfOk, OnOk}
use Rattle.std.specs.Prelude.{slice_get, slice_set}
use Rattle.std.specs.declared.alloc.AllocError.{AllocError}
use Rattle.std.proofs.lemmas.Bool.{cases_eq, cases_lt}
use Rattle.std.proofs.lemmas.List.{length-map}
use Rattle.std.proofs.lemmas.Option.{same_Some, none-some, slice_get-get_or, slice_get_read, get_or_from_slice_get}
use Rattle.rr_base.proofs.Lists.{slice_get-set_other, slice_get-set_same, slice_set-get}
use Rattle.flow_code.specs.declared.act.Act.TheVariants as act
use Rattle.flow_code.specs.declared.act.Instr.{Instr}
use Rattle.word_semantics.specs.declared.library_call.LibraryCall.{LibraryCall}
use Rattle.flow_code.specs.declared.code.Code.{Code}
use Rattle.flow_code.specs.declared.code.Function.{Function}
use Rattle.facts.specs.declared.locks.Held.{Held}
use Rattle.facts.specs.declared.locks.LockPath.{LockPath}
use Rattle.facts.specs.declared.locks.Naming.{Naming}
use Rattle.facts.specs.declared.locks.Naming.TheVariants.{Unknown, Named}
use Rattle.facts.specs.Paths.{substituted, names_cell}
use Rattle.facts.specs.Locks.{has, with, are_ascending, actuals_at}
use Rattle.facts.specs.Summaries.{lock_naming, Knows, own, called, ListsKnown, AllListsKnown}
use Rattle.lockset_summary.specs.Rounds.{ForEach, ForThe, room}
use Rattle.lockset_summary.specs.Known.{In, row_of, IsSeen, AreKnown, IsTold, AreAllTold, in_both_ways, Adds}
use Rattle.facts.proofs.TotalOrders.{orders_paths}
use Rattle.lockset_summary.proofs.BothWays.{has_in_both, in_both_has, both_ascend}
use Rattle.lockset_summary.proofs.Sets.{has_cons, has_first, has_later, has_with, with_has, with_ascends, with_longer}
use Rattle.lockset_summary.proofs.Rounds.{falls_by, room_falls, weaker, none, for_the}

set_from : (rows : List (List LockPath)) (f : ℕ) (p : LockPath) (row : List LockPath) (g : ℕ) (q : LockPath) → slice_get rows f ≡ Some row → In (slice_set rows f (with p row)) g q → In rows g q ⊎ ((g ≡ f) × (q ≡ p))
set_from rows f p row g q at h = ⊎_elim
    (λ (e : g ≡ f).
    let is : with p row ≡ h.row = same_Some (with p row) h.row (sym (slice_get-set_same rows f (with p row) row at) ∙ ap (slice_get (slice_set rows f (with p row))) (sym e) ∙ h.stands) in
    ⊎_elim (λ (z : q ≡ p). inr (e, z)) (λ (z : has q row ≡ true). inl (record { row = row; stands = ap (slice_get rows) e ∙ at; listed = z })) (has_with orders_paths q p row (subst (λ z. has q z ≡ true) (sym is) h.listed)))
    (λ (ne : g ≡ f → ⊥). inl (record { row = h.row; stands = sym (slice_get-set_other rows f g (with p row) ne) ∙ h.stands; listed = h.listed }))
    (cases_eq g f)

-- a path is added that the function knows
pub put_adds : (code : Code) (rows : List (List LockPath)) (f : ℕ) (p : LockPath) (row : List LockPath) (added : Bool) → slice_get rows f ≡ Some row → (AreKnown code rows → Knows code f p) → (added ≡ false → with p row ≡ row) → (added ≡ true → (length (with p row) ≡ length row + 1) × (length (with p row) < 2 ^ 64)) → Adds code (λ r. In r f p) rows (slice_set rows f (with p row)) added
put_adds code rows f p row added at knows same grows = record {
  sound = λ s. record {
    long = length-set rows f (with p row) ∙ s.long;
    ascending = λ g r h. ⊎_elim
        (λ (e : g ≡ f). subst (λ z. are_ascending z ≡ true) (same_Some (with p row) r (sym (slice_get-set_same rows f (with p row) row at) ∙ ap (slice_get (slice_set rows f (with p row))) (sym e) ∙ h)) (with_ascends orders_paths p row (s.ascending f row at)))
        (λ (ne : g ≡ f → ⊥). s.ascending g r (sym (slice_get-set_other rows f g (with p row) ne) ∙ h))
        (cases_eq g f);
    known = λ g q h. ⊎_elim (λ z. s.known g q z) (λ (z : (g ≡ f) × (q ≡ p)). subst (λ y. Knows code y q) (sym z.0) (subst (Knows code f) (sym z.1) (knows s))) (set_from rows f p row g q at h);
  };
  met = λ e. (unchanged e, record { row = with p row; stands = slice_get-set_same rows f (with p row) row at; listed = with_has orders_paths p row });
  falls = falls_by (List (List LockPath)) (room LockPath) (AreKnown code) added rows (slice_set rows f (with p row)) unchanged (λ e. room_falls LockPath rows f row (with p row) at (grows e).0 (grows e).1);
}
  where
    unchanged : added ≡ false → slice_set rows f (with p row) ≡ rows
    unchanged e = ap (slice_set rows f) (same e) ∙ slice_set-get rows f row at

-- rows to which nothing is added have all that functions know
pub complete : (code : Code) (rows : List (List LockPath)) → AreAllTold code rows → {f : ℕ} {p : LockPath} → Knows code f p → In rows f p
complete code rows told (own f k fn i q at is) = (told f fn at.function k i at.instr).own q is
complete code rows told (called f k fn i g arguments into p2 q at is knows seen cell) = (told f fn at.function k i at.instr).called g arguments into p2 q is (complete code rows told knows) seen cell

pub lists_known : (code : Code) (rows : List (List LockPath)) → AreKnown code rows → AreAllTold code rows → AllListsKnown code (map in_both_ways rows)
lists_known code rows s told = (
  length-map rows in_both_ways ∙ s.long,
  λ f hs at. let r = row_at rows f hs at in subst (ListsKnown code f) r.2 (lists f r.0 r.1),
)
  where
    row_at : (rows : List (List LockPath)) (f : ℕ) (hs : List Held) → slice_get (map in_both_ways rows) f ≡ Some hs → (row : List LockPath) × (slice_get rows f ≡ Some row) × (in_both_ways row ≡ hs)
    row_at [] f hs at = cc
    row_at (r ∷ rs) zero hs at = (r, refl, same_Some (in_both_ways r) hs at)
    row_at (r ∷ rs) (suc f) hs at = row_at rs f hs at

    lists : (f : ℕ) (row : List LockPath) → slice_get rows f ≡ Some row → ListsKnown code f (in_both_ways row)
    lists f row at = record {
      ascending = both_ascend row (s.ascending f row at);
      of = λ h. (
        (λ i. s.known f h.path (record { row = row; stands = at; listed = has_in_both h row i })),
        λ k. let i = complete code rows told k in in_both_has h.mode h.path row (subst (λ z. has h.path z ≡ true) (same_Some i.row row (sym i.stands ∙ at)) i.listed),
      );
    }

-- the rows at the start
pub none_known : (code : Code) (rows : List (List LockPath)) → length rows ≡ length code.functions → ((f : ℕ) (row : List LockPath) → slice_get rows f ≡ Some row → row ≡ []) → AreKnown code rows
none_known code rows long empty = record {
  long = long;
  ascending = λ f row at. ap are_ascending (empty f row at);
  known = λ f p h. absurd (nothing p (ap (has p) (sym (empty f h.row h.stands)) ∙ h.listed));
}
  where
    nothing : (p : LockPath) → has p [] ≡ true → ⊥
    nothing p e = cc

-- ---- a path that is added

pub add_same : (p : LockPath) (row new : List LockPath) (n m : ℕ) → n ≡ length row → m ≡ length new → new ≡ with p row → nat_lt n m ≡ false → with p row ≡ row
add_same p row new n m a b e h = ⊎_elim (λ z. z) (λ (z : length (with p row) ≡ length row + 1). absurd (more (omega (arith, ap (λ (y : List LockPath). length y) e)))) (with_longer orders_paths p row)
  where
    more : n < m → ⊥
    more l = grind (arith, l, h)

pub add_longer : (p : LockPath) (row new : List LockPath) (n m : ℕ) → n ≡ length row → m ≡ length new → new ≡ with p row → m < 2 ^ 64 → nat_lt n m ≡ true → (length (with p row) ≡ length row + 1) × (length (with p row) < 2 ^ 64)
add_longer p row new n m a b e small h = ⊎_elim
    (λ (z : with p row ≡ row). absurd (omega (arith, less, ap (λ (y : List LockPath). length y) (e ∙ z))))
    (λ (z : length (with p row) ≡ length row + 1). (z, omega (arith, small, ap (λ (y : List LockPath). length y) e)))
    (with_longer orders_paths p row)
  where
    less : n < m
    less = grind (arith, h)

pub put_by : (code : Code) (rows : List (List LockPath)) (f : ℕ) (p : LockPath) (row new : List LockPath) (r : Result Bool AllocError) → f < length rows → row ≡ get_or rows f row → (AreKnown code rows → Knows code f p) → OnOk r (new ≡ with p row) → IfOk r (λ added. added ≡ false → with p row ≡ row) → IfOk r (λ added. added ≡ true → (length (with p row) ≡ length row + 1) × (length (with p row) < 2 ^ 64)) → IfOk r (λ added. Adds code (λ r. In r f p) rows (slice_set rows f new) added)
put_by code rows f p row new (Err e) lt at knows value same longer = tt
put_by code rows f p row new (Ok added) lt at knows value same longer = subst (λ z. Adds code (λ r. In r f p) rows (slice_set rows f z) added) (sym value) (put_adds code rows f p row added (slice_get_read rows (length rows) f row refl lt at) knows same longer)

-- ---- what is read of a row

pub read_in : (rows : List (List LockPath)) (g j : ℕ) (p : LockPath) → slice_get (row_of rows g) j ≡ Some p → In rows g p
read_in rows g j p h = ⊎_elim
    (λ (lt : g < length rows). record { row = row_of rows g; stands = slice_get-get_or rows g [] lt; listed = has_at (row_of rows g) j p h })
    (λ (le : length rows ≤ g). absurd (empty j p (ap (λ z. slice_get z j) (sym (past rows g le)) ∙ h)))
    (cases_lt g (length rows))
  where
    has_at : (ps : List LockPath) (j : ℕ) (p : LockPath) → slice_get ps j ≡ Some p → has p ps ≡ true
    has_at [] j p h = cc
    has_at (q ∷ qs) zero p h = has_first orders_paths p q qs (sym (same_Some q p h))
    has_at (q ∷ qs) (suc j) p h = has_later orders_paths p q qs (has_at qs j p h)

    past : (rows : List (List LockPath)) (g : ℕ) → length rows ≤ g → row_of rows g ≡ []
    past [] g le = refl
    past (r ∷ rs) zero le = absurd (omega arith)
    past (r ∷ rs) (suc g) le = past rs g (omega arith)

    empty : (j : ℕ) (p : LockPath) → slice_get [] j ≡ Some p → ⊥
    empty j p h = cc

pub in_read : (rows : List (List LockPath)) (g : ℕ) (p : LockPath) → In rows g p → (j : ℕ) × (slice_get (row_of rows g) j ≡ Some p)
in_read rows g p i = let r = place i.row i.listed in (r.0, ap (λ z. slice_get z r.0) (get_or_from_slice_get rows g i.row [] i.stands) ∙ r.1)
  where
    place : (ps : List LockPath) → has p ps ≡ true → (j : ℕ) × (slice_get ps j ≡ Some p)
    place [] h = cc
    place (q ∷ qs) h = go (has_cons orders_paths p q qs h) (place qs)
      where
        go : (p ≡ q) ⊎ (has p qs ≡ true) → (has p qs ≡ true → (j : ℕ) × (slice_get qs j ≡ Some p)) → (j : ℕ) × (slice_get (q ∷ qs) j ≡ Some p)
        go (inl e) f = (0, ap Some (sym e))
        go (inr e) f = let r = f e in (suc r.0, r.1)

-- ---- what an instruction tells

module _ (code : Code) (rows new : List (List LockPath)) (f : ℕ) where
  -- the j-th path of a called function
  pub seen_one : (g j : ℕ) (actuals : List (Option LockPath)) (p : LockPath) (o : Option LockPath) (added : Bool) → slice_get (row_of rows g) j ≡ Some p → o ≡ substituted p actuals → Adds code (λ r. (q : LockPath) → o ≡ Some q → names_cell q ≡ true → In r f q) rows new added → Adds code (ForThe (List (List LockPath)) LockPath (λ r. row_of r g) (λ i p r. IsSeen f actuals p r) j) rows new added
  seen_one g j actuals p o added at e s = for_the (List (List LockPath)) (room LockPath) (AreKnown code) LockPath (λ r. row_of r g) (λ i p r. IsSeen f actuals p r) j p rows new added at
      (weaker (List (List LockPath)) (room LockPath) (AreKnown code) (λ r. (q : LockPath) → o ≡ Some q → names_cell q ≡ true → In r f q) (IsSeen f actuals p) rows new added (λ m q h n. m q (e ∙ h) n) s)

  pub seen_none : (g j : ℕ) (actuals : List (Option LockPath)) → slice_get (row_of rows g) j ≡ None → Adds code (ForThe (List (List LockPath)) LockPath (λ r. row_of r g) (λ i p r. IsSeen f actuals p r) j) rows rows false
  seen_none g j actuals at = none (List (List LockPath)) (room LockPath) (AreKnown code) (ForThe (List (List LockPath)) LockPath (λ r. row_of r g) (λ i p r. IsSeen f actuals p r) j) rows (λ p h. absurd (none-some p (sym at ∙ h)))

  module _ (k : ℕ) (fn : Function) (i : Instr) (at : slice_get fn.instrs k ≡ Some i) where
    told_by : (Met : List (List LockPath) → Type 0) (added : Bool) → (Met new → IsTold f k fn i new) → Adds code Met rows new added → Adds code (ForThe (List (List LockPath)) Instr (λ r. fn.instrs) (λ j i r. IsTold f j fn i r) k) rows new added
    told_by Met added m s = for_the (List (List LockPath)) (room LockPath) (AreKnown code) Instr (λ r. fn.instrs) (λ j i r. IsTold f j fn i r) k i rows new added at (weaker (List (List LockPath)) (room LockPath) (AreKnown code) Met (IsTold f k fn i) rows new added m s)

    pub told_library : (c : LibraryCall) (arguments : List ℕ) (into : Option ℕ) (n : Naming) (added : Bool) → i.act ≡ act.Library c arguments into → n ≡ lock_naming fn k i.act → Adds code (λ r. (q : LockPath) → n ≡ Named q → In r f q) rows new added → Adds code (ForThe (List (List LockPath)) Instr (λ r. fn.instrs) (λ j i r. IsTold f j fn i r) k) rows new added
    told_library c arguments into n added is e s = told_by (λ r. (q : LockPath) → n ≡ Named q → In r f q) added
        (λ m. record { own = λ q h. m q (e ∙ h); called = λ g as2 into2 p q h. absurd (differ g as2 into2 (sym is ∙ h)) }) s
      where
        differ : (g : ℕ) (as2 : List ℕ) (into2 : Option ℕ) → act.Library c arguments into ≡ act.Call g as2 into2 → ⊥
        differ g as2 into2 h = cc

    pub told_call : (g : ℕ) (arguments : List ℕ) (into : Option ℕ) (actuals : List (Option LockPath)) (added : Bool) → i.act ≡ act.Call g arguments into → actuals ≡ actuals_at fn k arguments → Adds code (ForEach (List (List LockPath)) LockPath (λ r. row_of r g) (λ j p r. IsSeen f actuals p r)) rows new added → Adds code (ForThe (List (List LockPath)) Instr (λ r. fn.instrs) (λ j i r. IsTold f j fn i r) k) rows new added
    told_call g arguments into actuals added is e s = told_by (ForEach (List (List LockPath)) LockPath (λ r. row_of r g) (λ j p r. IsSeen f actuals p r)) added
        (λ m. record {
          own = λ q h. absurd (differ q (ap (lock_naming fn k) (sym is) ∙ h));
          called = λ g2 as2 into2 p q h there sees cell.
              let same = same_call g2 as2 into2 (sym is ∙ h) in
              let r = in_read new g p (subst (λ z. In new z p) (sym same.0) there) in
              m r.0 p r.1 q (ap (substituted p) (e ∙ ap (actuals_at fn k) same.1) ∙ sees) cell;
        }) s
      where
        differ : (q : LockPath) → Unknown ≡ Named q → ⊥
        differ q h = cc

        same_call : (g2 : ℕ) (as2 : List ℕ) (into2 : Option ℕ) → act.Call g arguments into ≡ act.Call g2 as2 into2 → (g ≡ g2) × (arguments ≡ as2)
        same_call g2 as2 into2 h = (cc, cc)
