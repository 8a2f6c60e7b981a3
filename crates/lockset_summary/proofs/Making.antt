-- What an instruction adds to the rows of accesses.
use Rattle.std.proofs.Common.{◌≡◌, ℕ, zero, suc, ◌<◌, ◌≤◌, Bool, true, List, [], ◌∷◌, length, get_or, refl, sym, ap, ◌∙◌, subst, arith, ⊎_elim, Option, Some, None, option_map, Result, Ok, Err, IfOk}
use Rattle.std.specs.Prelude.{slice_get, slice_set}
use Rattle.std.specs.declared.alloc.AllocError.{AllocError}
use Rattle.std.proofs.lemmas.Bool.{cases_lt}
use Rattle.std.proofs.lemmas.Option.{same_Some, slice_get_within, none-some, slice_get-get_or, slice_get_read, get_or_from_slice_get}
use Rattle.rr_base.proofs.Lists.{slice_get_inside}
use Rattle.flow_code.specs.declared.act.Act.TheVariants as act
use Rattle.flow_code.specs.declared.act.Instr.{Instr}
use Rattle.flow_code.specs.declared.code.Code.{Code}
use Rattle.flow_code.specs.declared.code.Function.{Function}
use Rattle.facts.specs.Accesses.{Access, access_of}
use Rattle.facts.specs.declared.locks.Guarded.{Guarded}
use Rattle.facts.specs.declared.locks.LockPath.{LockPath}
use Rattle.facts.specs.declared.locks.RelLocks.{RelLocks}
use Rattle.facts.specs.Locks.{Points, actuals_at, locks_are_small}
use Rattle.facts.specs.Summaries.{Guards, own, called, StandsAt, guarded_by, seen_by, locks_of}
use Rattle.lockset_summary.specs.Exits.{AreLocksKnown}
use Rattle.lockset_summary.specs.Rounds.{ForEach, ForThe, room}
use Rattle.lockset_summary.specs.Guarding.{IsPut, InRow, AreMade, AreReady, IsMet, IsMetAt, AreAllMetAt, Makes, accesses_of, IsSeenAccess, store_of}
use Rattle.lockset_summary.proofs.Insertion.{put_makes, got_in, in_got}
use Rattle.lockset_summary.proofs.Narrow.{through_known}
use Rattle.lockset_summary.proofs.Rounds.{weaker}
use Rattle.lockset_summary.proofs.Small.{locks_small}

-- ---- the paths of accesses are known

pub guards_known : (code : Code) (xs : List Points) → AreReady code xs → {f : ℕ} {a : Guarded} → Guards code xs f a → AreLocksKnown code f (locks_of a)
guards_known code xs ready (own f k fn i x l a at points before is) = let h = ready.known f k x l points before in record { plus = h.plus; minus = h.minus }
guards_known code xs ready (called f k fn i x l g arguments into b at points before is h) =
    let t = through_known code f k fn i g arguments into (locks_of b) l at is (guards_known code xs ready h) (ready.known f k x l points before) in record { plus = t.plus; minus = t.minus }

-- ---- what is read of a row

pub read_in : (rows : List (List Guarded)) (g j : ℕ) (a : Guarded) → slice_get (accesses_of rows g) j ≡ Some a → InRow rows g a
read_in rows g j a h = ⊎_elim
    (λ (lt : g < length rows). record { row = accesses_of rows g; stands = slice_get-get_or rows g [] lt; listed = got_in (accesses_of rows g) j a h })
    (λ (le : length rows ≤ g). absurd (empty j a (ap (λ z. slice_get z j) (sym (past rows g le)) ∙ h)))
    (cases_lt g (length rows))
  where
    past : (rows : List (List Guarded)) (g : ℕ) → length rows ≤ g → accesses_of rows g ≡ []
    past [] g le = refl
    past (r ∷ rs) zero le = absurd (omega arith)
    past (r ∷ rs) (suc g) le = past rs g (omega arith)

    empty : (j : ℕ) (a : Guarded) → slice_get [] j ≡ Some a → ⊥
    empty j a h = cc

pub in_read : (rows : List (List Guarded)) (g : ℕ) (a : Guarded) → InRow rows g a → (j : ℕ) × (slice_get (accesses_of rows g) j ≡ Some a)
in_read rows g a i = let r = in_got i.row a i.listed in (r.0, ap (λ z. slice_get z r.0) (get_or_from_slice_get rows g i.row [] i.stands) ∙ r.1)

pub read_small : (code : Code) (xs : List Points) (rows zs : List (List Guarded)) (g j : ℕ) (b : Guarded) → AreReady code xs → AreMade code xs rows → zs ≡ rows → slice_get (accesses_of zs g) j ≡ Some b → locks_are_small (locks_of b) ≡ true
read_small code xs rows zs g j b ready made e h = locks_small code g (locks_of b) (guards_known code xs ready (made.made g b (read_in rows g j b (ap (λ z. slice_get (accesses_of z g) j) (sym e) ∙ h))))

pub seen_made : (code : Code) (xs : List Points) (rows zs : List (List Guarded)) (f g j : ℕ) (actuals : List (Option LockPath)) (l : RelLocks) (o : Option Guarded) (a : Guarded) → AreMade code xs rows → zs ≡ rows → ((b : Guarded) → Guards code xs g b → Guards code xs f (seen_by actuals l b)) → o ≡ option_map (seen_by actuals l) (slice_get (accesses_of zs g) j) → o ≡ Some a → Guards code xs f a
seen_made code xs rows zs f g j actuals l o a made e makes is h = go (slice_get (accesses_of zs g) j) refl (sym is ∙ h)
  where
    go : (t : Option Guarded) → slice_get (accesses_of zs g) j ≡ t → option_map (seen_by actuals l) t ≡ Some a → Guards code xs f a
    go None d k = absurd (none-some a k)
    go (Some b) d k = subst (Guards code xs f) (same_Some (seen_by actuals l b) a k) (makes b (made.made g b (read_in rows g j b (ap (λ z. slice_get (accesses_of z g) j) (sym e) ∙ d))))

-- ---- an access that is added

pub put_by : (code : Code) (xs : List Points) (rows : List (List Guarded)) (f : ℕ) (a : Guarded) (row new : List Guarded) (r : Result Bool AllocError) → f < length rows → row ≡ get_or rows f row → Guards code xs f a → IfOk r (λ added. IsPut row a new added) → IfOk r (λ added. Makes code xs (λ r. InRow r f a) rows (slice_set rows f new) added)
put_by code xs rows f a row new (Err e) lt at makes put = tt
put_by code xs rows f a row new (Ok added) lt at makes put = put_makes code xs rows f a row new added (slice_get_read rows (length rows) f row refl lt at) (λ s. makes) put

module _ (code : Code) (xs : List Points) (rows new : List (List Guarded)) (f : ℕ) where
  -- the j-th access of a called function
  pub seen_one : (zs : List (List Guarded)) (g j : ℕ) (actuals : List (Option LockPath)) (l : RelLocks) (o : Option Guarded) (added : Bool) → zs ≡ rows → o ≡ option_map (seen_by actuals l) (slice_get (accesses_of zs g) j) → Makes code xs (λ r. (a : Guarded) → o ≡ Some a → InRow r f a) rows new added → Makes code xs (ForThe (List (List Guarded)) Guarded (λ r. accesses_of r g) (λ i b r. IsSeenAccess f actuals l b r) j) rows new added
  seen_one zs g j actuals l o added e is s = record {
    sound = s.sound;
    met = λ d. let m = s.met d in (m.0, λ b h. m.1 (seen_by actuals l b) (is ∙ ap (λ z. option_map (seen_by actuals l) (slice_get (accesses_of z g) j)) (e ∙ sym m.0) ∙ ap (option_map (seen_by actuals l)) h));
    falls = s.falls;
  }

  module _ (k : ℕ) (fn : Function) (i : Instr) (l : RelLocks) (ready : AreReady code xs) (at : StandsAt code f k fn i) (before : (x : Points) → slice_get xs f ≡ Some x → slice_get x.before k ≡ Some l) where
    met_by : (Met : List (List Guarded) → Type 0) (added : Bool) → (Met new → IsMet f k fn i l new) → Makes code xs Met rows new added → Makes code xs (IsMetAt code xs f k) rows new added
    met_by Met added m s = weaker (List (List Guarded)) (room Guarded) (AreMade code xs) Met (IsMetAt code xs f k) rows new added
        (λ h fn2 i2 x2 l2 at2 points before2.
        let e : fn ≡ fn2 = same_Some fn fn2 (sym at.function ∙ at2.function) in
        let d : i ≡ i2 = same_Some i i2 (sym at.instr ∙ ap (λ (z : Function). slice_get z.instrs k) e ∙ at2.instr) in
        let b : l ≡ l2 = same_Some l l2 (sym (before x2 points) ∙ before2) in
        subst (λ z. IsMet f k z i2 l2 new) e (subst (λ z. IsMet f k fn z l2 new) d (subst (λ z. IsMet f k fn i z new) b (m h)))) s

    pub met_call : (g : ℕ) (arguments : List ℕ) (into : Option ℕ) (actuals : List (Option LockPath)) (added : Bool) → i.act ≡ act.Call g arguments into → actuals ≡ actuals_at fn k arguments → Makes code xs (ForEach (List (List Guarded)) Guarded (λ r. accesses_of r g) (λ j b r. IsSeenAccess f actuals l b r)) rows new added → Makes code xs (IsMetAt code xs f k) rows new added
    met_call g arguments into actuals added is e s = met_by (ForEach (List (List Guarded)) Guarded (λ r. accesses_of r g) (λ j b r. IsSeenAccess f actuals l b r)) added
        (λ m. record {
          own = λ a h. absurd (differ a (ap access_of (sym is) ∙ h));
          called = λ g2 as2 into2 b h there.
              let same = same_call g2 as2 into2 (sym is ∙ h) in
              let r = in_read new g b (subst (λ z. InRow new z b) (sym same.0) there) in
              subst (λ z. InRow new f (seen_by z l b)) (e ∙ ap (actuals_at fn k) same.1) (m r.0 b r.1);
        }) s
      where
        differ : (a : Access) → None ≡ Some a → ⊥
        differ a h = cc

        same_call : (g2 : ℕ) (as2 : List ℕ) (into2 : Option ℕ) → act.Call g arguments into ≡ act.Call g2 as2 into2 → (g ≡ g2) × (arguments ≡ as2)
        same_call g2 as2 into2 h = (cc, cc)

    pub met_own : (o : Option Guarded) (added : Bool) → ((g : ℕ) (arguments : List ℕ) (into : Option ℕ) → i.act ≡ act.Call g arguments into → ⊥) → o ≡ option_map (λ store. guarded_by f k store l) (store_of (access_of i.act)) → Makes code xs (λ r. (a : Guarded) → o ≡ Some a → InRow r f a) rows new added → Makes code xs (IsMetAt code xs f k) rows new added
    met_own o added other is s = met_by (λ r. (a : Guarded) → o ≡ Some a → InRow r f a) added
        (λ m. record {
          own = λ a h. m (guarded_by f k a.store l) (is ∙ ap (λ z. option_map (λ store. guarded_by f k store l) (store_of z)) h);
          called = λ g arguments into b h there. absurd (other g arguments into h);
        }) s

    pub own_made : (o : Option Guarded) (a : Guarded) (x : Points) → slice_get xs f ≡ Some x → o ≡ option_map (λ store. guarded_by f k store l) (store_of (access_of i.act)) → o ≡ Some a → Guards code xs f a
    own_made o a x points is h = go (access_of i.act) refl (sym is ∙ h)
      where
        go : (t : Option Access) → access_of i.act ≡ t → option_map (λ store. guarded_by f k store l) (store_of t) ≡ Some a → Guards code xs f a
        go None d k = absurd (none-some a k)
        go (Some b) d e = subst (Guards code xs f) (same_Some (guarded_by f k b.store l) a e) (own f k fn i x l b at points (before x points) d)

    pub call_made : (g : ℕ) (arguments : List ℕ) (into : Option ℕ) (actuals : List (Option LockPath)) → i.act ≡ act.Call g arguments into → actuals ≡ actuals_at fn k arguments → f < length xs → (b : Guarded) → Guards code xs g b → Guards code xs f (seen_by actuals l b)
    call_made g arguments into actuals is e lt b h = let x = slice_get_inside xs f lt in subst (λ z. Guards code xs f (seen_by z l b)) (sym e) (called f k fn i x.0 l g arguments into b at x.1 (before x.0 x.1) is h)

    pub own_is_made : (o : Option Guarded) (a : Guarded) → f < length xs → o ≡ option_map (λ store. guarded_by f k store l) (store_of (access_of i.act)) → o ≡ Some a → Guards code xs f a
    own_is_made o a lt = let x = slice_get_inside xs f lt in own_made o a x.0 x.1

-- ---- all instructions of a function

pub all_at : (code : Code) (xs : List Points) (rows new : List (List Guarded)) (f k : ℕ) (fn : Function) (added : Bool) → slice_get code.functions f ≡ Some fn → length fn.instrs ≤ k → Makes code xs (λ r. (j : ℕ) → j < k → IsMetAt code xs f j r) rows new added → Makes code xs (AreAllMetAt code xs f) rows new added
all_at code xs rows new f k fn added is le s = weaker (List (List Guarded)) (room Guarded) (AreMade code xs) (λ r. (j : ℕ) → j < k → IsMetAt code xs f j r) (AreAllMetAt code xs f) rows new added
    (λ m j fn2 i x l at. m j (omega (arith, slice_get_within fn.instrs j i (ap (λ (z : Function). slice_get z.instrs j) (same_Some fn fn2 (sym is ∙ at.function)) ∙ at.instr))) fn2 i x l at) s
