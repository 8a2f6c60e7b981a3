-- All paths of a function's greatest points are known to it: without the others they would still be a solution.
use Rattle.std.proofs.Common.{◌≡◌, ℕ, zero, suc, Bool, true, false, List, [], ◌∷◌, map, refl, sym, ap, ◌∙◌, subst, ⊎_elim, Option, Some, None, filter}
use Rattle.std.specs.Prelude.{if◌then◌else◌, slice_get}
use Rattle.std.proofs.lemmas.List.{length-map}
use Rattle.std.proofs.lemmas.Option.{same_Some}
use Rattle.flow_code.specs.declared.act.Act.{Act}
use Rattle.flow_code.specs.declared.act.Act.TheVariants as act
use Rattle.flow_code.specs.declared.act.Instr.{Instr}
use Rattle.word_semantics.specs.declared.library_call.LibraryCall.{LibraryCall}
use Rattle.word_semantics.specs.declared.library_call.LibraryCall.TheVariants as call
use Rattle.flow_code.specs.declared.code.Code.{Code}
use Rattle.flow_code.specs.declared.code.Function.{Function}
use Rattle.sync_objects.specs.declared.mode.Mode.{Mode}
use Rattle.sync_objects.specs.declared.mode.Mode.TheVariants.{Read, Write}
use Rattle.facts.specs.declared.locks.Held.{Held}
use Rattle.facts.specs.declared.locks.LockPath.{LockPath}
use Rattle.facts.specs.declared.locks.Minus.{Minus}
use Rattle.facts.specs.declared.locks.Minus.TheVariants.{All, Listed}
use Rattle.facts.specs.declared.locks.Naming.{Naming}
use Rattle.facts.specs.declared.locks.Naming.TheVariants.{Unknown, Nowhere, Named}
use Rattle.facts.specs.declared.locks.RelLocks.{RelLocks}
use Rattle.facts.specs.Paths.{naming_at, names_cell, substituted}
use Rattle.facts.specs.Locks.{has, with, has_held, with_held, held_as, taken, union_held, without, both, nothing, locked, unlocked, is_clear, and_held, plus_seen, minus_with, listed_seen, minus_seen, through, actuals_at, after_library, after_call, after, MinusBelow, Below, topmost, Points, IsSolution, IsGreatest}
use Rattle.facts.specs.Summaries.{lock_naming, Knows, own, called, StandsAt, ListsKnown}
use Rattle.lockset_summary.specs.Exits.{IsMinusKnown, AreLocksKnown}
use Rattle.facts.proofs.TotalOrders.{orders_paths, orders_held}
use Rattle.lockset_summary.proofs.Sets.{has_cons, has_first, has_later, has_with, has_union, union_left, union_right, has_filter, filter_has}

-- the path is that of a lock of the set; a set that has it has it in both ways
abbrev pub among : LockPath → List Held → Bool
among p top = has_held (held_as Read p) top

abbrev pub IsWithin : Minus → List Held → Type 0
IsWithin All top = Unit {0}
IsWithin (Listed ps) top = (p : LockPath) → has p ps ≡ true → among p top ≡ true

-- ---- what an instruction does to the locks

-- it adds these to those that may have been given back, and what is held after it depends on what is held before it alone
record Effect (top : List Held) (step : RelLocks → RelLocks) : Type 0 where
  gone : Minus
  within : IsWithin gone top
  minus : (l : RelLocks) → (step l).minus ≡ both l.minus gone
  plus : (l m : RelLocks) → l.plus ≡ m.plus → (step l).plus ≡ (step m).plus

both_none : (m : Minus) → m ≡ both m (Listed [])
both_none All = refl
both_none (Listed ps) = refl

both_all : (m : Minus) → All ≡ both m All
both_all All = refl
both_all (Listed ps) = refl

stays : (top : List Held) → Effect top (λ l. l)
stays top = record { gone = Listed []; within = λ p h. cc; minus = λ l. both_none l.minus; plus = λ l m e. e }

locks_it : (top : List Held) (mode : Mode) (n : Naming) → Effect top (locked mode n)
locks_it top mode Unknown = stays top
locks_it top mode Nowhere = stays top
locks_it top mode (Named q) = record { gone = Listed []; within = λ p h. cc; minus = λ l. both_none l.minus; plus = λ l m e. ap (taken mode q) e }

unlocks_it : (top : List Held) (n : Naming) → ((q : LockPath) → n ≡ Named q → among q top ≡ true) → Effect top (unlocked n)
unlocks_it top Unknown f = record { gone = All; within = tt; minus = λ l. both_all l.minus; plus = λ l m e. refl }
unlocks_it top Nowhere f = stays top
unlocks_it top (Named q) f = record { gone = Listed (q ∷ []); within = λ p h. ⊎_elim (λ (z : p ≡ q). subst (λ y. among y top ≡ true) (sym z) (f q refl)) (λ (z : has p [] ≡ true). cc) (has_cons orders_paths p q [] h); minus = λ l. refl; plus = λ l m e. ap (without (Listed (q ∷ []))) e }

waits : (top : List Held) (n : Naming) → ((q : LockPath) → n ≡ Named q → among q top ≡ true) → Effect top (λ l. locked Write n (unlocked n l))
waits top Unknown f = unlocks_it top Unknown f
waits top Nowhere f = stays top
waits top (Named q) f = let u = unlocks_it top (Named q) f in record { gone = u.gone; within = u.within; minus = λ l. u.minus l; plus = λ l m e. ap (taken Write q) (u.plus l m e) }

library_effect : (top : List Held) (f : Function) (k : ℕ) (c : LibraryCall) (arguments : List ℕ) (into : Option ℕ) → ((q : LockPath) → lock_naming f k (act.Library c arguments into) ≡ Named q → among q top ≡ true) → Effect top (after_library f k c arguments)
library_effect top f k call.MutexLock [] into h = stays top
library_effect top f k call.MutexLock (m ∷ []) into h = locks_it top Write (naming_at f k m)
library_effect top f k call.MutexLock (m ∷ n ∷ r) into h = stays top
library_effect top f k call.MutexUnlock [] into h = stays top
library_effect top f k call.MutexUnlock (m ∷ []) into h = unlocks_it top (naming_at f k m) h
library_effect top f k call.MutexUnlock (m ∷ n ∷ r) into h = stays top
library_effect top f k call.CondWait [] into h = stays top
library_effect top f k call.CondWait (c ∷ []) into h = stays top
library_effect top f k call.CondWait (c ∷ m ∷ []) into h = waits top (naming_at f k m) h
library_effect top f k call.CondWait (c ∷ m ∷ n ∷ r) into h = stays top
library_effect top f k (call.Create g) arguments into h = stays top
library_effect top f k call.Join arguments into h = stays top
library_effect top f k call.Exit arguments into h = stays top
library_effect top f k call.SelfNumber arguments into h = stays top
library_effect top f k call.SameThread arguments into h = stays top
library_effect top f k call.MutexInit arguments into h = stays top
library_effect top f k call.MutexTryLock arguments into h = stays top
library_effect top f k call.MutexDestroy arguments into h = stays top
library_effect top f k call.CondInit arguments into h = stays top
library_effect top f k call.CondSignal arguments into h = stays top
library_effect top f k call.CondDestroy arguments into h = stays top
library_effect top f k call.BarrierInit arguments into h = stays top
library_effect top f k call.BarrierWait arguments into h = stays top
library_effect top f k call.BarrierDestroy arguments into h = stays top
library_effect top f k call.RwInit arguments into h = stays top
library_effect top f k call.RwRdLock [] into h = stays top
library_effect top f k call.RwRdLock (m ∷ []) into h = locks_it top Read (naming_at f k m)
library_effect top f k call.RwRdLock (m ∷ n ∷ r) into h = stays top
library_effect top f k call.RwWrLock [] into h = stays top
library_effect top f k call.RwWrLock (m ∷ []) into h = locks_it top Write (naming_at f k m)
library_effect top f k call.RwWrLock (m ∷ n ∷ r) into h = stays top
library_effect top f k call.RwUnlock [] into h = stays top
library_effect top f k call.RwUnlock (m ∷ []) into h = unlocks_it top (naming_at f k m) h
library_effect top f k call.RwUnlock (m ∷ n ∷ r) into h = stays top
library_effect top f k call.RwDestroy arguments into h = stays top
library_effect top f k call.Free arguments into h = stays top
library_effect top f k call.GetChar arguments into h = stays top
library_effect top f k (call.Print format) arguments into h = stays top
library_effect top f k call.PutChar arguments into h = stays top

-- the path may have been given back
abbrev pub HasMinus : Minus → LockPath → Type 0
HasMinus All p = ⊥
HasMinus (Listed ps) p = has p ps ≡ true

listed_seen_within : (actuals : List (Option LockPath)) (ps : List LockPath) (top : List Held) → ((p q : LockPath) → has p ps ≡ true → substituted p actuals ≡ Some q → names_cell q ≡ true → among q top ≡ true) → IsWithin (listed_seen actuals ps) top
listed_seen_within actuals [] top f = λ p h. cc
listed_seen_within actuals (p ∷ ps) top f = go (substituted p actuals) refl (listed_seen actuals ps) (listed_seen_within actuals ps top (λ x q h. f x q (has_later orders_paths x p ps h)))
  where
    put : (b : Bool) (q : LockPath) (rs : List LockPath) → substituted p actuals ≡ Some q → names_cell q ≡ b → ((x : LockPath) → has x rs ≡ true → among x top ≡ true) → (x : LockPath) → has x (if b then with q rs else rs) ≡ true → among x top ≡ true
    put true q rs e n rest x h = ⊎_elim (λ (z : x ≡ q). subst (λ y. among y top ≡ true) (sym z) (f p q (has_first orders_paths p p ps refl) e n)) (rest x) (has_with orders_paths x q rs h)
    put false q rs e n rest x h = rest x h

    go : (o : Option LockPath) → substituted p actuals ≡ o → (m : Minus) → IsWithin m top → IsWithin (minus_with o m) top
    go None e m w = tt
    go (Some q) e All w = tt
    go (Some q) e (Listed rs) w = put (names_cell q) q rs e refl w

minus_seen_within : (actuals : List (Option LockPath)) (m : Minus) (top : List Held) → ((p q : LockPath) → HasMinus m p → substituted p actuals ≡ Some q → names_cell q ≡ true → among q top ≡ true) → IsWithin (minus_seen actuals m) top
minus_seen_within actuals All top f = tt
minus_seen_within actuals (Listed ps) top f = listed_seen_within actuals ps top f

call_effect : (top : List Held) (actuals : List (Option LockPath)) (o : Option RelLocks) → ((e : RelLocks) (p q : LockPath) → o ≡ Some e → HasMinus e.minus p → substituted p actuals ≡ Some q → names_cell q ≡ true → among q top ≡ true) → Effect top (after_call actuals o)
call_effect top actuals None f = stays top
call_effect top actuals (Some e) f = record {
  gone = minus_seen actuals e.minus;
  within = minus_seen_within actuals e.minus top (λ p q. f e p q refl);
  minus = λ l. refl;
  plus = λ l m h. ap (λ z. union_held (without (minus_seen actuals e.minus) z) (plus_seen actuals e.plus)) h;
}

-- the set has all locks of which the function's instructions speak
pub record IsClosed (exits : List RelLocks) (f : Function) (top : List Held) : Type 0 where
  pub own : (k : ℕ) (i : Instr) (q : LockPath) → slice_get f.instrs k ≡ Some i → lock_naming f k i.act ≡ Named q → among q top ≡ true
  pub called : (k : ℕ) (i : Instr) (g : ℕ) (arguments : List ℕ) (into : Option ℕ) (e : RelLocks) (p q : LockPath) → slice_get f.instrs k ≡ Some i → i.act ≡ act.Call g arguments into → slice_get exits g ≡ Some e → HasMinus e.minus p → substituted p (actuals_at f k arguments) ≡ Some q → names_cell q ≡ true → among q top ≡ true

effect : (exits : List RelLocks) (f : Function) (top : List Held) → IsClosed exits f top → (k : ℕ) (i : Instr) → slice_get f.instrs k ≡ Some i → (a : Act) → i.act ≡ a → Effect top (after exits f k a)
effect exits f top c k i at (act.Library l arguments into) is = library_effect top f k l arguments into (λ q h. c.own k i q at (ap (lock_naming f k) is ∙ h))
effect exits f top c k i at (act.Call g arguments into) is = call_effect top (actuals_at f k arguments) (slice_get exits g) (λ e p q. c.called k i g arguments into e p q at is)
effect exits f top c k i at (act.Compute into w) is = stays top
effect exits f top c k i at (act.Alloc into site size) is = stays top
effect exits f top c k i at (act.LoadCell into through) is = stays top
effect exits f top c k i at (act.StoreCell through from) is = stays top
effect exits f top c k i at act.Mark is = stays top
effect exits f top c k i at (act.Jump to) is = stays top
effect exits f top c k i at (act.Branch on then_at else_at) is = stays top
effect exits f top c k i at (act.Return value) is = stays top
effect exits f top c k i at (act.Take n) is = stays top
effect exits f top c k i at (act.Give n) is = stays top

-- ---- points without the paths that aren't in a set

abbrev pub narrow_minus : List Held → Minus → Minus
narrow_minus top All = All
narrow_minus top (Listed ps) = Listed (filter (λ p. among p top) ps)

abbrev pub narrow : List Held → RelLocks → RelLocks
narrow top l = record { plus = l.plus; minus = narrow_minus top l.minus }

narrow_rises : (top : List Held) (m n : Minus) → MinusBelow m n → MinusBelow (narrow_minus top m) (narrow_minus top n)
narrow_rises top All n h = tt
narrow_rises top (Listed ps) All h = absurd h
narrow_rises top (Listed ps) (Listed qs) h = λ p i. let r = has_filter orders_paths (λ z. among z top) p qs i in filter_has orders_paths (λ z. among z top) p ps (h p r.0) r.1

narrow_step : (top : List Held) (m a d : Minus) → IsWithin d top → MinusBelow m (both a d) → MinusBelow (narrow_minus top m) (both (narrow_minus top a) d)
narrow_step top All a d w h = tt
narrow_step top (Listed ms) All d w h = absurd h
narrow_step top (Listed ms) (Listed ps) All w h = absurd h
narrow_step top (Listed ms) (Listed ps) (Listed ds) w h = λ p i. ⊎_elim
    (λ z. let r = has_filter orders_paths (λ y. among y top) p ps z in filter_has orders_paths (λ y. among y top) p ms (h p (union_left orders_paths p ps ds r.0)) r.1)
    (λ z. filter_has orders_paths (λ y. among y top) p ms (h p (union_right orders_paths p ps ds z)) (w p z))
    (has_union orders_paths p (filter (λ y. among y top) ps) ds i)

narrow_none : (top : List Held) (m : Minus) → MinusBelow (narrow_minus top m) (Listed [])
narrow_none top All = tt
narrow_none top (Listed ps) = λ p h. cc

abbrev pub narrow_points : List Held → Points → Points
narrow_points top x = record { before = map (narrow top) x.before; exit = narrow top x.exit }

narrow_at : (top : List Held) (ls : List RelLocks) (k : ℕ) (l : RelLocks) → slice_get (map (narrow top) ls) k ≡ Some l → (m : RelLocks) × (slice_get ls k ≡ Some m) × (narrow top m ≡ l)
narrow_at top [] k l h = cc
narrow_at top (x ∷ xs) zero l h = (x, refl, same_Some (narrow top x) l h)
narrow_at top (x ∷ xs) (suc k) l h = narrow_at top xs k l h

narrowed_at : (top : List Held) (ls : List RelLocks) (k : ℕ) (l : RelLocks) → slice_get ls k ≡ Some l → slice_get (map (narrow top) ls) k ≡ Some (narrow top l)
narrowed_at top [] k l h = cc
narrowed_at top (x ∷ xs) zero l h = ap (λ z. Some (narrow top z)) (same_Some x l h)
narrowed_at top (x ∷ xs) (suc k) l h = narrowed_at top xs k l h

narrow_solves : (exits : List RelLocks) (f : Function) (top : List Held) (x : Points) → IsClosed exits f top → IsSolution exits f top x → IsSolution exits f top (narrow_points top x)
narrow_solves exits f top x c s = record {
  long = length-map x.before (narrow top) ∙ s.long;
  entry = λ l i. let m = narrow_at top x.before 0 l i in subst (λ z. Below z nothing) m.2 record { plus = (s.entry m.0 m.1).plus; minus = narrow_none top m.0.minus };
  within = λ k l i. let m = narrow_at top x.before k l i in subst (λ z. Below z (topmost top)) m.2 record { plus = (s.within k m.0 m.1).plus; minus = narrow_none top m.0.minus };
  steps = λ k to i l n at on was is.
      let a = narrow_at top x.before k l was in
      let b = narrow_at top x.before to n is in
      subst (λ z. Below n (after exits f k i.act z)) a.2 (subst (λ z. Below z (after exits f k i.act (narrow top a.0))) b.2 (step k i a.0 b.0 (effect exits f top c k i at i.act refl) (s.steps k to i a.0 b.0 at on a.1 b.1)));
  exit_within = record { plus = s.exit_within.plus; minus = narrow_none top x.exit.minus };
  returned = λ k i l at on was. let a = narrow_at top x.before k l was in subst (Below (narrow top x.exit)) a.2 (let r = s.returned k i a.0 at on a.1 in record { plus = r.plus; minus = narrow_rises top x.exit.minus a.0.minus r.minus });
}
  where
    step : (k : ℕ) (i : Instr) (l m : RelLocks) → Effect top (after exits f k i.act) → Below m (after exits f k i.act l) → Below (narrow top m) (after exits f k i.act (narrow top l))
    step k i l m e h = record {
      plus = λ p g. subst (λ z. has_held p z ≡ true) (e.plus l (narrow top l) refl) (h.plus p g);
      minus = subst (MinusBelow (narrow_minus top m.minus)) (sym (e.minus (narrow top l))) (narrow_step top m.minus l.minus e.gone e.within (subst (MinusBelow m.minus) (e.minus l) h.minus));
    }

minus_within : (top : List Held) (m : Minus) → MinusBelow (narrow_minus top m) m → IsWithin m top
minus_within top All h = tt
minus_within top (Listed ps) h = λ p i. (has_filter orders_paths (λ z. among z top) p ps (h p i)).1

pub point_within : (exits : List RelLocks) (f : Function) (top : List Held) (x : Points) → IsClosed exits f top → IsGreatest exits f top x → (k : ℕ) (l : RelLocks) → slice_get x.before k ≡ Some l → ((h : Held) → has_held h l.plus ≡ true → has_held h top ≡ true) × IsWithin l.minus top
point_within exits f top x c g k l at = ((g.solves.within k l at).plus, minus_within top l.minus ((g.most (narrow_points top x) (narrow_solves exits f top x c g.solves)).before k (narrow top l) l (narrowed_at top x.before k l at) at).minus)

pub exit_within : (exits : List RelLocks) (f : Function) (top : List Held) (x : Points) → IsClosed exits f top → IsGreatest exits f top x → ((h : Held) → has_held h x.exit.plus ≡ true → has_held h top ≡ true) × IsWithin x.exit.minus top
exit_within exits f top x c g = (g.solves.exit_within.plus, minus_within top x.exit.minus (g.most (narrow_points top x) (narrow_solves exits f top x c g.solves)).exit.minus)

-- ---- what functions know

minus_has : (code : Code) (g : ℕ) (m : Minus) (p : LockPath) → IsMinusKnown code g m → HasMinus m p → Knows code g p
minus_has code g All p k h = absurd h
minus_has code g (Listed ps) p k h = k p h

minus_known : (code : Code) (f : ℕ) (top : List Held) (m : Minus) → ListsKnown code f top → IsWithin m top → IsMinusKnown code f m
minus_known code f top All k w = tt
minus_known code f top (Listed ps) k w = λ p h. (k.of (held_as Read p)).0 (w p h)

pub locks_known : (code : Code) (f : ℕ) (top : List Held) (l : RelLocks) → ListsKnown code f top → ((h : Held) → has_held h l.plus ≡ true → has_held h top ≡ true) × IsWithin l.minus top → AreLocksKnown code f l
locks_known code f top l k w = record { plus = λ p h. (k.of p).0 (w.0 p h); minus = minus_known code f top l.minus k w.1 }

pub closed : (code : Code) (exits : List RelLocks) (f : ℕ) (fn : Function) (top : List Held) → slice_get code.functions f ≡ Some fn → ListsKnown code f top → ((g : ℕ) (e : RelLocks) → slice_get exits g ≡ Some e → AreLocksKnown code g e) → IsClosed exits fn top
closed code exits f fn top at k known = record {
  own = λ j i q is n. (k.of (held_as Read q)).1 (own f j fn i q (record { function = at; instr = is }) n);
  called = λ j i g arguments into e p q is c there h s n. (k.of (held_as Read q)).1 (called f j fn i g arguments into p q (record { function = at; instr = is }) c (minus_has code g e.minus p (known g e there).minus h) s n);
}

-- the locks after a call are known, where those before it and the called function's are
pub through_known : (code : Code) (f k : ℕ) (fn : Function) (i : Instr) (g : ℕ) (arguments : List ℕ) (into : Option ℕ) (e l : RelLocks) → StandsAt code f k fn i → i.act ≡ act.Call g arguments into → AreLocksKnown code g e → AreLocksKnown code f l → AreLocksKnown code f (through (actuals_at fn k arguments) e l)
through_known code f k fn i g arguments into e l at is ke kl = record {
  plus = λ p h. ⊎_elim
      (λ (z : has_held p (without (minus_seen (actuals_at fn k arguments) e.minus) l.plus) ≡ true). kl.plus p (kept (minus_seen (actuals_at fn k arguments) e.minus) p z))
      (λ (z : has_held p (plus_seen (actuals_at fn k arguments) e.plus) ≡ true). seen e.plus ke.plus p z)
      (has_union orders_held p (without (minus_seen (actuals_at fn k arguments) e.minus) l.plus) (plus_seen (actuals_at fn k arguments) e.plus) h);
  minus = joined l.minus (minus_seen (actuals_at fn k arguments) e.minus) kl.minus (minus_of e.minus ke.minus);
}
  where
    onto : (p q : LockPath) → Knows code g p → substituted p (actuals_at fn k arguments) ≡ Some q → names_cell q ≡ true → Knows code f q
    onto p q h s n = called f k fn i g arguments into p q at is h s n

    kept : (m : Minus) (h : Held) → has_held h (without m l.plus) ≡ true → has_held h l.plus ≡ true
    kept All h i = cc
    kept (Listed qs) h i = (has_filter orders_held (λ (z : Held). is_clear qs z.path) h l.plus i).0

    put_held : (b : Bool) (mode : Mode) (q : LockPath) (rs : List Held) → (names_cell q ≡ true → Knows code f q) → names_cell q ≡ b → ((x : Held) → has_held x rs ≡ true → Knows code f x.path) → (x : Held) → has_held x (if b then with_held (held_as mode q) rs else rs) ≡ true → Knows code f x.path
    put_held true mode q rs k n rest x h = ⊎_elim (λ (z : x ≡ held_as mode q). subst (λ (y : Held). Knows code f y.path) (sym z) (k n)) (rest x) (has_with orders_held x (held_as mode q) rs h)
    put_held false mode q rs k n rest x h = rest x h

    put_seen : (mode : Mode) (o : Option LockPath) (rs : List Held) → ((q : LockPath) → o ≡ Some q → names_cell q ≡ true → Knows code f q) → ((x : Held) → has_held x rs ≡ true → Knows code f x.path) → (x : Held) → has_held x (and_held mode o rs) ≡ true → Knows code f x.path
    put_seen mode None rs k rest x h = rest x h
    put_seen mode (Some q) rs k rest x h = put_held (names_cell q) mode q rs (k q refl) refl rest x h

    seen : (hs : List Held) → ((h : Held) → has_held h hs ≡ true → Knows code g h.path) → (x : Held) → has_held x (plus_seen (actuals_at fn k arguments) hs) ≡ true → Knows code f x.path
    seen [] ks x h = cc
    seen (p ∷ ps) ks x h = put_seen p.mode (substituted p.path (actuals_at fn k arguments)) (plus_seen (actuals_at fn k arguments) ps) (λ q. onto p.path q (ks p (has_first orders_held p p ps refl))) (seen ps (λ q j. ks q (has_later orders_held q p ps j))) x h

    put : (b : Bool) (q : LockPath) (rs : List LockPath) → (names_cell q ≡ true → Knows code f q) → names_cell q ≡ b → ((x : LockPath) → has x rs ≡ true → Knows code f x) → (x : LockPath) → has x (if b then with q rs else rs) ≡ true → Knows code f x
    put true q rs k n rest x h = ⊎_elim (λ (z : x ≡ q). subst (Knows code f) (sym z) (k n)) (rest x) (has_with orders_paths x q rs h)
    put false q rs k n rest x h = rest x h

    put_minus : (o : Option LockPath) (m : Minus) → ((q : LockPath) → o ≡ Some q → names_cell q ≡ true → Knows code f q) → IsMinusKnown code f m → IsMinusKnown code f (minus_with o m)
    put_minus None m k rest = tt
    put_minus (Some q) All k rest = tt
    put_minus (Some q) (Listed rs) k rest = put (names_cell q) q rs (k q refl) refl rest

    listed : (ps : List LockPath) → ((p : LockPath) → has p ps ≡ true → Knows code g p) → IsMinusKnown code f (listed_seen (actuals_at fn k arguments) ps)
    listed [] ks = λ p h. cc
    listed (p ∷ ps) ks = put_minus (substituted p (actuals_at fn k arguments)) (listed_seen (actuals_at fn k arguments) ps) (λ q. onto p q (ks p (has_first orders_paths p p ps refl))) (listed ps (λ q j. ks q (has_later orders_paths q p ps j)))

    minus_of : (m : Minus) → IsMinusKnown code g m → IsMinusKnown code f (minus_seen (actuals_at fn k arguments) m)
    minus_of All ks = tt
    minus_of (Listed ps) ks = listed ps ks

    joined : (m n : Minus) → IsMinusKnown code f m → IsMinusKnown code f n → IsMinusKnown code f (both m n)
    joined All n a b = tt
    joined (Listed ps) All a b = tt
    joined (Listed ps) (Listed qs) a b = λ p h. ⊎_elim (a p) (b p) (has_union orders_paths p ps qs h)
