-- What an instruction makes of locks: it rises with what was known before it, and it is told by the names of arguments.
use Rattle.std.proofs.Common.{◌≡◌, ℕ, Bool, true, List, [], ◌∷◌, map, refl, sym, ap, ◌∙◌, ⊎_elim, Option, Some, None}
use Rattle.std.specs.Prelude.{slice_get}
use Rattle.flow_code.specs.declared.act.Act.{Act}
use Rattle.flow_code.specs.declared.act.Act.TheVariants as act
use Rattle.word_semantics.specs.declared.library_call.LibraryCall.{LibraryCall}
use Rattle.word_semantics.specs.declared.library_call.LibraryCall.TheVariants as call
use Rattle.flow_code.specs.declared.code.Function.{Function}
use Rattle.sync_objects.specs.declared.mode.Mode.{Mode}
use Rattle.sync_objects.specs.declared.mode.Mode.TheVariants.{Read, Write}
use Rattle.facts.specs.declared.locks.Held.{Held}
use Rattle.facts.specs.declared.locks.LockPath.{LockPath}
use Rattle.facts.specs.declared.locks.Minus.{Minus}
use Rattle.facts.specs.declared.locks.Minus.TheVariants.{All, Listed}
use Rattle.facts.specs.declared.locks.Naming.{Naming}
use Rattle.facts.specs.declared.locks.Naming.TheVariants.{Unknown, Nowhere, Named}
use Rattle.facts.specs.declared.locks.RelLocks.{RelLocks}
use Rattle.facts.specs.Paths.{naming_at, actual_of, arguments_of}
use Rattle.facts.specs.Locks.{held_less, held_same, has_held, with_held, held_as, taken, is_clear, without, locked, unlocked, plus_seen, minus_seen, through, actuals_at, after_library, after_call, after, Below}
use Rattle.facts.proofs.HeldSets.{has-with, has_filter, filter_has}
use Rattle.facts.proofs.TotalOrders.{orders_held}
use Rattle.lockset_flow.specs.Rounds.{library_by, after_by}
use Rattle.lockset_flow.proofs.Meets.{below_refl, both_mono, union_mono, or_cases, or_first, or_second}

-- ---- it rises

with_mono : (k : Held) (hs ls : List Held) → ((h : Held) → has_held h hs ≡ true → has_held h ls ≡ true) → (h : Held) → has_held h (with_held k hs) ≡ true → has_held h (with_held k ls) ≡ true
with_mono k hs ls f h i =
    has-with h k ls ∙
    ⊎_elim (λ (j : held_same h k ≡ true). or_first (held_same h k) (has_held h ls) j) (λ (j : has_held h hs ≡ true). or_second (held_same h k) (has_held h ls) (f h j)) (or_cases (held_same h k) (has_held h hs) (sym (has-with h k hs) ∙ i))

taken_mono : (mode : Mode) (q : LockPath) (hs ls : List Held) → ((h : Held) → has_held h hs ≡ true → has_held h ls ≡ true) → (h : Held) → has_held h (taken mode q hs) ≡ true → has_held h (taken mode q ls) ≡ true
taken_mono Read q hs ls f h i = with_mono (held_as Read q) hs ls f h i
taken_mono Write q hs ls f h i = with_mono (held_as Write q) (with_held (held_as Read q) hs) (with_held (held_as Read q) ls) (with_mono (held_as Read q) hs ls f) h i

filter_mono : (m : Minus) (hs ls : List Held) → ((h : Held) → has_held h hs ≡ true → has_held h ls ≡ true) → (h : Held) → has_held h (without m hs) ≡ true → has_held h (without m ls) ≡ true
filter_mono All hs ls f h i = i
filter_mono (Listed gone) hs ls f h i = let t : Held → Bool = λ k. is_clear gone k.path in let r = has_filter t h hs i in filter_has t h ls (f h r.0) r.1

locked_mono : (mode : Mode) (n : Naming) (l m : RelLocks) → Below l m → Below (locked mode n l) (locked mode n m)
locked_mono mode Unknown l m h = h
locked_mono mode Nowhere l m h = h
locked_mono mode (Named q) l m h = record { plus = taken_mono mode q l.plus m.plus h.plus; minus = h.minus }

unlocked_mono : (n : Naming) (l m : RelLocks) → Below l m → Below (unlocked n l) (unlocked n m)
unlocked_mono Unknown l m h = below_refl _
unlocked_mono Nowhere l m h = h
unlocked_mono (Named q) l m h = record { plus = filter_mono (Listed (q ∷ [])) l.plus m.plus h.plus; minus = both_mono l.minus m.minus (Listed (q ∷ [])) h.minus }

through_mono : (actuals : List (Option LockPath)) (e l m : RelLocks) → Below l m → Below (through actuals e l) (through actuals e m)
through_mono actuals e l m h = record {
  plus = union_mono held_less held_same orders_held (without (minus_seen actuals e.minus) l.plus) (without (minus_seen actuals e.minus) m.plus) (plus_seen actuals e.plus) (filter_mono (minus_seen actuals e.minus) l.plus m.plus h.plus);
  minus = both_mono l.minus m.minus (minus_seen actuals e.minus) h.minus;
}

call_mono : (actuals : List (Option LockPath)) (o : Option RelLocks) (l m : RelLocks) → Below l m → Below (after_call actuals o l) (after_call actuals o m)
call_mono actuals None l m h = h
call_mono actuals (Some e) l m h = through_mono actuals e l m h

library_mono : (f : Function) (k : ℕ) (c : LibraryCall) (arguments : List ℕ) (l m : RelLocks) → Below l m → Below (after_library f k c arguments l) (after_library f k c arguments m)
library_mono f k call.MutexLock [] l m h = h
library_mono f k call.MutexLock (r ∷ []) l m h = locked_mono Write (naming_at f k r) l m h
library_mono f k call.MutexLock (r ∷ q ∷ rest) l m h = h
library_mono f k call.MutexUnlock [] l m h = h
library_mono f k call.MutexUnlock (r ∷ []) l m h = unlocked_mono (naming_at f k r) l m h
library_mono f k call.MutexUnlock (r ∷ q ∷ rest) l m h = h
library_mono f k call.CondWait [] l m h = h
library_mono f k call.CondWait (r ∷ []) l m h = h
library_mono f k call.CondWait (r ∷ q ∷ []) l m h = locked_mono Write (naming_at f k q) (unlocked (naming_at f k q) l) (unlocked (naming_at f k q) m) (unlocked_mono (naming_at f k q) l m h)
library_mono f k call.CondWait (r ∷ q ∷ s ∷ rest) l m h = h
library_mono f k (call.Create g) arguments l m h = h
library_mono f k call.Join arguments l m h = h
library_mono f k call.Exit arguments l m h = h
library_mono f k call.SelfNumber arguments l m h = h
library_mono f k call.SameThread arguments l m h = h
library_mono f k call.MutexInit arguments l m h = h
library_mono f k call.MutexTryLock arguments l m h = h
library_mono f k call.MutexDestroy arguments l m h = h
library_mono f k call.CondInit arguments l m h = h
library_mono f k call.CondSignal arguments l m h = h
library_mono f k call.CondDestroy arguments l m h = h
library_mono f k call.BarrierInit arguments l m h = h
library_mono f k call.BarrierWait arguments l m h = h
library_mono f k call.BarrierDestroy arguments l m h = h
library_mono f k call.RwInit arguments l m h = h
library_mono f k call.RwRdLock [] l m h = h
library_mono f k call.RwRdLock (r ∷ []) l m h = locked_mono Read (naming_at f k r) l m h
library_mono f k call.RwRdLock (r ∷ q ∷ rest) l m h = h
library_mono f k call.RwWrLock [] l m h = h
library_mono f k call.RwWrLock (r ∷ []) l m h = locked_mono Write (naming_at f k r) l m h
library_mono f k call.RwWrLock (r ∷ q ∷ rest) l m h = h
library_mono f k call.RwUnlock [] l m h = h
library_mono f k call.RwUnlock (r ∷ []) l m h = unlocked_mono (naming_at f k r) l m h
library_mono f k call.RwUnlock (r ∷ q ∷ rest) l m h = h
library_mono f k call.RwDestroy arguments l m h = h
library_mono f k call.Free arguments l m h = h
library_mono f k call.GetChar arguments l m h = h
library_mono f k (call.Print format) arguments l m h = h
library_mono f k call.PutChar arguments l m h = h

pub after_mono : (exits : List RelLocks) (f : Function) (k : ℕ) (a : Act) (l m : RelLocks) → Below l m → Below (after exits f k a l) (after exits f k a m)
after_mono exits f k (act.Library c arguments into) l m h = library_mono f k c arguments l m h
after_mono exits f k (act.Call g arguments into) l m h = call_mono (actuals_at f k arguments) (slice_get exits g) l m h
after_mono exits f k (act.Compute into work) l m h = h
after_mono exits f k (act.Alloc into site size) l m h = h
after_mono exits f k (act.LoadCell into through) l m h = h
after_mono exits f k (act.StoreCell through from) l m h = h
after_mono exits f k act.Mark l m h = h
after_mono exits f k (act.Jump to) l m h = h
after_mono exits f k (act.Branch on then_at else_at) l m h = h
after_mono exits f k (act.Return value) l m h = h
after_mono exits f k (act.Take region) l m h = h
after_mono exits f k (act.Give region) l m h = h

-- ---- it is told by the names of arguments

library_same : (f : Function) (k : ℕ) (c : LibraryCall) (arguments : List ℕ) (l : RelLocks) → library_by c (map (naming_at f k) arguments) l ≡ after_library f k c arguments l
library_same f k call.MutexLock [] l = refl
library_same f k call.MutexLock (r ∷ []) l = refl
library_same f k call.MutexLock (r ∷ q ∷ rest) l = refl
library_same f k call.MutexUnlock [] l = refl
library_same f k call.MutexUnlock (r ∷ []) l = refl
library_same f k call.MutexUnlock (r ∷ q ∷ rest) l = refl
library_same f k call.CondWait [] l = refl
library_same f k call.CondWait (r ∷ []) l = refl
library_same f k call.CondWait (r ∷ q ∷ []) l = refl
library_same f k call.CondWait (r ∷ q ∷ s ∷ rest) l = refl
library_same f k (call.Create g) arguments l = refl
library_same f k call.Join arguments l = refl
library_same f k call.Exit arguments l = refl
library_same f k call.SelfNumber arguments l = refl
library_same f k call.SameThread arguments l = refl
library_same f k call.MutexInit arguments l = refl
library_same f k call.MutexTryLock arguments l = refl
library_same f k call.MutexDestroy arguments l = refl
library_same f k call.CondInit arguments l = refl
library_same f k call.CondSignal arguments l = refl
library_same f k call.CondDestroy arguments l = refl
library_same f k call.BarrierInit arguments l = refl
library_same f k call.BarrierWait arguments l = refl
library_same f k call.BarrierDestroy arguments l = refl
library_same f k call.RwInit arguments l = refl
library_same f k call.RwRdLock [] l = refl
library_same f k call.RwRdLock (r ∷ []) l = refl
library_same f k call.RwRdLock (r ∷ q ∷ rest) l = refl
library_same f k call.RwWrLock [] l = refl
library_same f k call.RwWrLock (r ∷ []) l = refl
library_same f k call.RwWrLock (r ∷ q ∷ rest) l = refl
library_same f k call.RwUnlock [] l = refl
library_same f k call.RwUnlock (r ∷ []) l = refl
library_same f k call.RwUnlock (r ∷ q ∷ rest) l = refl
library_same f k call.RwDestroy arguments l = refl
library_same f k call.Free arguments l = refl
library_same f k call.GetChar arguments l = refl
library_same f k (call.Print format) arguments l = refl
library_same f k call.PutChar arguments l = refl

pub actuals_same : (f : Function) (k : ℕ) (arguments : List ℕ) → map actual_of (map (naming_at f k) arguments) ≡ actuals_at f k arguments
actuals_same f k [] = refl
actuals_same f k (r ∷ rest) = ap (λ z. actual_of (naming_at f k r) ∷ z) (actuals_same f k rest)

pub after_same : (exits : List RelLocks) (f : Function) (k : ℕ) (a : Act) (l : RelLocks) → after_by exits (map (naming_at f k) (arguments_of a)) a l ≡ after exits f k a l
after_same exits f k (act.Library c arguments into) l = library_same f k c arguments l
after_same exits f k (act.Call g arguments into) l = ap (λ z. after_call z (slice_get exits g) l) (actuals_same f k arguments)
after_same exits f k (act.Compute into work) l = refl
after_same exits f k (act.Alloc into site size) l = refl
after_same exits f k (act.LoadCell into through) l = refl
after_same exits f k (act.StoreCell through from) l = refl
after_same exits f k act.Mark l = refl
after_same exits f k (act.Jump to) l = refl
after_same exits f k (act.Branch on then_at else_at) l = refl
after_same exits f k (act.Return value) l = refl
after_same exits f k (act.Take region) l = refl
after_same exits f k (act.Give region) l = refl
