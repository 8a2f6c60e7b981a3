-- Worked rows of runs: two threads that each make one operation, on a mutex of its own, in both orders.
use Rattle.std.proofs.Common.{◌≡◌, refl, sym, ap, ◌∙◌, ℕ, zero, suc, ◌==◌, if◌then◌else◌, Bool, true, false, true≢false, pos, List, [], ◌∷◌, Some, map, arith}
use Rattle.std.proofs.lemmas.Bool.{eqb-true}
use Rattle.sync_objects.specs.declared.entry.Entry.{Entry}
use Rattle.sync_objects.specs.declared.entry.Noted.{Noted}
use Rattle.sync_objects.specs.declared.object.ObjId.{ObjId}
use Rattle.sync_objects.specs.declared.object.ObjId.TheVariants.{Mutex}
use Rattle.sync_objects.specs.declared.operation.OpName.TheVariants.{Lock}
use Rattle.run_theory.specs.Labels.{Label, Go, Revoke, Stop, Close}
use Rattle.run_theory.specs.Laws.{IsLawful, IsLawfulEffect, IsRaceFree, Access, NoAccess, LoadOf, StoreOf, Conflict, access_of}
use Rattle.run_theory.specs.Merge.{IsMerge, lists_from, written_merge}
use Rattle.run_theory.specs.Steps.{Becomes, Effect, Refused, Operates, Machine, State, AllEnded, entries_of, run, trace}
use Rattle.run_theory.specs.Walk.{walk}
use Rattle.run_theory.proofs.Converge.{converge}
use Rattle.run_theory.proofs.Merges.{merge_walks}

-- ---- the machine

-- thread t locks mutex t
abbrev pub lock_by : ℕ → Entry
lock_by t = record { thread = t; count = 0; op = Lock; obj = Mutex t }

-- a thread that has not ended makes its one operation, and has ended then
abbrev pub toy_effect : Label → Bool → Effect Bool
toy_effect (Go t) false = Operates (lock_by t) (λ old. Becomes (suc old) (pos 0) true)
toy_effect (Go t) true = Refused
toy_effect (Revoke t lock stripe) ended = Refused
toy_effect (Stop t) ended = Refused
toy_effect (Close t) ended = Refused

abbrev pub toy_has : ObjId → Bool
toy_has (Mutex c) = true
toy_has _ = false

abbrev pub toy_place : ObjId → ℕ
toy_place (Mutex c) = c
toy_place _ = 0

-- the word of a mutex is how many operations it had
abbrev pub toy : Machine Bool
toy = record { effect = toy_effect; count = λ ended. 0; has_ended = λ ended. ended; cells = 0; has_object = toy_has; place = toy_place; number = λ word. word }

named : (o : ObjId) → toy_has o ≡ true → o ≡ Mutex (toy_place o)
named (Mutex c) h = refl
named _ h = absurd (true≢false (sym h))

effects : (l : Label) (ended : Bool) → IsLawfulEffect toy l ended (toy_effect l ended)
effects (Go t) false = record { labelled = refl; counted = refl; object = refl; draws = λ old new answer after e. record { numbered = sym (cc e); counted = omega arith } }
effects (Go t) true = tt
effects (Revoke t lock stripe) ended = tt
effects (Stop t) ended = tt
effects (Close t) ended = tt

pub toy_is_lawful : IsLawful toy
toy_is_lawful = record { effects = effects; following = λ o h. omega arith; apart = λ o p h k e. named o h ∙ ap Mutex e ∙ sym (named p k) }

no_conflict : (t : ℕ) (ended : Bool) (other : Access) → Conflict (access_of (toy_effect (Go t) ended)) other → ⊥
no_conflict t false NoAccess h = h
no_conflict t false (LoadOf c) h = h
no_conflict t false (StoreOf c) h = h
no_conflict t true NoAccess h = h
no_conflict t true (LoadOf c) h = h
no_conflict t true (StoreOf c) h = h

-- ---- its runs

abbrev pub start : State Bool
start = record { words = 0 ∷ 0 ∷ []; threads = false ∷ false ∷ [] }

abbrev pub end : State Bool
end = record { words = 1 ∷ 1 ∷ []; threads = true ∷ true ∷ [] }

pub no_race : IsRaceFree toy start
no_race state reached race = no_conflict race.first race.first_state _ race.conflict

abbrev pub upwards : List Label
upwards = Go 0 ∷ Go 1 ∷ []

abbrev pub downwards : List Label
downwards = Go 1 ∷ Go 0 ∷ []

abbrev pub first_lock : Noted
first_lock = record { entry = lock_by 0; number = 0 }

abbrev pub second_lock : Noted
second_lock = record { entry = lock_by 1; number = 0 }

pub runs_upwards : run toy upwards start ≡ Some end
runs_upwards = refl

pub runs_downwards : run toy downwards start ≡ Some end
runs_downwards = refl

have_ended : AllEnded toy end
have_ended zero th h = cc h
have_ended (suc zero) th h = cc h
have_ended (suc (suc t)) th h = absurd (cc h)

-- whichever entry comes first, each thread has the same ones
swapped : (a b : Bool) (x y : Noted) → (a ≡ true → b ≡ true → ⊥) → (if a then x ∷ (if b then y ∷ [] else []) else (if b then y ∷ [] else [])) ≡ (if b then y ∷ (if a then x ∷ [] else []) else (if a then x ∷ [] else []))
swapped false false x y apart = refl
swapped false true x y apart = refl
swapped true false x y apart = refl
swapped true true x y apart = absurd (apart refl refl)

not_both : (t : ℕ) → (0 == t) ≡ true → (1 == t) ≡ true → ⊥
not_both t h k = let e = eqb-true 0 t h in let f = eqb-true 1 t k in omega (arith, e, f)

same_lists : (t : ℕ) → entries_of t (trace toy upwards start) ≡ entries_of t (trace toy downwards start)
same_lists t = swapped (0 == t) (1 == t) first_lock second_lock (not_both t)

-- so equal lists decide where a run ends: each one of the second order, in which all threads have ended, ends where the first one does
pub ends_as_one : (other_end : State Bool) → run toy downwards start ≡ Some other_end → AllEnded toy other_end → end ≡ other_end
ends_as_one other_end runs ended = converge toy toy_is_lawful upwards downwards start end other_end no_race runs_upwards runs have_ended ended same_lists

-- ---- their merges

others : (e : Mutex 0 ≡ Mutex 1) → ⊥
others e = let f : 0 ≡ 1 = ap toy_place e in omega (arith, f)

-- the entries of the one run in the order of the other
pub is_merge : IsMerge (λ t. entries_of t (trace toy upwards start)) (second_lock ∷ first_lock ∷ [])
is_merge = record { threads = λ t. sym (same_lists t); ascending = ((λ e. absurd (others e), tt), (tt, tt)) }

pub walks_merged : walk toy (map (λ (x : Noted). x.entry) (second_lock ∷ first_lock ∷ [])) start ≡ Some end
walks_merged = merge_walks toy toy_is_lawful (second_lock ∷ first_lock ∷ []) upwards start end runs_upwards no_race have_ended is_merge

-- .. which is what the walk comes to
pub walk_of_merged : walk toy (map (λ (x : Noted). x.entry) (second_lock ∷ first_lock ∷ [])) start ≡ Some end
walk_of_merged = refl

-- the log of either run has the entry of the lower thread first
pub written_upwards : written_merge (lists_from 0 2 (trace toy upwards start)) ≡ first_lock ∷ second_lock ∷ []
written_upwards = refl

pub written_downwards : written_merge (lists_from 0 2 (trace toy downwards start)) ≡ first_lock ∷ second_lock ∷ []
written_downwards = refl

pub walks_written : walk toy (map (λ (x : Noted). x.entry) (written_merge (lists_from 0 2 (trace toy downwards start)))) start ≡ Some end
walks_written = refl
