-- Race pairs: accesses of one place by two threads, one of them a store, that share no global lock; a lock that both hold
-- for reading alone doesn't count. A thread runs `main` or a function that some `pthread_create` names; but for `main` such a
-- function may run on two threads at once.
use Rattle.std.specs.Prelude.{◌≡◌, ℕ, nat_lt, ◌==◌, ◌&&◌, ◌||◌, Bool, true, false, not, List, [], ◌∷◌, Option, Some, None, slice_get}
use Rattle.std.specs.List.{list_any, Contains}
use Rattle.rr_base.specs.declared.layout.Place.{Place}
use Rattle.flow_code.specs.declared.act.Act.{Act}
use Rattle.flow_code.specs.declared.act.Act.TheVariants as act
use Rattle.word_semantics.specs.declared.library_call.LibraryCall.TheVariants as call
use Rattle.flow_code.specs.declared.code.Code.{Code}
use Rattle.flow_code.specs.Next.{act_in}
use Rattle.flow_code.specs.Threads.{is_main, instrs_in}
use Rattle.facts.specs.Accesses.{Access, access_of}
use Rattle.facts.specs.declared.locks.Guarded.{Guarded}
use Rattle.sync_objects.specs.declared.mode.Mode.TheVariants.{Read, Write}
use Rattle.facts.specs.declared.locks.Held.{Held}
use Rattle.facts.specs.declared.locks.LockPath.{LockPath}
use Rattle.facts.specs.declared.locks.LockPath.TheVariants.{Cell, Formal}
use Rattle.facts.specs.declared.locks.Summary.{Summary}
use Rattle.facts.specs.declared.pair.AccessAt.{AccessAt}
use Rattle.facts.specs.declared.pair.Pair.{Pair}
use Rattle.facts.specs.Locks.{mode_same, has_held, held_as}
use Rattle.facts.specs.PointsTo.{Tables, list_at}

-- ---- roots

-- the instruction is a `pthread_create` that names function g
abbrev pub creates : ℕ → Act → Bool
creates g (act.Library (call.Create h) arguments into) = h == g
creates g _ = false

-- some `pthread_create` of the code names the function
abbrev pub is_started : Code → ℕ → Bool
is_started code g = list_any (λ fn. list_any (λ i. creates g i.act) fn.instrs) code.functions

-- a thread may begin with the function
abbrev pub is_root : Code → ℕ → Bool
is_root code g = is_main code g || is_started code g

-- two threads may have begun with these at once
abbrev pub may_meet : Code → (r s : ℕ) → Bool
may_meet code r s = not (r == s) || not (is_main code r)

-- ---- accesses

-- what the instruction of an access does, if the code has it
abbrev pub act_of : Code → AccessAt → Option Act
act_of code a = act_in (slice_get (instrs_in (slice_get code.functions a.function)) a.instr)

-- all places that the register of an access may point to; none without one
abbrev pub places_through : Tables → ℕ → Option Access → List Place
places_through t f None = []
places_through t f (Some a) = list_at t.registers f a.through

-- the access of an instruction that may be missing
abbrev pub access_in : Option Act → Option Access
access_in None = None
access_in (Some x) = access_of x

-- the places of which an access may touch a cell
abbrev pub places_of : Code → Tables → AccessAt → List Place
places_of code t a = places_through t a.function (access_in (act_of code a))

-- a summary's accesses with the locks at each; none without a summary
abbrev pub guarded_in : Option Summary → List Guarded
guarded_in None = []
guarded_in (Some s) = s.guarded

-- a lock that all threads know by one name: a global cell
abbrev pub is_global_lock : LockPath → Bool
is_global_lock (Cell c) = true
is_global_lock (Formal i n) = false

-- a global lock is held for writing, which the others have in any way
abbrev pub shuts_out : Held → List Held → Bool
shuts_out h ks = mode_same h.mode Write && is_global_lock h.path && has_held (held_as Read h.path) ks

-- both hold one global lock, and not both for reading alone
abbrev pub share_lock : List Held → List Held → Bool
share_lock hs ks = list_any (λ h. shuts_out h ks) hs || list_any (λ k. shuts_out k hs) ks

-- where in the code a guarded access is made
abbrev pub stands : Guarded → AccessAt
stands x = record { function = x.function; instr = x.instr }

-- ---- pairs

-- two accesses that may race at a place
pub record MayRace (code : Code) (t : Tables) (ss : List Summary) (p : Place) (a b : AccessAt) : Type 0 where
  pub r : ℕ
  pub s : ℕ
  pub x : Guarded
  pub y : Guarded
  pub roots : (is_root code r ≡ true) × (is_root code s ≡ true)
  pub meet : may_meet code r s ≡ true
  pub of_r : Contains (guarded_in (slice_get ss r)) x
  pub of_s : Contains (guarded_in (slice_get ss s)) y
  pub first : stands x ≡ a
  pub second : stands y ≡ b
  pub stores : x.store || y.store ≡ true
  pub touches : Contains (places_of code t a) p × Contains (places_of code t b) p
  pub apart : share_lock x.plus y.plus ≡ false

-- ---- their order

-- by function, then by instruction: the order within and among pairs
abbrev pub access_less : AccessAt → AccessAt → Bool
access_less a b = nat_lt a.function b.function || ((a.function == b.function) && nat_lt a.instr b.instr)

-- both are one instruction of one function
abbrev pub access_same : AccessAt → AccessAt → Bool
access_same a b = (a.function == b.function) && (a.instr == b.instr)

-- by site, then by class within an element
abbrev pub place_less : Place → Place → Bool
place_less p q = nat_lt p.site q.site || ((p.site == q.site) && nat_lt p.class q.class)

-- both are the same cells of objects that one site made
abbrev pub place_same : Place → Place → Bool
place_same p q = (p.site == q.site) && (p.class == q.class)

-- by place, then by the first access, then by the second
abbrev pub pair_less : Pair → Pair → Bool
pair_less v w = place_less v.place w.place || (place_same v.place w.place && (access_less v.first w.first || (access_same v.first w.first && access_less v.second w.second)))

-- each pair comes before the next, so none stands twice
abbrev pub pairs_ascend : List Pair → Bool
pairs_ascend [] = true
pairs_ascend (v ∷ []) = true
pairs_ascend (v ∷ w ∷ vs) = pair_less v w && pairs_ascend (w ∷ vs)

-- the list has each pair once, in order
pub record ArePairs (code : Code) (t : Tables) (ss : List Summary) (vs : List Pair) : Type 0 where
  pub ascending : pairs_ascend vs ≡ true
  pub ordered : (v : Pair) → Contains vs v → access_less v.second v.first ≡ false
  pub race : (v : Pair) → Contains vs v → MayRace code t ss v.place v.first v.second
  pub all : (p : Place) (a b : AccessAt) → MayRace code t ss p a b → access_less b a ≡ false → Contains vs (record { place = p; first = a; second = b })
