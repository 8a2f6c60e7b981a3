-- What the parts of a turn find.
use Rattle.std.specs.Prelude.{◌≡◌, ◌≢◌, ℕ, ◌+◌, ◌-◌, ◌*◌, ◌^◌, ◌<◌, ◌≤◌, nat_lt, Bool, true, false, List, length, Option, Some, None, slice_index}
use Rattle.flow_code.specs.Next.{holds}
use Rattle.flow_code.specs.Settle.{settled}
use Rattle.flow_code.specs.Threads.{Thread}
use Rattle.flow_code.specs.declared.thread.Stripe.{Stripe}
use Rattle.shared_cells.specs.Rule.{Board}
use Rattle.shared_cells.specs.Seats.{view_of, AttemptIs, Tells}
use Rattle.shared_cells.specs.Views.{Note, looked}
use Rattle.shared_cells.specs.Words.{memory_place}
use Rattle.shared_cells.specs.declared.seat.Seat.{Seat}
use Rattle.sync_objects.specs.declared.object.ObjId.{ObjId}
use Rattle.sync_objects.specs.declared.object.ObjId.TheVariants as object
use Rattle.sync_objects.specs.declared.operation.Op.TheVariants as op
use Rattle.thread_step.specs.Steps.{Stepping, IsSameRun}
use Rattle.weak_turns.specs.Turns.{object_place, thread_of, number_of, want_place, Meets, EndIs, Saw, SawNoMemory, AreUnwanted, RevokeIs, IsHeldLong, StepIs}
use Rattle.weak_turns.specs.declared.ends.End.{End}
use Rattle.weak_turns.specs.declared.ends.End.TheVariants as end
use Rattle.weak_turns.specs.declared.played.Played.{Played}
use Rattle.weak_turns.specs.declared.played.Played.TheVariants as played
use Rattle.weak_turns.specs.declared.revokes.LockStripe.{LockStripe}

-- one look at an object's word, and what a test says of it
pub record Sees (cells : Board) (old new : Seat) (obj : ObjId) (test : ℕ → Bool) (answer : Bool) : Type 0 where
  pub word : ℕ
  pub view : view_of new ≡ looked (view_of old) (object_place cells obj) word
  pub is : test word ≡ answer
  pub marks : new.marks ≡ old.marks

-- the end that is due, by the words that were met
pub record FindsEnd (cells : Board) (old new : Seat) (end : Option End) : Type 0 where
  pub fresh : List Note
  pub meets : Meets old new fresh
  pub is : EndIs cells (number_of old) fresh (thread_of old) end

-- the thread has so many entries and revokes, and holds the same stripes
pub record IsAlike (r : Stepping) (th : Thread) : Type 0 where
  pub entries : r.flow.kept.thread.entries ≡ th.entries
  pub revokes : r.flow.kept.thread.revokes ≡ th.revokes
  pub stripes : (lock stripe : ℕ) → holds r.flow.kept.thread.stripes lock stripe ≡ holds th.stripes lock stripe

-- the thread holds this stripe of a lock of the code, and took it so many turns ago or more
pub record IsHeldFor (item : Stripe) (since : List ℕ) (budget turn : ℕ) (p : LockStripe) : Type 0 where
  pub lock : p.lock ≡ item.lock
  pub stripe : p.stripe ≡ item.stripe
  pub held : item.owed ≡ false
  pub stripe_is : item.stripe < 8
  pub lock_is : item.lock < 2 ^ 16
  pub counted : 8 * item.lock + item.stripe < length since
  pub long : budget ≤ turn - slice_index since (8 * item.lock + item.stripe)

-- the stripe, if it is held for so long
abbrev pub HeldIs : Stripe → List ℕ → (budget turn : ℕ) → Option LockStripe → Type 0
HeldIs item since budget turn None = item.owed ≡ false → item.stripe < 8 → 8 * item.lock + item.stripe < length since → budget ≤ turn - slice_index since (8 * item.lock + item.stripe) → ⊥
HeldIs item since budget turn (Some p) = IsHeldFor item since budget turn p

-- the number of a stripe, eight for each lock
abbrev pub number_in : LockStripe → ℕ
number_in p = 8 * p.lock + p.stripe

-- it comes before the other one, if there is another
abbrev pub comes_first : LockStripe → Option LockStripe → Bool
comes_first p None = true
comes_first p (Some q) = nat_lt (number_in p) (number_in q)

-- the earlier one of a stripe that is wanted and the one that was found so far; a stripe behind that one isn't looked at
pub data Chooses (cells : Board) (old new : Seat) (p : LockStripe) (due : Option LockStripe) : Option LockStripe → Type 0 where
  behind : comes_first p due ≡ false → new ≡ old → Chooses cells old new p due due
  unwanted : Tells old new (want_place cells p.lock p.stripe) false → Chooses cells old new p due due
  wanted : comes_first p due ≡ true → Tells old new (want_place cells p.lock p.stripe) true → Chooses cells old new p due (Some p)

-- the numbers below which no wanted stripe was met: those before the one that was, or of all of the code's locks
abbrev pub searched_to : Board → Option LockStripe → ℕ
searched_to cells None = 8 * length cells.code.locks
searched_to cells (Some p) = number_in p

-- the stripe was met, is one that the thread has held so long, and is wanted
abbrev pub IsMet : Board → Thread → List ℕ → (budget turn : ℕ) → List Note → Option LockStripe → Type 0
IsMet cells th since budget turn fresh None = Unit {0}
IsMet cells th since budget turn fresh (Some p) = IsHeldLong th since budget turn p.lock p.stripe × (number_in p < 8 * length cells.code.locks) × (w : ℕ) × Saw fresh (want_place cells p.lock p.stripe) w × (w ≢ 0)

-- the words that were met by the search for a wanted stripe among these of the thread's stripes, and the first one that was found
pub record HasSearched (cells : Board) (old new : Seat) (since : List ℕ) (budget turn : ℕ) (done : List Stripe) (due : Option LockStripe) : Type 0 where
  pub fresh : List Note
  pub meets : Meets old new fresh
  pub unwanted : AreUnwanted cells (record (thread_of old) { stripes = done }) since budget turn fresh (searched_to cells due)
  pub met : IsMet cells (record (thread_of old) { stripes = done }) since budget turn fresh due

-- the revoke that is due, by the words that were met
pub record FindsRevoke (cells : Board) (old new : Seat) (since : List ℕ) (budget turn : ℕ) (place : Option LockStripe) : Type 0 where
  pub fresh : List Note
  pub meets : Meets old new fresh
  pub is : RevokeIs cells (thread_of old) since budget turn fresh place

-- what was done, by the words that were met
pub record Steps (cells : Board) (old new : Seat) (since later : List ℕ) (budget turn : ℕ) (p : Played) : Type 0 where
  pub mid : Seat
  pub fresh : List Note
  pub meets : Meets old mid fresh
  pub step : StepIs cells mid new since later budget turn fresh p

-- some of the quiet steps were made
pub record HasRested (r q : Stepping) : Type 0 where
  pub same : IsSameRun r q
  pub entries : q.entries ≡ r.entries
  pub pieces : q.pieces ≡ r.pieces
  pub reads : q.reads ≡ r.reads
  pub rest : settled q.flow.code q.flow.setup q.flow.number q.flow.kept.thread ≡ settled r.flow.code r.flow.setup r.flow.number r.flow.kept.thread

-- a turn's step, or none where the memory word was set when the seat met it
abbrev pub Advances : Board → (old new : Seat) → (since later : List ℕ) → (budget turn : ℕ) → Option Played → Type 0
Advances cells old new since later budget turn None = (fresh : List Note) × Meets old new fresh × SawNoMemory cells fresh × (later ≡ since)
Advances cells old new since later budget turn (Some p) = (mid : Seat) × (fresh : List Note) × Meets old mid fresh × Saw fresh (memory_place cells.code cells.setup) 0 × StepIs cells mid new since later budget turn fresh p

-- a stop ends a thread that has begun; a close, one never started
abbrev pub is_stop : End → Bool
is_stop end.Stop = true
is_stop end.Close = false

-- what the attempt at an end has come to
abbrev pub HasFinished : (old new : Seat) → End → Played → Type 0
HasFinished old new end.Stop (played.Tried o obj came) = (o ≡ op.Stop) × (obj ≡ object.Halt) × AttemptIs None old new op.Stop object.Halt came
HasFinished old new end.Close (played.Tried o obj came) = (o ≡ op.Close) × (obj ≡ object.Slot (number_of old)) × AttemptIs None old new op.Close (object.Slot (number_of old)) came
HasFinished old new end p = ⊥
