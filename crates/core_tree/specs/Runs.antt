-- What a thread does: its events one after another, each by the answers to those before it.
use Rattle.std.specs.Prelude.{ℕ, ◌+◌, nat_le, nat_eq, ◌&&◌, Bool, false, not, if◌then◌else◌, ℤ, List, [], ◌∷◌, Result, Ok, Err}
use Rattle.rr_base.specs.declared.trap.Trap.{Trap}
use Rattle.rr_base.specs.declared.trap.Trap.TheVariants as trap
use Rattle.word_semantics.specs.declared.event.Action.{Action}
use Rattle.word_semantics.specs.declared.event.Action.TheVariants as action
use Rattle.word_semantics.specs.Limits.{is_free_of_limit}

-- a thread's whole future, which branches on what each event is answered
pub data Run : Type 0 where
  -- an event, the bytes that it prints, and what follows on its answer
  does : Action → List ℕ → (ℤ → Run) → Run
  -- a trap of this kind at this line
  traps : Trap → ℕ → Run
  ends : Run

-- a thread's own state: the registers of the function that runs, the addresses of its objects, how many events were made,
-- the next free cell, how many bytes were printed, and how many functions run
pub record State : Type 0 where
  pub registers : ℕ → ℕ
  pub objects : ℕ → ℕ
  pub count : ℕ
  pub arena : ℕ
  pub printed : ℕ
  pub depth : ℕ

-- What computes an A: from a state, and from what is done with the A and the state after it.
abbrev pub M : Type 0 → Type 0
M A = State → (A → State → Run) → Run

infixl 10 ◌>>=◌
-- the second computation gets what the first gives, and its state
abbrev pub ◌>>=◌ : {A B : Type 0} → M A → (A → M B) → M B
m >>= f = λ s k. m s (λ a s'. f a s' k)

infixl 10 ◌>>◌
-- the second computation needs nothing but the state of the first
abbrev pub ◌>>◌ : {A B : Type 0} → M A → M B → M B
m >> n = m >>= (λ _. n)

-- gives a at once, without any event
abbrev pub pure : {A : Type 0} → A → M A
pure a = λ s k. k a s

-- the thread makes nothing more: what would follow is dropped
abbrev pub trap_at : {A : Type 0} → ℕ → Trap → M A
trap_at line t = λ s k. traps t line

-- the word, or the trap in its place
abbrev pub result_at : ℕ → Result ℕ Trap → M ℕ
result_at line (Ok w) = pure w
result_at line (Err t) = trap_at line t

-- after one event more, as the thread itself counts them
abbrev pub counted : State → State
counted s = record s { count = s.count + 1 }

-- the events with which a thread ends come at the limit too
abbrev pub is_free : Action → Bool
is_free (action.Operate o obj) = is_free_of_limit o
is_free _ = false

-- any other event comes at a count below the limit; it prints these bytes
abbrev pub printing : ℕ → ℕ → Action → List ℕ → M ℤ
printing limit line a out = λ s k. if nat_le limit s.count && not (is_free a) then traps trap.Limit line else does a out (λ answer. k answer (counted s))

-- an event that prints nothing
abbrev pub event : ℕ → ℕ → Action → M ℤ
event limit line a = printing limit line a []

-- registers, or cells, with the new word w at n only
abbrev pub with_value : (ℕ → ℕ) → ℕ → ℕ → ℕ → ℕ
with_value values n w m = if nat_eq m n then w else values m

-- registers belong to one thread, so this is no event
abbrev pub read_register : ℕ → M ℕ
read_register n = λ s k. k (s.registers n) s

-- no event either, since no other thread sees it
abbrev pub write_register : ℕ → ℕ → M (Unit {0})
write_register n w = λ s k. k tt (record s { registers = with_value s.registers n w })

-- the address of the function's object n, not what its cells hold
abbrev pub read_object : ℕ → M ℕ
read_object n = λ s k. k (s.objects n) s

-- one of two, by whether the word is 0
abbrev pub choose : {A : Type 0} → ℕ → M A → M A → M A
choose w yes' no' = if nat_eq w 0 then no' else yes'

-- ---- the events on a list of answers

-- an event with the bytes that it printed and its answer, or the trap that ends the thread, with its line
pub data Event : Type 0 where
  done : Action → List ℕ → ℤ → Event
  trapped : Trap → ℕ → Event

-- the bytes that an event printed
abbrev pub printed_in : Event → List ℕ
printed_in (done a out answer) = out
printed_in (trapped kind line) = []

-- where the answers run out, the events so far
abbrev pub events : Run → List ℤ → List Event
events (does a out more) [] = []
events (does a out more) (w ∷ ws) = done a out w ∷ events (more w) ws
events (traps t line) ws = trapped t line ∷ []
events ends ws = []
