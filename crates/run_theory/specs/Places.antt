-- Where the events of each thread stand in a run.
use Rattle.std.specs.Prelude.{◌≡◌, ℕ, zero, suc, ◌+◌, ◌<◌, ◌==◌, if◌then◌else◌, Option, Some, None}
use Rattle.run_theory.specs.Ordered.{Event, event_thread}

-- one more, if an event is there and is the thread's
abbrev pub counted_in : ℕ → Option Event → ℕ → ℕ
counted_in t None n = n
counted_in t (Some x) n = if event_thread x == t then n + 1 else n

-- how many events of the thread come before this place
abbrev pub events_before : (ℕ → Option Event) → ℕ → ℕ → ℕ
events_before at t zero = 0
events_before at t (suc k) = counted_in t (at k) (events_before at t k)

-- the event stands at this place, and is the thread's event number n, where its first one has number 0
pub record IsNth (at : ℕ → Option Event) (t n : ℕ) (event : Event) (place : ℕ) : Type 0 where
  pub happens : at place ≡ Some event
  pub of_thread : event_thread event ≡ t
  pub number : events_before at t place ≡ n

-- thread t's event number n, which is the first one, comes before thread u's event number k, which is the second one
pub record ComeInOrder (at : ℕ → Option Event) (t n : ℕ) (first : Event) (u k : ℕ) (second : Event) : Type 0 where
  pub i : ℕ
  pub j : ℕ
  pub first_is : IsNth at t n first i
  pub second_is : IsNth at u k second j
  pub order : i < j
