-- Which event of a run a word names, as `2.4`.
use Rattle.std.specs.Prelude.{◌≡◌, refl, ℕ, ◌≤◌, Bool, ◌==◌, List, Option, Some, None, option_and_then, codes}
use Rattle.std.specs.Fmt.{digits}
use Rattle.std.specs.List.{after_first, before_first}
use Rattle.command_line.specs.Arguments.{number_within}
use Rattle.command_line.specs.declared.event.Event.{Event}

infixl 10 ◌>>=◌
abbrev ◌>>=◌ : {A B : Type 0} → Option A → (A → Option B) → Option B
o >>= f = option_and_then f o

abbrev pub is_point : ℕ → Bool
is_point b = b == 46

-- a thread from 0 to 15, a point, and how many events the thread has made before, 67108865 at most
abbrev pub event_named : List ℕ → Option Event
event_named word = do
  count ← number_within 0 67108865 (after_first is_point word)
  thread ← number_within 0 15 (before_first is_point word)
  Some (record { thread = thread; count = count })

-- so its numbers are within these limits
pub record HasEventLimits (event : Event) : Type 0 where
  pub thread_high : event.thread ≤ 15
  pub count_high : event.count ≤ 67108865

-- ---- worked rows

an_event : event_named (codes "15.67108865") ≡ Some (record { thread = 15; count = 67108865 })
unfolding digits
an_event = refl

first_of_all : event_named (codes "0.0") ≡ Some (record { thread = 0; count = 0 })
unfolding digits
first_of_all = refl

no_count : event_named (codes "1") ≡ None
unfolding digits
no_count = refl

two_points : event_named (codes "1.2.3") ≡ None
unfolding digits
two_points = refl

leading_zero : event_named (codes "1.02") ≡ None
unfolding digits
leading_zero = refl

minus_zero : event_named (codes "-0.2") ≡ None
unfolding digits
minus_zero = refl

thread_of_16 : event_named (codes "16.1") ≡ None
unfolding digits
thread_of_16 = refl

too_late : event_named (codes "1.67108866") ≡ None
unfolding digits
too_late = refl
