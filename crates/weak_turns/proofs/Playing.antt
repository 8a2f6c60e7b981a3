-- What a turn of a carrier has come to.
use Rattle.std.proofs.Common.{◌≡◌, ℕ, ◌||◌, true, false, [], Some, None, inl, inr, refl, ap}
use Rattle.weak_turns.specs.Carrying.{Carrying, is_over, run_has_ended}
use Rattle.weak_turns.specs.Finding.{Advances}
use Rattle.weak_turns.specs.Turns.{PlayedIs}
use Rattle.weak_turns.specs.declared.played.Played.{Played}

module _ (old new : Carrying) where
  -- a step was made, or an operation attempted
  pub played_so : (p : Played) → is_over old ≡ false → new.is_out ≡ false → Advances old.cells old.seat new.seat old.since new.since old.budget new.turns (Some p) → PlayedIs old new (Some p)
  played_so p open_thread lives a = record { open_thread = open_thread; mid = a.0; fresh = a.1; meets = a.2; memory = a.3; lives = lives; step = a.4 }

  -- memory ran out
  pub rested : new.is_out ≡ true → Advances old.cells old.seat new.seat old.since new.since old.budget new.turns None → PlayedIs old new None
  rested out a = record { over = ap (λ b. b || run_has_ended new.run) out; fresh = a.0; meets = a.1; cause = inr a.2; since = a.3 }

-- the job was over
pub stayed : (old : Carrying) (turn : ℕ) → is_over old ≡ true → PlayedIs old (record old { turns = turn }) None
stayed old turn over = record { over = over; fresh = []; meets = record { view = refl; marks = refl }; cause = inl over; since = refl }
