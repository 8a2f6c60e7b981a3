-- A carrier at its start, and after a turn.
use Rattle.std.proofs.Common.{◌≡◌, ℕ, ◌*◌, true, false, List, [], length, refl, ap, subst, inl, arith}
use Rattle.sync_objects.specs.Setup.{IsWithinLimits}
use Rattle.flow_code.specs.Constants.{constants_fit}
use Rattle.flow_code.specs.Settle.{settled}
use Rattle.flow_code.specs.Valid.{is_valid}
use Rattle.core_run.specs.Machine.{Told, start_told}
use Rattle.lock_ownership.proofs.StripeLaws.{has_its}
use Rattle.lock_ownership.specs.ThreadStripes.{HasItsStripes}
use Rattle.shared_cells.specs.Plays.{IsReached}
use Rattle.shared_cells.specs.Rule.{Board}
use Rattle.shared_cells.specs.Seats.{IsSeatOf, start_view, view_of}
use Rattle.shared_cells.specs.declared.seat.Seat.{Seat}
use Rattle.thread_step.specs.Steps.{Stepping, told_of}
use Rattle.weak_turns.specs.Carrying.{IsSound}
use Rattle.weak_turns.specs.Shown.{Carries}
use Rattle.weak_turns.proofs.Showing.{carries_at}

module _ (cells : Board) (t : ℕ) where
  no_stripes : HasItsStripes (start_told cells.code cells.setup t).thread
  no_stripes = has_its (start_told cells.code cells.setup t).thread (record { sorted = tt; opened = tt; listed = λ n e. cc; only = λ n e. refl })

  starts : (r : Stepping) → r.flow.code ≡ cells.code → r.flow.setup ≡ cells.setup → r.flow.number ≡ t → told_of r ≡ start_told cells.code cells.setup t → r.reads ≡ [] → IsReached (start_view cells.code cells.setup t) → Carries (start_view cells.code cells.setup t) 0 r
  starts r code setup number told none reached = record {
    reached = reached;
    ahead = tt;
    shows = record {
      code_is = code;
      setup_is = setup;
      number_is = number;
      entries = ap (λ (z : Told). z.entries) told;
      pieces = ap (λ (z : Told). z.pieces) told;
      reads = none;
      thread = inl (ap (λ (z : Told). settled cells.code cells.setup t z.thread) told);
    };
    stripes = no_stripes;
  }

pub sound_start : (cells : Board) (seat : Seat) (r : Stepping) (budget : ℕ) (since : List ℕ) →
    is_valid cells.code ≡ true → constants_fit cells.code ≡ true → IsWithinLimits cells.setup → IsSeatOf cells seat → view_of seat ≡ start_view cells.code cells.setup (view_of seat).from → IsReached (view_of seat) → seat.marks ≡ 0 →
    r.flow.code ≡ cells.code → r.flow.setup ≡ cells.setup → r.flow.number ≡ (view_of seat).from → told_of r ≡ start_told cells.code cells.setup (view_of seat).from → r.reads ≡ [] →
    length since ≡ 8 * length cells.code.locks →
    IsSound (record { cells = cells; seat = seat; run = r; budget = budget; turns = 0; since = since; is_out = false })
sound_start cells seat r budget since valid constants limits of view reached marks code setup number told kept stripes = record {
  valid = valid;
  constants = constants;
  limits = limits;
  carrying = record { seat_of = of; carries = carries_at (start_view cells.code cells.setup (view_of seat).from) (view_of seat) 0 seat.marks r view marks (starts cells (view_of seat).from r code setup number told kept (subst IsReached view reached)) };
  stripes = stripes;
  listed = let none = ap (λ (z : Told). length z.entries) told in omega arith;
}
