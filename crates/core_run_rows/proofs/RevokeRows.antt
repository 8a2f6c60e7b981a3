-- Rows: when a stripe may be taken from a thread.
use Rattle.std.proofs.Common.{◌≡◌, ℕ, ◌∷◌, [], List, pos, false, true, refl}
use Rattle.core_run.specs.Machine.{may_revoke}
use Rattle.flow_code.specs.Next.{gave_up}
use Rattle.flow_code.specs.Threads.{Thread}
use Rattle.flow_code.specs.declared.thread.Phase.{Phase}
use Rattle.flow_code.specs.declared.thread.Phase.TheVariants as phase
use Rattle.flow_code.specs.declared.thread.Stripe.{Stripe}

-- a thread with so many entries and revokes among them, and these stripes
abbrev thread : (entries revokes : ℕ) → Phase → List Stripe → Thread
thread entries revokes phase_is stripes = record {
  count = 5;
  arena = 2;
  entries = entries;
  revokes = revokes;
  printed = 0;
  phase = phase_is;
  top = record { function = 0; instr = 0; made = 0; kept = pos 0; registers = [] };
  below = [];
  stripes = stripes;
  regions = [];
}

abbrev stripes : List Stripe
stripes = record { lock = 0; stripe = 3; owed = false } ∷ record { lock = 1; stripe = 0; owed = true } ∷ []

-- one entry and one revoke are left
last_revoke : may_revoke (thread 1048575 16383 phase.Running stripes) 0 3 ≡ true
last_revoke = refl

no_entry_left : may_revoke (thread 1048576 16383 phase.Running stripes) 0 3 ≡ false
no_entry_left = refl

no_revoke_left : may_revoke (thread 1048575 16384 phase.Running stripes) 0 3 ≡ false
no_revoke_left = refl

-- a revoke is an entry, and counts among the revokes
counts_both : gave_up (thread 7 2 phase.Running stripes) 0 3 ≡ thread 8 3 phase.Running (record { lock = 0; stripe = 3; owed = true } ∷ record { lock = 1; stripe = 0; owed = true } ∷ [])
counts_both = refl

-- only what the thread holds, and has not lost already
not_owed : may_revoke (thread 5 0 phase.Running stripes) 1 0 ≡ false
not_owed = refl

not_another : may_revoke (thread 5 0 phase.Running stripes) 0 4 ≡ false
not_another = refl

not_of_the_ended : may_revoke (thread 5 0 phase.Ended stripes) 0 3 ≡ false
not_of_the_ended = refl
