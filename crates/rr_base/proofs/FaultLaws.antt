-- A count of faults over several calls: one fault among them is a fault of all.
use Rattle.std.proofs.Common.{ℕ, ◌≤◌, arith}
use Rattle.rr_base.specs.Faults.{Rose}

pub Rose-more : (a b c : ℕ) → Rose a b → Rose b c → Rose a c
Rose-more a b c r q = record { kept = omega arith; rises = omega arith; ends = q.ends }

pub Rose-late : (a b c : ℕ) → a ≤ b → Rose b c → Rose a c
Rose-late a b c h q = record { kept = omega arith; rises = omega arith; ends = q.ends }
