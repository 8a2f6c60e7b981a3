-- An offset below a size is its own rest.
use Rattle.std.proofs.Common.{◌≡◌, ◌<◌, ◌%◌, ℕ, sym}
use Rattle.std.proofs.Math.Nat.{mod-eq_of_lt}

pub within_one : (offset size : ℕ) → offset < size → offset ≡ offset % size
within_one offset size below = sym (mod-eq_of_lt below)
