-- Bytes that come from a source and go into a sink, where source and sink tell what they have.
use Rattle.std.specs.Prelude.{◌≡◌, ◌≤◌, ℕ, List, [], ◌++◌, Option, length, take}
use Rattle.std.specs.Option.{option_map}
use Rattle.rr_base.specs.Faults.{Rose}
use Rattle.rr_base.specs.declared.source.ReadEnd.{ReadEnd}
use Rattle.rr_base.specs.declared.source.ReadEnd.TheVariants.{Failed, TooLarge, OutOfMemory}

-- what a source had left: the bytes that came, and then what is left now
abbrev pub Gave : (came : List ℕ) → (old new : Option (List ℕ)) → Type 0
Gave came old new = old ≡ option_map (λ rest. came ++ rest) new

-- nothing is left of a source that tells what is left
abbrev pub IsUsedUp : (old new : Option (List ℕ)) → Type 0
IsUsedUp old new = new ≡ option_map (λ _. []) old

-- what a sink holds: what it held, and then the bytes that it took
abbrev pub Took : (more : List ℕ) → (old new : Option (List ℕ)) → Type 0
Took more old new = new ≡ option_map (λ all. all ++ more) old

-- of the bytes that were to be written the sink took some from the front
abbrev pub TookSome : (bytes : List ℕ) → (old new : Option (List ℕ)) → Type 0
TookSome bytes old new = (n : ℕ) × (n ≤ length bytes) × Took (take n bytes) old new

-- of all ends of reading only a fault raises the count
abbrev pub ReadFaults : ReadEnd → ℕ → ℕ → Type 0
ReadFaults Failed old new = Rose old new
ReadFaults TooLarge old new = new ≡ old
ReadFaults OutOfMemory old new = new ≡ old
