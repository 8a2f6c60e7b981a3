-- The files of a shelf: a content for each name that is held. Names and contents are bytes.
use Rattle.std.specs.Prelude.{◌≡◌, ◌≢◌, ℕ, List, Option, Some, None, if◌then◌else◌}
use Rattle.std.specs.Str.{bytes_eq}

-- what a shelf holds under each name; none where there is no such file
abbrev pub Files : Type 0
Files = List ℕ → Option (List ℕ)

-- the files once one is put
abbrev pub with_file : (name content : List ℕ) → Files → Files
with_file name content files q = if bytes_eq name q then Some content else files q

-- all names but this one hold what they held
abbrev pub SameButFor : (name : List ℕ) → Files → Files → Type 0
SameButFor name old new = (q : List ℕ) → q ≢ name → new q ≡ old q

-- the same of a shelf that may not tell its files, and then doesn't begin to
abbrev pub LeavesOthers : (name : List ℕ) → Option Files → Option Files → Type 0
LeavesOthers name None None = Unit {0}
LeavesOthers name (Some old) (Some new) = SameButFor name old new
LeavesOthers name _ _ = ⊥
