-- Weak instructions put between those of a function. Before an instruction stand, in this order: the Gives of the regions
-- that end before it, the Takes of those that begin with it, and, if it is a return, the Gives of all that are open there.
-- Of several regions the outermost is taken first and given last.
use Rattle.std.specs.Prelude.{ℕ, zero, suc, ◌+◌, ◌==◌, nat_le, ◌&&◌, Bool, if◌then◌else◌, List, [], ◌∷◌, ◌++◌, length, map, reverse, slice_get, Option, Some, None}
use Rattle.flow_code.specs.declared.act.Act.{Act}
use Rattle.flow_code.specs.declared.act.Act.TheVariants as act
use Rattle.flow_code.specs.declared.act.Instr.{Instr}
use Rattle.weak_code.specs.declared.stretch.Stretch.{Stretch}

-- ---- regions at an instruction

-- the numbers of the items that pass a test, the first item having number n
abbrev pub numbers_from : {X : Type 0} → (n : ℕ) → (X → Bool) → List X → List ℕ
numbers_from n test [] = []
numbers_from n test (x ∷ xs) = if test x then n ∷ numbers_from (n + 1) test xs else numbers_from (n + 1) test xs

-- the instruction is the first of the region
abbrev pub begins_at : ℕ → Stretch → Bool
begins_at k s = s.first == k

-- its last instruction is the one before
abbrev pub ends_before : ℕ → Stretch → Bool
ends_before k s = s.last + 1 == k

-- the instruction is one of those during which the region is open
abbrev pub covers : ℕ → Stretch → Bool
covers k s = nat_le s.first k && nat_le k s.last

-- the numbers of the regions that begin there, the outermost first
abbrev pub beginning : List Stretch → ℕ → List ℕ
beginning ss k = numbers_from 0 (begins_at k) ss

-- the numbers of the regions that end just before it, the outermost first
abbrev pub ending : List Stretch → ℕ → List ℕ
ending ss k = numbers_from 0 (ends_before k) ss

-- the numbers of the regions that are open during it, the outermost first
abbrev pub covering : List Stretch → ℕ → List ℕ
covering ss k = numbers_from 0 (covers k) ss

-- ---- what stands before an instruction

-- the innermost region is given first: it has the greatest number
abbrev pub gives : List ℕ → List Act
gives rs = map (λ r. act.Give r) (reverse rs)

-- the outermost region is taken first: it has the least number
abbrev pub takes : List ℕ → List Act
takes rs = map (λ r. act.Take r) rs

-- a return leaves all regions
abbrev pub left : List Stretch → ℕ → Act → List ℕ
left ss k (act.Return value) = covering ss k
left ss k _ = []

-- the Gives and Takes of the regions that end and begin there
abbrev pub turned : List Stretch → ℕ → List Act
turned ss k = gives (ending ss k) ++ takes (beginning ss k)

-- all that is put before the instruction, in its order
abbrev pub before : List Stretch → ℕ → Act → List Act
before ss k a = turned ss k ++ gives (left ss k a)

-- ---- where instructions come to stand

-- where that which stands before the k-th of these instructions begins, counted from that of the first, which has number n
abbrev pub place_from : List Stretch → (n : ℕ) → List Instr → (k : ℕ) → ℕ
place_from ss n [] k = 0
place_from ss n (i ∷ is) zero = 0
place_from ss n (i ∷ is) (suc k) = length (before ss n i.act) + 1 + place_from ss (n + 1) is k

-- where what stands before the k-th instruction begins in the weakened code
abbrev pub place_of : List Stretch → List Instr → (k : ℕ) → ℕ
place_of ss is k = place_from ss 0 is k

-- past the end a Mark stands in, before which no region is left
abbrev pub act_or_mark : Option Instr → Act
act_or_mark None = act.Mark
act_or_mark (Some i) = i.act

-- where the k-th instruction itself comes to stand
abbrev pub seat_of : List Stretch → List Instr → (k : ℕ) → ℕ
seat_of ss is k = place_of ss is k + length (before ss k (act_or_mark (slice_get is k)))

-- Where a jump from j to k goes. A jump back comes from inside of all regions that begin with its Mark, and from after those
-- that end before it, so it goes to the Mark itself; any other goes to the front of what stands before k.
abbrev pub enter : List Stretch → List Instr → (j k : ℕ) → ℕ
enter ss is j k = if nat_le k j then seat_of ss is k else place_of ss is k
