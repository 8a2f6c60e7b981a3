-- Merges of the lists of a run, and the one that is written.
use Rattle.std.specs.Prelude.{◌≡◌, ℕ, zero, suc, ◌+◌, ◌<◌, ◌==◌, if◌then◌else◌, List, [], ◌∷◌, ◌++◌, length}
use Rattle.sync_objects.specs.declared.entry.Noted.{Noted}
use Rattle.sync_objects.specs.declared.object.ObjId.{ObjId}
use Rattle.run_theory.specs.Same.{same_object}
use Rattle.run_theory.specs.Steps.{entries_of}

-- each of these entries that is of the same object has a greater number
abbrev pub ComesBefore : Noted → List Noted → Type 0
ComesBefore x [] = Unit {0}
ComesBefore x (y ∷ ys) = (y.entry.obj ≡ x.entry.obj → x.number < y.number) × ComesBefore x ys

-- on each object the numbers ascend
abbrev pub IsAscending : List Noted → Type 0
IsAscending [] = Unit {0}
IsAscending (x ∷ xs) = ComesBefore x xs × IsAscending xs

-- an order of all entries of the lists that keeps each thread's order and, on each object, that of the numbers
pub record IsMerge (lists : ℕ → List Noted) (merged : List Noted) : Type 0 where
  pub threads : (t : ℕ) → entries_of t merged ≡ lists t
  pub ascending : IsAscending merged

-- the lists of this many threads, from the thread with this number on
abbrev pub lists_from : ℕ → ℕ → List Noted → List (List Noted)
lists_from t zero xs = []
lists_from t (suc n) xs = entries_of t xs ∷ lists_from (t + 1) n xs

-- how many of these entries are of the object
abbrev pub entries_at : ObjId → List Noted → ℕ
entries_at o [] = 0
entries_at o (x ∷ xs) = if same_object x.entry.obj o then suc (entries_at o xs) else entries_at o xs

-- the entry that is taken next, with what is left of the lists; or there is none
pub data Taken : Type 0 where
  Stuck : Taken
  Takes : (entry : Noted) → (rest : List (List Noted)) → Taken

-- a list that gave nothing stays in front of what is left
abbrev pub after_list : List Noted → Taken → Taken
after_list xs Stuck = Stuck
after_list xs (Takes x rest) = Takes x (xs ∷ rest)

-- the first list whose next entry's number is how many entries of its object were taken before gives that entry
abbrev pub next_entry : List Noted → List (List Noted) → Taken
next_entry before [] = Stuck
next_entry before ([] ∷ lists) = after_list [] (next_entry before lists)
next_entry before ((x ∷ xs) ∷ lists) = if x.number == entries_at x.entry.obj before then Takes x (xs ∷ lists) else after_list (x ∷ xs) (next_entry before lists)

-- the entry that was taken, and what comes after it
abbrev pub merged_on : (List Noted → List (List Noted) → List Noted) → List Noted → Taken → List Noted
merged_on rest before Stuck = []
merged_on rest before (Takes x lists) = x ∷ rest (before ++ x ∷ []) lists

-- at most this many entries of the lists in the written order, after those that were taken before
abbrev pub merged_after : ℕ → List Noted → List (List Noted) → List Noted
merged_after zero before lists = []
merged_after (suc n) before lists = merged_on (merged_after n) before (next_entry before lists)

-- how many entries the lists have together
abbrev pub total_length : List (List Noted) → ℕ
total_length [] = 0
total_length (xs ∷ lists) = length xs + total_length lists

-- the written merge: always the lowest thread whose next entry's number is how many entries of its object were taken before
abbrev pub written_merge : List (List Noted) → List Noted
written_merge lists = merged_after (total_length lists) [] lists
