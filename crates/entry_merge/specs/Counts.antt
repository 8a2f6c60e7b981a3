-- The next entry of the lists, by how many entries of each object were taken.
use Rattle.std.specs.Prelude.{◌≡◌, ℕ, suc, Bool, false, ◌==◌, if◌then◌else◌, List, [], ◌∷◌, map}
use Rattle.std.specs.Borrow.{Bor}
use Rattle.std.specs.Option.{option_map_or}
use Rattle.indexmap.specs.IndexMap.{IndexMap, get}
use Rattle.sync_objects.specs.declared.entry.Noted.{Noted}
use Rattle.sync_objects.specs.declared.object.ObjId.{ObjId}
use Rattle.run_theory.specs.Merge.{Taken, Stuck, Takes, after_list}
use Rattle.run_theory.specs.Same.{same_object}

-- the number that the map has for the object; 0 where it has none
abbrev pub count_in : {S : Type 0} → IndexMap ObjId ℕ S → ObjId → ℕ
count_in counts o = option_map_or (λ n. n) (get same_object counts o) 0

-- one more of the object is counted, and of no other
abbrev pub AreCounted : {S : Type 0} → IndexMap ObjId ℕ S → ObjId → IndexMap ObjId ℕ S → Type 0
AreCounted counts o new = (p : ObjId) → count_in new p ≡ (if same_object o p then suc (count_in counts p) else count_in counts p)

-- whether the list's first entry is the next one of its object
abbrev pub is_next : (ObjId → ℕ) → List Noted → Bool
is_next taken [] = false
is_next taken (x ∷ xs) = x.number == taken x.entry.obj

-- the entry that is taken next, with what is left of the lists; or there is none
abbrev pub next_by : (ObjId → ℕ) → List (List Noted) → Taken
next_by taken [] = Stuck
next_by taken ([] ∷ lists) = after_list [] (next_by taken lists)
next_by taken ((x ∷ xs) ∷ lists) = if x.number == taken x.entry.obj then Takes x (xs ∷ lists) else after_list (x ∷ xs) (next_by taken lists)

-- the lists that slices show
abbrev pub lists_of : List (Bor (List Noted)) → List (List Noted)
lists_of slices = map (λ slice. slice.now) slices
