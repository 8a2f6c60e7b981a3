-- The words of objects, kept by object.
use Rattle.std.specs.Prelude.{◌≡◌, ℕ, if◌then◌else◌}
use Rattle.std.specs.Option.{option_map_or}
use Rattle.indexmap.specs.IndexMap.{IndexMap, get}
use Rattle.sync_objects.specs.Start.{start_word}
use Rattle.sync_objects.specs.declared.object.ObjId.{ObjId}
use Rattle.run_theory.specs.Same.{same_object}

-- the word that the map has for the object; its word at the start where it has none
abbrev pub word_in : {S : Type 0} → IndexMap ObjId ℕ S → ObjId → ℕ
word_in words o = option_map_or (λ w. w) (get same_object words o) (start_word o)

-- the map has this word for the object, and for each other one what it had before
abbrev pub IsPut : {S : Type 0} → IndexMap ObjId ℕ S → ObjId → ℕ → IndexMap ObjId ℕ S → Type 0
IsPut words o word new = (p : ObjId) → word_in new p ≡ (if same_object o p then word else word_in words p)
