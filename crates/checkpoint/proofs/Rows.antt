-- Worked rows: objects by their numbers.
use Rattle.std.proofs.Common.{◌≡◌, refl, [], ◌∷◌}
use Rattle.sync_objects.specs.declared.object.ObjId.TheVariants as object
use Rattle.checkpoint.specs.Groups.{in_group}
use Rattle.checkpoint.specs.declared.grouped.Group.TheVariants as group

-- nine stripes: the eight of the first lock, and one of the next
nine_stripes : in_group group.Stripes 9 ≡ object.Weak 0 0 ∷ object.Weak 0 1 ∷ object.Weak 0 2 ∷ object.Weak 0 3 ∷ object.Weak 0 4 ∷ object.Weak 0 5 ∷ object.Weak 0 6 ∷ object.Weak 0 7 ∷ object.Weak 1 0 ∷ []
nine_stripes = refl

two_slots : in_group group.Slots 2 ≡ object.Slot 0 ∷ object.Slot 1 ∷ []
two_slots = refl
