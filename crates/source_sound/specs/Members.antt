-- Each struct has a member, as the grammar demands (C99 6.7.2.1). No rule of types asks for it, so a tree that no source has
-- could break it.
use Rattle.std.specs.Prelude.{List, [], ◌∷◌}
use Rattle.c_tree.specs.Tree.{Fields, fields, Outer, structure, function, objects}

-- the first line of members declares one, at least
abbrev pub HaveMembers : List Fields → Type 0
HaveMembers [] = ⊥
HaveMembers (fields s [] at ∷ fs) = ⊥
HaveMembers (fields s (d ∷ ds) at ∷ fs) = Unit {0}

-- those of a source
abbrev pub StructsHaveMembers : List Outer → Type 0
StructsHaveMembers [] = Unit {0}
StructsHaveMembers (structure name fs ∷ os) = HaveMembers fs × StructsHaveMembers os
StructsHaveMembers (function is_static s stars name ps code ∷ os) = StructsHaveMembers os
StructsHaveMembers (objects is_static s xs at ∷ os) = StructsHaveMembers os
