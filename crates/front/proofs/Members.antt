-- A source that the grammar has gives each of its structs a member.
use Rattle.std.proofs.Common.{List, [], ◌∷◌}
use Rattle.c_lexer.specs.declared.token.Punct.TheVariants as punct
use Rattle.c_lexer.specs.declared.token.Word.TheVariants as word
use Rattle.c_tree.specs.declared.name.Name.{Name}
use Rattle.c_print.specs.Kinds.{p, w}
use Rattle.c_tree.specs.Tree.{Fields, fields, Outer, structure, function, objects}
use Rattle.c_grammar.specs.Marks.{Mark, Beginning, other, ◌>>◌, never}
use Rattle.c_grammar.specs.Grammar.{OfName, OfSpecifier, OfFields, OfMoreFields, OfAllFields, OfOuter, OfProgram}
use Rattle.source_sound.specs.Members.{HaveMembers, StructsHaveMembers}

-- the second and the first of two that stand one after the other
second : (r s : Beginning) (ms rest : List Mark) → (r >> s) ms rest → (mid : List Mark) × s mid rest
second r s ms rest h = (h.0, h.2)

first : (r s : Beginning) (ms rest : List Mark) → (r >> s) ms rest → (mid : List Mark) × r ms mid
first r s ms rest h = (h.0, h.1)

some_member : (f : Fields) (fs : List Fields) (ms rest : List Mark) → OfFields f ms rest → HaveMembers (f ∷ fs)
some_member (fields s [] at) fs ms rest h =
    let a = second (OfSpecifier 0 s) (never >> other (p punct.Semicolon) 0) ms rest h.1 in
    (first never (other (p punct.Semicolon) 0) a.0 rest a.1).1
some_member (fields s (d ∷ ds) at) fs ms rest h = tt

some_members : (fs : List Fields) (ms rest : List Mark) → OfAllFields fs ms rest → HaveMembers fs
some_members [] ms rest h = absurd h
some_members (f ∷ fs) ms rest h = let a = first (OfFields f) (OfMoreFields fs) ms rest h in some_member f fs ms a.0 a.1

struct_members : (name : Name) (fs : List Fields) (ms rest : List Mark) → OfOuter (structure name fs) ms rest → HaveMembers fs
struct_members name fs ms rest h =
    let closes = other (p punct.CloseBrace) 0 >> other (p punct.Semicolon) 0 in
    let inner = OfAllFields fs >> closes in
    let opens = other (p punct.OpenBrace) 0 >> inner in
    let a = second (other (w word.Struct) 0) (OfName 0 name >> opens) ms rest h in
    let b = second (OfName 0 name) opens a.0 rest a.1 in
    let c = second (other (p punct.OpenBrace) 0) inner b.0 rest b.1 in
    let d = first (OfAllFields fs) closes c.0 rest c.1 in
    some_members fs c.0 d.0 d.1

pub program_members : (os : List Outer) (ms rest : List Mark) → OfProgram os ms rest → StructsHaveMembers os
program_members [] ms rest h = tt
program_members (structure name fs ∷ os) ms rest h =
    let a = first (OfOuter (structure name fs)) (OfProgram os) ms rest h in
    let b = second (OfOuter (structure name fs)) (OfProgram os) ms rest h in
    (struct_members name fs ms a.0 a.1, program_members os b.0 rest b.1)
program_members (function is_static s n name xs code ∷ os) ms rest h = let b = second (OfOuter (function is_static s n name xs code)) (OfProgram os) ms rest h in program_members os b.0 rest b.1
program_members (objects is_static s xs place ∷ os) ms rest h = let b = second (OfOuter (objects is_static s xs place)) (OfProgram os) ms rest h in program_members os b.0 rest b.1
