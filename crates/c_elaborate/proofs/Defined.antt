-- A definition of its parts.
use Rattle.std.proofs.Common.{◌≡◌, ℕ, ◌+◌, List, length, map, Option, ap, ◌∙◌}
use Rattle.c_tree.specs.declared.name.Name.{Name}
use Rattle.c_tree.specs.Tree.{Formal, Parts}
use Rattle.c_types.specs.declared.library.StarredType.{StarredType}
use Rattle.c_locals.specs.Addresses.{numbered_from}
use Rattle.c_programs.specs.Declarators.{after_params}
use Rattle.c_types.specs.Scopes.{Known}
use Rattle.core_tree.specs.Core as core
use Rattle.c_operators.specs.Context.{Source, Frame, context_in}
use Rattle.c_frames.specs.declared.local.Local.{Local}
use Rattle.c_frames.specs.Frames.{formal_of, frame_of, function_by, marked}
use Rattle.c_frames.specs.Locals.{parts_locals}
use Rattle.c_statements.specs.Statements.{block_of, all_elaborated}
use Rattle.c_elaborate.specs.Functions.{definition_by, definition}

-- a definition of these formals and locals is made of its frame and its body
pub defined_made : (s : Source) (inside : Known) (n : ℕ) (name : Name) (result : Option StarredType) (ps : List Formal) (parts : Parts)
    (formals locals : List Local) (frame : Frame) (body : core.Statement) →
    frame ≡ frame_of n formals locals result →
    body ≡ block_of (all_elaborated (context_in s frame inside (numbered_from frame.first ps)) parts) →
    function_by s.sites name result formals locals body ≡ definition_by s inside n name result ps parts formals locals
defined_made s inside n name result ps parts formals locals frame body fr b =
    ap (λ (z : core.Statement). function_by s.sites name result formals locals z)
    (b ∙ ap (λ (z : Frame). block_of (all_elaborated (context_in s z inside (numbered_from z.first ps)) parts)) fr)

-- a definition, by its formals and locals
pub definition_of : (s : Source) (ns : List ℕ) (inside : Known) (n : ℕ) (name : Name) (result : Option StarredType) (ps : List Formal) (parts : Parts)
    (formals locals : List Local) →
    formals ≡ marked ns n (map formal_of ps) → locals ≡ marked ns (n + length ps) (parts_locals parts) →
    definition_by s (after_params inside ps) n name result ps parts formals locals ≡ definition s ns inside n name result ps parts
definition_of s ns inside n name result ps parts formals locals fs ls =
    ap (λ (z : List Local). definition_by s (after_params inside ps) n name result ps parts z locals) fs
    ∙ ap (λ (z : List Local). definition_by s (after_params inside ps) n name result ps parts (marked ns n (map formal_of ps)) z) ls
