-- Functions (C99 6.9.1): the core tree of a definition.
use Rattle.std.specs.Prelude.{ℕ, ◌+◌, List, length, map, Option}
use Rattle.c_tree.specs.declared.name.Name.{Name}
use Rattle.c_tree.specs.Tree.{Formal, Parts}
use Rattle.c_types.specs.declared.library.StarredType.{StarredType}
use Rattle.c_types.specs.Scopes.{Known}
use Rattle.c_programs.specs.Declarators.{after_params}
use Rattle.c_locals.specs.Addresses.{numbered_from}
use Rattle.core_tree.specs.Core as core
use Rattle.c_operators.specs.Context.{Source, context_in}
use Rattle.c_frames.specs.declared.local.Local.{Local}
use Rattle.c_frames.specs.Frames.{formal_of, frame_of, function_by, marked}
use Rattle.c_frames.specs.Locals.{parts_locals}
use Rattle.c_statements.specs.Statements.{block_of, all_elaborated}

-- whose numbers begin with n; `inside` is known behind its formals
abbrev pub definition_by : Source → Known → ℕ → Name → Option StarredType → List Formal → Parts → List Local → List Local → core.Function
definition_by s inside n name result ps parts formals locals =
    function_by s.sites name result formals locals (block_of (all_elaborated (context_in s (frame_of n formals locals result) inside (numbered_from n ps)) parts))

-- where `&` is applied to those with the numbers ns
abbrev pub definition : Source → List ℕ → Known → ℕ → Name → Option StarredType → List Formal → Parts → core.Function
definition s ns inside n name result ps parts =
    definition_by s (after_params inside ps) n name result ps parts (marked ns n (map formal_of ps)) (marked ns (n + length ps) (parts_locals parts))
