use Rattle.std.proofs.Common.{◌≡◌, ◌≤◌, ◌+◌, drop, map}
use Rattle.c_types.specs.Scopes.{counted_cells, most_cells}
use Rattle.c_tree.specs.View.{declared_of}
use Rattle.c_types.specs.Found.{first_among}
use Rattle.c_programs.specs.Members.{shown_members}
use Rattle.c_programs.specs.Declarators.{with_members, declared_cells, some_members_faults}
use Rattle.c_programs.proofs.structs.note_some_members.Given as goal

-- what is done and the rest make the whole
abbrev pub invariant-loop-declarator : goal.invariant-loop-declarator
invariant-loop-declarator g l = record {
  members :
      with_members (g.N.Names.known l.names) l.some.specifier (shown_members l.content.members.entries) (map declared_of (drop l.declarator-index l.some.declarators))
      ≡ with_members (g.N.Names.known l.fn.names) l.fn.some.specifier (shown_members l.fn.content.members.entries) (map declared_of l.fn.some.declarators);
  cells :
      counted_cells (l.content.cells + declared_cells (g.N.Names.known l.names) l.some.specifier (map declared_of (drop l.declarator-index l.some.declarators)))
      ≡ counted_cells (l.fn.content.cells + declared_cells (g.N.Names.known l.fn.names) l.fn.some.specifier (map declared_of l.fn.some.declarators));
  bound : l.content.cells ≤ most_cells + 1;
  first :
      first_among l.first (some_members_faults (g.N.Names.known l.names) l.some.specifier (shown_members l.content.members.entries) (map declared_of (drop l.declarator-index l.some.declarators)))
      ≡ first_among l.fn.first (some_members_faults (g.N.Names.known l.fn.names) l.fn.some.specifier (shown_members l.fn.content.members.entries) (map declared_of l.fn.some.declarators));
}
