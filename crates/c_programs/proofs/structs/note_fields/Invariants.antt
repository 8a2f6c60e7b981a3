use Rattle.std.proofs.Common.{◌≡◌, ◌≤◌, ◌+◌, drop, map}
use Rattle.c_types.specs.Scopes.{counted_cells, most_cells}
use Rattle.c_tree.specs.View.{fields_of}
use Rattle.c_types.specs.Found.{first_among}
use Rattle.c_programs.specs.Members.{shown_members}
use Rattle.c_programs.specs.Declarators.{with_fields, fields_cells, fields_faults}
use Rattle.c_programs.proofs.structs.note_fields.Given as goal

-- what is done and the rest make the whole
abbrev pub invariant-loop-some : goal.invariant-loop-some
invariant-loop-some g l = record {
  members :
      with_fields (g.N.Names.known l.names) (shown_members l.content.members.entries) (map fields_of (drop l.some-index l.fields))
      ≡ with_fields (g.N.Names.known l.fn.names) (shown_members l.fn.content.members.entries) (map fields_of l.fn.fields);
  cells :
      counted_cells (l.content.cells + fields_cells (g.N.Names.known l.names) (map fields_of (drop l.some-index l.fields)))
      ≡ counted_cells (l.fn.content.cells + fields_cells (g.N.Names.known l.fn.names) (map fields_of l.fn.fields));
  bound : l.content.cells ≤ most_cells + 1;
  first :
      first_among l.first (fields_faults (g.N.Names.known l.names) (shown_members l.content.members.entries) (map fields_of (drop l.some-index l.fields)))
      ≡ first_among l.fn.first (fields_faults (g.N.Names.known l.fn.names) (shown_members l.fn.content.members.entries) (map fields_of l.fn.fields));
}
