use Rattle.std.proofs.Common.{◌≡◌, drop, map}
use Rattle.c_tree.specs.View.{formal_of, formals_of}
use Rattle.c_types.specs.Found.{first_among}
use Rattle.c_names.specs.Table.{known_of}
use Rattle.c_names.specs.Sources.{listed_params}
use Rattle.c_programs.specs.Declarators.{after_params, params_faults}
use Rattle.c_programs.proofs.params.note_params.Given as goal

-- what is done and the rest make the whole
abbrev pub invariant-loop-p : goal.invariant-loop-p
invariant-loop-p l = record {
  known : after_params (known_of l.table) (map formal_of (drop l.p-index l.p-items)) ≡ after_params (known_of l.fn.table) (listed_params (formals_of l.fn.params));
  first : first_among l.first (params_faults (known_of l.table) l.is_definition (map formal_of (drop l.p-index l.p-items))) ≡ first_among l.fn.first (params_faults (known_of l.fn.table) l.fn.is_definition (listed_params (formals_of l.fn.params)));
}
