use Rattle.std.proofs.Common.{◌≡◌, ◌++◌, drop, map}
use Rattle.c_tree.specs.View.{outer_of, program_of}
use Rattle.c_names.specs.Known.{known_at_start}
use Rattle.c_names.specs.Table.{known_of}
use Rattle.core_tree.specs.View.{function_of}
use Rattle.c_elaborate.specs.Whole.{outers_functions, outers_words}
use Rattle.c_operators.specs.Views.{source_in}
use Rattle.c_elaborate.proofs.whole.walked.Given as goal

-- what is done and the rest make the whole
abbrev pub invariant-loop-external : goal.invariant-loop-external
invariant-loop-external l = record {
  functions :
      map function_of l.functions ++ outers_functions (source_in l.source) l.marks.numbers (known_of l.table) l.next (map outer_of (drop l.external-index l.program.externals))
      ≡ outers_functions (source_in l.fn.source) l.fn.marks.numbers (known_at_start (program_of l.fn.program)) 0 (program_of l.fn.program);
  words :
      l.words ++ outers_words (source_in l.source) (known_of l.table) (map outer_of (drop l.external-index l.program.externals))
      ≡ outers_words (source_in l.fn.source) (known_at_start (program_of l.fn.program)) (program_of l.fn.program);
}
