-- What is seen of the arguments of a call before they are judged.
use Rattle.std.specs.Prelude.{◌≡◌}
use Rattle.c_tree.specs.Tree.{Exps}
use Rattle.c_types.specs.Standing.{format_of}
use Rattle.c_rules.specs.Faults.{count_of, begins_with_text}
use Rattle.c_rules.specs.declared.blame_call.Arguments.{Arguments}

-- what the program notes of a call tells of its arguments truly
pub record IsSeenOf (a : Arguments) (es : Exps) : Type 0 where
  pub many : a.many ≡ count_of es
  pub is_format : a.is_format ≡ begins_with_text es
  pub format : a.format ≡ format_of es
