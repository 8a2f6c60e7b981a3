-- The code of a source.
use Rattle.std.specs.Prelude.{◌≡◌, List}
use Rattle.rr_base.specs.Texts.{Text}
use Rattle.c_tree.specs.Tree.{Outer}
use Rattle.c_elaborate.specs.Whole.{core_of_source}
use Rattle.flow_code.specs.declared.code.Code.{Code}
use Rattle.call_targets.specs.Resolved.{resolved}
use Rattle.flow_lower.specs.Lowered.{lowered}
use Rattle.front.specs.Readings.{sound, IsReading}

-- where each call through a pointer is one of a function that chooses, and without weak locks
unfoldable pub plain_code : List Outer → Code
plain_code os = lowered (resolved (core_of_source os))

-- the text is a source without a fault, and this is its code
pub record IsCodeOf (text : Text) (code : Code) : Type 0 where
  pub tree : List Outer
  pub reads : IsReading text (sound tree)
  pub is : code ≡ plain_code tree
