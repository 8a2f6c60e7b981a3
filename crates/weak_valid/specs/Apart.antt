-- Loops that are told apart by their Marks.
use Rattle.std.specs.Prelude.{nat_lt, ◌&&◌, Bool, true, List, [], ◌∷◌}
use Rattle.std.specs.List.{list_all}
use Rattle.flow_code.specs.declared.code.Code.{Code}
use Rattle.flow_code.specs.declared.code.LoopInfo.{LoopInfo}

-- each loop's Mark stands before that of the next
abbrev pub loops_ascend : List LoopInfo → Bool
loops_ascend [] = true
loops_ascend (l ∷ []) = true
loops_ascend (l ∷ m ∷ ls) = nat_lt l.at m.at && loops_ascend (m ∷ ls)

-- so no two loops of a function have one Mark
abbrev pub loops_are_apart : Code → Bool
loops_are_apart code = list_all (λ fn. loops_ascend fn.loops) code.functions
