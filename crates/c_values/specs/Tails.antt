-- What expressions after a comma are, before the first one is known (C99 6.5.17).
use Rattle.std.specs.Prelude.{Option, Some, None}
use Rattle.c_tree.specs.Tree.{Exps, no_exp, and_exp}
use Rattle.c_types.specs.Scopes.{Known}
use Rattle.c_types.specs.Operands.{Standing}
use Rattle.c_types.specs.Standing.{no_target, standing, let_go, following}

-- one more after those so far
abbrev pub one_more : Option Standing → Standing → Standing
one_more None s = s
one_more (Some before) s = following before s

-- those so far, and these after them
abbrev pub all_past : Known → Option Standing → Exps → Option Standing
all_past known so_far no_exp = so_far
all_past known so_far (and_exp e es) = all_past known (Some (one_more so_far (let_go (standing known no_target e)))) es

-- those after one that is this
abbrev pub past_first : Standing → Option Standing → Standing
past_first s None = s
past_first s (Some last) = following s last
