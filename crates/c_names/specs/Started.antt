-- Which function a thread is started with (POSIX pthread_create).
use Rattle.std.specs.Prelude.{Option, Some, None}
use Rattle.rr_base.specs.Texts.{Text}
use Rattle.c_tree.specs.Tree.{Exp, named, Exps, and_exp}

-- the function is the third argument of the call, by its name
abbrev pub name_of_start : Exp → Option Text
name_of_start (named name at) = Some name
name_of_start _ = None

-- the third argument, where it is the bare name of a function
abbrev pub third_name : Exps → Option Text
third_name (and_exp a (and_exp b (and_exp c more))) = name_of_start c
third_name _ = None
