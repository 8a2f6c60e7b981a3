use Rattle.std.proofs.Common.{◌++◌, ap, ◌∙◌}
use Rattle.c_tree.specs.View.{code_of, formals_of}
use Rattle.c_names.specs.Sources.{listed_params}
use Rattle.c_spots.specs.Spots.{in_function, code_spots}
use Rattle.c_spots.specs.SpotViews.{shown_spots}
use Rattle.c_spots.proofs.program_spots.push_outer.Goals as goal

-- the function is declared with its types, and its body is passed under its name
pub returns-in_ok-push_function-in-Function-clause-out : goal.returns-in_ok-push_function-in-Function-clause-out
returns-in_ok-push_function-in-Function-clause-out c =
    let here = in_function c.in-Function.name.text c.args.marks.now.numbers in
    rw c.in-Function.is
    (c.in_ok-push_function-in-Function.ensures.out
    ∙ ap (λ k. shown_spots c.args.out.now ++ code_spots here k c.args.next.now (listed_params (formals_of c.in-Function.params)) (code_of c.in-Function.body)) c.in_ok-declare_signed-in-Function.ensures)
