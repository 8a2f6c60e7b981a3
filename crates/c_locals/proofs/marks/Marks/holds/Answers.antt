use Rattle.std.proofs.Common.{false, unwrap_or, ap, ◌∙◌}
use Rattle.std.proofs.lemmas.Option.{unwrap_or-slice_get}
use Rattle.c_locals.proofs.marks.Marks.holds.Goals as goal

pub returns-in-None : goal.returns-in-None
returns-in-None c =
    ap (λ o. unwrap_or o false) c.in-None.ensures.value
    ∙ unwrap_or-slice_get c.args.self.now.marks c.args.number false
    ∙ c.args.self.now.agree c.args.number
