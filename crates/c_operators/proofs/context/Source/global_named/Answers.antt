use Rattle.std.proofs.Common.{ap, ◌∙◌}
use Rattle.c_types.proofs.Keyed.{lookup-entry_of}
use Rattle.c_operators.specs.Context.{pointer_or_null}
use Rattle.c_operators.proofs.context.Source.global_named.Goals as goal

pub returns-in-Some : goal.returns-in-Some
returns-in-Some c =
    c.from_word.ensures.value
    ∙ ap pointer_or_null (c.in-Some.ensures.value ∙ lookup-entry_of (λ k. k.now) c.args.self.now.globals.entries c.args.name.now)

pub returns-in-None : goal.returns-in-None
returns-in-None c =
    c.null.ensures
    ∙ ap pointer_or_null (c.in-None.ensures.value ∙ lookup-entry_of (λ k. k.now) c.args.self.now.globals.entries c.args.name.now)
