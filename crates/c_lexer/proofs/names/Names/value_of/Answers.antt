use Rattle.std.proofs.Common.{ap, ◌∙◌}
use Rattle.rr_base.specs.Texts.{entry_of}
use Rattle.c_lexer.proofs.Values.{lookup-entry_of}
use Rattle.c_lexer.proofs.names.Names.value_of.Goals as goal

pub returns : goal.returns
returns c =
    c.copied.ensures ∙ c.get.ensures.value
    ∙ lookup-entry_of (λ k. k.now) c.self.inside.values.entries c.args.name.now
    ∙ ap (λ es. entry_of es c.args.name.now) c.self.view_is
