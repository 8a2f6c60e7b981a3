use Rattle.std.proofs.Common.{ℕ, Option, ap, ◌∙◌}
use Rattle.c_types.proofs.Keyed.{lookup-entry_of}
use Rattle.c_types.specs.Scopes.{function_numbered}
use Rattle.c_names.specs.Table.{known_of}
use Rattle.c_operators.specs.Context.{function_word}
use Rattle.c_globals.specs.Globals.{named_word}
use Rattle.c_globals.proofs.globals.named_word.Goals as goal

pub returns-in-Some : goal.returns-in-Some
returns-in-Some c =
    ap (λ (z : Option ℕ). named_word z (function_numbered (known_of c.args.source.now.whole) c.args.name.now))
    (c.in-Some.ensures.value ∙ lookup-entry_of (λ k. k.now) c.args.source.now.globals.entries c.args.name.now)

pub returns-in_ok-word-in-None : goal.returns-in_ok-word-in-None
returns-in_ok-word-in-None c =
    c.from.ensures
    ∙ c.in_ok-word-in-None.ensures
    ∙ ap function_word c.function_numbered.ensures
    ∙ ap (λ (z : Option ℕ). named_word z (function_numbered (known_of c.args.source.now.whole) c.args.name.now))
    (c.in-None.ensures.value ∙ lookup-entry_of (λ k. k.now) c.args.source.now.globals.entries c.args.name.now)
