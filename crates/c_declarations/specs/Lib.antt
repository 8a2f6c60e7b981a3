pub use Rattle.c_grammar.specs.Grammar
pub use Rattle.c_grammar.specs.Phrase
pub use Rattle.c_grammar.specs.Parse
pub use Rattle.c_grammar.specs.Rules
pub use Rattle.c_parse_rules.specs.Gives
