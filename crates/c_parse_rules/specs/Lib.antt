pub use Rattle.c_grammar.specs.Marks
pub use Rattle.c_grammar.specs.Grammar
pub use Rattle.c_grammar.specs.Phrase
pub use Rattle.c_grammar.specs.Parse
pub use Rattle.c_grammar.specs.Rules
pub mod Gives
pub mod Heads
