pub mod Marks
pub mod Grammar
pub mod Phrase
pub mod Parse
pub mod Rules
pub mod Exact
