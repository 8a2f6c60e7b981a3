pub mod Blanks
pub mod Drafts
pub mod Grammar
pub mod Parts
