pub mod Few
pub mod FewPointers
pub mod Members
pub mod One
pub mod OneWeakened
pub mod Sources
pub mod Together
pub mod Unlocked
