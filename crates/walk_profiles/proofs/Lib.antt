mod Files
pub mod One
