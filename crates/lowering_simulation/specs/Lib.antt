pub mod RunEvents
pub mod SourceRuns
pub mod ThreadEvents
pub mod WalkEvents
