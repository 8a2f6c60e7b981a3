pub mod OneWalk
