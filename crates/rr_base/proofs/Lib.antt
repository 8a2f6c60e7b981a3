pub mod FaultLaws
pub mod FileLaws
pub mod Lists
pub mod StreamLaws
pub mod WordLaws
