pub mod Accesses
pub mod ActsFit
pub mod AddressesFit
pub mod CountedLoops
pub mod LocksFit
pub mod NoPairs
pub mod OrderFits
pub mod PlacesFit
pub mod RegionsFit
mod Rows
pub mod Spots
pub mod Tests
pub mod Valid
