pub mod LowestInRange
pub mod ChannelTables
pub mod RisingPlaces
pub mod GroupPlaces
pub mod GroupTables
pub mod SetKeys
pub mod Uniqueness
pub mod SpacesByPort
