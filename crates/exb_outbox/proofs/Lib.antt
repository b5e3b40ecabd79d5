pub mod PortMapBits
pub mod OutputLines
