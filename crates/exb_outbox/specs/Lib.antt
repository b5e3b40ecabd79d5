pub mod PortMaps
pub mod Logs
