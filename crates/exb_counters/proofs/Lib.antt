mod AllowedArrivals
mod EventCounts
mod LinePieces
mod Summary
pub mod PortSums
