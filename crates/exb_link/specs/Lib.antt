pub mod LinkFrames
pub mod Queues
pub mod Links
