-- What is true of every step and every run of the world.
pub mod CascadeChannels
pub mod Sessions
pub mod Simulation
pub mod SessionLaws
pub mod ReachedWorlds
pub mod Journal
pub mod Stamps
pub mod Requests
pub mod FrameBytes
pub mod PassedFrames
