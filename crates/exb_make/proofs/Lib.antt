pub mod GeneratedTree
pub mod DrawLoops
pub mod CaptureContents
pub mod Validity
pub mod ArrivingFrames
pub mod AllDraws
pub mod CaptureList
