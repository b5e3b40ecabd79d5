pub mod Frames
pub mod StopAndWait
pub mod Ecp
pub mod Calls
pub mod Line
pub mod Ends
