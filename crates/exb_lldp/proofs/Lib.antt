pub mod TlvSteps
pub mod RoundTrip
pub mod TrailingBytes
