pub mod Tlvs
pub mod Encoding
pub mod Announcements
pub mod ParsedValues
