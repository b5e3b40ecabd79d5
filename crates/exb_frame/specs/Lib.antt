pub mod TagValues
pub mod Egress
