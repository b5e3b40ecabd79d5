-- What is executed and answered over every run of a session, and what an asker keeps.
pub mod Prefixes
pub mod RunLaws
pub mod AskerLaws
