pub mod Walk
pub mod Places
pub mod Split
pub mod Nearest
pub mod Rising
