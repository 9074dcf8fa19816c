pub mod Next
pub mod Same
