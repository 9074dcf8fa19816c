pub mod Points
pub mod Given
pub mod Answer
pub mod Lent
pub mod Accuracy
