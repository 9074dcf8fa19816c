pub mod Total
pub mod Checked
pub mod Arms
pub mod Lacking
