pub mod TextTold
