pub mod AccuracyText
