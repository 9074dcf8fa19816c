pub mod SheetLent
