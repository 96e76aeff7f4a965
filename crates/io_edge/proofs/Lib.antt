pub mod Counts
pub mod Found
pub mod Pieces
pub mod Given
pub mod Taken
