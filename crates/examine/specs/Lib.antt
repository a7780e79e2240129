pub mod Memories
pub mod RowsInOrder
