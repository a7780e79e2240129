pub mod Files
pub mod Holds
pub mod Index
pub mod Reads
pub mod RowsGraph
pub mod SpanLaws
pub mod Writes
