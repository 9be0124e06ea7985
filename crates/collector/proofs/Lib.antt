pub mod Counts
pub mod History
pub mod Numbers
pub mod Table
