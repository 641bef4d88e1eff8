pub mod Actions
pub mod Words
pub mod Alone
pub mod Edges
