pub mod Below
pub mod Nodes
pub mod Paths
pub mod Tables
pub mod Trees
