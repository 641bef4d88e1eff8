pub mod Kinds
pub mod Systems
pub mod Rights
pub mod Entries
pub mod Laws
pub mod Below
