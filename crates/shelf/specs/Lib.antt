pub mod Words
pub mod Sides
pub mod SidesLemmas
pub mod Places
