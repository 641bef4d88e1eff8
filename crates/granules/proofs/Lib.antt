pub mod Below
pub mod Counts
pub mod Climbs
pub mod Kept
pub mod Leaves
pub mod Sought
