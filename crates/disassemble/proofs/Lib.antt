pub mod Judged
pub mod Cursors
pub mod Wholes
pub mod Checks
