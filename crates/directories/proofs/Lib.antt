pub mod Sectors
pub mod Bytes
pub mod Said
pub mod Places
pub mod Collected
pub mod Found
pub mod Checked
pub mod Owned
