pub mod Pages
pub mod Plans
pub mod Device
pub mod Requests
pub mod PlanDisk
pub mod Writing
pub mod Planned
pub mod Resizing
