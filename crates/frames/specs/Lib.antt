pub mod FrameTable
pub mod Chain
pub mod Lending
pub mod Inside
