mod Names
pub mod Heads
pub mod Says
pub mod Front
pub mod PagesRead
pub mod Committing
pub mod RoomMade
pub mod Tidied
pub mod KindOpens
pub mod PoolOpens
pub mod Looked
pub mod Said
