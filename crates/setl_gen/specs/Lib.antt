pub mod Bodies
pub mod Found
pub mod Heads
pub mod StmtKinds
