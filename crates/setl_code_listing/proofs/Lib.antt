pub mod Variables
pub mod Bodies
