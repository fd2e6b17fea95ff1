pub mod EventLoop
pub mod Told
