pub mod DemoJob
pub mod DemoStreams
pub mod Laws
