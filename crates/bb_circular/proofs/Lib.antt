pub mod Blank
pub mod Examples
pub mod Keeping
pub mod LogCalls
pub mod LogDevices
pub mod LogMaking
pub mod Looks
pub mod Wearing
