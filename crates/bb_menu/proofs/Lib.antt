mod Examples
pub mod First
pub mod Folders
pub mod Numbers
pub mod Orders
pub mod Placing
pub mod Sorting
pub mod Tokens
