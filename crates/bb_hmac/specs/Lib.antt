-- Definitions that contracts cite. These a reader has to believe.
pub mod Hmac
pub mod Key
-- Inside: what a code that is fed in pieces keeps.
pub mod Mac
