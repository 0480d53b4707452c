pub mod BehindBlanks
pub mod BehindParts
pub mod BehindTokens
pub mod Blanking
pub mod Braces
pub mod Growing
pub mod Readings
