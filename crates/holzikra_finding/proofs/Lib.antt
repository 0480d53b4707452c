pub mod Narrowest
