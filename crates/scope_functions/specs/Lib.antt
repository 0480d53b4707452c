pub mod OwnUse
