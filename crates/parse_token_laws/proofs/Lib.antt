pub mod ScannedTokens
