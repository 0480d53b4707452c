-- A part of a file that is scanned alone: ReadAlone has the law, and Balanced what the grammar gives of its braces.
pub mod Balanced
pub mod CutBlanks
pub mod CutMarks
pub mod CutNumbers
pub mod CutParts
pub mod CutTokens
pub mod OpenBraces
pub mod Places
pub mod ReadAlone
pub mod Steps
pub mod Walk
-- How long the texts of tokens are: Tokens and Files have the laws, and Gained what follows for lists of texts.
pub mod Bodies
pub mod Files
pub mod Gained
pub mod Interned
pub mod Pieces
pub mod Tokens
pub mod Units
pub mod Words
pub mod FullNames
pub mod OtherNames
