-- The bytes and the tokens of typed text, their laws, and what the code says of them.
--     Bytes, BytesLaws         which bytes separate, and which stand in a word
--     Tokens, TokensLaws       the tokens of a text and their places
--     Values, PlacesLaws       what the tokens that the code finds stand for, and the laws of their places
-- Assumes nothing.
pub mod Bytes
pub mod BytesLaws
pub mod Tokens
pub mod TokensLaws
pub mod Values
pub mod PlacesLaws
