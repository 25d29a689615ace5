-- The name table, its laws, and what the code says of it.
--     Names                    records, a table's test, the name of a word and the first name of a symbol; its laws are in proofs/
--     RecordsLaws              laws of a table's records; those of places are in proofs/
--     Unknown                  the first word of a text that has no name
--     Firsts                   where the search for a word may begin, by its hash
--     Values                   what the answers of the code stand for
--     Search                   the first record that a test picks
-- Assumes nothing.
pub mod Names
pub mod RecordsLaws
pub mod Unknown
pub mod Firsts
pub mod Values
pub mod Search
