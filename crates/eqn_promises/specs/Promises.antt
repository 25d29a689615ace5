-- The theorems about typed text (request 10), each under its name with what it says. That the two calls of `eqn_calls` give the answers
-- that these theorems speak of is their contract (`eqn_calls/src/lib.rt`).
--     the grammar      one derivation of a text, found by `parse`, and the place where a text leaves the grammar
--     answers          what comes out, and where 11 and 12 are answered
--     there and back   what is read and what is written undo each other
--     sizes            how much room is enough
--     places           where a refusal lies
--     examples         of each sentence of the request, by computation
-- Assumes nothing.

-- ---- the grammar

-- tokens have at most one derivation
pub use Rattle.eqn_grammar.proofs.ParsingLaws.{only_derivation}
-- `parse` comes to the derivation of the tokens that one derives, and what it comes to derives them
pub use Rattle.eqn_grammar.proofs.ParsingLaws.{parse_complete, parse_sound}
-- where `parse` gets stuck the tokens before begin some text of the grammar, and with the next one they begin none; at the end they make
-- no text; and it gets stuck nowhere else
pub use Rattle.eqn_grammar.proofs.ParsingLaws.{stuck_viable, stuck_there, stuck_end, stuck_is}
-- ---- answers

-- what comes out is always a formula: bytes that read, within the limits, as the tree that the text means
pub use Rattle.eqn_promises.specs.RoundTrip.{IsFormula}
pub use Rattle.eqn_promises.specs.Refusals.{MadeFormula, made_formula}
-- 11 exactly where no text of the grammar goes on: at the first byte of the first token that continues none, or at the end
pub use Rattle.eqn_promises.specs.Refusals.{Stops, OutsideAt, outside_exactly}
-- the n-th token starts at `place_in n`, with its bytes; behind the last one that place is the end
pub use Rattle.eqn_promises.specs.TokenPlaces.{StartsAt, token_starts, place_end}
-- 12 exactly where what the text means is no formula: no bytes read as it
pub use Rattle.eqn_promises.specs.Refusals.{NoFormula, large_exactly}
-- ---- there and back

-- a text that the writer makes is read to the bytes of the formula that it was made of
pub use Rattle.eqn_promises.specs.RoundTrip.{read_written}
-- the writer makes a text of each formula that the reader makes, and that text is read to the formula again
pub use Rattle.eqn_promises.specs.RoundTrip.{Again, read_again}
-- the writer makes a text of exactly the formulas that the reader makes
pub use Rattle.eqn_promises.specs.RoundTrip.{writes_exactly}
-- and with a good name table it refuses exactly the others, with 21
pub use Rattle.eqn_promises.specs.RoundTrip.{refuses_exactly}
-- ---- sizes

-- a formula has at most 9 bytes for each byte of its text, and a text at most 9 for each byte of its formula
pub use Rattle.eqn_promises.specs.Sizes.{read_size, write_size}
-- so that with as much room no answer is 13
pub use Rattle.eqn_promises.specs.Room.{read_room, write_room}
-- ---- places

-- a refusal's place lies within the name table, the text or the formula
pub use Rattle.eqn_meaning.proofs.ResultLaws.{read_place, write_place}
-- ---- examples

-- the request's own, byte for byte
pub use Rattle.eqn_meaning.specs.Examples.{both_scripts}
-- for each sentence of the request: what a text means, how that is written, and that what is written means the same
pub use Rattle.eqn_meaning.specs.Examples.{each_read, each_written, each_read_again}
-- 10, 11 and 12 with their places, a text that is just not too deep, and one that is too long
pub use Rattle.eqn_meaning.specs.Examples.{each_refused, deepest_read}
pub use Rattle.eqn_promises.specs.LongText.{long_refused}
-- 20 with its place, of the reader and of the writer
pub use Rattle.eqn_meaning.specs.Examples.{each_table_refused, each_table_refused_writing}
-- 21, of formulas that read and of bytes that are no formula
pub use Rattle.eqn_meaning.specs.Examples.{each_unmade, each_unmade_reads, no_formula}
-- 13, of the reader and of the writer; and what a refusal and an acceptance leave of the buffer
pub use Rattle.eqn_meaning.specs.Examples.{no_room_lem, room, no_room_writing, room_writing, unchanged, kept_behind}
