-- What the proof of a word's kind uses. Assumes nothing.
mod WordKinds
