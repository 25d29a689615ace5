-- What the proof of a list's opening uses. Assumes nothing.
mod OpeningLaws
