-- From what was found to the answers of the definition. Assumes nothing.
mod EntryLaws
