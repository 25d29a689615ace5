-- From what the code finds to the answers of the definition. Assumes nothing.
mod FindLaws
