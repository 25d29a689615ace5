-- From what the tests find to the answers of the definition. Assumes nothing.
mod TestedLaws
