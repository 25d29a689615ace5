-- Demands 1 to 3, and what each change request promises beyond them, as theorems over the definitions. `Promises` is the page that leads to
-- each; the others stand in the order in which they use each other.
-- Assumes nothing.
pub mod Agreement
pub mod Demand1
pub mod LentWords
pub mod MovedBytes
pub mod ListFields
pub mod EveryField
pub mod Demand3
pub mod ItemsOnPage
pub mod FoundItems
pub mod Clearances
pub mod AsBefore
pub mod OursAlone
pub mod Formats
pub mod WhyLaws
pub mod PageNodes
pub mod PageCalls
pub mod BenchTable
pub mod Definitions
pub mod Examples
pub mod FieldExample
pub mod FieldInstances
pub mod LongField
pub mod ItemExample
pub mod Promises
