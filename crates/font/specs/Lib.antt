-- The font table: its bytes and rules, the font it holds, what the functions answer, and laws for the crates above.
-- Assumes nothing.
pub mod Records
pub mod Font
pub mod Chains
pub mod Table
pub mod Values
pub mod Keys
pub mod Reading
pub mod RecordsLaws
pub mod MetricsLaws
pub mod Finding
pub mod FontLaws
pub mod LookupLaws
pub mod FairFont
pub mod ValueLaws
