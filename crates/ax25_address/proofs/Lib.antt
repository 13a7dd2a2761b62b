pub mod Common
pub mod CallLemmas
pub mod SsidLemmas
pub mod TextLemmas
pub mod FieldLemmas
pub mod PathLemmas
pub mod OneReading
pub mod Written
