pub mod Rates
pub mod HeldRates
