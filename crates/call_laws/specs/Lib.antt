pub mod FirstPart
pub mod SetUpsTold
pub mod Client
pub mod PrintsTold
pub mod PrintsGiven
pub mod PrintsSeen
