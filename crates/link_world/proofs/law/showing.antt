pub mod PlacesStored
pub mod PlacesFit
pub mod Shown
pub mod Readings
pub mod Heard
pub mod Outcome
