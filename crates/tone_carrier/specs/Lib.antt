pub mod HeardWindows
pub mod RunsOn
pub mod Evidence
pub mod Tones
pub mod Hold
pub mod Held
