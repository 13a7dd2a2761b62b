pub mod Clock
pub mod HeardStations
pub mod MonitorText
