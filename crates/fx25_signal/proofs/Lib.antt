pub mod Common
pub mod Clusters
pub mod FoundUnits
pub mod UnitLaw
pub mod UnitBits
pub mod SameWindows
pub mod LostStretches
pub mod NearLaw
