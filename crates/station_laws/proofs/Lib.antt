pub mod Common
pub mod Connected
pub mod Causes
pub mod HeardAs
pub mod StationActs
pub mod PathStays
mod Flights
pub mod Addresses
pub mod OneSpelling
pub mod Queues
pub mod Tables
pub mod Standing
pub mod LinkKinds
pub mod Framed
mod Controls
mod LinkFrames
mod Tags
pub mod Acts
pub mod Along
mod Events
pub mod ValidCalls
mod Messages
mod Readings
mod Hearing
mod Runs
mod JointLaw
mod Examples
mod ExampleOrder
mod MatchedExample
mod ThirdStation
pub mod OwnerLemmas
pub mod HostsStand
mod Pieces
mod Beside
mod OwnCounts
mod OwnRoom
mod OneFrameEnds
mod Answering
mod Waits
mod AnswerRuns
pub mod Closings
mod Asking
mod Dropping
pub mod RoomForAsks
pub mod CallerLaws
pub mod Growing
pub mod Ways
pub mod MatchedOrder
mod Counts
mod NearQuiet
mod Naming
pub mod EachLink
mod BenchQuiet
mod StillActs
mod Sends
mod LinkAsks
pub mod Calm
mod ReadKinds
mod EndSends
mod Exchanges
mod CallerQuiet
mod QuietRuns
mod ValidHearing
mod CalmRuns
mod QuietJoint
pub mod MatchedLaws
pub mod SeenLemmas
pub mod LinkTells
pub mod LinkDid
pub mod Chains
pub mod ChainRun
mod RunTells
pub mod NewKeys
pub mod OneTurn
