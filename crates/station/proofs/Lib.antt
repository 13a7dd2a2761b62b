pub mod Common
pub mod MemoryLemmas
pub mod WindowLemmas
mod Searches
mod Places
mod Standing
mod LinkLemmas
pub mod FrameLemmas
mod TableLemmas
mod TurnLemmas
mod EventLemmas
mod TickLemmas
mod AskLemmas
mod InsertLemmas
mod ShowLemmas
mod MonitorLemmas
mod HearLemmas
mod ReadLemmas
mod JoinLemmas
mod LeaveLemmas
mod OwnLemmas
mod CallingLemmas
mod GiveLemmas
mod HostLemmas
pub mod CallLemmas
mod RouteLemmas
mod TakeLemmas
mod AnswerLemmas
mod AskerLemmas
mod CloseLemmas
mod PassLemmas
mod TakenLemmas
mod PendingLemmas
