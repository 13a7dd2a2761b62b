pub mod Common
pub mod FieldLemmas
pub mod ValueLemmas
pub mod Vandermonde
pub mod GeneratorLemmas
pub mod RegisterLemmas
pub mod DistanceLemmas
pub mod ScaledLemmas
pub mod FewRoots
pub mod KernelLemmas
pub mod RootLemmas
pub mod ErrorLemmas
pub mod WordLemmas
pub mod UnknownLemmas
mod Examples
