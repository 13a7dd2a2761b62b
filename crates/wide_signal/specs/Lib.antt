pub mod FineWave
pub mod WideSignal
