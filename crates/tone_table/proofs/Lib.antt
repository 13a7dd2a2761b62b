pub mod SineLemmas
