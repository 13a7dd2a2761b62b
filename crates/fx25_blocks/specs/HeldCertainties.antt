-- What is kept of the certainties of bits. Public clauses cite `StandsFor` alone.
use Rattle.std.specs.Prelude.{◌≡◌, ℕ, ◌+◌, ◌%◌, ◌<◌, ◌≤◌, List, length, slice_index}
use Rattle.fx25_blocks.specs.declared.certainties.Certainties.{Certainties}

-- These numbers were taken. The number at a place is kept at the remainder of the place by 2048.
pub record StandsFor (held : Certainties) (numbers : List ℕ) : Type 0 where
  pub size : length held.numbers ≡ 2048
  pub next_is : held.next ≡ length numbers % 2048
  pub kept : (i : ℕ) → i < length numbers → length numbers ≤ i + 2048
      → slice_index held.numbers (i % 2048) ≡ slice_index numbers i
