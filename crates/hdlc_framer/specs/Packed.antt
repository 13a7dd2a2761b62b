-- Octets, and a part of an octet with so many bits.
use Rattle.std.specs.Prelude.{ℕ, ◌^◌, ◌<◌, ◌≤◌, List, length}
use Rattle.std.specs.List.{All}

pub record IsPacked (octets : List ℕ) (filled part : ℕ) : Type 0 where
  pub octets_fit : All (λ octet. octet < 256) octets
  pub room : length octets ≤ 1026
  pub below_octet : filled < 8
  pub part_fits : part < 2 ^ filled
