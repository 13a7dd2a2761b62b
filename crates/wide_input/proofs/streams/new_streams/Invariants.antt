use Rattle.wide_input.proofs.Common.{◌≡◌, ◌≤◌, ◌<◌, ℕ, [], length, get_or, All, HeldStream, StreamStandsFor, IsAbreast}
use Rattle.wide_input.proofs.streams.new_streams.Given as goal

abbrev pub invariant-loop-number : goal.invariant-loop-number
invariant-loop-number l = record {
  count : length l.streams.items ≡ l.number;
  stand_for : (k : ℕ) (d : HeldStream) → k < l.number → StreamStandsFor k (get_or l.streams.items k d) [];
  positions : All (λ held. held.bank.position ≤ 0) l.streams.items;
  abreast : All (IsAbreast 0) l.streams.items;
}
