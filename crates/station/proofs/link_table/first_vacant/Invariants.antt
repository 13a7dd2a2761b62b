use Rattle.station.proofs.Common.{◌≡◌, ℕ, ◌<◌, true, is_some, None, get_or}
use Rattle.station.proofs.link_table.first_vacant.Given as goal

-- each place so far has a link
abbrev pub invariant-loop-key : goal.invariant-loop-key
invariant-loop-key l = (k : ℕ) → k < l.key → is_some (get_or l.places k None) ≡ true
