use Rattle.station.proofs.Common.{◌≡◌, ℕ, ◌<◌, false, Links, StandsForLinks}
use Rattle.station.specs.Asking.{wants_from}
use Rattle.station.proofs.link_table.LinkTable.first_wanting.Given as goal

-- no link so far wants to send
abbrev pub invariant-loop-key : goal.invariant-loop-key
invariant-loop-key l =
    (links : Links) → StandsForLinks l.self links → (k : ℕ) → k < l.key → wants_from l.start links k ≡ false
