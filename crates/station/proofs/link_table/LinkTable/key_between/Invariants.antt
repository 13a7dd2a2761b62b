use Rattle.station.proofs.Common.{◌≡◌, ℕ, ◌<◌, false, None, get_or, is_held_between}
use Rattle.station.proofs.link_table.LinkTable.key_between.Given as goal

-- no link so far is between the calls
abbrev pub invariant-loop-key : goal.invariant-loop-key
invariant-loop-key l =
    (k : ℕ) → k < l.key → is_held_between l.local l.remote (get_or l.self-inside.places.items k None) ≡ false
