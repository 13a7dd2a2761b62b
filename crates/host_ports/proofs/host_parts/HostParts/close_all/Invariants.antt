-- Those so far are shut.
use Rattle.host_ports.proofs.Common.{◌≡◌, ℕ, take, Moves, Narrows, is_named, closing_all, is_among}
use Rattle.std.proofs.Common.{true, false}
use Rattle.host_ports.proofs.host_parts.HostParts.close_all.Given as goal

abbrev pub invariant-loop-id : goal.invariant-loop-id
invariant-loop-id l = record {
  moves : Moves (closing_all (take l.id-index l.closed)) l.initial.self l.self;
  narrows : Narrows l.initial.self l.self;
  gone : (id : ℕ) → is_among id (take l.id-index l.closed) ≡ true → is_named id l.self ≡ false;
}
