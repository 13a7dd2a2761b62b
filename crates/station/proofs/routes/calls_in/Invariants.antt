use Rattle.station.proofs.Common.{◌≡◌, ◌*◌, ◌-◌, length, drop, calls_in}
use Rattle.station.proofs.RouteLemmas.{before_rest}
use Rattle.station.proofs.routes.calls_in.Given as goal

-- the calls so far, and those of the rest
abbrev pub invariant-loop-k : goal.invariant-loop-k
invariant-loop-k l = record {
  calls : calls_in l.count l.octets ≡ before_rest l.calls.items (calls_in (l.count - l.k) (drop (10 * l.k) l.octets));
  few : length l.calls.items ≡ l.k;
}
