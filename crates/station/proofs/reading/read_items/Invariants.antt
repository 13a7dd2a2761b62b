use Rattle.station.proofs.Common.{◌≡◌, ◌++◌, ℕ, List, take, host_items}
use Rattle.kiss_port.specs.HeldHost.{HostStandsFor}
use Rattle.station.proofs.reading.read_items.Given as goal

-- the octets so far are read, and gave these items
abbrev pub invariant-loop-octet : goal.invariant-loop-octet
invariant-loop-octet l = record {
  stands_for : (stream : List ℕ) → HostStandsFor l.fn.reader stream
      → HostStandsFor l.reader (stream ++ take l.octet-index l.octets);
  items : (stream : List ℕ) → HostStandsFor l.fn.reader stream → host_items (stream ++ take l.octet-index l.octets)
      ≡ host_items stream ++ l.items.items;
}
