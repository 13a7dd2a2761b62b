use Rattle.std.proofs.lemmas.List.Filters.{dedup_is}
use Rattle.std.proofs.lemmas.List.Sorted.{IsPermutation-sym}
use Rattle.std.proofs.lemmas.Map.Keys.{IsStrictlyIncreasing-dedup}
use Rattle.host_ports.proofs.PauseLemmas.{are_paused}
use Rattle.host_ports.proofs.host_parts.HostParts.paused.Goals as goal

pub returns : goal.returns
returns c = record {
  paused = λ printed hosts h.
      are_paused c.in_ok-ids.ids.items c.sort.new.self.items c.dedup.new.self.items hosts
      (c.in_ok-ids.ensures.waiting printed hosts h)
      c.in_ok-sort.ensures.permutation (IsPermutation-sym _ _ c.in_ok-sort.ensures.permutation)
      (IsStrictlyIncreasing-dedup c.sort.new.self.items c.in_ok-sort.ensures.sorted)
      (dedup_is _ _ _ c.dedup.ensures.filtered);
}
