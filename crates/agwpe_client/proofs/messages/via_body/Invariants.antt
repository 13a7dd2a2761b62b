use Rattle.agwpe_client.proofs.Common.{◌≡◌, ◌+◌, ◌*◌, ◌∷◌, length, take, flat_map, call_field}
use Rattle.agwpe_client.proofs.messages.via_body.Given as goal

-- the count, and the fields of the repeaters so far
abbrev pub invariant-loop-call : goal.invariant-loop-call
invariant-loop-call l = record {
  body : l.body.items ≡ length l.via ∷ flat_map call_field (take l.call-index l.via);
  size : length l.body.items ≡ 1 + 10 * l.call-index;
}
