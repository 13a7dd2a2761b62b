use Rattle.agwpe_client.proofs.Common.{◌≡◌, flat_map, range_with_len, spelling, data_message, piece_at}
use Rattle.agwpe_client.proofs.messages.text_octets.Given as goal

-- the messages of the pieces so far
abbrev pub invariant-loop-place : goal.invariant-loop-place
invariant-loop-place l = l.octets.items
    ≡ flat_map (λ k. spelling (data_message l.own l.remote (piece_at l.text k))) (range_with_len 0 l.place)
