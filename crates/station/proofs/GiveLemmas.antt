-- Data of a host, packet by packet.
use Rattle.station.proofs.Common.{◌≡◌, ℕ, suc, ◌+◌, ◌*◌, ◌<◌, ◌≤◌, List, [], ◌∷◌, map, range_with_len, ◌∙◌, ap, arith, map-append}
use Rattle.station.proofs.Common.{map-range_with_len_more, Packet, giving_packet, giving_packets, Turn, in_order}
use Rattle.station.specs.AgwRequests.{packet_at}
use Rattle.station.proofs.TurnLemmas.{in_order-append}
use Rattle.std.specs.Int.{div_ceil}
use Rattle.std.proofs.Math.Nat.{mul-le-mul_right, suc-mul}
use Rattle.std.proofs.lemmas.Grind.{div_ceil_times}

-- the first packets of octets
abbrev pub first_packets : ℕ → ℕ → List ℕ → ℕ → List Packet
first_packets len pid octets count = map (packet_at len pid octets) (range_with_len 0 count)

-- one packet more
pub packets-more : (len key pid : ℕ) (octets : List ℕ) (k : ℕ) (turn : Turn)
    → giving_packets key (first_packets len pid octets (k + 1)) turn
    ≡ giving_packet key (packet_at len pid octets k) (giving_packets key (first_packets len pid octets k) turn)
packets-more len key pid octets k turn =
    ap (λ packets. giving_packets key packets turn) (map-range_with_len_more (packet_at len pid octets) 0 k k (omega arith))
    ∙ ap (λ acts. in_order acts turn) (map-append (giving_packet key) (first_packets len pid octets k)
    (packet_at len pid octets k ∷ []))
    ∙ in_order-append (map (giving_packet key) (first_packets len pid octets k))
    (giving_packet key (packet_at len pid octets k) ∷ []) turn

-- each packet begins within the octets
pub begins_within : (octets len place : ℕ) → 1 ≤ len → place < div_ceil octets len → place * len < octets
begins_within octets len place some less =
    let most = (div_ceil_times octets len (omega arith)).1 in
    let next : (place + 1) * len ≤ div_ceil octets len * len = mul-le-mul_right len (omega arith) in
    let after : place + 1 ≡ suc place = omega arith in
    let one : (place + 1) * len ≡ place * len + len = ap (λ n. n * len) after ∙ suc-mul place len in
    omega (arith, most, next, one)
