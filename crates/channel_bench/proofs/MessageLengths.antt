-- How many octets a message has.
use Rattle.channel_bench.proofs.Common.{◌≡◌, ◌+◌, [], ◌∷◌, ◌++◌, length, length-append, arith, AgwMessage, spelling}
use Rattle.byteorder.specs.Endian.{little_bytes}
use Rattle.agwpe_port.specs.Messages.{header_of}

pub length-spelling : (m : AgwMessage) → length m.from ≡ 10 → length m.to ≡ 10
    → length (spelling m) ≡ 36 + length m.body
unfolding spelling
length-spelling m from to =
    let size = little_bytes 4 (length m.body) in
    let whole = length-append (header_of m) m.body in
    let first = length-append m.from (m.to ++ (size ++ 0 ∷ 0 ∷ 0 ∷ 0 ∷ [])) in
    let second = length-append m.to (size ++ 0 ∷ 0 ∷ 0 ∷ 0 ∷ []) in
    let third = length-append size (0 ∷ 0 ∷ 0 ∷ 0 ∷ []) in
    omega (arith, whole, first, second, third, from, to)
