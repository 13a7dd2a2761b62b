use Rattle.station.proofs.Common.{◌≡◌, ℕ, ◌*◌, ◌-◌, List, length, take, drop, ◌∙◌, ap, arith, length-drop, take_all}
use Rattle.station.proofs.Common.{Packet}
use Rattle.std.specs.Prelude.{min}
use Rattle.std.proofs.Math.Nat.{mul_comm}
use Rattle.std.proofs.lemmas.List.{take_min}
use Rattle.station.proofs.giving.packet_at.Goals as goal

-- the first octets of the rest
first_of_rest : (octets : List ℕ) (from most len : ℕ) → len ≡ min (length octets - from) most
    → take len (take (length octets - from) (drop from octets)) ≡ take most (drop from octets)
first_of_rest octets from most len is =
    let size : length (drop from octets) ≡ length octets - from = length-drop from octets in
    let shorter : len ≡ min most (length (drop from octets)) = omega (arith, is, size) in
    ap (take len) (take_all (length octets - from) (drop from octets) (omega (arith, size)))
    ∙ ap (λ n. take n (drop from octets)) shorter
    ∙ take_min most (drop from octets)

pub returns-clause-packet : goal.returns-clause-packet
returns-clause-packet c =
    let octets = c.args.octets.now in
    let most = c.args.len in
    let from = c.args.place * most in
    let least : c.min-count.result ≡ min (length octets - from) most = omega (arith, c.min-count.ensures) in
    let given : c.in_ok-copy.field-0 ≡ take c.min-count.result (take (length octets - from) (drop from octets)) =
    c.in_ok-copy.ensures.copy in
    let made : List ℕ → Packet = λ part. record { pid = c.args.pid; octets = part } in
    ap made (given ∙ first_of_rest octets from most c.min-count.result least
    ∙ ap (λ n. take most (drop n octets)) (mul_comm c.args.place most))
