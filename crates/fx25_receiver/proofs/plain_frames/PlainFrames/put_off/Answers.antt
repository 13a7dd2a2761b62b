use Rattle.fx25_receiver.proofs.Common.{◌≡◌, ◌+◌, ℕ, [], ◌∷◌, ◌++◌, Bool, List, drop, ap, arith, subst}
use Rattle.hdlc_framer.specs.BitOrder.{octet_bits}
use Rattle.hdlc_framer.proofs.LateLemmas.{late_more}
use Rattle.hdlc_framer.specs.Late.{StandsFor}
use Rattle.fx25_receiver.specs.Held.{HeldFrames}
use Rattle.fx25_receiver.proofs.plain_frames.PlainFrames.put_off.Goals as goal

pub returns-clause-stands_for : goal.returns-clause-stands_for
returns-clause-stands_for c =
    let P : HeldFrames → Type 0 = λ old. (b : List Bool) (bit : Bool) (last now : ℕ)
    → octet_bits now ≡ drop 1 (octet_bits last) ++ bit ∷ [] → StandsFor old.deframer last old.waiting b
    → StandsFor c.self.inside.deframer now (c.self.inside.waiting + 1) (b ++ bit ∷ []) in
    subst P c.self.view_is (λ b bit last now shifted s.
    late_more c.self.inside.deframer last now c.self.inside.waiting b bit
    (omega (arith, c.requires, ap (λ (h : HeldFrames). h.waiting) c.self.view_is)) shifted s)
