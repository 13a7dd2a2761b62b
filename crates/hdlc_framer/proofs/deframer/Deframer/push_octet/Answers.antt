use Rattle.hdlc_framer.proofs.Common.{◌≡◌, ℕ, ◌<◌, Bool, false, true, List, ◌++◌, length, take, ap, subst, sym, ◌∙◌, add-one, refl}
use Rattle.hdlc_framer.proofs.Common.{fold, next_line, octet_bits, Held, HeldCarrier, Line, StandsFor, EndsFrame, line_of}
use Rattle.hdlc_framer.specs.HeldCarrier.{bits_later}
use Rattle.hdlc_framer.specs.OctetSteps.{are_quiet}
use Rattle.hdlc_framer.proofs.BitLemmas.{length-octet_bits}
use Rattle.hdlc_framer.proofs.OctetLemmas.{of_parts, stands_bits, no_frames}
use Rattle.hdlc_framer.proofs.deframer.Deframer.push_octet.Goals as goal

-- what is held once the frame before is settled
settled : (held : Held) (b : List Bool) → StandsFor held b → StandsFor (of_parts (line_of held) held.carrier) b
settled held b stands = record { line = stands.line; carrier = stands.carrier }

-- and after eight bits that end nothing
taken : (held : Held) (b : List Bool) (octet : ℕ) (line now : Line) (carrier later : HeldCarrier) (framed : Bool)
    → StandsFor held b → are_quiet line.ones (octet_bits octet) ≡ true → line ≡ line_of held → framed ≡ false
    → carrier ≡ held.carrier → now ≡ fold next_line line (octet_bits octet) → later ≡ bits_later 8 carrier
    → StandsFor (record { line = now; framed = framed; carrier = later }) (b ++ octet_bits octet)
taken held b octet line now carrier later framed stands quiet line_is framed_is carrier_is now_is later_is =
    let whole = stands_bits (octet_bits octet) (line_of held) held.carrier b
    (subst (λ (l : Line). are_quiet l.ones (octet_bits octet) ≡ true) line_is quiet) (settled held b stands) in
    let eight : bits_later (length (octet_bits octet)) held.carrier ≡ later
    = ap (λ n. bits_later n held.carrier) (length-octet_bits octet) ∙ sym (later_is ∙ ap (bits_later 8) carrier_is) in
    let last : fold next_line (line_of held) (octet_bits octet) ≡ now
    = sym (now_is ∙ ap (λ l. fold next_line l (octet_bits octet)) line_is) in
    subst (λ h. StandsFor h (b ++ octet_bits octet))
    (λ i. record { line = last i; framed = sym framed_is i; carrier = eight i }) whole

pub returns-clause-taken : goal.returns-clause-taken
returns-clause-taken c = λ b stands same.
    let both = c.self.view_is ∙ c.settle.ensures in
    taken c.args.self.now b c.args.octet c.self.inside.line c.take_octet.new.self c.self.inside.carrier
    c.take_octet-2.new.self c.self.inside.framed stands
    (c.if-not-take_octet.ensures.quiet refl)
    (ap (λ (held : Held). held.line) both) (ap (λ (held : Held). held.framed) both)
    (ap (λ (held : Held). held.carrier) both) (c.if-not-take_octet.ensures.taken refl) c.take_octet-2.ensures

pub returns-clause-quiet : goal.returns-clause-quiet
returns-clause-quiet c = λ b k octets stands same below.
    let both = c.self.view_is ∙ c.settle.ensures in
    let line = ap (λ (held : Held). held.line) both in
    let bits : List Bool = octet_bits c.args.octet in
    subst (λ n. ¬ EndsFrame (b ++ take n bits) octets) (sym (add-one k))
    (no_frames bits (line_of c.args.self.now) c.args.self.now.carrier b
    (subst (λ (l : Line). are_quiet l.ones bits ≡ true) line (c.if-not-take_octet.ensures.quiet refl))
    (settled c.args.self.now b stands) k (subst (λ n. k < n) (sym (length-octet_bits c.args.octet)) below) octets)
