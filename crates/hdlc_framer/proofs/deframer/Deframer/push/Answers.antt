use Rattle.hdlc_framer.proofs.Common.{◌≡◌, Bool, true, false, ◌++◌, ◌∷◌, [], ap, subst, sym, ◌∙◌, StandsFor, HoldsFrame}
use Rattle.hdlc_framer.proofs.Common.{Held, Line, line_of, next_line, HeldCarrier, next_carrier, LineEvent}
use Rattle.std.proofs.lemmas.Bool.{both_ways}
use Rattle.hdlc_framer.proofs.DeframerLemmas.{stands_next, stands_framed, event_is, frame_held, frame_comes}
use Rattle.hdlc_framer.proofs.DeframerLemmas.{frame_by_test, test_by_frame}
use Rattle.hdlc_framer.proofs.deframer.Deframer.push.Goals as goal

-- a deframer of these parts
abbrev held_of : Line → Bool → HeldCarrier → Held
held_of line framed carrier = record { line = line; framed = framed; carrier = carrier }

pub returns-then-eq-clause-stands_for : goal.returns-then-eq-clause-stands_for
returns-then-eq-clause-stands_for c = λ b stands.
    let same = c.self.view_is ∙ c.settle.ensures in
    let line : c.self.inside.line ≡ line_of c.args.self.now = ap (λ (held : Held). held.line) same in
    let carrier : c.push.new.self ≡ next_carrier c.args.self.now.carrier c.event-event.result =
    c.push.ensures ∙ ap (λ (held : Held). next_carrier held.carrier c.event-event.result) same in
    let told : LineEvent (line_of c.args.self.now) c.args.bit c.event-event.result =
    subst (λ l. LineEvent l c.args.bit c.event-event.result) line c.event-event.ensures in
    subst (λ l. StandsFor (held_of l true c.push.new.self) (b ++ c.args.bit ∷ [])) (sym line)
    (subst (λ k. StandsFor (held_of (line_of c.args.self.now) true k) (b ++ c.args.bit ∷ [])) (sym carrier)
    (stands_framed c.args.self.now b c.args.bit c.event-event.result
    (frame_by_test c.event-event.result (sym c.eq.ensures ∙ c.if-eq.true)) stands told))

pub returns-else-eq-clause-stands_for : goal.returns-else-eq-clause-stands_for
returns-else-eq-clause-stands_for c = λ b stands.
    let same = c.self.view_is ∙ c.settle.ensures in
    let line : c.self.inside.line ≡ line_of c.args.self.now = ap (λ (held : Held). held.line) same in
    let framed : c.self.inside.framed ≡ false = ap (λ (held : Held). held.framed) same in
    let carrier : c.push.new.self ≡ next_carrier c.args.self.now.carrier c.event-event.result =
    c.push.ensures ∙ ap (λ (held : Held). next_carrier held.carrier c.event-event.result) same in
    let told : LineEvent (line_of c.args.self.now) c.args.bit c.event-event.result =
    subst (λ l. LineEvent l c.args.bit c.event-event.result) line c.event-event.ensures in
    let next = ap (λ l. next_line l c.args.bit) line in
    subst (λ l. StandsFor (held_of l c.self.inside.framed c.push.new.self) (b ++ c.args.bit ∷ []))
    (sym (c.next.ensures ∙ next))
    (subst (λ f. StandsFor (held_of (next_line (line_of c.args.self.now) c.args.bit) f c.push.new.self)
    (b ++ c.args.bit ∷ [])) (sym framed)
    (subst (λ k. StandsFor (held_of (next_line (line_of c.args.self.now) c.args.bit) false k) (b ++ c.args.bit ∷ []))
    (sym carrier)
    (stands_next c.args.self.now b c.args.bit c.event-event.result stands told)))

pub returns-then-eq-clause-event : goal.returns-then-eq-clause-event
returns-then-eq-clause-event c = λ b stands.
    let line : c.self.inside.line ≡ line_of c.args.self.now =
    ap (λ (held : Held). held.line) (c.self.view_is ∙ c.settle.ensures) in
    event_is c.args.self.now b c.args.bit c.event-event.result stands
    (subst (λ l. LineEvent l c.args.bit c.event-event.result) line c.event-event.ensures)

pub returns-else-eq-clause-event : goal.returns-else-eq-clause-event
returns-else-eq-clause-event c = λ b stands.
    let line : c.self.inside.line ≡ line_of c.args.self.now =
    ap (λ (held : Held). held.line) (c.self.view_is ∙ c.settle.ensures) in
    event_is c.args.self.now b c.args.bit c.event-event.result stands
    (subst (λ l. LineEvent l c.args.bit c.event-event.result) line c.event-event.ensures)

pub returns-then-eq-clause-frame : goal.returns-then-eq-clause-frame
returns-then-eq-clause-frame c = λ b octets stands ends.
    let line : c.self.inside.line ≡ line_of c.args.self.now =
    ap (λ (held : Held). held.line) (c.self.view_is ∙ c.settle.ensures) in
    subst (λ l. HoldsFrame (held_of l true c.push.new.self) octets) (sym line)
    (frame_held c.args.self.now b c.args.bit octets stands ends c.push.new.self)

pub returns-else-eq-clause-frame : goal.returns-else-eq-clause-frame
returns-else-eq-clause-frame c = λ b octets stands ends.
    let line : c.self.inside.line ≡ line_of c.args.self.now =
    ap (λ (held : Held). held.line) (c.self.view_is ∙ c.settle.ensures) in
    let told : LineEvent (line_of c.args.self.now) c.args.bit c.event-event.result =
    subst (λ l. LineEvent l c.args.bit c.event-event.result) line c.event-event.ensures in
    absurd (both_ways c.eq.result c.if-eq.false (c.eq.ensures
    ∙ test_by_frame c.event-event.result
    (frame_comes c.args.self.now b c.args.bit octets c.event-event.result stands ends told)))
