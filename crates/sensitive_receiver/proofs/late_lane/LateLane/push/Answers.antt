use Rattle.sensitive_receiver.proofs.Common.{◌≡◌, ℕ, List, Bool, [], ◌∷◌, ◌++◌, true, subst, sym, Tone, bits_of, EndsFrame}
use Rattle.sensitive_receiver.proofs.Common.{HeldLane, LaneStandsFor}
use Rattle.hdlc_framer.specs.Held.{HoldsFrame}
use Rattle.hdlc_framer.specs.Late.{StandsFor as LateStandsFor}
use Rattle.sensitive_receiver.proofs.late_lane.LateLane.push.Goals as goal

pub returns-clause-stands_for : goal.returns-clause-stands_for
returns-clause-stands_for c =
    let plain = c.push.new.self in
    let now : HeldLane = record {
      line = c.step-bit.new.self;
      deframer = plain.deframer;
      last = plain.last;
      waiting = plain.waiting;
    } in
    let P : HeldLane → Type 0 = λ old. (tones : List Tone) → LaneStandsFor old tones
    → LaneStandsFor now (tones ++ c.args.tone ∷ []) in
    subst P c.self.view_is (λ tones h.
    let more : bits_of (tones ++ c.args.tone ∷ []) ≡ bits_of tones ++ c.step-bit.result ∷ [] =
    c.step-bit.ensures.bits tones h.line in
    record {
      line = c.step-bit.ensures.stands_for tones h.line;
      plain = subst (LateStandsFor plain.deframer plain.last plain.waiting) (sym more)
          (c.push.ensures.stands_for (bits_of tones) h.plain);
    })

pub returns-clause-heard : goal.returns-clause-heard
returns-clause-heard c =
    let P : HeldLane → Type 0 = λ old. (tones : List Tone) → LaneStandsFor old tones → c.push.result ≡ true
    → (octets : List ℕ) × EndsFrame (bits_of (tones ++ c.args.tone ∷ [])) octets in
    subst P c.self.view_is (λ tones h e.
    let heard = c.push.ensures.heard (bits_of tones) h.plain e in (
      heard.0,
      subst (λ (b : List Bool). EndsFrame b heard.0) (sym (c.step-bit.ensures.bits tones h.line)) heard.1,
    ))

pub returns-clause-frame : goal.returns-clause-frame
returns-clause-frame c =
    let P : HeldLane → Type 0 = λ old. (tones : List Tone) (octets : List ℕ) → LaneStandsFor old tones
    → EndsFrame (bits_of (tones ++ c.args.tone ∷ [])) octets → (c.push.result ≡ true)
    × HoldsFrame c.push.new.self.deframer octets in
    subst P c.self.view_is (λ tones octets h ends.
    c.push.ensures.frame (bits_of tones) octets h.plain
    (subst (λ (b : List Bool). EndsFrame b octets) (c.step-bit.ensures.bits tones h.line) ends))
