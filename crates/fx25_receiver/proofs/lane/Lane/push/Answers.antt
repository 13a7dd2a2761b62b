use Rattle.fx25_receiver.proofs.Common.{◌≡◌, ◌/◌, ℕ, List, Bool, [], ◌∷◌, ◌++◌, true, drop, subst, sym, Tone, bits_of, EndsFrame}
use Rattle.fx25_receiver.proofs.Common.{ap, ◌∙◌, HeldLane, KnowsNumbers, LaneStandsFor}
use Rattle.fx25_receiver.proofs.KnownLemmas.{known_at_rest}
use Rattle.std.proofs.Common.{◌^◌}
use Rattle.hdlc_framer.specs.BitOrder.{octet_bits}
use Rattle.hdlc_framer.specs.Held.{HoldsFrame}
use Rattle.hdlc_framer.specs.Late.{StandsFor as LateStandsFor}
use Rattle.fx25_receiver.specs.Resting.{StandsFor as ReaderStandsFor}
use Rattle.fx25_receiver.proofs.QuietLemmas.{octet_more}
use Rattle.fx25_receiver.proofs.lane.Lane.push.Goals as goal

module _ (c : goal.After-push-2) where
  -- the last eight bits with the next one
  shifted : octet_bits c.last_octet.result ≡ drop 1 (octet_bits c.last_octet-last.result) ++ c.step-bit.result ∷ []
  shifted = ap octet_bits c.last_octet.ensures
      ∙ octet_more c.self.inside.reader.register c.push.new.self.register c.step-bit.result c.push.ensures.register
      ∙ ap (λ n. drop 1 (octet_bits n) ++ c.step-bit.result ∷ []) (sym c.last_octet-last.ensures)

  -- what the frames stood for before it
  stood : (bits : List Bool) → LateStandsFor c.self.inside.plain.deframer (c.self.inside.reader.register / 2 ^ 56)
      c.self.inside.plain.waiting bits
      → LateStandsFor c.self.inside.plain.deframer c.last_octet-last.result c.self.inside.plain.waiting bits
  stood bits = subst (λ n. LateStandsFor c.self.inside.plain.deframer n c.self.inside.plain.waiting bits)
      (sym c.last_octet-last.ensures)

pub returns-clause-stands_for : goal.returns-clause-stands_for
returns-clause-stands_for c =
    let plain = c.push-2.new.self in
    let reader = c.push.new.self in
    let now : HeldLane = record {
      line = c.step-bit.new.self;
      deframer = plain.deframer;
      waiting = plain.waiting;
      reader = reader;
      certainties = c.self.inside.certainties;
    } in
    let P : HeldLane → Type 0 = λ old. (tones : List Tone) → LaneStandsFor old tones
    → LaneStandsFor now (tones ++ c.args.tone ∷ []) in
    subst P c.self.view_is (λ tones h.
    let more : bits_of (tones ++ c.args.tone ∷ []) ≡ bits_of tones ++ c.step-bit.result ∷ [] =
    c.step-bit.ensures.bits tones h.line in
    record {
      line = c.step-bit.ensures.stands_for tones h.line;
      plain = subst (LateStandsFor plain.deframer (reader.register / 2 ^ 56) plain.waiting) (sym more)
          (subst (λ n. LateStandsFor plain.deframer n plain.waiting (bits_of tones ++ c.step-bit.result ∷ []))
          c.last_octet.ensures
          (c.push-2.ensures.stands_for (bits_of tones) c.step-bit.result (shifted c) (stood c (bits_of tones) h.plain)));
      reader = subst (ReaderStandsFor reader) (sym more) (c.push.ensures.stands_for (bits_of tones) h.reader);
    })

pub returns-clause-heard : goal.returns-clause-heard
returns-clause-heard c =
    let P : HeldLane → Type 0 = λ old. (tones : List Tone) → LaneStandsFor old tones → c.push-2.result ≡ true
    → (octets : List ℕ) × EndsFrame (bits_of (tones ++ c.args.tone ∷ [])) octets in
    subst P c.self.view_is (λ tones h e.
    let heard = c.push-2.ensures.heard (bits_of tones) c.step-bit.result (shifted c) (stood c (bits_of tones) h.plain) e in (
      heard.0,
      subst (λ (b : List Bool). EndsFrame b heard.0) (sym (c.step-bit.ensures.bits tones h.line)) heard.1,
    ))

pub returns-clause-frame : goal.returns-clause-frame
returns-clause-frame c =
    let P : HeldLane → Type 0 = λ old. (tones : List Tone) (octets : List ℕ) → LaneStandsFor old tones
    → EndsFrame (bits_of (tones ++ c.args.tone ∷ [])) octets → (c.push-2.result ≡ true)
    × HoldsFrame c.push-2.new.self.deframer octets in
    subst P c.self.view_is (λ tones octets h ends.
    c.push-2.ensures.frame (bits_of tones) c.step-bit.result octets (shifted c) (stood c (bits_of tones) h.plain)
    (subst (λ (b : List Bool). EndsFrame b octets) (c.step-bit.ensures.bits tones h.line) ends))

pub returns-clause-knows : goal.returns-clause-knows
returns-clause-knows c =
    let now = c.push.new.self in
    let P : HeldLane → Type 0 = λ old. (numbers : List ℕ) (number : ℕ) → old.reader.awake ≡ 0
    → KnowsNumbers old.reader old.certainties numbers
    → KnowsNumbers now c.self.inside.certainties (numbers ++ number ∷ []) in
    subst P c.self.view_is (λ numbers number rests known.
    known_at_rest c.self.inside.reader now c.self.inside.certainties numbers (numbers ++ number ∷ []) known
    (c.push.ensures.woken rests))
