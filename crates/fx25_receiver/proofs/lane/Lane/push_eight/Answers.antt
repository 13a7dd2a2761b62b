use Rattle.fx25_receiver.proofs.Common.{◌≡◌, ◌∙◌, ◌+◌, ◌/◌, ◌++◌, ℕ, List, Bool, Tone, take, ap, sym, subst, true, false}
use Rattle.fx25_receiver.proofs.Common.{bits_of, last_tone, refl, inl, inr, EndsFrame, EndsUnsureBlock}
use Rattle.fx25_receiver.proofs.Common.{HeldLane, LaneStandsFor}
use Rattle.std.proofs.Common.{◌^◌}
use Rattle.tone_table.specs.declared.tone.Tone.TheVariants.{Mark}
use Rattle.nrzi_bits.specs.Line.{bits_from}
use Rattle.nrzi_bits.proofs.LineLemmas.{last_from-append}
use Rattle.slicer_bank.proofs.EightLemmas.{bits_begun, bits_more, last_of_eight}
use Rattle.hdlc_framer.specs.BitOrder.{octet_bits}
use Rattle.hdlc_framer.specs.Held.{Held as HeldDeframer, StandsFor as DeframerStandsFor}
use Rattle.hdlc_framer.specs.Late.{StandsFor as LateStandsFor}
use Rattle.hdlc_framer.proofs.LateLemmas.{late_all}
use Rattle.fx25_receiver.specs.Ahead.{NothingEndsInTones}
use Rattle.fx25_receiver.specs.Resting.{IsLast64, StandsFor as ReaderStandsFor}
use Rattle.fx25_receiver.specs.declared.resting_reader.RestingReader.{RestingReader}
use Rattle.fx25_receiver.proofs.QuietLemmas.{last_octet}
use Rattle.fx25_receiver.proofs.lane.Lane.push_eight.Goals as goal

-- the bits that eight tones give
octet_told : (octet : ℕ) (last line : Tone) (before eight : List Tone) → octet_bits octet ≡ bits_from last eight
    → last ≡ line → line ≡ last_tone before → octet_bits octet ≡ bits_from (last_tone before) eight
octet_told octet last line before eight is same at = is ∙ ap (λ t. bits_from t eight) (same ∙ at)

-- what the deframer and the reader have taken is what the lane has
frames_on : (deframer : HeldDeframer) (waiting register : ℕ) (reader : RestingReader) (bits : List Bool)
    → reader.register ≡ register → (waiting ≡ 0) × DeframerStandsFor deframer bits → IsLast64 register bits
    → LateStandsFor deframer (reader.register / 2 ^ 56) waiting bits
frames_on deframer waiting register reader bits same taken last =
    subst (λ r. LateStandsFor deframer (r / 2 ^ 56) waiting bits) (sym same)
    (subst (λ w. LateStandsFor deframer (register / 2 ^ 56) w bits) (sym taken.0)
    (late_all deframer (register / 2 ^ 56) bits taken.1 (last_octet register bits last)))

pub returns-else-not-push_eight-clause-taken : goal.returns-else-not-push_eight-clause-taken
returns-else-not-push_eight-clause-taken c =
    let eight : List Tone = c.args.tones.now in
    let inside = c.self.inside in
    let plain = c.push_eight.new.self in
    let reader = c.rest_at.new.self in
    let now : HeldLane = record {
      line = c.step.new.self;
      deframer = plain.deframer;
      waiting = plain.waiting;
      reader = reader;
      certainties = inside.certainties;
    } in
    let P : HeldLane → Type 0 = λ old. (before : List Tone) → LaneStandsFor old before → true ≡ true
    → LaneStandsFor now (before ++ eight) in
    subst P c.self.view_is (λ before h same.
    let bits : List Bool = bits_of before in
    let told = octet_told c.octet_of-octet.result c.tone.result inside.line before eight c.octet_of-octet.ensures
    c.tone.ensures h.line in
    let more : bits ++ octet_bits c.octet_of-octet.result ≡ bits_of (before ++ eight) =
    ap (λ b. bits ++ b) told ∙ sym (bits_more before eight) in
    let read = subst (λ r. ReaderStandsFor r (bits ++ octet_bits c.octet_of-octet.result)) (sym c.rest_at.ensures)
    (c.in-Some.ensures.stands_for bits h.reader) in
    let taken = c.push_eight.ensures.taken bits (subst (λ r. IsLast64 r bits) (sym c.register.ensures) h.reader.register_is)
    (subst (λ r. LateStandsFor inside.plain.deframer (r / 2 ^ 56) inside.plain.waiting bits) (sym c.register.ensures) h.plain)
    c.if-not-push_eight.false in
    record {
      line = c.step.ensures.tone ∙ sym (last_from-append Mark before eight
          ∙ last_of_eight (last_tone before) eight Mark c.told-tones);
      plain = subst (LateStandsFor plain.deframer (reader.register / 2 ^ 56) plain.waiting) more
          (frames_on plain.deframer plain.waiting reader.register reader (bits ++ octet_bits c.octet_of-octet.result) refl
          taken read.register_is);
      reader = subst (ReaderStandsFor reader) more read;
    })

pub returns-else-not-push_eight-clause-quiet : goal.returns-else-not-push_eight-clause-quiet
returns-else-not-push_eight-clause-quiet c =
    let eight : List Tone = c.args.tones.now in
    let inside = c.self.inside in
    let P : HeldLane → Type 0 = λ old. (before : List Tone) → LaneStandsFor old before → true ≡ true
    → NothingEndsInTones before eight in
    subst P c.self.view_is (λ before h same k numbers item below ends.
    let bits : List Bool = bits_of before in
    let octet = c.octet_of-octet.result in
    let told = octet_told octet c.tone.result inside.line before eight c.octet_of-octet.ensures c.tone.ensures h.line in
    let begun : bits_of (before ++ take (k + 1) eight) ≡ bits ++ take (k + 1) (octet_bits octet) =
    bits_begun before eight (k + 1) ∙ ap (λ b. bits ++ take (k + 1) b) (sym told) in
    elim ends [
      | inl plain ↦
          c.push_eight.ensures.quiet bits k item.octets
          (subst (λ r. IsLast64 r bits) (sym c.register.ensures) h.reader.register_is)
          (subst (λ r. LateStandsFor inside.plain.deframer (r / 2 ^ 56) inside.plain.waiting bits) (sym c.register.ensures)
          h.plain)
          c.if-not-push_eight.false below (subst (λ b. EndsFrame b item.octets) begun plain.2)
      | inr block ↦
          c.in-Some.ensures.quiet bits h.reader k item.tag numbers item.octets block.0 below
          (subst (λ b. EndsUnsureBlock b numbers item.tag item.octets block.0) begun block.1)
    ])

pub returns-then-not-push_eight-clause-left : goal.returns-then-not-push_eight-clause-left
returns-then-not-push_eight-clause-left c =
    let inside = c.self.inside in
    let plain = c.push_eight.new.self in
    let now : HeldLane = record {
      line = inside.line;
      deframer = plain.deframer;
      waiting = plain.waiting;
      reader = inside.reader;
      certainties = inside.certainties;
    } in
    let P : HeldLane → Type 0 = λ old. (before : List Tone) → LaneStandsFor old before → false ≡ false
    → LaneStandsFor now before in
    subst P c.self.view_is (λ before h same.
    let bits : List Bool = bits_of before in
    record {
      line = h.line;
      plain = subst (λ r. LateStandsFor plain.deframer (r / 2 ^ 56) plain.waiting bits) c.register.ensures
          (c.push_eight.ensures.left bits (subst (λ r. IsLast64 r bits) (sym c.register.ensures) h.reader.register_is)
          (subst (λ r. LateStandsFor inside.plain.deframer (r / 2 ^ 56) inside.plain.waiting bits) (sym c.register.ensures)
          h.plain) c.if-not-push_eight.true);
      reader = h.reader;
    })
