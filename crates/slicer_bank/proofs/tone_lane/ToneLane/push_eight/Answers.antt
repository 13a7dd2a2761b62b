use Rattle.slicer_bank.proofs.Common.{◌≡◌, ◌∙◌, ◌+◌, ◌++◌, ℕ, List, Tone, take, ap, sym, subst, true, ◌<◌, bits_of, EndsFrame}
use Rattle.hdlc_framer.specs.BitOrder.{octet_bits}
use Rattle.hdlc_framer.specs.Held.{StandsFor}
use Rattle.slicer_bank.proofs.Common.{HeldToneLane, ToneLaneStandsFor}
use Rattle.tone_table.specs.declared.tone.Tone.TheVariants.{Mark}
use Rattle.nrzi_bits.specs.Line.{bits_from, last_tone}
use Rattle.nrzi_bits.proofs.LineLemmas.{last_from-append}
use Rattle.slicer_bank.proofs.EightLemmas.{bits_begun, bits_more, last_of_eight}
use Rattle.slicer_bank.proofs.tone_lane.ToneLane.push_eight.Goals as goal

-- the bits that the deframer takes
octet_told : (octet : ℕ) (before line : Tone) (tones eight : List Tone) → octet_bits octet ≡ bits_from before eight
    → before ≡ line → line ≡ last_tone tones → octet_bits octet ≡ bits_from (last_tone tones) eight
octet_told octet before line tones eight is same last = is ∙ ap (λ t. bits_from t eight) (same ∙ last)

pub returns-clause-taken : goal.returns-clause-taken
returns-clause-taken c =
    let eight : List Tone = c.args.eight.now in
    let new : HeldToneLane = record { before = c.step.new.self; deframer = c.push_octet.new.self } in
    let P : HeldToneLane → Type 0 = λ old. (tones : List Tone) → ToneLaneStandsFor old tones → true ≡ true
    → ToneLaneStandsFor new (tones ++ eight) in
    subst P c.self.view_is (λ tones h same.
    let told = octet_told c.octet_of-octet.result c.tone.result c.self.inside.line tones eight c.octet_of-octet.ensures
    c.tone.ensures h.before in
    record {
      before = c.step.ensures.tone ∙ sym (last_from-append Mark tones eight
          ∙ last_of_eight (last_tone tones) eight Mark c.told-eight);
      deframer = subst (StandsFor c.push_octet.new.self) (ap (λ b. bits_of tones ++ b) told ∙ sym (bits_more tones eight))
          (c.push_octet.ensures.taken (bits_of tones) h.deframer c.if-not-push_octet.false);
    })

pub returns-clause-quiet : goal.returns-clause-quiet
returns-clause-quiet c =
    let eight : List Tone = c.args.eight.now in
    let P : HeldToneLane → Type 0 = λ old. (tones : List Tone) (k : ℕ) (octets : List ℕ) → ToneLaneStandsFor old tones
    → true ≡ true → k < 8 → ¬ EndsFrame (bits_of (tones ++ take (k + 1) eight)) octets in
    subst P c.self.view_is (λ tones k octets h same below ends.
    let told = octet_told c.octet_of-octet.result c.tone.result c.self.inside.line tones eight c.octet_of-octet.ensures
    c.tone.ensures h.before in
    c.push_octet.ensures.quiet (bits_of tones) k octets h.deframer c.if-not-push_octet.false below
    (subst (λ b. EndsFrame b octets) (bits_begun tones eight (k + 1)
    ∙ ap (λ b. bits_of tones ++ take (k + 1) b) (sym told)) ends))
