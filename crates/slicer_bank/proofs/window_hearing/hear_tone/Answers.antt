use Rattle.slicer_bank.proofs.Common.{◌≡◌, ℕ, List, Bool, Tone, [], ◌∷◌, ◌++◌, ◌∙◌, sym, true≢false, bits_of}
use Rattle.slicer_bank.proofs.Common.{EndsFrame, LaneStandsFor, subst}
use Rattle.std.proofs.lemmas.Result.{on_ok_weaker}
use Rattle.hdlc_framer.specs.Frames.{IsFrame}
use Rattle.hdlc_framer.specs.Held.{HoldsFrame}
use Rattle.slicer_bank.specs.Heard.{Adds, candidate_at}
use Rattle.slicer_bank.proofs.HeardLemmas.{adds_nothing, adds_one}
use Rattle.slicer_bank.proofs.window_hearing.hear_tone.Goals as goal

pub returns-then-not-push-clause-found : goal.returns-then-not-push-clause-found
returns-then-not-push-clause-found c = λ tones h.
    adds_nothing c.args.offset c.args.end _ c.args.found.now.items
    (λ o ends. true≢false (sym (c.push.ensures.frame tones o h ends).0 ∙ c.if-not-push.true))

pub returns-clause-found : goal.returns-clause-found
returns-clause-found c =
    let IsAdded : Type 0 = (octets : List ℕ)
    × (c.add_frame.new.found.items ≡ c.args.found.now.items ++ candidate_at c.args.end c.args.offset octets ∷ [])
    × ((other : List ℕ) → IsFrame other → HoldsFrame c.push.new.self.deframer other → octets ≡ other) in
    let so : IsAdded → (tones : List Tone) → LaneStandsFor c.args.lane.now tones
    → Adds c.args.offset c.args.end (bits_of (tones ++ c.args.tone ∷ [])) c.args.found.now.items
    c.add_frame.new.found.items
    = λ added tones h.
    let bits : List Bool = bits_of (tones ++ c.args.tone ∷ []) in
    let heard = c.push.ensures.heard tones h c.if-not-push.false in
    let unique : (o : List ℕ) → EndsFrame bits o → added.0 ≡ o
    = λ o ends. added.2 o ends.2 (c.push.ensures.frame tones o h ends).1 in
    adds_one c.args.offset c.args.end bits c.args.found.now.items c.add_frame.new.found.items added.0 added.1
    (subst (EndsFrame bits) (sym (unique heard.0 heard.1)) heard.1) unique in
    on_ok_weaker c.add_frame.result so c.add_frame.ensures.found
