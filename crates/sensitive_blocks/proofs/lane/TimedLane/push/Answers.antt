use Rattle.sensitive_blocks.proofs.Common.{◌≡◌, ◌+◌, ◌%◌, ◌<◌, ℕ, List, [], ◌∷◌, ◌++◌, Bool, true, false, set, sym, subst, ◌∙◌}
use Rattle.sensitive_blocks.proofs.Common.{arith, cases_lt, inl, inr, true≢false, Tone, bits_of, EndsFrame, HeldLane, LaneHasRead}
use Rattle.std.specs.Prelude.{IsTrue, ◌↔◌}
use Rattle.hdlc_framer.specs.Held.{HoldsFrame}
use Rattle.fx25_receiver.specs.Certainty.{certainty}
use Rattle.fx25_receiver.specs.Known.{KnowsNumbers}
use Rattle.sensitive_blocks.proofs.LaneLemmas.{read_more}
use Rattle.sensitive_blocks.proofs.lane.TimedLane.push.Goals as goal

asleep : (told : Bool) (awake : ℕ) → IsTrue told ↔ (0 < awake) → told ≡ false → awake ≡ 0
asleep told awake both is = elim (cases_lt 0 awake) [
  | inl some ↦ absurd (true≢false (sym (both.1 some) ∙ is))
  | inr none ↦ omega arith
]

pub returns-then-is_awake-clause-has_read : goal.returns-then-is_awake-clause-has_read
returns-then-is_awake-clause-has_read c =
    let s = c.self.inside in
    let number = certainty c.args.window.now in
    let now = c.push_sure.new.self in
    let P : HeldLane → Type 0 = λ old. (tones : List Tone) (numbers ends : List ℕ) → LaneHasRead old tones numbers ends
    → LaneHasRead (record { lane = now; ends = set s.ends s.next c.args.end; next = (s.next + 1) % 2048 })
    (tones ++ c.args.tone ∷ []) (numbers ++ number ∷ []) (ends ++ c.args.end ∷ []) in
    subst P c.self.view_is (λ tones numbers ends h.
    read_more s.lane now s.ends s.next c.args.end number c.args.tone tones numbers ends c.push_sure.ensures.stands_for
    (λ n knows. subst (λ z. KnowsNumbers now.reader now.certainties (n ++ z ∷ [])) c.certainty.ensures
    (c.push_sure.ensures.knows n knows)) h)

pub returns-else-is_awake-clause-has_read : goal.returns-else-is_awake-clause-has_read
returns-else-is_awake-clause-has_read c =
    let s = c.self.inside in
    let number = certainty c.args.window.now in
    let now = c.push.new.self in
    let rests = asleep c.is_awake.result s.lane.reader.awake c.is_awake.ensures c.if-is_awake.false in
    let P : HeldLane → Type 0 = λ old. (tones : List Tone) (numbers ends : List ℕ) → LaneHasRead old tones numbers ends
    → LaneHasRead (record { lane = now; ends = set s.ends s.next c.args.end; next = (s.next + 1) % 2048 })
    (tones ++ c.args.tone ∷ []) (numbers ++ number ∷ []) (ends ++ c.args.end ∷ []) in
    subst P c.self.view_is (λ tones numbers ends h.
    read_more s.lane now s.ends s.next c.args.end number c.args.tone tones numbers ends c.push.ensures.stands_for
    (λ n knows. c.push.ensures.knows n number rests knows) h)

pub returns-then-is_awake-clause-frame : goal.returns-then-is_awake-clause-frame
returns-then-is_awake-clause-frame c =
    let P : HeldLane → Type 0 = λ old. (tones : List Tone) (numbers ends octets : List ℕ) → LaneHasRead old tones numbers ends
    → EndsFrame (bits_of (tones ++ c.args.tone ∷ [])) octets
    → (c.push_sure.result ≡ true) × HoldsFrame c.push_sure.new.self.deframer octets in
    subst P c.self.view_is (λ tones numbers ends octets h last. c.push_sure.ensures.frame tones octets h.tones_stand last)

pub returns-else-is_awake-clause-frame : goal.returns-else-is_awake-clause-frame
returns-else-is_awake-clause-frame c =
    let P : HeldLane → Type 0 = λ old. (tones : List Tone) (numbers ends octets : List ℕ) → LaneHasRead old tones numbers ends
    → EndsFrame (bits_of (tones ++ c.args.tone ∷ [])) octets
    → (c.push.result ≡ true) × HoldsFrame c.push.new.self.deframer octets in
    subst P c.self.view_is (λ tones numbers ends octets h last. c.push.ensures.frame tones octets h.tones_stand last)
