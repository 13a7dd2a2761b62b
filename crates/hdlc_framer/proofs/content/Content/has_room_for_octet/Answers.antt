use Rattle.hdlc_framer.proofs.Common.{◌≡◌, ◌≤◌, ◌<◌, ◌+◌, ◌*◌, ℕ, Bool, true, not, eqb, length, ap, sym, ◌∙◌, arith, inl, inr}
use Rattle.hdlc_framer.proofs.Common.{cases_eq, eq-eqb, false≢true}
use Rattle.hdlc_framer.proofs.BitLemmas.{length-packed}
use Rattle.hdlc_framer.proofs.content.Content.has_room_for_octet.Goals as goal

room : (count filled size : ℕ) (full : Bool) → count ≤ 1026 → filled < 8 → size ≡ 8 * count + filled
    → full ≡ eqb count 1026 → not full ≡ true → size + 8 ≤ 8215
room count filled size full most few e is_full free = elim (cases_eq count 1026) [
  | inl equal ↦ absurd (false≢true (sym (ap not (is_full ∙ eq-eqb count 1026 equal)) ∙ free))
  | inr other ↦ omega arith
]

pub returns : goal.returns
returns c = λ free.
    let s = c.self.inside in
    room (length s.octets.items) s.filled (length c.args.self.now) c.is_full.result c.self.invariant.room
    c.self.invariant.below_octet
    (sym (ap length c.self.view_is) ∙ length-packed s.octets.items s.filled s.part) c.is_full.ensures.value free
