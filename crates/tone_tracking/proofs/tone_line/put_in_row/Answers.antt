use Rattle.tone_tracking.proofs.Common.{◌≡◌, ◌+◌, ◌-◌, ◌/◌, ◌%◌, ◌<◌, ◌∙◌, ℕ, List, length, get_or, ap, sym, arith, inl, inr, cases_eq}
use Rattle.std.proofs.lemmas.List.{get_or_default}
use Rattle.tone_tracking.specs.declared.place_tones.PlaceTones.{PlaceTones}
use Rattle.tone_tracking.specs.Slots.{HeldSlot, ahead_of}
use Rattle.tone_tracking.proofs.tone_line.put_in_row.Goals as goal

pub put_slot-requires-clause-tones : goal.put_slot-requires-clause-tones
put_slot-requires-clause-tones c =
    let slots : List HeldSlot = c.args.slots.now in
    let ahead = c.loop-ahead.ahead in
    let test = c.loop-ahead-test.true in
    let size = c.loop-ahead.invariant.size in
    let eight = c.requires.slots in
    let q : ℕ = (c.args.place % 8 + ahead) % 8 in
    let slot : HeldSlot = c.index-slots-first.result in
    let count = c.requires.tones q slot (omega arith) in
    let at : ahead_of c.args.place q ≡ ahead = omega arith in
    ap length c.tones-tones.ensures ∙ ap (λ (s : HeldSlot). length s.tones) c.index-slots-first.is ∙ count
    ∙ ap (λ k. (length c.args.line.now + 7 - k) / 8) at ∙ ap (λ k. (k + 7 - ahead) / 8) (sym size)

pub loop-ahead-preserved : goal.loop-ahead-preserved
loop-ahead-preserved c =
    let slots : List HeldSlot = c.args.slots.now in
    let first : ℕ = c.args.place % 8 in
    let ahead = c.loop-ahead.ahead in
    let before = c.loop-ahead.invariant in
    let test = c.loop-ahead-test.true in
    let put = c.put_slot.ensures in
    let size = put.length in
    let eight = c.requires.slots in
    record {
      size = put.length ∙ before.size;
      row = λ i d e inside done. elim (cases_eq (i % 8) ahead) [
        | inl is ↦ (let q : (first + ahead) % 8 ≡ (first + i) % 8 = omega arith in
            put.put i d (omega arith) is ∙ ap (λ l. get_or l (i / 8) d) (c.tones-tones.ensures
            ∙ ap (λ (s : HeldSlot). s.tones) (c.index-slots-first.is
            ∙ get_or_default slots ((first + ahead) % 8) _ e (omega arith)
            ∙ ap (λ k. get_or slots k e) q)))
        | inr ne ↦ put.kept i d ne ∙ before.row i d e (omega arith) (omega arith)
      ];
    }
