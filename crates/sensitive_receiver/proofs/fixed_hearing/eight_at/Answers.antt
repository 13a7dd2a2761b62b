use Rattle.sensitive_receiver.proofs.Common.{◌+◌, ◌*◌, ◌∙◌, List, refl, get_or, set, ap, sym, arith, inl, inr, cases_eq}
use Rattle.sensitive_receiver.proofs.Common.{Far, Tone}
use Rattle.std.proofs.Common.{get_or-set_same, get_or-set_other}
use Rattle.std.proofs.lemmas.List.{get_or_default, length-set}
use Rattle.tone_tracking.specs.declared.place_tones.PlaceTones.{PlaceTones}
use Rattle.tone_tracking.specs.Slots.{tone_of}
use Rattle.sensitive_receiver.proofs.fixed_hearing.eight_at.Goals as goal

pub loop-k-init : goal.loop-k-init
loop-k-init c = record { size = refl; are = λ j d e l. absurd (omega arith) }

pub loop-k-preserved : goal.loop-k-preserved
loop-k-preserved c =
    let tones : List Tone = c.loop-k.tones in
    let line : List PlaceTones = c.args.line.now in
    let k = c.loop-k.k in
    let tone = c.of.result in
    let before = c.loop-k.invariant in
    let size = before.size in
    let test = c.loop-k-test.true in
    let inside = c.requires in
    record {
      size = length-set tones k tone ∙ before.size;
      are = λ j d e l. elim (cases_eq j k) [
        | inl same ↦ ap (λ i. get_or (set tones k tone) i d) same ∙ get_or-set_same tones k tone d (omega arith)
            ∙ c.of.ensures ∙ ap (tone_of Far) (get_or_default line (c.args.at + 8 * k) _ e (omega arith))
            ∙ ap (λ i. tone_of Far (get_or line (c.args.at + 8 * i) e)) (sym same)
        | inr other ↦ get_or-set_other tones k j tone d other ∙ before.are j d e (omega arith)
      ];
    }

pub returns-clause-are : goal.returns-clause-are
returns-clause-are c = λ k d e l. let past = c.loop-k-test.false in c.loop-k.invariant.are k d e (omega arith)
