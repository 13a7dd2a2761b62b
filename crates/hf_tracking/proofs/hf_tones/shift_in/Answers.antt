use Rattle.hf_tracking.proofs.Common.{◌≡◌, ◌∙◌, ◌∷◌, ◌++◌, [], ℤ, List, length, set, drop, ap, sym, arith, rules, to_z-of_z}
use Rattle.hf_tracking.proofs.Common.{w16, length-set}
use Rattle.std.proofs.Common.{take, length-drop}
use Rattle.std.proofs.lemmas.List.{take_all, take_more_set}
use Rattle.std.proofs.lemmas.List.Edits.{take-paste}
use Rattle.std.specs.List.{copy_within}
use Rattle.hf_tracking.proofs.hf_tones.shift_in.Goals as goal

-- the last 31 moved to the front, and a new one after them
slid : (samples moved : List ℤ) (sample : ℤ) → length samples ≡ 32 → length moved ≡ length samples
    → moved ≡ copy_within samples 1 32 0 → set moved 31 sample ≡ drop 1 samples ++ sample ∷ []
slid samples moved sample whole same is =
    let size = length-set moved 31 sample in
    let rest : length (drop 1 samples) ≡ 31 = omega (arith, length-drop 1 samples) in
    sym (take_all 32 (set moved 31 sample) (omega arith))
    ∙ take_more_set moved 31 sample (omega arith)
    ∙ ap (λ w. take 31 w ++ sample ∷ []) is
    ∙ ap (λ w. w ++ sample ∷ []) (take-paste samples 0 (drop 1 samples) 31 (omega arith) (omega arith))
    ∙ ap (λ w. w ++ sample ∷ []) (take_all 31 (drop 1 samples) (omega arith))

pub returns : goal.returns
returns c =
    let whole : length c.args.samples.now ≡ 32 = search rules in
    ap (λ z. set c.copy_within.new.self 31 z) (to_z-of_z w16 c.args.sample c.ranges.sample)
    ∙ slid c.args.samples.now c.copy_within.new.self c.args.sample whole c.copy_within.ensures.len
    c.copy_within.ensures.after
