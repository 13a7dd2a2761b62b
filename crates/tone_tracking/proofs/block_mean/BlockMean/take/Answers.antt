use Rattle.tone_tracking.proofs.Common.{◌≡◌, ◌≤◌, ◌+◌, ◌-◌, ◌∙◌, ℤ, List, get_or, length, sym, subst, ap, arith, All, unsigned_abs}
use Rattle.tone_tracking.proofs.Common.{rules, FitsSigned, to_z-of_z, w32}
use Rattle.std.proofs.Common.{◌++◌, drop, take, length-append}
use Rattle.std.proofs.Math.Seq.{take-append_seam}
use Rattle.tone_tracking.specs.HeldLine.{Settles}
use Rattle.tone_tracking.specs.HeldMean.{HeldMean}
use Rattle.tone_tracking.proofs.LevelLemmas.{first_small, first_sum, last_sum, last_are, block_settled}
use Rattle.tone_tracking.proofs.block_mean.BlockMean.take.Goals as goal

pub slide-sum-requires-clause-small : goal.slide-sum-requires-clause-small
slide-sum-requires-clause-small c =
    let s = c.self.inside in
    let piece : List ℤ = c.args.piece.now in
    let are : c.extend_from_slice-2.new.self.items ≡ s.recent ++ piece = c.in_ok-extend_from_slice-2.ensures.items
    ∙ ap (λ l. l ++ piece) (c.in_ok-extend_from_slice.ensures.items ∙ ap (λ l. l ++ s.recent) c.clear.ensures.items) in
    first_small s.recent piece c.deref.result.now c.self.told (c.deref.ensures.value ∙ are) c.self.invariant.small

pub slide-sum-requires-clause-sum : goal.slide-sum-requires-clause-sum
slide-sum-requires-clause-sum c =
    let s = c.self.inside in
    let piece : List ℤ = c.args.piece.now in
    let are : c.extend_from_slice-2.new.self.items ≡ s.recent ++ piece = c.in_ok-extend_from_slice-2.ensures.items
    ∙ ap (λ l. l ++ piece) (c.in_ok-extend_from_slice.ensures.items ∙ ap (λ l. l ++ s.recent) c.clear.ensures.items) in
    let fits : FitsSigned w32 s.sum = search rules in
    to_z-of_z w32 s.sum fits
    ∙ first_sum s.recent piece c.deref.result.now c.self.told (c.deref.ensures.value ∙ are) s.sum c.self.invariant

pub invariant_of-self-2 : goal.invariant_of-self-2
invariant_of-self-2 c =
    let s = c.self.inside in
    let piece : List ℤ = c.args.piece.now in
    let are : c.extend_from_slice-2.new.self.items ≡ s.recent ++ piece = c.in_ok-extend_from_slice-2.ensures.items
    ∙ ap (λ l. l ++ piece) (c.in_ok-extend_from_slice.ensures.items ∙ ap (λ l. l ++ s.recent) c.clear.ensures.items) in
    let same : c.deref-3.result.now ≡ c.deref-2.result.now = c.deref-3.ensures.value ∙ sym c.deref-2.ensures.value in
    let fits : FitsSigned w32 c.write_levels-self-inside.result = search rules in
    let size = ap length (c.deref-2.ensures.value ∙ are) in
    let both = length-append s.recent piece in
    let kept : length s.recent ≡ 32 = c.self.told in
    last_sum c.deref-2.result.now c.last_samples-self-inside.result _
    (c.last_samples-self-inside.ensures ∙ ap (λ l. drop (length l - 32) l) same) (omega arith)
    c.write_levels-self-inside.ensures.samples
    (to_z-of_z w32 c.write_levels-self-inside.result fits ∙ c.write_levels-self-inside.ensures.sum)

pub returns-clause-small : goal.returns-clause-small
returns-clause-small c =
    let made : List ℤ = c.write_levels-self-inside.new.levels in
    let full : c.resize.new.self.len ≡ length made = sym (c.write_levels-self-inside.auto.levels ∙ c.as_mut_slice.ensures.len) in
    let back : take c.resize.new.self.len (made ++ drop (length made) c.resize.new.self.items) ≡ made
    = ap (λ n. take n (made ++ drop (length made) c.resize.new.self.items)) full
    ∙ take-append_seam made (drop (length made) c.resize.new.self.items) in
    subst (All (λ level. unsigned_abs level ≤ 262144)) (sym back) c.write_levels-self-inside.ensures.small

pub returns-clause-settled : goal.returns-clause-settled
returns-clause-settled c =
    let s = c.self.inside in
    let piece : List ℤ = c.args.piece.now in
    let are : c.extend_from_slice-2.new.self.items ≡ s.recent ++ piece = c.in_ok-extend_from_slice-2.ensures.items
    ∙ ap (λ l. l ++ piece) (c.in_ok-extend_from_slice.ensures.items ∙ ap (λ l. l ++ s.recent) c.clear.ensures.items) in
    let levels : List ℤ = c.args.levels.now.items in
    let made : List ℤ = c.write_levels-self-inside.new.levels in
    let full : c.resize.new.self.len ≡ length made = sym (c.write_levels-self-inside.auto.levels ∙ c.as_mut_slice.ensures.len) in
    let longer : List ℤ = take c.resize.new.self.len (made ++ drop (length made) c.resize.new.self.items) in
    let back : longer ≡ made = ap (λ n. take n (made ++ drop (length made) c.resize.new.self.items)) full
    ∙ take-append_seam made (drop (length made) c.resize.new.self.items) in
    let silent = c.min-silent.result in
    let now : HeldMean = record { samples = c.last_samples-self-inside.result; left = s.left - silent } in
    let P : HeldMean → Type 0 = λ old. Settles old now levels longer piece in
    subst P c.self.view_is (λ x h.
    let left = h.left in
    let least = c.min-silent.ensures in
    let from = c.from.ensures in
    let long = c.args.levels.now.ok.0 in
    let kept = c.write_levels-self-inside.auto.levels in
    let known : c.len-known.result ≡ length levels = c.len-known.ensures ∙ long in
    let new : c.resize.new.self.len ≡ c.len-known.result + (length piece - silent) = c.in_ok-resize.ensures.len in
    let as_many : length piece - silent ≡ length piece - s.left = omega arith in
    let settled = block_settled x piece s.recent c.deref-2.result.now h.samples (c.deref-2.ensures.value ∙ are)
    levels made s.left silent left as_many (omega arith) (omega arith)
    (λ i d inside. c.write_levels-self-inside.ensures.same i d (omega arith) ∙ ap (λ l. get_or l i d) c.as_mut_slice.ensures.value
    ∙ c.in_ok-resize.ensures.by_index.0 i d (omega arith) (omega arith))
    (λ i d inside. ap (λ n. get_or made (n + i) d) (sym known) ∙ c.write_levels-self-inside.ensures.levels i d (omega arith)) in (
      record {
        samples = last_are x piece s.recent c.deref-3.result.now h.samples (c.deref-3.ensures.value ∙ are) _ c.last_samples-self-inside.ensures;
        left = (let size = length-append x piece in omega arith);
      },
      settled.0,
      settled.1,
      back ∙ settled.2,
    ))
