use Rattle.fx25_blocks.proofs.Common.{◌≡◌, ℕ, ◌*◌, ◌/◌, ◌<◌, ◌≤◌, List, ap, subst, sym, ◌∙◌, inl, inr, arith, cases_eq}
use Rattle.fx25_blocks.proofs.Common.{check_count}
use Rattle.fx25_blocks.specs.UnknownOctets.{CarriesWithUnknown, ReadsFrame}
use Rattle.fx25_blocks.proofs.unknown_octets.block_with_unknown.Goals as goal

pub loop-eighths-preserved : goal.loop-eighths-preserved
loop-eighths-preserved c = λ fewer below frame over carries.
    let tag = c.args.tag in
    let k = c.loop-eighths.eighths in
    elim (cases_eq fewer k) [
      | inl here ↦
          let count : fewer * (check_count tag / 8) ≡ k * (c.check_count.result / 8) =
          ap (λ n. n * (check_count tag / 8)) here ∙ ap (λ n. k * (n / 8)) (sym c.check_count.ensures.value) in
          let P : ℕ → Type 0 = λ n. CarriesWithUnknown tag n c.args.octets.now c.args.certainty.now frame over in
          c.in_default.ensures.none frame over (subst P count carries)
      | inr other ↦ c.loop-eighths.invariant fewer (omega arith) frame over carries
    ]

pub returns-in-Some-clause-frame : goal.returns-in-Some-clause-frame
returns-in-Some-clause-frame c =
    let tag = c.args.tag in
    let k = c.loop-eighths.eighths in
    let found = c.in-Some.found in
    let P : ℕ → Type 0 =
    λ n. CarriesWithUnknown tag n c.args.octets.now c.args.certainty.now found.octets.items found.over in
    record {
      eighths = k;
      most = omega arith;
      carries = subst P (ap (λ n. k * (n / 8)) c.check_count.ensures.value) c.in-Some.ensures.frame;
      is_first = c.loop-eighths.invariant;
    }

pub returns-clause-none : goal.returns-clause-none
returns-clause-none c = λ frame over reads.
    c.loop-eighths.invariant reads.eighths (omega (arith, reads.most)) frame over reads.carries
