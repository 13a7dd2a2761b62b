use Rattle.hf_modem.proofs.Common.{◌+◌, ◌/◌, ◌++◌, ◌∷◌, ℤ, List, [], pos, get_or, take, sym, subst, arith}
use Rattle.hf_modem.proofs.Common.{to_z-of_z, w16, All, All-nil, Candidate, BankStandsFor, AreCandidatesAfter, length}
use Rattle.hf_modem.proofs.Common.{FitsSigned, rules, option_to_list, take_more, take_all}
use Rattle.block_receiver.specs.Hearing.{CanBePutFrom}
use Rattle.hf_modem.proofs.HearingLemmas.{HasHeard, bounds_more, heard_none, heard_more}
use Rattle.hf_modem.proofs.block_hearing.hear_block.Goals as goal

pub loop-sample-init : goal.loop-sample-init
loop-sample-init c =
    let P : Candidate → Type 0 = CanBePutFrom 32 (c.args.bank.now.position / 4) in
    record {
      position = omega arith;
      heard = subst (HasHeard c.args.bank.now c.args.bank.now []) (sym c.new-found.ensures.items) (heard_none c.args.bank.now);
      bounds = subst (All P) (sym c.new-found.ensures.items) (All-nil P);
    }

pub loop-sample-preserved : goal.loop-sample-preserved
loop-sample-preserved c =
    let block : List ℤ = c.args.block.now in
    let i = c.loop-sample.sample-index in
    let sample : ℤ = get_or block i (pos 0) in
    let fits : FitsSigned w16 sample = search rules in
    let inv = c.loop-sample.invariant in
    let place = inv.position in
    let further = c.push.ensures.position in
    let inside = c.loop-sample-test.true in
    let heard = option_to_list c.in_ok-heard.heard in
    let step = subst (λ (z : ℤ). (y : List ℤ) → BankStandsFor c.loop-sample.bank y
    → BankStandsFor c.push.new.self (y ++ z ∷ [])
    × AreCandidatesAfter (length y) (y ++ z ∷ []) heard) (to_z-of_z w16 sample fits) c.in_ok-heard.ensures.heard in
    record {
      position = omega arith;
      heard = heard_more c.args.bank.now c.loop-sample.bank c.push.new.self (take i block) (take (i + 1) block) sample
          c.loop-sample.found.items heard c.keep.new.found.items inv.heard (take_more block i (pos 0) (omega arith))
          c.in_ok-keep.ensures step;
      bounds = bounds_more (c.args.bank.now.position / 4) c.loop-sample.bank.position c.loop-sample.found.items
          c.keep.new.found.items c.in_ok-heard.heard c.in_ok-keep.ensures (omega arith) (omega arith)
          c.in_ok-heard.ensures.place inv.bounds;
    }

pub returns-clause-heard : goal.returns-clause-heard
returns-clause-heard c = λ x h.
    let past = c.loop-sample-test.false in
    let heard = subst (λ (y : List ℤ). HasHeard c.args.bank.now c.loop-sample.bank y c.loop-sample.found.items)
    (take_all c.loop-sample.sample-index c.args.block.now (omega arith)) c.loop-sample.invariant.heard in
    (heard.samples x h, heard.are x h)
