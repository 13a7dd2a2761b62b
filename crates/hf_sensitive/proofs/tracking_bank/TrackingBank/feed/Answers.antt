use Rattle.hf_sensitive.proofs.Common.{◌∙◌, ◌-◌, ◌/◌, ◌+◌, ◌≤◌, ℤ, pos, List, get_or, refl, arith, to_z-of_z, w16, least_end}
use Rattle.std.proofs.Common.{FitsSigned, rules}
use Rattle.hf_sensitive.proofs.BankLemmas.{HasFed, fed_none, fed_more, stands_all, found_all}
use Rattle.hf_sensitive.proofs.tracking_bank.TrackingBank.feed.Goals as goal

pub loop-sample-init : goal.loop-sample-init
loop-sample-init c = record {
  fed = fed_none c.args.self.now c.args.block.now c.args.found.now.items;
  bounds = λ all. all;
}

pub loop-sample-preserved : goal.loop-sample-preserved
loop-sample-preserved c =
    let block : List ℤ = c.args.block.now in
    let i = c.loop-sample.sample-index in
    let sample : ℤ = get_or block i (pos 0) in
    let fits : FitsSigned w16 sample = search rules in
    record {
      fed = fed_more c.args.self.now c.loop-sample.self c.take.new.self block c.args.found.now.items
          c.loop-sample.found.items c.take.new.found.items i sample c.loop-sample.invariant.fed
          c.loop-sample-test.true refl c.take.ensures.count c.take.ensures.number
          (λ x taken inside is. c.in_ok-take.ensures.has_taken x taken inside (to_z-of_z w16 sample fits ∙ is))
          (λ x taken inside is. c.in_ok-take.ensures.found x taken inside (to_z-of_z w16 sample fits ∙ is));
      bounds = λ all.
          let at = c.loop-sample.invariant.fed.count in
          c.in_ok-take.ensures.bounds (least_end c.args.self.now.tones.count) (omega arith)
          (c.loop-sample.invariant.bounds all);
    }

pub returns-clause-stands_for : goal.returns-clause-stands_for
returns-clause-stands_for c = λ x h.
    let past = c.loop-sample-test.false in
    let most = c.loop-sample.auto.sample-index-end in
    stands_all c.args.self.now c.loop-sample.self c.args.block.now c.args.found.now.items c.loop-sample.found.items
    c.loop-sample.sample-index c.loop-sample.invariant.fed (omega arith) x h

pub returns-clause-found : goal.returns-clause-found
returns-clause-found c = λ x h.
    let past = c.loop-sample-test.false in
    let most = c.loop-sample.auto.sample-index-end in
    found_all c.args.self.now c.loop-sample.self c.args.block.now c.args.found.now.items c.loop-sample.found.items
    c.loop-sample.sample-index c.loop-sample.invariant.fed (omega arith) x h
