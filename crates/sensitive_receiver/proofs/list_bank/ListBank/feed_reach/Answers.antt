use Rattle.sensitive_receiver.proofs.Common.{◌+◌, ◌∙◌, List, sym, subst, arith, All, All-nil, Candidate}
use Rattle.sensitive_receiver.proofs.Common.{AreAddedIn, HasRoomFrom, HeldList}
use Rattle.sensitive_receiver.proofs.ListLemmas.{HasFed, fed_none, fed_more}
use Rattle.tone_tracking.specs.declared.place_tones.PlaceTones.{PlaceTones}
use Rattle.sensitive_receiver.proofs.list_bank.ListBank.feed_reach.Goals as goal

-- what stands where there is nothing
abbrev rest : PlaceTones
rest = record { bits = 0 }

pub loop-index-init : goal.loop-index-init
loop-index-init c = record {
  fed = subst (λ items. HasFed c.args.self.now c.args.self.now c.args.line.now items 0) (sym c.new-found.ensures.items)
      (fed_none c.args.self.now c.args.line.now);
  bounds = (let P : Candidate → Type 0 = HasRoomFrom (c.args.self.now.ring.place + 6) in
      subst (All P) (sym c.new-found.ensures.items) (All-nil P));
}

pub loop-index-preserved : goal.loop-index-preserved
loop-index-preserved c =
    let line : List PlaceTones = c.args.line.now in
    let i = c.loop-index.index in
    let before = c.loop-index.invariant in
    let test = c.loop-index-test.true in
    let most = c.loop-index.auto.index-end in
    let place = before.fed.place in
    record {
      fed = fed_more c.args.self.now c.loop-index.self c.take.new.self line c.loop-index.found.items
          c.take.new.found.items i rest c.args.reach c.of.result before.fed (omega arith) c.of.ensures
          (c.requires.reach ∙ sym before.fed.reach) c.take.ensures.place c.take.ensures.reach
          c.in_ok-take.ensures.read c.in_ok-take.ensures.found;
      bounds = c.in_ok-take.ensures.bounds (c.args.self.now.ring.place + 6) (omega arith) before.bounds;
    }

pub returns : goal.returns
returns c =
    let fed = c.loop-index.invariant.fed in
    let past = c.loop-index-test.false in
    let most = c.loop-index.auto.index-end in
    let place = fed.place in
    let was : HeldList = c.args.self.now in
    let now : HeldList = c.loop-index.self in
    record {
      reads = record {
        place = omega arith;
        list = fed.reach;
        read = fed.read;
        found = λ x are start.
            let adds = fed.found x are start in
            subst (AreAddedIn was.ring.reach was.ring.place now.ring.place x) (sym adds.found) adds.are;
        bounds = c.loop-index.invariant.bounds;
      };
    }
