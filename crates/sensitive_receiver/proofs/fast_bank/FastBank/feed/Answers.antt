use Rattle.sensitive_receiver.proofs.Common.{◌≡◌, ◌+◌, ◌<◌, ◌≤◌, ℕ, List, sym, subst, arith, All, All-nil, Candidate, HasRoomFrom}
use Rattle.sensitive_receiver.specs.FastLane.{HeldFast}
use Rattle.sensitive_receiver.specs.Found.{AreAddedWhere}
use Rattle.sensitive_receiver.proofs.FastLemmas.{FastHasFed, fast_fed_none, fast_fed_more}
use Rattle.tone_tracking.specs.declared.place_tones.PlaceTones.{PlaceTones}
use Rattle.sensitive_receiver.proofs.fast_bank.FastBank.feed.Goals as goal

-- what stands where there is nothing
abbrev rest : PlaceTones
rest = record { bits = 0 }

pub loop-index-init : goal.loop-index-init
loop-index-init c = record {
  fed = subst (λ items. FastHasFed c.args.self.now c.args.self.now c.args.line.now items 0)
      (sym c.new-found.ensures.items) (fast_fed_none c.args.self.now c.args.line.now);
  bounds = (let P : Candidate → Type 0 = HasRoomFrom (c.args.self.now.ring.place + 6) in
      subst (All P) (sym c.new-found.ensures.items) (All-nil P));
}

pub loop-index-preserved : goal.loop-index-preserved
loop-index-preserved c =
    let line : List PlaceTones = c.args.line.now in
    let i = c.loop-index.index in
    let before = c.loop-index.invariant in
    let test = c.loop-index-test.true in
    let most = c.loop-index.auto.index-end in
    let place = before.fed.place in
    record {
      fed = fast_fed_more c.args.self.now c.loop-index.self c.take.new.self line c.loop-index.found.items
          c.take.new.found.items i rest c.of.result before.fed (omega arith) c.of.ensures
          c.take.ensures.place c.in_ok-take.ensures.read c.in_ok-take.ensures.found;
      bounds = c.in_ok-take.ensures.bounds (c.args.self.now.ring.place + 6) (omega arith) before.bounds;
    }

pub returns : goal.returns
returns c =
    let fed = c.loop-index.invariant.fed in
    let past = c.loop-index-test.false in
    let most = c.loop-index.auto.index-end in
    let place = fed.place in
    let was : HeldFast = c.args.self.now in
    let now : HeldFast = c.loop-index.self in
    record {
      reads = record {
        place = omega arith;
        read = fed.read;
        found = λ x are start.
            let adds = fed.found x are start in
            let Of : ℕ → ℕ → Type 0 = λ p l. ((was.ring.place ≤ p) × (p < now.ring.place)) × (l ≡ 22) in
            subst (AreAddedWhere Of x) (sym adds.found) adds.are;
        bounds = c.loop-index.invariant.bounds;
      };
    }
