use Rattle.slicer_bank.proofs.Common.{◌≡◌, ◌+◌, ℤ, rules, refl, sym, subst, to_z, of_z, true≢false, to_z-of_z}
use Rattle.slicer_bank.proofs.Common.{append-nil, w16, Got, Item, Stretch, with_sample, StretchStandsFor}
use Rattle.slicer_bank.specs.StretchLanes.{HearsSample}
use Rattle.slicer_bank.proofs.ring_lane.RingLane.step.Goals as goal

pub returns-in_ok-hear-in-Item-clause-took : goal.returns-in_ok-hear-in-Item-clause-took
returns-in_ok-hear-in-Item-clause-took c =
    let got : Got = Item c.in-Item.at c.in-Item.sample in
    let stored : to_z w16 (of_z w16 c.in-Item.sample) ≡ c.in-Item.sample =
    to_z-of_z w16 c.in-Item.sample (search rules) in
    let read = c.in-Item.ensures.read in
    let heard : HearsSample c.args.self.now.lane c.in-Item.sample (c.in-Item.at + 1)
    c.args.self.now.found.items c.hear.new.found.items
    = subst (λ (z : ℤ). HearsSample c.args.self.now.lane z (c.in-Item.at + 1)
    c.args.self.now.found.items c.hear.new.found.items) stored c.in_ok-hear-in-Item.ensures.found in
    let stands : (s : Stretch) → StretchStandsFor c.args.self.now.lane s
    → StretchStandsFor c.hear.new.lane (with_sample s c.in-Item.sample)
    = subst (λ (z : ℤ). (s : Stretch) → StretchStandsFor c.args.self.now.lane s
    → StretchStandsFor c.hear.new.lane (with_sample s z)) stored c.hear.ensures.stands_for in (
      got,
      refl,
      record {
        entry = read.0;
        is = read.4;
        read = read.3;
        forward = c.in-Item.ensures.forward;
        position = c.in-Item.ensures.moves;
        gaps = sym (append-nil c.args.self.now.gaps.items);
        ended = refl;
        stands = stands;
        octets = heard.octets;
        one = heard.one;
        only = λ e. absurd (true≢false e);
        found = heard.found;
        each = heard.each;
        whole = heard.whole;
      },
    )

pub returns-in-Empty-clause-grown : goal.returns-in-Empty-clause-grown
returns-in-Empty-clause-grown c =
    let read = c.in-Empty.ensures.read in
    (read.0, read.3)

pub returns-in-End-clause-grown : goal.returns-in-End-clause-grown
returns-in-End-clause-grown c =
    let read = c.in-End.ensures.read in
    (read.0, read.3)

pub returns-in_ok-push-in-Gap-clause-grown : goal.returns-in_ok-push-in-Gap-clause-grown
returns-in_ok-push-in-Gap-clause-grown c =
    let read = c.in-Gap.ensures.read in
    (read.0, read.3)

pub returns-in_err-push-in-Gap-clause-grown : goal.returns-in_err-push-in-Gap-clause-grown
returns-in_err-push-in-Gap-clause-grown c =
    let read = c.in-Gap.ensures.read in
    (read.0, read.3)

pub returns-in_ok-hear-in-Item-clause-grown : goal.returns-in_ok-hear-in-Item-clause-grown
returns-in_ok-hear-in-Item-clause-grown c =
    let read = c.in-Item.ensures.read in
    (read.0, read.3)

pub returns-in_err-hear-in-Item-clause-grown : goal.returns-in_err-hear-in-Item-clause-grown
returns-in_err-hear-in-Item-clause-grown c =
    let read = c.in-Item.ensures.read in
    (read.0, read.3)
