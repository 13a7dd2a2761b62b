use Rattle.std.proofs.Common.{List, [], ◌∷◌, ◌++◌, Some, subst}
use Rattle.tone_carrier.specs.declared.heard_window.HeardWindow.{HeardWindow}
use Rattle.tone_carrier.specs.Held.{HeldLane, LaneStandsFor}
use Rattle.tone_carrier.proofs.LaneLemmas.{lane_first, lane_next}
use Rattle.tone_carrier.proofs.carrier_lane.CarrierLane.push.Goals as goal

pub returns-in-None : goal.returns-in-None
returns-in-None c =
    let s = c.self.inside in
    let window = c.args.window.now in
    let P : HeldLane → Type 0 = λ held. (windows : List HeardWindow) → LaneStandsFor held windows
    → LaneStandsFor (record { last = Some window; evidence = s.evidence; hold = s.hold }) (windows ++ window ∷ []) in
    subst P c.self.view_is (λ windows h.
    lane_first (record { last = s.last; evidence = s.evidence; hold = s.hold }) windows window c.in-None.is h)

pub returns-in-Some : goal.returns-in-Some
returns-in-Some c =
    let s = c.self.inside in
    let window = c.args.window.now in
    let e = c.evidence_with-self-inside.result in
    let h = c.hold_with-self-inside.result in
    let P : HeldLane → Type 0 = λ held. (windows : List HeardWindow) → LaneStandsFor held windows
    → LaneStandsFor (record { last = Some window; evidence = e; hold = h }) (windows ++ window ∷ []) in
    subst P c.self.view_is (λ windows stands.
    lane_next (record { last = s.last; evidence = s.evidence; hold = s.hold }) windows c.in-Some.before window e h
    c.in-Some.is c.evidence_with-self-inside.ensures.evidence c.hold_with-self-inside.ensures.hold stands)
