use Rattle.station.proofs.Common.{◌≡◌, true, false, sym, ◌∙◌, subst, Held, AreParts, StandsFor, IsLive, Out}
use Rattle.station.proofs.Common.{begin}
use Rattle.station.specs.Ticks.{IsTick}
use Rattle.station.proofs.station.Station.tick.Goals as goal

pub returns-clause-air : goal.returns-clause-air
returns-clause-air c = λ s h.
    let held : AreParts c.self.inside.parts s =
    (subst (λ (held : Held). StandsFor held s) (sym c.self.view_is) h).parts in
    c.in_ok-air.ensures.air (begin s) (record { holds = held; gave = c.new-out.ensures })

pub returns-clause-step : goal.returns-clause-step
returns-clause-step c = λ s h.
    let held : AreParts c.self.inside.parts s =
    (subst (λ (held : Held). StandsFor held s) (sym c.self.view_is) h).parts in
    let p = c.in_ok-air.ensures.step (begin s) (record { holds = held; gave = c.new-out.ensures }) in (
      p.0.now,
      subst (λ (out : Out). IsTick c.args.busy (begin s) (record { now = p.0.now; out = out })) (sym p.2.gave)
          p.1,
      record { live = c.settle.ensures; parts = p.2.holds },
    )

pub invariant_of-self : goal.invariant_of-self
invariant_of-self c = λ live.
    let clash : true ≡ false = sym c.in_err-air.ensures.wanted ∙ live in absurd (cc)

pub invariant_of-self-2 : goal.invariant_of-self-2
invariant_of-self-2 c = λ live.
    let old = c.self.invariant (sym c.has_refused.ensures ∙ c.if-has_refused.false) in
    let p = c.in_ok-air.ensures.step (begin old.0) (record { holds = old.1.parts; gave = c.new-out.ensures }) in
    (p.0.now, record { live = c.settle.ensures; parts = p.2.holds })

pub returns-clause-stood : goal.returns-clause-stood
returns-clause-stood c = subst IsLive c.self.view_is c.self.invariant
