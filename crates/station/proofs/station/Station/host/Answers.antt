use Rattle.station.proofs.Common.{◌≡◌, true, false, sym, ◌∙◌, ap, subst, Held, JoinsAnew, AreParts, StandsFor}
use Rattle.station.proofs.Common.{IsLive, Out, begin}
use Rattle.station.specs.Held.{ids_after, ids_of}
use Rattle.station.specs.Host.{IsHostTurn}
use Rattle.station.proofs.HostLemmas.{admitted_anew}
use Rattle.station.proofs.station.Station.host.Goals as goal

pub host-requires : goal.host-requires
host-requires c = subst (λ (held : Held). JoinsAnew c.args.event held.parts) (sym c.self.view_is)
    (admitted_anew c.args.event c.args.self.now c.requires)

pub returns-clause-step : goal.returns-clause-step
returns-clause-step c = λ s h.
    let held : AreParts c.self.inside.parts s =
    (subst (λ (held : Held). StandsFor held s) (sym c.self.view_is) h).parts in
    let p = c.in_ok-host.ensures.step (begin s) (record { holds = held; gave = c.new-out.ensures }) in (
      p.0.now,
      subst (λ (out : Out). IsHostTurn c.args.event (begin s) (record { now = p.0.now; out = out }))
          (sym p.2.gave) p.1,
      record { live = c.settle.ensures; parts = p.2.holds },
    )

pub returns-clause-ids : goal.returns-clause-ids
returns-clause-ids c =
    c.in_ok-host.ensures.ids (ap (λ (out : Out). out.closed) c.new-out.ensures)
    ∙ ap (λ (held : Held). ids_after c.args.event c.host.new.out.closed (ids_of held)) c.self.view_is

pub invariant_of-self : goal.invariant_of-self
invariant_of-self c = λ live.
    let clash : true ≡ false = sym c.in_err-host.ensures.wanted ∙ live in absurd (cc)

pub invariant_of-self-2 : goal.invariant_of-self-2
invariant_of-self-2 c = λ live.
    let old = c.self.invariant (sym c.has_refused.ensures ∙ c.if-has_refused.false) in
    let p = c.in_ok-host.ensures.step (begin old.0) (record { holds = old.1.parts; gave = c.new-out.ensures }) in
    (p.0.now, record { live = c.settle.ensures; parts = p.2.holds })

pub returns-clause-stood : goal.returns-clause-stood
returns-clause-stood c = subst IsLive c.self.view_is c.self.invariant
