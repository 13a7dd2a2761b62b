use Rattle.tnc_ports.proofs.Common.{ap, ◌∙◌, ℕ, length, refl, ring_len}
use Rattle.tnc_ports.proofs.Common.{◌≡◌, Candidate, List, Turning}
use Rattle.host_ports.specs.declared.health.Health.{Health}
use Rattle.host_ports.specs.Health.{with_heard}
use Rattle.host_ports.proofs.ResultLemmas.{on_err}
use Rattle.tnc_ports.proofs.LiveSteps.{hears_counted, hears_same, hears_some_same}
use Rattle.tnc_ports.proofs.LiveTurn.{all_made, counted_in, cut_reading, cut_hearing, cut_ticking}
use Rattle.tnc_ports.proofs.turning.Turning.make.Goals as goal

-- with other counts
abbrev counted : Turning → Health → Turning
counted turning health = record turning { meter = record turning.meter { health = health } }

counted_so : (a before : Turning) (health : Health) (count : ℕ) (items : List Candidate)
    → health ≡ with_heard count a.meter.health → count ≡ length items → a.meter ≡ before.meter
    → (counted a health).meter ≡ counted_in (length items) before.meter
counted_so a before health count items is so same =
    ap (λ (h : Health). record a.meter { health = h }) (is ∙ ap (λ (n : ℕ). with_heard n a.meter.health) so)
    ∙ ap (counted_in (length items)) same

pub returns-in_err-heard-clause-cut : goal.returns-in_err-heard-clause-cut
returns-in_err-heard-clause-cut g c = λ from live stands key.
    on_err c.from_residual.result _
    (λ told. cut_reading from c.args.self.now c.read.new.self (ring_len c.args.ring.now) c.read.new.receiver live _ _ _ _
    _ key (c.in_err-heard.ensures.cut live stands) c.in_err-heard.ensures.unwritten.1 c.in_err-heard.ensures.rest.0
    c.in_err-heard.ensures.rest.3
    (ap g.E.Sink.told c.in_err-heard.ensures.unwritten.0) stands.measures
    c.in_err-heard.ensures.rest.4)

pub returns-in_err-hear_all-clause-cut : goal.returns-in_err-hear_all-clause-cut
returns-in_err-hear_all-clause-cut g c = λ from live stands key.
    on_err c.from_residual-in_err-hear_all.result _
    (λ told. cut_hearing from c.in_ok-heard.heard.ended c.in_ok-heard.heard.least c.in_ok-heard.heard.items.items
    c.args.self.now c.read.new.self c.hear_all.new.self (ring_len c.args.ring.now) c.read.new.receiver live _ _
    (g.E.Sink.told c.read.new.report) _ _ _ key
    (c.in_ok-heard.ensures.reads live stands)
    (λ hosts keeps. hears_some_same c.deref.result.now c.in_ok-heard.heard.items.items c.read.new.self
    c.hear_all.new.self hosts _ _ c.deref.ensures.value (c.in_err-hear_all.ensures.cut hosts keeps))
    c.in_ok-heard.ensures.rest.0 c.in_err-hear_all.ensures.rest.0 c.in_ok-heard.ensures.rest.3
    c.in_err-hear_all.ensures.rest.2 stands.measures c.in_ok-heard.ensures.rest.4 c.in_err-hear_all.ensures.rest.3)

pub returns-in_err-tick_up_to-clause-cut : goal.returns-in_err-tick_up_to-clause-cut
returns-in_err-tick_up_to-clause-cut g c = λ from live stands key.
    on_err c.from_residual-in_err-tick_up_to.result _
    (λ told. cut_ticking from c.in_ok-heard.heard.ended c.busy.result c.in_ok-heard.heard.least
    c.in_ok-heard.heard.items.items
    c.args.self.now c.read.new.self (counted c.hear_all.new.self c.hear.new.self) c.turn_key.new.self
    c.tick_up_to.new.self
    (ring_len c.args.ring.now) c.args.receiver.now c.read.new.receiver live _ _ _
    (g.E.Sink.told c.read.new.report)
    (g.E.Sink.told c.hear_all.new.report)
    (g.E.Sink.told c.turn_key.new.report) _ _ _ _ _
    stands key (c.in_ok-heard.ensures.reads live stands)
    (λ hosts keeps. hears_counted c.in_ok-heard.heard.items.items c.read.new.self c.hear_all.new.self
    (counted c.hear_all.new.self c.hear.new.self) hosts _ _ refl refl
    (hears_same c.deref.result.now c.in_ok-heard.heard.items.items c.read.new.self c.hear_all.new.self
    hosts _ _ c.deref.ensures.value (c.in_ok-hear_all.ensures.heard hosts keeps)))
    (λ live. c.turn_key.ensures.turned from live)
    (λ live. c.in_err-tick_up_to.ensures.cut from live) c.busy.ensures
    (c.in_ok-heard.ensures.detection ∙ c.requires.detection)
    c.in_ok-heard.ensures.rest.0 c.in_ok-hear_all.ensures.rest.0 c.turn_key.ensures.rest.0
    c.in_ok-heard.ensures.rest.3 c.in_ok-hear_all.ensures.rest.2
    c.in_ok-heard.ensures.rest.2 c.in_ok-hear_all.ensures.rest.1 c.turn_key.ensures.rest.1
    c.in_ok-heard.ensures.rest.4
    (counted_so c.hear_all.new.self c.read.new.self c.hear.new.self _ c.in_ok-heard.heard.items.items
    c.hear.ensures (c.len.ensures ∙ c.in_ok-heard.heard.items.ok.0) c.in_ok-hear_all.ensures.rest.3)
    c.turn_key.ensures.rest.3)

pub returns-clause-made : goal.returns-clause-made
returns-clause-made g c = λ from live stands key.
    all_made from c.in_ok-heard.heard.ended c.busy.result c.in_ok-heard.heard.least c.in_ok-heard.heard.items.items
    c.args.self.now c.read.new.self (counted c.hear_all.new.self c.hear.new.self) c.turn_key.new.self
    c.tick_up_to.new.self
    (ring_len c.args.ring.now) c.args.receiver.now c.read.new.receiver live _ _ _
    (g.E.Sink.told c.read.new.report)
    (g.E.Sink.told c.hear_all.new.report)
    (g.E.Sink.told c.turn_key.new.report) _ _ _ _
    stands key (c.in_ok-heard.ensures.reads live stands)
    (λ hosts keeps. hears_counted c.in_ok-heard.heard.items.items c.read.new.self c.hear_all.new.self
    (counted c.hear_all.new.self c.hear.new.self) hosts _ _ refl refl
    (hears_same c.deref.result.now c.in_ok-heard.heard.items.items c.read.new.self c.hear_all.new.self
    hosts _ _ c.deref.ensures.value (c.in_ok-hear_all.ensures.heard hosts keeps)))
    (λ live. c.turn_key.ensures.turned from live)
    (λ live. c.in_ok-tick_up_to.ensures.ticked from live) c.busy.ensures
    (c.in_ok-heard.ensures.detection ∙ c.requires.detection)
    c.in_ok-heard.ensures.rest.0 c.in_ok-hear_all.ensures.rest.0 c.turn_key.ensures.rest.0
    c.in_ok-heard.ensures.rest.3 c.in_ok-hear_all.ensures.rest.2
    c.in_ok-heard.ensures.rest.2 c.in_ok-hear_all.ensures.rest.1 c.turn_key.ensures.rest.1
    c.in_ok-heard.ensures.rest.4
    (counted_so c.hear_all.new.self c.read.new.self c.hear.new.self _ c.in_ok-heard.heard.items.items
    c.hear.ensures (c.len.ensures ∙ c.in_ok-heard.heard.items.ok.0) c.in_ok-hear_all.ensures.rest.3)
    c.turn_key.ensures.rest.3
