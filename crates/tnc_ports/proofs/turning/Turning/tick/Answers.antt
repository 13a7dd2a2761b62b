use Rattle.key_port.specs.KeySides.{reports_in}
use Rattle.tnc_ports.proofs.Common.{◌++◌, ap, refl, sym, subst, ◌∙◌, ◌+◌, StandsFor, report_text}
use Rattle.tnc_ports.proofs.Common.{Bool, Puts, key_line, map, output_octets, ring_len}
use Rattle.sound_rate.specs.declared.outgoing.Outgoing.{Outgoing}
use Rattle.sound_rate.specs.HeldRates.{HasMade}
use Rattle.tnc_ports.specs.SampledHeld.{KeyStands}
use Rattle.tnc_ports.specs.declared.meter.Meter.{Meter}
use Rattle.tnc_ports.proofs.LiveMeter.{tick_read, tick_told}
use Rattle.host_ports.proofs.ResultLemmas.{on_err}
use Rattle.tnc_ports.proofs.LiveSteps.{AreTakenLines}
use Rattle.tnc_ports.proofs.LiveTicks.{ticks_once}
use Rattle.tnc_ports.proofs.turning.Turning.tick.Goals as goal

pub returns-clause-ticked : goal.returns-clause-ticked
returns-clause-ticked g c = λ from live keeps at measures key.
    let same_words = c.key_written-lost.ensures.rest.0 ∙ c.key_tick-keyed.ensures.rest.0 in
    let same_hosts = c.key_written-lost.ensures.rest.2 ∙ c.key_tick-keyed.ensures.rest.2 in
    let same_meter = c.key_written-lost.ensures.rest.4
    ∙ ap (λ (m : Meter). record m { out = c.put_samples.new.out }) c.key_tick-keyed.ensures.rest.4 in
    let rate = c.args.self.now.words.rate in
    let read = tick_read (ring_len c.args.ring.now) c.args.tick rate c.args.self.now.meter c.read_to.new.self
    c.key_written-lost.new.self.meter live measures at (ap (λ (m : Meter). m.reader) same_meter) c.read_to.ensures.read in
    let same_out = ap (λ (m : Meter). m.out) c.key_tick-keyed.ensures.rest.4 ∙ c.read_to.ensures.out in
    let gone = c.put_samples.ensures.put rate live.samples
    (subst (λ (held : Outgoing). HasMade rate held live.samples) (sym same_out) measures.made) in
    let out : Puts c.args.self.now.failed c.put_samples.new.failed (output_octets gone.1)
    (g.O.Sink.told c.args.output.now)
    (g.O.Sink.told c.put_samples.new.sink) =
    subst (λ (b : Bool). Puts b c.put_samples.new.failed (output_octets gone.1)
    (g.O.Sink.told c.args.output.now)
    (g.O.Sink.told c.put_samples.new.sink)) c.key_tick-keyed.ensures.rest.3 gone.3 in
    let last : Puts c.put_reports.new.failed c.put_reports-2.new.failed
    (report_text (map key_line (reports_in c.key_written-lost.result)))
    (g.E.Sink.told c.put_reports.new.report)
    (g.E.Sink.told c.put_reports-2.new.report) =
    subst (λ (b : Bool). Puts b c.put_reports-2.new.failed
    (report_text (map key_line (reports_in c.key_written-lost.result)))
    (g.E.Sink.told c.put_reports.new.report)
    (g.E.Sink.told c.put_reports-2.new.report)) c.key_written-lost.ensures.rest.3
    c.put_reports-2.ensures in
    ticks_once from (ring_len c.args.ring.now) c.args.busy c.is_busy-held.result c.in_ok-air.air c.args.self.now _ c.tick.new.self live
    c.in_ok-shown.shown.items c.take_lines-lines.result.items (reports_in c.key_tick-keyed.result)
    (reports_in c.key_written-lost.result) c.key_tick-keyed.new.self.key c.key_written-lost.new.self.key
    c.put_samples.new.failed c.put.new.failed c.put_reports.new.failed c.put_reports-2.new.failed gone.1 _ _ _ _ _ _ _ _ _ _ _ _
    c.tell_health-notes.result _ _ read keeps key (c.is_busy-held.ensures live.keyed key.stands) c.in_ok-air.ensures.step
    (subst (λ held. AreTakenLines c.tick.new.self held c.take_lines-lines.result.items) (sym same_hosts)
    c.take_lines-lines.ensures.taken)
    (λ hosts printed stands. c.in_ok-shown.ensures hosts printed
    (subst (λ held. StandsFor held printed hosts) same_hosts stands))
    (c.deref-3.ensures.value ∙ c.in_ok-text.ensures ∙ ap (λ x. report_text (x ++ c.deref-2.result.now))
    c.deref.ensures.value
    ∙ ap (λ x. report_text (c.in_ok-shown.shown.items ++ x)) c.deref-2.ensures.value)
    gone.2
    (subst (λ (held : Outgoing). HasMade rate held (live.samples ++ c.in_ok-air.air.samples))
    (sym (ap (λ (m : Meter). m.out) c.key_written-lost.ensures.rest.4)) gone.0)
    c.key_tick-keyed.ensures.told
    (λ none. let still = c.key_tick-keyed.ensures.none none in
    (still.0, ap g.K.KeyPort.told still.1, still.2))
    (λ words octets keyed is stands. c.key_written-lost.ensures.told words octets keyed
    (ap (λ w. w.key) c.key_tick-keyed.ensures.rest.0 ∙ is)
    (subst (λ w. KeyStands w.key c.key_tick-keyed.new.self.key keyed) (sym c.key_tick-keyed.ensures.rest.0) stands))
    (λ none. let still = c.key_written-lost.ensures.none none in
    (still.0, ap g.K.KeyPort.told still.1, still.2))
    out c.put.ensures c.put_reports.ensures last
    (c.deref-4.ensures.value ∙ c.in_ok-told.ensures) c.put-2.ensures
    (λ hosts printed stands.
    let told = c.tell_health-notes.ensures hosts printed
    (subst (λ held. StandsFor held printed hosts) same_hosts stands) in
    tick_told c.args.self.now.words c.args.busy c.is_some.result read.reads c.in_ok-air.air c.args.tick
    c.args.self.now.meter.health c.read_to.new.self.health _ live hosts c.tell_health-notes.result measures.health
    read.counted at c.is_some.ensures
    (told.0, ap (λ (m : Meter). m.health) same_meter ∙ told.1))
    same_words refl (ap (λ n. n + 1) at) c.put_samples.ensures.size

pub returns-in_err-air-clause-measured : goal.returns-in_err-air-clause-measured
returns-in_err-air-clause-measured g c =
    on_err c.from_residual.result _ (c.read_to.ensures.read.0, c.read_to.ensures.read.2)
