use Rattle.key_port.specs.KeyLines.{LineTold}
use Rattle.tnc_ports.proofs.Common.{refl, false, [], ap, subst, sym, ◌∙◌, IsLooped, Outside, from_of, new_live, reader_ring}
use Rattle.tnc_ports.proofs.Common.{ring_len}
use Rattle.tnc_ports.specs.declared.meter.Meter.{Meter}
use Rattle.tnc_ports.specs.HeldMeter.{IsFreshSound, answers_with}
use Rattle.tnc_ports.specs.SampledRun.{outside_by}
use Rattle.tnc_ports.proofs.KeyReleases.{looped, released_by}
use Rattle.tnc_ports.proofs.LiveLoop.{first_written, first_line}
use Rattle.tnc_ports.proofs.LiveServe.{first_stands, fresh_answers, nothing_looped}
use Rattle.tnc_ports.proofs.looping.station_loop.Goals as goal

pub returns-in_default-clause-looped : goal.returns-in_default-clause-looped
returns-in_default-clause-looped g c =
    let words = c.args.words.now in
    let line : LineTold = g.K.KeyPort.told c.release_key.new.key in
    let start : Outside = outside_by g.N.Ports.told g.K.KeyPort.told g.O.Sink.told g.E.Sink.told c.args.ports.now
    c.args.key.now c.args.output.now c.args.report.now in
    nothing_looped words _ start line (fresh_answers c.args.ring.now (ring_len c.args.ring.now) c.args.receiver.now c.args.sound.now _
    c.requires.fresh.new c.requires.sound)
    (released_by (from_of start) words.key c.key_of-side.result c.release_key.new.side false (new_live words)
    start.output start.report start.line line c.key_of-side.ensures
    (first_written words words.key false start) (first_line start words.key words)
    (c.release_key.ensures words.key _ [] c.key_of-side.ensures))

pub run-end-requires-clause-stands : goal.run-end-requires-clause-stands
run-end-requires-clause-stands g c = λ κs within.
    first_stands c.args.words.now _ (ring_len c.args.ring.now) c.args.receiver.now c.in-Ok.ensures.stands_for
    refl refl c.new-2.ensures c.new-3.ensures
    (subst (IsFreshSound c.args.ring.now) (sym c.take.ensures.value ∙ c.in-Some.is) c.requires.sound).1 c.requires.fresh.listening c.requires.fresh.new c.requires.fresh.hears

pub run-end-requires-clause-readers : goal.run-end-requires-clause-readers
run-end-requires-clause-readers g c = λ κs within. c.requires.fresh.readers

pub run-end-requires-clause-detection : goal.run-end-requires-clause-detection
run-end-requires-clause-detection g c = λ κs within. c.requires.fresh.detection

pub run-end-requires-clause-key : goal.run-end-requires-clause-key
run-end-requires-clause-key g c = λ κs within. c.key_of-side.ensures

pub run-end-requires-clause-meter : goal.run-end-requires-clause-meter
run-end-requires-clause-meter g c = λ κs within.
    (subst (IsFreshSound c.args.ring.now) (sym c.take.ensures.value ∙ c.in-Some.is) c.requires.sound).0

pub returns-clause-sound : goal.returns-clause-sound
returns-clause-sound g c =
    ap (λ (meter : Meter). reader_ring meter.reader) c.release.ensures.meter ∙ c.run-end.ensures.meter

pub returns-clause-looped : goal.returns-clause-looped
returns-clause-looped g c =
    let words = c.args.words.now in
    subst (λ (meter : Meter). IsLooped words c.run-end.result
    (answers_with (ring_len c.args.ring.now) c.run-end.new.receiver meter.reader)
    (outside_by g.N.Ports.told g.K.KeyPort.told g.O.Sink.told g.E.Sink.told
    c.args.ports.now c.args.key.now c.args.output.now c.args.report.now)
    (outside_by g.N.Ports.told g.K.KeyPort.told g.O.Sink.told g.E.Sink.told
    c.run-end.new.ports c.release.new.key c.run-end.new.output c.run-end.new.report)) (sym c.release.ensures.meter)
    (looped _ _ _ words c.run-end.new.turning (λ live key. c.release.ensures.released _ live _ key) c.run-end.result _
    c.run-end.ensures.run)
