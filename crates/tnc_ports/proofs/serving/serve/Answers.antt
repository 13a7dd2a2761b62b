use Rattle.tnc_ports.proofs.Common.{All, arith, false, ◌≡◌, refl, subst, sym, ring_id, ring_len, reader_ring, readers_in}
use Rattle.tnc_ports.specs.HeldMeter.{answers_if}
use Rattle.std.proofs.lemmas.List.Elements.{All-same, All-take, All-weaker}
use Rattle.sample_ring.specs.Ends.{IsNew}
use Rattle.tnc_ports.proofs.LiveServe.{fresh_last, has_opened, no_ring, no_thread, all_served}
use Rattle.tnc_ports.proofs.serving.serve.Goals as goal

pub returns-in_default-clause-served : goal.returns-in_default-clause-served
returns-in_default-clause-served g c =
    no_ring c.args.words _ _ _
    (has_opened c.args.words _ _ c.listen.result c.is_err.result c.is_err.ensures.value c.if-is_err.false
    c.listen.ensures.opened (record {
      polls = c.listen.ensures.polls;
      sends = c.listen.ensures.sends;
      sent_to = c.listen.ensures.sent;
      is_shut = c.listen.ensures.shut;
      faults = c.listen.ensures.later;
      line = refl;
      output = refl;
      report = refl;
    }))

pub returns-in_default-new-clause-served : goal.returns-in_default-new-clause-served
returns-in_default-new-clause-served g c =
    no_ring c.args.words _ _ _
    (has_opened c.args.words _ _ c.listen.result c.is_err.result c.is_err.ensures.value c.if-is_err.false
    c.listen.ensures.opened (record {
      polls = c.listen.ensures.polls;
      sends = c.listen.ensures.sends;
      sent_to = c.listen.ensures.sent;
      is_shut = c.listen.ensures.shut;
      faults = c.listen.ensures.later;
      line = refl;
      output = refl;
      report = refl;
    }))

pub new-requires-2-clause-fresh : goal.new-requires-2-clause-fresh
new-requires-2-clause-fresh g c =
    subst (All IsNew) (sym c.pop-sound.ensures.rest)
    (All-take IsNew _ c.in-Ok.readers.items
    (All-weaker (λ reader. (reader_ring reader ≡ ring_id c.in-Ok.ring) × IsNew reader) IsNew (λ reader both. both.1)
    c.in-Ok.readers.items c.in-Ok.ensures.readers.1))

pub run_beside-requires-clause-fresh : goal.run_beside-requires-clause-fresh
run_beside-requires-clause-fresh g c = λ κs within. record {
  readers = All-same (λ reader. reader_ring reader ≡ ring_id c.in-Ok.ring) (readers_in c.in-Ok-new.receiver)
      c.pop-sound.new.self.items c.in-Ok-new.ensures.readers
      (subst (All (λ reader. reader_ring reader ≡ ring_id c.in-Ok.ring)) (sym c.pop-sound.ensures.rest)
      (All-take (λ reader. reader_ring reader ≡ ring_id c.in-Ok.ring) _ c.in-Ok.readers.items
      (All-weaker (λ reader. (reader_ring reader ≡ ring_id c.in-Ok.ring) × IsNew reader)
      (λ reader. reader_ring reader ≡ ring_id c.in-Ok.ring) (λ reader both. both.0) c.in-Ok.readers.items
      c.in-Ok.ensures.readers.1)));
  new = c.in-Ok-new.ensures.nothing (ring_len c.in-Ok.ring);
  hears = c.in-Ok-new.ensures.hears (ring_len c.in-Ok.ring);
  detection = c.in-Ok-new.ensures.detection;
  listening = c.in-Ok-new.ensures.listening;
}

pub run_beside-requires-clause-sound : goal.run_beside-requires-clause-sound
run_beside-requires-clause-sound g c = λ κs within.
    let many = c.in-Ok.readers.ok.0 in
    let all = c.in-Ok.ensures.readers.0 in
    fresh_last c.in-Ok.ring c.in-Ok.readers.items c.pop-sound.new.self.items c.pop-sound.result
    (c.pop-sound.ensures.variant.1 (omega (arith, many, all))) c.pop-sound.ensures.items c.in-Ok.ensures.readers.1

pub returns-in_default-with_capacity-clause-served : goal.returns-in_default-with_capacity-clause-served
returns-in_default-with_capacity-clause-served g c =
    no_ring c.args.words _ _ _
    (has_opened c.args.words _ _ c.listen.result c.is_err.result c.is_err.ensures.value c.if-is_err.false
    c.listen.ensures.opened (record {
      polls = c.listen.ensures.polls;
      sends = c.listen.ensures.sends;
      sent_to = c.listen.ensures.sent;
      is_shut = c.listen.ensures.shut;
      faults = c.listen.ensures.later;
      line = refl;
      output = refl;
      report = refl;
    }))

pub returns-in_default-run_beside-clause-served : goal.returns-in_default-run_beside-clause-served
returns-in_default-run_beside-clause-served g c =
    no_thread c.args.words c.run_beside.new.end
    (answers_if (ring_len c.in-Ok.ring) c.run_beside.new.receiver c.run_beside.new.sound) false
    _ _ _ _ _
    (has_opened c.args.words _ _ c.listen.result c.is_err.result c.is_err.ensures.value c.if-is_err.false
    c.listen.ensures.opened (record {
      polls = c.listen.ensures.polls;
      sends = c.listen.ensures.sends;
      sent_to = c.listen.ensures.sent;
      is_shut = c.listen.ensures.shut;
      faults = c.listen.ensures.later;
      line = refl;
      output = refl;
      report = refl;
    }))
    refl (c.in_default-run_beside.ensures.unread refl) c.in_default-run_beside.ensures.looped

pub returns-clause-served : goal.returns-clause-served
returns-clause-served g c =
    all_served c.args.words c.run_beside.new.end c.close.result (ring_len c.in-Ok.ring)
    c.run_beside.new.receiver c.run_beside.new.sound _ _ _ _ _
    (has_opened c.args.words _ _ c.listen.result c.is_err.result c.is_err.ensures.value c.if-is_err.false
    c.listen.ensures.opened (record {
      polls = c.listen.ensures.polls;
      sends = c.listen.ensures.sends;
      sent_to = c.listen.ensures.sent;
      is_shut = c.listen.ensures.shut;
      faults = c.listen.ensures.later;
      line = refl;
      output = refl;
      report = refl;
    }))
    c.in-Some.ensures.looped (c.close.ensures.closed _ _ _ c.in-Some.ensures.pumped) c.in-Ok.ensures.len
