-- A tick of the whole channel.
use Rattle.channel_access.proofs.Common.{◌≡◌, ℕ, ◌≤◌, Bool, true, false, cond, Option, Some, None, is_some, List}
use Rattle.channel_access.proofs.Common.{[], ◌∷◌, refl, ap, ◌∙◌, sym, subst, arith, All, le-max_left}
use Rattle.channel_access.proofs.Common.{Sending, opening_flags, WaitingFrame}
use Rattle.channel_access.proofs.Common.{HasFrameLength, OnAir, bits_then, decided, with_tick, Channel, decision, begun}
use Rattle.channel_access.proofs.Common.{air_samples, air_sent, air_waiting, air_after, air_tick, after_tick, Takes}
use Rattle.channel_access.proofs.Common.{Held, new_sending, run_of, going_on, held_tick, StandsFor, StandsForAir, Goes}
use Rattle.channel_access.specs.Channel.{with_heard}
use Rattle.channel_access.specs.Held.{held_after}
use Rattle.channel_access.specs.HeldTurns.{listening_of}
use Rattle.channel_access.specs.Happenings.{Happening}
use Rattle.channel_access.specs.Happenings.Happening.{Heard, Ticked}
use Rattle.channel_access.specs.Channel.{Decision}
use Rattle.channel_access.specs.HeldTick.{held_samples, held_sent, after_held_send, after_held_tick}
use Rattle.channel_access.proofs.BodyLemmas.{flags-is}
use Rattle.channel_access.proofs.ModemLemmas.{bits_of_ticks-none}
use Rattle.channel_access.proofs.OrderLemmas.{air_takes}
use Rattle.channel_access.proofs.StageLemmas.{now_at}
use Rattle.channel_access.proofs.TickLemmas.{all_waiting}
use Rattle.channel_access.proofs.AirLemmas.{at_end, run_samples, run_sent, run_air}

-- a new transmission
unfoldable pub begins : (channel : Channel)
    → Goes (new_sending channel.modem channel.parameters) channel.waiting (begun channel)
unfolding new_sending
begins channel =
    let opening : ℕ = opening_flags channel.modem channel.parameters.tx_delay in
    let two : 2 ≤ opening = le-max_left 2 _ in
    record {
      sent = [];
      sends = record {
        stands = record {
          some = omega arith;
          bits = sym (flags-is opening);
          frames = refl;
          ends = refl;
          named = refl;
        };
        count = sym (bits_of_ticks-none channel.modem);
        frames = refl;
        closing = refl;
        tone = refl;
        wave = refl;
      };
      left = refl;
    }

-- ---- a tick of what is under way, or of silence

pub record SendsTick (s : Option Sending) (waiting : List WaitingFrame) (air : Option OnAir) (held : Held)
    (channel : Channel)
    : Type 0 where
  pub samples : held_samples s waiting ≡ air_samples waiting air
  pub sent : held_sent s waiting ≡ air_sent waiting air
  pub after : StandsFor (after_held_send s held)
      (record channel { waiting = air_waiting waiting air; air = air_after waiting air })

pub sends_tick : (s : Option Sending) (air : Option OnAir) (channel : Channel)
    → All (λ frame. HasFrameLength frame.octets) channel.waiting → StandsForAir s channel.waiting air
    → SendsTick s channel.waiting air (record {
      modem = channel.modem;
      waiting = channel.waiting;
      parameters = channel.parameters;
      generator = channel.generator;
      slot = channel.slot;
      sending = s;
      listening = listening_of channel.past;
    }) channel
sends_tick None None channel fit h = record {
  samples = refl;
  sent = refl;
  after = record {
    modem = refl;
    waiting = refl;
    parameters = refl;
    generator = refl;
    slot = refl;
    listening = refl;
    lengths = fit;
    air = tt;
  };
}
sends_tick None (Some t) channel fit h = absurd h
sends_tick (Some s) None channel fit h = absurd h
sends_tick (Some s) (Some t) channel fit h =
    let end = at_end s channel.waiting t h fit in
    let P : List WaitingFrame → Type 0 = λ w. StandsForAir (going_on (run_of s channel.waiting).sending) w
    (with_tick (now_at (bits_then t) channel.waiting t)) in
    record {
      samples = run_samples s channel.waiting t h fit;
      sent = run_sent s channel.waiting t h fit;
      after = record {
        modem = refl;
        waiting = end.is_waiting;
        parameters = refl;
        generator = refl;
        slot = refl;
        listening = refl;
        lengths = all_waiting (bits_then t) (decided (bits_then t) channel.waiting t) channel.waiting fit;
        air = subst P end.is_waiting (run_air s channel.waiting t h fit);
      };
    }

-- ---- a tick

-- what is kept of a channel, with its sender
abbrev pub held_of : Channel → Option Sending → Held
held_of channel s = record {
  modem = channel.modem;
  waiting = channel.waiting;
  parameters = channel.parameters;
  generator = channel.generator;
  slot = channel.slot;
  sending = s;
  listening = listening_of channel.past;
}

pub held-is : (held : Held) (channel : Channel) → StandsFor held channel → held ≡ held_of channel held.sending
held-is held channel h =
    ap (λ m. record held { modem = m }) h.modem
    ∙ ap (λ w. record held { modem = channel.modem; waiting = w }) h.waiting
    ∙ ap (λ p. record held { modem = channel.modem; waiting = channel.waiting; parameters = p }) h.parameters
    ∙ ap (λ g. record (held_of channel held.sending) { generator = g; slot = held.slot; listening = held.listening })
    h.generator
    ∙ ap (λ n. record (held_of channel held.sending) { slot = n; listening = held.listening }) h.slot
    ∙ ap (λ l. record (held_of channel held.sending) { listening = l }) h.listening

-- after one thing more has happened
stands_after : (here : Happening) (past : List Happening) (held : Held) (channel : Channel) → StandsFor held channel
    → StandsFor (held_after here past held) (record channel { past = here ∷ past })
stands_after here past held channel h = record {
  modem = h.modem;
  waiting = h.waiting;
  parameters = h.parameters;
  generator = h.generator;
  slot = h.slot;
  listening = refl;
  lengths = h.lengths;
  air = h.air;
}

pub stands_heard : (ours : Bool) (held : Held) (channel : Channel) → StandsFor held channel
    → StandsFor (held_after (Heard ours) channel.past held) (with_heard ours channel)
stands_heard ours held channel h = stands_after (Heard ours) channel.past held channel h

-- a tick of what is kept is the tick of the channel
pub record IsTick (busy wants : Bool) (held : Held) (channel : Channel) : Type 0 where
  pub order : Takes (air_tick busy wants channel).sent channel.waiting (after_tick busy wants channel).waiting
  pub tick : held_tick busy wants channel.past held ≡ air_tick busy wants channel
  pub after : StandsFor (after_held_tick busy wants channel.past held) (after_tick busy wants channel)

-- the decision of a tick at rest, d, channel being the channel with it
rest_tick : (channel : Channel) (d : Decision) (b : Bool) → All (λ frame. HasFrameLength frame.octets) channel.waiting
    → SendsTick (cond b (Some (new_sending channel.modem channel.parameters)) None) channel.waiting
    (cond b (Some (begun channel)) None)
    (record (held_of channel (cond b (Some (new_sending channel.modem channel.parameters)) None))
    { slot = d.slot; generator = d.generator })
    (record channel { slot = d.slot; generator = d.generator; air = cond b (Some (begun channel)) None })
rest_tick channel d true fit =
    sends_tick (Some (new_sending channel.modem channel.parameters)) (Some (begun channel))
    (record channel { slot = d.slot; generator = d.generator; air = Some (begun channel) }) fit (begins channel)
rest_tick channel d false fit =
    sends_tick None None (record channel { slot = d.slot; generator = d.generator; air = None }) fit tt

is_tick : (busy wants : Bool) (channel : Channel) (s : Option Sending) (air : Option OnAir)
    → All (λ frame. HasFrameLength frame.octets) channel.waiting → StandsForAir s channel.waiting air
    → IsTick busy wants (held_of channel s) (record channel { air = air })
is_tick busy wants channel None None fit h =
    let d : Decision = decision busy wants (record channel { air = None }) in
    let now : Option Sending = cond d.begins (Some (new_sending channel.modem channel.parameters)) None in
    let air : Option OnAir = cond d.begins (Some (begun channel)) None in
    let r = rest_tick channel d d.begins fit in
    let same : is_some now ≡ is_some air = both_some d.begins in
    let then : Channel = record channel {
      slot = d.slot;
      generator = d.generator;
      waiting = air_waiting channel.waiting air;
      air = air_after channel.waiting air;
    } in
    record {
      order = rest_takes d.begins;
      tick =
          ap (λ x. record { samples = x; began = is_some now; sent = held_sent now channel.waiting }) r.samples
          ∙ ap (λ x. record {
            samples = air_samples channel.waiting air;
            began = x;
            sent = held_sent now channel.waiting;
          }) same
          ∙ ap (λ x. record { samples = air_samples channel.waiting air; began = is_some air; sent = x }) r.sent;
      after = subst (λ own. StandsFor (after_held_tick busy wants channel.past (held_of channel None))
          (record then { past = Ticked busy own own ∷ channel.past })) same
          (stands_after (Ticked busy (is_some now) (is_some now)) channel.past
          (after_held_send now (record (held_of channel now)
          { slot = d.slot; generator = d.generator })) then r.after);
    }
  where
    rest_takes : (b : Bool)
        → Takes (air_sent channel.waiting (cond b (Some (begun channel)) None)) channel.waiting
        (air_waiting channel.waiting (cond b (Some (begun channel)) None))
    rest_takes true =
        air_takes (Some (new_sending channel.modem channel.parameters)) channel.waiting (Some (begun channel)) (begins channel)
    rest_takes false = refl

    both_some : (b : Bool) → is_some (cond b (Some (new_sending channel.modem channel.parameters)) None)
        ≡ is_some (cond b (Some (begun channel)) None)
    both_some true = refl
    both_some false = refl
is_tick busy wants channel None (Some t) fit h = absurd h
is_tick busy wants channel (Some s) None fit h = absurd h
is_tick busy wants channel (Some s) (Some t) fit h =
    let r = sends_tick (Some s) (Some t) (record channel { air = Some t }) fit h in
    record {
      order = air_takes (Some s) channel.waiting (Some t) h;
      tick =
          ap (λ x. record { samples = x; began = false; sent = held_sent (Some s) channel.waiting }) r.samples
          ∙ ap (λ x. record { samples = air_samples channel.waiting (Some t); began = false; sent = x }) r.sent;
      after = stands_after (Ticked busy false true) channel.past (after_held_send (Some s) (held_of channel (Some s)))
          (record channel {
            waiting = air_waiting channel.waiting (Some t);
            air = air_after channel.waiting (Some t);
          }) r.after;
    }

pub tick_of : (busy wants : Bool) (held : Held) (channel : Channel) → StandsFor held channel
    → IsTick busy wants held channel
tick_of busy wants held channel h =
    let P : Held → Type 0 = λ k. IsTick busy wants k channel in
    subst P (sym (held-is held channel h)) (is_tick busy wants channel held.sending channel.air h.lengths h.air)
