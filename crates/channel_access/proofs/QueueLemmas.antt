-- A new access, a frame that joins the queue after all others, and a parameter that is set: none changes what is under
-- way.
use Rattle.channel_access.proofs.Common.{◌≡◌, ℕ, Bool, true, false, Option, Some, None, List, [], ◌∷◌, ◌++◌, refl, ap}
use Rattle.channel_access.proofs.Common.{All-nil, All-push, HasFrameLength, Sending, Stage, Opening, Frame, Following}
use Rattle.channel_access.proofs.Common.{Closing, Over, WaitingFrame, OnAir, Channel, new_channel_by, with_frame, Modem}
use Rattle.channel_access.proofs.Common.{with_setting, Held, held_with_frame, StandsFor, StandsForAir, Goes, Stands}
use Rattle.channel_access.specs.declared.parameters.Param.{Param}
use Rattle.channel_access.specs.Parameters.{with_param}
use Rattle.channel_access.specs.Held.{new_held, held_with_setting}

-- a sender that has sent these bits
pub record GoesWith (s : Sending) (waiting : List WaitingFrame) (t : OnAir) (sent : List Bool) : Type 0 where
  pub goes : Goes s waiting t
  pub is : goes.sent ≡ sent

pub stands_joined : (stage : Stage) (waiting more : List WaitingFrame) (t : OnAir) (sent : List Bool)
    → Stands stage waiting t sent → Stands stage (waiting ++ more) t sent
stands_joined (Opening left) waiting more t sent h = h
stands_joined (Frame f) [] more t sent h = absurd h
stands_joined (Frame f) (front ∷ others) more t sent h = h
stands_joined (Following left true) [] more t sent h = absurd h
stands_joined (Following left true) (front ∷ []) more t sent h = absurd h
stands_joined (Following left true) (front ∷ next ∷ others) more t sent h = h
stands_joined (Following left false) [] more t sent h = absurd h
stands_joined (Following left false) (front ∷ others) more t sent h = h
stands_joined (Closing left) waiting more t sent h = h
stands_joined Over waiting more t sent h = h

pub goes_joined : (s : Sending) (waiting more : List WaitingFrame) (t : OnAir) (g : Goes s waiting t)
    → GoesWith s (waiting ++ more) t g.sent
goes_joined s waiting more t g = record {
  goes = record {
    sent = g.sent;
    sends = record {
      stands = stands_joined s.stage waiting more t g.sent g.sends.stands;
      count = g.sends.count;
      frames = g.sends.frames;
      closing = g.sends.closing;
      tone = g.sends.tone;
      wave = g.sends.wave;
    };
    left = g.left;
  };
  is = refl;
}

air_joined : (s : Option Sending) (waiting more : List WaitingFrame) (air : Option OnAir) → StandsForAir s waiting air
    → StandsForAir s (waiting ++ more) air
air_joined None waiting more None h = h
air_joined None waiting more (Some t) h = absurd h
air_joined (Some s) waiting more None h = absurd h
air_joined (Some s) waiting more (Some t) h = (goes_joined s waiting more t h).goes

pub stands_queued : (link : Option ℕ) (octets : List ℕ) (held : Held) (channel : Channel) → HasFrameLength octets
    → StandsFor held channel → StandsFor (held_with_frame link octets held) (with_frame link octets channel)
stands_queued link octets held channel fits h =
    let frame : WaitingFrame = record { link = link; octets = octets } in
    record {
      modem = h.modem;
      waiting = ap (λ xs. xs ++ frame ∷ []) h.waiting;
      parameters = h.parameters;
      generator = h.generator;
      slot = h.slot;
      listening = h.listening;
      lengths = All-push (λ (f : WaitingFrame). HasFrameLength f.octets) channel.waiting frame h.lengths fits;
      air = air_joined held.sending channel.waiting (frame ∷ []) channel.air h.air;
    }

-- before any call
pub stands_new : (modem : Modem) (seed : ℕ) → StandsFor (new_held modem seed) (new_channel_by modem seed)
stands_new modem seed = record {
  modem = refl;
  waiting = refl;
  parameters = refl;
  generator = refl;
  slot = refl;
  listening = refl;
  lengths = All-nil (λ (f : WaitingFrame). HasFrameLength f.octets);
  air = tt;
}

pub stands_set : (param : Param) (held : Held) (channel : Channel) → StandsFor held channel
    → StandsFor (held_with_setting param held) (with_setting param channel)
stands_set param held channel h = record {
  modem = h.modem;
  waiting = h.waiting;
  parameters = ap (with_param param) h.parameters;
  generator = h.generator;
  slot = h.slot;
  listening = h.listening;
  lengths = h.lengths;
  air = h.air;
}
