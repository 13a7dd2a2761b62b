-- Whether the channel takes a frame of a link in the next tick.
use Rattle.channel_access.proofs.Common.{◌≡◌, ℕ, ◌+◌, ◌≤◌, ◌<◌, Bool, true, false, not, ◌&&◌, leb, ltb, eqb, Option}
use Rattle.channel_access.proofs.Common.{Some, None, List, [], ◌∷◌, length, drop, refl, ap, ◌∙◌, sym, arith}
use Rattle.channel_access.proofs.Common.{length-append, All, All-head, All-tail, cases_Bool, leb-true, leb-false, inl, inr}
use Rattle.channel_access.proofs.Common.{Sending, Stage, Opening, Frame, Following, Closing, Over, WaitingFrame}
use Rattle.channel_access.proofs.Common.{HasFrameLength, OnAir, bits_then, has_sent_frames, most_frames, waiting_after}
use Rattle.channel_access.proofs.Common.{frames_end, Held, StandsFor, StandsForAir, Goes, Stands, Counts, frame_rest}
use Rattle.channel_access.proofs.Common.{Channel, tick_bits, bits_of_ticks, modem_of}
use Rattle.channel_access.proofs.ModemLemmas.{bits_of_ticks-more, tick_bits-most}
use Rattle.channel_access.proofs.SendingLemmas.{sends_by}
use Rattle.std.specs.List.{list_any}
use Rattle.channel_access.specs.Channel.{is_of_link, takes_on_air, takes_frame, is_last_on_air, takes_last}
use Rattle.channel_access.specs.HeldTaking.{ends_in_tick, on_air_in, sender_takes, held_takes, held_takes_last}
use Rattle.channel_access.proofs.BodyLemmas.{piece-long}
use Rattle.channel_access.proofs.StageLemmas.{frames_go_on, frames_ended, frames_end_here, after_none, after_front, opening_end}
use Rattle.channel_access.proofs.StageLemmas.{frames_end-next, flag_there_at}

-- what a sender says of its transmission
record TellsTick (stage : Stage) (waiting : List WaitingFrame) (t : OnAir) : Type 0 where
  pub ends : ends_in_tick t.modem stage waiting ≡ has_sent_frames (bits_then t) t
  pub following : has_sent_frames (bits_then t) t ≡ true → drop (on_air_in stage) waiting ≡ waiting_after t waiting

-- the opening flags or the last frame end with the tick if so many bits are left of them
within : (t : OnAir) (left : ℕ) → t.ends ≡ false → frames_end t ≡ bits_of_ticks t.modem t.ticks + left
    → leb left (tick_bits t.modem) ≡ has_sent_frames (bits_then t) t
within t left goes end =
    let more_bits = bits_of_ticks-more t.modem t.ticks in
    elim (cases_Bool (leb left (tick_bits t.modem))) [
      | inl few ↦
          let at_most : left ≤ tick_bits t.modem = leb-true left (tick_bits t.modem) few in
          few ∙ sym (frames_end_here (bits_then t) t goes (omega arith))
      | inr many ↦
          let more : tick_bits t.modem < left = leb-false left (tick_bits t.modem) many in
          many ∙ sym (frames_go_on (bits_then t) t (omega arith))
    ]

-- nothing ends with it
none_ends : (stage : Stage) (waiting : List WaitingFrame) (t : OnAir) → ends_in_tick t.modem stage waiting ≡ false
    → has_sent_frames (bits_then t) t ≡ false → TellsTick stage waiting t
none_ends stage waiting t none goes = record {
  ends = none ∙ sym goes;
  following = λ is. let clash : true ≡ false = sym is ∙ goes in absurd (cc);
}

tells_tick : (stage : Stage) (waiting : List WaitingFrame) (t : OnAir) (sent : List Bool)
    → Stands stage waiting t sent → Counts stage (bits_of_ticks t.modem t.ticks) sent
    → All (λ frame. HasFrameLength frame.octets) waiting → TellsTick stage waiting t
unfolding frames_end
tells_tick (Opening left) waiting t sent h count fit = record {
  ends = within t left h.ends (opening_end left t (bits_of_ticks t.modem t.ticks) sent h count);
  following = λ _. sym (after_none t waiting h.frames);
}
tells_tick (Frame f) [] t sent h count fit = absurd h
tells_tick (Frame f) (front ∷ others) t sent h count fit =
    let end : frames_end t ≡ bits_of_ticks t.modem t.ticks + length (frame_rest f front.octets) = omega (
      arith,
      ap length h.bits,
      length-append sent (frame_rest f front.octets),
    ) in
    record {
      ends = within t (length (frame_rest f front.octets)) h.ends end;
      following = λ _. sym (after_front t h.past front.octets front others h.frames h.named);
    }
tells_tick (Following left true) [] t sent h count fit = absurd h
tells_tick (Following left true) (front ∷ []) t sent h count fit = absurd h
tells_tick (Following left true) (front ∷ next ∷ others) t sent h count fit =
    let following = All-tail (λ (frame : WaitingFrame). HasFrameLength frame.octets) front (next ∷ others) fit in
    let fits = All-head (λ (frame : WaitingFrame). HasFrameLength frame.octets) next others following in
    let long = piece-long t.modem next.octets fits.least in
    let there = flag_there_at left front (next.octets ∷ []) false t (bits_of_ticks t.modem t.ticks) sent h count in
    let more_bits = bits_of_ticks-more t.modem t.ticks in
    let most = tick_bits-most t.modem in
    let end = frames_end-next t h.past front.octets next.octets h.frames h.named in
    none_ends (Following left true) (front ∷ next ∷ others) t refl (frames_go_on (bits_then t) t (omega arith))
tells_tick (Following left false) [] t sent h count fit = absurd h
tells_tick (Following left false) (front ∷ others) t sent h count fit =
    none_ends (Following left false) (front ∷ others) t refl (frames_ended (bits_then t) t h.ends)
tells_tick (Closing left) waiting t sent h count fit =
    none_ends (Closing left) waiting t refl (frames_ended (bits_then t) t h.ends)
tells_tick Over waiting t sent h count fit = none_ends Over waiting t refl (frames_ended (bits_then t) t h.ends)

sender_is : (s : Sending) (waiting : List WaitingFrame) (t : OnAir) → Goes s waiting t
    → All (λ frame. HasFrameLength frame.octets) waiting → sender_takes s waiting ≡ takes_on_air waiting (Some t)
sender_is s waiting t g fit =
    let tells = tells_tick s.stage waiting t g.sent g.sends.stands g.sends.count fit in
    let ended : Bool = has_sent_frames (bits_then t) t in
    let others : List WaitingFrame = drop (on_air_in s.stage) waiting in
    let same : ends_in_tick (modem_of s.wave) s.stage waiting ≡ ended =
    ap (λ modem. ends_in_tick modem s.stage waiting) (sends_by s waiting t (bits_of_ticks t.modem t.ticks) g.sent g.sends)
    ∙ tells.ends in
    elim (cases_Bool ended) [
      | inl ends ↦
          ap (λ b. b && ltb s.frames most_frames && not (list_any is_of_link others)) same
          ∙ ap (λ n. ended && ltb n most_frames && not (list_any is_of_link others)) g.sends.frames
          ∙ ap (λ w. ended && ltb (length t.frames) most_frames && not (list_any is_of_link w)) (tells.following ends)
      | inr not_yet ↦
          ap (λ b. b && ltb s.frames most_frames && not (list_any is_of_link others)) (same ∙ not_yet)
          ∙ sym (ap (λ b. b && ltb (length t.frames) most_frames
          && not (list_any is_of_link (waiting_after t waiting))) not_yet)
    ]

air_is : (s : Option Sending) (waiting : List WaitingFrame) (air : Option OnAir)
    → All (λ frame. HasFrameLength frame.octets) waiting → StandsForAir s waiting air
    → held_takes s waiting ≡ takes_on_air waiting air
air_is None waiting None fit h = refl
air_is None waiting (Some t) fit h = absurd h
air_is (Some s) waiting None fit h = absurd h
air_is (Some s) waiting (Some t) fit h = sender_is s waiting t h fit

last_is : (s : Option Sending) (waiting : List WaitingFrame) (air : Option OnAir) → StandsForAir s waiting air
    → held_takes_last s ≡ is_last_on_air air
last_is None waiting None h = refl
last_is None waiting (Some t) h = absurd h
last_is (Some s) waiting None h = absurd h
last_is (Some s) waiting (Some t) h = ap (λ n. eqb (n + 1) most_frames) h.sends.frames

pub takes_of : (held : Held) (channel : Channel) → StandsFor held channel
    → held_takes held.sending held.waiting ≡ takes_frame channel
takes_of held channel h =
    ap (held_takes held.sending) h.waiting ∙ air_is held.sending channel.waiting channel.air h.lengths h.air

pub last_of : (held : Held) (channel : Channel) → StandsFor held channel
    → held_takes_last held.sending ≡ takes_last channel
last_of held channel h = last_is held.sending channel.waiting channel.air h.air
