-- The ticks of a transmission from its first one on are one transmission.
use Rattle.channel_access.proofs.Common.{◌≡◌, ℕ, ◌+◌, ◌-◌, ◌<◌, ◌≤◌, ◌⊎◌, Bool, true, false, cond, leb}
use Rattle.channel_access.proofs.Common.{Option, Some, None, is_some, pos, List, [], ◌∷◌, ◌++◌, length, get_or}
use Rattle.channel_access.proofs.Common.{replicate, refl, ap, ◌∙◌, sym, subst, inl, inr, arith, append_assoc}
use Rattle.channel_access.proofs.Common.{append-nil, length-append, cases_Bool, take_all, flat_map-append, All-nil}
use Rattle.channel_access.proofs.Common.{All-head, All-tail, All-push, le-max_left, line, body_by, HasFrameLength}
use Rattle.channel_access.proofs.Common.{AirTick, Sending, Stage, Opening, Frame, Following, Closing}
use Rattle.channel_access.proofs.Common.{Over, opening_flags, closing_flags, WaitingFrame, OnAir}
use Rattle.channel_access.proofs.Common.{bits_of, bits_then, decided, names_next, flag_end, frame_named, tick_samples}
use Rattle.channel_access.proofs.Common.{with_tick, Channel, decision, begun, air_samples, air_sent, air_waiting}
use Rattle.channel_access.proofs.Common.{air_after, air_tick, after_tick, new_sending, stage_over, run_of, Stands}
use Rattle.channel_access.proofs.Common.{StandsForAir, Goes, IsSent, Ticks, GoesToItsEnd, octets_of}
use Rattle.std.specs.Option.{IsSome}
use Rattle.afsk_modulator.specs.Level.{at_level}
use Rattle.std.proofs.lemmas.List.Elements.{All-cons}
use Rattle.channel_access.specs.WholeTransmission.{Call, after_call, after_calls, tick_of_call, ticks_of, joins_in}
use Rattle.channel_access.specs.WholeTransmission.{joining, AreFrames, samples_in, AreOneTransmission}
use Rattle.channel_access.specs.WholeTransmission.{SendOneTransmission}
use Rattle.channel_access.specs.WholeTransmission.Call.{Queues, Sets, Hears}
use Rattle.channel_access.specs.Happenings.Happening.{Ticked}
use Rattle.channel_access.proofs.OrderLemmas.{decided_frames, air_takes}
use Rattle.channel_access.proofs.StageLemmas.{now_at, waiting_at}
use Rattle.channel_access.proofs.SendingLemmas.{padded}
use Rattle.channel_access.proofs.TickLemmas.{all_waiting, modem-now_at}
use Rattle.channel_access.proofs.AirLemmas.{at_end, run_samples, run_air, goes_on, same_bits, same_modem, full_before, is_left}
use Rattle.channel_access.proofs.AirLemmas.{closed_bits, bits_of-with_named}
use Rattle.channel_access.proofs.Common.{Modem, Bell202, ShortWave, Fx25, flags_in, tick_bits, bits_of_ticks, samples_of_bits}
use Rattle.channel_access.proofs.ModemLemmas.{bits_of_ticks-more, tick_bits-least, modem_wave, transmission_by-is}
use Rattle.channel_access.proofs.AccessLemmas.{begins}
use Rattle.channel_access.proofs.QueueLemmas.{GoesWith, goes_joined}
use Rattle.channel_access.proofs.WholeLemmas.{decided_adds}
use Rattle.channel_access.proofs.SoFarLemmas.{SoFar, so_far_joined, so_far_reticked, so_far_more, some_left}

-- ---- what is so while a transmission goes on, and after it

record UnderWay (modem : Modem) (opening closing : ℕ) (first joined : List WaitingFrame) (ticks : List AirTick) (channel : Channel)
    : Type 0 where
  pub t : OnAir
  pub air : channel.air ≡ Some t
  pub sending : Sending
  pub goes : Goes sending channel.waiting t
  pub fit : AreFrames channel.waiting
  pub so_far : SoFar modem opening closing first joined ticks channel.waiting t
  pub samples : samples_in ticks ≡ padded t.modem (bits_of_ticks t.modem t.ticks) goes.sent

record IsWhole (modem : Modem) (opening closing : ℕ) (first joined : List WaitingFrame) (ticks : List AirTick)
    (waiting : List WaitingFrame)
    : Type 0 where
  pub frames : List WaitingFrame
  pub front : first ++ joined ≡ frames ++ waiting
  pub whole : AreOneTransmission modem (octets_of frames) opening closing ticks

-- either
abbrev After : Modem → ℕ → ℕ → List WaitingFrame → List WaitingFrame → List AirTick → Channel → Type 0
After modem opening closing first joined ticks channel = UnderWay modem opening closing first joined ticks channel
    ⊎ (IsWhole modem opening closing first joined ticks channel.waiting × (channel.air ≡ None))

-- what a tick sends, whether or not the transmission began with it
abbrev sends : List WaitingFrame → OnAir → Bool → AirTick
sends waiting t began =
    let then = decided (bits_then t) waiting t in
    record { samples = tick_samples then; began = began; sent = frame_named (bits_then t) then }

-- the channel after it
abbrev following : Bool → Bool → Channel → OnAir → Channel
following busy began channel t = record channel {
  waiting = waiting_at (bits_then t) channel.waiting t;
  air = with_tick (now_at (bits_then t) channel.waiting t);
  past = Ticked busy began true ∷ channel.past;
}

-- ---- what the end of a sender says

some_air : (s : Sending) (waiting : List WaitingFrame) (t : OnAir) (over b : Bool) → over ≡ false
    → StandsForAir (cond over None (Some s)) waiting (cond b None (Some t)) → cond b None (Some t) ≡ Some t
some_air s waiting t true b goes h = absurd cc
some_air s waiting t false true goes h = absurd h
some_air s waiting t false false goes h = refl

none_air : (s : Sending) (waiting : List WaitingFrame) (t : OnAir) (over b : Bool) → over ≡ true
    → StandsForAir (cond over None (Some s)) waiting (cond b None (Some t)) → cond b None (Some t) ≡ None
none_air s waiting t true true ends h = refl
none_air s waiting t true false ends h = absurd h
none_air s waiting t false b ends h = absurd cc

over_sent : (stage : Stage) (waiting : List WaitingFrame) (t : OnAir) (sent : List Bool) → stage_over stage ≡ true
    → Stands stage waiting t sent → IsSent t sent
over_sent (Opening left) waiting t sent over h = absurd cc
over_sent (Frame f) waiting t sent over h = absurd cc
over_sent (Following left another) waiting t sent over h = absurd cc
over_sent (Closing left) waiting t sent over h = absurd cc
over_sent Over waiting t sent over h = h

-- ---- a tick

-- fewer bits than a tick has are fewer samples than a tick has
fewer_samples : (modem : Modem) (bits : ℕ) → bits + 1 ≤ tick_bits modem → samples_of_bits modem bits < 96
fewer_samples Bell202 bits fewer = omega arith
fewer_samples ShortWave bits fewer = omega arith
fewer_samples (Fx25 checks) bits fewer = omega arith

module _ (s : Sending) (waiting : List WaitingFrame) (t : OnAir) (g : Goes s waiting t) (fit : AreFrames waiting) where
  abbrev decided_then : OnAir
  decided_then = decided (bits_then t) waiting t

  abbrev then_on_air : OnAir
  then_on_air = now_at (bits_then t) waiting t

  abbrev next_on_air : OnAir
  next_on_air = record then_on_air { ticks = then_on_air.ticks + 1 }

  abbrev over_then : Bool
  over_then = stage_over (run_of s waiting).sending.stage

  -- something is left
  goes_then : over_then ≡ false → GoesWith (run_of s waiting).sending (waiting_at (bits_then t) waiting t) next_on_air
      (at_end s waiting t g fit).more
  unfolding goes_on
  goes_then goes =
      subst (λ w. GoesWith (run_of s waiting).sending w next_on_air (at_end s waiting t g fit).more)
      (at_end s waiting t g fit).is_waiting (record { goes = goes_on s waiting t g fit goes; is = refl })

  air_goes : over_then ≡ false → with_tick then_on_air ≡ Some next_on_air
  air_goes goes =
      some_air (run_of s waiting).sending (run_of s waiting).waiting next_on_air over_then
      (leb (length (bits_of then_on_air)) (bits_then then_on_air)) goes (run_air s waiting t g fit)

  air_ends : over_then ≡ true → with_tick then_on_air ≡ None
  air_ends over =
      none_air (run_of s waiting).sending (run_of s waiting).waiting next_on_air over_then
      (leb (length (bits_of then_on_air)) (bits_then then_on_air)) over (run_air s waiting t g fit)

  -- some bit is sent
  bit_sent : then_on_air.ends ≡ true
      → (at_end s waiting t g fit).more ≡ body_by then_on_air.modem then_on_air.frames then_on_air.opening then_on_air.closing
      → bits_of_ticks t.modem t.ticks < length (at_end s waiting t g fit).more
  bit_sent ends is =
      let one : 1 ≤ t.closing = subst (λ n. 1 ≤ n) (sym g.sends.closing) (le-max_left 1 (flags_in t.modem s.tail)) in
      let left = is_left s.stage waiting t g.sent g.sends.stands fit one in
      let adds = decided_adds (bits_then t) waiting t in
      let all : (at_end s waiting t g fit).more ≡ (g.sent ++ left.0) ++ adds.0 =
      is ∙ closed_bits then_on_air ends ∙ bits_of-with_named (bits_then t) decided_then ∙ adds.1
      ∙ ap (λ xs. xs ++ adds.0) (sym left.1.whole) in
      let size = ap length all in
      let whole = length-append (g.sent ++ left.0) adds.0 in
      let part = length-append g.sent left.0 in
      let some : 1 ≤ length left.0 = left.1.some g.left in
      let full = full_before s waiting t g fit in
      omega arith

  module _ (modem : Modem) (opening closing : ℕ) (first joined : List WaitingFrame) (ticks : List AirTick)
      (h : SoFar modem opening closing first joined ticks waiting t)
      (heard : samples_in ticks ≡ padded t.modem (bits_of_ticks t.modem t.ticks) g.sent) (began : Bool) where
    abbrev more_ticks : List AirTick
    more_ticks = ticks ++ sends waiting t began ∷ []

    so_far_then : SoFar modem opening closing first joined more_ticks (waiting_at (bits_then t) waiting t) then_on_air
    so_far_then =
        let u : OnAir = decided_then in
        so_far_more modem opening closing first joined ticks waiting t h u (decided_frames (bits_then t) waiting t)
        (tick_samples u) began
        (record {
          octets = get_or u.frames u.named [];
          after = samples_of_bits u.modem (flag_end (u.named + 1) u - bits_of_ticks u.modem u.ticks);
        }) refl
        (names_next (bits_then t) u) (some_left (bits_then t) u) (air_takes (Some s) waiting (Some t) g)

    samples_then : samples_in more_ticks ≡ padded t.modem (bits_then t) (at_end s waiting t g fit).more
    samples_then =
        let b = at_end s waiting t g fit in
        flat_map-append (λ (a : AirTick). a.samples) ticks (sends waiting t began ∷ [])
        ∙ ap (λ xs. samples_in ticks ++ xs) (append-nil (tick_samples decided_then))
        ∙ ap (λ xs. xs ++ tick_samples decided_then) heard
        ∙ ap (λ xs. padded t.modem (bits_of_ticks t.modem t.ticks) g.sent ++ xs) (sym (run_samples s waiting t g fit))
        ∙ sym b.samples

    -- nothing is left
    whole_then : over_then ≡ true
        → IsWhole modem opening closing first joined more_ticks (waiting_at (bits_then t) waiting t)
    unfolding padded
    whole_then over =
        let b = at_end s waiting t g fit in
        let so = so_far_then in
        let left : ℕ = bits_then t - length b.more in
        let zeros : ℕ = samples_of_bits modem left in
        let done = over_sent (run_of s waiting).sending.stage (run_of s waiting).waiting then_on_air b.more over
        b.sends.stands in
        let all : octets_of so.gone ≡ then_on_air.frames =
        so.named ∙ take_all then_on_air.named then_on_air.frames (omega (arith, done.named)) in
        let more = bit_sent done.ends done.bits in
        let by : t.modem ≡ modem = h.by in
        let bits_more = bits_of_ticks-more t.modem t.ticks in
        let some = tick_bits-least t.modem in
        let fewer : left + 1 ≤ tick_bits t.modem = omega arith in
        let same : tick_bits t.modem ≡ tick_bits modem = ap tick_bits by in
        let few_zeros : zeros < 96 =
        fewer_samples modem left (subst (λ n. left + 1 ≤ n) same fewer) in
        let by_now : then_on_air.modem ≡ modem = modem-now_at (bits_then t) waiting t ∙ by in
        let bits : b.more ≡ body_by modem (octets_of so.gone) opening closing =
        done.bits
        ∙ ap (λ m. body_by m then_on_air.frames then_on_air.opening then_on_air.closing) by_now
        ∙ ap (λ xs. body_by modem xs then_on_air.opening then_on_air.closing) (sym all)
        ∙ ap (λ n. body_by modem (octets_of so.gone) n then_on_air.closing) so.opening
        ∙ ap (body_by modem (octets_of so.gone) opening) so.closing in
        record {
          frames = so.gone;
          front = so.queue;
          whole = record {
            few = subst (λ (xs : List (List ℕ)). length xs ≤ 8) (sym all) so.few;
            zeros = zeros;
            fewer = few_zeros;
            samples = samples_then ∙ ap (λ m. padded m (bits_then t) b.more) by
                ∙ ap (λ xs. modem_wave modem (line xs) ++ replicate zeros (pos 0)) bits
                ∙ ap (λ xs. xs ++ replicate zeros (pos 0))
                (sym (transmission_by-is modem (octets_of so.gone) opening closing));
            named = so.names;
          };
        }

-- a tick of a transmission under way
under_way_more : (modem : Modem) (opening closing : ℕ) (first joined : List WaitingFrame) (ticks : List AirTick) (channel : Channel)
    (h : UnderWay modem opening closing first joined ticks channel) (busy began : Bool)
    → After modem opening closing first joined (ticks ++ sends channel.waiting h.t began ∷ [])
    (following busy began channel h.t)
under_way_more modem opening closing first joined ticks channel h busy began =
    let s : Sending = h.sending in
    let waiting : List WaitingFrame = channel.waiting in
    let so = so_far_then s waiting h.t h.goes h.fit modem opening closing first joined ticks h.so_far h.samples began in
    let heard = samples_then s waiting h.t h.goes h.fit modem opening closing first joined ticks h.so_far h.samples began in
    let now : OnAir = now_at (bits_then h.t) waiting h.t in
    elim (cases_Bool (stage_over (run_of s waiting).sending.stage)) [
      | inl over ↦
          inr (
            whole_then s waiting h.t h.goes h.fit modem opening closing first joined ticks h.so_far h.samples began over,
            air_ends s waiting h.t h.goes h.fit over,
          )
      | inr goes ↦
          let next = goes_then s waiting h.t h.goes h.fit goes in
          let same : bits_then h.t ≡ bits_then now = sym (same_bits s waiting h.t h.goes h.fit) in
          inl (record {
            t = record now { ticks = now.ticks + 1 };
            air = air_goes s waiting h.t h.goes h.fit goes;
            sending = (run_of s waiting).sending;
            goes = next.goes;
            fit = all_waiting (bits_then h.t) (decided (bits_then h.t) waiting h.t) waiting h.fit;
            so_far = so_far_reticked modem opening closing first joined (ticks ++ sends waiting h.t began ∷ [])
                (waiting_at (bits_then h.t) waiting h.t) now so (now.ticks + 1);
            samples = heard
                ∙ ap (λ m. padded m (bits_then h.t) (at_end s waiting h.t h.goes h.fit).more)
                (sym (same_modem s waiting h.t h.goes h.fit))
                ∙ ap (λ n. padded now.modem n (at_end s waiting h.t h.goes h.fit).more) same
                ∙ ap (padded now.modem (bits_then now)) (sym next.is);
          })
    ]

under_way_joined : (modem : Modem) (opening closing : ℕ) (first joined : List WaitingFrame) (ticks : List AirTick) (channel : Channel)
    (frame : WaitingFrame) → HasFrameLength frame.octets → UnderWay modem opening closing first joined ticks channel
    → UnderWay modem opening closing first (joined ++ frame ∷ []) ticks
    (record channel { waiting = channel.waiting ++ frame ∷ [] })
under_way_joined modem opening closing first joined ticks channel frame fits h =
    let more = goes_joined h.sending channel.waiting (frame ∷ []) h.t h.goes in
    record {
      t = h.t;
      air = h.air;
      sending = h.sending;
      goes = more.goes;
      fit = All-push (λ (f : WaitingFrame). HasFrameLength f.octets) channel.waiting frame h.fit fits;
      so_far = so_far_joined modem opening closing first joined ticks channel.waiting h.t h.so_far (frame ∷ []);
      samples = h.samples ∙ ap (padded h.t.modem (bits_of_ticks h.t.modem h.t.ticks)) (sym more.is);
    }

-- ---- a run of calls

tick_is : (busy wants : Bool) (channel : Channel) (t : OnAir) → channel.air ≡ Some t
    → air_tick busy wants channel ≡ sends channel.waiting t false
tick_is busy wants channel t is =
    subst (λ (a : Option OnAir). air_tick busy wants (record channel { air = a }) ≡ sends channel.waiting t false)
    (sym is) refl

after_is : (busy wants : Bool) (channel : Channel) (t : OnAir) → channel.air ≡ Some t
    → after_tick busy wants channel ≡ following busy false channel t
after_is busy wants channel t is =
    subst (λ (a : Option OnAir). after_tick busy wants (record channel { air = a }) ≡ following busy false channel t) (sym is)
    refl

call_more : (modem : Modem) (opening closing : ℕ) (first joined : List WaitingFrame) (ticks : List AirTick) (channel : Channel)
    (call : Call) → AreFrames (joins_in call) → UnderWay modem opening closing first joined ticks channel
    → After modem opening closing first (joined ++ joins_in call) (ticks ++ tick_of_call call channel)
    (after_call call channel)
call_more modem opening closing first joined ticks channel (Queues link octets) fit h =
    let frame : WaitingFrame = record { link = link; octets = octets } in
    subst (λ ts. After modem opening closing first (joined ++ frame ∷ []) ts
    (record channel { waiting = channel.waiting ++ frame ∷ [] })) (sym (append-nil ticks))
    (inl (under_way_joined modem opening closing first joined ticks channel frame
    (All-head (λ (f : WaitingFrame). HasFrameLength f.octets) frame [] fit) h))
call_more modem opening closing first joined ticks channel (Sets param) fit h =
    subst (λ ts. After modem opening closing first (joined ++ []) ts (after_call (Sets param) channel))
    (sym (append-nil ticks))
    (subst (λ js. After modem opening closing first js ticks (after_call (Sets param) channel)) (sym (append-nil joined))
    (inl (record {
      t = h.t;
      air = h.air;
      sending = h.sending;
      goes = h.goes;
      fit = h.fit;
      so_far = h.so_far;
      samples = h.samples;
    })))
call_more modem opening closing first joined ticks channel (Hears ours) fit h =
    subst (λ ts. After modem opening closing first (joined ++ []) ts (after_call (Hears ours) channel))
    (sym (append-nil ticks))
    (subst (λ js. After modem opening closing first js ticks (after_call (Hears ours) channel)) (sym (append-nil joined))
    (inl (record {
      t = h.t;
      air = h.air;
      sending = h.sending;
      goes = h.goes;
      fit = h.fit;
      so_far = h.so_far;
      samples = h.samples;
    })))
call_more modem opening closing first joined ticks channel (Ticks busy wants) fit h =
    subst (λ js. After modem opening closing first js (ticks ++ air_tick busy wants channel ∷ []) (after_tick busy wants channel))
    (sym (append-nil joined))
    (subst (λ tick. After modem opening closing first joined (ticks ++ tick ∷ []) (after_tick busy wants channel))
    (sym (tick_is busy wants channel h.t h.air))
    (subst (λ next. After modem opening closing first joined (ticks ++ sends channel.waiting h.t false ∷ []) next)
    (sym (after_is busy wants channel h.t h.air))
    (under_way_more modem opening closing first joined ticks channel h busy false)))

both_fit : (xs ys : List WaitingFrame) → AreFrames (xs ++ ys) → AreFrames xs × AreFrames ys
both_fit [] ys fit = (All-nil (λ (f : WaitingFrame). HasFrameLength f.octets), fit)
both_fit (x ∷ xs) ys fit =
    let P : WaitingFrame → Type 0 = λ f. HasFrameLength f.octets in
    let rest = both_fit xs ys (All-tail P x (xs ++ ys) fit) in
    (All-cons P x xs (All-head P x (xs ++ ys) fit) rest.0, rest.1)

some_none : {A X : Type 0} (x : Option A) → IsSome x → x ≡ None → X
some_none None some none = absurd cc
some_none (Some a) some none = absurd cc

run : (modem : Modem) (opening closing : ℕ) (first joined : List WaitingFrame) (ticks : List AirTick) (calls : List Call)
    (channel : Channel) → AreFrames (joining calls) → After modem opening closing first joined ticks channel
    → GoesToItsEnd calls channel
    → IsWhole modem opening closing first (joined ++ joining calls) (ticks ++ ticks_of calls channel)
    (after_calls calls channel).waiting
run modem opening closing first joined ticks [] channel fit (inl h) end =
    let both : None ≡ Some h.t = sym end ∙ h.air in
    absurd cc
run modem opening closing first joined ticks [] channel fit (inr h) end =
    subst (λ ts. IsWhole modem opening closing first (joined ++ []) ts channel.waiting) (sym (append-nil ticks))
    (subst (λ js. IsWhole modem opening closing first js ticks channel.waiting) (sym (append-nil joined)) h.0)
run modem opening closing first joined ticks (call ∷ calls) channel fit (inr h) end = some_none channel.air end.0 h.1
run modem opening closing first joined ticks (call ∷ calls) channel fit (inl h) end =
    let fits = both_fit (joins_in call) (joining calls) fit in
    let last : List WaitingFrame = (after_calls (call ∷ calls) channel).waiting in
    subst (λ ts. IsWhole modem opening closing first (joined ++ joining (call ∷ calls)) ts last)
    (append_assoc ticks (tick_of_call call channel) (ticks_of calls (after_call call channel)))
    (subst (λ js. IsWhole modem opening closing first js ((ticks ++ tick_of_call call channel) ++ ticks_of calls
    (after_call call channel)) last) (append_assoc joined (joins_in call) (joining calls))
    (run modem opening closing first (joined ++ joins_in call) (ticks ++ tick_of_call call channel) calls
    (after_call call channel) fits.1 (call_more modem opening closing first joined ticks channel call fits.0 h) end.1))

-- ---- the first tick

begins_with : (channel : Channel) → GoesWith (new_sending channel.modem channel.parameters) channel.waiting (begun channel) []
unfolding begins
begins_with channel = record { goes = begins channel; is = refl }

nothing_sent : (modem : Modem) → padded modem (bits_of_ticks modem 0) [] ≡ []
unfolding padded at_level
nothing_sent Bell202 = refl
nothing_sent ShortWave = refl
nothing_sent (Fx25 checks) = refl

module _ (busy wants : Bool) (channel : Channel) (fit : AreFrames channel.waiting) (rest : channel.air ≡ None) where
  -- with the decision of the tick
  abbrev then : Channel
  then = record channel {
    slot = (decision busy wants channel).slot;
    generator = (decision busy wants channel).generator;
    air = Some (begun channel);
  }

  begins_now : (air_tick busy wants channel).began ≡ true → (decision busy wants channel).begins ≡ true
  begins_now began =
      elim (cases_Bool (decision busy wants channel).begins) [
        | inl begins ↦ begins
        | inr not_yet ↦
            let P : Option OnAir → Type 0 = λ a. (air_tick busy wants (record channel { air = a })).began ≡ false in
            let never : (air_tick busy wants channel).began ≡ false =
            subst P (sym rest) (ap (λ b. is_some (cond b (Some (begun channel)) None)) not_yet) in
            let both : true ≡ false = sym began ∙ never in
            cc
      ]

  module _ (begins : (decision busy wants channel).begins ≡ true) where
    first_tick : air_tick busy wants channel ≡ sends channel.waiting (begun channel) true
    first_tick =
        let P : Option OnAir → Type 0 =
        λ a. air_tick busy wants (record channel { air = a }) ≡ sends channel.waiting (begun channel) true in
        let tick : Option OnAir → AirTick = λ air. record {
          samples = air_samples channel.waiting air;
          began = is_some air;
          sent = air_sent channel.waiting air;
        } in
        subst P (sym rest) (ap (λ b. tick (cond b (Some (begun channel)) None)) begins)

    after_first : after_tick busy wants channel ≡ following busy true then (begun channel)
    after_first =
        let P : Option OnAir → Type 0 =
        λ a. after_tick busy wants (record channel { air = a }) ≡ following busy true then (begun channel) in
        let next : Option OnAir → Channel = λ air. record then {
          waiting = air_waiting channel.waiting air;
          air = air_after channel.waiting air;
          past = Ticked busy (is_some air) (is_some air) ∷ channel.past;
        } in
        subst P (sym rest) (ap (λ b. next (cond b (Some (begun channel)) None)) begins)

    starts : UnderWay channel.modem (opening_flags channel.modem channel.parameters.tx_delay)
        (closing_flags channel.modem channel.parameters.tx_tail) channel.waiting [] [] then
    starts =
        let new = begins_with channel in
        record {
          t = begun channel;
          air = refl;
          sending = new_sending channel.modem channel.parameters;
          goes = new.goes;
          fit = fit;
          so_far = record {
            gone = [];
            queue = append-nil channel.waiting;
            names = refl;
            named = refl;
            within = omega arith;
            few = omega arith;
            by = refl;
            opening = refl;
            closing = refl;
          };
          samples = sym (ap (padded channel.modem (bits_of_ticks channel.modem 0)) new.is ∙ nothing_sent channel.modem);
        }

-- a transmission, from the tick in which it begins to the one with which it ends
pub whole_transmission : (channel : Channel) (busy wants : Bool) (calls : List Call) → AreFrames channel.waiting
    → AreFrames (joining calls) → channel.air ≡ None → (air_tick busy wants channel).began ≡ true
    → GoesToItsEnd calls (after_tick busy wants channel) → SendOneTransmission (Ticks busy wants ∷ calls) channel
unfolding starts
whole_transmission channel busy wants calls fit joins rest began end =
    let modem : Modem = channel.modem in
    let opening : ℕ = opening_flags modem channel.parameters.tx_delay in
    let closing : ℕ = closing_flags modem channel.parameters.tx_tail in
    let begins = begins_now busy wants channel fit rest began in
    let first = under_way_more modem opening closing channel.waiting [] [] (then busy wants channel fit rest)
    (starts busy wants channel fit rest begins) busy true in
    let after : After modem opening closing channel.waiting [] (air_tick busy wants channel ∷ []) (after_tick busy wants channel) =
    subst (λ tick. After modem opening closing channel.waiting [] (tick ∷ []) (after_tick busy wants channel))
    (sym (first_tick busy wants channel fit rest begins))
    (subst (λ next. After modem opening closing channel.waiting [] (sends channel.waiting (begun channel) true ∷ []) next)
    (sym (after_first busy wants channel fit rest begins)) first) in
    let whole = run modem opening closing channel.waiting [] (air_tick busy wants channel ∷ []) calls (after_tick busy wants channel)
    joins after end in
    record { frames = whole.frames; front = whole.front; whole = whole.whole }
