-- A tick of a transmission: its samples, and what is left of it.
use Rattle.channel_access.proofs.Common.{◌≡◌, ℕ, ◌+◌, ◌-◌, ◌*◌, ◌≤◌, ◌⊎◌, Bool, true, false, cond, leb, ltb}
use Rattle.channel_access.proofs.Common.{Option, Some, None, ℤ, pos, List, [], ◌∷◌, ◌++◌, length, take, drop, replicate}
use Rattle.channel_access.proofs.Common.{refl, ap, ◌∙◌, sym, subst, inl, inr, arith, length-append, append_assoc}
use Rattle.channel_access.proofs.Common.{append-nil, All, le-max_left, cases_Bool, cond-true, cond-false, le-leb}
use Rattle.channel_access.proofs.Common.{lt-leb, replicate-append-replicate, line, tick_bits, bits_of_ticks, samples_of_bits, with_bits}
use Rattle.channel_access.proofs.Common.{Modem, flags_in, Mark, flags, body_by, piece, Sending, Stage, Opening, Frame}
use Rattle.channel_access.proofs.Common.{Following, Closing, Over, WaitingFrame, HasFrameLength, OnAir, bits_then}
use Rattle.channel_access.proofs.Common.{bits_of, samples_on_air, decided, followed_by, has_sent_frames, names_next}
use Rattle.channel_access.proofs.Common.{with_named, frame_named, tick_samples, with_tick, most_frames, Run, tick_start}
use Rattle.channel_access.proofs.Common.{stage_over, run_of, going_on, Stands, Counts, Sends, Goes, StandsForAir}
use Rattle.channel_access.proofs.Common.{flag_rest, frame_rest, waiting_after}
use Rattle.std.proofs.Math.Seq.{take-append_seam, drop-append_seam}
use Rattle.nrzi_bits.specs.Line.{line_from, last_from}
use Rattle.nrzi_bits.proofs.LineLemmas.{line_from-append}
use Rattle.channel_access.proofs.ModemLemmas.{bits_of_ticks-more, tick_bits-most, samples_of_bits-tick}
use Rattle.channel_access.proofs.ModemLemmas.{samples_of_bits-ticks, samples_of_bits-fewer, modem_wave}
use Rattle.channel_access.proofs.ModemLemmas.{modem_wave-append, transmission_by-is}
use Rattle.channel_access.proofs.BodyLemmas.{length-flag_rest, body-more_closing, body-push}
use Rattle.channel_access.proofs.FrameLemmas.{next_given}
use Rattle.channel_access.proofs.StageLemmas.{now_at, by_test, same_now, same_waiting, frames_go_on, frames_ended}
use Rattle.channel_access.proofs.StageLemmas.{flag_goes_on, all_named, frames_end-next, flag_there_at}
use Rattle.channel_access.proofs.StageLemmas.{opening_bits, opening_end, opening_named}
use Rattle.channel_access.proofs.SendingLemmas.{padded, padded-full, length-padded, sends_by}
use Rattle.channel_access.proofs.JoinLemmas.{may_come, end_later, flag_not_yet}
use Rattle.channel_access.proofs.TickLemmas.{AtBit, sent_at, bits_more, all_waiting, modem-decided}
use Rattle.channel_access.proofs.TickLemmas.{modem-with_named, modem-now_at}

-- ---- what is left of a transmission, as far as it is decided

pub record IsLeft (stage : Stage) (t : OnAir) (sent rest : List Bool) : Type 0 where
  pub whole : sent ++ rest ≡ bits_of t
  pub some : stage_over stage ≡ false → 1 ≤ length rest
  pub none : stage_over stage ≡ true → rest ≡ []

pub open_bits : (t : OnAir) → t.ends ≡ false → body_by t.modem t.frames t.opening 0 ≡ bits_of t
unfolding bits_of
open_bits t goes = ap (λ b. body_by t.modem t.frames t.opening (cond b t.closing 0)) (sym goes)

pub closed_bits : (t : OnAir) → t.ends ≡ true → body_by t.modem t.frames t.opening t.closing ≡ bits_of t
unfolding bits_of
closed_bits t ends = ap (λ b. body_by t.modem t.frames t.opening (cond b t.closing 0)) (sym ends)

-- more than the bits of some flags
flags_left : (left : ℕ) (rest : List Bool) → 1 ≤ left → 1 ≤ length (flag_rest left ++ rest)
flags_left left rest some = omega (arith, length-append (flag_rest left) rest, length-flag_rest left)

never : {A : Type 0} → true ≡ false → A
never is = cc

pub is_left : (stage : Stage) (waiting : List WaitingFrame) (t : OnAir) (sent : List Bool) → Stands stage waiting t sent
    → All (λ frame. HasFrameLength frame.octets) waiting → 1 ≤ t.closing → (rest : List Bool) × IsLeft stage t sent rest
is_left (Opening left) waiting t sent h fit closes = (
  flag_rest left,
  record {
    whole = h.bits ∙ opening_bits left t (length sent) sent h refl ∙ open_bits t h.ends;
    some = λ _. omega (arith, h.some, length-flag_rest left);
    none = λ is. never (sym is);
  },
)
is_left (Frame f) [] t sent h fit closes = absurd h
is_left (Frame f) (front ∷ others) t sent h fit closes =
    let next = next_given f front.octets h.some in (
      frame_rest f front.octets,
      record {
        whole = h.bits ∙ open_bits t h.ends;
        some = λ _. omega (arith, ap length next.rest);
        none = λ is. never (sym is);
      },
    )
is_left (Following left true) [] t sent h fit closes = absurd h
is_left (Following left true) (front ∷ []) t sent h fit closes = absurd h
is_left (Following left true) (front ∷ next ∷ others) t sent h fit closes = (
  flag_rest left ++ piece t.modem next.octets,
  record {
    whole = sym (append_assoc sent (flag_rest left) (piece t.modem next.octets))
        ∙ ap (λ xs. xs ++ piece t.modem next.octets) h.bits ∙ sym (body-push t.modem h.past front.octets next.octets t.opening)
        ∙ ap (λ xs. body_by t.modem xs t.opening 0) (sym h.frames) ∙ open_bits t h.ends;
    some = λ _. flags_left left (piece t.modem next.octets) h.some;
    none = λ is. never (sym is);
  },
)
is_left (Following left false) [] t sent h fit closes = absurd h
is_left (Following left false) (front ∷ others) t sent h fit closes =
    let frames : List (List ℕ) = h.past ++ front.octets ∷ [] in
    let whole : frames ≡ t.frames = sym (h.frames ∙ append-nil frames) in
    let all : 1 + (t.closing - 1) ≡ t.closing = omega arith in (
      flag_rest left ++ flags (t.closing - 1),
      record {
        whole = sym (append_assoc sent (flag_rest left) (flags (t.closing - 1)))
            ∙ ap (λ xs. xs ++ flags (t.closing - 1)) h.bits ∙ sym (body-more_closing t.modem frames t.opening (t.closing - 1))
            ∙ ap (body_by t.modem frames t.opening) all ∙ ap (λ xs. body_by t.modem xs t.opening t.closing) whole ∙ closed_bits t h.ends;
        some = λ _. flags_left left (flags (t.closing - 1)) h.some;
        none = λ is. never (sym is);
      },
    )
is_left (Closing left) waiting t sent h fit closes = (
  flag_rest left,
  record {
    whole = h.bits ∙ closed_bits t h.ends;
    some = λ _. omega (arith, h.some, length-flag_rest left);
    none = λ is. never (sym is);
  },
)
is_left Over waiting t sent h fit closes = (
  [],
  record {
    whole = append-nil sent ∙ h.bits ∙ closed_bits t h.ends;
    some = λ is. never is;
    none = λ _. refl;
  },
)

pub all_sent : (stage : Stage) (total : ℕ) (sent : List Bool) → Counts stage total sent → stage_over stage ≡ false
    → length sent ≡ total
all_sent (Opening left) total sent count goes = count
all_sent (Frame f) total sent count goes = count
all_sent (Following left another) total sent count goes = count
all_sent (Closing left) total sent count goes = count
all_sent Over total sent count goes = never goes

pub no_more_sent : (stage : Stage) (total : ℕ) (sent : List Bool) → Counts stage total sent → length sent ≤ total
no_more_sent (Opening left) total sent count = omega arith
no_more_sent (Frame f) total sent count = omega arith
no_more_sent (Following left another) total sent count = omega arith
no_more_sent (Closing left) total sent count = omega arith
no_more_sent Over total sent count = count

-- ---- naming a frame changes no bit

pub bits_of-with_named : (bits : ℕ) (t : OnAir) → bits_of (with_named bits t) ≡ bits_of t
unfolding bits_of
bits_of-with_named bits t =
    by_test (λ (u : OnAir). bits_of u ≡ bits_of t) (names_next bits t)
    (record t { named = t.named + 1 }) t (λ _. refl) (λ _. refl)

-- ---- the samples of a tick

pub samples_on_air-is : (t : OnAir) → samples_on_air t ≡ modem_wave t.modem (line (bits_of t))
unfolding samples_on_air bits_of
samples_on_air-is t = transmission_by-is t.modem t.frames t.opening (cond t.ends t.closing 0)

pub wave-append : (modem : Modem) (sent rest : List Bool)
    → (later : List ℤ) × (modem_wave modem (line (sent ++ rest)) ≡ modem_wave modem (line sent) ++ later)
wave-append modem sent rest =
    let later = modem_wave-append modem (line sent) (line_from (last_from Mark (line sent)) rest) in
    (later.0, ap (modem_wave modem) (line_from-append Mark sent rest) ∙ later.1)

-- the samples so far are the first of all samples with zeros after them
first_samples : (modem : Modem) (total : ℕ) (t : OnAir) (sent rest : List Bool) → t.modem ≡ modem
    → sent ++ rest ≡ bits_of t → length sent ≤ total → (rest ≡ []) ⊎ (length sent ≡ total)
    → total ≤ length sent + tick_bits modem
    → (later : List ℤ) × (samples_on_air t ++ replicate 96 (pos 0) ≡ padded modem total sent ++ later)
unfolding padded
first_samples modem total t sent rest is whole short (inl over) near =
    let all_sent : List ℤ = modem_wave modem (line sent) in
    let zeros : ℕ = samples_of_bits modem (total - length sent) in
    let few : zeros ≤ samples_of_bits modem (tick_bits modem) =
    samples_of_bits-fewer modem (total - length sent) (tick_bits modem) (omega arith) in
    let all : zeros + (96 - zeros) ≡ 96 = omega (arith, few, samples_of_bits-tick modem) in
    let same : samples_on_air t ≡ all_sent =
    samples_on_air-is t ∙ ap (λ m. modem_wave m (line (bits_of t))) is
    ∙ ap (λ xs. modem_wave modem (line xs)) (sym whole ∙ ap (λ xs. sent ++ xs) over ∙ append-nil sent) in (
      replicate (96 - zeros) (pos 0),
      ap (λ xs. xs ++ replicate 96 (pos 0)) same
          ∙ ap (λ n. all_sent ++ replicate n (pos 0)) (sym all)
          ∙ ap (λ xs. all_sent ++ xs) (sym (replicate-append-replicate zeros (96 - zeros) (pos 0)))
          ∙ sym (append_assoc all_sent (replicate zeros (pos 0)) (replicate (96 - zeros) (pos 0))),
    )
first_samples modem total t sent rest is whole short (inr full) near =
    let later = wave-append modem sent rest in
    let same : samples_on_air t ≡ modem_wave modem (line sent) ++ later.0 =
    samples_on_air-is t ∙ ap (λ m. modem_wave m (line (bits_of t))) is
    ∙ ap (λ xs. modem_wave modem (line xs)) (sym whole) ∙ later.1 in (
      later.0 ++ replicate 96 (pos 0),
      ap (λ xs. xs ++ replicate 96 (pos 0)) same
          ∙ append_assoc (modem_wave modem (line sent)) later.0 (replicate 96 (pos 0))
          ∙ ap (λ xs. xs ++ (later.0 ++ replicate 96 (pos 0))) (sym (padded-full modem total sent full)),
    )

-- the part of a list that stands between two others
middle : (before part after all : List ℤ) (start size : ℕ) → all ≡ (before ++ part) ++ after → length before ≡ start
    → length part ≡ size → part ≡ take size (drop start all)
middle before part after all start size whole is_start is_size =
    sym (
    ap (λ xs. take size (drop start xs)) (whole ∙ append_assoc before part after)
    ∙ ap (λ n. take size (drop n (before ++ (part ++ after)))) (sym is_start)
    ∙ ap (take size) (drop-append_seam before (part ++ after))
    ∙ ap (λ n. take n (part ++ after)) (sym is_size) ∙ take-append_seam part after
    )

-- ---- a transmission between two ticks

-- nothing is decided or named before the first bit of a tick
module _ (bits : ℕ) (waiting : List WaitingFrame) (t : OnAir) where
  pub record StartsTick : Type 0 where
    pub goes : has_sent_frames bits t ≡ false
    pub flag : names_next bits t ≡ false

starts_tick : (stage : Stage) (waiting : List WaitingFrame) (t : OnAir) (total : ℕ) (sent : List Bool)
    → Stands stage waiting t sent → Counts stage total sent → All (λ frame. HasFrameLength frame.octets) waiting
    → StartsTick total waiting t
starts_tick (Opening left) waiting t total sent h count fit =
    let some : 1 ≤ left = h.some in
    let end = opening_end left t total sent h count in
    record {
      goes = frames_go_on total t (omega arith);
      flag = all_named total t (opening_named left t total sent h count);
    }
starts_tick (Frame f) [] t total sent h count fit = absurd h
starts_tick (Frame f) (front ∷ others) t total sent h count fit =
    let later = end_later f front t total sent h count in
    record { goes = frames_go_on total t (omega arith); flag = flag_not_yet f front t total sent h count total later }
starts_tick (Following left true) [] t total sent h count fit = absurd h
starts_tick (Following left true) (front ∷ []) t total sent h count fit = absurd h
starts_tick (Following left true) (front ∷ next ∷ others) t total sent h count fit =
    let some : 1 ≤ left = h.some in
    let there = flag_there_at left front (next.octets ∷ []) false t total sent h count in
    let following = frames_end-next t h.past front.octets next.octets h.frames h.named in
    record { goes = frames_go_on total t (omega arith); flag = flag_goes_on total t (omega arith) }
starts_tick (Following left false) [] t total sent h count fit = absurd h
starts_tick (Following left false) (front ∷ others) t total sent h count fit =
    let some : 1 ≤ left = h.some in
    let there = flag_there_at left front [] true t total sent h count in
    record { goes = frames_ended total t h.ends; flag = flag_goes_on total t (omega arith) }
starts_tick (Closing left) waiting t total sent h count fit =
    record { goes = frames_ended total t h.ends; flag = all_named total t h.named }
starts_tick Over waiting t total sent h count fit =
    record { goes = frames_ended total t h.ends; flag = all_named total t h.named }

-- the count of ticks is no matter
pub retick : (stage : Stage) (waiting : List WaitingFrame) (t : OnAir) (ticks : ℕ) (sent : List Bool)
    → Stands stage waiting t sent
    → Stands stage waiting (record t { ticks = ticks }) sent
retick (Opening left) waiting t ticks sent h =
    record { some = h.some; bits = h.bits; frames = h.frames; ends = h.ends; named = h.named }
retick (Frame f) [] t ticks sent h = h
retick (Frame f) (front ∷ others) t ticks sent h =
    record { past = h.past; some = h.some; bits = h.bits; frames = h.frames; ends = h.ends; named = h.named }
retick (Following left true) [] t ticks sent h = h
retick (Following left true) (front ∷ []) t ticks sent h = h
retick (Following left true) (front ∷ next ∷ others) t ticks sent h =
    record { past = h.past; some = h.some; bits = h.bits; frames = h.frames; ends = h.ends; named = h.named }
retick (Following left false) [] t ticks sent h = h
retick (Following left false) (front ∷ others) t ticks sent h =
    record { past = h.past; some = h.some; bits = h.bits; frames = h.frames; ends = h.ends; named = h.named }
retick (Closing left) waiting t ticks sent h = record { some = h.some; bits = h.bits; ends = h.ends; named = h.named }
retick Over waiting t ticks sent h = record { bits = h.bits; ends = h.ends; named = h.named }

-- nor is it changed by what is decided and named
ticks-followed_by : (others : List WaitingFrame) (t : OnAir) → (followed_by others t).ticks ≡ t.ticks
ticks-followed_by [] t = refl
ticks-followed_by (next ∷ others) t =
    by_test (λ (u : OnAir). u.ticks ≡ t.ticks) (ltb (length t.frames) most_frames) _ _ (λ _. refl) (λ _. refl)

pub ticks-decided : (bits : ℕ) (waiting : List WaitingFrame) (t : OnAir) → (decided bits waiting t).ticks ≡ t.ticks
ticks-decided bits waiting t =
    by_test (λ (u : OnAir). u.ticks ≡ t.ticks) (has_sent_frames bits t) (followed_by (waiting_after t waiting) t) t
    (λ _. ticks-followed_by (waiting_after t waiting) t) (λ _. refl)

ticks-with_named : (bits : ℕ) (t : OnAir) → (with_named bits t).ticks ≡ t.ticks
ticks-with_named bits t =
    by_test (λ (u : OnAir). u.ticks ≡ t.ticks) (names_next bits t)
    (record t { named = t.named + 1 }) t (λ _. refl) (λ _. refl)

module _ (s : Sending) (waiting : List WaitingFrame) (t : OnAir) (g : Goes s waiting t)
    (fit : All (λ frame. HasFrameLength frame.octets) waiting) where
  abbrev before : ℕ
  before = bits_of_ticks t.modem t.ticks

  at_start : AtBit before waiting t g.sent before (tick_start s waiting)
  at_start =
      let total : ℕ = before in
      let st = starts_tick s.stage waiting t total g.sent g.sends.stands g.sends.count fit in
      let P : OnAir → Type 0 = λ u. Sends s waiting u total g.sent in
      let is : decided total waiting t ≡ t = cond-false (has_sent_frames total t) _ t st.goes in
      record {
        more = g.sent;
        sends = subst P (sym (same_now total waiting t st.goes st.flag)) g.sends;
        is_waiting = sym (same_waiting total waiting t st.goes st.flag);
        is_sent = sym (ap (sent_at t.modem total total) is ∙ cond-false (names_next total t) _ None st.flag);
        grows = omega arith;
        samples = sym (append-nil (padded t.modem total g.sent));
      }

  -- by the modem of the transmission, which is that of the sender
  ends_at : AtBit before waiting t g.sent (before + tick_bits t.modem) (with_bits t.modem (tick_bits t.modem)
      (tick_start s waiting))
  ends_at =
      let may = may_come s.stage waiting t before g.sent g.sends.stands g.sends.count fit in
      let most = tick_bits-most t.modem in
      bits_more before s waiting t g.sent fit (before + 12) may at_start (tick_bits t.modem) (omega arith)

  pub at_end : AtBit before waiting t g.sent (bits_then t) (run_of s waiting)
  at_end =
      let P : Modem → Type 0 = λ modem. AtBit before waiting t g.sent (bits_then t) (with_bits modem (tick_bits modem)
      (tick_start s waiting)) in
      let Q : ℕ → Type 0 = λ n. AtBit before waiting t g.sent n (with_bits t.modem (tick_bits t.modem)
      (tick_start s waiting)) in
      subst P (sym (sends_by s waiting t before g.sent g.sends))
      (subst Q (sym (bits_of_ticks-more t.modem t.ticks)) ends_at)

  abbrev run : Run
  run = run_of s waiting

  abbrev decided_then : OnAir
  decided_then = decided (bits_then t) waiting t

  abbrev then_on_air : OnAir
  then_on_air = now_at (bits_then t) waiting t

  pub run_fits : All (λ frame. HasFrameLength frame.octets) run.waiting
  run_fits =
      let P : List WaitingFrame → Type 0 = λ w. All (λ frame. HasFrameLength frame.octets) w in
      subst P (sym at_end.is_waiting) (all_waiting (bits_then t) decided_then waiting fit)

  what_is_left : (rest : List Bool) × IsLeft run.sending.stage then_on_air at_end.more rest
  what_is_left =
      let closes = le-max_left 1 (flags_in then_on_air.modem run.sending.tail) in
      is_left run.sending.stage run.waiting then_on_air at_end.more at_end.sends.stands run_fits
      (omega (arith, at_end.sends.closing))

  pub same_ticks : then_on_air.ticks ≡ t.ticks
  same_ticks = ticks-with_named (bits_then t) decided_then ∙ ticks-decided (bits_then t) waiting t

  pub same_modem : then_on_air.modem ≡ t.modem
  same_modem = modem-now_at (bits_then t) waiting t

  -- the bits that are sent with the next tick
  pub same_bits : bits_then then_on_air ≡ bits_then t
  same_bits =
      ap (λ modem. bits_of_ticks modem (then_on_air.ticks + 1)) same_modem
      ∙ ap (λ n. bits_of_ticks t.modem (n + 1)) same_ticks

  pub full_before : length g.sent ≡ bits_of_ticks t.modem t.ticks
  full_before = all_sent s.stage before g.sent g.sends.count g.left

  pub run_samples : run.samples ≡ tick_samples decided_then
  unfolding tick_samples
  run_samples =
      let b = at_end in
      let left = what_is_left in
      let short = no_more_sent run.sending.stage (bits_then t) b.more b.sends.count in
      let full = full_before in
      let ended : (left.0 ≡ []) ⊎ (length b.more ≡ bits_then t) =
      elim (cases_Bool (stage_over run.sending.stage)) [
        | inl over ↦ inl (left.1.none over)
        | inr goes ↦ inr (all_sent run.sending.stage (bits_then t) b.more b.sends.count goes)
      ] in
      let adds = bits_of_ticks-more t.modem t.ticks in
      let first = first_samples t.modem (bits_then t) then_on_air b.more left.0 same_modem left.1.whole short ended
      (omega (arith, b.grows, full, adds)) in
      let same : samples_on_air decided_then ≡ samples_on_air then_on_air =
      samples_on_air-is decided_then
      ∙ ap (λ xs. modem_wave decided_then.modem (line xs)) (sym (bits_of-with_named (bits_then t) decided_then))
      ∙ ap (λ m. modem_wave m (line (bits_of then_on_air))) (sym (modem-with_named (bits_then t) decided_then))
      ∙ sym (samples_on_air-is then_on_air) in
      let whole : samples_on_air decided_then ++ replicate 96 (pos 0) ≡
      (padded t.modem before g.sent ++ run.samples) ++ first.0 =
      ap (λ xs. xs ++ replicate 96 (pos 0)) same ∙ first.1 ∙ ap (λ xs. xs ++ first.0) b.samples in
      let size_before : length (padded t.modem before g.sent) ≡ 96 * t.ticks =
      length-padded t.modem before g.sent (omega arith) ∙ samples_of_bits-ticks t.modem t.ticks in
      let size_then : length (padded t.modem (bits_then t) b.more) ≡ 96 * (t.ticks + 1) =
      length-padded t.modem (bits_then t) b.more short ∙ samples_of_bits-ticks t.modem (t.ticks + 1) in
      let ticks : 96 * (decided (bits_then t) waiting t).ticks ≡ 96 * t.ticks =
      ap (λ n. 96 * n) (ticks-decided (bits_then t) waiting t) in
      middle (padded t.modem before g.sent) run.samples first.0 (samples_on_air decided_then ++ replicate 96 (pos 0))
      (96 * decided_then.ticks) 96 whole (omega arith)
      (omega (arith, ap length b.samples, length-append (padded t.modem before g.sent) run.samples))

  pub run_sent : run.sent ≡ frame_named (bits_then t) decided_then
  run_sent =
      let by : t.modem ≡ decided_then.modem = sym (modem-decided (bits_then t) waiting t) in
      let ticks : before ≡ bits_of_ticks decided_then.modem decided_then.ticks =
      ap (λ modem. bits_of_ticks modem t.ticks) by
      ∙ ap (bits_of_ticks decided_then.modem) (sym (ticks-decided (bits_then t) waiting t)) in
      at_end.is_sent ∙ ap (λ modem. sent_at modem before (bits_then t) decided_then) by
      ∙ ap (λ n. sent_at decided_then.modem n (bits_then t) decided_then) ticks

  -- if something is left
  unfoldable pub goes_on : stage_over run.sending.stage ≡ false
      → Goes run.sending run.waiting (record then_on_air { ticks = then_on_air.ticks + 1 })
  goes_on goes =
      let b = at_end in
      let next : OnAir = record then_on_air { ticks = then_on_air.ticks + 1 } in
      let P : ℕ → Type 0 = λ n. Sends run.sending run.waiting next n b.more in
      record {
        sent = b.more;
        sends = subst P (sym same_bits) (record {
          stands = retick run.sending.stage run.waiting then_on_air (then_on_air.ticks + 1) b.more b.sends.stands;
          count = b.sends.count;
          frames = b.sends.frames;
          closing = b.sends.closing;
          tone = b.sends.tone;
          wave = b.sends.wave;
        });
        left = goes;
      }

  pub run_air : StandsForAir (going_on run.sending) run.waiting (with_tick then_on_air)
  run_air =
      let b = at_end in
      let left = what_is_left in
      let size : length (bits_of then_on_air) ≡ length b.more + length left.0 =
      ap length (sym left.1.whole) ∙ length-append b.more left.0 in
      let short = no_more_sent run.sending.stage (bits_then t) b.more b.sends.count in
      let same : bits_then then_on_air ≡ bits_then t = same_bits in
      let P : Option Sending → Type 0 = λ x. StandsForAir x run.waiting (with_tick then_on_air) in
      elim (cases_Bool (stage_over run.sending.stage)) [
        | inl over ↦
            let Q : Option OnAir → Type 0 = λ y. StandsForAir None run.waiting y in
            let none : length left.0 ≡ 0 = ap length (left.1.none over) in
            let all : leb (length (bits_of then_on_air)) (bits_then then_on_air) ≡ true =
            le-leb (length (bits_of then_on_air)) (bits_then then_on_air) (omega arith) in
            subst P (sym (cond-true (stage_over run.sending.stage) None (Some run.sending) over))
            (subst Q (sym (cond-true (leb (length (bits_of then_on_air)) (bits_then then_on_air)) None _ all)) tt)
        | inr goes ↦
            let Q : Option OnAir → Type 0 = λ y. StandsForAir (Some run.sending) run.waiting y in
            let more : 1 ≤ length left.0 = left.1.some goes in
            let full : length b.more ≡ bits_then t =
            all_sent run.sending.stage (bits_then t) b.more b.sends.count goes in
            let later : leb (length (bits_of then_on_air)) (bits_then then_on_air) ≡ false =
            lt-leb (length (bits_of then_on_air)) (bits_then then_on_air) (omega arith) in
            subst P (sym (cond-false (stage_over run.sending.stage) None (Some run.sending) goes))
            (subst Q (sym (cond-false (leb (length (bits_of then_on_air)) (bits_then then_on_air)) None _ later))
            (goes_on goes))
      ]
