-- One bit of a sender, with its samples.
use Rattle.channel_access.proofs.Common.{◌≡◌, ℕ, ◌+◌, ◌-◌, ◌≤◌, Bool, true, Option, ℤ, pos, List, [], ◌∷◌, ◌++◌}
use Rattle.channel_access.proofs.Common.{length, replicate, refl, ap, ◌∙◌, sym, subst, inl, inr, arith, length-append}
use Rattle.channel_access.proofs.Common.{append_assoc, append-nil, All, replicate-append-replicate, Mark, line}
use Rattle.channel_access.proofs.Common.{length-line_from, Sending, Stage, Opening, Frame, Following, Closing, Over}
use Rattle.channel_access.proofs.Common.{WaitingFrame, HasFrameLength, OnAir, names_next, decided, flag_end, Step}
use Rattle.channel_access.proofs.Common.{step_of, with_step, following_bit, window_of, Sends, Counts, closing_flags}
use Rattle.channel_access.proofs.Common.{Modem, Tone, samples_of_bits, modem_of, wave_after, wave_window}
use Rattle.std.proofs.lemmas.List.{length-replicate}
use Rattle.nrzi_bits.specs.Line.{sent_tone, last_tone}
use Rattle.nrzi_bits.proofs.LineLemmas.{line-push, last_tone-push}
use Rattle.channel_access.proofs.ModemLemmas.{samples_of_bits-none, samples_of_bits-more, modem_wave, modem_wave-push}
use Rattle.channel_access.proofs.ModemLemmas.{length-modem_wave, wave_after-push, modem_of-following}
use Rattle.channel_access.proofs.StageLemmas.{Steps, IsOver, stage_cases, now_at, waiting_at, named_at}

-- the samples of the bits sent so far, and zeros if there were none
unfoldable pub padded : Modem → ℕ → List Bool → List ℤ
padded modem total sent =
    modem_wave modem (line sent) ++ replicate (samples_of_bits modem (total - length sent)) (pos 0)

pub padded-full : (modem : Modem) (total : ℕ) (sent : List Bool) → length sent ≡ total
    → padded modem total sent ≡ modem_wave modem (line sent)
unfolding padded
padded-full modem total sent full =
    let none : total - length sent ≡ 0 = omega arith in
    ap (λ n. modem_wave modem (line sent) ++ replicate n (pos 0))
    (ap (samples_of_bits modem) none ∙ samples_of_bits-none modem) ∙ append-nil (modem_wave modem (line sent))

pub length-padded : (modem : Modem) (total : ℕ) (sent : List Bool) → length sent ≤ total
    → length (padded modem total sent) ≡ samples_of_bits modem total
unfolding padded
length-padded modem total sent short =
    let all : length sent + (total - length sent) ≡ total = omega arith in
    omega (
      arith,
      length-append (modem_wave modem (line sent)) (replicate (samples_of_bits modem (total - length sent)) (pos 0)),
      length-modem_wave modem (line sent),
      ap (samples_of_bits modem) (length-line_from Mark sent),
      length-replicate (samples_of_bits modem (total - length sent)) (pos 0),
      samples_of_bits-more modem (length sent) (total - length sent),
      ap (samples_of_bits modem) all,
    )

-- the modem of a sender
pub sends_by : (s : Sending) (waiting : List WaitingFrame) (t : OnAir) (total : ℕ) (sent : List Bool)
    → Sends s waiting t total sent → modem_of s.wave ≡ t.modem
sends_by s waiting t total sent h = ap modem_of h.wave ∙ modem_of-following t.modem (line sent)

counts_all : (stage : Stage) (total : ℕ) (sent : List Bool) → length sent ≡ total → Counts stage total sent
counts_all (Opening left) total sent is = is
counts_all (Frame f) total sent is = is
counts_all (Following left another) total sent is = is
counts_all (Closing left) total sent is = is
counts_all Over total sent is = omega arith

-- a sender with the step that it makes
pub record SendsMore (s : Sending) (waiting : List WaitingFrame) (t : OnAir) (total : ℕ) (sent : List Bool)
    (step : Step)
    : Type 0 where
  pub now : OnAir
  pub more : List Bool
  pub is_now : now_at (total + 1) waiting t ≡ now
  pub is_waiting : waiting_at (total + 1) waiting t ≡ step.waiting
  pub is_named : named_at (total + 1) waiting t ≡ step.named
  pub place : names_next (total + 1) (decided (total + 1) waiting t) ≡ true
      → flag_end ((decided (total + 1) waiting t).named + 1) (decided (total + 1) waiting t) ≡ total + 1
  pub sends : Sends (following_bit (with_step s step) step.bit) step.waiting now (total + 1) more
  pub grows : length sent ≤ length more
  pub samples : padded t.modem (total + 1) more ≡ padded t.modem total sent ++ window_of (with_step s step) step.bit
  pub modem : now.modem ≡ t.modem

module _ (s : Sending) (waiting : List WaitingFrame) (t : OnAir) (total : ℕ) (sent : List Bool)
    (h : Sends s waiting t total sent) (step : Step) where
  -- with a bit
  with_one : Steps waiting t total sent step → length sent ≡ total → SendsMore s waiting t total sent step
  unfolding window_of
  with_one st count =
      let bit = st.bit in
      let more : List Bool = sent ++ bit ∷ [] in
      let tone : Tone = sent_tone s.line bit in
      let lined : line more ≡ line sent ++ tone ∷ [] = line-push s.line sent bit tone h.tone refl in
      let longer : length more ≡ total + 1 = omega (arith, length-append sent (bit ∷ [])) in
      let P : Option Bool → Type 0 =
      λ o. Sends (following_bit (with_step s step) o) step.waiting st.now (total + 1) more in
      record {
        now = st.now;
        more = more;
        is_now = st.is_now;
        is_waiting = st.is_waiting;
        is_named = st.is_named;
        place = st.place;
        sends = subst P (sym st.is_bit) (record {
          stands = st.stands;
          count = counts_all step.stage (total + 1) more longer;
          frames = st.frames;
          closing = st.closing ∙ h.closing ∙ ap (λ m. closing_flags m s.tail) (sym st.modem);
          tone = sym (ap last_tone lined ∙ last_tone-push (line sent) tone);
          wave = wave_after-push t.modem (line sent) tone s.wave h.wave ∙ ap (wave_after t.modem) (sym lined)
              ∙ ap (λ m. wave_after m (line more)) (sym st.modem);
        });
        grows = omega (arith, length-append sent (bit ∷ []));
        samples =
            padded-full t.modem (total + 1) more longer ∙ ap (modem_wave t.modem) lined
            ∙ modem_wave-push t.modem (line sent) tone s.wave h.wave
            ∙ ap (λ xs. xs ++ wave_window s.wave tone) (sym (padded-full t.modem total sent count))
            ∙ ap (λ o. padded t.modem total sent ++ window_of (with_step s step) o) (sym st.is_bit);
        modem = st.modem;
      }

  -- with none
  with_none : IsOver waiting t total sent s.frames step → SendsMore s waiting t total sent step
  unfolding window_of padded
  with_none over =
      let before : ℕ = samples_of_bits t.modem (total - length sent) in
      let one : ℕ = samples_of_bits t.modem 1 in
      let later : (total + 1) - length sent ≡ (total - length sent) + 1 = omega (arith, over.short) in
      let longer : samples_of_bits t.modem ((total + 1) - length sent) ≡ before + one =
      ap (samples_of_bits t.modem) later ∙ samples_of_bits-more t.modem (total - length sent) 1 in
      let P : Step → Type 0 = λ x. SendsMore s waiting t total sent x in
      subst P (sym over.is) (record {
        now = t;
        more = sent;
        is_now = over.is_now;
        is_waiting = over.is_waiting;
        is_named = over.is_named;
        place = over.place;
        sends = record {
          stands = over.all;
          count = omega (arith, over.short);
          frames = h.frames;
          closing = h.closing;
          tone = h.tone;
          wave = h.wave;
        };
        grows = omega arith;
        samples =
            ap (λ n. modem_wave t.modem (line sent) ++ replicate n (pos 0)) longer
            ∙ ap (λ xs. modem_wave t.modem (line sent) ++ xs) (sym (replicate-append-replicate before one (pos 0)))
            ∙ sym (append_assoc (modem_wave t.modem (line sent)) (replicate before (pos 0)) (replicate one (pos 0)))
            ∙ ap (λ m. (modem_wave t.modem (line sent) ++ replicate before (pos 0))
            ++ replicate (samples_of_bits m 1) (pos 0)) (sym (sends_by s waiting t total sent h));
        modem = refl;
      })

-- one bit more
pub sends_more : (s : Sending) (waiting : List WaitingFrame) (t : OnAir) (total : ℕ) (sent : List Bool)
    → Sends s waiting t total sent → All (λ frame. HasFrameLength frame.octets) waiting
    → SendsMore s waiting t total sent (step_of s waiting)
unfolding step_of
sends_more s waiting t total sent h fit =
    let closes : t.closing ≡ closing_flags (modem_of s.wave) s.tail =
    h.closing ∙ ap (λ m. closing_flags m s.tail) (sym (sends_by s waiting t total sent h)) in
    elim (stage_cases s.stage waiting t total sent (modem_of s.wave) s.tail s.frames h.stands h.count fit
    (sends_by s waiting t total sent h) h.frames closes) [
      | inl given ↦ with_one s waiting t total sent h _ given.steps given.count
      | inr over ↦ with_none s waiting t total sent h _ over
    ]
