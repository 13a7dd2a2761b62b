-- What a transmission is as a whole, over all its ticks.
use Rattle.channel_access.proofs.Common.{◌≡◌, ℕ, ◌+◌, ◌*◌, ◌≤◌, Bool, true, false, not, ◌&&◌, cond, eqb, leb, ltb, ℤ}
use Rattle.channel_access.proofs.Common.{pos, List, [], ◌∷◌, ◌++◌, length, take, drop, replicate, refl, ap, ◌∙◌, sym}
use Rattle.channel_access.proofs.Common.{inl, inr, arith, append_assoc, append-nil, cases_Bool, take-append-le}
use Rattle.channel_access.proofs.Common.{transmission_by, samples_of_bits, flags, body_by, piece, flag, line}
use Rattle.channel_access.proofs.Common.{length-line_from, Mark, WaitingFrame, OnAir, bits_then, bits_of}
use Rattle.channel_access.proofs.Common.{Modem, samples_on_air, frames_end, has_sent_frames, followed_by, decided}
use Rattle.channel_access.proofs.Common.{tick_samples, most_frames, waiting_after}
use Rattle.std.proofs.lemmas.List.{drop-append-le, length-drop}
use Rattle.channel_access.proofs.BodyLemmas.{body-closing, joined-more}
use Rattle.channel_access.proofs.StageLemmas.{by_test}
use Rattle.channel_access.proofs.ModemLemmas.{samples_of_bits-ticks, samples_of_bits-fewer, modem_wave}
use Rattle.channel_access.proofs.ModemLemmas.{length-modem_wave}
use Rattle.channel_access.proofs.AirLemmas.{open_bits, closed_bits, samples_on_air-is, wave-append}

-- the closing flags come after all frames
closes_adds : (t : OnAir) → t.ends ≡ false
    → (rest : List Bool) × (bits_of (record t { ends = true }) ≡ bits_of t ++ rest)
closes_adds t goes = (
  flags t.closing,
  sym (closed_bits (record t { ends = true }) refl) ∙ body-closing t.modem t.frames t.opening t.closing
      ∙ ap (λ xs. xs ++ flags t.closing) (open_bits t goes),
)

-- a frame ends only where it is open what follows
open_when_ended : (bits : ℕ) (t : OnAir) → has_sent_frames bits t ≡ true → t.ends ≡ false
open_when_ended bits t ended =
    elim (cases_Bool t.ends) [
      | inl ends ↦
          let never : has_sent_frames bits t ≡ false = ap (λ b. not b && leb (frames_end t) bits) ends in
          let both : true ≡ false = sym ended ∙ never in
          cc
      | inr goes ↦ goes
    ]

-- another frame comes after all frames
body-one_more : (modem : Modem) (frames : List (List ℕ)) (octets : List ℕ) (opening : ℕ)
    → (rest : List Bool)
    × (body_by modem (frames ++ octets ∷ []) opening 0 ≡ body_by modem frames opening 0 ++ rest)
unfolding body_by
body-one_more modem frames octets opening =
    let last : List Bool = cond (eqb (length frames) 0) (piece modem octets) (flag ++ piece modem octets) in (
      last,
      ap (λ xs. flags opening ++ (xs ++ [])) (joined-more modem frames octets) ∙ simp (append_assoc, append-nil),
    )

followed_adds : (others : List WaitingFrame) (t : OnAir) → t.ends ≡ false
    → (rest : List Bool) × (bits_of (followed_by others t) ≡ bits_of t ++ rest)
followed_adds [] t goes = closes_adds t goes
followed_adds (next ∷ others) t goes =
    by_test (λ (u : OnAir). (rest : List Bool) × (bits_of u ≡ bits_of t ++ rest)) (ltb
    (length t.frames) most_frames) _ _
    (λ few.
    let more = body-one_more t.modem t.frames next.octets t.opening in (
      more.0,
      sym (open_bits (record t { frames = t.frames ++ next.octets ∷ [] }) goes) ∙ more.1
          ∙ ap (λ xs. xs ++ more.0) (open_bits t goes),
    ))
    (λ many. closes_adds t goes)

pub decided_adds : (bits : ℕ) (waiting : List WaitingFrame) (t : OnAir)
    → (rest : List Bool) × (bits_of (decided bits waiting t) ≡ bits_of t ++ rest)
decided_adds bits waiting t =
    by_test (λ (u : OnAir). (rest : List Bool) × (bits_of u ≡ bits_of t ++ rest)) (has_sent_frames bits t)
    (followed_by (waiting_after t waiting) t) t
    (λ ended. followed_adds (waiting_after t waiting) t (open_when_ended bits t ended))
    (λ _. ([], sym (append-nil (bits_of t))))

pub whole_at_end : (t : OnAir) → t.ends ≡ true → samples_on_air t
    ≡ transmission_by t.modem t.frames t.opening t.closing
unfolding samples_on_air
whole_at_end t ends = ap (λ b. transmission_by t.modem t.frames t.opening (cond b t.closing 0)) ends

length-samples_on_air : (t : OnAir) → length (samples_on_air t) ≡ samples_of_bits t.modem (length (bits_of t))
length-samples_on_air t =
    ap length (samples_on_air-is t) ∙ length-modem_wave t.modem (line (bits_of t))
    ∙ ap (samples_of_bits t.modem) (length-line_from Mark (bits_of t))

-- a part of a list is there with anything after the list
part_still : (xs ys : List ℤ) (start size : ℕ) → start + size ≤ length xs
    → take size (drop start (xs ++ ys)) ≡ take size (drop start xs)
part_still xs ys start size within =
    ap (take size) (drop-append-le start xs ys (omega arith))
    ∙ take-append-le size (drop start xs) ys (omega (arith, length-drop start xs))

pub tick_in_whole : (t whole : OnAir) (rest : List Bool) → whole.modem ≡ t.modem → bits_of whole ≡ bits_of t ++ rest
    → bits_then t ≤ length (bits_of t)
    → tick_samples t ≡ take 96 (drop (96 * t.ticks) (samples_on_air whole))
unfolding tick_samples
tick_in_whole t whole rest same_modem adds within =
    let later = wave-append t.modem (bits_of t) rest in
    let all : samples_on_air whole ≡ samples_on_air t ++ later.0 =
    samples_on_air-is whole ∙ ap (λ m. modem_wave m (line (bits_of whole))) same_modem
    ∙ ap (λ xs. modem_wave t.modem (line xs)) adds ∙ later.1
    ∙ ap (λ xs. xs ++ later.0) (sym (samples_on_air-is t)) in
    let ticks = samples_of_bits-ticks t.modem (t.ticks + 1) in
    let fewer = samples_of_bits-fewer t.modem (bits_then t) (length (bits_of t)) within in
    let long : 96 * t.ticks + 96 ≤ length (samples_on_air t) = omega (arith, ticks, fewer, length-samples_on_air t) in
    part_still (samples_on_air t) (replicate 96 (pos 0)) (96 * t.ticks) 96 long
    ∙ sym (ap (λ xs. take 96 (drop (96 * t.ticks) xs)) all ∙ part_still (samples_on_air t) later.0 (96 * t.ticks) 96 long)
