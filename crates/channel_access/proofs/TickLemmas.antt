-- The bits of a tick, from its first one on.
use Rattle.channel_access.proofs.Common.{◌≡◌, ℕ, zero, suc, ◌+◌, ◌-◌, ◌≤◌, Bool, true, cond, Option, Some, None, ℤ}
use Rattle.channel_access.proofs.Common.{List, [], ◌∷◌, ◌++◌, length, get_or, drop, refl, ap, ◌∙◌, sym, subst, inl, inr}
use Rattle.channel_access.proofs.Common.{arith, append_assoc, All, cases_Bool, cond-true, cond-false, nat_tests}
use Rattle.channel_access.proofs.Common.{All-tail, Sent, Sending, WaitingFrame, HasFrameLength, OnAir, decided}
use Rattle.channel_access.proofs.Common.{names_next, with_named, waiting_with_named, flag_end, Run, step_of, with_step}
use Rattle.channel_access.proofs.Common.{following_bit, window_of, sent_with, with_bit, with_bits, tick_start, Sends}
use Rattle.channel_access.proofs.Common.{Modem, samples_of_bits, followed_by, has_sent_frames, waiting_after}
use Rattle.channel_access.proofs.Common.{most_frames, ltb}
use Rattle.channel_access.proofs.StageLemmas.{now_at, waiting_at, named_at, named_of, same_now, same_waiting}
use Rattle.channel_access.proofs.StageLemmas.{none_named, by_test}
use Rattle.channel_access.proofs.SendingLemmas.{SendsMore, sends_more, padded}
use Rattle.channel_access.proofs.JoinLemmas.{MayCome, IsBefore, IsAfter, at_next, next_named}

-- the frame named by then, with the samples since the beginning of the tick, when so many bits were sent
abbrev pub sent_at : Modem → ℕ → ℕ → OnAir → Option Sent
sent_at modem total bits t =
    cond (names_next bits t) (Some (record {
      octets = get_or t.frames t.named [];
      after = samples_of_bits modem (flag_end (t.named + 1) t - total);
    })) None

all_after : (waiting : List WaitingFrame) → All (λ frame. HasFrameLength frame.octets) waiting
    → All (λ frame. HasFrameLength frame.octets) (drop 1 waiting)
all_after [] fit = fit
all_after (front ∷ others) fit = All-tail (λ (frame : WaitingFrame). HasFrameLength frame.octets) front others fit

pub all_waiting : (bits : ℕ) (t : OnAir) (waiting : List WaitingFrame)
    → All (λ frame. HasFrameLength frame.octets) waiting
    → All (λ frame. HasFrameLength frame.octets) (waiting_with_named bits t waiting)
all_waiting bits t waiting fit =
    by_test (λ (w : List WaitingFrame). All (λ frame. HasFrameLength frame.octets) w) (names_next bits t)
    (drop 1 waiting) waiting
    (λ _. all_after waiting fit) (λ _. fit)

-- what is decided and named changes no modem
modem-followed_by : (others : List WaitingFrame) (t : OnAir) → (followed_by others t).modem ≡ t.modem
modem-followed_by [] t = refl
modem-followed_by (next ∷ others) t =
    by_test (λ (u : OnAir). u.modem ≡ t.modem) (ltb (length t.frames) most_frames) _ _ (λ _. refl) (λ _. refl)

pub modem-decided : (bits : ℕ) (waiting : List WaitingFrame) (t : OnAir) → (decided bits waiting t).modem ≡ t.modem
modem-decided bits waiting t =
    by_test (λ (u : OnAir). u.modem ≡ t.modem) (has_sent_frames bits t) (followed_by (waiting_after t waiting) t) t
    (λ _. modem-followed_by (waiting_after t waiting) t) (λ _. refl)

pub modem-with_named : (bits : ℕ) (t : OnAir) → (with_named bits t).modem ≡ t.modem
modem-with_named bits t =
    by_test (λ (u : OnAir). u.modem ≡ t.modem) (names_next bits t) (record t { named = t.named + 1 }) t (λ _. refl)
    (λ _. refl)

pub modem-now_at : (bits : ℕ) (waiting : List WaitingFrame) (t : OnAir) → (now_at bits waiting t).modem ≡ t.modem
modem-now_at bits waiting t = modem-with_named bits (decided bits waiting t) ∙ modem-decided bits waiting t

-- a flag that has ended stays so
still_named : (bits : ℕ) (t : OnAir) → names_next bits t ≡ true → names_next (bits + 1) t ≡ true
still_named bits t is = grind (arith, nat_tests)

-- A run at so many bits of a transmission t and of frames that wait, as they were when so many bits in all were sent.
pub record AtBit (total : ℕ) (waiting : List WaitingFrame) (t : OnAir) (first : List Bool) (bits : ℕ)
    (run : Run) : Type 0 where
  pub more : List Bool
  pub sends : Sends run.sending run.waiting (now_at bits waiting t) bits more
  pub is_waiting : run.waiting ≡ waiting_at bits waiting t
  pub is_sent : run.sent ≡ sent_at t.modem total bits (decided bits waiting t)
  pub grows : length first ≤ length more
  pub samples : padded t.modem bits more ≡ padded t.modem total first ++ run.samples

module _ (total : ℕ) (waiting : List WaitingFrame) (t : OnAir) (first : List Bool) (bits count : ℕ) (run : Run)
    (h : AtBit total waiting t first bits run) (at : bits ≡ total + count) where
  -- the sender with the next bit, if that is what is so then
  next_bit : (m : SendsMore run.sending run.waiting (now_at bits waiting t) bits h.more
      (step_of run.sending run.waiting))
      → now_at (bits + 1) waiting t ≡ m.now
      → (step_of run.sending run.waiting).waiting ≡ waiting_at (bits + 1) waiting t
      → sent_with t.modem (step_of run.sending run.waiting).named (count + 1) run.sent
      ≡ sent_at t.modem total (bits + 1) (decided (bits + 1) waiting t)
      → AtBit total waiting t first (bits + 1) (with_bit t.modem count run)
  unfolding with_bit
  next_bit m is_now is_waiting is_sent =
      let step = step_of run.sending run.waiting in
      let window : List ℤ = window_of (with_step run.sending step) step.bit in
      let P : OnAir → Type 0 =
      λ u. Sends (following_bit (with_step run.sending step) step.bit) step.waiting u (bits + 1) m.more in
      let one_more : padded t.modem (bits + 1) m.more ≡ padded t.modem bits h.more ++ window =
      subst (λ modem. padded modem (bits + 1) m.more ≡ padded modem bits h.more ++ window)
      (modem-now_at bits waiting t) m.samples in
      record {
        more = m.more;
        sends = subst P (sym is_now) m.sends;
        is_waiting = is_waiting;
        is_sent = is_sent;
        grows = omega (arith, h.grows, m.grows);
        samples = one_more ∙ ap (λ xs. xs ++ window) h.samples
            ∙ append_assoc (padded t.modem total first) run.samples window;
      }

  -- before a flag has ended in this tick
  bit_before : SendsMore run.sending run.waiting (now_at bits waiting t) bits h.more (step_of run.sending run.waiting)
      → IsBefore bits waiting t → AtBit total waiting t first (bits + 1) (with_bit t.modem count run)
  bit_before m b =
      let step = step_of run.sending run.waiting in
      let now : OnAir = decided bits waiting t in
      let next : OnAir = decided (bits + 1) waiting t in
      let same_t : now_at bits waiting t ≡ now = cond-false (names_next bits now) (next_named now) now b.unnamed in
      let same_w : run.waiting ≡ waiting =
      h.is_waiting ∙ cond-false (names_next bits now) (drop 1 waiting) waiting b.unnamed in
      let goes : decided (bits + 1) run.waiting (now_at bits waiting t) ≡ next =
      ap (λ w. decided (bits + 1) w (now_at bits waiting t)) same_w ∙ ap (decided (bits + 1) waiting) same_t ∙ b.same in
      let none : run.sent ≡ None = h.is_sent ∙ cond-false (names_next bits now) _ None b.unnamed in
      let names : step.named ≡ named_of (bits + 1) next = sym m.is_named ∙ ap (named_of (bits + 1)) goes in
      next_bit m (ap (with_named (bits + 1)) (sym goes) ∙ m.is_now)
      (sym m.is_waiting ∙ ap (λ u. waiting_with_named (bits + 1) u run.waiting) goes
      ∙ ap (waiting_with_named (bits + 1) next) same_w)
      (elim (cases_Bool (names_next (bits + 1) next)) [
        | inl ended ↦
            let place : flag_end (next.named + 1) next ≡ bits + 1 =
            ap (λ (u : OnAir). flag_end (u.named + 1) u) (sym goes) ∙ m.place (ap (names_next (bits + 1)) goes
            ∙ ended) in
            let after : count + 1 ≡ flag_end (next.named + 1) next - total = omega arith in
            let octets : List ℕ = get_or next.frames next.named [] in
            ap (λ o. sent_with t.modem o (count + 1) run.sent) (names ∙ cond-true (names_next (bits + 1) next) _ None ended)
            ∙ ap (λ n. Some (record { octets = octets; after = samples_of_bits t.modem n })) after
            ∙ sym (cond-true (names_next (bits + 1) next) _ None ended)
        | inr goes_on ↦
            ap (λ o. sent_with t.modem o (count + 1) run.sent) (names ∙ cond-false (names_next (bits + 1) next) _ None goes_on)
            ∙ none ∙ sym (cond-false (names_next (bits + 1) next) _ None goes_on)
      ])

  -- after it
  bit_after : (limit : ℕ) → bits + 1 ≤ limit
      → SendsMore run.sending run.waiting (now_at bits waiting t) bits h.more (step_of run.sending run.waiting)
      → IsAfter limit bits waiting t → AtBit total waiting t first (bits + 1) (with_bit t.modem count run)
  bit_after limit below m a =
      let step = step_of run.sending run.waiting in
      let now : OnAir = decided bits waiting t in
      let u : OnAir = next_named now in
      let same_t : now_at bits waiting t ≡ u = cond-true (names_next bits now) u now a.named in
      let fewer : run.waiting ≡ drop 1 waiting =
      h.is_waiting ∙ cond-true (names_next bits now) (drop 1 waiting) waiting a.named in
      let quiet = a.settled.none (bits + 1) below in
      let silent = a.settled.unnamed (bits + 1) below in
      let still : names_next (bits + 1) now ≡ true = still_named bits now a.named in
      let later : now_at (bits + 1) waiting t ≡ u =
      ap (with_named (bits + 1)) a.same ∙ cond-true (names_next (bits + 1) now) u now still in
      let waits : waiting_at (bits + 1) waiting t ≡ drop 1 waiting =
      ap (λ v. waiting_with_named (bits + 1) v waiting) a.same
      ∙ cond-true (names_next (bits + 1) now) (drop 1 waiting) waiting still in
      let none : step.named ≡ None =
      sym m.is_named ∙ ap (named_at (bits + 1) run.waiting) same_t ∙ none_named (bits + 1) run.waiting u quiet silent in
      next_bit m
      (later ∙ sym (ap (now_at (bits + 1) run.waiting) same_t ∙ same_now (bits + 1) run.waiting u quiet silent)
      ∙ m.is_now)
      (sym m.is_waiting ∙ ap (waiting_at (bits + 1) run.waiting) same_t
      ∙ same_waiting (bits + 1) run.waiting u quiet silent ∙ fewer ∙ sym waits)
      (ap (λ o. sent_with t.modem o (count + 1) run.sent) none ∙ h.is_sent ∙ cond-true (names_next bits now) _ None a.named
      ∙ sym (ap (sent_at t.modem total (bits + 1)) a.same ∙ cond-true (names_next (bits + 1) now) _ None still))

  one_bit_more : All (λ frame. HasFrameLength frame.octets) waiting → (limit : ℕ) → bits + 1 ≤ limit
      → MayCome limit waiting t
      → AtBit total waiting t first (bits + 1) (with_bit t.modem count run)
  one_bit_more fit limit below may =
      let P : List WaitingFrame → Type 0 = λ w. All (λ frame. HasFrameLength frame.octets) w in
      let fits = subst P (sym h.is_waiting) (all_waiting bits (decided bits waiting t) waiting fit) in
      let m = sends_more run.sending run.waiting (now_at bits waiting t) bits h.more h.sends fits in
      elim (at_next limit bits below waiting t may) [
        | inl before ↦ bit_before m before
        | inr after ↦ bit_after limit below m after
      ]

-- so many bits more
pub bits_more : (total : ℕ) (s : Sending) (waiting : List WaitingFrame) (t : OnAir) (first : List Bool)
    → All (λ frame. HasFrameLength frame.octets) waiting → (limit : ℕ) → MayCome limit waiting t
    → AtBit total waiting t first total (tick_start s waiting) → (count : ℕ) → total + count ≤ limit
    → AtBit total waiting t first (total + count) (with_bits t.modem count (tick_start s waiting))
unfolding with_bits
bits_more total s waiting t first fit limit may start zero below =
    let P : ℕ → Type 0 = λ n. AtBit total waiting t first n (tick_start s waiting) in
    let same : total ≡ total + 0 = omega arith in
    subst P same start
bits_more total s waiting t first fit limit may start (suc count) below =
    let h = bits_more total s waiting t first fit limit may start count (omega arith) in
    let P : ℕ → Type 0 = λ n. AtBit total waiting t first n (with_bit t.modem count (with_bits t.modem count (tick_start s waiting))) in
    let more : (total + count) + 1 ≡ total + suc count = omega arith in
    subst P more (one_bit_more total waiting t first (total + count) count (with_bits t.modem count
    (tick_start s waiting)) h refl fit limit
    (omega arith) may)
