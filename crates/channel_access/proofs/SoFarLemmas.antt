-- What the ticks of a transmission have sent so far of its frames, and what one tick more sends.
use Rattle.channel_access.proofs.Common.{◌≡◌, ℕ, ◌+◌, ◌<◌, ◌≤◌, Bool, true, false, ◌&&◌, cond, leb, ltb, Option, Some}
use Rattle.channel_access.proofs.Common.{None, ℤ, List, [], ◌∷◌, ◌++◌, length, take, drop, get_or, refl, ap, ◌∙◌, sym}
use Rattle.channel_access.proofs.Common.{inl, inr, arith, append_assoc, append-nil, cases_Bool, ltb-true}
use Rattle.channel_access.proofs.Common.{take-append-le, flat_map-append, AirTick, Sent, WaitingFrame, OnAir}
use Rattle.channel_access.proofs.Common.{most_frames, names_next, flag_end, Takes, octets_of, Modem}
use Rattle.std.proofs.lemmas.List.{map-append, take_more, length-append}
use Rattle.channel_access.specs.WholeTransmission.{names_of, named_in}
use Rattle.channel_access.proofs.OrderLemmas.{AddsFrames}

-- These frames waited when the transmission began, and those joined since. Of them the first are gone, named by its
-- ticks, and the others wait.
pub record SoFar (modem : Modem) (opens closes : ℕ) (first joined : List WaitingFrame) (ticks : List AirTick)
    (waiting : List WaitingFrame) (t : OnAir)
    : Type 0 where
  pub gone : List WaitingFrame
  pub queue : first ++ joined ≡ gone ++ waiting
  pub names : named_in ticks ≡ octets_of gone
  pub named : octets_of gone ≡ take t.named t.frames
  pub within : t.named ≤ length t.frames
  pub few : length t.frames ≤ most_frames
  pub by : t.modem ≡ modem
  pub opening : t.opening ≡ opens
  pub closing : t.closing ≡ closes

-- the frame that a tick takes is the front one
record TakesFront (sent : Sent) (waiting after : List WaitingFrame) : Type 0 where
  pub front : WaitingFrame
  pub before : waiting ≡ front ∷ after
  pub octets : sent.octets ≡ front.octets

takes_front : (sent : Sent) (waiting after : List WaitingFrame) → Takes (Some sent) waiting after
    → TakesFront sent waiting after
takes_front sent [] after h = absurd h
takes_front sent (front ∷ others) after h = record {
  front = front;
  before = ap (λ xs. front ∷ xs) (sym h.1);
  octets = h.0;
}

module _ (modem : Modem) (opens closes : ℕ) (first joined : List WaitingFrame) (ticks : List AirTick) (waiting : List WaitingFrame)
    (t : OnAir) (h : SoFar modem opens closes first joined ticks waiting t) where
  -- a frame joins the queue
  pub so_far_joined : (more : List WaitingFrame) → SoFar modem opens closes first (joined ++ more) ticks (waiting ++ more) t
  so_far_joined more = record {
    gone = h.gone;
    queue = sym (append_assoc first joined more) ∙ ap (λ xs. xs ++ more) h.queue ∙ append_assoc h.gone waiting more;
    names = h.names;
    named = h.named;
    within = h.within;
    few = h.few;
    by = h.by;
    opening = h.opening;
    closing = h.closing;
  }

  -- the count of ticks is no matter
  pub so_far_reticked : (n : ℕ) → SoFar modem opens closes first joined ticks waiting (record t { ticks = n })
  so_far_reticked n = record {
    gone = h.gone;
    queue = h.queue;
    names = h.names;
    named = h.named;
    within = h.within;
    few = h.few;
    by = h.by;
    opening = h.opening;
    closing = h.closing;
  }

  -- a tick in which the transmission becomes u, and which names a frame or none
  module _ (u : OnAir) (adds : AddsFrames t u) (samples : List ℤ) (began : Bool) (sent : Sent)
      (octets : sent.octets ≡ get_or u.frames u.named []) where
    abbrev tick : Option Sent → AirTick
    tick s = record { samples = samples; began = began; sent = s }

    named_more : (s : Option Sent) → named_in (ticks ++ tick s ∷ []) ≡ octets_of h.gone ++ names_of s
    named_more s =
        flat_map-append (λ (a : AirTick). names_of a.sent) ticks (tick s ∷ [])
        ∙ ap (λ xs. xs ++ (names_of s ++ [])) h.names
        ∙ ap (λ xs. octets_of h.gone ++ xs) (append-nil (names_of s))

    longer : length t.frames ≤ length u.frames
    longer = omega (arith, ap length adds.frames, length-append t.frames adds.more)

    same_named : octets_of h.gone ≡ take u.named u.frames
    same_named =
        h.named
        ∙ sym (take-append-le t.named t.frames adds.more h.within)
        ∙ ap (take t.named) (sym adds.frames)
        ∙ ap (λ n. take n u.frames) (sym adds.named)

    none_named : (after : List WaitingFrame) → after ≡ waiting
        → SoFar modem opens closes first joined (ticks ++ tick None ∷ []) after u
    none_named after same = record {
      gone = h.gone;
      queue = h.queue ∙ ap (λ xs. h.gone ++ xs) (sym same);
      names = named_more None ∙ append-nil (octets_of h.gone);
      named = same_named;
      within = omega (arith, h.within, adds.named, longer);
      few = adds.few h.few;
      by = adds.modem ∙ h.by;
      opening = adds.opening ∙ h.opening;
      closing = adds.closing ∙ h.closing;
    }

    one_named : (after : List WaitingFrame) → u.named < length u.frames → Takes (Some sent) waiting after
        → SoFar modem opens closes first joined (ticks ++ tick (Some sent) ∷ []) after (record u { named = u.named + 1 })
    one_named after some takes =
        let taken = takes_front sent waiting after takes in
        let gone : List WaitingFrame = h.gone ++ taken.front ∷ [] in
        let more : octets_of gone ≡ octets_of h.gone ++ sent.octets ∷ [] =
        map-append (λ (frame : WaitingFrame). frame.octets) h.gone (taken.front ∷ [])
        ∙ ap (λ o. octets_of h.gone ++ o ∷ []) (sym taken.octets) in
        record {
          gone = gone;
          queue = h.queue ∙ ap (λ xs. h.gone ++ xs) taken.before ∙ sym (append_assoc h.gone (taken.front ∷ []) after);
          names = named_more (Some sent) ∙ sym more;
          named = more ∙ ap (λ xs. xs ++ sent.octets ∷ []) same_named
              ∙ ap (λ o. take u.named u.frames ++ o ∷ []) octets
              ∙ sym (take_more u.frames u.named [] some);
          within = omega (arith, some);
          few = adds.few h.few;
          by = adds.modem ∙ h.by;
          opening = adds.opening ∙ h.opening;
          closing = adds.closing ∙ h.closing;
        }

    pub so_far_more : (b : Bool) → (b ≡ true → u.named < length u.frames)
        → Takes (cond b (Some sent) None) waiting (cond b (drop 1 waiting) waiting)
        → SoFar modem opens closes first joined (ticks ++ tick (cond b (Some sent) None) ∷ [])
        (cond b (drop 1 waiting) waiting) (cond b (record u { named = u.named + 1 }) u)
    so_far_more true some takes = one_named (drop 1 waiting) (some refl) takes
    so_far_more false some takes = none_named waiting takes

-- a frame is named only if one is left
pub some_left : (bits : ℕ) (t : OnAir) → names_next bits t ≡ true → t.named < length t.frames
some_left bits t names =
    elim (cases_Bool (ltb t.named (length t.frames))) [
      | inl less ↦ ltb-true t.named (length t.frames) less
      | inr not_less ↦
          let never : names_next bits t ≡ false = ap (λ b. b && leb (flag_end (t.named + 1) t) bits) not_less in
          let both : true ≡ false = sym names ∙ never in
          cc
    ]
