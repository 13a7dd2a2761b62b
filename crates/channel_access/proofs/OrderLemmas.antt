-- Frames are sent in the order of the queue: the frame that a tick names is the front one of those that wait.
use Rattle.channel_access.proofs.Common.{◌≡◌, ℕ, ◌+◌, ◌-◌, ◌≤◌, Bool, true, false, ltb, Option, Some, None, List}
use Rattle.channel_access.proofs.Common.{[], ◌∷◌, ◌++◌, length, get_or, drop, refl, ap, ◌∙◌, sym, subst, inl, inr}
use Rattle.channel_access.proofs.Common.{arith, append_assoc, append-nil, get_or-append_seam, cases_Bool, cond-true}
use Rattle.channel_access.proofs.Common.{cond-false, ltb-true, Sent, Sending, Stage, Opening, Frame, Following, Closing}
use Rattle.channel_access.proofs.Common.{Over, WaitingFrame, OnAir, bits_then, has_sent_frames, followed_by, decided}
use Rattle.channel_access.proofs.Common.{names_next, flag_end, waiting_with_named, most_frames, air_sent, air_waiting}
use Rattle.channel_access.proofs.Common.{Takes, Stands, StandsForAir, waiting_after, bits_of_ticks, samples_of_bits}
use Rattle.std.proofs.lemmas.List.{length_push}
use Rattle.channel_access.proofs.StageLemmas.{by_test, frames_ended, all_named, after_none}
use Rattle.channel_access.specs.StandsFor.{InOpening}

-- a decision adds frames after those that the transmission has, up to eight, and changes no flags
pub record AddsFrames (t u : OnAir) : Type 0 where
  pub more : List (List ℕ)
  pub frames : u.frames ≡ t.frames ++ more
  pub few : length t.frames ≤ most_frames → length u.frames ≤ most_frames
  pub named : u.named ≡ t.named
  pub modem : u.modem ≡ t.modem
  pub opening : u.opening ≡ t.opening
  pub closing : u.closing ≡ t.closing

-- none is added
same_frames : (t u : OnAir) → u.frames ≡ t.frames → u.named ≡ t.named → u.modem ≡ t.modem → u.opening ≡ t.opening → u.closing ≡ t.closing
    → AddsFrames t u
same_frames t u frames named modem opening closing = record {
  more = [];
  frames = frames ∙ sym (append-nil t.frames);
  few = λ few. subst (λ (xs : List (List ℕ)). length xs ≤ most_frames) (sym frames) few;
  named = named;
  modem = modem;
  opening = opening;
  closing = closing;
}

followed_frames : (others : List WaitingFrame) (t : OnAir) → AddsFrames t (followed_by others t)
followed_frames [] t = same_frames t (record t { ends = true }) refl refl refl refl refl
followed_frames (next ∷ others) t =
    by_test (λ (u : OnAir). AddsFrames t u) (ltb (length t.frames) most_frames) _ _
    (λ few. record {
      more = next.octets ∷ [];
      frames = refl;
      few = λ _. omega (arith, length_push t.frames next.octets, ltb-true (length t.frames) most_frames few);
      named = refl;
      modem = refl;
      opening = refl;
      closing = refl;
    })
    (λ many. same_frames t (record t { ends = true }) refl refl refl refl refl)

pub decided_frames : (bits : ℕ) (waiting : List WaitingFrame) (t : OnAir) → AddsFrames t (decided bits waiting t)
decided_frames bits waiting t =
    by_test (λ (u : OnAir). AddsFrames t u) (has_sent_frames bits t) (followed_by (waiting_after t waiting) t) t
    (λ ended. followed_frames (waiting_after t waiting) t)
    (λ goes. same_frames t t refl refl refl refl refl)

-- the octets are those of the front frame
abbrev FrontIs : List WaitingFrame → List ℕ → Type 0
FrontIs [] octets = ⊥
FrontIs (front ∷ others) octets = octets ≡ front.octets

next_is : (t u : OnAir) (past : List (List ℕ)) (octets : List ℕ) (rest : List (List ℕ)) → AddsFrames t u
    → t.frames ≡ past ++ octets ∷ rest → t.named ≡ length past → get_or u.frames u.named [] ≡ octets
next_is t u past octets rest adds frames named =
    ap (λ n. get_or u.frames n []) (adds.named ∙ named)
    ∙ ap (λ xs. get_or xs (length past) [])
    (adds.frames ∙ ap (λ xs. xs ++ adds.more) frames ∙ append_assoc past (octets ∷ rest) adds.more)
    ∙ get_or-append_seam past octets (rest ++ adds.more) []

nothing_named : (bits : ℕ) (waiting : List WaitingFrame) (t : OnAir) → t.ends ≡ true → t.named ≡ length t.frames
    → names_next bits (decided bits waiting t) ≡ true → ⊥
nothing_named bits waiting t ends all is =
    let same : decided bits waiting t ≡ t = cond-false (has_sent_frames bits t) _ t (frames_ended bits t ends) in
    let never : true ≡ false = sym is ∙ ap (names_next bits) same ∙ all_named bits t all in
    cc

-- the first frame is the front one of those that wait where the opening flags end
opened_named : (left : ℕ) (waiting : List WaitingFrame) (t : OnAir) (sent : List Bool) (bits : ℕ)
    → InOpening left t sent → names_next bits (decided bits waiting t) ≡ true
    → FrontIs waiting (get_or (decided bits waiting t).frames (decided bits waiting t).named [])
opened_named left waiting t sent bits h is =
    by_test (λ (u : OnAir). names_next bits u ≡ true → FrontIs waiting (get_or u.frames u.named []))
    (has_sent_frames bits t) (followed_by (waiting_after t waiting) t) t
    (λ ended. subst (λ w. names_next bits (followed_by w t) ≡ true
    → FrontIs waiting (get_or (followed_by w t).frames (followed_by w t).named []))
    (sym (after_none t waiting h.frames)) (followed waiting))
    (λ goes. nothing t h.frames h.named) is
  where
    nothing : {A : Type 0} (u : OnAir) → u.frames ≡ [] → u.named ≡ 0 → names_next bits u ≡ true → A
    nothing u frames named is =
        let never : true ≡ false = sym is ∙ all_named bits u (named ∙ sym (ap length frames)) in
        cc

    followed : (w : List WaitingFrame) → names_next bits (followed_by w t) ≡ true
        → FrontIs w (get_or (followed_by w t).frames (followed_by w t).named [])
    followed [] is = nothing (record t { ends = true }) h.frames h.named is
    followed (next ∷ others) is =
        by_test (λ (u : OnAir). names_next bits u ≡ true → get_or u.frames u.named [] ≡ next.octets)
        (ltb (length t.frames) most_frames) _ _
        (λ few named. ap (λ n. get_or (t.frames ++ next.octets ∷ []) n []) h.named
        ∙ ap (λ xs. get_or (xs ++ next.octets ∷ []) 0 []) h.frames)
        (λ many named. nothing (record t { ends = true }) h.frames h.named named) is

front_named : (stage : Stage) (waiting : List WaitingFrame) (t : OnAir) (sent : List Bool) (bits : ℕ)
    → Stands stage waiting t sent → names_next bits (decided bits waiting t) ≡ true
    → FrontIs waiting (get_or (decided bits waiting t).frames (decided bits waiting t).named [])
front_named (Opening left) waiting t sent bits h is = opened_named left waiting t sent bits h is
front_named (Frame f) [] t sent bits h is = h
front_named (Frame f) (front ∷ others) t sent bits h is =
    next_is t _ h.past front.octets [] (decided_frames bits (front ∷ others) t) h.frames h.named
front_named (Following left true) [] t sent bits h is = h
front_named (Following left true) (front ∷ []) t sent bits h is = absurd h
front_named (Following left true) (front ∷ next ∷ others) t sent bits h is =
    next_is t _ h.past front.octets (next.octets ∷ []) (decided_frames bits (front ∷ next ∷ others) t)
    (h.frames ∙ append_assoc h.past (front.octets ∷ []) (next.octets ∷ [])) h.named
front_named (Following left false) [] t sent bits h is = h
front_named (Following left false) (front ∷ others) t sent bits h is =
    next_is t _ h.past front.octets [] (decided_frames bits (front ∷ others) t)
    (h.frames ∙ append_assoc h.past (front.octets ∷ []) []) h.named
front_named (Closing left) waiting t sent bits h is = absurd (nothing_named bits waiting t h.ends h.named is)
front_named Over waiting t sent bits h is = absurd (nothing_named bits waiting t h.ends h.named is)

takes_front : (waiting : List WaitingFrame) (sent : Sent) → FrontIs waiting sent.octets
    → Takes (Some sent) waiting (drop 1 waiting)
takes_front [] sent h = h
takes_front (front ∷ others) sent h = (h, refl)

-- a tick of what is under way
pub air_takes : (s : Option Sending) (waiting : List WaitingFrame) (air : Option OnAir) → StandsForAir s waiting air
    → Takes (air_sent waiting air) waiting (air_waiting waiting air)
air_takes None waiting None h = refl
air_takes None waiting (Some t) h = absurd h
air_takes (Some s) waiting None h = absurd h
air_takes (Some s) waiting (Some t) h =
    let bits : ℕ = bits_then t in
    let u : OnAir = decided bits waiting t in
    let sent : Sent = record {
      octets = get_or u.frames u.named [];
      after = samples_of_bits u.modem (flag_end (u.named + 1) u - bits_of_ticks u.modem u.ticks);
    } in
    let P : Option Sent → Type 0 = λ x. Takes x waiting (waiting_with_named bits u waiting) in
    elim (cases_Bool (names_next bits u)) [
      | inl named ↦
          let Q : List WaitingFrame → Type 0 = λ w. Takes (Some sent) waiting w in
          subst P (sym (cond-true (names_next bits u) (Some sent) None named))
          (subst Q (sym (cond-true (names_next bits u) (drop 1 waiting) waiting named))
          (takes_front waiting sent (front_named s.stage waiting t h.sent bits h.sends.stands named)))
      | inr goes ↦
          subst P (sym (cond-false (names_next bits u) (Some sent) None goes))
          (cond-false (names_next bits u) (drop 1 waiting) waiting goes)
    ]
