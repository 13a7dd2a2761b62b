-- Bits of one tick: what is decided and named bit by bit is what is decided and named at its end. Frames are
-- longer than a tick, so a tick sees at most one end of a frame and one flag after a frame.
use Rattle.channel_access.proofs.Common.{◌≡◌, ℕ, ◌+◌, ◌<◌, ◌≤◌, ◌⊎◌, Bool, true, false, not, ◌&&◌, leb, ltb, List, []}
use Rattle.channel_access.proofs.Common.{◌∷◌, ◌++◌, length, refl, ap, ◌∙◌, sym, subst, inl, inr, arith}
use Rattle.channel_access.proofs.Common.{length-append, append-nil, All, cases_Bool, cond-true, cond-false, leb-true}
use Rattle.channel_access.proofs.Common.{leb-false, All-head, All-tail, body_by, FrameBits, Stage, Opening, Frame}
use Rattle.channel_access.proofs.Common.{Following, Closing, Over, WaitingFrame, HasFrameLength, OnAir, most_frames}
use Rattle.channel_access.proofs.Common.{has_sent_frames, followed_by, decided, names_next, frames_end, flag_end}
use Rattle.channel_access.proofs.Common.{Stands, Counts, InFrame, waiting_after}
use Rattle.channel_access.specs.StandsFor.{InOpening}
use Rattle.channel_access.proofs.BodyLemmas.{piece-long}
use Rattle.channel_access.proofs.FrameLemmas.{next_given}
use Rattle.channel_access.proofs.StageLemmas.{frames_go_on, frames_ended, frames_end_here, flag_goes_on, all_named}
use Rattle.channel_access.proofs.StageLemmas.{flag_end-at, flag_end-last, frames_end-next, length-frames_flag}
use Rattle.channel_access.proofs.StageLemmas.{opening_named, first_end, after_none, after_front, none_left, frame_end, flag_there_at, by_test}

-- up to so many bits nothing is decided
pub record IsQuiet (limit : ℕ) (t : OnAir) : Type 0 where
  pub none : (bits : ℕ) → bits ≤ limit → has_sent_frames bits t ≡ false

-- and nothing is named
pub record IsSettled (limit : ℕ) (t : OnAir) : Type 0 where
  pub none : (bits : ℕ) → bits ≤ limit → has_sent_frames bits t ≡ false
  pub unnamed : (bits : ℕ) → bits ≤ limit → names_next bits t ≡ false

-- the transmission with one frame more named
abbrev pub next_named : OnAir → OnAir
next_named t = record t { named = t.named + 1 }

-- Up to so many bits the flag after a frame may end, and nothing else comes.
pub record MayName (limit : ℕ) (t : OnAir) : Type 0 where
  pub quiet : IsQuiet limit t
  pub then_settled : IsSettled limit (next_named t)

-- The opening flags or the last frame may end, and then the flag after it.
pub record MayEnd (limit : ℕ) (waiting : List WaitingFrame) (t : OnAir) : Type 0 where
  pub goes : t.ends ≡ false
  pub flag_later : (bits : ℕ) → bits < frames_end t → names_next bits t ≡ false
  pub then_names : MayName limit (followed_by (waiting_after t waiting) t)

-- what may come up to so many bits
pub data MayCome (limit : ℕ) (waiting : List WaitingFrame) (t : OnAir) : Type 0 where
  nothing : IsSettled limit t → MayCome limit waiting t
  flag_ends : MayName limit t → MayCome limit waiting t
  frame_ends : MayEnd limit waiting t → MayCome limit waiting t

-- ---- which of these a sender is at

quiet_when_ended : (limit : ℕ) (t : OnAir) → t.ends ≡ true → IsQuiet limit t
quiet_when_ended limit t ended = record { none = λ bits below. frames_ended bits t ended }

settled_when_ended : (limit : ℕ) (t : OnAir) → t.ends ≡ true → length t.frames ≤ t.named → IsSettled limit t
settled_when_ended limit t ended all =
    record { none = λ bits below. frames_ended bits t ended; unnamed = λ bits below. none_left bits t all }

settled_when_all : (limit : ℕ) (t : OnAir) → t.ends ≡ true → t.named ≡ length t.frames → IsSettled limit t
settled_when_all limit t ended all = settled_when_ended limit t ended (omega arith)

-- if the last frame ends later, its flag ends later too
settled_before_end : (limit : ℕ) (t : OnAir) (past : List (List ℕ)) (octets : List ℕ) → t.frames ≡ past ++ octets ∷ []
    → t.named ≡ length past → limit < frames_end t → IsSettled limit t
settled_before_end limit t past octets frames named later =
    let flag = flag_end-last t past octets frames named in
    record {
      none = λ bits below. frames_go_on bits t (omega arith);
      unnamed = λ bits below. flag_goes_on bits t (omega arith);
    }

-- if another frame comes after the flag
next_is_long : (limit : ℕ) (t : OnAir) (past : List (List ℕ)) (octets next : List ℕ)
    → t.frames ≡ (past ++ octets ∷ []) ++ next ∷ [] → t.named ≡ length past → 15 ≤ length next
    → limit ≤ flag_end (t.named + 1) t + 12 → MayName limit t
unfolding frames_end
next_is_long limit t past octets next frames named least near =
    let end = frames_end-next t past octets next frames named in
    let long = piece-long t.modem next least in
    record {
      quiet = record { none = λ bits below. frames_go_on bits t (omega arith) };
      then_settled = settled_before_end limit (next_named t) (past ++ octets ∷ []) next frames
          (omega (arith, named, length-append past (octets ∷ []))) (omega arith);
    }

-- a frame that is being sent
module _ (f : FrameBits) (front : WaitingFrame) (t : OnAir) (total : ℕ) (sent : List Bool) (h : InFrame f front t sent)
    (count : length sent ≡ total) where
  pub end_later : total < frames_end t
  end_later =
      let next = next_given f front.octets h.some in
      omega (arith, frame_end f front [] t total sent h count next)

  flag_after : flag_end (t.named + 1) t ≡ frames_end t + 8
  flag_after = flag_end-last t h.past front.octets h.frames h.named

  pub flag_not_yet : (bits : ℕ) → bits < frames_end t → names_next bits t ≡ false
  flag_not_yet bits before =
      let flag = flag_after in
      flag_goes_on bits t (omega arith)

  ends_then : (limit : ℕ) → MayName limit (record t { ends = true })
  ends_then limit =
      let all : t.named + 1 ≡ length t.frames =
      omega (arith, h.named, ap length h.frames, length-append h.past (front.octets ∷ [])) in
      record {
        quiet = quiet_when_ended limit (record t { ends = true }) refl;
        then_settled = settled_when_all limit (next_named (record t { ends = true })) refl all;
      }

  joined_then : (limit : ℕ) (octets : List ℕ) → 15 ≤ length octets → limit ≤ total + 12
      → MayName limit (record t { frames = t.frames ++ octets ∷ [] })
  joined_then limit octets least near =
      let now : OnAir = record t { frames = t.frames ++ octets ∷ [] } in
      let all : now.frames ≡ (h.past ++ front.octets ∷ []) ++ octets ∷ [] = ap (λ xs. xs ++ octets ∷ []) h.frames in
      let flag : flag_end (t.named + 1) now ≡ frames_end t + 8 =
      flag_end-at now h.past front.octets (octets ∷ []) all h.named
      ∙ ap (λ xs. length (body_by t.modem xs t.opening 1)) (sym h.frames) ∙ length-frames_flag t in
      let later = end_later in
      next_is_long limit now h.past front.octets octets all h.named least (omega arith)

frame_may_end : (f : FrameBits) (front : WaitingFrame) (others : List WaitingFrame) (t : OnAir) (total : ℕ)
    (sent : List Bool)
    → InFrame f front t sent → length sent ≡ total → All (λ frame. HasFrameLength frame.octets) others
    → MayEnd (total + 12) (front ∷ others) t
frame_may_end f front others t total sent h count fit = record {
  goes = h.ends;
  flag_later = flag_not_yet f front t total sent h count;
  then_names = subst (λ w. MayName (total + 12) (followed_by w t))
      (sym (after_front t h.past front.octets front others h.frames h.named)) (then_names others fit);
}
  where
    then_names : (others : List WaitingFrame) → All (λ frame. HasFrameLength frame.octets) others
        → MayName (total + 12) (followed_by others t)
    then_names [] fit = ends_then f front t total sent h count (total + 12)
    then_names (next ∷ others) fit =
        let fits = All-head (λ (frame : WaitingFrame). HasFrameLength frame.octets) next others fit in
        by_test (λ now. MayName (total + 12) now) (ltb (length t.frames) most_frames) _ _
        (λ few. joined_then f front t total sent h count (total + 12) next.octets fits.least (omega arith))
        (λ many. ends_then f front t total sent h count (total + 12))

-- opening flags that are being sent
module _ (left : ℕ) (t : OnAir) (total : ℕ) (sent : List Bool) (h : InOpening left t sent)
    (count : length sent ≡ total) where
  opening_then_ends : MayName (total + 12) (record t { ends = true })
  opening_then_ends = record {
    quiet = quiet_when_ended (total + 12) (record t { ends = true }) refl;
    then_settled = settled_when_ended (total + 12) (next_named (record t { ends = true })) refl
        (omega (arith, ap length h.frames));
  }

  opening_then_joined : (octets : List ℕ) → 15 ≤ length octets
      → MayName (total + 12) (record t { frames = t.frames ++ octets ∷ [] })
  opening_then_joined octets least =
      let now : OnAir = record t { frames = t.frames ++ octets ∷ [] } in
      let all : now.frames ≡ octets ∷ [] = ap (λ xs. xs ++ octets ∷ []) h.frames in
      let end = first_end left t total sent h count now octets refl refl all in
      let end_then = first_end left t total sent h count (next_named now) octets refl refl all in
      let long = piece-long t.modem octets least in
      let one : t.named + 1 ≡ length now.frames = omega (arith, h.named, ap length all) in
      record {
        quiet = record { none = λ bits below. frames_go_on bits now (omega arith) };
        then_settled = record {
          none = λ bits below. frames_go_on bits (next_named now) (omega arith);
          unnamed = λ bits below. all_named bits (next_named now) one;
        };
      }

  opening_may_end : (waiting : List WaitingFrame) → All (λ frame. HasFrameLength frame.octets) waiting
      → MayEnd (total + 12) waiting t
  opening_may_end waiting fit = record {
    goes = h.ends;
    flag_later = λ bits before. all_named bits t (opening_named left t total sent h count);
    then_names = subst (λ w. MayName (total + 12) (followed_by w t)) (sym (after_none t waiting h.frames))
        (then_names waiting fit);
  }
    where
      then_names : (waiting : List WaitingFrame) → All (λ frame. HasFrameLength frame.octets) waiting
          → MayName (total + 12) (followed_by waiting t)
      then_names [] fit = opening_then_ends
      then_names (front ∷ others) fit =
          let fits = All-head (λ (frame : WaitingFrame). HasFrameLength frame.octets) front others fit in
          by_test (λ now. MayName (total + 12) now) (ltb (length t.frames) most_frames) _ _
          (λ few. opening_then_joined front.octets fits.least) (λ many. opening_then_ends)

-- what may come within a tick
pub may_come : (stage : Stage) (waiting : List WaitingFrame) (t : OnAir) (total : ℕ) (sent : List Bool)
    → Stands stage waiting t sent → Counts stage total sent → All (λ frame. HasFrameLength frame.octets) waiting
    → MayCome (total + 12) waiting t
may_come (Opening left) waiting t total sent h count fit =
    frame_ends (opening_may_end left t total sent h count waiting fit)
may_come (Frame f) [] t total sent h count fit = absurd h
may_come (Frame f) (front ∷ others) t total sent h count fit =
    let following = All-tail (λ (frame : WaitingFrame). HasFrameLength frame.octets) front others fit in
    frame_ends (frame_may_end f front others t total sent h count following)
may_come (Following left true) [] t total sent h count fit = absurd h
may_come (Following left true) (front ∷ []) t total sent h count fit = absurd h
may_come (Following left true) (front ∷ next ∷ others) t total sent h count fit =
    let following = All-tail (λ (frame : WaitingFrame). HasFrameLength frame.octets) front (next ∷ others) fit in
    let fits = All-head (λ (frame : WaitingFrame). HasFrameLength frame.octets) next others following in
    let flag = flag_there_at left front (next.octets ∷ []) false t total sent h count in
    flag_ends (next_is_long (total + 12) t h.past front.octets next.octets h.frames h.named fits.least (omega arith))
may_come (Following left false) [] t total sent h count fit = absurd h
may_come (Following left false) (front ∷ others) t total sent h count fit =
    let whole : t.frames ≡ h.past ++ front.octets ∷ [] = h.frames ∙ append-nil (h.past ++ front.octets ∷ []) in
    let all : t.named + 1 ≡ length t.frames =
    omega (arith, h.named, ap length whole, length-append h.past (front.octets ∷ [])) in
    flag_ends (record {
      quiet = quiet_when_ended (total + 12) t h.ends;
      then_settled = settled_when_all (total + 12) (next_named t) h.ends all;
    })
may_come (Closing left) waiting t total sent h count fit = nothing (settled_when_all (total + 12) t h.ends h.named)
may_come Over waiting t total sent h count fit = nothing (settled_when_all (total + 12) t h.ends h.named)

-- ---- one bit more of a tick

-- no flag has ended so far
pub record IsBefore (bits : ℕ) (waiting : List WaitingFrame) (t : OnAir) : Type 0 where
  pub unnamed : names_next bits (decided bits waiting t) ≡ false
  pub same : decided (bits + 1) waiting (decided bits waiting t) ≡ decided (bits + 1) waiting t

-- one has ended, and nothing more comes
pub record IsAfter (limit bits : ℕ) (waiting : List WaitingFrame) (t : OnAir) : Type 0 where
  pub named : names_next bits (decided bits waiting t) ≡ true
  pub same : decided (bits + 1) waiting t ≡ decided bits waiting t
  pub settled : IsSettled limit (next_named (decided bits waiting t))

module _ (limit bits : ℕ) (below : bits + 1 ≤ limit) (waiting : List WaitingFrame) (t : OnAir) where
  -- if the transmission as it is decided is u, now and with the next bit
  before_or_after : (u : OnAir) → decided bits waiting t ≡ u → decided (bits + 1) waiting t ≡ u
      → decided (bits + 1) waiting u ≡ u → IsSettled limit (next_named u)
      → IsBefore bits waiting t ⊎ IsAfter limit bits waiting t
  before_or_after u is_now is_then again settled =
      elim (cases_Bool (names_next bits u)) [
        | inl ended ↦
            let P : OnAir → Type 0 = λ v. IsSettled limit (next_named v) in
            inr (record {
              named = ap (names_next bits) is_now ∙ ended;
              same = is_then ∙ sym is_now;
              settled = subst P (sym is_now) settled;
            })
        | inr goes ↦
            inl (record {
              unnamed = ap (names_next bits) is_now ∙ goes;
              same = ap (decided (bits + 1) waiting) is_now ∙ again ∙ sym is_then;
            })
      ]

  is_same : (now : ℕ) (u : OnAir) → now ≤ limit → IsQuiet limit u → decided now waiting u ≡ u
  is_same now u within quiet = cond-false (has_sent_frames now u) _ u (quiet.none now within)

  frame_case : MayEnd limit waiting t → IsBefore bits waiting t ⊎ IsAfter limit bits waiting t
  frame_case may =
      let u : OnAir = followed_by (waiting_after t waiting) t in
      elim (cases_Bool (has_sent_frames bits t)) [
        | inl ended ↦
            let there : leb (frames_end t) bits ≡ true = ap (λ b. not b && leb (frames_end t) bits) (sym may.goes)
            ∙ ended in
            let end : frames_end t ≤ bits = leb-true (frames_end t) bits there in
            let ended_then : has_sent_frames (bits + 1) t ≡ true =
            frames_end_here (bits + 1) t may.goes (omega arith) in
            before_or_after u (cond-true (has_sent_frames bits t) u t ended)
            (cond-true (has_sent_frames (bits + 1) t) u t ended_then)
            (is_same (bits + 1) u below may.then_names.quiet) may.then_names.then_settled
        | inr goes ↦
            let there : leb (frames_end t) bits ≡ false = ap (λ b. not b && leb (frames_end t) bits) (sym may.goes)
            ∙ goes in
            let later : bits < frames_end t = leb-false (frames_end t) bits there in
            let is_now : decided bits waiting t ≡ t = cond-false (has_sent_frames bits t) u t goes in
            inl (record {
              unnamed = ap (names_next bits) is_now ∙ may.flag_later bits later;
              same = ap (decided (bits + 1) waiting) is_now;
            })
      ]

  pub at_next : MayCome limit waiting t → IsBefore bits waiting t ⊎ IsAfter limit bits waiting t
  at_next (nothing settled) =
      let quiet : IsQuiet limit t = record { none = settled.none } in
      let is_now = is_same bits t (omega arith) quiet in
      inl (record {
        unnamed = ap (names_next bits) is_now ∙ settled.unnamed bits (omega arith);
        same = ap (decided (bits + 1) waiting) is_now;
      })
  at_next (flag_ends may) =
      before_or_after t (is_same bits t (omega arith) may.quiet) (is_same (bits + 1) t below may.quiet)
      (is_same (bits + 1) t below may.quiet) may.then_settled
  at_next (frame_ends may) = frame_case may
