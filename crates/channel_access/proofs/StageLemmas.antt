-- One bit of a sender, as the definitions see it: what it decides and names, and where the sender stands then.
use Rattle.channel_access.proofs.Common.{◌≡◌, ℕ, zero, suc, ◌+◌, ◌-◌, ◌*◌, ◌<◌, ◌≤◌, ◌⊎◌, Bool, true, false, not}
use Rattle.channel_access.proofs.Common.{◌&&◌, cond, leb, ltb, Option, Some, None, List, [], ◌∷◌, ◌++◌, length, take}
use Rattle.channel_access.proofs.Common.{drop, get_or, refl, ap, ◌∙◌, sym, subst, inl, inr, arith, length-append}
use Rattle.channel_access.proofs.Common.{append_assoc, append-nil, get_or-append_seam, cases_Bool, cond-true}
use Rattle.channel_access.proofs.Common.{cond-false, le-leb, lt-leb, lt-ltb, ltb-true, All, All-head, All-tail}
use Rattle.channel_access.proofs.Common.{le-max_left, flags, body_by, piece, FrameBits, Stage, Opening, Frame}
use Rattle.channel_access.proofs.Common.{Modem, flags_in}
use Rattle.channel_access.proofs.Common.{Following, Closing, Over, closing_flags, WaitingFrame, HasFrameLength, OnAir}
use Rattle.channel_access.proofs.Common.{most_frames, waiting_after, has_sent_frames, followed_by, decided, names_next, with_named}
use Rattle.channel_access.proofs.Common.{waiting_with_named, frames_end, flag_end, Step, flag_bit, frame_start}
use Rattle.channel_access.proofs.Common.{frame_over, Stands, Counts, InFrame, IsSent, flag_rest, frame_rest}
use Rattle.std.proofs.Math.Bool.{and-false}
use Rattle.std.proofs.Math.Seq.{take-append-add}
use Rattle.std.proofs.lemmas.Bool.{le-ltb, ltb-false}
use Rattle.channel_access.specs.Held.{stage_step, frame_step, after_opening, frames_opened, joins, other_closing}
use Rattle.channel_access.specs.StandsFor.{InOpening, InFlag, InClosing}
use Rattle.channel_access.proofs.BodyLemmas.{flags-is, length-flag_rest, body-closing, body-more_closing, body-none, body-single}
use Rattle.channel_access.proofs.BodyLemmas.{body-push, piece-long}
use Rattle.channel_access.proofs.FrameLemmas.{NextInFrame, next_given, frame_rest-start, frame_rest-over, some_left}

-- the transmission, the frames that wait and the frame that is named, with so many bits sent
abbrev pub now_at : ℕ → List WaitingFrame → OnAir → OnAir
now_at bits waiting t = with_named bits (decided bits waiting t)

abbrev pub waiting_at : ℕ → List WaitingFrame → OnAir → List WaitingFrame
waiting_at bits waiting t = waiting_with_named bits (decided bits waiting t) waiting

abbrev pub named_of : ℕ → OnAir → Option (List ℕ)
named_of bits t = cond (names_next bits t) (Some (get_or t.frames t.named [])) None

abbrev pub named_at : ℕ → List WaitingFrame → OnAir → Option (List ℕ)
named_at bits waiting t = named_of bits (decided bits waiting t)

-- a step has sent a bit more, and is what is so at that bit
pub record Steps (waiting : List WaitingFrame) (t : OnAir) (total : ℕ) (sent : List Bool) (step : Step) : Type 0 where
  pub bit : Bool
  pub is_bit : step.bit ≡ Some bit
  pub now : OnAir
  pub is_now : now_at (total + 1) waiting t ≡ now
  pub is_waiting : waiting_at (total + 1) waiting t ≡ step.waiting
  pub is_named : named_at (total + 1) waiting t ≡ step.named
  pub stands : Stands step.stage step.waiting now (sent ++ bit ∷ [])
  pub place : names_next (total + 1) (decided (total + 1) waiting t) ≡ true
      → flag_end ((decided (total + 1) waiting t).named + 1) (decided (total + 1) waiting t) ≡ total + 1
  pub frames : step.frames ≡ length now.frames
  pub closing : now.closing ≡ t.closing
  pub modem : now.modem ≡ t.modem

-- ---- a bit with which nothing is decided or named, one with which it is decided what follows, and one that
-- names a frame

module _ (bits : ℕ) (waiting : List WaitingFrame) (t : OnAir) where
  module _ (goes : has_sent_frames bits t ≡ false) where
    pub undecided : decided bits waiting t ≡ t
    undecided = cond-false (has_sent_frames bits t) _ t goes

    module _ (names : names_next bits t ≡ false) where
      pub same_now : now_at bits waiting t ≡ t
      same_now = ap (with_named bits) undecided ∙ cond-false (names_next bits t) _ t names

      pub same_waiting : waiting_at bits waiting t ≡ waiting
      same_waiting =
          ap (λ u. waiting_with_named bits u waiting) undecided
          ∙ cond-false (names_next bits t) (drop 1 waiting) waiting names

      pub no_place : names_next bits (decided bits waiting t) ≡ true
          → flag_end ((decided bits waiting t).named + 1) (decided bits waiting t) ≡ bits
      no_place is =
          let never : false ≡ true = sym (ap (names_next bits) undecided ∙ names) ∙ is in
          cc

      pub none_named : named_at bits waiting t ≡ None
      none_named = ap (named_of bits) undecided ∙ cond-false (names_next bits t) _ None names

    module _ (names : names_next bits t ≡ true) where
      pub named_now : now_at bits waiting t ≡ record t { named = t.named + 1 }
      named_now = ap (with_named bits) undecided ∙ cond-true (names_next bits t) _ t names

      pub fewer_waiting : waiting_at bits waiting t ≡ drop 1 waiting
      fewer_waiting =
          ap (λ u. waiting_with_named bits u waiting) undecided
          ∙ cond-true (names_next bits t) (drop 1 waiting) waiting names

      pub one_named : named_at bits waiting t ≡ Some (get_or t.frames t.named [])
      one_named = ap (named_of bits) undecided ∙ cond-true (names_next bits t) _ None names

  module _ (ended : has_sent_frames bits t ≡ true) (next : OnAir)
      (follows : followed_by (waiting_after t waiting) t ≡ next) (names : names_next bits next ≡ false) where
    is_decided : decided bits waiting t ≡ next
    is_decided = cond-true (has_sent_frames bits t) _ t ended ∙ follows

    pub decided_now : now_at bits waiting t ≡ next
    decided_now = ap (with_named bits) is_decided ∙ cond-false (names_next bits next) _ next names

    pub decided_waiting : waiting_at bits waiting t ≡ waiting
    decided_waiting =
        ap (λ u. waiting_with_named bits u waiting) is_decided
        ∙ cond-false (names_next bits next) (drop 1 waiting) waiting names

    pub decided_place : names_next bits (decided bits waiting t) ≡ true
        → flag_end ((decided bits waiting t).named + 1) (decided bits waiting t) ≡ bits
    decided_place is =
        let never : false ≡ true = sym (ap (names_next bits) is_decided ∙ names) ∙ is in
        cc

    pub decided_named : named_at bits waiting t ≡ None
    decided_named = ap (named_of bits) is_decided ∙ cond-false (names_next bits next) _ None names

-- ---- which of these it is, by places

module _ (bits : ℕ) (t : OnAir) where
  pub frames_go_on : bits < frames_end t → has_sent_frames bits t ≡ false
  frames_go_on h = ap (λ b. not t.ends && b) (lt-leb (frames_end t) bits h) ∙ and-false (not t.ends)

  pub frames_ended : t.ends ≡ true → has_sent_frames bits t ≡ false
  frames_ended h = ap (λ b. not b && leb (frames_end t) bits) h

  pub frames_end_here : t.ends ≡ false → frames_end t ≤ bits → has_sent_frames bits t ≡ true
  frames_end_here goes h = ap (λ b. not b && leb (frames_end t) bits) goes ∙ le-leb (frames_end t) bits h

  pub flag_goes_on : bits < flag_end (t.named + 1) t → names_next bits t ≡ false
  flag_goes_on h =
      ap (λ b. ltb t.named (length t.frames) && b) (lt-leb (flag_end (t.named + 1) t) bits h)
      ∙ and-false (ltb t.named (length t.frames))

  pub none_left : length t.frames ≤ t.named → names_next bits t ≡ false
  none_left h =
      ap (λ b. b && leb (flag_end (t.named + 1) t) bits) (le-ltb t.named (length t.frames) h)

  pub all_named : t.named ≡ length t.frames → names_next bits t ≡ false
  all_named h = none_left (omega arith)

  pub flag_ends_here : t.named < length t.frames → flag_end (t.named + 1) t ≤ bits → names_next bits t ≡ true
  flag_ends_here some h =
      ap (λ b. b && leb (flag_end (t.named + 1) t) bits) (lt-ltb t.named (length t.frames) some)
      ∙ le-leb (flag_end (t.named + 1) t) bits h

-- ---- what waits after the frames of a transmission

-- all that waits, if it has none
pub after_none : (t : OnAir) (waiting : List WaitingFrame) → t.frames ≡ [] → waiting_after t waiting ≡ waiting
after_none t waiting none =
    let few : length t.frames - t.named ≡ 0 = omega (arith, ap length none) in
    ap (λ n. drop n waiting) few

-- what waits after the front one, if that is its last
pub after_front : (t : OnAir) (past : List (List ℕ)) (octets : List ℕ) (front : WaitingFrame)
    (others : List WaitingFrame) → t.frames ≡ past ++ octets ∷ [] → t.named ≡ length past
    → waiting_after t (front ∷ others) ≡ others
after_front t past octets front others frames named =
    let one : length t.frames - t.named ≡ 1 =
    omega (arith, ap length frames, length-append past (octets ∷ [])) in
    ap (λ n. drop n (front ∷ others)) one

-- the flag after the frame that is named next, if these frames are named and those follow
pub flag_end-at : (t : OnAir) (past : List (List ℕ)) (octets : List ℕ) (next : List (List ℕ))
    → t.frames ≡ (past ++ octets ∷ []) ++ next → t.named ≡ length past
    → flag_end (t.named + 1) t ≡ length (body_by t.modem (past ++ octets ∷ []) t.opening 1)
unfolding flag_end
flag_end-at t past octets next frames named =
    let all : (past ++ octets ∷ []) ++ next ≡ past ++ octets ∷ next = append_assoc past (octets ∷ []) next in
    ap (λ n. length (body_by t.modem (take (n + 1) t.frames) t.opening 1)) named
    ∙ ap (λ xs. length (body_by t.modem (take (length past + 1) xs) t.opening 1)) (frames ∙ all)
    ∙ ap (λ xs. length (body_by t.modem xs t.opening 1)) (take-append-add past (octets ∷ next) 1)

pub length-body_flag : (modem : Modem) (frames : List (List ℕ)) (opening : ℕ)
    → length (body_by modem frames opening 1) ≡ length (body_by modem frames opening 0) + 8
length-body_flag modem frames opening =
    ap length (body-closing modem frames opening 1) ∙ length-append (body_by modem frames opening 0) (flags 1)

pub length-frames_flag : (t : OnAir) → length (body_by t.modem t.frames t.opening 1) ≡ frames_end t + 8
unfolding frames_end
length-frames_flag t = length-body_flag t.modem t.frames t.opening

-- after the last frame
pub flag_end-last : (t : OnAir) (past : List (List ℕ)) (octets : List ℕ) → t.frames ≡ past ++ octets ∷ []
    → t.named ≡ length past
    → flag_end (t.named + 1) t ≡ frames_end t + 8
unfolding frames_end
flag_end-last t past octets frames named =
    flag_end-at t past octets [] (frames ∙ sym (append-nil (past ++ octets ∷ []))) named
    ∙ ap (λ xs. length (body_by t.modem xs t.opening 1)) (sym frames) ∙ length-body_flag t.modem t.frames t.opening

-- before another frame
pub frames_end-next : (t : OnAir) (past : List (List ℕ)) (octets next : List ℕ)
    → t.frames ≡ (past ++ octets ∷ []) ++ next ∷ [] → t.named ≡ length past
    → frames_end t ≡ flag_end (t.named + 1) t + length (piece t.modem next)
unfolding frames_end
frames_end-next t past octets next frames named = omega (
  arith,
  ap (λ xs. length (body_by t.modem xs t.opening 0)) frames,
  ap length (body-push t.modem past octets next t.opening),
  length-append (body_by t.modem (past ++ octets ∷ []) t.opening 1) (piece t.modem next),
  flag_end-at t past octets (next ∷ []) frames named,
)

-- ---- pieces of bits

-- one bit of some flags more
pub flag_more : (sent : List Bool) (left : ℕ) → 1 ≤ left
    → (sent ++ flag_bit left ∷ []) ++ flag_rest (left - 1) ≡ sent ++ flag_rest left
flag_more sent zero some = absurd (omega arith)
flag_more sent (suc left) some =
    let less : suc left - 1 ≡ left = omega arith in
    ap (λ n. (sent ++ flag_bit (suc left) ∷ []) ++ flag_rest n) less
    ∙ append_assoc sent (flag_bit (suc left) ∷ []) (flag_rest left)

-- the last bit of them
pub flag_last : (sent : List Bool) (left : ℕ) → left ≡ 1 → sent ++ flag_bit left ∷ [] ≡ sent ++ flag_rest left
flag_last sent left last =
    let P : ℕ → Type 0 = λ n. sent ++ flag_bit n ∷ [] ≡ sent ++ flag_rest n in
    subst P (sym last) refl

-- how long they are
pub length-with_flags : (sent : List Bool) (left : ℕ) → length (sent ++ flag_rest left) ≡ length sent + left
length-with_flags sent left = omega (arith, length-append sent (flag_rest left), length-flag_rest left)

-- what holds on both sides of a test
pub by_test : {X : Type 0} (P : X → Type 0) (b : Bool) (x y : X) → (b ≡ true → P x) → (b ≡ false → P y) → P (cond b x y)
by_test P true x y where_true where_false = where_true refl
by_test P false x y where_true where_false = where_false refl

-- a frame has begun
pub started : (modem : Modem) (octets : List ℕ) → 15 ≤ length octets
    → frame_over (frame_start modem octets) octets ≡ false
started modem octets least =
    some_left (frame_start modem octets) octets
    ∙ lt-leb (length (frame_rest (frame_start modem octets) octets)) 0
    (omega (arith, ap length (frame_rest-start modem octets), piece-long modem octets least))

pub frame_begins : (modem : Modem) (sent before all : List Bool) (octets : List ℕ) → sent ≡ before
    → before ++ piece modem octets ≡ all → sent ++ frame_rest (frame_start modem octets) octets ≡ all
frame_begins modem sent before all octets is whole =
    ap (λ xs. xs ++ frame_rest (frame_start modem octets) octets) is
    ∙ ap (λ xs. before ++ xs) (frame_rest-start modem octets) ∙ whole

-- ---- a bit of the opening flags

module _ (left : ℕ) (t : OnAir) (total : ℕ) (sent : List Bool) (h : InOpening left t sent)
    (count : length sent ≡ total) where
  -- they are all that is decided
  pub opening_bits : flags t.opening ≡ body_by t.modem t.frames t.opening 0
  opening_bits =
      sym (ap (λ xs. body_by t.modem xs t.opening 0) h.frames ∙ body-none t.modem t.opening 0 ∙ append-nil (flags t.opening))

  pub opening_end : frames_end t ≡ total + left
  unfolding frames_end
  opening_end = omega (
    arith,
    ap length opening_bits,
    ap length h.bits,
    length-with_flags sent left,
  )

  -- the end of the first frame, if that is decided
  pub first_end : (now : OnAir) (octets : List ℕ) → now.modem ≡ t.modem → now.opening ≡ t.opening
      → now.frames ≡ octets ∷ [] → frames_end now ≡ (total + left) + length (piece t.modem octets)
  unfolding frames_end
  first_end now octets by opening frames = omega (
    arith,
    ap (λ m. length (body_by m now.frames now.opening 0)) by,
    ap (λ xs. length (body_by t.modem xs now.opening 0)) frames,
    ap (λ n. length (body_by t.modem (octets ∷ []) n 0)) opening,
    ap length (body-single t.modem octets t.opening),
    length-append (flags t.opening) (piece t.modem octets),
    ap length h.bits,
    length-with_flags sent left,
  )

  pub opening_named : t.named ≡ length t.frames
  opening_named = h.named ∙ sym (ap length h.frames)

  -- before the last one
  opening_goes_on : (waiting : List WaitingFrame) (frames : ℕ) → 1 < left → frames ≡ length t.frames
      → Steps waiting t total sent (record {
        bit = Some (flag_bit left);
        named = None;
        stage = Opening (left - 1);
        frames = frames;
        waiting = waiting;
      })
  opening_goes_on waiting frames several is_frames =
      let end_there = opening_end in
      let goes : has_sent_frames (total + 1) t ≡ false = frames_go_on (total + 1) t (omega arith) in
      let flag : names_next (total + 1) t ≡ false = all_named (total + 1) t opening_named in
      record {
        bit = flag_bit left;
        is_bit = refl;
        now = t;
        is_now = same_now (total + 1) waiting t goes flag;
        is_waiting = same_waiting (total + 1) waiting t goes flag;
        is_named = none_named (total + 1) waiting t goes flag;
        place = no_place (total + 1) waiting t goes flag;
        stands = record {
          some = omega arith;
          bits = flag_more sent left h.some ∙ h.bits;
          frames = h.frames;
          ends = h.ends;
          named = h.named;
        };
        frames = is_frames;
        closing = refl;
        modem = refl;
      }

  module _ (one : left ≡ 1) where
    all_open : sent ++ flag_bit left ∷ [] ≡ flags t.opening
    all_open = flag_last sent left one ∙ h.bits

    open_ended : has_sent_frames (total + 1) t ≡ true
    open_ended =
        let end_there = opening_end in
        frames_end_here (total + 1) t h.ends (omega arith)

    -- no frame waits
    opening_closes : (modem : Modem) (tail frames : ℕ) → frames ≡ length t.frames → t.closing ≡ closing_flags modem tail
        → Steps [] t total sent (record {
          bit = Some (flag_bit left);
          named = None;
          stage = Closing (8 * closing_flags modem tail);
          frames = frames;
          waiting = [];
        })
    opening_closes modem tail frames is_frames is_closing =
        let now : OnAir = record t { ends = true } in
        let follows : followed_by (waiting_after t []) t ≡ now =
        ap (λ w. followed_by w t) (after_none t [] h.frames) in
        let flag : names_next (total + 1) now ≡ false = all_named (total + 1) now opening_named in
        let least : 1 ≤ closing_flags modem tail = le-max_left 1 (flags_in modem tail) in
        record {
          bit = flag_bit left;
          is_bit = refl;
          now = now;
          is_now = decided_now (total + 1) [] t open_ended now follows flag;
          is_waiting = decided_waiting (total + 1) [] t open_ended now follows flag;
          is_named = decided_named (total + 1) [] t open_ended now follows flag;
          place = decided_place (total + 1) [] t open_ended now follows flag;
          stands = record {
            some = omega arith;
            bits = ap (λ xs. xs ++ flag_rest (8 * closing_flags modem tail)) all_open
                ∙ ap (λ xs. flags t.opening ++ xs) (sym (flags-is (closing_flags modem tail)))
                ∙ sym (body-none t.modem t.opening (closing_flags modem tail))
                ∙ ap (λ n. body_by t.modem [] t.opening n) (sym is_closing)
                ∙ ap (λ xs. body_by t.modem xs t.opening t.closing) (sym h.frames);
            ends = refl;
            named = opening_named;
          };
          frames = is_frames;
          closing = refl;
          modem = refl;
        }

    -- the front frame follows
    opening_begins : (front : WaitingFrame) (others : List WaitingFrame) → HasFrameLength front.octets
        → Steps (front ∷ others) t total sent (record {
          bit = Some (flag_bit left);
          named = None;
          stage = Frame (frame_start t.modem front.octets);
          frames = 1;
          waiting = front ∷ others;
        })
    opening_begins front others fits =
        let waiting : List WaitingFrame = front ∷ others in
        let now : OnAir = record t { frames = t.frames ++ front.octets ∷ [] } in
        let all : now.frames ≡ front.octets ∷ [] = ap (λ xs. xs ++ front.octets ∷ []) h.frames in
        let few : ltb (length t.frames) most_frames ≡ true =
        lt-ltb (length t.frames) most_frames (omega (arith, ap length h.frames)) in
        let follows : followed_by (waiting_after t waiting) t ≡ now =
        ap (λ w. followed_by w t) (after_none t waiting h.frames)
        ∙ cond-true (ltb (length t.frames) most_frames) _ _ few in
        let single : body_by t.modem now.frames t.opening 0 ≡ flags t.opening ++ piece t.modem front.octets =
        ap (λ xs. body_by t.modem xs t.opening 0) all ∙ body-single t.modem front.octets t.opening in
        let following = first_end now front.octets refl refl all in
        let there = flag_end-last now [] front.octets all h.named in
        let flag : names_next (total + 1) now ≡ false = flag_goes_on (total + 1) now (omega arith) in
        record {
          bit = flag_bit left;
          is_bit = refl;
          now = now;
          is_now = decided_now (total + 1) waiting t open_ended now follows flag;
          is_waiting = decided_waiting (total + 1) waiting t open_ended now follows flag;
          is_named = decided_named (total + 1) waiting t open_ended now follows flag;
          place = decided_place (total + 1) waiting t open_ended now follows flag;
          stands = record {
            past = [];
            some = started t.modem front.octets fits.least;
            bits = frame_begins t.modem (sent ++ flag_bit left ∷ []) (flags t.opening) (body_by t.modem now.frames t.opening 0)
                front.octets all_open (sym single);
            frames = all;
            ends = h.ends;
            named = h.named;
          };
          frames = sym (ap length all);
          closing = refl;
          modem = refl;
        }

  pub opening_steps : (waiting : List WaitingFrame) → All (λ frame. HasFrameLength frame.octets) waiting
      → (modem : Modem) (tail frames : ℕ) → modem ≡ t.modem → frames ≡ length t.frames
      → t.closing ≡ closing_flags modem tail
      → Steps waiting t total sent (stage_step (Opening left) modem tail frames waiting)
  opening_steps waiting fit modem tail frames by is_frames is_closing =
      by_test (λ step. Steps waiting t total sent step) (ltb 1 left) _ _
      (λ several. opening_goes_on waiting frames (ltb-true 1 left several) is_frames)
      (λ last.
      let few : left ≤ 1 = ltb-false 1 left last in
      let some : 1 ≤ left = h.some in
      let one : left ≡ 1 = omega arith in
      opened_steps waiting fit modem tail frames by one is_frames is_closing)
    where
      opened_steps : (waiting : List WaitingFrame) → All (λ frame. HasFrameLength frame.octets) waiting
          → (modem : Modem) (tail frames : ℕ) → modem ≡ t.modem → left ≡ 1 → frames ≡ length t.frames
          → t.closing ≡ closing_flags modem tail
          → Steps waiting t total sent (record {
            bit = Some (flag_bit left);
            named = None;
            stage = after_opening modem tail waiting;
            frames = frames_opened frames waiting;
            waiting = waiting;
          })
      opened_steps [] fit modem tail frames by one is_frames is_closing =
          opening_closes one modem tail frames is_frames is_closing
      opened_steps (front ∷ others) fit modem tail frames by one is_frames is_closing =
          subst (λ m. Steps (front ∷ others) t total sent (record {
            bit = Some (flag_bit left);
            named = None;
            stage = Frame (frame_start m front.octets);
            frames = 1;
            waiting = front ∷ others;
          })) (sym by)
          (opening_begins one front others
          (All-head (λ (frame : WaitingFrame). HasFrameLength frame.octets) front others fit))

-- ---- a bit of a frame

module _ (f : FrameBits) (front : WaitingFrame) (others : List WaitingFrame) (t : OnAir) (total : ℕ) (sent : List Bool)
    (h : InFrame f front t sent) (count : length sent ≡ total) (next : NextInFrame f front.octets) where
  -- the bits with the next one
  more_sent : (sent ++ next.bit ∷ []) ++ frame_rest next.following front.octets ≡ body_by t.modem t.frames t.opening 0
  more_sent =
      append_assoc sent (next.bit ∷ []) (frame_rest next.following front.octets)
      ∙ ap (λ xs. sent ++ xs) (sym next.rest) ∙ h.bits

  pub frame_end : frames_end t ≡ (total + 1) + length (frame_rest next.following front.octets)
  unfolding frames_end
  frame_end = omega (
    arith,
    ap length more_sent,
    length-append (sent ++ next.bit ∷ []) (frame_rest next.following front.octets),
    length-append sent (next.bit ∷ []),
  )

  flag_there : flag_end (t.named + 1) t ≡ frames_end t + 8
  flag_there = flag_end-last t h.past front.octets h.frames h.named

  module _ (goes_on : frame_over next.following front.octets ≡ false) (frames : ℕ)
      (is_frames : frames ≡ length t.frames) where
    pub frame_goes_on : Steps (front ∷ others) t total sent
        (record {
          bit = Some next.bit;
          named = None;
          stage = Frame next.following;
          frames = frames;
          waiting = front ∷ others;
        })
    frame_goes_on =
        let again = next_given next.following front.octets goes_on in
        let longer : 1 ≤ length (frame_rest next.following front.octets) = omega (arith, ap length again.rest) in
        let end_there = frame_end in
        let after_there = flag_there in
        let goes : has_sent_frames (total + 1) t ≡ false = frames_go_on (total + 1) t (omega arith) in
        let flag : names_next (total + 1) t ≡ false = flag_goes_on (total + 1) t (omega arith) in
        record {
          bit = next.bit;
          is_bit = refl;
          now = t;
          is_now = same_now (total + 1) (front ∷ others) t goes flag;
          is_waiting = same_waiting (total + 1) (front ∷ others) t goes flag;
          is_named = none_named (total + 1) (front ∷ others) t goes flag;
          place = no_place (total + 1) (front ∷ others) t goes flag;
          stands = record {
            past = h.past;
            some = goes_on;
            bits = more_sent;
            frames = h.frames;
            ends = h.ends;
            named = h.named;
          };
          frames = is_frames;
          closing = refl;
          modem = refl;
        }

  module _ (over : frame_over next.following front.octets ≡ true) (frames : ℕ) (is_frames : frames ≡ length t.frames) where
    end_here : frames_end t ≡ total + 1
    end_here = omega (arith, frame_end, ap length (frame_rest-over next.following front.octets over))

    ended : has_sent_frames (total + 1) t ≡ true
    ended = frames_end_here (total + 1) t h.ends (omega (arith, end_here))

    -- the flag after the frame is to come
    flag_comes : (sent ++ next.bit ∷ []) ++ flag_rest 8 ≡ body_by t.modem (h.past ++ front.octets ∷ []) t.opening 1
    flag_comes =
        ap (λ xs. xs ++ flag_rest 8) (
        sym (append-nil (sent ++ next.bit ∷ []))
        ∙ ap (λ xs. (sent ++ next.bit ∷ []) ++ xs) (sym (frame_rest-over next.following front.octets over))
        ∙ more_sent
        )
        ∙ sym (body-closing t.modem t.frames t.opening 1) ∙ ap (λ xs. body_by t.modem xs t.opening 1) h.frames

    -- no frame follows
    pub closes : followed_by others t ≡ record t { ends = true } → joins frames (front ∷ others) ≡ false
        → Steps (front ∷ others) t total sent (record {
          bit = Some next.bit;
          named = None;
          stage = Following 8 false;
          frames = frames;
          waiting = front ∷ others;
        })
    closes is alone =
        let now : OnAir = record t { ends = true } in
        let follows : followed_by (waiting_after t (front ∷ others)) t ≡ now =
        ap (λ w. followed_by w t) (after_front t h.past front.octets front others h.frames h.named) ∙ is in
        let after_there : flag_end (t.named + 1) now ≡ frames_end t + 8 =
        flag_end-at now h.past front.octets [] (h.frames ∙ sym (append-nil (h.past ++ front.octets ∷ []))) h.named
        ∙ ap (λ xs. length (body_by t.modem xs t.opening 1)) (sym h.frames) ∙ length-frames_flag t in
        let there = end_here in
        let flag : names_next (total + 1) now ≡ false = flag_goes_on (total + 1) now (omega arith) in
        record {
          bit = next.bit;
          is_bit = refl;
          now = now;
          is_now = decided_now (total + 1) (front ∷ others) t ended now follows flag;
          is_waiting = decided_waiting (total + 1) (front ∷ others) t ended now follows flag;
          is_named = decided_named (total + 1) (front ∷ others) t ended now follows flag;
          place = decided_place (total + 1) (front ∷ others) t ended now follows flag;
          stands = record {
            past = h.past;
            some = omega arith;
            bits = flag_comes;
            frames = h.frames ∙ sym (append-nil (h.past ++ front.octets ∷ []));
            ends = refl;
            named = h.named;
          };
          frames = is_frames;
          closing = refl;
          modem = refl;
        }

    -- another frame follows
    pub joined_by : (follower : WaitingFrame) (more : List WaitingFrame) → others ≡ follower ∷ more
        → followed_by others t ≡ record t { frames = t.frames ++ follower.octets ∷ [] }
        → Steps (front ∷ others) t total sent (record {
          bit = Some next.bit;
          named = None;
          stage = Following 8 true;
          frames = frames + 1;
          waiting = front ∷ others;
        })
    joined_by follower more is_others is =
        let now : OnAir = record t { frames = t.frames ++ follower.octets ∷ [] } in
        let follows : followed_by (waiting_after t (front ∷ others)) t ≡ now =
        ap (λ w. followed_by w t) (after_front t h.past front.octets front others h.frames h.named) ∙ is in
        let all : now.frames ≡ (h.past ++ front.octets ∷ []) ++ follower.octets ∷ [] =
        ap (λ xs. xs ++ follower.octets ∷ []) h.frames in
        let after_there : flag_end (t.named + 1) now ≡ frames_end t + 8 =
        flag_end-at now h.past front.octets (follower.octets ∷ []) all h.named
        ∙ ap (λ xs. length (body_by t.modem xs t.opening 1)) (sym h.frames) ∙ length-frames_flag t in
        let there = end_here in
        let flag : names_next (total + 1) now ≡ false = flag_goes_on (total + 1) now (omega arith) in
        let P : List WaitingFrame → Type 0 = λ w. Stands (Following 8 true) (front ∷ w) now (sent ++ next.bit ∷ []) in
        record {
          bit = next.bit;
          is_bit = refl;
          now = now;
          is_now = decided_now (total + 1) (front ∷ others) t ended now follows flag;
          is_waiting = decided_waiting (total + 1) (front ∷ others) t ended now follows flag;
          is_named = decided_named (total + 1) (front ∷ others) t ended now follows flag;
          place = decided_place (total + 1) (front ∷ others) t ended now follows flag;
          stands = subst P (sym is_others) (record {
            past = h.past;
            some = omega arith;
            bits = flag_comes;
            frames = all;
            ends = h.ends;
            named = h.named;
          });
          frames = omega (arith, length-append t.frames (follower.octets ∷ []));
          closing = refl;
          modem = refl;
        }

-- the step that ends a frame, as the sender makes it
ended_step : (f : FrameBits) (front : WaitingFrame) (others : List WaitingFrame) (t : OnAir) (total : ℕ)
    (sent : List Bool)
    (h : InFrame f front t sent) (count : length sent ≡ total) (next : NextInFrame f front.octets)
    (over : frame_over next.following front.octets ≡ true) (frames : ℕ) (is_frames : frames ≡ length t.frames)
    → Steps (front ∷ others) t total sent (record {
      bit = Some next.bit;
      named = None;
      stage = Following 8 (joins frames (front ∷ others));
      frames = cond (joins frames (front ∷ others)) (frames + 1) frames;
      waiting = front ∷ others;
    })
ended_step f front [] t total sent h count next over frames is_frames =
    let alone : joins frames (front ∷ []) ≡ false = and-false (ltb frames most_frames) in
    let P : Bool → Type 0 = λ b. Steps (front ∷ []) t total sent (record {
      bit = Some next.bit;
      named = None;
      stage = Following 8 b;
      frames = cond b (frames + 1) frames;
      waiting = front ∷ [];
    }) in
    subst P (sym alone) (closes f front [] t total sent h count next over frames is_frames refl alone)
ended_step f front (follower ∷ more) t total sent h count next over frames is_frames =
    let P : Bool → Type 0 = λ b. Steps (front ∷ follower ∷ more) t total sent (record {
      bit = Some next.bit;
      named = None;
      stage = Following 8 b;
      frames = cond b (frames + 1) frames;
      waiting = front ∷ follower ∷ more;
    }) in
    let waits : ltb 1 (length (front ∷ follower ∷ more)) ≡ true =
    lt-ltb 1 (length (front ∷ follower ∷ more)) (omega arith) in
    let same : ltb frames most_frames ≡ ltb (length t.frames) most_frames = ap (λ n. ltb n most_frames) is_frames in
    elim (cases_Bool (ltb (length t.frames) most_frames)) [
      | inl few ↦
          let joining : joins frames (front ∷ follower ∷ more) ≡ true =
          ap (λ b. b && ltb 1 (length (front ∷ follower ∷ more))) (same ∙ few) ∙ waits in
          subst P (sym joining) (joined_by f front
          (follower ∷ more) t total sent h count next over frames is_frames follower more refl
          (cond-true (ltb (length t.frames) most_frames) _ _ few))
      | inr many ↦
          let alone : joins frames (front ∷ follower ∷ more) ≡ false =
          ap (λ b. b && ltb 1 (length (front ∷ follower ∷ more))) (same ∙ many) in
          subst P (sym alone) (closes f front (follower ∷ more) t total sent h count next over frames is_frames
          (cond-false (ltb (length t.frames) most_frames) _ _ many) alone)
    ]

pub frame_steps : (f : FrameBits) (front : WaitingFrame) (others : List WaitingFrame) (t : OnAir) (total : ℕ)
    (sent : List Bool) → InFrame f front t sent → length sent ≡ total → (modem : Modem) (tail frames : ℕ) → frames ≡ length t.frames
    → Steps (front ∷ others) t total sent (stage_step (Frame f) modem tail frames (front ∷ others))
frame_steps f front others t total sent h count modem tail frames is_frames =
    let next = next_given f front.octets h.some in
    let P : Option (Bool × FrameBits) → Type 0 =
    λ o. Steps (front ∷ others) t total sent (frame_step o front.octets frames (front ∷ others)) in
    subst P (sym next.given)
    (by_test (λ step. Steps (front ∷ others) t total sent step) (frame_over next.following front.octets) _ _
    (λ over. ended_step f front others t total sent h count next over frames is_frames)
    (λ goes. frame_goes_on f front others t total sent h count next goes frames is_frames))

-- ---- a bit of the flag after a frame

module _ (left : ℕ) (front : WaitingFrame) (next : List (List ℕ)) (last : Bool) (t : OnAir) (total : ℕ)
    (sent : List Bool)
    (h : InFlag left front next last t sent) (count : length sent ≡ total) where
  pub flag_there_at : flag_end (t.named + 1) t ≡ total + left
  flag_there_at =
      flag_end-at t h.past front.octets next h.frames h.named ∙ ap length (sym h.bits) ∙ length-with_flags sent left
      ∙ ap (λ n. n + left) count

  pub flag_waits : t.named < length t.frames
  flag_waits = omega (
    arith,
    h.named,
    ap length h.frames,
    length-append (h.past ++ front.octets ∷ []) next,
    length-append h.past (front.octets ∷ []),
  )

  pub front_is_named : get_or t.frames t.named [] ≡ front.octets
  front_is_named =
      ap (λ n. get_or t.frames n []) h.named
      ∙ ap (λ xs. get_or xs (length h.past) []) (h.frames ∙ append_assoc h.past (front.octets ∷ []) next)
      ∙ get_or-append_seam h.past front.octets next []

  -- with more of the flag to come
  pub in_flag : (waiting : List WaitingFrame) (another : Bool) (frames : ℕ) → 1 < left → frames ≡ length t.frames
      → has_sent_frames (total + 1) t ≡ false
      → Stands (Following (left - 1) another) waiting t (sent ++ flag_bit left ∷ [])
      → Steps waiting t total sent (record {
        bit = Some (flag_bit left);
        named = None;
        stage = Following (left - 1) another;
        frames = frames;
        waiting = waiting;
      })
  in_flag waiting another frames several is_frames goes stands =
      let there = flag_there_at in
      let flag : names_next (total + 1) t ≡ false = flag_goes_on (total + 1) t (omega arith) in
      record {
        bit = flag_bit left;
        is_bit = refl;
        now = t;
        is_now = same_now (total + 1) waiting t goes flag;
        is_waiting = same_waiting (total + 1) waiting t goes flag;
        is_named = none_named (total + 1) waiting t goes flag;
        place = no_place (total + 1) waiting t goes flag;
        stands = stands;
        frames = is_frames;
        closing = refl;
        modem = refl;
      }

  pub flag_less : 1 < left → InFlag (left - 1) front next last t (sent ++ flag_bit left ∷ [])
  flag_less several = record {
    past = h.past;
    some = omega arith;
    bits = flag_more sent left h.some ∙ h.bits;
    frames = h.frames;
    ends = h.ends;
    named = h.named;
  }

  -- with its last bit
  pub flag_whole : left ≡ 1 → sent ++ flag_bit left ∷ [] ≡ body_by t.modem (h.past ++ front.octets ∷ []) t.opening 1
  flag_whole one = flag_last sent left one ∙ h.bits

  pub flag_ends : (others : List WaitingFrame) (frames : ℕ) (stage : Stage) → left ≡ 1 → frames ≡ length t.frames
      → has_sent_frames (total + 1) t ≡ false
      → Stands stage others (record t { named = t.named + 1 }) (sent ++ flag_bit left ∷ [])
      → Steps (front ∷ others) t total sent (record {
        bit = Some (flag_bit left);
        named = Some front.octets;
        stage = stage;
        frames = frames;
        waiting = others;
      })
  flag_ends others frames stage one is_frames goes stands =
      let there = flag_there_at in
      let flag : names_next (total + 1) t ≡ true = flag_ends_here (total + 1) t flag_waits (omega arith) in
      record {
        bit = flag_bit left;
        is_bit = refl;
        now = record t { named = t.named + 1 };
        is_now = named_now (total + 1) (front ∷ others) t goes flag;
        is_waiting = fewer_waiting (total + 1) (front ∷ others) t goes flag;
        is_named = one_named (total + 1) (front ∷ others) t goes flag ∙ ap Some front_is_named;
        place = λ _. ap (λ (u : OnAir). flag_end (u.named + 1) u) (undecided (total + 1) (front ∷ others) t goes)
            ∙ there ∙ ap (λ n. total + n) one;
        stands = stands;
        frames = is_frames;
        closing = refl;
        modem = refl;
      }

pub following_next : (left : ℕ) (front follower : WaitingFrame) (more : List WaitingFrame) (t : OnAir) (total : ℕ)
    (sent : List Bool) → InFlag left front (follower.octets ∷ []) false t sent → length sent ≡ total
    → HasFrameLength follower.octets → (modem : Modem) (tail frames : ℕ) → modem ≡ t.modem → frames ≡ length t.frames
    → Steps (front ∷ follower ∷ more) t total sent (stage_step (Following left true) modem tail frames
    (front ∷ follower ∷ more))
following_next left front follower more t total sent h count fits modem tail frames by is_frames =
    let next : List (List ℕ) = follower.octets ∷ [] in
    let waiting : List WaitingFrame = front ∷ follower ∷ more in
    let there = flag_there_at left front next false t total sent h count in
    let following = frames_end-next t h.past front.octets follower.octets h.frames h.named in
    let long : 136 ≤ length (piece t.modem follower.octets) = piece-long t.modem follower.octets fits.least in
    let some : 1 ≤ left = h.some in
    let goes : has_sent_frames (total + 1) t ≡ false = frames_go_on (total + 1) t (omega arith) in
    by_test (λ step. Steps waiting t total sent step) (ltb 1 left) _ _
    (λ several.
    let above : 1 < left = ltb-true 1 left several in
    in_flag left front next false t total sent h count waiting true frames above is_frames goes
    (flag_less left front next false t total sent h count above))
    (λ last.
    let below : left ≤ 1 = ltb-false 1 left last in
    let one : left ≡ 1 = omega arith in
    flag_ends left front next false t total sent h count (follower ∷ more) frames (Frame
    (frame_start modem follower.octets)) one
    is_frames goes (subst (λ m. Stands (Frame (frame_start m follower.octets)) (follower ∷ more)
    (record t { named = t.named + 1 }) (sent ++ flag_bit left ∷ [])) (sym by) (record {
      past = h.past ++ front.octets ∷ [];
      some = started t.modem follower.octets fits.least;
      bits = frame_begins t.modem (sent ++ flag_bit left ∷ []) (body_by t.modem (h.past ++ front.octets ∷ []) t.opening 1)
          (body_by t.modem t.frames t.opening 0) follower.octets (flag_whole left front next false t total sent h count one)
          (sym (ap (λ xs. body_by t.modem xs t.opening 0) h.frames ∙ body-push t.modem h.past front.octets follower.octets t.opening));
      frames = h.frames;
      ends = h.ends;
      named = omega (arith, h.named, length-append h.past (front.octets ∷ []));
    })))

-- the closing flags after the first one
closing_follows : (by : Modem) (frames : List (List ℕ)) (opening : ℕ) (modem : Modem) (tail : ℕ) (now : List Bool)
    → 1 < closing_flags modem tail → now ≡ body_by by frames opening 1
    → now ++ flag_rest (8 * (closing_flags modem tail - 1)) ≡ body_by by frames opening (closing_flags modem tail)
closing_follows by frames opening modem tail now several is =
    let others : ℕ = closing_flags modem tail - 1 in
    let all : 1 + others ≡ closing_flags modem tail = omega arith in
    ap (λ xs. xs ++ flag_rest (8 * others)) is ∙ ap (λ xs. body_by by frames opening 1 ++ xs) (sym (flags-is others))
    ∙ sym (body-more_closing by frames opening others) ∙ ap (body_by by frames opening) all

pub following_last : (left : ℕ) (front : WaitingFrame) (others : List WaitingFrame) (t : OnAir) (total : ℕ)
    (sent : List Bool) → InFlag left front [] true t sent → length sent ≡ total → (modem : Modem) (tail frames : ℕ)
    → frames ≡ length t.frames → t.closing ≡ closing_flags modem tail
    → Steps (front ∷ others) t total sent (stage_step (Following left false) modem tail frames (front ∷ others))
following_last left front others t total sent h count modem tail frames is_frames is_closing =
    let goes : has_sent_frames (total + 1) t ≡ false = frames_ended (total + 1) t h.ends in
    let some : 1 ≤ left = h.some in
    let whole : t.frames ≡ h.past ++ front.octets ∷ [] = h.frames ∙ append-nil (h.past ++ front.octets ∷ []) in
    let all : t.named + 1 ≡ length t.frames =
    omega (arith, h.named, ap length whole, length-append h.past (front.octets ∷ [])) in
    by_test (λ step. Steps (front ∷ others) t total sent step) (ltb 1 left) _ _
    (λ several.
    let above : 1 < left = ltb-true 1 left several in
    in_flag left front [] true t total sent h count (front ∷ others) false frames above is_frames goes
    (flag_less left front [] true t total sent h count above))
    (λ last.
    let below : left ≤ 1 = ltb-false 1 left last in
    let one : left ≡ 1 = omega arith in
    let now : List Bool = sent ++ flag_bit left ∷ [] in
    let is_now : now ≡ body_by t.modem t.frames t.opening 1 =
    flag_whole left front [] true t total sent h count one ∙ ap (λ xs. body_by t.modem xs t.opening 1) (sym whole) in
    flag_ends left front [] true t total sent h count others frames (other_closing modem tail) one is_frames goes
    (by_test (λ stage. Stands stage others (record t { named = t.named + 1 }) now) (ltb 1 (closing_flags modem tail)) _ _
    (λ several.
    let above : 1 < closing_flags modem tail = ltb-true 1 (closing_flags modem tail) several in
    record {
      some = omega arith;
      bits = closing_follows t.modem t.frames t.opening modem tail now above is_now ∙ ap (body_by t.modem t.frames t.opening) (sym is_closing);
      ends = h.ends;
      named = all;
    })
    (λ single.
    let few : closing_flags modem tail ≤ 1 = ltb-false 1 (closing_flags modem tail) single in
    let least : 1 ≤ closing_flags modem tail = le-max_left 1 (flags_in modem tail) in
    let is_one : 1 ≡ t.closing = omega arith in
    record { bits = is_now ∙ ap (body_by t.modem t.frames t.opening) is_one; ends = h.ends; named = all })))

-- ---- a bit of the closing flags

pub closing_step : (left : ℕ) (waiting : List WaitingFrame) (t : OnAir) (total : ℕ) (sent : List Bool)
    → InClosing left t sent → (modem : Modem) (tail frames : ℕ) → frames ≡ length t.frames
    → Steps waiting t total sent (stage_step (Closing left) modem tail frames waiting)
closing_step left waiting t total sent h modem tail frames is_frames =
    let goes : has_sent_frames (total + 1) t ≡ false = frames_ended (total + 1) t h.ends in
    let flag : names_next (total + 1) t ≡ false = all_named (total + 1) t h.named in
    let some : 1 ≤ left = h.some in
    record {
      bit = flag_bit left;
      is_bit = refl;
      now = t;
      is_now = same_now (total + 1) waiting t goes flag;
      is_waiting = same_waiting (total + 1) waiting t goes flag;
      is_named = none_named (total + 1) waiting t goes flag;
      place = no_place (total + 1) waiting t goes flag;
      stands = by_test (λ stage. Stands stage waiting t (sent ++ flag_bit left ∷ [])) (ltb 1 left) _ _
          (λ several.
          let above : 1 < left = ltb-true 1 left several in
          record { some = omega arith; bits = flag_more sent left h.some ∙ h.bits; ends = h.ends; named = h.named })
          (λ last.
          let below : left ≤ 1 = ltb-false 1 left last in
          let one : left ≡ 1 = omega arith in
          record { bits = flag_last sent left one ∙ h.bits; ends = h.ends; named = h.named });
      frames = is_frames;
      closing = refl;
      modem = refl;
    }

-- ---- all of them

-- nothing is left, and nothing more is decided or named
pub record IsOver (waiting : List WaitingFrame) (t : OnAir) (total : ℕ) (sent : List Bool) (frames : ℕ) (step : Step)
    : Type 0 where
  pub is : step ≡ record { bit = None; named = None; stage = Over; frames = frames; waiting = waiting }
  pub all : IsSent t sent
  pub short : length sent ≤ total
  pub is_now : now_at (total + 1) waiting t ≡ t
  pub is_waiting : waiting_at (total + 1) waiting t ≡ waiting
  pub is_named : named_at (total + 1) waiting t ≡ None
  pub place : names_next (total + 1) (decided (total + 1) waiting t) ≡ true
      → flag_end ((decided (total + 1) waiting t).named + 1) (decided (total + 1) waiting t) ≡ total + 1

-- a step sends a bit if all bits so far were sent, or nothing is left
pub record SendsBit (waiting : List WaitingFrame) (t : OnAir) (total : ℕ) (sent : List Bool)
    (step : Step) : Type 0 where
  pub steps : Steps waiting t total sent step
  pub count : length sent ≡ total

pub stage_cases : (stage : Stage) (waiting : List WaitingFrame) (t : OnAir) (total : ℕ) (sent : List Bool)
    (modem : Modem) (tail frames : ℕ)
    → Stands stage waiting t sent → Counts stage total sent → All (λ frame. HasFrameLength frame.octets) waiting
    → modem ≡ t.modem → frames ≡ length t.frames → t.closing ≡ closing_flags modem tail
    → SendsBit waiting t total sent (stage_step stage modem tail frames waiting)
    ⊎ IsOver waiting t total sent frames (stage_step stage modem tail frames waiting)
stage_cases (Opening left) waiting t total sent modem tail frames h count fit by is_frames is_closing =
    inl (record {
      steps = opening_steps left t total sent h count waiting fit modem tail frames by is_frames is_closing;
      count = count;
    })
stage_cases (Frame f) [] t total sent modem tail frames h count fit by is_frames is_closing = absurd h
stage_cases (Frame f) (front ∷ others) t total sent modem tail frames h count fit by is_frames is_closing =
    inl (record { steps = frame_steps f front others t total sent h count modem tail frames is_frames; count = count })
stage_cases (Following left true) [] t total sent modem tail frames h count fit by is_frames is_closing = absurd h
stage_cases (Following left true) (front ∷ []) t total sent modem tail frames h count fit by is_frames is_closing = absurd h
stage_cases (Following left true) (front ∷ next ∷ others) t total sent modem tail frames h count fit by is_frames is_closing =
    let following = All-tail (λ (frame : WaitingFrame). HasFrameLength frame.octets) front (next ∷ others) fit in
    let fits = All-head (λ (frame : WaitingFrame). HasFrameLength frame.octets) next others following in
    inl (record {
      steps =
          following_next left front next others t total sent h count fits modem tail frames by is_frames;
      count = count;
    })
stage_cases (Following left false) [] t total sent modem tail frames h count fit by is_frames is_closing = absurd h
stage_cases (Following left false) (front ∷ others) t total sent modem tail frames h count fit by is_frames is_closing =
    inl (record {
      steps = following_last left front others t total sent h count modem tail frames is_frames is_closing;
      count = count;
    })
stage_cases (Closing left) waiting t total sent modem tail frames h count fit by is_frames is_closing =
    inl (record { steps = closing_step left waiting t total sent h modem tail frames is_frames; count = count })
stage_cases Over waiting t total sent modem tail frames h count fit by is_frames is_closing =
    let goes : has_sent_frames (total + 1) t ≡ false = frames_ended (total + 1) t h.ends in
    let flag : names_next (total + 1) t ≡ false = all_named (total + 1) t h.named in
    inr (record {
      is = refl;
      all = h;
      short = count;
      is_now = same_now (total + 1) waiting t goes flag;
      is_waiting = same_waiting (total + 1) waiting t goes flag;
      is_named = none_named (total + 1) waiting t goes flag;
      place = no_place (total + 1) waiting t goes flag;
    })
