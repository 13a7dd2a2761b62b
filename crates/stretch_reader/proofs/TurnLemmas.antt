-- Turns of a reader: one read after another.
use Rattle.stretch_reader.proofs.Common.{◌≡◌, ℕ, ◌+◌, ◌<◌, ◌^◌, Bool, true, false, List, [], ◌∷◌, ◌++◌, length, map, refl, ap, sym}
use Rattle.stretch_reader.proofs.Common.{subst, ◌∙◌, arith, append_assoc, inl, inr, All, append-nil, length_push, map-append}
use Rattle.stretch_reader.proofs.Common.{All-nil, All-push, true≢false, Got, Entry, Candidate, LaneGap, Reader, position_of}
use Rattle.stretch_reader.proofs.Common.{reads_of, reader_ring, answer, is_end, answers_of, gaps_of, reads_on, Leads}
use Rattle.stretch_reader.proofs.Common.{last_stretch, last-more, leads_more, Stretch, Turn, HaveHeard, ℤ, ◌≤◌, Brings}
use Rattle.stretch_reader.proofs.Common.{MadeTurn, Took, WentOn}
use Rattle.slicer_bank.specs.RingTurns.{most_reads}
use Rattle.slicer_bank.proofs.RingJobLemmas.{gaps_of-append, meets_none, meets_last, last_meets}
use Rattle.stretch_reader.proofs.GoingOn.{all_heard, go_on}

module _ (Heard HoldBefore : Stretch → List Candidate → Type 0) (ListenBefore : Stretch → Type 0) (len lane : ℕ)
    (before : Reader) where
  abbrev Goes : (Stretch → List Candidate → Type 0) → (Stretch → Type 0) → Reader → List Got → List LaneGap
      → List Candidate → Type 0
  Goes HoldAfter ListenAfter after answers told items =
      WentOn Heard HoldBefore HoldAfter ListenBefore ListenAfter len lane before after answers told items

  went_none : Goes HoldBefore ListenBefore before [] [] []
  went_none = record {
    entries = [];
    are = refl;
    read = sym (append-nil (reads_of before));
    forward = refl;
    gaps = refl;
    listens = λ h. h;
    heard = λ given h.
        subst (HaveHeard Heard HoldBefore (answers_of len before)) (sym (append-nil given)) h;
  }

  module _ (HoldNow HoldAfter : Stretch → List Candidate → Type 0) (ListenNow ListenAfter : Stretch → Type 0)
      (now after : Reader) where
    went_more : (answers : List Got) (got : Got) (told_before told : List LaneGap) (items_before items : List Candidate)
        → Goes HoldNow ListenNow now answers told_before items_before
        → Took Heard HoldNow HoldAfter ListenNow ListenAfter len lane now after got told_before told items_before items
        → Goes HoldAfter ListenAfter after (answers ++ got ∷ []) told items
    went_more answers got told_before told items_before items on t =
        let a : List Got = answers_of len now in
        let longer : answers_of len after ≡ a ++ got ∷ []
        = ap (map (answer len)) t.read ∙ map-append (answer len) (reads_of now) (t.entry ∷ [])
        ∙ ap (λ g. a ++ g ∷ []) (sym t.is) in
        record {
          entries = on.entries ++ t.entry ∷ [];
          are = ap (λ l. l ++ got ∷ []) on.are ∙ ap (λ g. map (answer len) on.entries ++ g ∷ []) t.is
              ∙ sym (map-append (answer len) on.entries (t.entry ∷ []));
          read = t.read ∙ ap (λ l. l ++ t.entry ∷ []) on.read
              ∙ append_assoc (reads_of before) on.entries (t.entry ∷ []);
          forward = subst (Leads (position_of before) (answers ++ got ∷ [])) (sym t.position)
              (leads_more (position_of before) answers (position_of now) got on.forward t.forward);
          gaps = t.gaps ∙ ap (λ g. g ++ gaps_of lane (got ∷ [])) on.gaps ∙ sym (gaps_of-append lane answers (got ∷ []));
          listens = λ h.
              subst (λ l. ListenAfter (last_stretch l)) (sym longer)
              (subst ListenAfter (sym (last-more a got)) (t.listens (last_stretch a) (on.listens h)));
          heard = λ given h.
              let first : HaveHeard Heard HoldNow a (given ++ items_before) = on.heard given h in
              subst (λ l. HaveHeard Heard HoldAfter l (given ++ items)) (sym longer)
              (go_on Heard HoldNow HoldAfter a given items_before items first got
              (t.heard (last_stretch a) first.own first.holds));
        }

  -- in a turn of reading: so many answers so far, after each of which the reader reads on
  pub record ReadsOn (HoldNow : Stretch → List Candidate → Type 0) (ListenNow : Stretch → Type 0) (now : Reader)
      (turn : Turn) (count : ℕ) : Type 0 where
    pub ring : reader_ring now ≡ reader_ring before
    pub quiet : turn.ended ≡ false
    pub answers : List Got
    pub on : WentOn Heard HoldBefore HoldNow ListenBefore ListenNow len lane before now answers turn.gaps.items
        turn.items.items
    pub each : All (λ got. reads_on got ≡ true) answers
    pub counted : length answers ≡ count

  pub reads_none : (turn : Turn) → turn.gaps.items ≡ [] → turn.items.items ≡ [] → turn.ended ≡ false
      → ReadsOn HoldBefore ListenBefore before turn 0
  reads_none turn no_gaps no_items quiet = record {
    ring = refl;
    quiet = quiet;
    answers = [];
    on = subst (Goes HoldBefore ListenBefore before [] turn.gaps.items) (sym no_items)
        (subst (λ g. Goes HoldBefore ListenBefore before [] g []) (sym no_gaps) went_none);
    each = All-nil (λ got. reads_on got ≡ true);
    counted = refl;
  }

  module _ (HoldNow HoldAfter : Stretch → List Candidate → Type 0) (ListenNow ListenAfter : Stretch → Type 0)
      (now after : Reader) (turn next : Turn) (count : ℕ) (got : Got) (r : ReadsOn HoldNow ListenNow now turn count)
      (t : Took Heard HoldNow HoldAfter ListenNow ListenAfter len lane now after got turn.gaps.items next.gaps.items
      turn.items.items next.items.items) where
    went : Goes HoldAfter ListenAfter after (r.answers ++ got ∷ []) next.gaps.items next.items.items
    went = went_more HoldNow HoldAfter ListenNow ListenAfter now after r.answers got turn.gaps.items next.gaps.items
        turn.items.items next.items.items r.on t

    pub reads_more : reader_ring after ≡ reader_ring now → next.ended ≡ turn.ended → reads_on got ≡ true
        → ReadsOn HoldAfter ListenAfter after next (count + 1)
    reads_more ring quiet more = record {
      ring = ring ∙ r.ring;
      quiet = quiet ∙ r.quiet;
      answers = r.answers ++ got ∷ [];
      on = went;
      each = All-push (λ g. reads_on g ≡ true) r.answers got r.each more;
      counted = (let c = r.counted in let n = length_push r.answers got in omega arith);
    }

    -- the reader has met an answer after which it does not read on
    pub turn_over : count < most_reads → reads_on got ≡ false → next.ended ≡ is_end got
        → MadeTurn Heard HoldBefore HoldAfter ListenBefore ListenAfter len lane before after next
    turn_over few stop ended = record {
      answers = r.answers ++ got ∷ [];
      on = went;
      reading = record {
        on = r.answers;
        rest = got ∷ [];
        are = refl;
        each = r.each;
        over = inr (got, refl, stop, (let c = r.counted in omega arith));
      };
      met = (λ e. last_meets r.answers got (sym ended ∙ e), λ m. ended ∙ meets_last r.answers got r.each m);
    }

  module _ (HoldNow : Stretch → List Candidate → Type 0) (ListenNow : Stretch → Type 0) (now : Reader) (turn : Turn)
      (count : ℕ) (r : ReadsOn HoldNow ListenNow now turn count) where
    -- or it has read as often as it reads in a turn
    pub turn_full : count ≡ most_reads
        → MadeTurn Heard HoldBefore HoldNow ListenBefore ListenNow len lane before now turn
    turn_full full = record {
      answers = r.answers;
      on = r.on;
      reading = record {
        on = r.answers;
        rest = [];
        are = sym (append-nil r.answers);
        each = r.each;
        over = inl (refl, r.counted ∙ full);
      };
      met = (λ e. absurd (true≢false (sym e ∙ r.quiet)), λ m. absurd (meets_none r.answers r.each m));
    }

    pub grown_more : (after : Reader) (entry : Entry) → reads_of after ≡ reads_of now ++ entry ∷ []
        → (entries : List Entry) × (reads_of after ≡ reads_of before ++ entries)
    grown_more after entry more = (
      r.on.entries ++ entry ∷ [],
      more ∙ ap (λ l. l ++ entry ∷ []) r.on.read ∙ append_assoc (reads_of before) r.on.entries (entry ∷ []),
    )

-- the lanes and the samples that wait are where the reader is, no lane has gone back, and they listen as they did first
pub record Keep {L : Type 0} (place : L → ℕ) (in_step : L → Type 0) (sensitive : L → Bool) (flags : L → ℕ)
    (first now : L) (waiting : List ℤ) (reader : Reader) : Type 0 where
  pub at : place now + length waiting ≡ position_of reader
  pub up : place first ≤ place now
  pub room : position_of reader < 2 ^ 48
  pub step : in_step now
  pub as_sensitive : sensitive now ≡ sensitive first
  pub as_many : flags now ≡ flags first

-- what could come of the first lanes still can
pub still_come : (comes : Bool → ℕ → Candidate → Type 0) (first now : Bool) (from : ℕ) (before items : List Candidate)
    → now ≡ first → (All (comes now from) before → All (comes now from) items) → All (comes first from) before
    → All (comes first from) items
still_come comes first now from before items same more =
    subst (λ b. All (comes b from) before → All (comes b from) items) same more

-- the lanes have heard what waited at the end of a turn, before which none did
pub turn_heard : (Heard HoldFirst HoldBefore HoldNow HoldAfter : Stretch → List Candidate → Type 0)
    (ListenFirst ListenBefore ListenNow ListenAfter : Stretch → Type 0) (len lane : ℕ) (before after : Reader)
    (turn next : Turn)
    → MadeTurn Heard HoldBefore HoldNow ListenBefore ListenNow len lane before after turn
    → ((s : Stretch) (own : List Candidate) → HoldFirst s own → HoldBefore s own)
    → ((s : Stretch) → ListenFirst s → ListenBefore s) → next.ended ≡ turn.ended → next.gaps.items ≡ turn.gaps.items
    → ((s : Stretch) (own : List Candidate) → HoldNow s own → Brings HoldAfter s own turn.items.items next.items.items)
    → ((s : Stretch) → ListenNow s → ListenAfter s)
    → MadeTurn Heard HoldFirst HoldAfter ListenFirst ListenAfter len lane before after next
turn_heard Heard HoldFirst HoldBefore HoldNow HoldAfter ListenFirst ListenBefore ListenNow ListenAfter len lane before after
    turn next made begins begins_there same gaps heard heard_there =
    let on = made.on in
    let a : List Got = answers_of len before in
    let b : List Got = answers_of len after in
    record {
      answers = made.answers;
      on = record {
        entries = on.entries;
        are = on.are;
        read = on.read;
        forward = on.forward;
        gaps = gaps ∙ on.gaps;
        listens = λ h. heard_there (last_stretch b) (on.listens (begins_there (last_stretch a) h));
        heard = λ given h.
            let first : HaveHeard Heard HoldNow b (given ++ turn.items.items) = on.heard given (record {
              earlier = h.earlier;
              own = h.own;
              ended = h.ended;
              holds = begins (last_stretch a) h.own h.holds;
              given_is = h.given_is;
            }) in
            all_heard Heard HoldNow HoldAfter b given turn.items.items next.items.items first
            (heard (last_stretch b) first.own first.holds);
      };
      reading = made.reading;
      met = (λ e. made.met.0 (sym same ∙ e), λ m. same ∙ made.met.1 m);
    }
