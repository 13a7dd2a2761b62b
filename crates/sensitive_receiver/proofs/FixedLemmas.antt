-- What a lane at a fixed offset reads, and what it hears of some places.
use Rattle.sensitive_receiver.proofs.Common.{◌≡◌, ℕ, zero, suc, ◌+◌, ◌-◌, ◌*◌, ◌/◌, ◌%◌, ◌<◌, ◌≤◌, true}
use Rattle.sensitive_receiver.proofs.Common.{ℤ, List, [], ◌∷◌, ◌++◌, length, get_or, take, refl, ap, sym, subst, ◌∙◌, arith}
use Rattle.sensitive_receiver.proofs.Common.{inl, inr, append_assoc, append-nil}
use Rattle.sensitive_receiver.proofs.Common.{Tone, Candidate, EndsFrame, EndsAtPlace, HasPath, AddsAt, is_in_time, bits_of}
use Rattle.sensitive_receiver.proofs.Common.{Far, tones, delay_of, is_read_at, lane_tones, lane_bits}
use Rattle.std.proofs.Common.{add-one}
use Rattle.std.proofs.lemmas.List.{take_more}
use Rattle.slicer_bank.specs.ToneLanes.{HeldToneLane, ToneLaneStandsFor}
use Rattle.tone_tracking.specs.declared.correlation.Correlations.{Correlations}
use Rattle.tone_tracking.specs.declared.place_tones.PlaceTones.{PlaceTones}
use Rattle.tone_tracking.specs.Correlation.{correlations}
use Rattle.tone_tracking.specs.Slots.{tone_of}
use Rattle.tone_tracking.specs.WithoutMean.{without_mean}
use Rattle.tone_tracking.proofs.SlotLemmas.{tone_of_place}
use Rattle.sensitive_receiver.specs.FixedLanes.{Reports}
use Rattle.sensitive_receiver.specs.Hearing.{AreTonesOf}
use Rattle.sensitive_receiver.specs.Found.{AddsWhere}
use Rattle.sensitive_receiver.proofs.FoundLemmas.{adds_none, adds_one}
use Rattle.sensitive_receiver.proofs.FlagInTime.{fixed_next, fixed_rest, fixed_tone, fixed_turn, turn_reads}
use Rattle.sensitive_receiver.proofs.LaneLemmas.{lane_tones-read}

module _ (x : List ℤ) (lane : ℕ) (least : 8 ≤ lane) (most : lane < 16) where
  -- after a place of its own the lane has one tone more, until its next place
  pub one_more : (place n : ℕ) → place % 8 ≡ lane - 8 → n < 8
      → lane_tones x lane (place + 1 + n) ≡ lane_tones x lane place ++ tones Far x place ∷ []
  one_more place n turn few =
      fixed_rest x lane least most (place + 1) n (λ j l same. omega arith)
      ∙ lane_tones-read x lane place (turn_reads x lane least most place turn)
      ∙ ap (λ t. lane_tones x lane place ++ t ∷ []) (fixed_tone x lane least most place)

  -- ---- one place of its own

  -- what it adds there is all that it adds until its next place
  pub adds_until_next : (place : ℕ) (before after : List Candidate) → place % 8 ≡ lane - 8
      → AddsAt place lane x before after
      → AddsWhere (λ p l. ((place ≤ p) × (p < place + 8)) × (l ≡ lane)) x before after
  adds_until_next place before after turn a = record {
    heard = a.heard;
    found = a.found;
    are = record {
      each = λ k d l. let e = a.are.each k d l in (e.0, ((let at = e.1.0 in (omega arith, omega arith)), e.1.1), e.2);
      whole = λ item p of ends.
          let low = of.0.0 in
          let high = of.0.1 in
          let own = fixed_turn x lane least most p (ap (λ l. is_read_at x l p) (sym of.1) ∙ ends.reads) in
          a.are.whole item p ((let at : p ≡ place = omega arith in at), of.1) ends;
      apart = a.are.apart;
    };
  }

  module _ (place : ℕ) (tone : Tone) (old new : HeldToneLane) (turn : place % 8 ≡ lane - 8)
      (tone_here : tone ≡ tones Far x place) (stood : ToneLaneStandsFor old (lane_tones x lane place)) where
    pushed : (n : ℕ) → n < 8 → lane_tones x lane (place + 1 + n) ≡ lane_tones x lane place ++ tone ∷ []
    pushed n few = one_more place n turn few ∙ ap (λ t. lane_tones x lane place ++ t ∷ []) (sym tone_here)

    pub one_read : ToneLaneStandsFor new (lane_tones x lane place ++ tone ∷ [])
        → ToneLaneStandsFor new (lane_tones x lane (place + 8))
    one_read stands = subst (ToneLaneStandsFor new)
        (sym (pushed 7 (omega arith)) ∙ ap (lane_tones x lane) (let e : place + 1 + 7 ≡ place + 8 = omega arith in e)) stands

    here : lane_tones x lane (place + 1) ≡ lane_tones x lane place ++ tone ∷ []
    here = ap (lane_tones x lane) (let e : place + 1 ≡ place + 1 + 0 = omega arith in e) ∙ pushed 0 (omega arith)

    frame_of : (item : Candidate) (p : ℕ) → (p ≡ place) × (item.offset ≡ lane) → EndsAtPlace x item p
        → EndsFrame (lane_bits x lane (place + 1)) item.octets
    frame_of item p of ends =
        subst (λ l. EndsFrame (lane_bits x l (place + 1)) item.octets) of.1
        (subst (λ q. EndsFrame (lane_bits x item.offset (q + 1)) item.octets) of.0 ends.frame)

    frame_here : (octets : List ℕ) → EndsFrame (lane_bits x lane (place + 1)) octets
        → EndsFrame (bits_of (lane_tones x lane place ++ tone ∷ [])) octets
    frame_here octets ends = subst (λ ts. EndsFrame (bits_of ts) octets) here ends

    -- no frame ends
    pub no_frame : (found : List Candidate)
        → ((octets : List ℕ) → EndsFrame (bits_of (lane_tones x lane place ++ tone ∷ [])) octets → ⊥)
        → AddsWhere (λ p l. ((place ≤ p) × (p < place + 8)) × (l ≡ lane)) x found found
    no_frame found never = adds_until_next place found found turn
        (adds_none (λ p l. (p ≡ place) × (l ≡ lane)) x found
        (λ item p of ends. never item.octets (frame_here item.octets (frame_of item p of ends))))

    -- a frame ends, and is reported
    pub some_frame : (found after : List Candidate) (frame : List ℕ) (end : ℕ)
        → ((octets : List ℕ) × EndsFrame (bits_of (lane_tones x lane place ++ tone ∷ [])) octets)
        → ((octets : List ℕ) → EndsFrame (bits_of (lane_tones x lane place ++ tone ∷ [])) octets → frame ≡ octets)
        → ((octets : List ℕ) → EndsFrame (lane_bits x lane (place + 1)) octets → is_in_time x lane place ≡ true)
        → end ≡ place + 8 → Reports lane end frame found after
        → AddsWhere (λ p l. ((place ≤ p) × (p < place + 8)) × (l ≡ lane)) x found after
    some_frame found after frame end some unique timely end_is (inr none) =
        adds_until_next place found after turn
        (subst (AddsAt place lane x found) (sym none.1)
        (adds_none (λ p l. (p ≡ place) × (l ≡ lane)) x found
        (λ item p of ends. none.0
        (subst HasPath (sym (unique item.octets (frame_here item.octets (frame_of item p of ends)))) ends.path))))
    some_frame found after frame end some unique timely end_is (inl one) =
        let ends : EndsFrame (lane_bits x lane (place + 1)) frame
        = subst (λ ts. EndsFrame (bits_of ts) frame) (sym here)
        (subst (EndsFrame (bits_of (lane_tones x lane place ++ tone ∷ []))) (sym (unique some.0 some.1)) some.1) in
        let delay : delay_of lane ≡ 0 = grind arith in
        adds_until_next place found after turn
        (adds_one x place lane found after (record { end = end; offset = lane; octets = frame }) one.1 refl
        (record {
          least = least;
          most = (let m : lane < 26 = omega arith in m);
          reads = turn_reads x lane least most place turn;
          end_of = (let e : end ≡ place + 8 - delay_of lane = omega arith in e);
          frame = ends;
          path = one.0;
          in_time = timely frame ends;
        })
        (λ octets other. unique octets (frame_here octets other)))

  -- ---- eight places of its own

  module _ (place : ℕ) (eight : List Tone) (turn : place % 8 ≡ lane - 8) (size : length eight ≡ 8)
      (are : (k : ℕ) (d : Tone) → k < 8 → get_or eight k d ≡ tones Far x (place + 8 * k)) where
    pub some_read : (n : ℕ) → n ≤ 8 → lane_tones x lane (place + 8 * n) ≡ lane_tones x lane place ++ take n eight
    some_read zero few = ap (lane_tones x lane) (let e : place + 8 * 0 ≡ place = omega arith in e)
        ∙ sym (append-nil (lane_tones x lane place))
    some_read (suc n) few =
        let at = place + 8 * n in
        let d = tones Far x at in
        let own : at % 8 ≡ lane - 8 = omega arith in
        ap (lane_tones x lane) (let e : place + 8 * suc n ≡ at + 8 = omega arith in e)
        ∙ fixed_next x lane least most at own
        ∙ (λ i. some_read n (omega arith) i ++ sym (are n d (omega arith)) i ∷ [])
        ∙ append_assoc (lane_tones x lane place) (take n eight) (get_or eight n d ∷ [])
        ∙ ap (λ t. lane_tones x lane place ++ t) (sym (take_more eight n d (omega arith)))
        ∙ ap (λ m. lane_tones x lane place ++ take m eight) (add-one n)

    -- what ends with the tone of one of them
    at_one : (k : ℕ) → k < 8 → lane_tones x lane (place + 8 * k + 1) ≡ lane_tones x lane place ++ take (k + 1) eight
    at_one k few =
        let at = place + 8 * k in
        let own : at % 8 ≡ lane - 8 = omega arith in
        ap (lane_tones x lane) (let e : at + 1 ≡ at + 1 + 0 = omega arith in e)
        ∙ one_more at 0 own (omega arith) ∙ sym (fixed_next x lane least most at own)
        ∙ ap (lane_tones x lane) (let e : at + 8 ≡ place + 8 * (k + 1) = omega arith in e)
        ∙ some_read (k + 1) (omega arith)

    pub quiet_eight : (found : List Candidate)
        → ((k : ℕ) (octets : List ℕ) → k < 8
        → EndsFrame (bits_of (lane_tones x lane place ++ take (k + 1) eight)) octets → ⊥)
        → AddsWhere (λ p l. ((place ≤ p) × (p < place + 64)) × (l ≡ lane)) x found found
    quiet_eight found quiet =
        adds_none (λ p l. ((place ≤ p) × (p < place + 64)) × (l ≡ lane)) x found
        (λ item p of ends.
        let low = of.0.0 in
        let high = of.0.1 in
        let own = fixed_turn x lane least most p (ap (λ l. is_read_at x l p) (sym of.1) ∙ ends.reads) in
        let k = (p - place) / 8 in
        let few : k < 8 = omega arith in
        let at : p + 1 ≡ place + 8 * k + 1 = omega arith in
        quiet k item.octets few
        (subst (λ ts. EndsFrame (bits_of ts) item.octets) (ap (lane_tones x lane) at ∙ at_one k few)
        (subst (λ l. EndsFrame (lane_bits x l (p + 1)) item.octets) of.1 ends.frame)))

-- the tone of the far list at a place of a line
pub line_tone : (x : List ℤ) (first : ℕ) (line : List PlaceTones) (at : ℕ) (d : PlaceTones) (tone : Tone)
    → AreTonesOf first line x → at < length line → tone ≡ tone_of Far (get_or line at d) → tone ≡ tones Far x (first + at)
line_tone x first line at d tone are inside is =
    let windows : ℕ → Correlations = correlations (without_mean x) in
    is ∙ ap (tone_of Far) (are at d inside) ∙ tone_of_place Far windows (first + at)
