-- A lane at a fixed offset over a line of tones, stretch by stretch, and all of them lane by lane.
use Rattle.sensitive_receiver.proofs.Common.{◌≡◌, ℕ, ◌+◌, ◌-◌, ◌*◌, ◌%◌, ◌<◌, ◌≤◌, ℤ, List, [], ◌++◌, length}
use Rattle.sensitive_receiver.proofs.Common.{get_or, set, take, refl, ap, sym, subst, ◌∙◌, arith, inl, inr, cases_lt, cases_eq}
use Rattle.sensitive_receiver.proofs.Common.{Tone, Candidate, All, Far, tones, is_read_at, lane_tones, EndsAtPlace, HasRoomFrom}
use Rattle.std.proofs.Common.{get_or-set_same, get_or-set_other}
use Rattle.std.proofs.lemmas.List.{get_or_default, take_all}
use Rattle.slicer_bank.specs.ToneLanes.{HeldToneLane, ToneLaneStandsFor}
use Rattle.tone_tracking.specs.declared.place_tones.PlaceTones.{PlaceTones}
use Rattle.sensitive_receiver.specs.FixedLanes.{FixedReadsLine, LaneReads, LanesRead, TakesEight}
use Rattle.sensitive_receiver.specs.Found.{AreAddedWhere}
use Rattle.sensitive_receiver.specs.Hearing.{AreTonesOf}
use Rattle.sensitive_receiver.proofs.FixedLemmas.{line_tone, quiet_eight, some_read}
use Rattle.sensitive_receiver.proofs.FlagInTime.{fixed_rest, fixed_turn}
use Rattle.sensitive_receiver.proofs.FoundLemmas.{adds_join, adds_none}

-- ---- one lane

module _ (number first : ℕ) (line : List PlaceTones) (least : 8 ≤ number) (most : number < 16) where
  -- what stands where there is nothing
  abbrev rest : PlaceTones
  rest = record { bits = 0 }

  -- an item of the lane ends at a place of the lane's own
  own_place : (x : List ℤ) (item : Candidate) (p : ℕ) → item.offset ≡ number → EndsAtPlace x item p
      → p % 8 ≡ number - 8
  own_place x item p of ends = fixed_turn x number least most p (ap (λ l. is_read_at x l p) (sym of) ∙ ends.reads)

  -- up to its first place it reads nothing
  pub reads_none : (n : ℕ) (lane : HeldToneLane) (found : List Candidate) → n < 8 → (first + n) % 8 ≡ number - 8
      → LaneReads number first line first (first + n) lane lane found found
  reads_none n lane found few turn = record {
    read = λ x are h. subst (ToneLaneStandsFor lane)
        (sym (fixed_rest x number least most first n (λ j l same. omega arith))) h;
    found = λ x are h. adds_none (λ p l. ((first ≤ p) × (p < first + n)) × (l ≡ number)) x found
        (λ item p of ends.
        let low = of.0.0 in
        let high = of.0.1 in
        let own = own_place x item p of.1 ends in
        omega arith);
  }

  -- it reads eight places at once
  pub reads_eight : (at to : ℕ) (old new : HeldToneLane) (found : List Candidate) → (first + at) % 8 ≡ number - 8
      → to ≡ first + at + 64 → TakesEight line at old new
      → LaneReads number first line (first + at) to old new found found
  reads_eight at to old new found turn to_is h =
      let p = first + at in
      let inside = h.inside in
      let size = h.size in
      let are_there : (x : List ℤ) → AreTonesOf first line x → (k : ℕ) (d : Tone) → k < 8
      → get_or h.eight k d ≡ tones Far x (p + 8 * k)
      = λ x are k d few. line_tone x first line (at + 8 * k) rest (get_or h.eight k d) are (omega arith) (h.are k d rest few)
      ∙ ap (tones Far x) (let e : first + (at + 8 * k) ≡ p + 8 * k = omega arith in e) in
      let whole : take 8 h.eight ≡ h.eight = take_all 8 h.eight (omega arith) in
      subst (λ t. LaneReads number first line p t old new found found) (sym to_is)
      (record {
        read = λ x are s. subst (ToneLaneStandsFor new)
            (ap (λ t. lane_tones x number p ++ t) (sym whole)
            ∙ sym (some_read x number least most p h.eight turn h.size (are_there x are) 8 (omega arith))
            ∙ ap (lane_tones x number) (let e : p + 8 * 8 ≡ p + 64 = omega arith in e))
            (h.taken (lane_tones x number p) s);
        found = λ x are s. quiet_eight x number least most p h.eight turn h.size (are_there x are) found
            (λ k octets few. h.quiet (lane_tones x number p) k octets s few);
      })

  -- what it reads, and what it reads after that
  pub reads_on : (from middle to : ℕ) (old was new : HeldToneLane) (before found after : List Candidate)
      → from ≤ middle → middle ≤ to → LaneReads number first line from middle old was before found
      → LaneReads number first line middle to was new found after
      → LaneReads number first line from to old new before after
  reads_on from middle to old was new before found after le le' a b = record {
    read = λ x are h. b.read x are (a.read x are h);
    found = λ x are h. adds_join (λ p l. ((from ≤ p) × (p < middle)) × (l ≡ number))
        (λ p l. ((middle ≤ p) × (p < to)) × (l ≡ number)) (λ p l. ((from ≤ p) × (p < to)) × (l ≡ number)) x
        before found after (a.found x are h) (b.found x are (a.read x are h))
        (λ p l of. ((of.0.0, (let high = of.0.1 in omega arith)), of.1))
        (λ p l of. (((let low = of.0.0 in omega arith), of.0.1), of.1))
        (λ p l of. elim (cases_lt p middle) [
          | inl lt ↦ inl ((of.0.0, lt), of.1)
          | inr ge ↦ inr ((ge, of.0.1), of.1)
        ])
        (λ p l of also. let high = of.0.1 in let low = also.0.0 in omega arith);
  }

  -- past the line it reads nothing
  pub reads_line : (at : ℕ) (old new : HeldToneLane) (before after : List Candidate) → length line ≤ at
      → at < length line + 8 → (first + at) % 8 ≡ number - 8
      → LaneReads number first line first (first + at) old new before after
      → LaneReads number first line first (first + length line) old new before after
  reads_line at old new before after past near turn a =
      let end = first + length line in
      let over = at - length line in
      record {
        read = λ x are h. subst (ToneLaneStandsFor new)
            (ap (lane_tones x number) (let e : first + at ≡ end + over = omega arith in e)
            ∙ fixed_rest x number least most end over (λ j l same. omega arith))
            (a.read x are h);
        found = λ x are h.
            let adds = a.found x are h in
            record {
              heard = adds.heard;
              found = adds.found;
              are = record {
                each = λ k d l.
                    let e = adds.are.each k d l in
                    let high = e.1.0.1 in
                    let own = own_place x (get_or adds.heard k d) e.0 e.1.1 e.2 in
                    (e.0, ((e.1.0.0, omega arith), e.1.1), e.2);
                whole = λ item p of ends.
                    let high = of.0.1 in
                    adds.are.whole item p ((of.0.0, omega arith), of.1) ends;
                apart = adds.are.apart;
              };
            };
      }

  -- a lane that stands for what another stood for reads as that
  pub reads_left : (from middle to : ℕ) (old left new : HeldToneLane) (before after : List Candidate)
      → ((tones : List Tone) → ToneLaneStandsFor old tones → ToneLaneStandsFor left tones) → middle ≡ to
      → LaneReads number first line from middle left new before after
      → LaneReads number first line from to old new before after
  reads_left from middle to old left new before after stays to_is a =
      subst (λ t. LaneReads number first line from t old new before after) to_is
      (record {
        read = λ x are h. a.read x are (stays (lane_tones x number from) h);
        found = λ x are h. a.found x are (stays (lane_tones x number from) h);
      })

-- ---- lane by lane

module _ (first : ℕ) (line : List PlaceTones) where
  pub lanes_none : (lanes : List HeldToneLane) (found : List Candidate) → LanesRead 0 first line lanes lanes found found
  lanes_none lanes found = record {
    read = λ x k d l. absurd (omega arith);
    rest = λ k d le. refl;
    found = λ x are h. adds_none (λ p l. ((first ≤ p) × (p < first + length line)) × (l < 8 + 0)) x found
        (λ item p of ends. let least = ends.least in let small = of.1 in absurd (omega arith));
  }

  -- one lane more
  pub lanes_more : (n : ℕ) (old now : List HeldToneLane) (lane e : HeldToneLane) (before found after : List Candidate)
      → n < 8 → length now ≡ 8 → LanesRead n first line old now before found
      → LaneReads (8 + n) first line first (first + length line) (get_or now n e) lane found after
      → LanesRead (n + 1) first line old (set now n lane) before after
  lanes_more n old now lane e before found after few size a b =
      let end = first + length line in
      let start : (x : List ℤ) (d : HeldToneLane) → ToneLaneStandsFor (get_or old n d) (lane_tones x (8 + n) first)
      → ToneLaneStandsFor (get_or now n e) (lane_tones x (8 + n) first)
      = λ x d. subst (λ l. ToneLaneStandsFor l (lane_tones x (8 + n) first))
      (sym (a.rest n d (let le : n ≤ n = omega arith in le))
      ∙ get_or_default now n d e (let l : n < length now = omega arith in l)) in
      record {
        read = λ x k d l are h. elim (cases_eq k n) [
          | inl same ↦ subst (λ i. ToneLaneStandsFor (get_or (set now n lane) i d) (lane_tones x (8 + i) end)) (sym same)
              (subst (λ t. ToneLaneStandsFor t (lane_tones x (8 + n) end))
              (sym (get_or-set_same now n lane d (omega arith)))
              (b.read x are (start x d
              (subst (λ i. ToneLaneStandsFor (get_or old i d) (lane_tones x (8 + i) first)) same h))))
          | inr ne ↦ subst (λ t. ToneLaneStandsFor t (lane_tones x (8 + k) end))
              (sym (get_or-set_other now n k lane d ne)) (a.read x k d (omega arith) are h)
        ];
        rest = λ k d le. get_or-set_other now n k lane d (λ e. omega arith) ∙ a.rest k d (omega arith);
        found = λ x are h. adds_join (λ p l. ((first ≤ p) × (p < end)) × (l < 8 + n))
            (λ p l. ((first ≤ p) × (p < end)) × (l ≡ 8 + n)) (λ p l. ((first ≤ p) × (p < end)) × (l < 8 + (n + 1))) x
            before found after (a.found x are (λ k d l. h k d (omega arith)))
            (b.found x are (start x e (h n e (omega arith))))
            (λ p l of. (of.0, (let small = of.1 in omega arith)))
            (λ p l of. (of.0, (let same = of.1 in omega arith)))
            (λ p l of. elim (cases_lt l (8 + n)) [
              | inl lt ↦ inl (of.0, lt)
              | inr ge ↦ inr (of.0, (let small = of.1 in omega arith))
            ])
            (λ p l of also. let small = of.1 in let same = also.1 in omega arith);
      }

-- the whole bank
pub bank_reads : (place : ℕ) (line : List PlaceTones) (old new : List HeldToneLane) (items : List Candidate)
    → LanesRead 8 place line old new [] items → All (HasRoomFrom (place + 6)) items
    → FixedReadsLine (record { place = place; lanes = old }) (record { place = place + length line; lanes = new }) line items
bank_reads place line old new items a bounds = record {
  place = refl;
  read = λ x are h. record { lanes = λ k d l. a.read x k d l are (h.lanes k d l) };
  found = λ x are h.
      let adds = a.found x are h.lanes in
      subst (AreAddedWhere (λ p l. ((place ≤ p) × (p < place + length line)) × (l < 16)) x) (sym adds.found) adds.are;
  bounds = bounds;
}
