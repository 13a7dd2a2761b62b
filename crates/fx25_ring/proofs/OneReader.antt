-- The turn of a receiver whose lanes share one reader, whatever they hear.
use Rattle.fx25_ring.proofs.Common.{◌≡◌, ℕ, zero, suc, ◌-◌, ◌^◌, ◌<◌, ◌≤◌, ◌↔◌, Bool, true, List, [], ◌∷◌, ◌++◌}
use Rattle.fx25_ring.proofs.Common.{map, refl, ap, sym, subst, ◌∙◌, arith, All-nil, append-nil, map-append, Got}
use Rattle.fx25_ring.proofs.Common.{Candidate, LaneGap, Reader, position_of, reads_of, answer, lane_of, least_position}
use Rattle.fx25_ring.proofs.Common.{answers_of, MeetsEnd, IsReading, Leads, position_after, leads_join, leads_position}
use Rattle.fx25_ring.proofs.Common.{leads_up, Stretch, Turn, Heard, MadeTurn}
use Rattle.std.specs.Prelude.{Result, Ok, Err, IfOk, min}
use Rattle.std.specs.Result.{IsErrAnd}
use Rattle.std.proofs.lemmas.List.Elements.{All-cons, All-head}
use Rattle.slicer_bank.specs.RingTurns.{gaps_from}
use Rattle.ring_receiver.specs.Turns.{IsTurnOf}
use Rattle.sample_ring.specs.Ends.{IsNew}

-- a turn that wanted memory brings nothing
pub none_made : {T E : Type 0} (Q : E → Type 0) (result : Result T E) (P : T → Type 0) → IsErrAnd result Q
    → IfOk result P
none_made Q (Ok v) P e = absurd e
none_made Q (Err e) P is = tt

-- a reader that has read nothing
pub nothing_answered : (len : ℕ) (reader : Reader) → IsNew reader → answers_of len reader ≡ []
nothing_answered len reader new = ap (map (answer len)) new.nothing_read

-- the turn of one reader
one_turn : (before now reads : List Got) (gaps told : List LaneGap) (ended : Bool) → now ≡ before ++ reads
    → IsReading reads → gaps ≡ told → told ≡ gaps_from 0 (reads ∷ []) → (ended ≡ true) ↔ MeetsEnd reads
    → IsTurnOf 1 (before ∷ []) (now ∷ []) gaps ended
one_turn before now reads gaps told ended more reading same is met = record {
  reads = reads ∷ [];
  longer = record { count_before = refl; count_reads = refl; count_now = refl; each = each };
  readings = All-cons IsReading reads [] reading (All-nil IsReading);
  told = same ∙ is;
  over = (
    λ e. All-cons MeetsEnd reads [] (met.0 e) (All-nil MeetsEnd),
    λ h. met.1 (All-head MeetsEnd reads [] h),
  );
}
  where
    each : (reader : ℕ) → reader < 1
        → lane_of (now ∷ []) reader ≡ lane_of (before ∷ []) reader ++ lane_of (reads ∷ []) reader
    each zero l = more
    each (suc k) l = absurd (omega arith)

module _ (HeardIn HoldBefore HoldAfter : Stretch → List Candidate → Type 0) (ListenBefore ListenAfter : Stretch → Type 0)
    (len : ℕ) (before after : Reader) (turn : Turn) (heard : Heard)
    (made : MadeTurn HeardIn HoldBefore HoldAfter ListenBefore ListenAfter len 0 before after turn) where
  longer : answers_of len after ≡ answers_of len before ++ made.answers
  longer =
      ap (map (answer len)) made.on.read ∙ map-append (answer len) (reads_of before) made.on.entries
      ∙ ap (λ t. answers_of len before ++ t) (sym made.on.are)

  pub turned : heard.ended ≡ turn.ended → heard.gaps.items ≡ turn.gaps.items
      → IsTurnOf 1 (answers_of len before ∷ []) (answers_of len after ∷ []) heard.gaps.items heard.ended
  turned over told =
      one_turn (answers_of len before) (answers_of len after) made.answers heard.gaps.items turn.gaps.items heard.ended
      longer made.reading told (made.on.gaps ∙ sym (append-nil _))
      (λ e. made.met.0 (sym over ∙ e), λ m. over ∙ made.met.1 m)

  module _ (lead : Leads 0 (answers_of len before) (position_of before)) where
    pub leads : Leads 0 (answers_of len after) (position_of after)
    leads = subst (λ a. Leads 0 a (position_of after)) (sym longer)
        (leads_join 0 (answers_of len before) made.answers (position_of before) (position_of after) lead made.on.forward)

    pub no_lower : position_after (answers_of len before) ≤ position_after (answers_of len after)
    no_lower =
        let first = leads_position (answers_of len before) (position_of before) lead in
        let last = leads_position (answers_of len after) (position_of after) leads in
        let up = leads_up (position_of before) made.answers (position_of after) made.on.forward in
        omega arith

    module _ (here : heard.least ≡ position_of after) (small : heard.least < 2 ^ 64) where
      pub there : heard.least ≡ position_after (answers_of len after)
      there = here ∙ sym (leads_position (answers_of len after) (position_of after) leads)

      pub lowest : heard.least ≡ least_position (answers_of len after ∷ [])
      lowest =
          let e : heard.least ≡ min (2 ^ 64 - 1) heard.least = omega arith in
          e ∙ ap (min (2 ^ 64 - 1)) there

      pub rises : least_position (answers_of len before ∷ []) ≤ heard.least
      rises =
          let up = no_lower in
          let last = there in
          let one : least_position (answers_of len before ∷ [])
          ≡ min (2 ^ 64 - 1) (position_after (answers_of len before)) = refl in
          omega arith
