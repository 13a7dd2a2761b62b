use Rattle.slicer_bank.proofs.Common.{◌≡◌, ℕ, ℤ, List, [], ◌∷◌, ◌++◌, ◌∙◌, sym, subst, ap, arith, true, to_z, of_z}
use Rattle.slicer_bank.proofs.Common.{true≢false, to_z-of_z, append-nil, All-nil, All-cons, w16, HoldsFrame}
use Rattle.slicer_bank.proofs.Common.{candidate_at, Stretch, with_sample, StretchStandsFor, EndsLast}
use Rattle.std.proofs.Common.{FitsSigned}
use Rattle.slicer_bank.specs.declared.stretch_lane.StretchLane.{StretchLane}
use Rattle.slicer_bank.proofs.stretch_hearing.hear.Goals as goal

-- the lane has heard the sample as it was passed
stands : (was now : StretchLane) (sample : ℤ) → FitsSigned w16 sample
    → ((s : Stretch) → StretchStandsFor was s → StretchStandsFor now (with_sample s (to_z w16 (of_z w16 sample))))
    → (s : Stretch) → StretchStandsFor was s → StretchStandsFor now (with_sample s sample)
stands was now sample fits heard = subst (λ (z : ℤ). (s : Stretch) → StretchStandsFor was s
    → StretchStandsFor now (with_sample s z)) (to_z-of_z w16 sample fits) heard

pub returns-then-not-push-clause-stands_for : goal.returns-then-not-push-clause-stands_for
returns-then-not-push-clause-stands_for c =
    stands c.args.lane.now c.push.new.self c.args.sample c.ranges.sample c.push.ensures.stands_for

pub returns-in_err-octets-clause-stands_for : goal.returns-in_err-octets-clause-stands_for
returns-in_err-octets-clause-stands_for c =
    stands c.args.lane.now c.push.new.self c.args.sample c.ranges.sample c.push.ensures.stands_for

pub returns-in_err-push-clause-stands_for : goal.returns-in_err-push-clause-stands_for
returns-in_err-push-clause-stands_for c =
    stands c.args.lane.now c.push.new.self c.args.sample c.ranges.sample c.push.ensures.stands_for

pub returns-clause-stands_for : goal.returns-clause-stands_for
returns-clause-stands_for c =
    stands c.args.lane.now c.push.new.self c.args.sample c.ranges.sample c.push.ensures.stands_for

pub returns-then-not-push-clause-found : goal.returns-then-not-push-clause-found
returns-then-not-push-clause-found c =
    let stored : to_z w16 (of_z w16 c.args.sample) ≡ c.args.sample = to_z-of_z w16 c.args.sample c.ranges.sample in
    let tells : (s : Stretch) (octets : List ℕ) → StretchStandsFor c.args.lane.now s
    → EndsLast c.args.lane.now.offset (with_sample s c.args.sample) octets
    → (c.push.result ≡ true) × HoldsFrame c.push.new.self.deframer octets
    = subst (λ (z : ℤ). (s : Stretch) (octets : List ℕ) → StretchStandsFor c.args.lane.now s
    → EndsLast c.args.lane.now.offset (with_sample s z) octets
    → (c.push.result ≡ true) × HoldsFrame c.push.new.self.deframer octets) stored c.push.ensures.frame in
    record {
      octets = [];
      one = omega arith;
      found = sym (append-nil c.args.found.now.items);
      each = λ s h. All-nil (EndsLast c.args.lane.now.offset (with_sample s c.args.sample));
      whole = λ s o h ends. absurd (true≢false (sym (tells s o h ends).0 ∙ c.if-not-push.true));
    }

pub returns-clause-found : goal.returns-clause-found
returns-clause-found c =
    let stored : to_z w16 (of_z w16 c.args.sample) ≡ c.args.sample = to_z-of_z w16 c.args.sample c.ranges.sample in
    let tells : (s : Stretch) (octets : List ℕ) → StretchStandsFor c.args.lane.now s
    → EndsLast c.args.lane.now.offset (with_sample s c.args.sample) octets
    → (c.push.result ≡ true) × HoldsFrame c.push.new.self.deframer octets
    = subst (λ (z : ℤ). (s : Stretch) (octets : List ℕ) → StretchStandsFor c.args.lane.now s
    → EndsLast c.args.lane.now.offset (with_sample s z) octets
    → (c.push.result ≡ true) × HoldsFrame c.push.new.self.deframer octets) stored c.push.ensures.frame in
    let octets : List ℕ = c.in_ok-octets.octets in
    let unique : (s : Stretch) (o : List ℕ) → StretchStandsFor c.args.lane.now s
    → EndsLast c.args.lane.now.offset (with_sample s c.args.sample) o → octets ≡ o
    = λ s o h ends. c.in_ok-octets.ensures ∙ c.octets.ensures o ends.frame.2 (tells s o h ends).1 in
    record {
      octets = octets ∷ [];
      one = omega arith;
      found = c.in_ok-push.ensures.items ∙ ap (λ (k : ℕ). c.args.found.now.items ++ candidate_at c.args.end k octets
          ∷ []) c.push.ensures.offset;
      each = λ s h.
          let heard = subst (λ (z : ℤ). (o : List ℕ) × EndsLast c.args.lane.now.offset (with_sample s z) o) stored
          (c.push.ensures.heard s h c.if-not-push.false) in
          let P : List ℕ → Type 0 = EndsLast c.args.lane.now.offset (with_sample s c.args.sample) in
          All-cons P octets [] (subst P (sym (unique s heard.0 h heard.1)) heard.1) (All-nil P);
      whole = λ s o h ends. ap (λ t. t ∷ []) (unique s o h ends);
    }
