-- The lanes of a list at one place: which of them read, and what they have read once some of them have.
use Rattle.sensitive_receiver.proofs.Common.{◌≡◌, ◌≢◌, ℕ, ◌+◌, ◌-◌, ◌<◌, ◌≤◌, false, ℤ, List, length, get_or}
use Rattle.sensitive_receiver.proofs.Common.{set, ap, sym, subst, ◌∙◌, arith, inl, inr, if◌then◌else◌}
use Rattle.sensitive_receiver.proofs.Common.{cases_lt, cases_eq, lt-ltb, true≢false, Candidate, DecidedPlace}
use Rattle.sensitive_receiver.proofs.Common.{AddsAmong, AddsAt, AddsIn, HeldLane, HeldRing, IsLastPlace}
use Rattle.sensitive_receiver.proofs.Common.{LaneStandsFor, LanesAreAt, LanesHaveRead, Reach, is_read_at}
use Rattle.sensitive_receiver.proofs.Common.{first_slow, lane_of, lane_tones}
use Rattle.std.proofs.Common.{get_or-set_same, get_or-set_other}
use Rattle.std.proofs.lemmas.Bool.{le-ltb}
use Rattle.sensitive_receiver.specs.HeldList.{places_read}
use Rattle.sensitive_receiver.proofs.FoundLemmas.{adds_join, adds_none}
use Rattle.sensitive_receiver.proofs.LaneLemmas.{lane_tones-not}

-- ---- how many places they have read

pub places_read-below : (first place k : ℕ) → k < first → places_read first place k ≡ place + 1
places_read-below first place k l = ap (λ b. if b then place + 1 else place) (lt-ltb k first l)

pub places_read-from : (first place k : ℕ) → first ≤ k → places_read first place k ≡ place
places_read-from first place k le = ap (λ b. if b then place + 1 else place) (le-ltb k first le)

-- one lane more changes nothing for the others
places_read-other : (n place k : ℕ) → k ≢ n → places_read (n + 1) place k ≡ places_read n place k
places_read-other n place k ne = elim (cases_lt k n) [
  | inl lt ↦ places_read-below (n + 1) place k (omega arith) ∙ sym (places_read-below n place k lt)
  | inr ge ↦ places_read-from (n + 1) place k (omega arith) ∙ sym (places_read-from n place k ge)
]

module _ (reach : Reach) (x : List ℤ) where
  -- a lane has read so many places
  abbrev At : ℕ → HeldLane → ℕ → Type 0
  At k lane count = LaneStandsFor lane (lane_tones x (lane_of reach k) count)

  -- before any lane has read
  pub lanes_before : (place : ℕ) (lanes : List HeldLane) → LanesHaveRead reach lanes place x
      → LanesAreAt reach 0 lanes place x
  lanes_before place lanes h k d m = subst (At k (get_or lanes k d)) (sym (places_read-from 0 place k (omega arith)))
      (h k d m)

  pub before_lanes : (place : ℕ) (lanes : List HeldLane) → LanesAreAt reach 0 lanes place x
      → LanesHaveRead reach lanes place x
  before_lanes place lanes h k d m = subst (At k (get_or lanes k d)) (places_read-from 0 place k (omega arith)) (h k d m)

  -- after each of them has
  pub lanes_after : (place end : ℕ) (lanes : List HeldLane) → end ≡ 3 → LanesAreAt reach end lanes place x
      → LanesHaveRead reach lanes (place + 1) x
  lanes_after place end lanes all h k d m = subst (At k (get_or lanes k d))
      (places_read-below end place k (omega arith)) (h k d m)

  -- the next lane has not read yet
  pub lane_before : (place n : ℕ) (lanes : List HeldLane) (was : HeldLane) → n < 3
      → LanesAreAt reach n lanes place x → At n (get_or lanes n was) place
  lane_before place n lanes was l h = subst (At n (get_or lanes n was)) (places_read-from n place n (omega arith))
      (h n was l)

  -- the next lane reads
  pub lane_read : (place n : ℕ) (lanes : List HeldLane) (was lane : HeldLane) → length lanes ≡ 3
      → n < 3
      → (At n (get_or lanes n was) place → At n lane (place + 1))
      → LanesAreAt reach n lanes place x → LanesAreAt reach (n + 1) (set lanes n lane) place x
  lane_read place n lanes was lane size l reads h k d m = elim (cases_eq k n) [
    | inl e ↦ subst (λ i. At i (get_or (set lanes n lane) i d) (places_read (n + 1) place i)) (sym e)
        (subst (λ t. At n t (places_read (n + 1) place n)) (sym (get_or-set_same lanes n lane d (omega arith)))
        (subst (At n lane) (sym (places_read-below (n + 1) place n (omega arith)))
        (reads (lane_before place n lanes was l h))))
    | inr ne ↦ subst (λ t. At k t (places_read (n + 1) place k)) (sym (get_or-set_other lanes n k lane d ne))
        (subst (At k (get_or lanes k d)) (sym (places_read-other n place k ne)) (h k d m))
  ]

-- lanes that do not read at the place
module _ (ring : HeldRing) (at : DecidedPlace) (first end : ℕ) (lanes : List HeldLane) (x : List ℤ)
    (le : first ≤ end) (few : end ≤ 3) (last : IsLastPlace ring at x)
    (not_read : at.reads ≡ false) where
  abbrev reach : Reach
  reach = ring.reach

  silent : (k : ℕ) → first ≤ k → k < end → is_read_at x (lane_of reach k) at.place ≡ false
  silent k least small = sym (last.told (lane_of reach k) (omega arith, omega arith)) ∙ not_read

  pub lanes_silent : LanesAreAt reach first lanes at.place x → LanesAreAt reach end lanes at.place x
  lanes_silent h k d m = elim (cases_lt k first) [
    | inl lt ↦ subst (At reach x k (get_or lanes k d))
        (places_read-below first at.place k lt ∙ sym (places_read-below end at.place k (omega arith))) (h k d m)
    | inr ge ↦ elim (cases_lt k end) [
      | inl small ↦ subst (LaneStandsFor (get_or lanes k d))
          (ap (lane_tones x (lane_of reach k)) (places_read-from first at.place k ge)
          ∙ sym (lane_tones-not x (lane_of reach k) at.place (silent k ge small))
          ∙ ap (lane_tones x (lane_of reach k)) (sym (places_read-below end at.place k small))) (h k d m)
      | inr large ↦ subst (At reach x k (get_or lanes k d))
          (places_read-from first at.place k ge ∙ sym (places_read-from end at.place k large)) (h k d m)
    ]
  ]

  pub adds_silent : (found : List Candidate) → AddsAmong reach at.place first end x found found
  adds_silent found =
      adds_none (λ p l. (p ≡ at.place) × ((k : ℕ) × (first ≤ k) × (k < end) × (l ≡ lane_of reach k))) x found
      (λ item place of ends.
      let lane = of.1.3 in
      let quiet = silent of.1.0 of.1.1 of.1.2 in
      true≢false (sym ends.reads ∙ (λ i. is_read_at x (lane i) (of.0 i)) ∙ quiet))

-- ---- what they add

module _ (reach : Reach) (place : ℕ) (x : List ℤ) where
  abbrev Among : ℕ → ℕ → ℕ → ℕ → Type 0
  Among from to p l = (p ≡ place) × ((k : ℕ) × (from ≤ k) × (k < to) × (l ≡ lane_of reach k))

  -- no lane lies from one to below itself
  pub adds_nobody : (first : ℕ) (found : List Candidate) → AddsAmong reach place first first x found found
  adds_nobody first found =
      adds_none (Among first first) x found
      (λ item p of ends. let least = of.1.1 in let most = of.1.2 in absurd (omega arith))

  -- what some lanes add, and what those after them add
  pub adds_join_among : (first middle end : ℕ) (before found after : List Candidate) → first ≤ middle → middle ≤ end
      → end ≤ 3
      → AddsAmong reach place first middle x before found → AddsAmong reach place middle end x found after
      → AddsAmong reach place first end x before after
  adds_join_among first middle end before found after le le' few a b =
      adds_join (Among first middle) (Among middle end) (Among first end) x before found after a b
      (λ p l h. (h.0, (h.1.0, h.1.1, (let small = h.1.2 in omega arith), h.1.3)))
      (λ p l h. (h.0, (h.1.0, (let large = h.1.1 in omega arith), h.1.2, h.1.3)))
      (λ p l h. elim (cases_lt h.1.0 middle) [
        | inl lt ↦ inl (h.0, (h.1.0, h.1.1, lt, h.1.3))
        | inr ge ↦ inr (h.0, (h.1.0, ge, h.1.2, h.1.3))
      ])
      (λ p l h k.
      let small = h.1.2 in
      let large = k.1.1 in
      let inside = k.1.2 in
      let same = h.1.3 in
      let other = k.1.3 in
      omega arith)

  -- what some lanes add, and what the lane after them adds
  pub adds_next_among : (first n : ℕ) (before found after : List Candidate) → first ≤ n → n < 3
      → AddsAmong reach place first n x before found → AddsAt place (lane_of reach n) x found after
      → AddsAmong reach place first (n + 1) x before after
  adds_next_among first n before found after le few a b =
      adds_join_among first n (n + 1) before found after le (omega arith) (omega arith) a (record {
        heard = b.heard;
        found = b.found;
        are = record {
          each = λ k d l.
              let e = b.are.each k d l in
              (e.0, (e.1.0, (n, (let le : n ≤ n = omega arith in le), (let lt : n < n + 1 = omega arith in lt), e.1.1)), e.2);
          whole = λ item p of ends.
              let low = of.1.1 in
              let high = of.1.2 in
              let same : of.1.0 ≡ n = omega arith in
              b.are.whole item p (of.0, of.1.3 ∙ ap (lane_of reach) same) ends;
          apart = b.are.apart;
        };
      })

  -- what all of them add
  pub adds_all : (end : ℕ) (before after : List Candidate) → end ≡ 3
      → AddsAmong reach place 0 end x before after
      → AddsIn reach place (place + 1) x before after
  adds_all end before after all a = record {
    heard = a.heard;
    found = a.found;
    are = record {
      each = λ k d l.
          let e = a.are.each k d l in
          let at = e.1.0 in
          let inside = e.1.1.2 in (
            e.0,
            (
              (omega arith, omega arith),
              (let is = e.1.1.3 in (omega arith, omega arith)),
            ),
            e.2,
          );
      whole = λ item p of ends.
          let low = of.0.0 in
          let high = of.0.1 in
          let least = of.1.0 in
          let most = of.1.1 in
          let here : p ≡ place = omega arith in
          a.are.whole item p (here, (item.offset - first_slow reach, omega arith, omega arith, omega arith)) ends;
      apart = a.are.apart;
    };
  }
