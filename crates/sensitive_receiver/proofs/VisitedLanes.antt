-- The lanes of a list as they are made, and visited one after another.
use Rattle.sensitive_receiver.proofs.Common.{◌≡◌, ℕ, ◌+◌, ◌<◌, ◌≤◌, ℤ, List, [], length, get_or, set, refl, sym, subst}
use Rattle.sensitive_receiver.proofs.Common.{◌∙◌, arith, true, All, Candidate, DecidedPlace, AddsAt, HasRoomFrom, HeldRing}
use Rattle.sensitive_receiver.proofs.Common.{IsLastPlace, LanesHear, HeldLane, LaneStandsFor, LanesHaveRead, Reach}
use Rattle.sensitive_receiver.proofs.Common.{LastIsRead, is_read_at, lane_of, lane_tones}
use Rattle.std.proofs.lemmas.List.{length-set}
use Rattle.sensitive_receiver.proofs.PlaceLanes.{adds_next_among, adds_nobody, lane_before, lane_read}

-- so many lanes that have read nothing
pub record AreFresh (n : ℕ) (lanes : List HeldLane) : Type 0 where
  pub count : length lanes ≡ n
  pub each : (k : ℕ) (d : HeldLane) → k < n → LaneStandsFor (get_or lanes k d) []

-- of no places no lane reads a tone
pub tones_of_none : (x : List ℤ) (lane : ℕ) → lane_tones x lane 0 ≡ []
unfolding lane_tones
tones_of_none x lane = refl

pub read_none : (reach : Reach) (n : ℕ) (lanes : List HeldLane) (x : List ℤ) → n ≡ 3 → AreFresh n lanes
    → LanesHaveRead reach lanes 0 x
read_none reach n lanes x all h k d l = subst (LaneStandsFor (get_or lanes k d)) (sym (tones_of_none x (lane_of reach k)))
    (h.each k d (omega arith))

-- ---- one lane after another

-- the lanes from one on to below another were visited at the last place
pub record Visited (ring : HeldRing) (at : DecidedPlace) (old now : List HeldLane) (before after : List Candidate)
    (first n : ℕ) : Type 0 where
  pub least : first ≤ n
  pub size : length now ≡ 3
  pub hear : LanesHear first n ring at old now before after
  pub bounds : (low : ℕ) → low ≤ at.place + 6 → All (HasRoomFrom low) before → All (HasRoomFrom low) after

pub visited_none : (ring : HeldRing) (at : DecidedPlace) (lanes : List HeldLane) (found : List Candidate)
    (first : ℕ)
    → length lanes ≡ 3
    → Visited ring at lanes lanes found found first first
visited_none ring at lanes found first size = record {
  least = omega arith;
  size = size;
  hear = record {
    read = λ x last h. h;
    found = λ x last h. adds_nobody ring.reach at.place x first found;
  };
  bounds = λ low under h. h;
}

module _ (ring : HeldRing) (at : DecidedPlace) (old now : List HeldLane) (before found after : List Candidate)
    (first n number : ℕ) (was lane : HeldLane)
    (h : Visited ring at old now before found first n) (l : n < 3)
    (number_is : lane_of ring.reach n ≡ number) (told : at.reads ≡ true)
    (reads : (x : List ℤ) → LastIsRead ring number at.place x
    → LaneStandsFor (get_or now n was) (lane_tones x number at.place)
    → LaneStandsFor lane (lane_tones x number (at.place + 1)))
    (adds : (x : List ℤ) → LastIsRead ring number at.place x
    → LaneStandsFor (get_or now n was) (lane_tones x number at.place)
    → AddsAt at.place number x found after)
    (bound : (low : ℕ) → low ≤ at.place + 6 → All (HasRoomFrom low) found → All (HasRoomFrom low) after) where
  abbrev own : ℕ
  own = lane_of ring.reach n

  read_there : (x : List ℤ) → IsLastPlace ring at x → LastIsRead ring number at.place x
  read_there x last = record {
    decided = last.decided;
    last = last.last;
    reads = subst (λ m. is_read_at x m at.place ≡ true) number_is
        (sym (last.told own (omega arith, omega arith)) ∙ told);
  }

  reads_here : (x : List ℤ) → IsLastPlace ring at x → LaneStandsFor (get_or now n was) (lane_tones x own at.place)
      → LaneStandsFor lane (lane_tones x own (at.place + 1))
  reads_here x last = subst (λ m. LaneStandsFor (get_or now n was) (lane_tones x m at.place)
      → LaneStandsFor lane (lane_tones x m (at.place + 1))) (sym number_is) (reads x (read_there x last))

  adds_here : (x : List ℤ) → IsLastPlace ring at x → LaneStandsFor (get_or now n was) (lane_tones x own at.place)
      → AddsAt at.place own x found after
  adds_here x last = subst (λ m. LaneStandsFor (get_or now n was) (lane_tones x m at.place)
      → AddsAt at.place m x found after) (sym number_is) (adds x (read_there x last))

  pub visited_more : Visited ring at old (set now n lane) before after first (n + 1)
  visited_more =
      let least = h.least in
      record {
        least = omega arith;
        size = length-set now n lane ∙ h.size;
        hear = record {
          read = λ x last start. lane_read ring.reach x at.place n now was lane h.size l (reads_here x last)
              (h.hear.read x last start);
          found = λ x last start. adds_next_among ring.reach at.place x first n before found after h.least l
              (h.hear.found x last start)
              (adds_here x last (lane_before ring.reach x at.place n now was l (h.hear.read x last start)));
        };
        bounds = λ low under all. bound low under (h.bounds low under all);
      }
