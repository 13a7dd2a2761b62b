-- A follower with one sample more, and what is known of a place.
use Rattle.sensitive_blocks.proofs.Common.{◌≡◌, ℕ, ◌+◌, ◌-◌, ◌<◌, ◌≤◌, Bool, true, false, ℤ, pos, List, [], ◌∷◌, ◌++◌}
use Rattle.sensitive_blocks.proofs.Common.{length, get_or, take, ap, sym, subst, ◌∙◌, arith, inl, inr, length-append, Tone}
use Rattle.sensitive_blocks.proofs.Common.{added_places, tones, if◌then◌else◌, nat_le, nat_lt, ◌&&◌}
use Rattle.sensitive_blocks.proofs.Common.{cases_lt, true≢false, lt-leb, le-leb, lt-ltb, le-ltb, refl}
use Rattle.std.specs.Prelude.{IsTrue, ◌↔◌}
use Rattle.std.proofs.lemmas.List.{take_more, take-append-le}
use Rattle.tone_tracking.specs.declared.bit_clock.Pull.{Pull}
use Rattle.tone_tracking.specs.declared.bit_clock.Pull.TheVariants.{Slow, Fast}
use Rattle.tone_tracking.specs.declared.reach.Reach.{Reach}
use Rattle.tone_tracking.specs.declared.reach.Reach.TheVariants.{Alone, Near, Far}
use Rattle.tone_tracking.specs.Clock.{Clock, reads as clock_reads}
unfoldable use Rattle.tone_tracking.specs.Clock.{clock_after}
use Rattle.tone_tracking.specs.Heard.{places_in}
use Rattle.tone_tracking.specs.HeldTracker.{tone_before}
use Rattle.tone_tracking.specs.WithoutMean.{without_mean}
use Rattle.tone_tracking.specs.HeldMean.{HeldMean, StandsFor as MeanStandsFor}
use Rattle.tone_tracking.specs.HeldLists.{HeldLists, HasTaken as ListsHaveTaken}
use Rattle.sensitive_receiver.proofs.LevelLemmas.{clock-append, level_is, lists-append}
use Rattle.tone_tracking.proofs.TrackerLemmas.{tone_before-last}
use Rattle.sensitive_blocks.specs.Held.{ClocksHaveTaken, FollowerHasTaken, HeldFollower, none_known}
unfoldable use Rattle.sensitive_blocks.specs.Held.{known_at, known_of}

-- ---- what is known

-- before the first place, and from the first one that is not decided on, nothing is
pub known_early : (x : List ℤ) (sum : ℕ) → sum < 8 → known_at x sum ≡ none_known
unfolding known_at
known_early x sum early =
    ap (λ b. if b && nat_lt (sum - 8) (added_places (length x)) then known_of x (sum - 8) else none_known) (lt-leb 8 sum early)

pub known_late : (x : List ℤ) (sum : ℕ) → added_places (length x) ≤ sum - 8 → known_at x sum ≡ none_known
unfolding known_at
known_late x sum late = go (nat_le 8 sum)
  where
    go : (b : Bool) → (if b && nat_lt (sum - 8) (added_places (length x)) then known_of x (sum - 8) else none_known) ≡ none_known
    go true = ap (λ b. if b then known_of x (sum - 8) else none_known) (le-ltb (sum - 8) (added_places (length x)) late)
    go false = refl

pub known_there : (x : List ℤ) (sum : ℕ) → 8 ≤ sum → sum - 8 < added_places (length x) → known_at x sum ≡ known_of x (sum - 8)
unfolding known_at
known_there x sum least decided =
    ap (λ b. if b && nat_lt (sum - 8) (added_places (length x)) then known_of x (sum - 8) else none_known) (le-leb 8 sum least)
    ∙ ap (λ b. if b then known_of x (sum - 8) else none_known) (lt-ltb (sum - 8) (added_places (length x)) decided)

-- as the clocks at a place tell it
known_is : (x : List ℤ) (place : ℕ) (a b c d : Clock) (p q r t : Bool) → ClocksHaveTaken a b c d place x
    → p ≡ clock_reads a → q ≡ clock_reads b → r ≡ clock_reads c → t ≡ clock_reads d
    → record { decided = true; slow_near = p; slow_far = q; fast_near = r; slow_alone = t } ≡ known_of x place
unfolding known_of
known_is x place a b c d p q r t h p_is q_is r_is t_is =
    let one = p_is ∙ ap clock_reads h.slow_near in
    let two = q_is ∙ ap clock_reads h.slow_far in
    let three = r_is ∙ ap clock_reads h.fast_near in
    let four = t_is ∙ ap clock_reads h.slow_alone in
    λ i. record {
      decided = true;
      slow_near = one i;
      slow_far = two i;
      fast_near = three i;
      slow_alone = four i;
    }

-- ---- one sample more

abbrev pub follower_of : ℕ → HeldMean → HeldLists → Pull × Clock → Pull × Clock → Pull × Clock → Pull × Clock → HeldFollower
follower_of position remover lists slow_near slow_far fast_near slow_alone =
    record {
      position = position;
      remover = remover;
      lists = lists;
      slow_near = slow_near;
      slow_far = slow_far;
      fast_near = fast_near;
      slow_alone = slow_alone;
    }

-- the remover has taken the sample at a position
remover_more : (remover next : HeldMean) (x : List ℤ) (position : ℕ) (sample : ℤ) → position < length x
    → sample ≡ get_or x position (pos 0)
    → ((y : List ℤ) → MeanStandsFor remover y → MeanStandsFor next (y ++ sample ∷ []))
    → MeanStandsFor remover (take position x) → MeanStandsFor next (take (position + 1) x)
remover_more remover next x position sample inside is step h =
    subst (MeanStandsFor next)
    (ap (λ z. take position x ++ z ∷ []) is ∙ sym (take_more x position (pos 0) inside)) (step (take position x) h)

-- what the lists are given is the next of the samples without their mean
pub given_level : (x : List ℤ) (position : ℕ) (sample given level passed : ℤ) → given ≡ sample → passed ≡ level
    → position < length x → sample ≡ get_or x position (pos 0)
    → without_mean (take position x ++ given ∷ []) ≡ without_mean (take position x) ++ level ∷ []
    → (position - 15 < length (without_mean x)) × (passed ≡ get_or (without_mean x) (position - 15) (pos 0))
given_level x position sample given level passed same same_level inside is settles =
    let next = level_is x position given level inside (same ∙ is) settles in
    (next.0, same_level ∙ next.1)

-- the tone at the place that was decided last
last_tone_is : (x : List ℤ) (reach : Reach) (count place : ℕ) (tone : Tone)
    → tone ≡ tone_before (tones reach x) (places_in count) 0 → places_in count ≡ place + 1
    → tone ≡ tones reach x place
last_tone_is x reach count place tone is last = is ∙ ap (λ n. tone_before (tones reach x) n 0) last
    ∙ tone_before-last (tones reach x) place

-- whether a place is decided, as the lists tell it
pub not_yet : (told : Bool) (count position : ℕ) → IsTrue told ↔ (23 ≤ count) → told ≡ false → count ≡ position - 15
    → position + 1 < 39
not_yet told count position both is same = elim (cases_lt position 38) [
  | inl few ↦ omega arith
  | inr enough ↦ absurd (true≢false (sym (both.1 (omega arith)) ∙ is))
]

pub already : (told : Bool) (count position : ℕ) → IsTrue told ↔ (23 ≤ count) → told ≡ true → count ≡ position - 15
    → 38 ≤ position
already told count position both is same = let enough = both.0 is in omega arith

-- a sample more of which no place is decided
pub taken_few : (position : ℕ) (remover next : HeldMean) (was lists : HeldLists) (a b c d : Pull × Clock) (x : List ℤ)
    (sample : ℤ) → position + 1 < 39 → position < length x → sample ≡ get_or x position (pos 0)
    → ((y : List ℤ) → MeanStandsFor remover y → MeanStandsFor next (y ++ sample ∷ []))
    → ListsHaveTaken lists (without_mean x) → lists.count ≡ position + 1 - 15
    → FollowerHasTaken (follower_of position remover was a b c d) x
    → FollowerHasTaken (follower_of (position + 1) next lists a b c d) x
taken_few position remover next was lists a b c d x sample few inside is step taken count h =
    let same : added_places position ≡ added_places (position + 1) = omega arith in
    record {
      within = omega arith;
      remover = remover_more remover next x position sample inside is step h.remover;
      lists = taken;
      count = count;
      clocks = subst (λ n. ClocksHaveTaken a.1 b.1 c.1 d.1 n x) same h.clocks;
    }

-- a place is decided by the sample
module _ (position : ℕ) (remover next_remover : HeldMean) (was lists : HeldLists) (a b c d a' b' c' d' : Pull × Clock)
    (near far alone : Tone) (p q r t : Bool) (x : List ℤ) (sample : ℤ)
    (enough : 38 ≤ position) (inside : position < length x) (is : sample ≡ get_or x position (pos 0))
    (step : (y : List ℤ) → MeanStandsFor remover y → MeanStandsFor next_remover (y ++ sample ∷ []))
    (taken : ListsHaveTaken lists (without_mean x)) (count : lists.count ≡ position - 15 + 1)
    (h : FollowerHasTaken (follower_of position remover was a b c d) x)
    (near_is : near ≡ tone_before (tones Near x) (places_in lists.count) 0)
    (far_is : far ≡ tone_before (tones Far x) (places_in lists.count) 0)
    (alone_is : alone ≡ tone_before (tones Alone x) (places_in lists.count) 0)
    (p_is : p ≡ clock_reads a.1) (q_is : q ≡ clock_reads b.1) (r_is : r ≡ clock_reads c.1) (t_is : t ≡ clock_reads d.1)
    (a_pull : a.0 ≡ Slow) (b_pull : b.0 ≡ Slow) (c_pull : c.0 ≡ Fast) (d_pull : d.0 ≡ Slow)
    (a_step : (tones : ℕ → Tone) (k : ℕ) → a.1 ≡ clock_after a.0 tones k → near ≡ tones k
    → a'.1 ≡ clock_after a.0 tones (k + 1))
    (b_step : (tones : ℕ → Tone) (k : ℕ) → b.1 ≡ clock_after b.0 tones k → far ≡ tones k
    → b'.1 ≡ clock_after b.0 tones (k + 1))
    (c_step : (tones : ℕ → Tone) (k : ℕ) → c.1 ≡ clock_after c.0 tones k → near ≡ tones k
    → c'.1 ≡ clock_after c.0 tones (k + 1))
    (d_step : (tones : ℕ → Tone) (k : ℕ) → d.1 ≡ clock_after d.0 tones k → alone ≡ tones k
    → d'.1 ≡ clock_after d.0 tones (k + 1)) where
  abbrev place : ℕ
  place = position + 1 - 39

  here : added_places position ≡ position + 1 - 39
  here = omega arith

  next : places_in lists.count ≡ position + 1 - 39 + 1
  next = omega arith

  before : ClocksHaveTaken a.1 b.1 c.1 d.1 (position + 1 - 39) x
  before = subst (λ n. ClocksHaveTaken a.1 b.1 c.1 d.1 n x) here h.clocks

  -- a clock one place on, its pull being known
  stepped : (pull : Pull) (tones : ℕ → Tone) (old new : Pull × Clock) (tone : Tone) → old.0 ≡ pull
      → old.1 ≡ clock_after pull tones place → tone ≡ tones place
      → ((t : ℕ → Tone) (k : ℕ) → old.1 ≡ clock_after old.0 t k → tone ≡ t k → new.1 ≡ clock_after old.0 t (k + 1))
      → new.1 ≡ clock_after pull tones (place + 1)
  stepped pull tones old new tone pull_is is tone_is step =
      step tones place (is ∙ ap (λ w. clock_after w tones place) (sym pull_is)) tone_is
      ∙ ap (λ w. clock_after w tones (place + 1)) pull_is

  clocks : ClocksHaveTaken a'.1 b'.1 c'.1 d'.1 (position + 1 - 39 + 1) x
  clocks =
      let near_here = last_tone_is x Near lists.count place near near_is next in
      let far_here = last_tone_is x Far lists.count place far far_is next in
      let alone_here = last_tone_is x Alone lists.count place alone alone_is next in
      record {
        slow_near = stepped Slow (tones Near x) a a' near a_pull before.slow_near near_here a_step;
        slow_far = stepped Slow (tones Far x) b b' far b_pull before.slow_far far_here b_step;
        fast_near = stepped Fast (tones Near x) c c' near c_pull before.fast_near near_here c_step;
        slow_alone = stepped Slow (tones Alone x) d d' alone d_pull before.slow_alone alone_here d_step;
      }

  pub taken_place : FollowerHasTaken (follower_of (position + 1) next_remover lists a' b' c' d') x
  taken_place =
      let further : position + 1 - 39 + 1 ≡ added_places (position + 1) = omega arith in
      record {
        within = omega arith;
        remover = remover_more remover next_remover x position sample inside is step h.remover;
        lists = taken;
        count = omega arith;
        clocks = subst (λ n. ClocksHaveTaken a'.1 b'.1 c'.1 d'.1 n x) further clocks;
      }

  pub known_place : record { decided = true; slow_near = p; slow_far = q; fast_near = r; slow_alone = t }
      ≡ known_at x (position - 30)
  known_place =
      let at : position - 30 - 8 ≡ position + 1 - 39 = omega arith in
      known_is x place a.1 b.1 c.1 d.1 p q r t before p_is q_is r_is t_is
      ∙ sym (known_there x (position - 30) (omega arith) (omega arith) ∙ ap (known_of x) at)

-- the follower has taken the first of more samples
pub follower-append : (x y : List ℤ) (held : HeldFollower) → held.position ≤ length x → FollowerHasTaken held x
    → FollowerHasTaken held (x ++ y)
follower-append x y held inside h = record {
  within = (let size = length-append x y in omega arith);
  remover = subst (MeanStandsFor held.remover) (sym (take-append-le held.position x y inside)) h.remover;
  lists = lists-append held.lists x y h.lists;
  count = h.count;
  clocks = record {
    slow_near = h.clocks.slow_near ∙ clock-append x y Slow Near (added_places held.position) (omega arith);
    slow_far = h.clocks.slow_far ∙ clock-append x y Slow Far (added_places held.position) (omega arith);
    fast_near = h.clocks.fast_near ∙ clock-append x y Fast Near (added_places held.position) (omega arith);
    slow_alone = h.clocks.slow_alone ∙ clock-append x y Slow Alone (added_places held.position) (omega arith);
  };
}
