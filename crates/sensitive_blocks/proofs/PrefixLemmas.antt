-- What is heard of samples and settled stays as it is when more samples follow.
use Rattle.sensitive_blocks.proofs.Common.{◌≡◌, ℕ, zero, suc, ◌+◌, ◌-◌, ◌<◌, ◌≤◌, Bool, true, false, ℤ, List, [], ◌∷◌}
use Rattle.sensitive_blocks.proofs.Common.{◌++◌, length, refl, ap, sym, subst, ◌∙◌, arith, inl, inr, length-append, add-one}
use Rattle.sensitive_blocks.proofs.Common.{if◌then◌else◌, nat_lt, nat_le, cases_lt, lt-ltb, le-ltb, le-leb, lt-leb, ◌&&◌, ◌==◌, ◌%◌}
use Rattle.sensitive_blocks.proofs.Common.{take, drop, not, bits_of, ends, lane_tones, reads, reads_place, reads_window}
use Rattle.sensitive_blocks.proofs.Common.{tone_for, tone_read, place_for, added_places, delay_of, is_read_at, is_read_by}
use Rattle.sensitive_blocks.proofs.Common.{Heard, EndsFrame, EndsUnsureBlock, IsHeard, IsTold, is_in_time}
use Rattle.sensitive_blocks.proofs.Common.{lane_certainties, window_to, append_assoc, pos}
use Rattle.std.proofs.Common.{get_or, length-drop, replicate}
use Rattle.std.proofs.lemmas.List.{drop-append-le, take-append-le}
use Rattle.tone_tracking.specs.Clock.{changes}
use Rattle.offset_slicers.specs.Decision.{tone_of}
use Rattle.fx25_receiver.specs.Certainty.{certainty}
use Rattle.sensitive_receiver.proofs.PrefixLanes.{readings-append, tone_back-append}
use Rattle.sensitive_blocks.proofs.BitLemmas.{delay_bound, ends-none, ends-not, ends-read, tones-none, tones-not, tones-read}
use Rattle.sensitive_blocks.proofs.BitLemmas.{place_read, reads-place, reads-window, window_read, certainties-none, certainties-not}
use Rattle.sensitive_blocks.proofs.BitLemmas.{certainties-read}

module _ (x y : List ℤ) where
  abbrev all : List ℤ
  all = x ++ y

  -- the place for a bit that is settled is decided
  settled_place : (lane end : ℕ) → lane < 26 → end + 33 ≤ length x → 8 ≤ end + delay_of lane
      → place_for lane end < added_places (length x)
  settled_place lane end small inside least = let few = delay_bound lane small in omega arith

  window-append : (lane end : ℕ) → end ≤ length x → reads_window x lane end ≡ reads_window all lane end
  window-append lane end inside =
      let size = length-append x y in
      ap (λ b. (nat_le 8 end && b) && (end % 8 == lane))
      (le-leb end (length x) inside ∙ sym (le-leb end (length all) (omega arith)))

  place-append : (lane end : ℕ) → lane < 26 → end + 33 ≤ length x → reads_place x lane end ≡ reads_place all lane end
  place-append lane end small inside = elim (cases_lt (end + delay_of lane) 8) [
    | inl early ↦
        let no : nat_le 8 (end + delay_of lane) ≡ false = lt-leb 8 (end + delay_of lane) early in
        ap (λ b. (b && nat_lt (place_for lane end) (added_places (length x))) && is_read_at x lane (place_for lane end)) no
        ∙ sym (ap (λ b. (b && nat_lt (place_for lane end) (added_places (length all)))
        && is_read_at all lane (place_for lane end)) no)
    | inr least ↦
        let size = length-append x y in
        let decided = settled_place lane end small inside least in
        let more : place_for lane end < added_places (length all) = omega arith in
        let same = lt-ltb (place_for lane end) (added_places (length x)) decided
        ∙ sym (lt-ltb (place_for lane end) (added_places (length all)) more) in
        let told = ap (is_read_by lane) (readings-append x y (place_for lane end) decided) in
        λ i. (nat_le 8 (end + delay_of lane) && same i) && told i
  ]

  pub reads-append : (lane end : ℕ) → lane < 26 → end + 33 ≤ length x → reads x lane end ≡ reads all lane end
  reads-append lane end small inside = elim (cases_lt lane 8) [
    | inl window ↦ reads-window x lane end window ∙ window-append lane end (omega arith) ∙ sym (reads-window all lane end window)
    | inr added ↦ reads-place x lane end added ∙ place-append lane end small inside ∙ sym (reads-place all lane end added)
  ]

  -- the eight samples at a place
  eight-append : (n : ℕ) → n + 8 ≤ length x → take 8 (drop n x) ≡ take 8 (drop n all)
  eight-append n inside =
      sym (take-append-le 8 (drop n x) y (omega (arith, length-drop n x)))
      ∙ ap (take 8) (sym (drop-append-le n x y (omega arith)))

  -- and those up to an end
  window_to-append : (end : ℕ) → end ≤ length x → window_to x end ≡ window_to all end
  unfolding window_to
  window_to-append end inside =
      let silence = replicate 8 (pos 0) in
      let size : length (silence ++ x) ≡ 8 + length x = omega (arith, length-append silence x) in
      sym (take-append-le 8 (drop end (silence ++ x)) y (omega (arith, length-drop end (silence ++ x))))
      ∙ ap (take 8) (sym (drop-append-le end (silence ++ x) y (omega arith)) ∙ ap (drop end) (append_assoc silence x y))

  -- and its tone, if it is read
  tone-append : (lane end : ℕ) → lane < 26 → end + 33 ≤ length x → reads x lane end ≡ true
      → tone_for x lane end ≡ tone_for all lane end
  unfolding tone_for
  tone-append lane end small inside is = elim (cases_lt lane 8) [
    | inl window ↦
        let low = lt-ltb lane 8 window in
        let least = (window_read x lane end window is).least in
        ap (λ b. if b then tone_of (take 8 (drop (end - 8) x)) else tone_read x lane (place_for lane end)) low
        ∙ ap tone_of (eight-append (end - 8) (omega arith))
        ∙ sym (ap (λ b. if b then tone_of (take 8 (drop (end - 8) all)) else tone_read all lane (place_for lane end)) low)
    | inr added ↦
        let high = le-ltb lane 8 added in
        let at = place_read x lane end added is in
        ap (λ b. if b then tone_of (take 8 (drop (end - 8) x)) else tone_read x lane (place_for lane end)) high
        ∙ tone_back-append x y lane (place_for lane end) 0 at.decided
        ∙ sym (ap (λ b. if b then tone_of (take 8 (drop (end - 8) all)) else tone_read all lane (place_for lane end)) high)
  ]

  -- so a lane has read the same bits
  one_end : (lane count : ℕ) (b : Bool) → reads x lane count ≡ reads all lane count → reads x lane count ≡ b
      → ends x lane count ≡ ends all lane count → ends x lane (count + 1) ≡ ends all lane (count + 1)
  one_end lane count true same is before = ends-read x lane count is ∙ ap (λ t. t ++ count ∷ []) before
      ∙ sym (ends-read all lane count (sym same ∙ is))
  one_end lane count false same is before = ends-not x lane count is ∙ before ∙ sym (ends-not all lane count (sym same ∙ is))

  pub ends-append : (lane count : ℕ) → lane < 26 → count ≤ length x - 32 → ends x lane count ≡ ends all lane count
  ends-append lane zero small inside = ends-none x lane ∙ sym (ends-none all lane)
  ends-append lane (suc count) small inside =
      ap (ends x lane) (sym (add-one count))
      ∙ one_end lane count (reads x lane count) (reads-append lane count small (omega arith)) refl
      (ends-append lane count small (omega arith))
      ∙ ap (ends all lane) (add-one count)

  one_tone : (lane count : ℕ) (b : Bool) → lane < 26 → count + 33 ≤ length x → reads x lane count ≡ reads all lane count
      → reads x lane count ≡ b → lane_tones x lane count ≡ lane_tones all lane count
      → lane_tones x lane (count + 1) ≡ lane_tones all lane (count + 1)
  one_tone lane count true small inside same is before =
      tones-read x lane count is
      ∙ (λ i. before i ++ tone-append lane count small inside is i ∷ [])
      ∙ sym (tones-read all lane count (sym same ∙ is))
  one_tone lane count false small inside same is before =
      tones-not x lane count is ∙ before ∙ sym (tones-not all lane count (sym same ∙ is))

  pub tones-append : (lane count : ℕ) → lane < 26 → count ≤ length x - 32 → lane_tones x lane count ≡ lane_tones all lane count
  tones-append lane zero small inside = tones-none x lane ∙ sym (tones-none all lane)
  tones-append lane (suc count) small inside =
      ap (lane_tones x lane) (sym (add-one count))
      ∙ one_tone lane count (reads x lane count) small (omega arith) (reads-append lane count small (omega arith)) refl
      (tones-append lane count small (omega arith))
      ∙ ap (lane_tones all lane) (add-one count)

  one_certainty : (lane count : ℕ) (b : Bool) → lane < 26 → count + 33 ≤ length x → reads x lane count ≡ reads all lane count
      → reads x lane count ≡ b → lane_certainties x lane count ≡ lane_certainties all lane count
      → lane_certainties x lane (count + 1) ≡ lane_certainties all lane (count + 1)
  one_certainty lane count true small inside same is before =
      certainties-read x lane count is
      ∙ (λ i. before i ++ certainty (window_to-append count (omega arith) i) ∷ [])
      ∙ sym (certainties-read all lane count (sym same ∙ is))
  one_certainty lane count false small inside same is before =
      certainties-not x lane count is ∙ before ∙ sym (certainties-not all lane count (sym same ∙ is))

  pub certainties-append : (lane count : ℕ) → lane < 26 → count ≤ length x - 32
      → lane_certainties x lane count ≡ lane_certainties all lane count
  certainties-append lane zero small inside = certainties-none x lane ∙ sym (certainties-none all lane)
  certainties-append lane (suc count) small inside =
      ap (lane_certainties x lane) (sym (add-one count))
      ∙ one_certainty lane count (reads x lane count) small (omega arith) (reads-append lane count small (omega arith)) refl
      (certainties-append lane count small (omega arith))
      ∙ ap (lane_certainties all lane) (add-one count)

  in_time-append : (lane place : ℕ) → place < added_places (length x) → is_in_time x lane place ≡ is_in_time all lane place
  in_time-append lane place inside =
      let a = tone_back-append x y lane place 8 inside in
      let b = tone_back-append x y lane place 0 inside in
      let c = tone_back-append x y lane place 16 inside in
      λ i. changes (a i) (b i) && not (changes (c i) (a i))

  -- ---- items

  told-append : (lane end : ℕ) (octets : List ℕ) → reads x lane end ≡ true → IsTold x lane end octets → IsTold all lane end octets
  told-append lane end octets is (inl window) = inl window
  told-append lane end octets is (inr (path, in_time)) = elim (cases_lt lane 8) [
    | inl window ↦ inl window
    | inr added ↦
        inr (path, sym (in_time-append lane (place_for lane end) (place_read x lane end added is).decided) ∙ in_time)
  ]

  told-take : (lane end : ℕ) (octets : List ℕ) → reads x lane end ≡ true → IsTold all lane end octets → IsTold x lane end octets
  told-take lane end octets is (inl window) = inl window
  told-take lane end octets is (inr (path, in_time)) = elim (cases_lt lane 8) [
    | inl window ↦ inl window
    | inr added ↦ inr (path, in_time-append lane (place_for lane end) (place_read x lane end added is).decided ∙ in_time)
  ]

  -- an item that is settled is heard of more samples
  pub heard-append : (item : Heard) → item.end + 33 ≤ length x → IsHeard x item → IsHeard all item
  heard-append item inside h =
      let tones = tones-append item.lane (item.end + 1) h.lane (omega arith) in
      let numbers = certainties-append item.lane (item.end + 1) h.lane (omega arith) in
      let ends_same = ends-append item.lane (item.end + 1) h.lane (omega arith) in
      record {
        lane = h.lane;
        reads = sym (reads-append item.lane item.end h.lane inside) ∙ h.reads;
        ends = elim h.ends [
          | inl plain ↦ inl (record {
            tag = plain.tag;
            at = plain.at;
            frame = subst (λ t. EndsFrame (bits_of t) item.octets) tones plain.frame;
            told = told-append item.lane item.end item.octets h.reads plain.told;
          })
          | inr block ↦ inr (record {
            over = block.over;
            block = subst (λ n. EndsUnsureBlock (bits_of (lane_tones all item.lane (item.end + 1))) n item.tag item.octets block.over) numbers
                (subst (λ t. EndsUnsureBlock (bits_of t) (lane_certainties x item.lane (item.end + 1)) item.tag item.octets block.over)
                tones block.block);
            index = block.index;
            index_is = block.index_is ∙ ap (λ t. length (bits_of t) + block.over) tones;
            at = block.at ∙ ap (λ t. get_or t block.index 0) ends_same;
          })
        ];
      }

  -- and of the first ones, if it is heard of more
  pub heard-take : (item : Heard) → item.end + 33 ≤ length x → IsHeard all item → IsHeard x item
  heard-take item inside h =
      let tones = sym (tones-append item.lane (item.end + 1) h.lane (omega arith)) in
      let numbers = sym (certainties-append item.lane (item.end + 1) h.lane (omega arith)) in
      let ends_same = sym (ends-append item.lane (item.end + 1) h.lane (omega arith)) in
      let is = reads-append item.lane item.end h.lane inside ∙ h.reads in
      record {
        lane = h.lane;
        reads = is;
        ends = elim h.ends [
          | inl plain ↦ inl (record {
            tag = plain.tag;
            at = plain.at;
            frame = subst (λ t. EndsFrame (bits_of t) item.octets) tones plain.frame;
            told = told-take item.lane item.end item.octets is plain.told;
          })
          | inr block ↦ inr (record {
            over = block.over;
            block = subst (λ n. EndsUnsureBlock (bits_of (lane_tones x item.lane (item.end + 1))) n item.tag item.octets block.over) numbers
                (subst (λ t. EndsUnsureBlock (bits_of t) (lane_certainties all item.lane (item.end + 1)) item.tag item.octets block.over)
                tones block.block);
            index = block.index;
            index_is = block.index_is ∙ ap (λ t. length (bits_of t) + block.over) tones;
            at = block.at ∙ ap (λ t. get_or t block.index 0) ends_same;
          })
        ];
      }
