-- One lane over its own windows: of a piece, and of a block as two pieces.
use Rattle.slicer_bank.proofs.Common.{◌≡◌, ℕ, ◌+◌, ◌-◌, ◌*◌, ◌<◌, ◌≤◌, ℤ, pos, List, [], ◌∷◌, ◌++◌, Bool, length}
use Rattle.slicer_bank.proofs.Common.{get_or, take, drop, map, ap, sym, ◌∙◌, arith, append_assoc, refl, subst, inl, inr}
use Rattle.slicer_bank.proofs.Common.{length-append, length-drop, All, cases_lt, drop-append-add, take-append_seam}
use Rattle.slicer_bank.proofs.Common.{append-nil, drop-append-le, drop-drop, take_more, take_all, length-take-le}
use Rattle.slicer_bank.proofs.Common.{length-replicate, nil_from_length, All-nil, All-cons, All-head, All-append}
use Rattle.slicer_bank.proofs.Common.{Contains-append_left, Contains-append_right, Tone, bits_of, tone_of, bits}
use Rattle.slicer_bank.proofs.Common.{tones_at, window_at, windows_in, length-bits, length-tones_at, EndsFrame}
use Rattle.slicer_bank.proofs.Common.{flags_asked, Candidate, IsCandidate, HeldLane, LaneStandsFor, silence, last_seven}
use Rattle.slicer_bank.proofs.Common.{candidate_at, Adds, AreOfWindows, LaneHears, CanBePutPast}
use Rattle.std.proofs.Common.{min}
use Rattle.std.proofs.Math.Seq.{drop-append_seam}
use Rattle.std.proofs.lemmas.List.{take-append-drop}
use Rattle.std.proofs.lemmas.List.FromFn.{get_or-map-range_with_len}
use Rattle.tone_table.specs.declared.tone.Tone.TheVariants.{Mark}
use Rattle.nrzi_bits.proofs.LineLemmas.{bits_from-take}
use Rattle.offset_slicers.proofs.WindowLemmas.{tones_at-append}
use Rattle.slicer_bank.specs.Heard.{AddsAll, LaneHearsMore}
unfoldable use Rattle.slicer_bank.specs.Heard.{tones_in}
use Rattle.std.proofs.Common.{zero, suc}
use Rattle.std.proofs.lemmas.List.{drop-take, take-take}
use Rattle.slicer_bank.proofs.CandidateLemmas.{candidate_more, candidate_less, AllPairs-append}
use Rattle.slicer_bank.proofs.SevenLemmas.{seven_after_first}

-- no windows have no candidates
pub windows_none : (offset n : ℕ) (z : List ℤ) → AreOfWindows offset n n z []
windows_none offset n z = record {
  each = All-nil (λ item. IsCandidate z item × (item.offset ≡ offset) × (offset + 8 * n < item.end)
      × (item.end ≤ offset + 8 * n));
  whole = λ item c o low high. absurd (omega arith);
  order = λ i j d ij jl. absurd (omega arith);
}

-- some windows and the next
pub windows_join : (offset first middle last : ℕ) (z : List ℤ) (items more : List Candidate) → first ≤ middle
    → middle ≤ last
    → AreOfWindows offset first middle z items → AreOfWindows offset middle last z more
    → AreOfWindows offset first last z (items ++ more)
windows_join offset first middle last z items more le up h m =
    let P : Candidate → Type 0 = λ item. IsCandidate z item × (item.offset ≡ offset) × (offset + 8 * first < item.end)
    × (item.end ≤ offset + 8 * last) in
    record {
      each = All-append P items more
          (λ k d l. let e = h.each k d l in let high = e.3 in (e.0, e.1, e.2, omega arith))
          (λ k d l. let e = m.each k d l in let low = e.2 in (e.0, e.1, omega arith, e.3));
      whole = λ item c o low high. elim (cases_lt (offset + 8 * middle) item.end) [
        | inl lt ↦ Contains-append_right items more item (m.whole item c o lt high)
        | inr ge ↦ Contains-append_left items more item (h.whole item c o low ge)
      ];
      order = AllPairs-append (λ item later. item.end < later.end) items more h.order m.order
          (λ i j d il jl. let a = (h.each i d il).3 in let b = (m.each j d jl).2 in omega arith);
    }

-- the last of some windows
module _ (offset n end : ℕ) (z : List ℤ) (small : offset < 8) (within : n < windows_in offset (length z))
    (at : end ≡ offset + 8 * (n + 1)) where
  abbrev pub last_bits : List Bool
  last_bits = take (n + 1) (bits offset z)

  last_window : (item : Candidate) → IsCandidate z item → item.offset ≡ offset → offset + 8 * n < item.end
      → item.end ≤ offset + 8 * (n + 1)
      → EndsFrame last_bits item.octets × (item.end ≡ end)
  last_window item c o low high =
      let e = c.ends.end_of in
      let index : c.index ≡ n = omega arith in (
        subst (λ t. EndsFrame (take (n + 1) (bits t z)) item.octets) o
            (subst (λ k. EndsFrame (take (k + 1) (bits item.offset z)) item.octets) index c.ends.frame),
        omega arith,
      )

  one_window : (octets : List ℕ) → EndsFrame last_bits octets → ((o : List ℕ) → EndsFrame last_bits o → octets ≡ o)
      → AreOfWindows offset n (n + 1) z (candidate_at end offset octets ∷ [])
  one_window octets ends unique =
      let item : Candidate = candidate_at end offset octets in
      let count = length-bits offset z in
      let P : Candidate → Type 0 = λ i. IsCandidate z i × (i.offset ≡ offset) × (offset + 8 * n < i.end)
      × (i.end ≤ offset + 8 * (n + 1)) in
      let is : IsCandidate z item = record {
        offset = small;
        index = n;
        ends = record { within = omega arith; end_of = at; frame = ends };
      } in
      record {
        each = All-cons P item [] (is, refl, omega arith, omega arith) (All-nil P);
        whole = λ other c o low high.
            let last = last_window other c o low high in
            let same : item ≡ other = ap (candidate_at end offset) (unique other.octets last.0)
            ∙ ap (λ t. candidate_at end t other.octets) (sym o)
            ∙ ap (λ t. candidate_at t other.offset other.octets) (sym last.1) in
            (0, omega arith, same);
        order = λ i j d ij jl. absurd (omega arith);
      }

  no_frame : ((o : List ℕ) → EndsFrame last_bits o → ⊥) → AreOfWindows offset n (n + 1) z []
  no_frame never = record {
    each = All-nil (λ i. IsCandidate z i × (i.offset ≡ offset) × (offset + 8 * n < i.end)
        × (i.end ≤ offset + 8 * (n + 1)));
    whole = λ other c o low high. absurd (never other.octets (last_window other c o low high).0);
    order = λ i j d ij jl. absurd (omega arith);
  }

  by_count : (octets : List (List ℕ)) → All (λ o. EndsFrame last_bits o) octets
      → ((o : List ℕ) → EndsFrame last_bits o → octets ≡ o ∷ [])
      → AreOfWindows offset n (n + 1) z (map (candidate_at end offset) octets)
  by_count [] each whole = no_frame (λ o e. let same : [] ≡ o ∷ [] = whole o e in cc)
  by_count (o ∷ rest) each whole =
      let ends : EndsFrame last_bits o = All-head (λ t. EndsFrame last_bits t) o rest each in
      let one : o ∷ rest ≡ o ∷ [] = whole o ends in
      subst (λ t. AreOfWindows offset n (n + 1) z (map (candidate_at end offset) t)) (sym one)
      (one_window o ends (λ other e. let same : o ∷ rest ≡ other ∷ [] = whole other e in cc))

  -- what the lane adds with it
  pub window_heard : (before after : List Candidate) → Adds offset end last_bits before after
      → (heard : List Candidate) × (after ≡ before ++ heard) × AreOfWindows offset n (n + 1) z heard
  window_heard before after h = (map (candidate_at end offset) h.octets, h.found, by_count h.octets h.each h.whole)

-- more samples change nothing of these
pub windows_more : (offset first next : ℕ) (x y : List ℤ) (items : List Candidate) → next ≤ windows_in offset (length x)
    → AreOfWindows offset first next x items → AreOfWindows offset first next (x ++ y) items
windows_more offset first next x y items few h = record {
  each = λ k d l. let e = h.each k d l in (candidate_more x y (get_or items k d) e.0, e.1, e.2, e.3);
  whole = λ item c o low high. let e = c.ends.end_of in
      h.whole item (candidate_less x y item c (omega arith)) o low high;
  order = h.order;
}

-- what is heard in some samples, and then in more
pub lane_hears_join : (offset : ℕ) (x a b : List ℤ) (before mid after : List Candidate)
    → LaneHearsMore offset x a before mid → LaneHearsMore offset (x ++ a) b mid after
    → LaneHearsMore offset x (a ++ b) before after
lane_hears_join offset x a b before mid after h more =
    let first : ℕ = windows_in offset (length x) in
    let middle : ℕ = windows_in offset (length (x ++ a)) in
    let last : ℕ = windows_in offset (length ((x ++ a) ++ b)) in
    let le : first ≤ middle = omega (arith, length-append x a) in
    let up : middle ≤ last = omega (arith, length-append (x ++ a) b) in
    record {
      heard = h.heard ++ more.heard;
      found = more.found ∙ ap (λ t. t ++ more.heard) h.found ∙ append_assoc before h.heard more.heard;
      are = subst (λ t. AreOfWindows offset (windows_in offset (length x)) (windows_in offset (length t)) t
          (h.heard ++ more.heard)) (append_assoc x a b)
          (windows_join offset first middle last ((x ++ a) ++ b) h.heard more.heard le up
          (windows_more offset first middle (x ++ a) b h.heard (omega arith) h.are) more.are);
    }

-- the samples from a place on, in a piece that begins with the last seven
pub stream : (x more piece : List ℤ) (at place : ℕ) → piece ≡ last_seven x ++ more → at + 7 ≡ length x + place
    → drop place piece ≡ drop at (x ++ more)
stream x more piece at place is e =
    let inside : length x ≤ length (silence ++ x) = omega (arith, length-append silence x) in
    let sum : length x + place ≡ length silence + at = omega (arith, length-replicate 7 (pos 0)) in
    ap (drop place) is
    ∙ ap (drop place) (sym (drop-append-le (length x) (silence ++ x) more inside))
    ∙ ap (λ l. drop place (drop (length x) l)) (append_assoc silence x more)
    ∙ drop-drop place (length x) (silence ++ (x ++ more))
    ∙ ap (λ n. drop n (silence ++ (x ++ more))) sum
    ∙ drop-append-add silence (x ++ more) at

window_is : (offset n : ℕ) (z : List ℤ) → take 8 (drop (offset + 8 * n) z) ≡ window_at offset z n
unfolding window_at
window_is offset n z = refl

-- the tone of the next window
tone_next : (offset n : ℕ) (z : List ℤ) → n < windows_in offset (length z)
    → get_or (tones_at offset z) n Mark ≡ tone_of (window_at offset z n)
unfolding tones_at
tone_next offset n z within = get_or-map-range_with_len (λ k. tone_of (window_at offset z k)) 0
    (windows_in offset (length z)) n n Mark within (omega arith)

pub next_tone : (offset n : ℕ) (z window : List ℤ) → n < windows_in offset (length z)
    → window ≡ take 8 (drop (offset + 8 * n) z)
    → take n (tones_at offset z) ++ tone_of window ∷ [] ≡ take (n + 1) (tones_at offset z)
next_tone offset n z window within is =
    let tones : List Tone = tones_at offset z in
    ap (λ w. take n tones ++ tone_of w ∷ []) (is ∙ window_is offset n z)
    ∙ ap (λ t. take n tones ++ t ∷ []) (sym (tone_next offset n z within))
    ∙ sym (take_more tones n Mark (omega (arith, length-tones_at offset z)))

bits_first : (offset n : ℕ) (z : List ℤ) → bits_of (take n (tones_at offset z)) ≡ take n (bits offset z)
unfolding bits
bits_first offset n z = bits_from-take n Mark (tones_at offset z)

-- of a piece that begins with the last seven, the lane has taken its own windows that end before `end`
pub record OwnHeard (offset position end : ℕ) (piece rest : List ℤ) (initial lane : HeldLane)
    (before after : List Candidate) : Type 0 where
  pub taken : ℕ
  pub at : end ≡ offset + 8 * (taken + 1)
  pub few : taken ≤ windows_in offset (position + (length piece - 7))
  pub begun : position < end
  pub rest_is : rest ≡ drop (end - 1 - position) piece
  pub bounds : (low : ℕ) → low ≤ position → All (CanBePutPast low) before → All (CanBePutPast low) after
  pub asks : flags_asked lane.deframer ≡ flags_asked initial.deframer
  pub heard : (x : List ℤ) → length x ≡ position → take 7 piece ≡ last_seven x
      → LaneStandsFor initial (tones_at offset x)
      → LaneStandsFor lane (take taken (tones_at offset (x ++ drop 7 piece)))
      × ((new : List Candidate) × (after ≡ before ++ new)
      × AreOfWindows offset (windows_in offset position) taken (x ++ drop 7 piece) new)

pub own_none : (offset position end : ℕ) (piece rest : List ℤ) (lane : HeldLane) (found : List Candidate)
    → end ≡ offset + 8 * (windows_in offset position + 1) → rest ≡ drop (end - 1 - position) piece
    → OwnHeard offset position end piece rest lane lane found found
own_none offset position end piece rest lane found at is = record {
  taken = windows_in offset position;
  at = at;
  few = omega arith;
  begun = omega arith;
  rest_is = is;
  bounds = λ low under h. h;
  asks = refl;
  heard = λ x size seven s. (
    subst (LaneStandsFor lane) (tones_at-append offset x (drop 7 piece)
        ∙ ap (λ m. take (windows_in offset m) (tones_at offset (x ++ drop 7 piece))) size) s,
    ([], sym (append-nil found), windows_none offset (windows_in offset position) (x ++ drop 7 piece)),
  );
}

pub own_more : (offset position end next : ℕ) (piece rest window left : List ℤ) (initial old new : HeldLane)
    (before found after : List Candidate)
    → offset < 8 → 7 ≤ length piece → next ≡ end + 8 → 8 ≤ length rest → window ≡ take 8 rest → left ≡ drop 8 rest
    → OwnHeard offset position end piece rest initial old before found
    → ((low : ℕ) → low < end → All (CanBePutPast low) found → All (CanBePutPast low) after)
    → flags_asked new.deframer ≡ flags_asked old.deframer
    → ((tones : List Tone) → LaneStandsFor old tones → LaneStandsFor new (tones ++ tone_of window ∷ []))
    → ((tones : List Tone) → LaneStandsFor old tones
    → Adds offset end (bits_of (tones ++ tone_of window ∷ [])) found after)
    → OwnHeard offset position next piece left initial new before after
own_more offset position end next piece rest window left initial old new before found after small seven_more up enough
    is left_is h bounds same takes adds =
    let n : ℕ = h.taken in
    let at = h.at in
    let begun = h.begun in
    let index : ℕ = end - 1 - position in
    let size_rest : length rest ≡ length piece - index = ap length h.rest_is ∙ length-drop index piece in
    let inside : end ≤ position + (length piece - 7) = omega arith in
    record {
      taken = n + 1;
      at = omega arith;
      few = omega arith;
      begun = omega arith;
      rest_is = left_is ∙ ap (drop 8) h.rest_is ∙ drop-drop 8 index piece
          ∙ ap (λ m. drop m piece) (let e : index + 8 ≡ next - 1 - position = omega arith in e);
      bounds = λ low under each. bounds low (omega arith) (h.bounds low under each);
      asks = same ∙ h.asks;
      heard = λ x size seven s.
          let more : List ℤ = drop 7 piece in
          let z : List ℤ = x ++ more in
          let so_far = h.heard x size seven s in
          let done = so_far.1 in
          let len : length z ≡ position + (length piece - 7) =
          omega (arith, length-append x more, length-drop 7 piece) in
          let within : n < windows_in offset (length z) = omega arith in
          let whole : piece ≡ last_seven x ++ more = sym (take-append-drop 7 piece) ∙ ap (λ t. t ++ more) seven in
          let there : window ≡ take 8 (drop (offset + 8 * n) z) = is
          ∙ ap (take 8) (h.rest_is ∙ stream x more piece (offset + 8 * n) index whole (omega arith)) in
          let tones : take n (tones_at offset z) ++ tone_of window ∷ [] ≡ take (n + 1) (tones_at offset z) =
          next_tone offset n z window within there in
          let added : Adds offset end (take (n + 1) (bits offset z)) found after
          = subst (λ b. Adds offset end b found after) (ap bits_of tones ∙ bits_first offset (n + 1) z)
          (adds (take n (tones_at offset z)) so_far.0) in
          let heard = window_heard offset n end z small within at found after added in
          let order : windows_in offset position ≤ n = omega arith in (
            subst (LaneStandsFor new) tones (takes (take n (tones_at offset z)) so_far.0),
            (
              done.0 ++ heard.0,
              heard.1 ∙ ap (λ t. t ++ heard.0) done.1 ∙ append_assoc before done.0 heard.0,
              windows_join offset (windows_in offset position) n (n + 1) z done.0 heard.0 order (omega arith)
                  done.2 heard.2,
            ),
          );
    }

-- ---- eight windows at once

-- the tones of windows are those of the samples that they are
pub tones_in-take : (count : ℕ) (x : List ℤ) → tones_in count (take (8 * count) x) ≡ tones_in count x
unfolding tones_in
tones_in-take zero x = refl
tones_in-take (suc count) x =
    let size : 8 * suc count ≡ 8 + 8 * count = omega arith in
    ap (λ n. tones_in (suc count) (take n x)) size
    ∙ (λ i. tone_of (first i) ∷ tones_in count (rest i)) ∙ ap (λ ts. tone_of (take 8 x) ∷ ts) (tones_in-take count (drop 8 x))
  where
    first : take 8 (take (8 + 8 * count) x) ≡ take 8 x
    first = take-take 8 (8 + 8 * count) x (omega arith)

    rest : drop 8 (take (8 + 8 * count) x) ≡ take (8 * count) (drop 8 x)
    rest = drop-take 8 (8 * count) x

-- what the next windows add
windows_heard : (count offset n end : ℕ) (z samples : List ℤ) (middle after : List Candidate) → offset < 8
    → n + count ≤ windows_in offset (length z) → end ≡ offset + 8 * (n + 1) → samples ≡ drop (offset + 8 * n) z
    → AddsAll offset end (take n (tones_at offset z)) (tones_in count samples) middle after
    → (heard : List Candidate) × (after ≡ middle ++ heard) × AreOfWindows offset n (n + count) z heard
unfolding tones_in
windows_heard zero offset n end z samples middle after small within at is adds =
    let same : n ≡ n + 0 = omega arith in (
      [],
      sym (append-nil middle ∙ adds),
      subst (λ m. AreOfWindows offset n m z []) same (windows_none offset n z),
    )
windows_heard (suc count) offset n end z samples middle after small within at is adds =
    let one : n < windows_in offset (length z) = omega arith in
    let tones : take n (tones_at offset z) ++ tone_of (take 8 samples) ∷ [] ≡ take (n + 1) (tones_at offset z)
    = next_tone offset n z (take 8 samples) one (ap (take 8) is) in
    let added : Adds offset end (take (n + 1) (bits offset z)) middle adds.0
    = subst (λ b. Adds offset end b middle adds.0) (ap bits_of tones ∙ bits_first offset (n + 1) z) adds.1 in
    let heard = window_heard offset n end z small one at middle adds.0 added in
    let next : drop 8 samples ≡ drop (offset + 8 * (n + 1)) z
    = ap (drop 8) is ∙ drop-drop 8 (offset + 8 * n) z ∙ ap (λ m. drop m z) (omega arith) in
    let more = windows_heard count offset (n + 1) (end + 8) z (drop 8 samples) adds.0 after small (omega arith)
    (omega arith) next
    (subst (λ t. AddsAll offset (end + 8) t (tones_in count (drop 8 samples)) adds.0 after) tones adds.2) in
    let count_is : (n + 1) + count ≡ n + suc count = omega arith in (
      heard.0 ++ more.0,
      more.1 ∙ ap (λ t. t ++ more.0) heard.1 ∙ append_assoc middle heard.0 more.0,
      subst (λ m. AreOfWindows offset n m z (heard.0 ++ more.0)) count_is
          (windows_join offset n (n + 1) ((n + 1) + count) z heard.0 more.0 (omega arith) (omega arith) heard.2 more.2),
    )

next_tones : (count offset n : ℕ) (z samples : List ℤ) → n + count ≤ windows_in offset (length z)
    → samples ≡ drop (offset + 8 * n) z
    → take n (tones_at offset z) ++ tones_in count samples ≡ take (n + count) (tones_at offset z)
unfolding tones_in
next_tones zero offset n z samples within is =
    let same : n ≡ n + 0 = omega arith in
    append-nil (take n (tones_at offset z)) ∙ ap (λ m. take m (tones_at offset z)) same
next_tones (suc count) offset n z samples within is =
    let tones = next_tone offset n z (take 8 samples) (omega arith) (ap (take 8) is) in
    let next : drop 8 samples ≡ drop (offset + 8 * (n + 1)) z
    = ap (drop 8) is ∙ drop-drop 8 (offset + 8 * n) z ∙ ap (λ m. drop m z) (omega arith) in
    let count_is : (n + 1) + count ≡ n + suc count = omega arith in
    sym (append_assoc (take n (tones_at offset z)) (tone_of (take 8 samples) ∷ []) (tones_in count (drop 8 samples)))
    ∙ ap (λ t. t ++ tones_in count (drop 8 samples)) tones
    ∙ next_tones count offset (n + 1) z (drop 8 samples) (omega arith) next
    ∙ ap (λ m. take m (tones_at offset z)) count_is

pub own_eight : (offset position end next : ℕ) (piece rest windows left : List ℤ) (initial old new : HeldLane)
    (before found after : List Candidate)
    → offset < 8 → 7 ≤ length piece → next ≡ end + 64 → 64 ≤ length rest → windows ≡ take 64 rest
    → left ≡ drop 64 rest
    → OwnHeard offset position end piece rest initial old before found
    → ((low : ℕ) → low < end → All (CanBePutPast low) found → All (CanBePutPast low) after)
    → flags_asked new.deframer ≡ flags_asked old.deframer
    → ((tones : List Tone) → LaneStandsFor old tones
    → LaneStandsFor new (tones ++ tones_in 8 windows) × AddsAll offset end tones (tones_in 8 windows) found after)
    → OwnHeard offset position next piece left initial new before after
own_eight offset position end next piece rest windows left initial old new before found after small seven_more up enough
    is left_is h bounds same takes =
    let n : ℕ = h.taken in
    let at = h.at in
    let begun = h.begun in
    let index : ℕ = end - 1 - position in
    let size_rest : length rest ≡ length piece - index = ap length h.rest_is ∙ length-drop index piece in
    let inside : end + 56 ≤ position + (length piece - 7) = omega arith in
    record {
      taken = n + 8;
      at = omega arith;
      few = omega arith;
      begun = omega arith;
      rest_is = left_is ∙ ap (drop 64) h.rest_is ∙ drop-drop 64 index piece
          ∙ ap (λ m. drop m piece) (let e : index + 64 ≡ next - 1 - position = omega arith in e);
      bounds = λ low under each. bounds low (omega arith) (h.bounds low under each);
      asks = same ∙ h.asks;
      heard = λ x size seven s.
          let more : List ℤ = drop 7 piece in
          let z : List ℤ = x ++ more in
          let so_far = h.heard x size seven s in
          let done = so_far.1 in
          let len : length z ≡ position + (length piece - 7) =
          omega (arith, length-append x more, length-drop 7 piece) in
          let within : n + 8 ≤ windows_in offset (length z) = omega arith in
          let whole : piece ≡ last_seven x ++ more = sym (take-append-drop 7 piece) ∙ ap (λ t. t ++ more) seven in
          let there : rest ≡ drop (offset + 8 * n) z
          = h.rest_is ∙ stream x more piece (offset + 8 * n) index whole (omega arith) in
          let tones : tones_in 8 windows ≡ tones_in 8 rest = ap (tones_in 8) is ∙ tones_in-take 8 rest in
          let taken = takes (take n (tones_at offset z)) so_far.0 in
          let heard = windows_heard 8 offset n end z rest found after small within at there
          (subst (λ t. AddsAll offset end (take n (tones_at offset z)) t found after) tones taken.1) in
          let order : windows_in offset position ≤ n = omega arith in (
            subst (LaneStandsFor new) (ap (λ t. take n (tones_at offset z) ++ t) tones
                ∙ next_tones 8 offset n z rest within there) taken.0,
            (
              done.0 ++ heard.0,
              heard.1 ∙ ap (λ t. t ++ heard.0) done.1 ∙ append_assoc before done.0 heard.0,
              windows_join offset (windows_in offset position) n (n + 8) z done.0 heard.0 order (omega arith)
                  done.2 heard.2,
            ),
          );
    }

-- the whole piece
pub own_all : (offset position end : ℕ) (piece rest : List ℤ) (initial lane : HeldLane) (before after : List Candidate)
    → 7 ≤ length piece → length rest < 8
    → OwnHeard offset position end piece rest initial lane before after
    → LaneHears offset position (take 7 piece) (drop 7 piece) initial lane before after
own_all offset position end piece rest initial lane before after seven_more few h x size seven s =
    let n : ℕ = h.taken in
    let at = h.at in
    let most = h.few in
    let begun = h.begun in
    let index : ℕ = end - 1 - position in
    let size_rest : length rest ≡ length piece - index = ap length h.rest_is ∙ length-drop index piece in
    let more : List ℤ = drop 7 piece in
    let z : List ℤ = x ++ more in
    let so_far = h.heard x size seven s in
    let done = so_far.1 in
    let len : length z ≡ position + (length piece - 7) = omega (arith, length-append x more, length-drop 7 piece) in
    let last : n ≡ windows_in offset (length z) = omega arith in
    let all : take n (tones_at offset z) ≡ tones_at offset z =
    take_all n (tones_at offset z) (omega (arith, length-tones_at offset z)) in (
      subst (LaneStandsFor lane) all so_far.0,
      record {
        heard = done.0;
        found = done.1;
        are = subst (λ k. AreOfWindows offset (windows_in offset (length x)) k z done.0) last
            (subst (λ k. AreOfWindows offset (windows_in offset k) n z done.0) (sym size) done.2);
      },
    )

-- the seven before a block and its first samples, as one piece: those first samples are heard
pub own_first : (offset position : ℕ) (seven first piece : List ℤ) (initial lane : HeldLane)
    (before after : List Candidate)
    → length seven ≡ 7 → piece ≡ seven ++ first
    → LaneHears offset position (take 7 piece) (drop 7 piece) initial lane before after
    → LaneHears offset position seven first initial lane before after
own_first offset position seven first piece initial lane before after size is h =
    let front : take 7 piece ≡ seven = ap (take 7) is ∙ ap (λ n. take n (seven ++ first)) (sym size)
    ∙ take-append_seam seven first in
    let back : drop 7 piece ≡ first = ap (drop 7) is ∙ ap (λ n. drop n (seven ++ first)) (sym size)
    ∙ drop-append_seam seven first in
    subst (λ t. LaneHears offset position seven t initial lane before after) back
    (subst (λ t. LaneHears offset position t (drop 7 piece) initial lane before after) front h)

-- and then the block as a piece
pub own_block : (offset position : ℕ) (seven block : List ℤ) (initial middle lane : HeldLane)
    (before found after : List Candidate)
    → 7 ≤ length block
    → LaneHears offset position seven (take 7 block) initial middle before found
    → LaneHears offset (position + 7) (take 7 block) (drop 7 block) middle lane found after
    → LaneHears offset position seven block initial lane before after
own_block offset position seven block initial middle lane before found after long h rest x size is s =
    let n : length (take 7 block) ≡ 7 = length-take-le 7 block long in
    let len : length (x ++ take 7 block) ≡ position + 7 = omega (arith, length-append x (take 7 block)) in
    let whole : take 7 block ++ drop 7 block ≡ block = take-append-drop 7 block in
    let one = h x size is s in
    let two = rest (x ++ take 7 block) len (seven_after_first x block long) one.0 in (
      subst (λ t. LaneStandsFor lane (tones_at offset t)) (append_assoc x (take 7 block) (drop 7 block)
          ∙ ap (λ t. x ++ t) whole) two.0,
      subst (λ t. LaneHearsMore offset x t before after) whole
          (lane_hears_join offset x (take 7 block) (drop 7 block) before found after one.1 two.1),
    )

-- what is found if nothing was found before
pub own_found : (offset : ℕ) (x block : List ℤ) (position : ℕ) (before after : List Candidate) → length x ≡ position
    → before ≡ [] → LaneHearsMore offset x block before after
    → AreOfWindows offset (windows_in offset position) (windows_in offset (length (x ++ block))) (x ++ block) after
own_found offset x block position before after size none h =
    let is : h.heard ≡ after = sym (h.found ∙ ap (λ t. t ++ h.heard) none) in
    subst (λ p. AreOfWindows offset (windows_in offset p) (windows_in offset (length (x ++ block))) (x ++ block) after)
    size
    (subst (AreOfWindows offset (windows_in offset (length x)) (windows_in offset (length (x ++ block))) (x ++ block))
    is h.are)

-- nothing is left past the end
pub drop_most : (n place : ℕ) (xs : List ℤ) → n ≡ min (length xs) place → drop n xs ≡ drop place xs
drop_most n place xs is = elim (cases_lt (length xs) place) [
  | inl lt ↦
      (let all : n ≡ length xs = omega arith in
      let none : drop n xs ≡ [] = nil_from_length (drop n xs) (omega (arith, length-drop n xs)) in
      none ∙ sym (nil_from_length (drop place xs) (omega (arith, length-drop place xs))))
  | inr ge ↦ (let same : n ≡ place = omega arith in ap (λ m. drop m xs) same)
]
