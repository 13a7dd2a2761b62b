-- Samples in which no block ends are heard as by lanes that read no blocks, and merged as those merge.
use Rattle.sensitive_blocks.proofs.Common.{◌≡◌, ℕ, ◌+◌, ◌-◌, ◌*◌, ◌/◌, ◌<◌, ◌≤◌, true, ℤ, List, [], length, map, get_or}
use Rattle.sensitive_blocks.proofs.Common.{refl, ap, sym, ◌∙◌, subst, arith, inl, inr, All, All-nil, All-weaker, cases_lt, length-map}
use Rattle.sensitive_blocks.proofs.Common.{AreHeard, AreMerged, EndsFrame, EndsPlainly, HasPath, Heard, IsHeard}
use Rattle.sensitive_blocks.proofs.Common.{bits_of, is_in_time, lane_bits, place_for, reads}
use Rattle.std.proofs.lemmas.List.{get_or-map}
use Rattle.std.proofs.lemmas.List.Elements.{All-map}
use Rattle.frame_merge.specs.declared.candidate.Candidate.{Candidate}
use Rattle.frame_merge.specs.Merged.{merged as merged_plainly}
use Rattle.offset_slicers.specs.Windows.{windows_in}
unfoldable use Rattle.offset_slicers.specs.Windows.{bits}
use Rattle.offset_slicers.proofs.WindowLemmas.{length-bits}
use Rattle.slicer_bank.specs.Candidates.{IsCandidate}
use Rattle.sensitive_receiver.specs.AddedCandidates.{IsAdded}
use Rattle.sensitive_receiver.specs.Candidates.{AreHeard as AreCandidates, IsHeard as IsCandidateOfSome}
use Rattle.sensitive_receiver.specs.Lanes.{lane_bits as place_bits}
use Rattle.sensitive_receiver.proofs.MergedLemmas.{one_list}
use Rattle.fx25_receiver.specs.WithoutBlocks.{candidate_of}
use Rattle.fx25_receiver.proofs.WithoutBlocks.{IsPlain, same_merged}
use Rattle.sensitive_blocks.specs.WithoutBlocks.{HasNoBlock}
use Rattle.sensitive_blocks.proofs.BitLemmas.{place_read, reads-place, reads-window, window_read}
use Rattle.sensitive_blocks.proofs.LaneBits.{added_tones, decided_end, window_bits, window_end}
use Rattle.sensitive_blocks.proofs.MergedLists.{heard_rises}

plain_item : Candidate → Heard
plain_item item = record { end = item.end; lane = item.offset; tag = 0; octets = item.octets; at = item.end }

-- a plain item of one of the eight lanes
of_window : (x : List ℤ) (item : Heard) → IsHeard x item → EndsPlainly x item → item.lane < 8 → IsCandidate x (candidate_of item)
of_window x item h plain window =
    let at = window_read x item.lane item.end window h.reads in
    let least = at.least in
    let within = at.within in
    let lane_is = at.lane_is in
    let index : ℕ = (item.end - item.lane) / 8 - 1 in
    let end : item.end ≡ item.lane + 8 * (index + 1) = omega arith in
    let size = length-bits item.lane x in
    let inside : index < windows_in item.lane (length x) = omega arith in
    record {
      offset = window;
      index = index;
      ends = record {
        within = omega arith;
        end_of = end;
        frame = subst (λ b. EndsFrame b item.octets) (window_bits x item.lane window index inside)
            (subst (λ e. EndsFrame (lane_bits x item.lane (e + 1)) item.octets) end plain.frame);
      };
    }

to_window : (x : List ℤ) (item : Candidate) → IsCandidate x item → IsHeard x (plain_item item)
unfolding plain_item
to_window x item h =
    let size = length-bits item.offset x in
    let within = h.ends.within in
    let end = h.ends.end_of in
    let small = h.offset in
    let inside : h.index < windows_in item.offset (length x) = omega arith in
    record {
      lane = omega arith;
      reads = ap (reads x item.offset) end ∙ window_end x item.offset h.offset h.index (omega arith);
      ends = inl (record {
        tag = refl;
        at = refl;
        frame = subst (λ e. EndsFrame (lane_bits x item.offset (e + 1)) item.octets) (sym end)
            (subst (λ b. EndsFrame b item.octets) (sym (window_bits x item.offset h.offset h.index inside)) h.ends.frame);
        told = inl h.offset;
      });
    }

-- a plain item of an added lane
of_place : (x : List ℤ) (item : Heard) → IsHeard x item → EndsPlainly x item → 8 ≤ item.lane → IsAdded x (candidate_of item)
of_place x item h plain added =
    let at = place_read x item.lane item.end added h.reads in
    let least = at.least in
    let decided = at.decided in
    let next : place_for item.lane (item.end + 1) ≡ place_for item.lane item.end + 1 = omega arith in
    let tones = added_tones x item.lane added h.lane (item.end + 1) (omega arith) in
    let bits_are : lane_bits x item.lane (item.end + 1) ≡ place_bits x item.lane (place_for item.lane item.end + 1) =
    ap bits_of tones ∙ ap (place_bits x item.lane) next in
    let told : HasPath item.octets × (is_in_time x item.lane (place_for item.lane item.end) ≡ true) =
    elim plain.told [ inl window ↦ absurd (omega arith) | inr both ↦ both ] in
    record {
      place = place_for item.lane item.end;
      decided = at.decided;
      ends = record {
        least = added;
        most = h.lane;
        reads = at.read;
        end_of = omega arith;
        frame = subst (λ b. EndsFrame b item.octets) bits_are plain.frame;
        path = told.0;
        in_time = told.1;
      };
    }

to_place : (x : List ℤ) (item : Candidate) → IsAdded x item → IsHeard x (plain_item item)
unfolding plain_item
to_place x item h =
    let end = h.ends.end_of in
    let least = h.ends.least in
    let decided = h.decided in
    let few = Rattle.sensitive_blocks.proofs.BitLemmas.delay_bound item.offset h.ends.most in
    let place : place_for item.offset item.end ≡ h.place = omega arith in
    let next : place_for item.offset (item.end + 1) ≡ h.place + 1 = omega arith in
    let tones = added_tones x item.offset h.ends.least h.ends.most (item.end + 1) (omega arith) in
    let bits_are : lane_bits x item.offset (item.end + 1) ≡ place_bits x item.offset (h.place + 1) =
    ap bits_of tones ∙ ap (place_bits x item.offset) next in
    record {
      lane = h.ends.most;
      reads = decided_end x item.offset h.ends.least h.ends.most item.end (omega arith) (omega arith)
          ∙ ap (Rattle.sensitive_receiver.specs.Lanes.is_read_at x item.offset) place ∙ h.ends.reads;
      ends = inl (record {
        tag = refl;
        at = refl;
        frame = subst (λ b. EndsFrame b item.octets) (sym bits_are) h.ends.frame;
        told = inr (h.ends.path, ap (is_in_time x item.offset) place ∙ h.ends.in_time);
      });
    }

plainly : (x : List ℤ) (item : Heard) → IsHeard x item → item.tag ≡ 0 → EndsPlainly x item
plainly x item h none = elim h.ends [
  | inl plain ↦ plain
  | inr block ↦ let least = block.block.is_tag.0 in absurd (omega arith)
]

is_candidate : (x : List ℤ) (item : Heard) → IsHeard x item → item.tag ≡ 0 → IsCandidateOfSome x (candidate_of item)
is_candidate x item h none = elim (cases_lt item.lane 8) [
  | inl window ↦ inl (of_window x item h (plainly x item h none) window)
  | inr added ↦ inr (of_place x item h (plainly x item h none) added)
]

is_heard : (x : List ℤ) (item : Candidate) → IsCandidateOfSome x item → IsHeard x (plain_item item)
is_heard x item (inl window) = to_window x item window
is_heard x item (inr place) = to_place x item place

module _ (x : List ℤ) (none : HasNoBlock x) (heard : List Heard) (are : AreHeard x heard) where
  size : length (map candidate_of heard) ≡ length heard
  size = length-map heard candidate_of

  candidates_are : AreCandidates x (map candidate_of heard)
  unfolding plain_item size
  candidates_are = record {
    each = All-map (IsCandidateOfSome x) candidate_of heard (λ k d l.
        let h = are.each k d l in
        is_candidate x (get_or heard k d) h (none (get_or heard k d) h));
    whole = λ item h.
        let found = are.whole (plain_item item) (is_heard x item h) in
        let within = found.1 in (
          found.0,
          omega (arith, size),
          get_or-map candidate_of heard found.0 (plain_item item) item within
              ∙ ap candidate_of found.2,
        );
    order = λ i j d before within.
        let e = plain_item d in
        let inside : j < length heard = omega (arith, size) in
        let earlier : i < length heard = omega arith in
        let order = are.order i j e before inside in
        let first = get_or-map candidate_of heard i e d earlier in
        let second = get_or-map candidate_of heard j e d inside in
        let here = are.each i e earlier in
        let there = are.each j e inside in
        let low = here.lane in
        let low_j = there.lane in
        let tag_i = none (get_or heard i e) here in
        let tag_j = none (get_or heard j e) there in
        let end_i : (get_or (map candidate_of heard) i d).end ≡ (get_or heard i e).end = ap (λ c. c.end) first in
        let end_j : (get_or (map candidate_of heard) j d).end ≡ (get_or heard j e).end = ap (λ c. c.end) second in
        let lane_i : (get_or (map candidate_of heard) i d).offset ≡ (get_or heard i e).lane =
        ap (λ c. c.offset) first in
        let lane_j : (get_or (map candidate_of heard) j d).offset ≡ (get_or heard j e).lane =
        ap (λ c. c.offset) second in
        omega arith;
  }

pub merged_plain : (x : List ℤ) (items : List Heard) (candidates : List Candidate) → HasNoBlock x
    → AreMerged x items → AreCandidates x candidates → map candidate_of items ≡ merged_plainly candidates
merged_plain x items candidates none h are =
    let all : All IsPlain h.heard =
    All-weaker (IsHeard x) IsPlain (λ item i. (plainly x item i (none item i)).at) h.heard h.are.each in
    ap (map candidate_of) h.is
    ∙ same_merged 0 [] h.heard (All-nil IsPlain) (All-nil (λ e. e.end ≤ 0)) all (λ k d l. omega arith)
    (heard_rises x h.heard h.are)
    ∙ ap merged_plainly (one_list x (map candidate_of h.heard) candidates (candidates_are x none h.heard h.are) are)
