-- What the lanes of short wave hear, merged turn by turn.
use Rattle.live_receiver.proofs.Common.{◌≡◌, ℕ, ◌-◌, ◌≤◌, ⊎_elim, inl, inr, Bool, true, false, List, []}
use Rattle.live_receiver.proofs.Common.{◌++◌, length, get_or, refl, ap, sym, subst, ◌∙◌, arith, fold, All, Contains}
use Rattle.live_receiver.proofs.Common.{Contains-append_left, Contains-append_right, Got, Candidate, Stretch}
use Rattle.live_receiver.proofs.Common.{position_after, in_order, merged, below, not_below, place, lanes_in}
use Rattle.live_receiver.proofs.Common.{AreHeard, AreMerged, AreRest, AreDue, IsHeardIn, IsHeardByOne, IsHeardInOne}
use Rattle.live_receiver.proofs.Common.{settled_end, AreMore, HasMergedHf, PutsMore, least, replicate, ◌^◌}
use Rattle.std.specs.List.Sorted.{IsNonDecreasingBy}
use Rattle.std.proofs.lemmas.List.{append_cancel_left, get_or-replicate, length-replicate}
use Rattle.std.proofs.lemmas.List.Sums.{fold-append}
use Rattle.std.proofs.lemmas.List.Elements.{All-filter}
use Rattle.hdlc_framer.specs.FrameLength.{HasFrameLength}
use Rattle.frame_merge.specs.Held.{Held as HeldMerger, StandsFor as MergerStandsFor}
use Rattle.frame_merge.specs.Order.{IsInOrder}
use Rattle.frame_merge.proofs.Forgetting.{below_then_rest}
use Rattle.frame_merge.proofs.Merging.{All-merged, merged-rising}
use Rattle.frame_merge.proofs.Ordering.{rising_ends}
use Rattle.frame_merge.proofs.Taking.{least-one}
use Rattle.slicer_bank.proofs.MergedLemmas.{next_is}
use Rattle.slicer_bank.proofs.MergingLemmas.{rising_strictly}
use Rattle.slicer_bank.proofs.OrderingLemmas.{all_more, below_more, contains_more, strictly_more}
use Rattle.live_receiver.proofs.HeardLemmas.{heard_nothing, lane_below}

pub nothing_merged : (sensitive : Bool) (merger : HeldMerger) → MergerStandsFor merger [] []
    → HasMergedHf sensitive merger []
nothing_merged sensitive merger h = record {
  puts = [];
  candidates = [];
  are = heard_nothing sensitive;
  order = refl;
  so_far = h;
}

in_order_heard : (sensitive : Bool) (answers : List Got) (items : List Candidate) → AreHeard sensitive answers items
    → IsInOrder items
in_order_heard sensitive answers items are = record {
  rising = rising_strictly items are.order;
  offsets = λ k d l. lane_below sensitive answers (get_or items k d) (are.each k d l);
}

rising : (sensitive : Bool) (answers : List Got) (items : List Candidate) → AreHeard sensitive answers items
    → IsNonDecreasingBy (λ y. y.end) (merged items)
rising sensitive answers items are =
    merged-rising (λ y. y.end) [] items (rising_ends items (in_order_heard sensitive answers items are))

-- a turn in which these items are heard and put, and what the merger then gives
module _ (sensitive : Bool) (before now : List Got) (items ready : List Candidate) (was put after : HeldMerger)
    (h : HasMergedHf sensitive was before) (more : AreMore (IsHeardInOne sensitive) before now items)
    (late : All (λ item. settled_end sensitive before ≤ item.end) items) (puts_more : PutsMore was put items) (up : position_after before ≤ position_after now) where
  abbrev all : List Candidate
  all = fold (λ ordered item. place item ordered) h.candidates items

  abbrev puts : List Candidate
  puts = h.puts ++ items

  abbrev given : List Candidate
  given = below (settled_end sensitive before) (merged h.candidates)

  are : AreHeard sensitive now all
  are = record {
    each = all_more (IsHeardIn sensitive now) h.candidates items
        (λ k d l. more.still (get_or h.candidates k d) (h.are.each k d l)) more.each;
    whole = λ item is. contains_more h.candidates items item (⊎_elim
        (λ (old : IsHeardIn sensitive before item).
        Contains-append_left h.candidates items item (h.are.whole item old))
        (λ (new : Contains items item). Contains-append_right h.candidates items item new) (more.whole item is));
    order = strictly_more h.candidates items h.are.order more.apart
        (λ k d l j e jl. more.other k d l (get_or h.candidates j e) (h.are.each j e jl));
  }

  ordered : in_order puts ≡ all
  ordered =
      let step : List Candidate → Candidate → List Candidate = λ done item. place item done in
      fold-append step [] h.puts items ∙ ap (λ done. fold step done items) h.order

  stands : MergerStandsFor put puts given
  stands = puts_more h.puts given h.so_far

  given_is : given ≡ below (settled_end sensitive before) (merged all)
  given_is = sym (below_more (settled_end sensitive before) h.candidates items
      (in_order_heard sensitive before h.candidates h.are)
      (λ k d l. lane_below sensitive now (get_or items k d) (more.each k d l)) late)

  pub merges : ((puts given : List Candidate) → MergerStandsFor put puts given
      → MergerStandsFor after puts (given ++ ready)
      × (given ++ ready ≡ below (settled_end sensitive now) (merged (in_order puts))))
      → HasMergedHf sensitive after now
      × AreMerged sensitive (settled_end sensitive before) (settled_end sensitive now) now ready
  merges takes =
      let step = takes puts given stands in
      let total : given ++ ready ≡ below (settled_end sensitive now) (merged all)
      = step.1 ∙ ap (λ t. below (settled_end sensitive now) (merged t)) ordered in (
        record {
          puts = puts;
          candidates = all;
          are = are;
          order = ordered;
          so_far = subst (MergerStandsFor after puts) total step.0;
        },
        record {
          candidates = all;
          are = are;
          is = next_is (settled_end sensitive before) (settled_end sensitive now) given ready (merged all)
              (omega (arith, up)) (rising sensitive now all are) given_is total;
        },
      )

  pub merges_rest : ((puts given : List Candidate) → MergerStandsFor put puts given
      → given ++ ready ≡ merged (in_order puts)) → AreRest sensitive (settled_end sensitive before) now ready
  merges_rest takes =
      let total : given ++ ready ≡ merged all = takes puts given stands ∙ ap merged ordered in
      let settled = settled_end sensitive before in
      record {
        candidates = all;
        are = are;
        is = append_cancel_left (below settled (merged all)) ready (not_below settled (merged all))
            (ap (λ g. g ++ ready) (sym given_is) ∙ total
            ∙ sym (below_then_rest settled (merged all) (rising sensitive now all are)));
      }

-- ---- what is due

pub due_of : (sensitive ended : Bool) (before now : List Got) (items : List Candidate)
    → (ended ≡ false
    → AreMerged sensitive (settled_end sensitive before) (settled_end sensitive now) now items)
    → (ended ≡ true → AreRest sensitive (settled_end sensitive before) now items)
    → AreDue sensitive ended before now items
due_of sensitive false before now items merges rests = merges refl
due_of sensitive true before now items merges rests = rests refl

-- it has the length of a frame
abbrev IsOfLength : Candidate → Type 0
IsOfLength item = HasFrameLength item.octets

length_by_one : (s : Stretch) (item : Candidate) → IsHeardByOne s item → IsOfLength item
length_by_one s item h =
    let frame = h.candidate.ends.frame.2 in
    subst HasFrameLength (sym (ap (λ c. c.octets) h.item_is)) (record { least = frame.least; most = frame.most })

length_in : (sensitive : Bool) (s : Stretch) (item : Candidate) → IsHeardInOne sensitive s item → IsOfLength item
length_in false s item h = length_by_one s item h
length_in true s item (inl h) = length_by_one s item h
length_in true s item (inr h) =
    let frame = h.added.ends.frame.2 in
    subst HasFrameLength (sym (ap (λ c. c.octets) h.item_is)) (record { least = frame.least; most = frame.most })

merged_lengths : (sensitive : Bool) (answers : List Got) (items : List Candidate) → AreHeard sensitive answers items
    → All IsOfLength (merged items)
merged_lengths sensitive answers items h = All-merged IsOfLength [] items
    (λ k d l. let e = h.each k d l in length_in sensitive e.stretch (get_or items k d) e.heard)

pub due_lengths : (sensitive ended : Bool) (before now : List Got) (items : List Candidate)
    → AreDue sensitive ended before now items → All IsOfLength items
due_lengths sensitive false before now items h =
    subst (All IsOfLength) (sym h.is)
    (All-filter _ IsOfLength (merged h.candidates) (merged_lengths sensitive now h.candidates h.are))
due_lengths sensitive true before now items h =
    subst (All IsOfLength) (sym h.is)
    (All-filter _ IsOfLength (merged h.candidates) (merged_lengths sensitive now h.candidates h.are))

-- ---- the marks, and what a merger gives whose lanes are all marked alike

pub least_marks : (sensitive : Bool) (mark : ℕ) → mark ≤ 2 ^ 64 - 1
    → least (replicate (lanes_in sensitive) mark) ≡ mark
least_marks false mark small = least-one 31 mark small
least_marks true mark small = least-one 58 mark small

pub settled_at : (sensitive : Bool) (mark : ℕ) → mark ≤ 2 ^ 64 - 1 → (marked after : HeldMerger)
    (puts given ready : List Candidate)
    → marked.marks ≡ replicate (lanes_in sensitive) mark
    → MergerStandsFor after puts (given ++ ready)
    × (given ++ ready ≡ below (least marked.marks) (merged (in_order puts)))
    → MergerStandsFor after puts (given ++ ready) × (given ++ ready ≡ below mark (merged (in_order puts)))
settled_at sensitive mark small marked after puts given ready marks told = (
  told.0,
  told.1 ∙ ap (λ m. below (least m) (merged (in_order puts))) marks
      ∙ ap (λ m. below m (merged (in_order puts))) (least_marks sensitive mark small),
)

-- marks that are all the same are at most what is no lower
pub marks_rise : (marks : List ℕ) (count low high : ℕ) → marks ≡ replicate count low → low ≤ high
    → All (λ mark. mark ≤ high) marks
marks_rise marks count low high is le k d l =
    let size : length marks ≡ count = ap length is ∙ length-replicate count low in
    let at : get_or marks k d ≡ low = ap (λ ms. get_or ms k d) is ∙ get_or-replicate count k low d (omega arith) in
    omega (arith, at, le)

pub many_of : (marks : List ℕ) (count mark : ℕ) → marks ≡ replicate count mark → length marks ≡ count
many_of marks count mark is = ap length is ∙ length-replicate count mark

pub lanes_at_least : (sensitive : Bool) → 32 ≤ lanes_in sensitive
lanes_at_least false = omega arith
lanes_at_least true = omega arith
