-- What a turn makes of a receiver of short wave.
use Rattle.live_receiver.proofs.Common.{◌≡◌, ℕ, ◌-◌, ◌/◌, ◌^◌, ◌<◌, ◌≤◌, Bool, true, false, List, [], ◌++◌, length}
use Rattle.live_receiver.proofs.Common.{get_or, refl, ap, sym, subst, ◌∙◌, arith, All, replicate, Candidate, Reader}
use Rattle.live_receiver.proofs.Common.{position_of, answers_of, Leads, leads_position, position_after}
use Rattle.live_receiver.proofs.Common.{last_stretch, stretch_at, in_order, merged, below, settled_end, AreDue, HfLanes}
use Rattle.live_receiver.proofs.Common.{Heard, Turn, HfListens, HfHears, AreInStep, MadeTurn, MakesHfTurn, hf_of, IsNew}
use Rattle.live_receiver.proofs.Common.{HasMergedHf, AreAllIn, AreMore, CanCome, HaveHeard, HoldStretch}
use Rattle.live_receiver.proofs.Common.{IsHeardInOne, PutsMore, StandsForStretch, Stretch, following, lanes_in}
use Rattle.std.proofs.lemmas.List.{get_or-replicate}
use Rattle.frame_merge.specs.Held.{Held as HeldMerger, StandsFor as MergerStandsFor}
use Rattle.slicer_bank.specs.Merging.{AreInTime}
use Rattle.stretch_reader.proofs.EachHeardLemmas.{gave_all, more_of}
use Rattle.fx25_ring.proofs.OneReader.{leads, lowest, no_lower, nothing_answered, rises, there, turned}
use Rattle.live_receiver.proofs.HeardLemmas.{apart_later}
use Rattle.live_receiver.proofs.MergeLemmas.{due_lengths, due_of, marks_rise, many_of, merges, merges_rest, nothing_merged}

-- a receiver that has read nothing
pub none_heard : (len : ℕ) (reader : Reader) (lanes : HfLanes) (merger : HeldMerger) → IsNew reader
    → HoldStretch lanes (stretch_at 0) [] → MergerStandsFor merger [] [] → HfHears len (hf_of reader lanes merger false)
none_heard len reader lanes merger new hold empty =
    let none = nothing_answered len reader new in
    record {
      spent = refl;
      listens = record {
        lead = subst (λ a. Leads 0 a (position_of reader)) (sym none) (sym new.at_start);
        stands = subst (λ a. StandsForStretch lanes (last_stretch a)) (sym none) hold.stands;
      };
      given = [];
      heard = subst (λ a. HaveHeard (AreAllIn (IsHeardInOne lanes.sensitive)) (HoldStretch lanes) a []) (sym none)
          (record { earlier = []; own = []; ended = refl; holds = hold; given_is = refl });
      merged = subst (HasMergedHf lanes.sensitive merger) (sym none) (nothing_merged lanes.sensitive merger empty);
    }

module _ (len : ℕ) (before after : Reader) (lanes lanes' : HfLanes) (was put now : HeldMerger) (turn : Turn)
    (heard : Heard) (position : ℕ)
    (made : MadeTurn (AreAllIn (IsHeardInOne lanes.sensitive)) (HoldStretch lanes) (HoldStretch lanes')
    (StandsForStretch lanes) (StandsForStretch lanes') len 0 before after turn)
    (comes : All (CanCome lanes.sensitive (position_of before)) turn.items.items)
    (step : now.marks ≡ replicate (lanes_in lanes'.sensitive) (position_of after / 4 - following lanes'.sensitive)
    → AreInStep after lanes' now)
    (same : lanes'.sensitive ≡ lanes.sensitive) (puts_more : PutsMore was put turn.items.items)
    (here : position ≡ position_of after) (small : position < 2 ^ 64) (least_is : heard.least ≡ position)
    (over : heard.ended ≡ turn.ended) (told : heard.gaps.items ≡ turn.gaps.items)
    (settles : turn.ended ≡ false → (puts given : List Candidate) → MergerStandsFor put puts given
    → MergerStandsFor now puts (given ++ heard.items.items)
    × (given ++ heard.items.items ≡ below (position / 4 - following lanes'.sensitive) (merged (in_order puts))))
    (rests : turn.ended ≡ true → (puts given : List Candidate) → MergerStandsFor put puts given
    → given ++ heard.items.items ≡ merged (in_order puts))
    (marks : turn.ended ≡ false
    → now.marks ≡ replicate (lanes_in lanes'.sensitive) (position / 4 - following lanes'.sensitive)) where
  abbrev In : Stretch → Candidate → Type 0
  In = IsHeardInOne lanes.sensitive

  module _ (l : HfListens len before lanes) where
    listens : HfListens len after lanes'
    listens = record {
      lead = leads (AreAllIn In) (HoldStretch lanes) (HoldStretch lanes') (StandsForStretch lanes)
          (StandsForStretch lanes') len before after turn heard made l.lead;
      stands = made.on.listens l.stands;
    }

    at_end : position ≡ position_after (answers_of len after)
    at_end = sym least_is
        ∙ there (AreAllIn In) (HoldStretch lanes) (HoldStretch lanes') (StandsForStretch lanes) (StandsForStretch lanes')
        len before after turn heard made l.lead (least_is ∙ here) (let e = least_is in omega arith)

    up : position_after (answers_of len before) ≤ position_after (answers_of len after)
    up = no_lower (AreAllIn In) (HoldStretch lanes) (HoldStretch lanes') (StandsForStretch lanes)
        (StandsForStretch lanes') len before after turn heard made l.lead

    late : All (λ item. settled_end lanes.sensitive (answers_of len before) ≤ item.end) turn.items.items
    late k d l' =
        let c = (comes k d l').late in
        let p = leads_position (answers_of len before) (position_of before) l.lead in
        omega (arith, c, p)

  module _ (h : HfHears len (hf_of before lanes was false)) where
    gave : HaveHeard (AreAllIn In) (HoldStretch lanes') (answers_of len after) (h.given ++ turn.items.items)
    gave = made.on.heard h.given h.heard

    more : AreMore In (answers_of len before) (answers_of len after) turn.items.items
    more = more_of In (apart_later lanes.sensitive) (answers_of len before) (answers_of len after) (position_of after)
        h.given turn.items.items (listens h.listens).lead
        (gave_all In (HoldStretch lanes) (λ s own k. k.are) (answers_of len before) h.given h.heard)
        (gave_all In (HoldStretch lanes')
        (λ s own k. subst (λ b. AreAllIn (IsHeardInOne b) s own) same k.are) (answers_of len after)
        (h.given ++ turn.items.items) gave)

    settles_there : heard.ended ≡ false → (puts given : List Candidate) → MergerStandsFor put puts given
        → MergerStandsFor now puts (given ++ heard.items.items)
        × (given ++ heard.items.items
        ≡ below (settled_end lanes.sensitive (answers_of len after)) (merged (in_order puts)))
    settles_there e =
        subst (λ (s : Bool). (puts given : List Candidate) → MergerStandsFor put puts given
        → MergerStandsFor now puts (given ++ heard.items.items)
        × (given ++ heard.items.items ≡ below (settled_end s (answers_of len after)) (merged (in_order puts)))) same
        (subst (λ p. (puts given : List Candidate) → MergerStandsFor put puts given
        → MergerStandsFor now puts (given ++ heard.items.items)
        × (given ++ heard.items.items ≡ below (p / 4 - following lanes'.sensitive) (merged (in_order puts))))
        (at_end h.listens) (settles (sym over ∙ e)))

    merged_now : heard.ended ≡ false → HasMergedHf lanes.sensitive now (answers_of len after)
        × AreDue lanes.sensitive false (answers_of len before) (answers_of len after) heard.items.items
    merged_now e =
        merges lanes.sensitive (answers_of len before) (answers_of len after) turn.items.items heard.items.items was put now
        h.merged more (late h.listens) puts_more (up h.listens) (settles_there e)

    due : AreDue lanes.sensitive heard.ended (answers_of len before) (answers_of len after) heard.items.items
    due = due_of lanes.sensitive heard.ended (answers_of len before) (answers_of len after) heard.items.items
        (λ e. (merged_now e).1)
        (λ e. merges_rest lanes.sensitive (answers_of len before) (answers_of len after) turn.items.items
        heard.items.items was put now h.merged more (late h.listens) puts_more (up h.listens) (rests (sym over ∙ e)))

    hears : heard.ended ≡ false → HfHears len (hf_of after lanes' now false)
    hears e = record {
      spent = refl;
      listens = listens h.listens;
      given = h.given ++ turn.items.items;
      heard = subst (λ b. HaveHeard (AreAllIn (IsHeardInOne b)) (HoldStretch lanes') (answers_of len after)
          (h.given ++ turn.items.items)) (sym same) gave;
      merged = subst (λ (b : Bool). HasMergedHf b now (answers_of len after)) (sym same) (merged_now e).0;
    }

  pub makes : MakesHfTurn len (hf_of before lanes was false) (hf_of after lanes' now false) heard
  makes = record {
    turn = turned (AreAllIn In) (HoldStretch lanes) (HoldStretch lanes') (StandsForStretch lanes)
        (StandsForStretch lanes') len before after turn heard made over told;
    listens = listens;
    due = due;
    lengths = λ h. due_lengths lanes.sensitive heard.ended (answers_of len before) (answers_of len after)
        heard.items.items (due h);
    hears = λ e h. hears h e;
    least = λ h. lowest (AreAllIn In) (HoldStretch lanes) (HoldStretch lanes') (StandsForStretch lanes)
        (StandsForStretch lanes') len before after turn heard made h.listens.lead (least_is ∙ here)
        (let e = least_is in omega arith);
    forward = λ h. rises (AreAllIn In) (HoldStretch lanes) (HoldStretch lanes') (StandsForStretch lanes)
        (StandsForStretch lanes') len before after turn heard made h.listens.lead (least_is ∙ here)
        (let e = least_is in omega arith);
    step = λ e. step (marks (sym over ∙ e)
        ∙ ap (λ p. replicate (lanes_in lanes'.sensitive) (p / 4 - following lanes'.sensitive)) here);
  }

-- ---- what a turn brings can be put into the merger

pub fits : (reader : Reader) (lanes : HfLanes) (was : HeldMerger) (items : List Candidate) → AreInStep reader lanes was
    → All (CanCome lanes.sensitive (position_of reader)) items
    → All (λ item. (item.offset < length was.marks) × (item.end < 2 ^ 64 - 1)) items
fits reader lanes was items step comes k d l =
    let c = comes k d l in
    let lane = c.lane in
    let many = many_of was.marks (lanes_in lanes.sensitive)
    (position_of reader / 4 - following lanes.sensitive) step.marks in
    (omega (arith, lane, many), c.end)

pub in_time : (reader : Reader) (lanes : HfLanes) (was : HeldMerger) (items : List Candidate) → AreInStep reader lanes was
    → All (CanCome lanes.sensitive (position_of reader)) items → AreInTime was.marks items
in_time reader lanes was items step comes k d l =
    let c = comes k d l in
    let item : Candidate = get_or items k d in
    let mark : ℕ = position_of reader / 4 - following lanes.sensitive in
    let late = c.late in
    let at : get_or was.marks item.offset 0 ≡ mark = ap (λ ms. get_or ms item.offset 0) step.marks
    ∙ get_or-replicate (lanes_in lanes.sensitive) item.offset mark 0 c.lane in
    omega (arith, late, at)

-- the marks before a turn
pub marks_low : (before after : Reader) (lanes lanes' : HfLanes) (was put : HeldMerger) (position : ℕ)
    → AreInStep before lanes was → put.marks ≡ was.marks → position_of before ≤ position_of after
    → lanes'.sensitive ≡ lanes.sensitive → position ≡ position_of after
    → All (λ mark. mark ≤ position / 4 - following lanes'.sensitive) put.marks
marks_low before after lanes lanes' was put position step kept up same here =
    marks_rise put.marks (lanes_in lanes'.sensitive) (position_of before / 4 - following lanes'.sensitive)
    (position / 4 - following lanes'.sensitive) (kept ∙ step.marks
    ∙ ap (λ (s : Bool). replicate (lanes_in s) (position_of before / 4 - following s)) (sym same)) (omega arith)

pub marks_many : (reader : Reader) (lanes lanes' : HfLanes) (was put : HeldMerger) → AreInStep reader lanes was
    → put.marks ≡ was.marks → lanes'.sensitive ≡ lanes.sensitive → length put.marks ≡ lanes_in lanes'.sensitive
marks_many reader lanes lanes' was put step kept same =
    many_of put.marks (lanes_in lanes'.sensitive) (position_of reader / 4 - following lanes'.sensitive)
    (kept ∙ step.marks ∙ ap (λ (s : Bool). replicate (lanes_in s) (position_of reader / 4 - following s)) (sym same))
