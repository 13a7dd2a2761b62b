-- What a receiver hears are frames, so each has octets.
use Rattle.tnc_ports.proofs.Common.{◌<◌, Bool, true, false, List, [], ◌∷◌, ◌++◌, cond, sym, subst, inl, inr}
use Rattle.tnc_ports.proofs.Common.{Got, Candidate, list_any}
use Rattle.std.specs.Prelude.{All, filter}
use Rattle.std.specs.List.{AllByRecursion as Each}
use Rattle.std.proofs.lemmas.List.Elements.{recursion_from_All}
use Rattle.link_world.proofs.law.Each.{each_weaker}
use Rattle.frame_merge.specs.Merged.{merged, merged_after, repeats}
use Rattle.slicer_bank.specs.HeardOnRing.{lane_of}
use Rattle.slicer_bank.specs.Stretches.{Stretch}
use Rattle.fx25_ring.specs.HeardInBlocks.{AreDueInBlocks}
use Rattle.fx25_ring.proofs.HeardLemmas.{due_frames as due_of_frames}
use Rattle.ring_receiver.specs.HeardByAll.{AreDueBy as AreDueByTones, IsHeardBy}
use Rattle.live_receiver.specs.declared.listening.Listening.{Listening}
use Rattle.live_receiver.specs.declared.listening.Listening.TheVariants.{Bell202, ShortWave, Fx25}
use Rattle.live_receiver.specs.Listening.{AreDueBy}
use Rattle.live_receiver.specs.HeardOnShortWave.{AreDue, AreHeard, IsHeardIn, IsHeardByOne, IsHeardInOne}

abbrev pub HasFrame : Candidate → Type 0
HasFrame item = All (λ octet. octet < 256) item.octets

heard_frame : (sensitive : Bool) (lanes : List (List Got)) (item : Candidate) → IsHeardBy sensitive lanes item
    → HasFrame item
heard_frame false lanes item h = h.heard.ends.frame.2.octets_fit
heard_frame true lanes item (inl h) = h.heard.ends.frame.2.octets_fit
heard_frame true lanes item (inr h) =
    subst HasFrame (sym h.item_is) h.added.ends.frame.2.octets_fit

all_frames : (sensitive : Bool) (lanes : List (List Got)) (items : List Candidate)
    → All (IsHeardBy sensitive lanes) items → Each HasFrame items
all_frames sensitive lanes items h =
    each_weaker (IsHeardBy sensitive lanes) HasFrame (heard_frame sensitive lanes) items
    (recursion_from_All (IsHeardBy sensitive lanes) items h)

merged_frames : (earlier items : List Candidate) → Each HasFrame items → Each HasFrame (merged_after earlier items)
merged_frames earlier [] h = tt
merged_frames earlier (item ∷ items) h =
    go (list_any (repeats item) earlier) (merged_frames (earlier ++ item ∷ []) items h.1)
  where
    go : (b : Bool) → Each HasFrame (merged_after (earlier ++ item ∷ []) items)
        → Each HasFrame (cond b (merged_after (earlier ++ item ∷ []) items)
        (item ∷ merged_after (earlier ++ item ∷ []) items))
    go true rest = rest
    go false rest = (h.0, rest)

filter_frames : (p : Candidate → Bool) (items : List Candidate) → Each HasFrame items → Each HasFrame (filter p items)
filter_frames p [] h = tt
filter_frames p (item ∷ items) h = go (p item) (filter_frames p items h.1)
  where
    go : (b : Bool) → Each HasFrame (filter p items) → Each HasFrame (cond b (item ∷ filter p items) (filter p items))
    go true rest = (h.0, rest)
    go false rest = rest

due_of_tones : (sensitive ended : Bool) (before now : List (List Got)) (items : List Candidate)
    → AreDueByTones sensitive ended before now items → Each HasFrame items
due_of_tones sensitive false before now items due =
    subst (Each HasFrame) (sym due.is)
    (filter_frames _ (merged due.candidates)
    (merged_frames [] due.candidates (all_frames sensitive now due.candidates due.are.each)))
due_of_tones sensitive true before now items due =
    subst (Each HasFrame) (sym due.is)
    (filter_frames _ (merged due.candidates)
    (merged_frames [] due.candidates (all_frames sensitive now due.candidates due.are.each)))

-- on short wave
frame_by_one : (stretch : Stretch) (item : Candidate) → IsHeardByOne stretch item → HasFrame item
frame_by_one stretch item h = subst (λ (i : Candidate). HasFrame i) (sym h.item_is) h.candidate.ends.frame.2.octets_fit

frame_in_one : (sensitive : Bool) (stretch : Stretch) (item : Candidate) → IsHeardInOne sensitive stretch item
    → HasFrame item
frame_in_one false stretch item h = frame_by_one stretch item h
frame_in_one true stretch item (inl h) = frame_by_one stretch item h
frame_in_one true stretch item (inr h) =
    subst (λ (i : Candidate). HasFrame i) (sym h.item_is) h.added.ends.frame.2.octets_fit

wave_frames : (sensitive : Bool) (answers : List Got) (items : List Candidate) → AreHeard sensitive answers items
    → Each HasFrame (merged items)
wave_frames sensitive answers items are =
    merged_frames [] items (each_weaker (IsHeardIn sensitive answers) HasFrame
    (λ item h. frame_in_one sensitive h.stretch item h.heard) items
    (recursion_from_All (IsHeardIn sensitive answers) items are.each))

due_of_wave : (sensitive ended : Bool) (before now : List Got) (items : List Candidate)
    → AreDue sensitive ended before now items → Each HasFrame items
due_of_wave sensitive false before now items due =
    subst (Each HasFrame) (sym due.is)
    (filter_frames _ (merged due.candidates) (wave_frames sensitive now due.candidates due.are))
due_of_wave sensitive true before now items due =
    subst (Each HasFrame) (sym due.is)
    (filter_frames _ (merged due.candidates) (wave_frames sensitive now due.candidates due.are))

-- where blocks are read
due_of_blocks : (sensitive ended : Bool) (before now : List Got) (items : List Candidate)
    → AreDueInBlocks sensitive ended before now items → Each HasFrame items
due_of_blocks sensitive ended before now items due =
    recursion_from_All HasFrame items
    (due_of_frames HasFrame (λ item frame. frame.octets_fit) sensitive ended before now items due)

pub due_frames : (listening : Listening) (ended : Bool) (before now : List (List Got)) (items : List Candidate)
    → AreDueBy listening ended before now items → Each HasFrame items
due_frames (Bell202 sensitive) ended before now items due = due_of_tones sensitive ended before now items due
due_frames (ShortWave sensitive) ended before now items due =
    due_of_wave sensitive ended (lane_of before 0) (lane_of now 0) items due
due_frames (Fx25 sensitive) ended before now items due =
    due_of_blocks sensitive ended (lane_of before 0) (lane_of now 0) items due

pub each_first : (P : Candidate → Type 0) (first second : List Candidate) → Each P (first ++ second) → Each P first
each_first P [] second h = tt
each_first P (item ∷ first) second h = (h.0, each_first P first second h.1)
