-- What is due has the length of a frame.
use Rattle.ring_receiver.proofs.Common.{Bool, true, false, List, [], ap, sym, subst, inl, inr, All, Got, Candidate}
use Rattle.ring_receiver.proofs.Common.{merged, IsHeardOnRing, IsHeardBy, AreHeardBy, AreDueBy}
use Rattle.std.proofs.lemmas.List.Elements.{All-filter}
use Rattle.hdlc_framer.specs.FrameLength.{HasFrameLength}
use Rattle.frame_merge.proofs.Merging.{All-merged}

abbrev pub IsOfLength : Candidate → Type 0
IsOfLength item = HasFrameLength item.octets

on_ring : (lanes : List (List Got)) (item : Candidate) → IsHeardOnRing lanes item → IsOfLength item
on_ring lanes item h = let frame = h.heard.ends.frame.2 in record { least = frame.least; most = frame.most }

heard_length : (sensitive : Bool) (lanes : List (List Got)) (item : Candidate) → IsHeardBy sensitive lanes item
    → IsOfLength item
heard_length false lanes item h = on_ring lanes item h
heard_length true lanes item (inl h) = on_ring lanes item h
heard_length true lanes item (inr h) =
    let frame = h.added.ends.frame.2 in
    subst HasFrameLength (sym (ap (λ c. c.octets) h.item_is)) (record { least = frame.least; most = frame.most })

merged_lengths : (sensitive : Bool) (lanes : List (List Got)) (items : List Candidate)
    → AreHeardBy sensitive lanes items → All IsOfLength (merged items)
merged_lengths sensitive lanes items h =
    All-merged IsOfLength [] items (λ k d l. heard_length sensitive lanes _ (h.each k d l))

pub due_lengths : (sensitive ended : Bool) (before now : List (List Got)) (items : List Candidate)
    → AreDueBy sensitive ended before now items → All IsOfLength items
due_lengths sensitive false before now items h =
    subst (All IsOfLength) (sym h.is)
    (All-filter _ IsOfLength (merged h.candidates) (merged_lengths sensitive now h.candidates h.are))
due_lengths sensitive true before now items h =
    subst (All IsOfLength) (sym h.is)
    (All-filter _ IsOfLength (merged h.candidates) (merged_lengths sensitive now h.candidates h.are))
