-- The octets of what was heard, one frame more at a time, and the one summary of words.
use Rattle.tnc_loop.proofs.Common.{◌≡◌, ℕ, ◌+◌, ◌<◌, ◌≤◌, true, cond, refl, List, [], ◌∷◌, ◌++◌, length, get_or, drop}
use Rattle.tnc_loop.proofs.Common.{Some, append-nil, sym, ◌∙◌, ap, All, concat, WrotePart, not, drop_more, drop_all}
use Rattle.tnc_loop.proofs.Common.{Candidate, merged, TrueEnd, frames_of, is_sent, NoStray, true_ends, LoopWords, drawn}
use Rattle.tnc_loop.proofs.Common.{samples_drawn, strays, first_stray, summary, IsSummary}
use Rattle.std.proofs.Common.{Option}
use Rattle.std.proofs.lemmas.List.Elements.{All-head, All-tail}
use Rattle.frame_merge.specs.Merged.{candidate_frames as frames_heard}
use Rattle.slicer_bank.proofs.OneList.{one_list}
use Rattle.tnc_loop.proofs.HeardLemmas.{drawn_law}
use Rattle.tnc_loop.specs.Summary.{clean_summary, IsFirstStray}

-- past the last item no octet is left
pub octets_end : (items : List Candidate) (i : ℕ) → length items ≤ i → concat (frames_heard (drop i items)) ≡ []
octets_end items i past = ap (λ t. concat (frames_heard t)) (drop_all i items past)

-- what is left begins with the next frame
pub octets_next : (items : List Candidate) (i : ℕ) (item : Candidate) → i < length items → item ≡ get_or items i item
    → concat (frames_heard (drop i items)) ≡ item.octets ++ concat (frames_heard (drop (i + 1) items))
octets_next items i item below is =
    ap (λ t. concat (frames_heard t)) (drop_more items i item below ∙ ap (λ f. f ∷ drop (i + 1) items) (sym is))

-- words have one summary
pub one_summary : (words : LoopWords) (text other : List ℕ) → IsSummary words text → IsSummary words other
    → text ≡ other
one_summary words text other h k =
    h.is
    ∙ ap (λ items. summary words.frames (frames_heard (merged items)) (length (strays (true_ends (drawn words)) items)))
    (one_list (samples_drawn words) h.candidates k.candidates h.are k.are)
    ∙ sym k.is

-- and at most one first stray
pub one_stray : (words : LoopWords) (octets other : List ℕ) → IsFirstStray words octets → IsFirstStray words other
    → octets ≡ other
one_stray words octets other h k =
    let same : Some octets ≡ Some other =
    sym h.is ∙ ap (first_stray (true_ends (drawn words)))
    (one_list (samples_drawn words) h.candidates k.candidates h.are k.are) ∙ k.is in
    cc

-- ---- if nothing is stray

no_strays : (ends : List TrueEnd) (items : List Candidate) → All (λ item. is_sent ends item ≡ true) items
    → strays ends items ≡ []
no_strays ends [] all = refl
no_strays ends (item ∷ items) all =
    ap (λ b. cond (not b) (item ∷ strays ends items) (strays ends items))
    (All-head (λ i. is_sent ends i ≡ true) item items all)
    ∙ no_strays ends items (All-tail (λ i. is_sent ends i ≡ true) item items all)

-- the summary is that of the frames that were made
pub clean_text : (words : LoopWords) (text : List ℕ) → IsSummary words text
    → NoStray (drawn words) (samples_drawn words) → text ≡ clean_summary words
clean_text words text h clear =
    let all : All (λ item. is_sent (true_ends (drawn words)) item ≡ true) h.candidates =
    λ k d l. clear (get_or h.candidates k d) (h.are.each k d l).0 in
    h.is
    ∙ ap (λ heard. summary words.frames heard (length (strays (true_ends (drawn words)) h.candidates)))
    (drawn_law words clear h.candidates h.are)
    ∙ ap (λ items. summary words.frames (frames_of (drawn words)) (length items))
    (no_strays (true_ends (drawn words)) h.candidates all)

-- ---- what is written

-- all of a text is a first part of it
pub wrote_all : (before text : List ℕ) (now : Option (List ℕ)) → now ≡ Some (before ++ text) → WrotePart before text now
wrote_all before text now is = (text, [], sym (append-nil text), is)
