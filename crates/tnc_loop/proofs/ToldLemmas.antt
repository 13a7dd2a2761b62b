-- What is found among the candidates of the signal that is drawn.
use Rattle.tnc_loop.proofs.Common.{◌≡◌, ℕ, zero, suc, ℤ, Bool, true, false, List, [], ◌∷◌, length, refl, ap, sym, subst}
use Rattle.tnc_loop.proofs.Common.{◌∙◌, arith, cond, not, All, Candidate, merged, AreCandidates, TrueEnd, true_ends}
use Rattle.tnc_loop.proofs.Common.{is_sent, LoopWords, Sent, heard_drawn, drawn, samples_drawn, HasSent, HasFound}
use Rattle.tnc_loop.proofs.Common.{strays, first_stray, summary, IsSummary}
use Rattle.std.proofs.Common.{true≢false}
use Rattle.std.specs.Prelude.{Option, Some, None, is_some, option_map, find}
use Rattle.frame_merge.specs.Merged.{candidate_frames as frames_heard}
use Rattle.clean_signal.proofs.Law.{no_stray_of}
use Rattle.tnc_loop.specs.Strays.{is_stray}

-- the candidates of what was sent are those of the signal
pub are_of : (words : LoopWords) (sent : Sent) (x : List ℤ) (items : List Candidate) → HasSent sent (heard_drawn words)
    → x ≡ sent.samples.items
    → AreCandidates x items → AreCandidates (samples_drawn words) items
unfolding samples_drawn
are_of words sent x items h is are = subst (λ (y : List ℤ). AreCandidates y items) (is ∙ h.samples) are

-- if no first stray is found, all are sent
all_sent : (ends : List TrueEnd) (items : List Candidate) → first_stray ends items ≡ None
    → All (λ item. is_sent ends item ≡ true) items
all_sent ends [] none = λ k d l. absurd (omega arith)
all_sent ends (item ∷ items) none = go (is_sent ends item) refl none (all_sent ends items)
  where
    go : (b : Bool) → is_sent ends item ≡ b → option_map (λ i. i.octets)
        (cond (not b) (Some item) (find (is_stray ends) items)) ≡ None
        → (first_stray ends items ≡ None → All (λ i. is_sent ends i ≡ true) items)
        → All (λ i. is_sent ends i ≡ true) (item ∷ items)
    go true is rest others zero d l = is
    go true is rest others (suc k) d l = others rest k d (omega arith)
    go false is rest others k d l = absurd (true≢false (ap is_some rest))

pub has_found : (words : LoopWords) (ends : List TrueEnd) (items : List Candidate) (stray : Option (List ℕ))
    → ends ≡ true_ends (drawn words)
    → AreCandidates (samples_drawn words) items → stray ≡ first_stray ends items → HasFound words stray
has_found words ends items (Some octets) are_ends are is =
    record { candidates = items; are = are; is = ap (λ es. first_stray es items) (sym are_ends) ∙ sym is }
has_found words ends items None are_ends are is =
    no_stray_of (drawn words) (samples_drawn words) items are
    (all_sent (true_ends (drawn words)) items (ap (λ es. first_stray es items) (sym are_ends) ∙ sym is))

pub is_summary : (words : LoopWords) (ends : List TrueEnd) (items heard : List Candidate) (text : List ℕ) (count : ℕ)
    → ends ≡ true_ends (drawn words)
    → AreCandidates (samples_drawn words) items → heard ≡ merged items → count ≡ length (strays ends items)
    → text ≡ summary words.frames (frames_heard heard) count
    → IsSummary words text
is_summary words ends items heard text count are_ends are is counted what = record {
  candidates = items;
  are = are;
  is = what ∙ ap (λ h. summary words.frames (frames_heard h) count) is
      ∙ ap (summary words.frames (frames_heard (merged items))) (counted
      ∙ ap (λ es. length (strays es items)) are_ends);
}
