-- What is kept stands for what has happened.
use Rattle.keying.proofs.Common.{◌≡◌, ℕ, ◌&&◌, Bool, true, false, List, [], ◌∷◌, ◌++◌, Option, refl, ap, sym, ◌∙◌, End}
use Rattle.keying.proofs.Common.{Words, Mark, Turned, Tried, Opened, Keyed, Released, Heard, Accepted, Readied, Lost}
use Rattle.keying.proofs.Common.{Ticked, Cut, WriteFault, Ends, ticks, wanted, Key, key_of, octet_marks, end_marks}
use Rattle.keying.proofs.Common.{silence_marks, stall_marks, tick_marks, closing_marks, by_rule, heard, read, listened}
use Rattle.keying.proofs.Common.{turned, ticked, ended, is_wanted, after_octets, after_rule, after_reading}
use Rattle.keying.specs.Keyed.{cut}
use Rattle.keying.specs.Kept.{StandsFor, after, after_all}
use Rattle.keying.proofs.Lingering.{wanted_kept}

-- a mark
pub kept_mark : (words : Words) (mark : Mark) (past : List Mark)
    → key_of words (mark ∷ past) ≡ after mark (key_of words past)
kept_mark words (Turned now) past = refl
kept_mark words Tried past = refl
kept_mark words Opened past = refl
kept_mark words Keyed past = refl
kept_mark words Released past = refl
kept_mark words (Heard octet) past = refl
kept_mark words Accepted past = refl
kept_mark words Readied past = refl
kept_mark words (Lost why) past = refl
kept_mark words (Ticked true) past =
    ap (λ w. record (key_of words (Ticked true ∷ past)) { cut = cut words.tail past && w })
    (wanted_kept words.tail true (ticks past))
kept_mark words (Ticked false) past =
    ap (λ w. record (key_of words (Ticked false ∷ past)) { cut = cut words.tail past && w })
    (wanted_kept words.tail false (ticks past))
kept_mark words (Cut why) past = refl
kept_mark words WriteFault past = refl
kept_mark words Ends past = refl

-- marks, the newest first
pub kept_all : (words : Words) (marks past : List Mark)
    → key_of words (marks ++ past) ≡ after_all marks (key_of words past)
kept_all words [] past = refl
kept_all words (mark ∷ marks) past =
    kept_mark words mark (marks ++ past) ∙ ap (after mark) (kept_all words marks past)

-- a rule
pub kept_rule : (words : Words) (rule : Key → List Mark) (past : List Mark)
    → key_of words (by_rule words rule past) ≡ after_rule rule (key_of words past)
kept_rule words rule past = kept_all words (rule (key_of words past)) past

-- octets
pub kept_octets : (words : Words) (octets : List ℕ) (past : List Mark)
    → key_of words (heard words octets past) ≡ after_octets octets (key_of words past)
kept_octets words [] past = refl
kept_octets words (octet ∷ octets) past =
    kept_octets words octets (by_rule words (octet_marks octet) past)
    ∙ ap (after_octets octets) (kept_rule words (octet_marks octet) past)

-- what was read
pub kept_read : (words : Words) (now : ℕ) (octets : List ℕ) (end : Option End) (past : List Mark)
    → key_of words (read words now octets end past) ≡ after_reading now octets end (key_of words past)
kept_read words now octets end past =
    kept_rule words (end_marks end) (heard words octets (Turned now ∷ past))
    ∙ ap (after_rule (end_marks end)) (kept_octets words octets (Turned now ∷ past))

pub kept_listened : (words : Words) (now : ℕ) (octets : List ℕ) (end : Option End) (past : List Mark)
    → key_of words (listened words now octets end past)
    ≡ after_rule silence_marks (after_reading now octets end (key_of words past))
kept_listened words now octets end past =
    kept_rule words silence_marks (read words now octets end past)
    ∙ ap (after_rule silence_marks) (kept_read words now octets end past)

-- whether the key is wanted
pub kept_wanted : (words : Words) (sounds : Bool) (past : List Mark)
    → is_wanted sounds (key_of words past) ≡ wanted words.tail (sounds ∷ ticks past)
kept_wanted words sounds past = sym (wanted_kept words.tail sounds (ticks past))

-- a tick
pub stands_ticked : (words : Words) (past : List Mark) (sounds : Bool) (key between new : Key)
    → StandsFor words past key
    → between ≡ after_rule (tick_marks sounds (is_wanted sounds key)) key
    → new ≡ after (Ticked sounds) between
    → StandsFor words (ticked words sounds past) new
stands_ticked words past sounds key between new stands acts ticks_on =
    let rule : Bool → Key → List Mark = λ w. tick_marks sounds w in
    record {
      is = ticks_on ∙ ap (after (Ticked sounds)) (acts ∙ ap (λ k. after_rule (rule (is_wanted sounds k)) k) stands.is
          ∙ ap (λ w. after_rule (rule w) (key_of words past)) (kept_wanted words sounds past)
          ∙ sym (kept_rule words (rule (wanted words.tail (sounds ∷ ticks past))) past))
          ∙ sym (kept_mark words (Ticked sounds) (by_rule words (rule (wanted words.tail (sounds ∷ ticks past))) past));
    }

-- a turn
pub stands_turned : (words : Words) (now : ℕ) (octets : List ℕ) (end : Option End) (past : List Mark)
    (key between new : Key) → StandsFor words past key
    → between ≡ after_rule silence_marks (after_reading now octets end key)
    → new ≡ after_rule stall_marks between
    → StandsFor words (turned words now octets end past) new
stands_turned words now octets end past key between new stands listens stalls =
    record {
      is = stalls ∙ ap (after_rule stall_marks) (listens
          ∙ ap (λ k. after_rule silence_marks (after_reading now octets end k)) stands.is
          ∙ sym (kept_listened words now octets end past))
          ∙ sym (kept_rule words stall_marks (listened words now octets end past));
    }

-- the end of the run
pub stands_ended : (words : Words) (now : ℕ) (octets : List ℕ) (end : Option End) (past : List Mark)
    (key between new : Key) → StandsFor words past key
    → between ≡ after_reading now octets end key
    → new ≡ after_rule closing_marks between
    → StandsFor words (ended words now octets end past) new
stands_ended words now octets end past key between new stands reads closes =
    record {
      is = closes ∙ ap (after_rule closing_marks) (reads
          ∙ ap (λ k. after_reading now octets end k) stands.is
          ∙ sym (kept_read words now octets end past))
          ∙ sym (kept_rule words closing_marks (read words now octets end past));
    }
