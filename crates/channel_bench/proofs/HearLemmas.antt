-- Frames, messages and pieces one after another.
use Rattle.channel_bench.proofs.Common.{◌≡◌, ℕ, ◌+◌, ◌<◌, List, [], ◌∷◌, ◌++◌, length, take, drop, get_or, Option, Some}
use Rattle.channel_bench.proofs.Common.{None, refl, sym, ap, ◌∙◌, subst, true, position, option_map, false≢true}
use Rattle.channel_bench.proofs.Common.{take_more, AgwMessage, Candidate, End, Piece, SentAt, Shared, Side, Trouble}
use Rattle.channel_bench.proofs.Common.{Stray, SideState, Near, GoesOn, IsStep, IsHeardAs, IsHeardAt, AreHeardAt}
use Rattle.channel_bench.proofs.Common.{is_coming, is_frame_of, is_match, match_of, number_of, told_piece, told_pieces}
use Rattle.channel_bench.proofs.Common.{with_matched, with_stray, ◌&&◌, Bool, false, nat_le, other, sent_by, slice_get}
use Rattle.channel_bench.proofs.Common.{ways_of}
use Rattle.channel_bench.proofs.Common.{StandsForCommon, StandsForNear, OffAir, ProgramState, told, told_all}
use Rattle.std.specs.Prelude.{is_some}

told_pieces_push : (pieces : List Piece) (piece : Piece) (side : SideState)
    → told_pieces (pieces ++ piece ∷ []) side ≡ told_piece piece (told_pieces pieces side)
told_pieces_push [] piece side = refl
told_pieces_push (first ∷ pieces) piece side = told_pieces_push pieces piece (told_piece first side)

pub told_pieces_more : (pieces : List Piece) (i : ℕ) (piece d : Piece) (side : SideState) → i < length pieces
    → piece ≡ get_or pieces i d
    → told_pieces (take (i + 1) pieces) side ≡ told_piece piece (told_pieces (take i pieces) side)
told_pieces_more pieces i piece d side within is =
    ap (λ xs. told_pieces xs side) (take_more pieces i d within)
    ∙ told_pieces_push (take i pieces) (get_or pieces i d) side
    ∙ ap (λ p. told_piece p (told_pieces (take i pieces) side)) (sym is)

told_all_push : (messages : List AgwMessage) (message : AgwMessage) (p : ProgramState)
    → told_all (messages ++ message ∷ []) p ≡ told message (told_all messages p)
told_all_push [] message p = refl
told_all_push (first ∷ messages) message p = told_all_push messages message (told first p)

pub told_all_more : (messages : List AgwMessage) (i : ℕ) (message d : AgwMessage) (p : ProgramState)
    → i < length messages → message ≡ get_or messages i d
    → told_all (take (i + 1) messages) p ≡ told message (told_all (take i messages) p)
told_all_more messages i message d p within is =
    ap (λ xs. told_all xs p) (take_more messages i d within)
    ∙ told_all_push (take i messages) (get_or messages i d) p
    ∙ ap (λ m. told m (told_all (take i messages) p)) (sym is)

-- ---- frames

over : (f : Option Trouble) (trouble : Trouble) (on stay : Type 0) → f ≡ Some trouble → GoesOn f on stay → stay
over f trouble on stay is h = subst (λ g. GoesOn g on stay) is h

push_by : (end : End) (first : Candidate) (items : List Candidate) (item : Candidate) (n between next : Near)
    → ((middle : Near) → AreHeardAt end items middle between → AreHeardAt end (items ++ item ∷ []) middle next)
    → GoesOn between.common.trouble (IsHeardAt end item between next) (next ≡ between)
    → (t : Option Trouble) → n.common.trouble ≡ t
    → GoesOn t ((middle : Near) × IsHeardAt end first n middle × AreHeardAt end items middle between) (between ≡ n)
    → GoesOn t ((middle : Near) × IsHeardAt end first n middle × AreHeardAt end (items ++ item ∷ []) middle next)
    (next ≡ n)
push_by end first items item n between next again made None is step = (step.0, step.1, again step.0 step.2)
push_by end first items item n between next again made (Some trouble) is same =
    over between.common.trouble trouble (IsHeardAt end item between next) (next ≡ between)
    (ap (λ (b : Near). b.common.trouble) same ∙ is) made ∙ same

heard_push : (end : End) (items : List Candidate) (item : Candidate) (n between next : Near)
    → AreHeardAt end items n between → GoesOn between.common.trouble (IsHeardAt end item between next) (next ≡ between)
    → AreHeardAt end (items ++ item ∷ []) n next
heard_push end [] item n between next same made = go n.common.trouble
    (subst (λ (b : Near). GoesOn b.common.trouble (IsHeardAt end item b next) (next ≡ b)) same made)
  where
    go : (f : Option Trouble) → GoesOn f (IsHeardAt end item n next) (next ≡ n)
        → GoesOn f ((middle : Near) × IsHeardAt end item n middle × (next ≡ middle)) (next ≡ n)
    go None h = (next, h, refl)
    go (Some trouble) h = h
heard_push end (first ∷ items) item n between next h made =
    push_by end first items item n between next
    (λ middle rest. heard_push end items item middle between next rest made) made n.common.trouble refl h

pub heard_more : (end : End) (items : List Candidate) (i : ℕ) (item d : Candidate) (n between next : Near)
    → i < length items → item ≡ get_or items i d
    → AreHeardAt end (take i items) n between
    → GoesOn between.common.trouble (IsHeardAt end item between next) (next ≡ between)
    → AreHeardAt end (take (i + 1) items) n next
heard_more end items i item d n between next within is h made =
    subst (λ xs. AreHeardAt end xs n next) (sym (take_more items i d within))
    (heard_push end (take i items) (get_or items i d) n between next h
    (subst (λ (x : Candidate). GoesOn between.common.trouble (IsHeardAt end x between next) (next ≡ between)) is made))

-- ---- one frame

pub stray_made : (end : End) (item : Candidate) (n : Near) → number_of end item n ≡ None
    → IsHeardAt end item n (with_stray item.octets n)
stray_made end item n is = subst (λ m. IsHeardAs end m item.octets n (with_stray item.octets n)) (sym is) refl

pub match_made : (end : End) (item : Candidate) (number : ℕ) (n next : Near) → number_of end item n ≡ Some number
    → IsStep end (OffAir item.octets) (Some number) (with_matched number n) next → IsHeardAt end item n next
match_made end item number n next is step = subst (λ m. IsHeardAs end m item.octets n next) (sym is) step

-- the number of the first match among those that come after the last one, by what the code keeps
pub match_at : (item : Candidate) (side : SideState) (place : Option ℕ) (matched : ℕ) (towards : List SentAt)
    → matched ≡ side.matched
    → towards ≡ side.towards → place ≡ position (is_match side.blocks item) (drop matched towards)
    → match_of item side ≡ option_map (λ k. matched + k) place
match_at item side place matched towards number sent found =
    sym (ap (option_map (λ k. matched + k)) found
    ∙ (λ i. option_map (λ k. number i + k) (position (is_match side.blocks item) (drop (number i) (sent i)))))

-- the frame that is on its way has the octets of a heard one
abbrev pub has_coming : End → Candidate → Near → Bool
has_coming end item n =
    is_frame_of item.octets (slice_get (sent_by (other end) (ways_of n.common)).queued (length n.side.towards))

-- a heard frame is the one that is on its way, by what the code keeps
pub coming_is : (end : End) (item : Candidate) (n : Near) (blocks : Bool) (matched : ℕ) (towards : List SentAt)
    → blocks ≡ n.side.blocks → matched ≡ n.side.matched → towards ≡ n.side.towards
    → (blocks && (nat_le matched (length towards) && has_coming end item n)) ≡ is_coming end item n
coming_is end item n blocks matched towards reads number sent =
    λ i. reads i && (nat_le (number i) (length (sent i)) && has_coming end item n)

-- three tests, one after another
pub third_decides : (a b c : Bool) → a ≡ true → b ≡ true → c ≡ (a && (b && c))
third_decides a b c first second = sym (ap (λ x. x && (b && c)) first ∙ ap (λ x. x && c) second)

pub second_fails : (a b c : Bool) → a ≡ true → b ≡ false → b ≡ (a && (b && c))
second_fails a b c first second = second ∙ sym (ap (λ x. x && (b && c)) first ∙ ap (λ x. x && c) second)

pub first_fails : (a b : Bool) → a ≡ false → a ≡ (a && b)
first_fails a b first = first ∙ sym (ap (λ x. x && b) first)

-- once the run has ended, nothing more comes to pass
pub heard_ended : (end : End) (item : Candidate) (n : Near) → is_some n.common.trouble ≡ true
    → GoesOn n.common.trouble (IsHeardAt end item n n) (n ≡ n)
heard_ended end item n ended = by n.common.trouble ended
  where
    by : (f : Option Trouble) → is_some f ≡ true → GoesOn f (IsHeardAt end item n n) (n ≡ n)
    by None never = absurd (false≢true never)
    by (Some trouble) is = refl

pub heard_goes_on : (end : End) (item : Candidate) (n next : Near) → n.common.trouble ≡ None → IsHeardAt end item n next
    → GoesOn n.common.trouble (IsHeardAt end item n next) (next ≡ n)
heard_goes_on end item n next none h = subst (λ f. GoesOn f (IsHeardAt end item n next) (next ≡ n)) (sym none) h

-- what both stations share after a stray
pub stray_stands : (end : End) (side : Side) (before after : Shared) (n : Near) (octets : List ℕ)
    → StandsForNear end side before n
    → after ≡ record before { trouble = Some (Stray octets) } → StandsForNear end side after (with_stray octets n)
stray_stands end side before after n octets h is =
    let shared = h.shared_is in
    record {
      side_is = h.side_is;
      shared_is = subst (λ s. StandsForCommon s (with_stray octets n).common) (sym is) (record {
        flight = shared.flight;
        draws = shared.draws;
        transmissions = shared.transmissions;
        lost = shared.lost;
        trouble = refl;
      });
    }
