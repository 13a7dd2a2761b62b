-- An ear that reads blocks and hears more samples; what is ready there is one list, and ends with the samples of its tick.
use Rattle.channel_bench.proofs.Common.{◌≡◌, ℕ, ◌+◌, ◌-◌, ◌*◌, ◌≤◌, ℤ, List, [], ◌∷◌, ◌++◌, length, map, take, drop, get_or}
use Rattle.channel_bench.proofs.Common.{refl, ap, sym, ◌∙◌, subst, arith, length-append, All, HasFrameLength, Candidate}
use Rattle.channel_bench.proofs.Common.{inl, inr, AreReadyInBlocks, BlockEar, BlockEarStandsFor, recursion_from_All}
use Rattle.channel_bench.proofs.Common.{Bool, false, IsTrue, ◌↔◌, ◌⊎◌, false≢true}
use Rattle.std.specs.List.{AllByRecursion as Each}
use Rattle.std.proofs.Math.Seq.{take-append_seam}
use Rattle.std.proofs.lemmas.List.{append_cancel_left, length-take-le, take-append-drop}
use Rattle.std.proofs.lemmas.List.Elements.{All-map, All-tail}
use Rattle.hdlc_framer.specs.Frames.{IsFrame}
use Rattle.fx25_receiver.specs.Heard.{IsHeard}
use Rattle.fx25_receiver.specs.Held.{Held as HeldReceiver, StandsFor as ReceiverStandsFor}
use Rattle.fx25_receiver.specs.Merged.{AreMerged}
use Rattle.fx25_receiver.specs.WithoutBlocks.{candidate_of}
use Rattle.fx25_receiver.specs.declared.heard.Heard.{Heard}
use Rattle.fx25_receiver.proofs.MergedLists.{All-merged, merged_more, one_merged}
use Rattle.slicer_bank.specs.Held.{StandsFor as BankStandsFor}

-- ---- the ear

-- what a receiver gave is what is heard, merged
given_merged : (held : HeldReceiver) (x : List ℤ) (given : List Heard) → ReceiverStandsFor held x given
    → AreMerged x given
given_merged held x given h =
    let has = h.taken.has_heard in record { heard = has.heard; are = has.are; is = has.given_is }

-- nothing is heard
pub block_ear_none : (held : BlockEar) → BankStandsFor held.bank [] → held.bank.flags ≡ 1 → held.count ≡ 0
    → ReceiverStandsFor held.receiver [] [] → BlockEarStandsFor held []
block_ear_none held bank flags count receiver =
    record { bank = bank; flags = flags; count = count; given = []; so_far = receiver }

-- 96 samples more
pub block_ear_more : (x y : List ℤ) (before after : BlockEar) (own : List Heard) → length y ≡ 96
    → (BankStandsFor before.bank x → BankStandsFor after.bank (x ++ y)) → after.bank.flags ≡ before.bank.flags
    → after.count ≡ before.count + length y
    → ((given : List Heard) → ReceiverStandsFor before.receiver x given
    → ReceiverStandsFor after.receiver (x ++ y) (given ++ own))
    → BlockEarStandsFor before x
    → BlockEarStandsFor after (x ++ y) × AreReadyInBlocks (x ++ y) (map candidate_of own)
block_ear_more x y before after own long bank flags count gives h =
    let size = length-append x y in
    let now = gives h.given h.so_far in
    let place : length (x ++ y) - 96 ≡ length x = omega (arith, size, long) in
    let first : take (length (x ++ y) - 96) (x ++ y) ≡ x =
    ap (λ n. take n (x ++ y)) place ∙ take-append_seam x y in (
      record {
        bank = bank h.bank;
        flags = flags ∙ h.flags;
        count = count ∙ ap (λ n. n + length y) h.count ∙ sym size;
        given = h.given ++ own;
        so_far = now;
      },
      record {
        before = h.given;
        own = own;
        were = subst (λ z. AreMerged z h.given) (sym first) (given_merged before.receiver x h.given h.so_far);
        are = given_merged after.receiver (x ++ y) (h.given ++ own) now;
        is = refl;
      },
    )

-- by a carrier, which is not heard, or by a block
pub either : (A B : Type 0) (b : Bool) → (IsTrue false ↔ A) → (IsTrue b ↔ B) → (IsTrue b ↔ (A ⊎ B))
either A B b none some = (
  λ is. inr (some.0 is),
  λ h. elim h [
    | inl a ↦ absurd (false≢true (none.1 a))
    | inr other ↦ some.1 other
  ],
)

-- ---- what is ready

pub one_ready_in_blocks : (samples : List ℤ) (items others : List Candidate) → AreReadyInBlocks samples items
    → AreReadyInBlocks samples others → items ≡ others
one_ready_in_blocks samples items others h g =
    let first : h.before ≡ g.before =
    one_merged (take (length samples - 96) samples) h.before g.before h.were g.were in
    let whole : h.before ++ h.own ≡ g.before ++ g.own =
    one_merged samples (h.before ++ h.own) (g.before ++ g.own) h.are g.are in
    let own : h.own ≡ g.own =
    append_cancel_left g.before h.own g.own (sym (ap (λ b. b ++ h.own) first) ∙ whole) in
    h.is ∙ ap (map candidate_of) own ∙ sym g.is

-- it ends after the samples before its tick
pub ready_late : (samples : List ℤ) (ticks : ℕ) (items : List Candidate) → length samples ≡ 96 * ticks + 96
    → AreReadyInBlocks samples items → Each (λ (item : Candidate). 96 * ticks ≤ item.end + 7) items
ready_late samples ticks items size h =
    let n = length samples - 96 in
    let whole = h.before ++ h.own in
    let split : samples ≡ take n samples ++ drop n samples = sym (take-append-drop n samples) in
    let more = merged_more (take n samples) (drop n samples) h.before whole h.were
    (subst (λ z. AreMerged z whole) split h.are) in
    let own : h.own ≡ more.0 = append_cancel_left h.before h.own more.0 more.1 in
    let long : length (take n samples) ≡ n = length-take-le n samples (omega arith) in
    let late : All (λ (item : Heard). 96 * ticks ≤ item.end + 7) h.own =
    subst (All (λ (item : Heard). 96 * ticks ≤ item.end + 7)) (sym own)
    (λ k d l. let past = more.2 k d l in omega (arith, past, long, size)) in
    recursion_from_All (λ (item : Candidate). 96 * ticks ≤ item.end + 7) items
    (subst (All (λ (item : Candidate). 96 * ticks ≤ item.end + 7)) (sym h.is)
    (All-map (λ (item : Candidate). 96 * ticks ≤ item.end + 7) candidate_of h.own late))

-- ---- lengths

all_right : {X : Type 0} (P : X → Type 0) (xs ys : List X) → All P (xs ++ ys) → All P ys
all_right P [] ys h = h
all_right P (x ∷ xs) ys h = all_right P xs ys (All-tail P x (xs ++ ys) h)

frame_of : (x : List ℤ) (item : Heard) → IsHeard x item → IsFrame item.octets
frame_of x item h = elim h.ends.ends [
  | inl plain ↦ plain.2.2
  | inr block ↦ block.1.reads.carries.opens.is_frame
]

-- what is heard has the length of a frame
pub block_lengths : (samples : List ℤ) (items : List Candidate) → AreReadyInBlocks samples items
    → All (λ item. HasFrameLength item.octets) items
block_lengths samples items h =
    let Fits : Heard → Type 0 = λ item. HasFrameLength item.octets in
    let each : All Fits (h.before ++ h.own) =
    subst (All Fits) (sym h.are.is)
    (All-merged Fits [] h.are.heard
    (λ k d l.
    let frame = frame_of samples (get_or h.are.heard k d) (h.are.are.each k d l) in
    record { least = frame.least; most = frame.most })) in
    subst (All (λ (item : Candidate). HasFrameLength item.octets)) (sym h.is)
    (All-map (λ (item : Candidate). HasFrameLength item.octets) candidate_of h.own
    (all_right Fits h.before h.own each))
