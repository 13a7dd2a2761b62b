-- What a decoder of plain frames and blocks gives: all that ends with the samples that it took.
use Rattle.tnc_decode.proofs.Common.{◌≡◌, ℕ, ◌+◌, ◌<◌, ◌≤◌, ℤ, List, [], ◌++◌, length, refl, ap, sym, ◌∙◌, arith}
use Rattle.tnc_decode.proofs.Common.{append_cancel_left, append-nil, length-append, ◌∷◌, Candidate, below, between, not_below, Modem, Plain}
use Rattle.tnc_decode.proofs.Common.{Wide, Sensitive, WideSensitive, ShortWave, SensitiveShortWave, Fx25, HasDecoded}
use Rattle.tnc_decode.proofs.Common.{settled_count, SensitiveFx25}
use Rattle.tnc_decode.proofs.Common.{AreGivenBetween, AreGivenRest, below_between, below_then_rest}
use Rattle.std.specs.Prelude.{map}
use Rattle.std.specs.List.{All}
use Rattle.std.proofs.lemmas.List.{map-append}
use Rattle.std.proofs.lemmas.List.Elements.{All-head, All-map, All-tail, All-weaker}
use Rattle.std.proofs.Common.{cond}
use Rattle.std.proofs.lemmas.Bool.{lt-leb}
use Rattle.fx25_receiver.specs.declared.heard.Heard.{Heard}
use Rattle.fx25_receiver.specs.Held.{Held as HeldFx25, StandsFor as Fx25StandsFor}
use Rattle.fx25_receiver.specs.Merged.{AreMerged}
use Rattle.fx25_receiver.proofs.MergedLists.{merged_within}
use Rattle.fx25_receiver.specs.WithoutBlocks.{candidate_of}
use Rattle.tnc_decode.specs.Modem.{AreMergedWithBlocks}
use Rattle.tnc_decode.specs.declared.decoders.Decoders.TheVariants.{Fx25 as Fx25Decoder}
use Rattle.tnc_decode.proofs.BlockItems.{blocks_rise, still_with_blocks}

-- what was given is what is merged
given_are : (held : HeldFx25) (x : List ℤ) (given : List Heard) → Fx25StandsFor held x given → AreMerged x given
given_are held x given stands = let h = stands.taken.has_heard in record { heard = h.heard; are = h.are; is = h.given_is }

candidates_are : (x : List ℤ) (given : List Heard) → AreMerged x given
    → AreMergedWithBlocks x (map candidate_of given)
candidates_are x given are = record { heard = given; are = are; is = refl }

not_below_none : (position : ℕ) (xs : List Candidate) → All (λ y. y.end < position) xs → not_below position xs ≡ []
not_below_none position [] h = refl
not_below_none position (x ∷ xs) h =
    ap (λ t. cond t (x ∷ not_below position xs) (not_below position xs))
    (lt-leb position x.end (All-head (λ y. y.end < position) x xs h))
    ∙ not_below_none position xs (All-tail (λ y. y.end < position) x xs h)

-- all of what is merged ends within the samples
none_left : (x : List ℤ) (given : List Heard) → AreMerged x given
    → not_below (length x + 1) (map candidate_of given) ≡ []
none_left x given are =
    not_below_none (length x + 1) (map candidate_of given) (All-map (λ y. y.end < length x + 1) candidate_of given
    (All-weaker (λ item. item.end ≤ length x) (λ item. item.end < length x + 1) (λ item within. omega arith) given
    (merged_within x given are)))

all_below : (x : List ℤ) (given : List Heard) → AreMerged x given
    → below (length x + 1) (map candidate_of given) ≡ map candidate_of given
all_below x given are =
    let n : ℕ = length x + 1 in
    let all : List Candidate = map candidate_of given in
    sym (append-nil (below n all)) ∙ ap (λ t. below n all ++ t) (sym (none_left x given are))
    ∙ below_then_rest n all (blocks_rise x all (candidates_are x given are))

pub fx25_block : (old new : HeldFx25) (block : List ℤ) (items : List Candidate)
    → ((x : List ℤ) (given : List Heard) → Fx25StandsFor old x given
    → (heard : List Heard) × Fx25StandsFor new (x ++ block) (given ++ heard) × (items ≡ map candidate_of heard))
    → (modem : Modem) (x : List ℤ) → HasDecoded modem (Fx25Decoder old) x
    → HasDecoded modem (Fx25Decoder new) (x ++ block)
    × AreGivenBetween modem (settled_count modem x) (settled_count modem (x ++ block)) (x ++ block) items
fx25_block old new block items given Plain x h = absurd h
fx25_block old new block items given Wide x h = absurd h
fx25_block old new block items given Sensitive x h = absurd h
fx25_block old new block items given WideSensitive x h = absurd h
fx25_block old new block items given ShortWave x h = absurd h
fx25_block old new block items given SensitiveShortWave x h = absurd h
fx25_block old new block items given SensitiveFx25 x h = absurd h
fx25_block old new block items given Fx25 x (before, stands) =
    let g = given x before stands in
    let n : ℕ = length x + 1 in
    let m : ℕ = length (x ++ block) + 1 in
    let was : AreMerged x before = given_are old x before stands in
    let now : AreMerged (x ++ block) (before ++ g.0) = given_are new (x ++ block) (before ++ g.0) g.1 in
    let all : List Candidate = map candidate_of (before ++ g.0) in
    let parts : all ≡ map candidate_of before ++ map candidate_of g.0 = map-append candidate_of before g.0 in
    let first : below n all ≡ map candidate_of before =
    sym (still_with_blocks n x block (map candidate_of before) all (omega arith) (candidates_are x before was)
    (candidates_are (x ++ block) (before ++ g.0) now)) ∙ all_below x before was in
    let rises = blocks_rise (x ++ block) all (candidates_are (x ++ block) (before ++ g.0) now) in
    let size = length-append x block in
    let next : map candidate_of g.0 ≡ between n m all =
    append_cancel_left (map candidate_of before) (map candidate_of g.0) (between n m all)
    (sym parts ∙ sym (all_below (x ++ block) (before ++ g.0) now) ∙ sym (below_between n m all (omega arith) rises)
    ∙ ap (λ t. t ++ between n m all) first) in (
      (before ++ g.0, g.1),
      record {
        candidates = all;
        are = candidates_are (x ++ block) (before ++ g.0) now;
        is = g.2 ∙ next;
      },
    )

pub fx25_finish : (old : HeldFx25) (items : List Candidate) → items ≡ [] → (modem : Modem) (x : List ℤ)
    → HasDecoded modem (Fx25Decoder old) x → AreGivenRest modem (settled_count modem x) x items
fx25_finish old items none Plain x h = absurd h
fx25_finish old items none Wide x h = absurd h
fx25_finish old items none Sensitive x h = absurd h
fx25_finish old items none WideSensitive x h = absurd h
fx25_finish old items none ShortWave x h = absurd h
fx25_finish old items none SensitiveShortWave x h = absurd h
fx25_finish old items none SensitiveFx25 x h = absurd h
fx25_finish old items none Fx25 x (given, stands) =
    let are : AreMerged x given = given_are old x given stands in
    record {
      candidates = map candidate_of given;
      are = candidates_are x given are;
      is = none ∙ sym (none_left x given are);
    }
