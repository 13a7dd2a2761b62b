-- What the decoder of all lanes gives that also reads blocks, as what its modem gives.
use Rattle.tnc_decode.proofs.Common.{◌≡◌, ℕ, ℤ, List, ◌++◌, length, refl, ap, sym, ◌∙◌, arith}
use Rattle.tnc_decode.proofs.Common.{append_cancel_left, length-append, Candidate, below, between, not_below, Modem, Plain}
use Rattle.tnc_decode.proofs.Common.{Wide, Sensitive, WideSensitive, ShortWave, SensitiveShortWave, Fx25, SensitiveFx25, HasDecoded, settled}
use Rattle.tnc_decode.proofs.Common.{settled_count, AreGivenBetween, AreGivenRest, below_between, below_then_rest}
use Rattle.std.specs.Prelude.{map}
use Rattle.std.proofs.lemmas.List.{map-append}
use Rattle.fx25_receiver.specs.declared.heard.Heard.{Heard}
use Rattle.fx25_receiver.specs.WithoutBlocks.{candidate_of}
use Rattle.sensitive_blocks.specs.Heard.{AreMerged}
use Rattle.sensitive_blocks.specs.Held.{HeldReceiver, StandsFor}
use Rattle.sensitive_blocks.proofs.MergedLists.{given_begins, some_merged}
use Rattle.tnc_decode.specs.Modem.{AreMergedByAll}
use Rattle.tnc_decode.specs.declared.decoders.Decoders.TheVariants.{SensitiveFx25 as SensitiveFx25Decoder}
use Rattle.tnc_decode.proofs.AllItems.{all_rise, below_begins, still_by_all}

-- what was given is what is settled
given_below : (held : HeldReceiver) (x : List ℤ) (given all : List Heard) → StandsFor held x given → AreMerged x all
    → below (settled (length x)) (map candidate_of all) ≡ map candidate_of given
given_below held x given all stands are =
    below_begins (settled (length x)) given all (given_begins held x given all stands are)

by_all : (x : List ℤ) (all : List Heard) → AreMerged x all → AreMergedByAll x (map candidate_of all)
by_all x all are = record { heard = all; are = are; is = refl }

pub sensitive_fx25_block : (old new : HeldReceiver) (block : List ℤ) (items : List Candidate)
    → ((x : List ℤ) (given : List Heard) → StandsFor old x given
    → (heard : List Heard) × StandsFor new (x ++ block) (given ++ heard) × (items ≡ map candidate_of heard))
    → (modem : Modem) (x : List ℤ) → HasDecoded modem (SensitiveFx25Decoder old) x
    → HasDecoded modem (SensitiveFx25Decoder new) (x ++ block)
    × AreGivenBetween modem (settled_count modem x) (settled_count modem (x ++ block)) (x ++ block) items
sensitive_fx25_block old new block items given Plain x h = absurd h
sensitive_fx25_block old new block items given Wide x h = absurd h
sensitive_fx25_block old new block items given Sensitive x h = absurd h
sensitive_fx25_block old new block items given WideSensitive x h = absurd h
sensitive_fx25_block old new block items given ShortWave x h = absurd h
sensitive_fx25_block old new block items given SensitiveShortWave x h = absurd h
sensitive_fx25_block old new block items given Fx25 x h = absurd h
sensitive_fx25_block old new block items given SensitiveFx25 x (before, stands) =
    let g = given x before stands in
    let n : ℕ = settled (length x) in
    let m : ℕ = settled (length (x ++ block)) in
    let first = some_merged x in
    let whole = some_merged (x ++ block) in
    let all : List Candidate = map candidate_of whole.0 in
    let was : below n all ≡ map candidate_of before =
    sym (still_by_all n x block (map candidate_of first.0) all (omega arith) (by_all x first.0 first.1)
    (by_all (x ++ block) whole.0 whole.1)) ∙ given_below old x before first.0 stands first.1 in
    let now : below m all ≡ map candidate_of before ++ map candidate_of g.0 =
    given_below new (x ++ block) (before ++ g.0) whole.0 g.1 whole.1 ∙ map-append candidate_of before g.0 in
    let rises = all_rise (x ++ block) all (by_all (x ++ block) whole.0 whole.1) in
    let size = length-append x block in
    let next : map candidate_of g.0 ≡ between n m all =
    append_cancel_left (map candidate_of before) (map candidate_of g.0) (between n m all)
    (sym now ∙ sym (below_between n m all (omega arith) rises) ∙ ap (λ t. t ++ between n m all) was) in (
      (before ++ g.0, g.1),
      record {
        candidates = all;
        are = by_all (x ++ block) whole.0 whole.1;
        is = g.2 ∙ next;
      },
    )

pub sensitive_fx25_finish : (old : HeldReceiver) (items : List Candidate)
    → ((x : List ℤ) (given : List Heard) → StandsFor old x given
    → (heard : List Heard) × AreMerged x (given ++ heard) × (items ≡ map candidate_of heard))
    → (modem : Modem) (x : List ℤ) → HasDecoded modem (SensitiveFx25Decoder old) x
    → AreGivenRest modem (settled_count modem x) x items
sensitive_fx25_finish old items rest Plain x h = absurd h
sensitive_fx25_finish old items rest Wide x h = absurd h
sensitive_fx25_finish old items rest Sensitive x h = absurd h
sensitive_fx25_finish old items rest WideSensitive x h = absurd h
sensitive_fx25_finish old items rest ShortWave x h = absurd h
sensitive_fx25_finish old items rest SensitiveShortWave x h = absurd h
sensitive_fx25_finish old items rest Fx25 x h = absurd h
sensitive_fx25_finish old items rest SensitiveFx25 x (given, stands) =
    let r = rest x given stands in
    let n : ℕ = settled (length x) in
    let all : List Candidate = map candidate_of (given ++ r.0) in
    let parts : all ≡ map candidate_of given ++ map candidate_of r.0 = map-append candidate_of given r.0 in
    let was : below n all ≡ map candidate_of given = given_below old x given (given ++ r.0) stands r.1 in
    let rises = all_rise x all (by_all x (given ++ r.0) r.1) in
    let next : map candidate_of r.0 ≡ not_below n all =
    append_cancel_left (map candidate_of given) (map candidate_of r.0) (not_below n all)
    (sym parts ∙ sym (below_then_rest n all rises) ∙ ap (λ t. t ++ not_below n all) was) in
    record {
      candidates = all;
      are = by_all x (given ++ r.0) r.1;
      is = r.2 ∙ next;
    }
