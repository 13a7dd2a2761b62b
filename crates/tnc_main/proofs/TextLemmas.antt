-- Why an input that is too long is refused, and the text of samples near a signal.
use Rattle.tnc_main.proofs.Common.{◌≡◌, ℕ, ◌<◌, ℤ, List, [], length, map, Option, Some, ap, ◌∙◌, arith, if◌then◌else◌}
use Rattle.tnc_main.proofs.Common.{refl, subst, sym}
use Rattle.std.proofs.Common.{◌∷◌}
use Rattle.fx25_receiver.specs.declared.heard.Heard.{Heard}
use Rattle.fx25_receiver.specs.WithoutBlocks.{candidate_of}
use Rattle.tnc_main.proofs.Common.{Candidate, remaining, Command, Decode, Encode, Show, Loop, Bench, Serve, Help, Record}
use Rattle.tnc_main.proofs.Common.{Call, Version, DecodeWords, TooLong, input_limit, samples_read, Modem, Plain}
use Rattle.tnc_main.proofs.Common.{modem_of, AreHeard, IsDecoded, print, fault_of_whole, first_of, length_fault}
use Rattle.tnc_main.proofs.Common.{samples_sent, fault_kept, Reads, fault_of, WritesAtEnd}
use Rattle.tnc_main.proofs.Common.{Done, Makes, Status, Writes}
use Rattle.std.proofs.Common.{lt-ltb}
use Rattle.clean_signal.specs.GoodTransmission.{frames_of}
use Rattle.clean_signal.specs.NearSignal.{Received, transmissions_of}
use Rattle.clean_signal.proofs.Law.{near_law}
use Rattle.slicer_bank.proofs.SomeList.{some_list}
use Rattle.fx25_receiver.proofs.WithoutBlocks.{merged_plain}
use Rattle.fx25_signal.specs.Merging.{MergesTo}
use Rattle.fx25_signal.specs.NearSignal.{ReceivedBlocks, frames_of as frames_in_blocks}
use Rattle.fx25_signal.specs.Units.{SentUnit}
use Rattle.fx25_signal.proofs.NearLaw.{lost_law}
use Rattle.fx25_signal.proofs.UnitLaw.{unit_law}
use Rattle.resampler.specs.Filtered.{filtered, decimated}
use Rattle.wide_input.proofs.WideLaw.{near_stream_law}
use Rattle.hf_signal.proofs.Law.{near_law as hf_near_law}
use Rattle.tnc_decode.specs.declared.modem.Modem.TheVariants.{Wide, Sensitive, WideSensitive, ShortWave, Fx25}
use Rattle.tnc_decode.specs.declared.modem.Modem.TheVariants.{SensitiveShortWave, SensitiveFx25}
use Rattle.hf_sensitive.proofs.SignalLaw.{near_law as all_hf_lanes_law}
use Rattle.tnc_encode.specs.Frames.{form_fault as frames_fault}
use Rattle.tnc_decode.specs.Modem.{modem_for}
use Rattle.tnc_words.specs.declared.command.Receiving.TheVariants.{Fx25 as AskedFx25}
use Rattle.tnc_main.specs.Clean.{CarriesUnits, IsNearButForStretches, IsNearlyClean}
use Rattle.sensitive_receiver.proofs.SomeList.{some_list as some_on_all_lanes}
use Rattle.sensitive_blocks.proofs.WithoutBlocks.{merged_plain as merged_plain_on_all_lanes}
use Rattle.sensitive_receiver.proofs.SignalLaw.{near_law as all_lanes_law}

-- an input with too many octets is refused for that by a command that reads all of it first
pub long_fault : (command : Command) (left : Option (List ℕ)) (octets : List ℕ) → WritesAtEnd command
    → Reads command left octets
    → input_limit < length octets → fault_of command octets ≡ Some TooLong
unfolding fault_of_whole
long_fault (Decode words) left octets last read long = absurd last
long_fault (Encode words) left octets last read long =
    fault_kept words last octets
    ∙ ap (λ b. if b then Some TooLong else first_of (frames_fault words.frames octets)
    (length_fault words.audio (length (samples_sent words octets))))
    (lt-ltb input_limit (length octets) long)
long_fault (Show words) left octets last read long = absurd last
long_fault (Loop words) left octets last read long = let none : length octets ≡ 0 = ap length read in
    absurd (omega arith)
long_fault (Bench options) left octets last read long = let none : length octets ≡ 0 = ap length read in
    absurd (omega arith)
long_fault (Serve options) left octets last read long = absurd last
long_fault (Record options) left octets last read long = absurd last
long_fault (Call options) left octets last read long = absurd last
long_fault (Help topic) left octets last read long = let none : length octets ≡ 0 = ap length read in
    absurd (omega arith)
long_fault Version left octets last read long = let none : length octets ≡ 0 = ap length read in absurd (omega arith)

-- what a decode that is done has written
pub done_text : (command : Command) (decode : DecodeWords) (octets text : List ℕ) (left : Option (List ℕ))
    (status : Status) → Done ≡ status → command ≡ Decode decode → Writes command octets left status text
    → IsDecoded decode octets text
done_text command decode octets text left status done is writes =
    subst (λ one. Makes one octets text) is
    (subst (λ code. Writes command octets left code text) (sym done) writes)

-- what decode makes of samples of which these frames remain
pub merged_text : (words : DecodeWords) (frames : List (List ℕ)) (octets text : List ℕ)
    → ((items : List Candidate) → AreHeard (modem_of words octets) (samples_read words octets) items
    → map (λ item. item.octets) (remaining (modem_of words octets) items) ≡ frames)
    → IsDecoded words octets text → text ≡ print words.frames frames
merged_text words frames octets text merges h = h.is ∙ ap (print words.frames) (merges h.candidates h.are)

-- as those near a signal are
near_merges : (modem : Modem) (x : List ℤ) (received : List Received) → IsNearlyClean modem x received
    → (items : List Candidate) → AreHeard modem x items
    → map (λ item. item.octets) (remaining modem items) ≡ frames_of (transmissions_of received)
near_merges Plain x received clean = near_law received x clean.each clean.near clean.no_stray
near_merges Wide x received clean = near_stream_law clean.number received (filtered x) clean.within clean.each
    clean.near clean.no_stray
near_merges Sensitive x received clean = all_lanes_law received x clean.each clean.near clean.none_stray
near_merges WideSensitive x received clean = all_lanes_law received (decimated x) clean.each clean.near clean.none_stray
near_merges ShortWave x received clean = hf_near_law received x clean.each clean.near clean.no_stray
near_merges SensitiveShortWave x received clean = all_hf_lanes_law received x clean.each clean.near clean.none_stray
near_merges Fx25 x received clean = λ items are.
    let plain = some_list x in
    ap (map (λ item. item.octets)) (are.is ∙ merged_plain x are.heard plain.0 clean.no_block are.are plain.1)
    ∙ near_law received x clean.plain.each clean.plain.near clean.plain.no_stray plain.0 plain.1
near_merges SensitiveFx25 x received clean = λ items are.
    let plain = some_on_all_lanes x in
    ap (map (λ item. item.octets)) (are.is
    ∙ merged_plain_on_all_lanes x are.heard plain.0 clean.no_block are.are plain.1)
    ∙ all_lanes_law received x clean.plain.each clean.plain.near clean.plain.none_stray plain.0 plain.1

pub near_text : (words : DecodeWords) (received : List Received) (octets text : List ℕ)
    → IsNearlyClean (modem_of words octets) (samples_read words octets) received
    → IsDecoded words octets text → text ≡ print words.frames (frames_of (transmissions_of received))
near_text words received octets text clean h =
    merged_text words (frames_of (transmissions_of received)) octets text
    (near_merges (modem_of words octets) (samples_read words octets) received clean) h

-- ---- frames in blocks

-- the octets of what is merged of all are those of the items of a decode
octets-candidates : (heard : List Heard)
    → map (λ item. item.octets) (map candidate_of heard) ≡ map (λ item. item.octets) heard
octets-candidates [] = refl
octets-candidates (item ∷ heard) = ap (λ octets. item.octets ∷ octets) (octets-candidates heard)

-- samples that merge to frames, with their blocks
merging_text : (words : DecodeWords) (frames : List (List ℕ)) (octets text : List ℕ) → words.receiving ≡ AskedFx25
    → MergesTo frames (samples_read words octets) → IsDecoded words octets text → text ≡ print words.frames frames
merging_text words frames octets text asked merges h =
    let same : modem_of words octets ≡ Fx25 = ap (λ receiving. modem_for receiving words.audio octets) asked in
    merged_text words frames octets text (subst (λ modem. (items : List Candidate)
    → AreHeard modem (samples_read words octets) items → map (λ item. item.octets) (remaining modem items) ≡ frames)
    (sym same)
    (λ items are. ap (map (λ item. item.octets)) are.is ∙ octets-candidates are.heard ∙ merges are.heard are.are)) h

pub units_text : (words : DecodeWords) (units : List SentUnit) (octets text : List ℕ) → words.receiving ≡ AskedFx25
    → CarriesUnits (samples_read words octets) units → IsDecoded words octets text
    → text ≡ print words.frames (map (λ unit. unit.octets) units)
units_text words units octets text asked carries =
    merging_text words (map (λ unit. unit.octets) units) octets text asked
    (unit_law units (samples_read words octets) carries.apart carries.come carries.none_stray)

pub repaired_text : (words : DecodeWords) (received : List ReceivedBlocks) (octets text : List ℕ)
    → words.receiving ≡ AskedFx25 → IsNearButForStretches (samples_read words octets) received
    → IsDecoded words octets text → text ≡ print words.frames (frames_in_blocks received)
repaired_text words received octets text asked near =
    merging_text words (frames_in_blocks received) octets text asked
    (lost_law received near.stretches (samples_read words octets) near.sent near.each near.near near.lost near.differ
    near.none_stray)
