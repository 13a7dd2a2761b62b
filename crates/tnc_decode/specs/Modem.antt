-- What hears an input, by cases: each modem has its candidates, and settles those that end below a count of its
-- samples.
use Rattle.std.specs.Prelude.{◌≡◌, ℕ, ◌+◌, ◌/◌, ◌==◌, if◌then◌else◌, ℤ, List, length, map, Option, Some, None}
use Rattle.frame_merge.specs.declared.candidate.Candidate.{Candidate}
use Rattle.frame_merge.specs.Merged.{merged, below, between, not_below}
use Rattle.slicer_bank.specs.Candidates.{AreCandidates}
use Rattle.hf_modem.specs.Candidates.{AreCandidates as AreHfCandidates}
use Rattle.hf_sensitive.specs.Candidates.{AreHeard as AreSensitiveHfCandidates}
use Rattle.hf_sensitive.specs.MergedItems.{settled as hf_settled}
use Rattle.sensitive_receiver.specs.Candidates.{AreHeard as AreSensitiveCandidates}
use Rattle.sensitive_receiver.specs.MergedItems.{settled}
use Rattle.resampler.specs.Filtered.{filtered, decimated}
use Rattle.wide_input.specs.SettledByAll.{settled_by_all}
use Rattle.wide_input.specs.MergedItems.{settled_ends}
use Rattle.wide_input.specs.Candidates.{AreWideCandidates}
use Rattle.fx25_receiver.specs.declared.heard.Heard.{Heard}
use Rattle.fx25_receiver.specs.Merged.{AreMerged}
use Rattle.fx25_receiver.specs.WithoutBlocks.{candidate_of}
use Rattle.sensitive_blocks.specs.Heard.{AreMerged as AreMergedOfAll}
use Rattle.wav_file.specs.declared.rates.Rates.TheVariants.{NarrowOrWide}
use Rattle.wav_file.specs.Reading.{rate_in}
use Rattle.tnc_words.specs.declared.command.AudioForm.{AudioForm}
use Rattle.tnc_words.specs.declared.command.AudioForm.TheVariants.{Raw, Wav}
use Rattle.tnc_words.specs.declared.command.DecodeWords.{DecodeWords}
use Rattle.tnc_words.specs.declared.command.Receiving.{Receiving}
use Rattle.tnc_words.specs.declared.command.Receiving.TheVariants.{Standard, Sensitive as AskedSensitive}
use Rattle.tnc_words.specs.declared.command.Receiving.TheVariants.{ShortWave as OnShortWave, Fx25 as AskedFx25}
use Rattle.tnc_words.specs.declared.command.Receiving.TheVariants.{SensitiveShortWave as AskedSensitiveShortWave}
use Rattle.tnc_words.specs.declared.command.Receiving.TheVariants.{SensitiveFx25 as AskedSensitiveFx25}
use Rattle.tnc_words.specs.declared.command.SampleRate.{SampleRate}
use Rattle.tnc_words.specs.declared.command.SampleRate.TheVariants.{Narrow, Wide as WideRate}
use Rattle.tnc_decode.specs.declared.modem.Modem.{Modem}
use Rattle.tnc_decode.specs.declared.modem.Modem.TheVariants.{Plain, Wide, Sensitive, WideSensitive, ShortWave, Fx25}
use Rattle.tnc_decode.specs.declared.modem.Modem.TheVariants.{SensitiveShortWave, SensitiveFx25}

-- ---- which one hears

-- the rate of a WAV file, as it told it; before that it has no samples
abbrev pub rate_of_file : Option ℕ → SampleRate
rate_of_file None = Narrow
rate_of_file (Some rate) = if rate == 48000 then WideRate else Narrow

-- the rate of raw samples is the one that words name
abbrev pub rate_for : SampleRate → AudioForm → List ℕ → SampleRate
rate_for named Raw octets = named
rate_for named Wav octets = rate_of_file (rate_in NarrowOrWide octets)

-- what hears samples at a rate
abbrev pub plain_at : SampleRate → Modem
plain_at Narrow = Plain
plain_at WideRate = Wide

-- and with all lanes
abbrev pub sensitive_at : SampleRate → Modem
sensitive_at Narrow = Sensitive
sensitive_at WideRate = WideSensitive

abbrev pub modem_for : Receiving → AudioForm → List ℕ → Modem
modem_for (Standard rate) form octets = plain_at (rate_for rate form octets)
modem_for (AskedSensitive rate) form octets = sensitive_at (rate_for rate form octets)
modem_for OnShortWave form octets = ShortWave
modem_for AskedSensitiveShortWave form octets = SensitiveShortWave
modem_for AskedFx25 form octets = Fx25
modem_for AskedSensitiveFx25 form octets = SensitiveFx25

-- the modem that hears the input of words
abbrev pub modem_of : DecodeWords → List ℕ → Modem
modem_of words octets = modem_for words.receiving words.audio octets

-- ---- what it hears

-- the items are what is heard plainly and in blocks, merged
pub record AreMergedWithBlocks (x : List ℤ) (items : List Candidate) : Type 0 where
  pub heard : List Heard
  pub are : AreMerged x heard
  pub is : items ≡ map candidate_of heard

-- and by all lanes
pub record AreMergedByAll (x : List ℤ) (items : List Candidate) : Type 0 where
  pub heard : List Heard
  pub are : AreMergedOfAll x heard
  pub is : items ≡ map candidate_of heard

-- The items are all candidates of the samples, or if blocks are heard too what is merged of all. Samples at 48,000 a second
-- are filtered; eight lanes hear each of their five streams, and all lanes together the first one.
abbrev pub AreHeard : Modem → List ℤ → List Candidate → Type 0
AreHeard Plain x items = AreCandidates x items
AreHeard Wide x items = AreWideCandidates (filtered x) items
AreHeard Sensitive x items = AreSensitiveCandidates x items
AreHeard WideSensitive x items = AreSensitiveCandidates (decimated x) items
AreHeard ShortWave x items = AreHfCandidates x items
AreHeard SensitiveShortWave x items = AreSensitiveHfCandidates x items
AreHeard Fx25 x items = AreMergedWithBlocks x items
AreHeard SensitiveFx25 x items = AreMergedByAll x items

-- What remains of it, each frame once. Frames that also come in blocks are merged by a rule of their own.
abbrev pub remaining : Modem → List Candidate → List Candidate
remaining Plain items = merged items
remaining Wide items = merged items
remaining Sensitive items = merged items
remaining WideSensitive items = merged items
remaining ShortWave items = merged items
remaining SensitiveShortWave items = merged items
remaining Fx25 items = items
remaining SensitiveFx25 items = items

-- what ends below this position is settled by the samples, whatever follows
abbrev pub settled_count : Modem → List ℤ → ℕ
settled_count Plain x = length x
settled_count Wide x = settled_ends (length x)
settled_count Sensitive x = settled (length x)
settled_count WideSensitive x = settled_by_all (length x)
settled_count ShortWave x = length x / 4
settled_count SensitiveShortWave x = hf_settled (length x)
settled_count Fx25 x = length x + 1
settled_count SensitiveFx25 x = settled (length x)

-- the items are those of what remains that end from one position to below another
pub record AreGivenBetween (modem : Modem) (from to : ℕ) (x : List ℤ) (items : List Candidate) : Type 0 where
  pub candidates : List Candidate
  pub are : AreHeard modem x candidates
  pub is : items ≡ between from to (remaining modem candidates)

-- the items are those that end below a position
pub record AreGivenBelow (modem : Modem) (position : ℕ) (x : List ℤ) (items : List Candidate) : Type 0 where
  pub candidates : List Candidate
  pub are : AreHeard modem x candidates
  pub is : items ≡ below position (remaining modem candidates)

-- the items are those that do not end below a position
pub record AreGivenRest (modem : Modem) (from : ℕ) (x : List ℤ) (items : List Candidate) : Type 0 where
  pub candidates : List Candidate
  pub are : AreHeard modem x candidates
  pub is : items ≡ not_below from (remaining modem candidates)
