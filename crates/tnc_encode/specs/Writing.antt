-- What the functions of this crate ask of the words and of the frames, and what they promise of the output.
use Rattle.std.specs.Prelude.{◌≡◌, ℕ, ◌≤◌, ◌+◌, ◌⊎◌, All, List, [], ◌++◌, length, drop, Option, Some, None}
use Rattle.std.specs.Prelude.{Result, OnOk, OnErr, IfErr, IsErrOf}
use Rattle.tnc_base.specs.Faults.{HasRisen}
use Rattle.tnc_base.specs.Streams.{SourceTold, SinkTold, WrotePart}
use Rattle.afsk_modulator.specs.Modulation.{IsLevel}
use Rattle.hdlc_framer.specs.FrameLength.{IsBadLength}
use Rattle.tnc_forms.specs.declared.fault.Fault.{Fault}
use Rattle.tnc_forms.specs.declared.fault.Fault.TheVariants.{Input, Memory, Read, Write}
use Rattle.tnc_forms.specs.declared.fault.InputFault.{InputFault}
use Rattle.tnc_forms.specs.declared.fault.InputFault.TheVariants.{TooLong}
use Rattle.tnc_forms.specs.Reading.{input_limit}
use Rattle.tnc_words.specs.declared.command.EncodeWords.{EncodeWords}
use Rattle.tnc_encode.specs.Encoded.{encoded, encoded_before, fault_of_whole}

-- frames can be sent by these words: their flags are enough, and their level is one of the modulator
pub record CanSend (words : EncodeWords) : Type 0 where
  pub opening : 2 ≤ words.opening
  pub closing : 1 ≤ words.closing
  pub level : IsLevel words.level

-- no frame has a length that cannot be sent
abbrev pub CanBeSent : List (List ℕ) → Type 0
CanBeSent frames = All (λ octets. ¬ IsBadLength octets) frames

-- the text is written if all goes well, and a first part of it otherwise
pub record Writes (text : List ℕ) (was now : Option (List ℕ)) (result : Result (Unit {0}) Fault) : Type 0 where
  pub all : (before : List ℕ) → was ≡ Some before → OnOk result (now ≡ Some (before ++ text))
  pub part : (before : List ℕ) → was ≡ Some before → OnErr result (WrotePart before text now)

-- the output counts no fault if all goes well, and its count has risen if the output failed
pub record CountsWrites (was now : SinkTold) (result : Result (Unit {0}) Fault) : Type 0 where
  pub faultless : OnOk result (now.faults ≡ was.faults)
  pub risen : IsErrOf result Write → HasRisen was.faults now.faults

-- so does the input, and the output beside it
pub record CountsFaults (input left : SourceTold) (was now : SinkTold) (result : Result (Unit {0}) Fault)
    : Type 0 where
  pub faultless : OnOk result ((left.faults ≡ input.faults) × (now.faults ≡ was.faults))
  pub read : IsErrOf result Read → HasRisen input.faults left.faults
  pub write : IsErrOf result Write → HasRisen was.faults now.faults

-- only memory or the output can fail
abbrev pub FailsInWriting : Result (Unit {0}) Fault → Type 0
FailsInWriting result = IfErr result (λ fault. (fault ≡ Memory) ⊎ (fault ≡ Write))

-- what is made of octets that are read to their end first, of which so many are left
pub record EncodesWhole (words : EncodeWords) (octets : List ℕ) (left was now : Option (List ℕ))
    (result : Result (Unit {0}) Fault) : Type 0 where
  pub end : OnOk result (left ≡ Some [])
  pub good : OnOk result (fault_of_whole words octets ≡ None)
  pub writes : Writes (encoded words octets) was now result
  pub bad : (fault : InputFault) → IsErrOf result (Input fault) → fault_of_whole words octets ≡ Some fault
  pub before_bad : (before : List ℕ) (fault : InputFault) → was ≡ Some before → length octets ≤ input_limit
      → IsErrOf result (Input fault) → now ≡ Some (before ++ encoded_before words octets)
  pub stops : IsErrOf result (Input TooLong) → left ≡ Some (drop (input_limit + 1) octets)
