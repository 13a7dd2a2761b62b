-- What of its text a command writes when it does not end well. Decode, show, and encode that keeps no frames write
-- while they read, and each other command when its input has ended.
use Rattle.std.specs.Prelude.{◌≡◌, ℕ, ⊤, ◌≤◌, ◌<◌, ◌-◌, ◌⊎◌, true, List, [], ◌++◌, length, take, Option, Some}
use Rattle.std.specs.Prelude.{None}
use Rattle.tnc_forms.specs.declared.fault.InputFault.{InputFault}
use Rattle.tnc_forms.specs.HexFrames.{frames_in_lines}
use Rattle.tnc_forms.specs.Reading.{input_limit, piece_limit}
use Rattle.tnc_forms.specs.Taken.{WereRead}
use Rattle.tnc_words.specs.declared.command.Command.{Command}
use Rattle.tnc_words.specs.declared.command.Command.TheVariants.{Decode, Encode, Show, Loop, Bench, Serve, Help}
use Rattle.tnc_words.specs.declared.command.Command.TheVariants.{Record, Call, Version}
use Rattle.tnc_words.specs.declared.command.DecodeWords.{DecodeWords}
use Rattle.tnc_words.specs.Help.{text_about, version_text}
use Rattle.tnc_decode.specs.Decoded.{IsDecoded}
use Rattle.tnc_decode.specs.Settled.{IsPrintBelow, IsSettled, sample_count}
use Rattle.tnc_decode.specs.Written.{most_at_once}
use Rattle.tnc_encode.specs.Encoded.{encoded, encoded_so_far, keeps_frames}
use Rattle.tnc_encode.specs.Frames.{form_fault_so_far}
use Rattle.tnc_loop.specs.Summary.{IsSummary}
use Rattle.tnc_bench.specs.Reported.{IsReportOf}
use Rattle.tnc_show.specs.Shown.{IsShownOfMany, IsShownSoFar, IsTextOf}
use Rattle.tnc_main.specs.Commands.{MakesUpToFault, fault_of}

-- a command writes nothing before its input has ended
abbrev pub WritesAtEnd : Command → Type 0
WritesAtEnd (Decode words) = ⊥
WritesAtEnd (Encode words) = keeps_frames words.audio words.join ≡ true
WritesAtEnd (Show words) = ⊥
WritesAtEnd (Loop words) = ⊤
WritesAtEnd (Bench options) = ⊤
WritesAtEnd (Serve options) = ⊥
WritesAtEnd (Record options) = ⊥
WritesAtEnd (Call options) = ⊥
WritesAtEnd (Help topic) = ⊤
WritesAtEnd Version = ⊤

-- one text begins another
abbrev pub Begins : List ℕ → List ℕ → Type 0
Begins part text = (rest : List ℕ) × (text ≡ part ++ rest)

-- the text is what a command makes of octets, or what show makes of their first frames
abbrev pub MakesFirst : Command → List ℕ → List ℕ → Type 0
MakesFirst (Decode words) octets text = IsDecoded words octets text
MakesFirst (Encode words) octets text = text ≡ encoded words octets
MakesFirst (Show words) octets text = (frames others : List (List ℕ)) × (frames_in_lines 0 octets ≡ frames ++ others)
    × IsTextOf words.modulus frames text
MakesFirst (Loop words) octets text = IsSummary words text
MakesFirst (Bench options) octets text = IsReportOf options text
MakesFirst (Serve options) octets text = ⊥
MakesFirst (Record options) octets text = ⊥
MakesFirst (Call options) octets text = ⊥
MakesFirst (Help topic) octets text = text ≡ text_about topic
MakesFirst Version octets text = text ≡ version_text

-- nothing, or a first part of what a command makes of octets
abbrev pub MakesPart : Command → List ℕ → List ℕ → Type 0
MakesPart command octets part = (part ≡ []) ⊎ ((text : List ℕ) × MakesFirst command octets text × Begins part text)

-- ---- a command that writes while it reads, by the octets that it took from its input

-- The text is what octets settle, whatever follows: of decode the frames that end in them, of encode the signal of the
-- frames whose lines or KISS items have ended, of show the lines of these frames. No line of encode or show is bad.
abbrev pub Settles : Command → List ℕ → List ℕ → Type 0
Settles (Decode words) octets text = IsSettled words octets text
Settles (Encode words) octets text = (form_fault_so_far words.frames octets ≡ None)
    × (text ≡ encoded_so_far words octets)
Settles (Show words) octets text = IsShownSoFar words octets text
Settles (Loop words) octets text = ⊥
Settles (Bench options) octets text = ⊥
Settles (Serve options) octets text = ⊥
Settles (Record options) octets text = ⊥
Settles (Call options) octets text = ⊥
Settles (Help topic) octets text = ⊥
Settles Version octets text = ⊥

-- the text is what the octets read settle
pub record SettledByRead (command : Command) (octets : List ℕ) (left : Option (List ℕ)) (text : List ℕ) : Type 0 where
  pub read : List ℕ
  pub taken : WereRead octets left read
  pub settled : Settles command read text

-- The text is what a first part of the octets read settles, which lacks at most the last 4096 of them.
pub record SettledByMost (command : Command) (octets : List ℕ) (left : Option (List ℕ)) (text : List ℕ) : Type 0 where
  pub read : List ℕ
  pub front : List ℕ
  pub rest : List ℕ
  pub taken : WereRead octets left read
  pub parts : read ≡ front ++ rest
  pub few : length rest ≤ piece_limit
  pub settled : Settles command front text

-- The text begins with what a first part of the octets read settles, which lacks at most the last 4096 of them. It is a
-- first part of what the octets read make.
pub record MostOfLines (command : Command) (octets : List ℕ) (left : Option (List ℕ)) (text : List ℕ) : Type 0 where
  pub early : List ℕ
  pub most : SettledByMost command octets left early
  pub has_early : Begins early text
  pub whole : List ℕ
  pub made : MakesFirst command most.read whole
  pub part : Begins text whole

-- The text of decode is the print of the frames that a first part of the octets read settles. It is a first part of
-- what the octets read are decoded to.
pub record SettledByPart (words : DecodeWords) (octets : List ℕ) (left : Option (List ℕ)) (text : List ℕ) : Type 0 where
  pub read : List ℕ
  pub front : List ℕ
  pub whole : List ℕ
  pub taken : WereRead octets left read
  pub parts : Begins front read
  pub settled : IsSettled words front text
  pub decoded : IsDecoded words read whole
  pub part : Begins text whole

-- The text of decode is a first part of what the octets read are decoded to. Each frame that ends more samples before the
-- number of their samples than octets are read at once is whole in it.
pub record MostOfRead (words : DecodeWords) (octets : List ℕ) (left : Option (List ℕ)) (text : List ℕ) : Type 0 where
  pub read : List ℕ
  pub early : List ℕ
  pub whole : List ℕ
  pub taken : WereRead octets left read
  pub settled : IsPrintBelow (sample_count words read - most_at_once words) words read early
  pub decoded : IsDecoded words read whole
  pub has_early : Begins early text
  pub part : Begins text whole

-- ---- each command

-- the text is what a command writes of too many octets: one that writes while it reads, what the first 2^40 settle
abbrev pub MakesOfTooMany : Command → List ℕ → List ℕ → Type 0
MakesOfTooMany (Decode words) octets text = IsSettled words (take input_limit octets) text
MakesOfTooMany (Encode words) octets text = text ≡ encoded_so_far words (take input_limit octets)
MakesOfTooMany (Show words) octets text = IsShownOfMany words octets text
MakesOfTooMany (Loop words) octets text = text ≡ []
MakesOfTooMany (Bench options) octets text = text ≡ []
MakesOfTooMany (Serve options) octets text = ⊥
MakesOfTooMany (Record options) octets text = ⊥
MakesOfTooMany (Call options) octets text = ⊥
MakesOfTooMany (Help topic) octets text = text ≡ []
MakesOfTooMany Version octets text = text ≡ []

-- the text is what a command writes of octets before it refuses them
pub record MakesBefore (command : Command) (octets text : List ℕ) : Type 0 where
  pub part : MakesPart command octets text
  pub too_many : input_limit < length octets → MakesOfTooMany command octets text
  pub up_to_fault : length octets ≤ input_limit → MakesUpToFault command octets text

-- a command refuses the octets, and has written this text before
abbrev pub IsRefused : Command → List ℕ → List ℕ → Type 0
IsRefused command octets text = (fault : InputFault) × (fault_of command octets ≡ Some fault)
    × MakesBefore command octets text

-- the text is what a command has written when its input fails
abbrev pub MakesAtReadFault : Command → List ℕ → Option (List ℕ) → List ℕ → Type 0
MakesAtReadFault (Decode words) octets left text = SettledByRead (Decode words) octets left text
MakesAtReadFault (Encode words) octets left text = SettledByRead (Encode words) octets left text
    ⊎ (WritesAtEnd (Encode words) × (text ≡ []))
MakesAtReadFault (Show words) octets left text = SettledByRead (Show words) octets left text
MakesAtReadFault (Loop words) octets left text = text ≡ []
MakesAtReadFault (Bench options) octets left text = text ≡ []
MakesAtReadFault (Serve options) octets left text = ⊥
MakesAtReadFault (Record options) octets left text = ⊥
MakesAtReadFault (Call options) octets left text = ⊥
MakesAtReadFault (Help topic) octets left text = text ≡ []
MakesAtReadFault Version octets left text = text ≡ []

-- the text is what a command has written when something was stray in what it sent to itself: loop its summary, bench
-- nothing
abbrev pub MakesAtStray : Command → List ℕ → List ℕ → Type 0
MakesAtStray (Decode words) octets text = ⊥
MakesAtStray (Encode words) octets text = ⊥
MakesAtStray (Show words) octets text = ⊥
MakesAtStray (Loop words) octets text = IsSummary words text
MakesAtStray (Bench options) octets text = text ≡ []
MakesAtStray (Serve options) octets text = ⊥
MakesAtStray (Record options) octets text = ⊥
MakesAtStray (Call options) octets text = ⊥
MakesAtStray (Help topic) octets text = ⊥
MakesAtStray Version octets text = ⊥

-- How much a first part has at least when memory runs out. It can also run out when a refusal is to be told.
abbrev pub HasAtMemory : Command → List ℕ → Option (List ℕ) → List ℕ → Type 0
HasAtMemory (Decode words) octets left text = SettledByPart words octets left text
    ⊎ IsRefused (Decode words) octets text
HasAtMemory (Encode words) octets left text =
    SettledByMost (Encode words) octets left text ⊎ (WritesAtEnd (Encode words)
    ⊎ IsRefused (Encode words) octets text)
HasAtMemory (Show words) octets left text = SettledByMost (Show words) octets left text
    ⊎ IsRefused (Show words) octets text
HasAtMemory (Loop words) octets left text = ⊤
HasAtMemory (Bench options) octets left text = ⊤
HasAtMemory (Serve options) octets left text = ⊥
HasAtMemory (Record options) octets left text = ⊥
HasAtMemory (Call options) octets left text = ⊥
HasAtMemory (Help topic) octets left text = ⊤
HasAtMemory Version octets left text = ⊤

-- How much a first part has at least when the output fails. The report can also fail when a refusal is to be told.
abbrev pub HasAtWriteFault : Command → List ℕ → Option (List ℕ) → List ℕ → Type 0
HasAtWriteFault (Decode words) octets left text = MostOfRead words octets left text
    ⊎ IsRefused (Decode words) octets text
HasAtWriteFault (Encode words) octets left text =
    MostOfLines (Encode words) octets left text ⊎ (WritesAtEnd (Encode words)
    ⊎ IsRefused (Encode words) octets text)
HasAtWriteFault (Show words) octets left text = MostOfLines (Show words) octets left text
    ⊎ IsRefused (Show words) octets text
HasAtWriteFault (Loop words) octets left text = ⊤
HasAtWriteFault (Bench options) octets left text = ⊤
HasAtWriteFault (Serve options) octets left text = ⊥
HasAtWriteFault (Record options) octets left text = ⊥
HasAtWriteFault (Call options) octets left text = ⊥
HasAtWriteFault (Help topic) octets left text = ⊤
HasAtWriteFault Version octets left text = ⊤
