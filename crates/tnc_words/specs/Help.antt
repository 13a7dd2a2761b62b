-- What the program tells of itself: which words ask for it, and the texts.
use Rattle.std.specs.Prelude.{◌≡◌, ◌⊎◌, List, [], ◌∷◌, Option, Some, None, codes}
use Rattle.clap.specs.Words.{Text}
use Rattle.tnc_words.specs.declared.topic.Topic.{Topic}
use Rattle.tnc_words.specs.declared.topic.Topic.TheVariants.{Program, Decode, Encode, Show, Loop, Bench, Serve, Record}
use Rattle.tnc_words.specs.declared.topic.Topic.TheVariants.{Call}
use Rattle.tnc_words.specs.declared.texts.TheConstants.{VERSION, PROGRAM, DECODE, ENCODE, SHOW, LOOP, BENCH, SERVE}
use Rattle.tnc_words.specs.declared.texts.TheConstants.{RECORD, CALL}

-- the command that a topic is about, by its name
abbrev pub name_of : Topic → Option Text
name_of Program = None
name_of Decode = Some (codes "decode")
name_of Encode = Some (codes "encode")
name_of Show = Some (codes "show")
name_of Loop = Some (codes "loop")
name_of Bench = Some (codes "bench")
name_of Serve = Some (codes "serve")
name_of Record = Some (codes "record")
name_of Call = Some (codes "call")

-- the words that ask for help about all commands, or about the one with a name
abbrev pub AskAbout : Option Text → List Text → Type 0
AskAbout None words =
    (words ≡ codes "help" ∷ []) ⊎ ((words ≡ codes "--help" ∷ []) ⊎ (words ≡ codes "-h" ∷ []))
AskAbout (Some name) words = (words ≡ codes "help" ∷ name ∷ []) ⊎ (words ≡ name ∷ codes "--help" ∷ [])

-- help about a topic
abbrev pub IsHelp : List Text → Topic → Type 0
IsHelp words topic = AskAbout (name_of topic) words

abbrev pub IsVersion : List Text → Type 0
IsVersion words = (words ≡ codes "version" ∷ []) ⊎ (words ≡ codes "--version" ∷ [])

-- what is told about a topic
unfoldable pub text_about : Topic → Text
text_about Program = PROGRAM.now
text_about Decode = DECODE.now
text_about Encode = ENCODE.now
text_about Show = SHOW.now
text_about Loop = LOOP.now
text_about Bench = BENCH.now
text_about Serve = SERVE.now
text_about Record = RECORD.now
text_about Call = CALL.now

unfoldable pub version_text : Text
version_text = VERSION.now
