-- Words that ask for help or for the version ask for no other command, and for one text.
use Rattle.tnc_words.proofs.Common.{◌≡◌, ◌∷◌, [], ◌&&◌, Bool, true, false, Option, Some, None, List, codes, refl, sym}
use Rattle.tnc_words.proofs.Common.{ap, ◌∙◌, inl, inr, bytes_eq, Text, Command, Help, Version, Topic, Asks, first_word}
use Rattle.tnc_words.proofs.Common.{IsHelp, IsVersion, decode_faults, encode_faults, show_faults, loop_faults}
use Rattle.tnc_words.proofs.Common.{bench_faults, serve_faults, record_faults, call_faults}
use Rattle.std.proofs.Common.{◌||◌, if◌then◌else◌, slice_get}
use Rattle.std.proofs.lemmas.Slice.Eq.{bytes_eq-Decides}
use Rattle.clap.specs.Faults.{walk_fault}
use Rattle.clap.specs.Words.{Kinds}
use Rattle.tnc_words.specs.declared.command.Command.TheVariants.{Decode as ToDecode, Encode as ToEncode, Show as ToShow}
use Rattle.tnc_words.specs.declared.command.Command.TheVariants.{Loop as ToLoop, Bench as ToBench, Serve as ToServe}
use Rattle.tnc_words.specs.declared.command.Command.TheVariants.{Record as ToRecord, Call as ToCall}
use Rattle.tnc_words.specs.declared.topic.Topic.TheVariants.{Program, Decode, Encode, Show, Loop, Bench, Serve, Record}
use Rattle.tnc_words.specs.declared.topic.Topic.TheVariants.{Call}

-- ---- what the words ask for, as a number

abbrev is_text : Option Text → Text → Bool
is_text None name = false
is_text (Some word) name = bytes_eq word name

abbrev is_none : Kinds → Bool
is_none [] = true
is_none (fault ∷ faults) = false

-- the words name a command that clap takes
abbrev takes : Text → Kinds → List Text → Bool
takes name faults words = is_text (first_word words) name && is_none faults

-- each of the eight
abbrev takes_decode : List Text → Bool
takes_decode words = takes (codes "decode") (decode_faults words) words

abbrev takes_encode : List Text → Bool
takes_encode words = takes (codes "encode") (encode_faults words) words

abbrev takes_show : List Text → Bool
takes_show words = takes (codes "show") (show_faults words) words

abbrev takes_loop : List Text → Bool
takes_loop words = takes (codes "loop") (loop_faults words) words

abbrev takes_bench : List Text → Bool
takes_bench words = takes (codes "bench") (bench_faults words) words

abbrev takes_serve : List Text → Bool
takes_serve words = takes (codes "serve") (serve_faults words) words

abbrev takes_record : List Text → Bool
takes_record words = takes (codes "record") (record_faults words) words

abbrev takes_call : List Text → Bool
takes_call words = takes (codes "call") (call_faults words) words

-- one of them
takes_some : List Text → Bool
takes_some words =
    takes_decode words
    || (takes_encode words || (takes_show words || (takes_loop words || (takes_bench words || (takes_serve words
    || (takes_record words || takes_call words))))))

help_takes_none : (words : List Text) (topic : Topic) → IsHelp words topic → takes_some words ≡ false
unfolding takes_some decode_faults encode_faults show_faults loop_faults bench_faults serve_faults record_faults
    call_faults walk_fault
help_takes_none words Program (inl h) = ap takes_some h
help_takes_none words Program (inr (inl h)) = ap takes_some h
help_takes_none words Program (inr (inr h)) = ap takes_some h
help_takes_none words Decode (inl h) = ap takes_some h
help_takes_none words Decode (inr h) = ap takes_some h
help_takes_none words Encode (inl h) = ap takes_some h
help_takes_none words Encode (inr h) = ap takes_some h
help_takes_none words Show (inl h) = ap takes_some h
help_takes_none words Show (inr h) = ap takes_some h
help_takes_none words Loop (inl h) = ap takes_some h
help_takes_none words Loop (inr h) = ap takes_some h
help_takes_none words Bench (inl h) = ap takes_some h
help_takes_none words Bench (inr h) = ap takes_some h
help_takes_none words Serve (inl h) = ap takes_some h
help_takes_none words Serve (inr h) = ap takes_some h
help_takes_none words Record (inl h) = ap takes_some h
help_takes_none words Record (inr h) = ap takes_some h
help_takes_none words Call (inl h) = ap takes_some h
help_takes_none words Call (inr h) = ap takes_some h

version_takes_none : (words : List Text) → IsVersion words → takes_some words ≡ false
unfolding takes_some
version_takes_none words (inl h) = ap takes_some h
version_takes_none words (inr h) = ap takes_some h

-- ---- a command that clap takes

or_left : (a b : Bool) → a ≡ true → (a || b) ≡ true
or_left a b h = ap (λ v. v || b) h

or_right : (a b : Bool) → b ≡ true → (a || b) ≡ true
or_right true b h = refl
or_right false b h = h

takes_named :
    (name : Text) (faults : Kinds) (words : List Text) → first_word words ≡ Some name → faults ≡ []
    → takes name faults words ≡ true
takes_named name faults words named none =
    ap (λ w. is_text w name && is_none faults) named
    ∙ ap (λ f. bytes_eq name name && is_none f) none
    ∙ ap (λ b. b && true) ((bytes_eq-Decides name name).1 refl)

-- words that ask for one of the eight are so taken
abbrev pub IsOther : Command → Type 0
IsOther (ToDecode words) = Unit {0}
IsOther (ToEncode words) = Unit {0}
IsOther (ToShow words) = Unit {0}
IsOther (ToLoop words) = Unit {0}
IsOther (ToBench words) = Unit {0}
IsOther (ToServe words) = Unit {0}
IsOther (ToRecord words) = Unit {0}
IsOther (ToCall words) = Unit {0}
IsOther (Help topic) = ⊥
IsOther Version = ⊥

other_is_taken : (words : List Text) (command : Command) → IsOther command → Asks words command
    → takes_some words ≡ true
unfolding takes_some
other_is_taken words (ToDecode decode) other h =
    or_left _ _ (takes_named _ _ words h.named h.taken)
other_is_taken words (ToEncode encode) other h =
    or_right (takes_decode words) _ (or_left _ _ (takes_named _ _ words h.named h.taken))
other_is_taken words (ToShow show) other h =
    or_right (takes_decode words) _ (or_right (takes_encode words) _
    (or_left _ _ (takes_named _ _ words h.named h.taken)))
other_is_taken words (ToLoop run) other h =
    or_right (takes_decode words) _ (or_right (takes_encode words) _ (or_right (takes_show words) _
    (or_left _ _ (takes_named _ _ words h.named h.taken))))
other_is_taken words (ToBench bench) other h =
    or_right (takes_decode words) _ (or_right (takes_encode words) _ (or_right (takes_show words) _
    (or_right (takes_loop words) _ (or_left _ _ (takes_named _ _ words h.named h.taken)))))
other_is_taken words (ToServe serve) other h =
    or_right (takes_decode words) _ (or_right (takes_encode words) _ (or_right (takes_show words) _
    (or_right (takes_loop words) _ (or_right (takes_bench words) _
    (or_left _ _ (takes_named _ _ words h.named h.taken))))))
other_is_taken words (ToRecord recorder) other h =
    or_right (takes_decode words) _ (or_right (takes_encode words) _ (or_right (takes_show words) _
    (or_right (takes_loop words) _ (or_right (takes_bench words) _ (or_right (takes_serve words) _
    (or_left _ _ (takes_named _ _ words h.named h.taken)))))))
other_is_taken words (ToCall call) other h =
    or_right (takes_decode words) _ (or_right (takes_encode words) _ (or_right (takes_show words) _
    (or_right (takes_loop words) _ (or_right (takes_bench words) _ (or_right (takes_serve words) _
    (or_right (takes_record words) _ (takes_named _ _ words h.named h.taken)))))))
other_is_taken words (Help topic) other h = absurd other
other_is_taken words Version other h = absurd other

true_is_not_false : true ≡ false → ⊥
true_is_not_false same = cc

pub help_alone :
    (words : List Text) (topic : Topic) (command : Command) → IsHelp words topic → IsOther command → Asks words command
    → ⊥
help_alone words topic command h other k =
    true_is_not_false (sym (other_is_taken words command other k) ∙ help_takes_none words topic h)

pub version_alone : (words : List Text) (command : Command) → IsVersion words → IsOther command → Asks words command → ⊥
version_alone words command h other k =
    true_is_not_false (sym (other_is_taken words command other k) ∙ version_takes_none words h)

-- ---- one text

-- one of the first two words is this name
abbrev names : List Text → Text → Bool
names words name = is_text (slice_get words 0) name || is_text (slice_get words 1) name

abbrev topic_in : List Text → Topic
topic_in words =
    if names words (codes "decode") then Decode else
    if names words (codes "encode") then Encode else
    if names words (codes "show") then Show else
    if names words (codes "loop") then Loop else
    if names words (codes "bench") then Bench else
    if names words (codes "serve") then Serve else
    if names words (codes "record") then Record else
    if names words (codes "call") then Call else Program

topic_is : (words : List Text) (topic : Topic) → IsHelp words topic → topic_in words ≡ topic
topic_is words Program (inl h) = ap topic_in h
topic_is words Program (inr (inl h)) = ap topic_in h
topic_is words Program (inr (inr h)) = ap topic_in h
topic_is words Decode (inl h) = ap topic_in h
topic_is words Decode (inr h) = ap topic_in h
topic_is words Encode (inl h) = ap topic_in h
topic_is words Encode (inr h) = ap topic_in h
topic_is words Show (inl h) = ap topic_in h
topic_is words Show (inr h) = ap topic_in h
topic_is words Loop (inl h) = ap topic_in h
topic_is words Loop (inr h) = ap topic_in h
topic_is words Bench (inl h) = ap topic_in h
topic_is words Bench (inr h) = ap topic_in h
topic_is words Serve (inl h) = ap topic_in h
topic_is words Serve (inr h) = ap topic_in h
topic_is words Record (inl h) = ap topic_in h
topic_is words Record (inr h) = ap topic_in h
topic_is words Call (inl h) = ap topic_in h
topic_is words Call (inr h) = ap topic_in h

pub one_topic : (words : List Text) (topic other : Topic) → IsHelp words topic → IsHelp words other → topic ≡ other
one_topic words topic other h k = sym (topic_is words topic h) ∙ topic_is words other k

abbrev asks_version : List Text → Bool
asks_version words = names words (codes "version") || names words (codes "--version")

help_asks_none : (words : List Text) (topic : Topic) → IsHelp words topic → asks_version words ≡ false
help_asks_none words Program (inl h) = ap asks_version h
help_asks_none words Program (inr (inl h)) = ap asks_version h
help_asks_none words Program (inr (inr h)) = ap asks_version h
help_asks_none words Decode (inl h) = ap asks_version h
help_asks_none words Decode (inr h) = ap asks_version h
help_asks_none words Encode (inl h) = ap asks_version h
help_asks_none words Encode (inr h) = ap asks_version h
help_asks_none words Show (inl h) = ap asks_version h
help_asks_none words Show (inr h) = ap asks_version h
help_asks_none words Loop (inl h) = ap asks_version h
help_asks_none words Loop (inr h) = ap asks_version h
help_asks_none words Bench (inl h) = ap asks_version h
help_asks_none words Bench (inr h) = ap asks_version h
help_asks_none words Serve (inl h) = ap asks_version h
help_asks_none words Serve (inr h) = ap asks_version h
help_asks_none words Record (inl h) = ap asks_version h
help_asks_none words Record (inr h) = ap asks_version h
help_asks_none words Call (inl h) = ap asks_version h
help_asks_none words Call (inr h) = ap asks_version h

version_is_asked : (words : List Text) → IsVersion words → asks_version words ≡ true
version_is_asked words (inl h) = ap asks_version h
version_is_asked words (inr h) = ap asks_version h

pub help_is_no_version : (words : List Text) (topic : Topic) → IsHelp words topic → IsVersion words → ⊥
help_is_no_version words topic h k =
    true_is_not_false (sym (version_is_asked words k) ∙ help_asks_none words topic h)
