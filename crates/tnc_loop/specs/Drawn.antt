-- The transmissions that loop draws: each has one frame of 15 to 1000 octets, after at most 63 silent samples, between
-- 2 to 5 flags and 1 to 3. And their samples: those of a clean signal, or rough ones.
use Rattle.std.specs.Prelude.{ℕ, zero, suc, ◌+◌, ◌%◌, ℤ, Bool, List, [], ◌∷◌, map, if◌then◌else◌}
use Rattle.std.specs.List.{flat_map}
use Rattle.rand_pcg.specs.Lcg.{Lcg}
use Rattle.hdlc_framer.specs.FrameLength.{least_frame_length}
use Rattle.afsk_modulator.specs.Signal.{Transmission, samples_of}
use Rattle.clean_signal.specs.NearSignal.{Received, transmissions_of}
use Rattle.tnc_words.specs.declared.command.LoopWords.{LoopWords}
use Rattle.tnc_loop.specs.Words.{loop_generator, following, word_at}
use Rattle.channel_access.specs.Words.{words}
use Rattle.tnc_loop.specs.Rough.{rough_received, rough_samples, after_rough}

-- how many octets the next frame has
abbrev pub length_drawn : Lcg → ℕ
length_drawn generator = least_frame_length + word_at 3 generator % 986

-- its octets, each the low eight bits of a word
abbrev pub octets_drawn : Lcg → List ℕ
octets_drawn generator = map (λ word. word % 256) (words (length_drawn generator) (following 4 generator))

-- the next transmission: its silence, its flags and the length of its frame take a word each, in this order
unfoldable pub transmission_drawn : Lcg → Transmission
transmission_drawn generator = record {
  silence = word_at 0 generator % 64;
  opening = 2 + word_at 1 generator % 4;
  closing = 1 + word_at 2 generator % 3;
  frames = octets_drawn generator ∷ [];
}

-- the generator after it
unfoldable pub after_transmission : Lcg → Lcg
after_transmission generator = following (length_drawn generator) (following 4 generator)

-- a transmission as it is received, with the samples that are heard of it
pub record Heard : Type 0 where
  pub received : Received
  pub samples : List ℤ

-- With `rough` they are drawn next, and else they are those of a clean signal, from phase 0 on at the full level.
unfoldable pub heard_of : Bool → Transmission → Lcg → Heard
heard_of rough t generator =
    if rough then record { received = rough_received t generator; samples = rough_samples t generator }
    else record {
      received = record { transmission = t; phase = 0; level = 10000 };
      samples = samples_of t;
    }

-- the generator after them
unfoldable pub after_heard : Bool → Transmission → Lcg → Lcg
after_heard rough t generator = if rough then after_rough t generator else generator

-- so many transmissions, one after another
abbrev pub all_heard : Bool → ℕ → Lcg → List Heard
all_heard rough zero generator = []
all_heard rough (suc count) generator =
    heard_of rough (transmission_drawn generator) (after_transmission generator)
    ∷ all_heard rough count (after_heard rough (transmission_drawn generator) (after_transmission generator))

-- as many as the words ask for, from their seed
unfoldable pub heard_drawn : LoopWords → List Heard
heard_drawn words = all_heard words.rough words.frames (loop_generator words.seed)

-- the transmissions of words, as they are received, without phases and levels, and all their samples in order
unfoldable pub received_drawn : LoopWords → List Received
received_drawn words = map (λ heard. heard.received) (heard_drawn words)

unfoldable pub drawn : LoopWords → List Transmission
drawn words = transmissions_of (received_drawn words)

unfoldable pub samples_drawn : LoopWords → List ℤ
samples_drawn words = flat_map (λ heard. heard.samples) (heard_drawn words)
