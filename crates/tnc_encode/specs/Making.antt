-- What encode makes of the octets of its input if each frame is sent as it comes, as the engine of the commands asks for
-- it.
use Rattle.std.specs.Prelude.{◌≡◌, ℕ, false, List, ◌++◌}
use Rattle.tnc_engine.specs.Making.{Making}
use Rattle.tnc_words.specs.declared.command.AudioForm.TheVariants.{Raw}
use Rattle.tnc_words.specs.declared.command.EncodeWords.{EncodeWords}
use Rattle.tnc_encode.specs.Encoded.{encoded, encoded_so_far}
use Rattle.tnc_encode.specs.Frames.{form_fault, form_fault_so_far}

abbrev pub encode_making : EncodeWords → Making
encode_making words = record {
  Settles = λ octets text. text ≡ encoded_so_far words octets;
  Makes = λ octets text. text ≡ encoded words octets;
  Begins = λ octets part. (rest : List ℕ) × (encoded words octets ≡ part ++ rest);
  fault_so_far = form_fault_so_far words.frames;
  fault_of = form_fault words.frames;
}

-- the same words, but each frame is a transmission of its own, and raw PCM: then it is sent as it comes
abbrev pub sent_apart : EncodeWords → EncodeWords
sent_apart words = record {
  frames = words.frames;
  audio = Raw;
  join = false;
  opening = words.opening;
  closing = words.closing;
  silence = words.silence;
  level = words.level;
  modem = words.modem;
}
