-- What decode makes of the octets of its input, as the engine of the commands asks for it.
use Rattle.std.specs.Prelude.{◌≡◌, ℕ, List, ◌++◌}
use Rattle.tnc_engine.specs.Making.{Making}
use Rattle.tnc_words.specs.declared.command.DecodeWords.{DecodeWords}
use Rattle.tnc_decode.specs.Audio.{form_fault, stopping_fault}
use Rattle.tnc_decode.specs.Decoded.{IsDecoded}
use Rattle.tnc_decode.specs.Settled.{IsSettled}

abbrev pub decode_making : DecodeWords → Making
decode_making words = record {
  Settles = λ octets text. IsSettled words octets text;
  Makes = λ octets text. IsDecoded words octets text;
  Begins = λ octets part. (text rest : List ℕ) × IsDecoded words octets text × (text ≡ part ++ rest);
  fault_so_far = stopping_fault words;
  fault_of = form_fault words;
}
