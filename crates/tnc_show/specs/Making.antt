-- What show makes of the octets of its input, as the engine of the commands asks for it.
use Rattle.tnc_engine.specs.Making.{Making}
use Rattle.tnc_forms.specs.Faults.{hex_fault}
use Rattle.tnc_forms.specs.LinesSoFar.{fault_so_far, frames_so_far}
use Rattle.tnc_words.specs.declared.command.ShowWords.{ShowWords}
use Rattle.tnc_show.specs.Shown.{IsShown, IsShownPart, IsTextOf}

abbrev pub show_making : ShowWords → Making
show_making words = record {
  Settles = λ octets text. IsTextOf words.modulus (frames_so_far 0 octets) text;
  Makes = λ octets text. IsShown words octets text;
  Begins = λ octets part. IsShownPart words octets part;
  fault_so_far = fault_so_far 0;
  fault_of = hex_fault 0;
}
