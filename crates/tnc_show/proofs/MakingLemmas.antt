-- What show settles stays so.
use Rattle.std.proofs.Common.{[], sym, subst}
use Rattle.std.proofs.lemmas.List.{append-nil}
use Rattle.tnc_engine.specs.Making.{IsMaking}
use Rattle.tnc_forms.specs.HexFrames.{frames_in_lines}
use Rattle.tnc_forms.specs.LinesSoFar.{frames_so_far}
use Rattle.tnc_forms.specs.Form.{lines_form}
use Rattle.tnc_forms.proofs.LinesForm.{first_frames, lines_are_form}
use Rattle.tnc_words.specs.declared.command.ShowWords.{ShowWords}
use Rattle.tnc_show.specs.Making.{show_making}
use Rattle.tnc_show.specs.Shown.{IsShownSoFar, IsTextOf}
use Rattle.tnc_show.proofs.LineLemmas.{texts_join}

text_of_none : (words : ShowWords) → IsTextOf words.modulus (frames_so_far 0 []) []
text_of_none words = subst (λ fs. IsTextOf words.modulus fs []) (sym (lines_are_form 0).none)
    (texts_join words.modulus).none

pub show_is_making : (words : ShowWords) → IsMaking (show_making words)
show_is_making words = record {
  none = text_of_none words;
  good = (lines_are_form 0).good;
  first = λ octets more text part rest good settled parts.
      let frames = first_frames (lines_form 0) (lines_are_form 0) octets more in
      record {
        frames = frames_so_far 0 octets;
        others = frames.0;
        parts = frames.1;
        text = text;
        is = settled;
        rest = rest;
        begins = parts;
      };
  last = λ octets text part rest made parts. record {
    frames = frames_in_lines 0 octets;
    others = [];
    parts = sym (append-nil (frames_in_lines 0 octets));
    text = text;
    is = made;
    rest = rest;
    begins = parts;
  };
  bad = λ octets more fault is.
      let known = (lines_are_form 0).bad octets more fault is in
      (known.0, known.1);
  still = λ octets more text fault is settled.
      let known = (lines_are_form 0).bad octets more fault is in (
        subst (λ fs. IsTextOf words.modulus fs text) (sym known.2) settled,
        subst (λ fs. IsTextOf words.modulus fs text) (sym known.3) settled,
      );
  not_long = (lines_are_form 0).not_long;
  not_long_whole = (lines_are_form 0).not_long_whole;
}

-- of no octet
pub shown_none : (words : ShowWords) → IsShownSoFar words [] []
shown_none words = record { good = (lines_are_form 0).good; is = text_of_none words }
