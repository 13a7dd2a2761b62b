-- A piece of an input, taken line by line.
use Rattle.std.proofs.Common.{◌≡◌, ℕ, List, [], ◌++◌, length, take, drop, append_assoc, Option, Some, None, sym}
use Rattle.std.proofs.Common.{subst, ap, ◌∙◌, arith}
use Rattle.std.specs.Option.{option_to_list}
use Rattle.std.proofs.lemmas.List.{append-nil, nil_from_length, take-append-drop, take_all}
use Rattle.ax25_frames.specs.declared.frame.Modulus.{Modulus}
use Rattle.tnc_forms.specs.declared.fault.InputFault.{InputFault}
use Rattle.tnc_forms.specs.Faults.{hex_fault}
use Rattle.tnc_forms.specs.HeldLine.{HeldLine, StandsFor}
use Rattle.tnc_forms.specs.HexFrames.{frames_in_lines}
use Rattle.tnc_forms.specs.LinesSoFar.{fault_so_far, frames_so_far}
use Rattle.tnc_forms.proofs.HeldLineLemmas.{fault_held}
use Rattle.tnc_engine.specs.Making.{Adds, Finishes, Takes}
use Rattle.tnc_engine.specs.declared.maker.Taken.TheVariants.{Front, Bad}
use Rattle.tnc_words.specs.declared.command.ShowWords.{ShowWords}
use Rattle.tnc_show.specs.declared.shower.Shower.{Shower}
use Rattle.tnc_show.specs.HeldShow.{HasShown, HasTaken, IsTextOfMore, TookFront}
use Rattle.tnc_show.specs.Making.{show_making}
use Rattle.tnc_show.specs.Shown.{IsTextOf}
use Rattle.tnc_show.proofs.LineLemmas.{texts_join}

module _ (modulus : Modulus) (was now : HeldLine) (octets rest text : List ℕ)
    (t : TookFront modulus was octets rest text now) (least : now.least ≡ 0) where
  -- some octets more, and the frame that ends with them
  pub took_more : (next : HeldLine) (count : ℕ) (frame : Option (List ℕ)) (more : List ℕ)
      → ((before : List ℕ) → StandsFor now before → StandsFor next (before ++ take count rest))
      → ((before : List ℕ) → StandsFor now before → frames_so_far now.least (before ++ take count rest)
      ≡ frames_so_far now.least before ++ option_to_list frame)
      → IsTextOf modulus (option_to_list frame) more → TookFront modulus was octets (drop count rest) (text ++ more)
      next
  took_more next count frame more stands known is = record {
    front = t.front ++ take count rest;
    parts = t.parts ∙ ap (λ o. t.front ++ o) (sym (take-append-drop count rest))
        ∙ sym (append_assoc t.front (take count rest) (drop count rest));
    each = λ before h.
        let e = t.each before h in
        let here : frames_so_far 0 ((before ++ t.front) ++ take count rest)
        ≡ frames_so_far 0 (before ++ t.front) ++ option_to_list frame =
        subst (λ n. frames_so_far n ((before ++ t.front) ++ take count rest)
        ≡ frames_so_far n (before ++ t.front) ++ option_to_list frame) least (known (before ++ t.front) e.0) in (
          subst (StandsFor next) (append_assoc before t.front (take count rest)) (stands (before ++ t.front) e.0),
          record {
            frames = e.1.frames ++ option_to_list frame;
            known = ap (frames_so_far 0) (sym (append_assoc before t.front (take count rest))) ∙ here
                ∙ ap (λ fs. fs ++ option_to_list frame) e.1.known
                ∙ append_assoc (frames_so_far 0 before) e.1.frames (option_to_list frame);
            is = (texts_join modulus).more e.1.frames (option_to_list frame) text more e.1.is is;
          },
        );
  }

  -- all of it
  pub took_all : length rest ≡ 0 → (before : List ℕ) → StandsFor was before
      → HasTaken modulus before octets text now None
  took_all none before h =
      let all : t.front ≡ octets = sym (t.parts ∙ ap (λ o. t.front ++ o) (nil_from_length rest none)
      ∙ append-nil t.front) in
      subst (λ o. StandsFor now (before ++ o) × IsTextOfMore modulus before o text) all (t.each before h)

  -- what follows has a bad line
  pub took_bad : (next : HeldLine) (fault : InputFault)
      → ((before : List ℕ) → StandsFor now before → (fault_so_far now.least (before ++ rest) ≡ Some fault)
      × (frames_so_far now.least (before ++ rest) ≡ frames_so_far now.least before))
      → (before : List ℕ) → StandsFor was before → HasTaken modulus before octets text next (Some fault)
  took_bad next fault bad before h =
      let e = t.each before h in
      let b : (fault_so_far 0 ((before ++ t.front) ++ rest) ≡ Some fault)
      × (frames_so_far 0 ((before ++ t.front) ++ rest) ≡ frames_so_far 0 (before ++ t.front)) =
      subst (λ n. (fault_so_far n ((before ++ t.front) ++ rest) ≡ Some fault)
      × (frames_so_far n ((before ++ t.front) ++ rest) ≡ frames_so_far n (before ++ t.front))) least
      (bad (before ++ t.front) e.0) in
      let whole : before ++ octets ≡ (before ++ t.front) ++ rest = ap (λ o. before ++ o) t.parts
      ∙ sym (append_assoc before t.front rest) in (
        ap (fault_so_far 0) whole ∙ b.0,
        record { frames = e.1.frames; known = ap (frames_so_far 0) whole ∙ b.1 ∙ e.1.known; is = e.1.is },
      )

-- ---- as the engine asks for it

-- nothing is wrong with what lines have taken
good_lines : (lines : HeldLine) (octets : List ℕ) → lines.least ≡ 0 → StandsFor lines octets
    → fault_so_far 0 octets ≡ None
good_lines lines octets least h = subst (λ n. fault_so_far n octets ≡ None) least (fault_held lines octets h)

-- the text is what the octets settle beside those before
adds_text : (words : ShowWords) (before octets text : List ℕ) → IsTextOfMore words.modulus before octets text
    → Adds (show_making words) before octets text
adds_text words before octets text more first settled =
    subst (λ fs. IsTextOf words.modulus fs (first ++ text)) (sym more.known)
    ((texts_join words.modulus).more (frames_so_far 0 before) more.frames first text settled more.is)

pub takes_all : (words : ShowWords) (now : Shower) (before octets text : List ℕ) → now.modulus ≡ words.modulus
    → now.lines.least ≡ 0 → HasTaken words.modulus before octets text now.lines None
    → Takes (show_making words) (HasShown now words) before octets text (Front (length octets))
takes_all words now before octets text modulus least (stands, more) =
    subst (λ o. HasShown now words (before ++ o) × (fault_so_far 0 (before ++ o) ≡ None)
    × Adds (show_making words) before o text) (sym (take_all (length octets) octets (omega arith))) (
      record { modulus = modulus; least = least; stands = stands },
      good_lines now.lines (before ++ octets) least stands,
      adds_text words before octets text more,
    )

pub takes_bad : (words : ShowWords) (now : Shower) (before octets text : List ℕ) (lines : HeldLine) (fault : InputFault)
    → HasTaken words.modulus before octets text lines (Some fault)
    → Takes (show_making words) (HasShown now words) before octets text (Bad fault)
takes_bad words now before octets text lines fault (bad, more) = (bad, adds_text words before octets text more)

-- ---- the end of the input

-- the frame that ends with it
pub finishes_frame : (words : ShowWords) (octets text more : List ℕ) (frame : Option (List ℕ)) → hex_fault 0 octets ≡ None
    → frames_in_lines 0 octets ≡ frames_so_far 0 octets ++ option_to_list frame
    → IsTextOf words.modulus (option_to_list frame) more → text ≡ more → Finishes (show_making words) octets text None
finishes_frame words octets text more frame good known is same = record {
  known = good;
  closes = λ first settled. subst (λ t. IsTextOf words.modulus (frames_in_lines 0 octets) (first ++ t)) (sym same)
      (subst (λ fs. IsTextOf words.modulus fs (first ++ more)) (sym known)
      ((texts_join words.modulus).more (frames_so_far 0 octets) (option_to_list frame) first more settled is));
}

-- a last line that is bad
pub finishes_bad : (words : ShowWords) (octets text : List ℕ) (fault : InputFault) → hex_fault 0 octets ≡ Some fault
    → frames_in_lines 0 octets ≡ frames_so_far 0 octets → text ≡ []
    → Finishes (show_making words) octets text (Some fault)
finishes_bad words octets text fault bad known empty = record {
  known = bad;
  closes = λ first settled. subst (λ t. IsTextOf words.modulus (frames_in_lines 0 octets) t)
      (sym (append-nil first) ∙ ap (λ t. first ++ t) (sym empty))
      (subst (λ fs. IsTextOf words.modulus fs first) (sym known) settled);
}
