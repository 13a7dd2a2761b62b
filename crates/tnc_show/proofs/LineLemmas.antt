-- Octets have one line, and frames one text.
use Rattle.std.proofs.Common.{◌≡◌, ℕ, List, [], ◌∷◌, ◌++◌, refl, sym, ap, inl, inr, ◌∙◌}
use Rattle.std.proofs.lemmas.Grind.{flat_map-append}
use Rattle.std.proofs.lemmas.List.{append-nil}
use Rattle.std.proofs.lemmas.List.Concat.{flat_map-cons}
use Rattle.std.specs.Prelude.{Ok, Err}
use Rattle.std.specs.List.{AllZip, flat_map}
use Rattle.ax25_frames.specs.declared.frame.Modulus.{Modulus}
use Rattle.ax25_frames.specs.declared.frame.Frame.{Frame}
use Rattle.ax25_frames.specs.declared.fault.FrameFault.{FrameFault}
use Rattle.ax25_frames.specs.declared.fault.FrameFault.TheVariants.{Address, NoControl, NoPid, UnknownControl}
use Rattle.ax25_frames.specs.declared.fault.FrameFault.TheVariants.{InfoTooLong, StrayInfo, Memory}
use Rattle.ax25_frames.specs.FrameOctets.{IsFrame}
use Rattle.ax25_frames.specs.FrameFault.{FollowsPath, ShowsFrameFault}
use Rattle.ax25_frames.specs.FrameText.{text_of_frame, text_of_frame_fault}
use Rattle.ax25_frames.proofs.FrameLemmas.{Reading, IsOneFrame, IsOneFrame-address, IsOneFrame-kind, IsOneFrame-fault}
use Rattle.ax25_frames.proofs.Outcomes.{IsOneKind-outcome}
use Rattle.tnc_show.specs.Shown.{IsLineOf, IsTextOf, ended}

-- a frame is the only reading of its octets
one_frame : (modulus : Modulus) (octets : List ℕ) (frame : Frame) → IsFrame frame modulus octets
    → IsOneFrame modulus octets (Ok frame)
one_frame modulus octets frame h = IsOneFrame-kind modulus octets frame.path h.len frame.kind h.path
    (IsOneKind-outcome modulus _ h.len (Ok frame.kind) (h.kind, h.body))

-- and so is a fault after the address
one_after : (modulus : Modulus) (octets : List ℕ) (fault : FrameFault) → FollowsPath modulus octets fault
    → IsOneFrame modulus octets (Err fault)
one_after modulus octets fault h = IsOneFrame-fault modulus octets h.path h.len fault h.begins
    (IsOneKind-outcome modulus _ h.len (Err fault) h.shows)

-- and any fault
one_fault : (modulus : Modulus) (octets : List ℕ) (fault : FrameFault) → ShowsFrameFault modulus octets fault
    → IsOneFrame modulus octets (Err fault)
one_fault modulus octets (Address fault) h = IsOneFrame-address modulus octets fault h
one_fault modulus octets (NoControl at) h = one_after modulus octets (NoControl at) h
one_fault modulus octets (NoPid at) h = one_after modulus octets (NoPid at) h
one_fault modulus octets (UnknownControl octet) h = one_after modulus octets (UnknownControl octet) h
one_fault modulus octets (InfoTooLong len) h = one_after modulus octets (InfoTooLong len) h
one_fault modulus octets (StrayInfo at) h = one_after modulus octets (StrayInfo at) h
one_fault modulus octets Memory h = one_after modulus octets Memory h

same_frame : (a b : Frame) → ◌≡◌ {A = Reading} (Ok a) (Ok b) → a ≡ b
same_frame a b e = cc

same_fault : (a b : FrameFault) → ◌≡◌ {A = Reading} (Err a) (Err b) → a ≡ b
same_fault a b e = cc

no_ok_is_err : (frame : Frame) (fault : FrameFault) → ◌≡◌ {A = Reading} (Ok frame) (Err fault) → ⊥
no_ok_is_err frame fault e = cc

-- octets have one line
pub one_line : (modulus : Modulus) (octets line other : List ℕ) → IsLineOf modulus octets line
    → IsLineOf modulus octets other → line ≡ other
one_line modulus octets line other (inl h) (inl g) = elim ((one_frame modulus octets h.0 h.1).each_frame g.0 g.1) [
  | inl e ↦ h.2 ∙ ap text_of_frame (same_frame h.0 g.0 e) ∙ sym g.2
  | inr e ↦ absurd (no_ok_is_err h.0 Memory e)
]
one_line modulus octets line other (inl h) (inr g) =
    absurd (no_ok_is_err h.0 g.0 ((one_frame modulus octets h.0 h.1).each_fault g.0 g.1))
one_line modulus octets line other (inr h) (inl g) =
    absurd (no_ok_is_err g.0 h.0 ((one_frame modulus octets g.0 g.1).each_fault h.0 h.1))
one_line modulus octets line other (inr h) (inr g) =
    h.2 ∙ ap text_of_frame_fault (same_fault h.0 g.0 ((one_fault modulus octets h.0 h.1).each_fault g.0 g.1)) ∙ sym g.2

-- frames have one list of lines
same_lines : (modulus : Modulus) (frames lines others : List (List ℕ)) → AllZip (IsLineOf modulus) frames lines
    → AllZip (IsLineOf modulus) frames others → lines ≡ others
same_lines modulus [] [] [] h g = refl
same_lines modulus [] (line ∷ lines) others h g = absurd h
same_lines modulus [] [] (other ∷ others) h g = absurd g
same_lines modulus (octets ∷ frames) [] others h g = absurd h
same_lines modulus (octets ∷ frames) (line ∷ lines) [] h g = absurd g
same_lines modulus (octets ∷ frames) (line ∷ lines) (other ∷ others) h g =
    ap (λ l. l ∷ lines) (one_line modulus octets line other h.0 g.0)
    ∙ ap (λ ls. other ∷ ls) (same_lines modulus frames lines others h.1 g.1)

-- and one text
pub same_text : (modulus : Modulus) (frames : List (List ℕ)) (text other : List ℕ) → IsTextOf modulus frames text
    → IsTextOf modulus frames other → text ≡ other
same_text modulus frames text other h g = h.is ∙ ap (flat_map ended)
    (same_lines modulus frames h.lines g.lines h.each g.each) ∙ sym g.is

-- the line of one frame
pub text_of_one : (modulus : Modulus) (octets line : List ℕ) → IsLineOf modulus octets line
    → IsTextOf modulus (octets ∷ []) (ended line)
text_of_one modulus octets line h = record {
  lines = line ∷ [];
  each = (h, tt);
  is = sym (append-nil (ended line)) ∙ sym (flat_map-cons ended line []);
}

zipped_both : {A B : Type 0} (R : A → B → Type 0) (xs others : List A) (ys more : List B) → AllZip R xs ys
    → AllZip R others more → AllZip R (xs ++ others) (ys ++ more)
zipped_both R [] others [] more h g = g
zipped_both R [] others (y ∷ ys) more h g = absurd h
zipped_both R (x ∷ xs) others [] more h g = absurd h
zipped_both R (x ∷ xs) others (y ∷ ys) more h g = (h.0, zipped_both R xs others ys more h.1 g)

-- texts of frames make a text of all of them
pub record IsJoined (Text : List (List ℕ) → List ℕ → Type 0) : Type 0 where
  pub none : Text [] []
  pub more : (frames others : List (List ℕ)) (text next : List ℕ) → Text frames text → Text others next
      → Text (frames ++ others) (text ++ next)

pub texts_join : (modulus : Modulus) → IsJoined (IsTextOf modulus)
texts_join modulus = record {
  none = record { lines = []; each = tt; is = refl };
  more = λ frames others text next h g. record {
    lines = h.lines ++ g.lines;
    each = zipped_both (IsLineOf modulus) frames others h.lines g.lines h.each g.each;
    is = ap (λ t. t ++ next) h.is ∙ ap (λ t. flat_map ended h.lines ++ t) g.is
        ∙ sym (flat_map-append ended h.lines g.lines);
  };
}
