-- Octets and transmissions, one draw after another.
use Rattle.tnc_loop.proofs.Common.{◌≡◌, Bool, true, false, ℕ, zero, suc, ◌+◌, ◌-◌, ◌%◌, ◌<◌, ◌≤◌, List, [], ◌∷◌, ◌++◌}
use Rattle.tnc_loop.proofs.Common.{length, map, refl, ap, sym, ◌∙◌, arith, append_assoc, append-nil, length-append, Lcg}
use Rattle.tnc_loop.proofs.Common.{pcg32, mod-lt, All, Transmission, LoopWords, loop_generator, following, word_at, words}
use Rattle.tnc_loop.proofs.Common.{length_drawn, octets_drawn, transmission_drawn, after_transmission, heard_of}
use Rattle.tnc_loop.proofs.Common.{after_heard, all_heard, heard_drawn, received_drawn, drawn}
use Rattle.std.proofs.lemmas.List.Elements.{recursion_from_All}
use Rattle.hdlc_framer.specs.Frames.{IsFrame}
use Rattle.clean_signal.specs.GoodTransmission.{IsTransmission}
use Rattle.clean_signal.specs.NearSignal.{IsReceived}
use Rattle.clean_signal.proofs.Law.{all_transmissions}

abbrev pub octet_of : ℕ → ℕ
octet_of word = word % 256

-- what f makes of words, one word after another
module _ {X : Type 0} (f : ℕ → X) where
  -- these were drawn of so many, and what is left to draw completes them
  pub record HasDrawn (initial now : Lcg) (count place : ℕ) (items : List X) : Type 0 where
    pub parts : items ++ map f (words (count - place) now) ≡ map f (words count initial)
    pub following : following (count - place) now ≡ following count initial
    pub counted : length items ≡ place

  pub has_drawn_none : (initial : Lcg) (count : ℕ) (items : List X) → items ≡ []
      → HasDrawn initial initial count 0 items
  has_drawn_none initial count items none =
      let all : count - 0 ≡ count = omega arith in
      record {
        parts = ap (λ os. os ++ map f (words (count - 0) initial)) none ∙ ap (λ n. map f (words n initial)) all;
        following = ap (λ n. following n initial) all;
        counted = ap length none;
      }

  pub has_drawn_more : (initial was now : Lcg) (count place word : ℕ) (items more : List X)
      → HasDrawn initial was count place items → place < count → (word, now) ≡ pcg32 was → more ≡ items ++ f word ∷ []
      → HasDrawn initial now count (place + 1) more
  has_drawn_more initial was now count place word items more h below drawn what =
      let left : ℕ = count - (place + 1) in
      let fewer : count - place ≡ suc left = omega arith in
      record {
        parts = ap (λ os. os ++ map f (words left now)) what
            ∙ append_assoc items (f word ∷ []) (map f (words left now))
            ∙ ap (λ (p : ℕ × Lcg). items ++ (f p.0 ∷ map f (words left p.1))) drawn
            ∙ ap (λ n. items ++ map f (words n was)) (sym fewer)
            ∙ h.parts;
        following = ap (λ (p : ℕ × Lcg). following left p.1) drawn ∙ ap (λ n. following n was) (sym fewer) ∙ h.following;
        counted =
            (let l : length more ≡ length (items ++ f word ∷ []) = ap length what in
            let m = length-append items (f word ∷ []) in
            let c = h.counted in
            omega arith);
      }

  -- all are drawn
  pub has_drawn_all : (initial now : Lcg) (count place : ℕ) (items : List X) → HasDrawn initial now count place items
      → place ≡ count
      → (items ≡ map f (words count initial)) × (length items ≡ count) × (now ≡ following count initial)
  has_drawn_all initial now count place items h end =
      let none : count - place ≡ 0 = omega arith in (
        sym (append-nil items) ∙ ap (λ n. items ++ map f (words n now)) (sym none) ∙ h.parts,
        h.counted ∙ end,
        ap (λ n. following n now) (sym none) ∙ h.following,
      )

-- ---- a transmission

abbrev made : ℕ → ℕ → ℕ → List ℕ → Transmission
made silence opening closing octets = record {
  silence = silence;
  opening = 2 + opening;
  closing = 1 + closing;
  frames = octets ∷ [];
}

module _ (g0 g1 g2 g3 g4 : Lcg) (length : ℕ) (first : g1 ≡ following 1 g0) (second : g2 ≡ following 1 g1)
    (third : g3 ≡ following 1 g2) (fourth : g4 ≡ following 1 g3)
    (count : length ≡ word_at 0 g3 % 986) where
  at2 : g2 ≡ following 2 g0
  at2 = second ∙ ap (λ g. (pcg32 g).1) first

  at3 : g3 ≡ following 3 g0
  at3 = third ∙ ap (λ g. (pcg32 g).1) at2

  at4 : g4 ≡ following 4 g0
  at4 = fourth ∙ ap (λ g. (pcg32 g).1) at3

  long : 15 + length ≡ length_drawn g0
  long = ap (λ n. 15 + n) (count ∙ ap (λ g. (pcg32 g).0 % 986) at3)

  -- four numbers and octets are a transmission
  pub transmission_is : (silence opening closing : ℕ) (octets : List ℕ) → silence ≡ word_at 0 g0 % 64
      → opening ≡ word_at 0 g1 % 4 → closing ≡ word_at 0 g2 % 3
      → octets ≡ map (λ word. word % 256) (words (15 + length) g4)
      → record { silence = silence; opening = 2 + opening; closing = 1 + closing; frames = octets ∷ [] }
      ≡ transmission_drawn g0
  unfolding transmission_drawn
  transmission_is silence opening closing octets s o c os =
      ap (λ n. made n opening closing octets) s
      ∙ ap (λ n. made (word_at 0 g0 % 64) n closing octets) (o ∙ ap (λ g. (pcg32 g).0 % 4) first)
      ∙ ap (λ n. made (word_at 0 g0 % 64) (word_at 1 g0 % 4) n octets) (c ∙ ap (λ g. (pcg32 g).0 % 3) at2)
      ∙ ap (λ f. made (word_at 0 g0 % 64) (word_at 1 g0 % 4) (word_at 2 g0 % 3) f)
      (os ∙ ap (λ n. map octet_of (words n g4)) long ∙ ap (λ g. map octet_of (words (length_drawn g0) g)) at4)

  -- and the generator is after it
  pub following_is : (now : Lcg) → now ≡ following (15 + length) g4 → now ≡ after_transmission g0
  unfolding after_transmission
  following_is now is = is ∙ ap (λ n. following n g4) long ∙ ap (λ g. following (length_drawn g0) g) at4

-- ---- all that is drawn can be sent

pub length-words : (count : ℕ) (g : Lcg) → length (words count g) ≡ count
length-words zero g = refl
length-words (suc count) g = ap suc (length-words count (pcg32 g).1)

length-octets : (words : List ℕ) → length (map octet_of words) ≡ length words
length-octets [] = refl
length-octets (word ∷ words) = ap suc (length-octets words)

octets_fit : (words : List ℕ) → All (λ octet. octet < 256) (map octet_of words)
octets_fit [] k d l = absurd (omega arith)
octets_fit (word ∷ words) zero d l = mod-lt word (omega arith)
octets_fit (word ∷ words) (suc k) d l = octets_fit words k d (omega arith)

pub length-octets_drawn : (g : Lcg) → length (octets_drawn g) ≡ length_drawn g
length-octets_drawn g = length-octets (words (length_drawn g) (following 4 g)) ∙ length-words (length_drawn g) (following 4 g)

pub length_drawn-most : (g : Lcg) → length_drawn g ≤ 1000
length_drawn-most g = let below : word_at 3 g % 986 < 986 = mod-lt (word_at 3 g) (omega arith) in omega arith

frame_drawn : (g : Lcg) → IsFrame (octets_drawn g)
frame_drawn g =
    let size : length (octets_drawn g) ≡ length_drawn g = length-octets_drawn g in
    let most : length_drawn g ≤ 1000 = length_drawn-most g in
    record { octets_fit = octets_fit (words (length_drawn g) (following 4 g)); least = omega arith; most = omega arith }

one_frame : (octets : List ℕ) → IsFrame octets → All IsFrame (octets ∷ [])
one_frame octets is zero d l = is
one_frame octets is (suc k) d l = absurd (omega arith)

is_transmission : (g : Lcg) → IsTransmission (transmission_drawn g)
unfolding transmission_drawn
is_transmission g = record {
  frames = one_frame (octets_drawn g) (frame_drawn g);
  opening = omega arith;
  closing = omega arith;
}

-- transmissions that are received at phases and levels of the law
is_received : (rough : Bool) (g h : Lcg) → IsReceived (heard_of rough (transmission_drawn g) h).received
unfolding heard_of
is_received true g h =
    let phase : word_at 0 h % 6 < 6 = mod-lt (word_at 0 h) (omega arith) in
    let level : word_at 1 h % 29000 < 29000 = mod-lt (word_at 1 h) (omega arith) in
    record {
      transmission = is_transmission g;
      phase = record { below = omega arith; sixth = omega arith };
      least = omega arith;
      most = omega arith;
    }
is_received false g h = record {
  transmission = is_transmission g;
  phase = record { below = omega arith; sixth = omega arith };
  least = omega arith;
  most = omega arith;
}

all_received : (rough : Bool) (count : ℕ) (g : Lcg) → All IsReceived (map (λ h. h.received) (all_heard rough count g))
all_received rough zero g k d l = absurd (omega arith)
all_received rough (suc count) g zero d l = is_received rough g (after_transmission g)
all_received rough (suc count) g (suc k) d l =
    all_received rough count (after_heard rough (transmission_drawn g) (after_transmission g)) k d (omega arith)

pub received_good : (words : LoopWords) → All IsReceived (received_drawn words)
unfolding received_drawn heard_drawn
received_good words = all_received words.rough words.frames (loop_generator words.seed)

pub drawn_good : (words : LoopWords) → All IsTransmission (drawn words)
unfolding drawn
drawn_good words =
    all_transmissions (received_drawn words)
    (recursion_from_All IsReceived (received_drawn words) (received_good words))
