-- Transmissions that are sent, one more at a time.
use Rattle.tnc_loop.proofs.Common.{◌≡◌, ℕ, ℤ, suc, ◌+◌, ◌-◌, ◌*◌, ◌<◌, ◌≤◌, ◌^◌, List, [], ◌∷◌, ◌++◌, length, zero}
use Rattle.tnc_loop.proofs.Common.{refl, ap, sym, subst, ◌∙◌, arith, append_assoc, append-nil, length-append, flat_map}
use Rattle.tnc_loop.proofs.Common.{Lcg, Transmission, samples_of, signal, TrueEnd, sample_count, Received, true_ends}
use Rattle.tnc_loop.proofs.Common.{length-samples_of, LoopWords, Sent, loop_generator, Heard, transmission_drawn}
use Rattle.tnc_loop.proofs.Common.{after_transmission, heard_of, after_heard, all_heard, heard_drawn, drawn_as}
use Rattle.tnc_loop.proofs.Common.{sent_of, HasSent}
use Rattle.std.proofs.Common.{inl, inr}
use Rattle.std.proofs.lemmas.List.Concat.{flat_map-append}
use Rattle.afsk_modulator.specs.Transmission.{IsFirstBadLength}
use Rattle.clean_signal.specs.TrueEnds.{end_of, ends_of}
use Rattle.clean_signal.proofs.EndLemmas.{true_ends-push, single_end}
use Rattle.clean_signal.proofs.WaveLemmas.{signal-push}
use Rattle.tnc_loop.specs.declared.drawing.Drawn.{Drawn}
use Rattle.tnc_loop.specs.Held.{IsGood}
use Rattle.tnc_loop.proofs.HeardLemmas.{transmission-heard}
use Rattle.tnc_loop.proofs.LengthLemmas.{signal_fits}

samples-push : (heard : List Heard) (one : Heard) → flat_map (λ h. h.samples) (heard ++ one ∷ [])
    ≡ flat_map (λ h. h.samples) heard ++ one.samples
samples-push heard one =
    flat_map-append (λ h. h.samples) heard (one ∷ [])
    ∙ ap (λ xs. flat_map (λ h. h.samples) heard ++ xs) (append-nil one.samples)

sent_of-push : (heard : List Heard) (one : Heard) → sent_of (heard ++ one ∷ [])
    ≡ sent_of heard ++ one.received.transmission ∷ []
sent_of-push [] one = refl
sent_of-push (h ∷ heard) one = ap (λ ts. h.received.transmission ∷ ts) (sent_of-push heard one)

length-signal-push : (ts : List Transmission) (t : Transmission)
    → length (signal (ts ++ t ∷ [])) ≡ length (signal ts) + sample_count t
length-signal-push ts t = ap length (signal-push ts t) ∙ length-append (signal ts) (samples_of t)
    ∙ ap (λ n. length (signal ts) + n) (length-samples_of t)

-- a frame that is drawn has no bad length
pub no_bad_length : (octets : List ℕ) (frames : List (List ℕ)) (index : ℕ) → frames ≡ octets ∷ [] → 15 ≤ length octets
    → length octets ≤ 1000
    → IsFirstBadLength frames index → ⊥
no_bad_length octets frames index is least most first = go index (subst (λ f. IsFirstBadLength f index) is first)
  where
    go : (index : ℕ) → IsFirstBadLength (octets ∷ []) index → ⊥
    go zero one = elim one.bad [ inl short ↦ omega arith | inr long ↦ omega arith ]
    go (suc k) one = let within = one.within in omega arith

-- ---- one transmission more

module _ (was now : Sent) (d : Drawn) (good : IsGood d) (heard : List ℤ)
    (size : length heard ≡ sample_count (drawn_as d))
    (samples : now.samples.items ≡ was.samples.items ++ heard) where
  count : length now.samples.items ≡ length was.samples.items + sample_count (drawn_as d)
  count = ap length samples ∙ length-append was.samples.items heard ∙ ap (λ n. length was.samples.items + n) size

  whole : end_of (length was.samples.items + d.silence + 64 * d.opening) d.octets + 64 * (d.closing - 1)
      ≡ length now.samples.items
  whole = single_end d.silence d.opening d.closing (length was.samples.items) d.octets good.closing ∙ sym count

  -- the closing flags are within
  pub flags_fit : 64 * (d.closing - 1) ≤ length now.samples.items
  flags_fit = let all = whole in omega arith

  pub sent_more : (end : ℕ) → end ≡ length now.samples.items - 64 * (d.closing - 1)
      → now.ends.items ≡ was.ends.items ++ record { end = end; octets = d.octets } ∷ []
      → (before : List Heard) (received : Received) → received.transmission ≡ drawn_as d → HasSent was before
      → HasSent now (before ++ record { received = received; samples = heard } ∷ [])
  sent_more end is ends before received this h =
      let true_end : ℕ = end_of (length was.samples.items + d.silence + 64 * d.opening) d.octets in
      let same : end ≡ true_end = (let all = whole in omega arith) in
      let one : Heard = record { received = received; samples = heard } in
      let sent : sent_of (before ++ one ∷ []) ≡ sent_of before ++ drawn_as d ∷ [] = sent_of-push before one
      ∙ ap (λ t. sent_of before ++ t ∷ []) this in
      record {
        samples = samples ∙ ap (λ x. x ++ heard) h.samples ∙ sym (samples-push before one);
        count = count ∙ ap (λ n. n + sample_count (drawn_as d)) h.count
            ∙ sym (length-signal-push (sent_of before) (drawn_as d))
            ∙ ap (λ ts. length (signal ts)) (sym sent);
        ends = ends ∙ ap (λ e. was.ends.items ++ end_at e ∷ []) same
            ∙ ap (λ es. es ++ end_at true_end ∷ []) h.ends
            ∙ ap (λ n. true_ends (sent_of before) ++ ends_of n (drawn_as d)) h.count
            ∙ sym (true_ends-push (sent_of before) (drawn_as d))
            ∙ ap true_ends (sym sent);
      }
    where
      end_at : ℕ → TrueEnd
      end_at e = record { end = e; octets = d.octets }

-- ---- all of them

-- so many transmissions were drawn and sent, and what is left to draw completes them
pub record HasSentSome (words : LoopWords) (place : ℕ) (generator : Lcg) (sent : Sent) : Type 0 where
  pub done : List Heard
  pub has : HasSent sent done
  pub parts : done ++ all_heard words.rough (words.frames - place) generator ≡ heard_drawn words

pub sent_none : (words : LoopWords) (generator : Lcg) (sent : Sent) → generator ≡ loop_generator words.seed
    → sent.samples.items ≡ [] → sent.ends.items ≡ []
    → HasSentSome words 0 generator sent
unfolding signal heard_drawn
sent_none words generator sent is samples ends = record {
  done = [];
  has = record { samples = samples; count = ap length samples; ends = ends };
  parts =
      (let all : words.frames - 0 ≡ words.frames = omega arith in
      ap (λ n. all_heard words.rough n generator) all ∙ ap (all_heard words.rough words.frames) is);
}

pub sent_next : (words : LoopWords) (place : ℕ) (was drew now : Lcg) (before after : Sent) (d : Drawn)
    (samples : List ℤ)
    → HasSentSome words place was before → place < words.frames
    → drawn_as d ≡ transmission_drawn was → drew ≡ after_transmission was
    → samples ≡ (heard_of words.rough (drawn_as d) drew).samples → now ≡ after_heard words.rough (drawn_as d) drew
    → ((heard : List Heard) (received : Received) → received.transmission ≡ drawn_as d → HasSent before heard
    → HasSent after (heard ++ record { received = received; samples = samples } ∷ []))
    → HasSentSome words (place + 1) now after
sent_next words place was drew now before after d samples h below is following are next more =
    let left : ℕ = words.frames - (place + 1) in
    let fewer : words.frames - place ≡ suc left = omega arith in
    let one : Heard = heard_of words.rough (drawn_as d) drew in
    let same : record { received = one.received; samples = samples } ≡ one =
    ap (λ xs. record { received = one.received; samples = xs }) are in
    record {
      done = h.done ++ one ∷ [];
      has = subst (λ x. HasSent after (h.done ++ x ∷ [])) same
          (more h.done one.received (transmission-heard words.rough (drawn_as d) drew) h.has);
      parts = append_assoc h.done (one ∷ []) (all_heard words.rough left now)
          ∙ (λ i. h.done ++ (heard_of words.rough (is i) (following i) ∷ all_heard words.rough left
          ((next ∙ (λ j. after_heard words.rough (is j) (following j))) i)))
          ∙ ap (λ n. h.done ++ all_heard words.rough n was) (sym fewer)
          ∙ h.parts;
    }

pub sent_all : (words : LoopWords) (place : ℕ) (generator : Lcg) (sent : Sent) → HasSentSome words place generator sent
    → words.frames ≤ place
    → HasSent sent (heard_drawn words)
sent_all words place generator sent h past =
    let none : words.frames - place ≡ 0 = omega arith in
    let all : h.done ≡ heard_drawn words = sym (append-nil h.done)
    ∙ ap (λ n. h.done ++ all_heard words.rough n generator) (sym none) ∙ h.parts in
    subst (HasSent sent) all h.has

pub sent_fits : (words : LoopWords) (sent : Sent) → HasSent sent (heard_drawn words) → words.frames ≤ 65535
    → length sent.samples.items < 2 ^ 48
sent_fits words sent h few = omega (arith, h.count, signal_fits words few)
