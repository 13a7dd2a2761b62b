-- An input that is pumped read by read.
use Rattle.tnc_ports.proofs.Common.{ℤ, Some, List, ◌∷◌, Option, None, sym, ap, ◌∙◌, append_assoc, arith, get_or, subst}
use Rattle.tnc_ports.proofs.Common.{take-append-drop, take_more, append-nil, length-append, length-take-le, Gives, refl}
use Rattle.tnc_ports.proofs.Common.{samples, sample_of, InputEnd, ReadFault, TooLong, odd_octet, odd_after, count_of}
use Rattle.tnc_ports.proofs.Common.{ended, IsPumped, most_input}
use Rattle.std.specs.Prelude.{◌≡◌, ℕ, ◌≤◌, ◌<◌, ◌+◌, ◌*◌, [], ◌++◌, length, take, drop}
use Rattle.sound_rate.specs.declared.incoming.Incoming.{Incoming}
use Rattle.sound_rate.specs.declared.rate.Rate.{Rate}
use Rattle.sound_rate.specs.Rates.{received}
use Rattle.tnc_ports.specs.declared.pumping.PumpEnd.{PumpEnd}
use Rattle.tnc_ports.specs.HeldPump.{HasPumped, HasStopped, HasTaken, IsFed}
use Rattle.tnc_ports.proofs.PairLemmas.{samples-snoc, odd-snoc}

-- ---- octet by octet

-- nothing is taken yet
pub taken_none : (rate : Rate) (x : List ℤ) (low : Option ℕ) (incoming : Incoming) (published : List ℤ)
    → IsFed rate incoming published x → HasTaken rate x low [] low incoming published
taken_none rate x low incoming published h = record {
  more = [];
  fed = subst (IsFed rate incoming published) (sym (append-nil x)) h;
  counted = omega arith;
  read = λ read is odd.
      (append-nil x ∙ is ∙ ap samples (sym (append-nil read)), odd ∙ ap odd_octet (sym (append-nil read)));
}

-- each octet counts as half a sample
octet_counted : (low : Option ℕ) (octet : ℕ)
    → 2 * length (ended low octet) + count_of (odd_after low octet) ≡ count_of low + 1
octet_counted None octet = refl
octet_counted (Some low) octet = refl

-- one octet more is taken
pub taken_more : (rate : Rate) (x : List ℤ) (low mid next : Option ℕ) (octets : List ℕ) (i : ℕ)
    (before after : Incoming) (published more : List ℤ) → i < length octets
    → HasTaken rate x low (take i octets) mid before published
    → ((y : List ℤ) → IsFed rate before published y → IsFed rate after more (y ++ ended mid (get_or octets i 0)))
    → next ≡ odd_after mid (get_or octets i 0)
    → HasTaken rate x low (take (i + 1) octets) next after more
taken_more rate x low mid next octets i before after published more within h feeds is_next =
    let octet : ℕ = get_or octets i 0 in
    let new : List ℤ = ended mid octet in
    let size = ap length (take_more octets i 0 within) ∙ length-append (take i octets) (octet ∷ []) in
    let long = length-append h.more new in
    let half = octet_counted mid octet in
    let left : count_of next ≡ count_of (odd_after mid octet) = ap count_of is_next in
    let counted = h.counted in
    record {
      more = h.more ++ new;
      fed = subst (IsFed rate after more) (append_assoc x h.more new) (feeds (x ++ h.more) h.fed);
      counted = omega (arith, size, long, half, left, counted);
      read = λ read is odd.
          let so = h.read read is odd in
          let longer : read ++ take (i + 1) octets ≡ (read ++ take i octets) ++ octet ∷ [] =
          ap (λ o. read ++ o) (take_more octets i 0 within) ∙ sym (append_assoc read (take i octets) (octet ∷ [])) in (
            sym (append_assoc x h.more new) ∙ ap (λ p. p ++ new) so.0
                ∙ ap (λ l. samples (read ++ take i octets) ++ ended l octet) so.1
                ∙ sym (samples-snoc (read ++ take i octets) octet) ∙ ap samples (sym longer),
            is_next ∙ ap (λ l. odd_after l octet) so.1 ∙ sym (odd-snoc (read ++ take i octets) octet)
                ∙ ap odd_octet (sym longer),
          );
    }

-- ---- read by read

pub pumped_more : (rate : Rate) (whole buffer : List ℕ) (before after : Option (List ℕ)) (published more : List ℤ)
    (old new : Incoming) (low next : Option ℕ) (total count : ℕ)
    → HasPumped rate whole before published old low total → ((octets : List ℕ) → before ≡ Some octets
    → Gives octets after buffer count) → count ≤ length buffer
    → ((x : List ℤ) → IsFed rate old published x → HasTaken rate x low (take count buffer) next new more)
    → HasPumped rate whole after more new next (total + count)
pumped_more rate whole buffer before after published more old new low next total count h gives within takes =
    let given = gives h.rest h.left_over in
    let t = takes (samples h.read) h.fed in
    let now = t.read h.read refl h.odd in
    record {
      read = h.read ++ take count buffer;
      rest = drop count h.rest;
      parts =
          h.parts ∙ ap (λ o. h.read ++ o) (sym (take-append-drop count h.rest))
          ∙ sym (append_assoc h.read (take count h.rest) (drop count h.rest))
          ∙ ap (λ o. (h.read ++ o) ++ drop count h.rest) (sym given.front);
      left_over = given.rest;
      fed = subst (IsFed rate new more) now.0 t.fed;
      odd = now.1;
      counted =
          length-append h.read (take count buffer)
          ∙ ap (λ n. n + length (take count buffer)) h.counted
          ∙ ap (λ n. total + n) (length-take-le count buffer within);
    }

-- a read that brings nothing, or none at all
pub pumped_same : (rate : Rate) (whole : List ℕ) (before after : Option (List ℕ)) (published more : List ℤ)
    (incoming : Incoming) (low : Option ℕ) (total : ℕ) → HasPumped rate whole before published incoming low total
    → after ≡ before → more ≡ published → HasPumped rate whole after more incoming low total
pumped_same rate whole before after published more incoming low total h left same = record {
  read = h.read;
  rest = h.rest;
  parts = h.parts;
  left_over = left ∙ h.left_over;
  fed = subst (λ p. IsFed rate incoming p (samples h.read)) (sym same) h.fed;
  odd = h.odd;
  counted = h.counted;
}

-- the input ended
pub ended_left : (rate : Rate) (whole buffer : List ℕ) (before after : Option (List ℕ)) (published : List ℤ)
    (incoming : Incoming) (low : Option ℕ) (total count : ℕ)
    → HasPumped rate whole before published incoming low total → ((octets : List ℕ) → before ≡ Some octets
    → Gives octets after buffer count) → count ≡ 0 → 0 < length buffer
    → (after ≡ before) × (after ≡ Some [])
ended_left rate whole buffer before after published incoming low total count h gives nothing room =
    let given = gives h.rest h.left_over in
    let over : h.rest ≡ [] = given.end nothing room in
    let still : after ≡ Some h.rest = given.rest ∙ ap (λ n. Some (drop n h.rest)) nothing in
    (still ∙ sym h.left_over, still ∙ ap Some over)

-- ---- the end

pub is_pumped : (rate : Rate) (whole : List ℕ) (left : Option (List ℕ)) (published all : List ℤ) (incoming : Incoming)
    (low : Option ℕ) (total : ℕ) (end : PumpEnd) → HasPumped rate whole left published incoming low total
    → HasStopped end left total
    → ((x : List ℤ) → IsFed rate incoming published x → all ≡ received rate x)
    → IsPumped rate whole left all end
is_pumped rate whole left published all incoming low total InputEnd h stopped rest = record {
  read = h.read;
  rest = h.rest;
  parts = h.parts;
  left_over = h.left_over;
  samples_read = rest (samples h.read) h.fed;
  stop =
      let same : Some h.rest ≡ Some [] = sym h.left_over ∙ stopped.0 in
      let over : h.rest ≡ [] = cc in
      (over, subst (λ n. n ≤ most_input) (sym h.counted) stopped.1);
}
is_pumped rate whole left published all incoming low total ReadFault h stopped rest = record {
  read = h.read;
  rest = h.rest;
  parts = h.parts;
  left_over = h.left_over;
  samples_read = rest (samples h.read) h.fed;
  stop = subst (λ n. n ≤ most_input) (sym h.counted) stopped;
}
is_pumped rate whole left published all incoming low total TooLong h stopped rest = record {
  read = h.read;
  rest = h.rest;
  parts = h.parts;
  left_over = h.left_over;
  samples_read = rest (samples h.read) h.fed;
  stop = h.counted ∙ stopped;
}
