-- A stream whose octet 31 is not 0 tells too long a body.
use Rattle.std.proofs.Common.{◌≡◌, ◌≢◌, ℕ, ◌<◌, ◌≤◌, ltb, cond, List, [], length, take, drop, get_or, ap, ◌∙◌, sym}
use Rattle.std.proofs.Common.{inl, inr, arith, None, Some}
use Rattle.std.proofs.lemmas.Bool.{cond-true, cond-false, lt-ltb, le-ltb, cases_lt}
use Rattle.std.proofs.lemmas.List.{get_or-drop, get_or-take, length-take-le, take-append-drop}
use Rattle.agwpe_port.specs.Messages.{Reading, told_length, reading}
use Rattle.agwpe_port.proofs.ReadingLemmas.{reading_short, reading_bad}

-- the highest octet of the length counts at least 2^24
highest : (header : List ℕ) → get_or header 31 0 ≢ 0 → 4096 < told_length header
highest header some = omega (arith, some, get_or-drop 28 header 3 0)

module _ (stream : List ℕ) (some : get_or stream 31 0 ≢ 0) where
  long : 4096 < told_length (take 36 stream)
  long = highest (take 36 stream) (λ none. some (sym (get_or-take 36 stream 31 0 (omega arith)) ∙ none))

  -- what is read of it
  whole : 36 ≤ length stream → reading stream ≡ record { messages = []; bad = Some (told_length (take 36 stream)) }
  whole enough =
      ap reading (sym (take-append-drop 36 stream))
      ∙ reading_bad (take 36 stream) (drop 36 stream) (length-take-le 36 stream enough) long

  pub text_messages : (reading stream).messages ≡ []
  text_messages =
      elim (cases_lt (length stream) 36) [
        | inl short ↦ ap (λ (r : Reading). r.messages) (reading_short stream short)
        | inr enough ↦ ap (λ (r : Reading). r.messages) (whole enough)
      ]

  pub text_refused : (reading stream).bad
      ≡ cond (ltb (length stream) 36) None (Some (told_length (take 36 stream)))
  text_refused =
      elim (cases_lt (length stream) 36) [
        | inl short ↦ ap (λ (r : Reading). r.bad) (reading_short stream short)
            ∙ sym (cond-true (ltb (length stream) 36) None (Some (told_length (take 36 stream)))
            (lt-ltb (length stream) 36 short))
        | inr enough ↦ ap (λ (r : Reading). r.bad) (whole enough)
            ∙ sym (cond-false (ltb (length stream) 36) None (Some (told_length (take 36 stream)))
            (le-ltb (length stream) 36 enough))
      ]
