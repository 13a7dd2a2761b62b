-- A store that asks for a number, or for none any more, is as ready as before.
use Rattle.link_machine.proofs.Common.{◌≡◌, ℕ, zero, suc, false, List, [], ◌∷◌, replicate, None, Some, Option, refl, ◌∙◌}
use Rattle.link_machine.proofs.Common.{ap, sym, Place, empty_place, is_full, Incoming, IsReady, next_missing, is_some, false≢true}
use Rattle.link_machine.proofs.Common.{◌%◌, ◌+◌, ◌++◌, subst, Turn, Sent, sent_in, sending, changing, SuperSent, Srej}
use Rattle.link_machine.proofs.Common.{send_srej}
use Rattle.link_machine.specs.Seizing.{missing_asked}
use Rattle.selective_reject.specs.Incoming.{number_of_missing}
use Rattle.selective_reject.specs.Places.{unasked, with_asked, full_end, end_after, first_missing}
use Rattle.selective_reject.specs.Incoming.{unasked_store, asked_for, after_ask_next}
unfoldable use Rattle.selective_reject.specs.Places.{missing}
use Rattle.std.specs.Prelude.{slice_get}
use Rattle.selective_reject.specs.declared.window.Mode.TheVariants.{Rej as RejMode}

first_unasked : (ps : List Place) → is_full (unasked ps) 0 ≡ is_full ps 0
first_unasked [] = refl
first_unasked (p ∷ ps) = refl

unasked_empty : (n : ℕ) → unasked (replicate n empty_place) ≡ replicate n empty_place
unasked_empty zero = refl
unasked_empty (suc n) = ap (λ ps. empty_place ∷ ps) (unasked_empty n)

pub ready_unasked : (i : Incoming) → IsReady i → IsReady (unasked_store i)
ready_unasked i h = record {
  next = first_unasked i.places ∙ h.next;
  in_sequence = λ rej. ap unasked (h.in_sequence rej) ∙ unasked_empty i.window;
}

first_asked : (ps : List Place) (k : ℕ) → is_full (with_asked ps k) 0 ≡ is_full ps 0
first_asked [] zero = refl
first_asked [] (suc k) = refl
first_asked (p ∷ ps) zero = refl
first_asked (p ∷ ps) (suc k) = refl

end_of_none : (n : ℕ) → full_end (replicate n empty_place) ≡ 0
end_of_none zero = refl
end_of_none (suc n) = ap (end_after false) (end_of_none n)

-- nothing is missing where nothing is stored
none_missing : (n : ℕ) → first_missing (replicate n empty_place) ≡ None
unfolding missing
none_missing n = ap (λ k. slice_get (missing (replicate n empty_place) k) 0) (end_of_none n)

ready_with : (i : Incoming) (o : Option ℕ) → (i.mode ≡ RejMode → o ≡ None) → IsReady i → IsReady (asked_for o i)
ready_with i None rejects h = h
ready_with i (Some k) rejects h = record {
  next = first_asked i.places k ∙ h.next;
  in_sequence = λ rej. absurd (false≢true (sym (ap is_some (rejects rej))));
}

pub ready_asked : (i : Incoming) → IsReady i → IsReady (after_ask_next i)
ready_asked i h = ready_with i (next_missing i)
    (λ rej. ap first_missing (h.in_sequence rej) ∙ none_missing i.window) h

-- what is asked for changes no modulus
pub asked_modulus : (o : Option ℕ) (i : Incoming) → (asked_for o i).modulus ≡ i.modulus
asked_modulus None i = refl
asked_modulus (Some k) i = refl

-- SREJ goes out, and its number is asked for
before_asking : (t : Turn) (x : Sent) → sending x (changing missing_asked t) ≡ changing missing_asked (sending x t)
before_asking t x =
    let after : ℕ → Turn = λ k. record {
      now = missing_asked t.now;
      sent = t.sent ++ sent_in k x ∷ [];
      told = t.told;
    } in
    ap after (asked_modulus (next_missing t.now.incoming) t.now.incoming)

abbrev number_of : Option ℕ → ℕ
number_of None = 0
number_of (Some number) = number

pub srej_sent :
    (t : Turn) (o : Option ℕ) (nr : ℕ) (P : Turn → Type 0) → number_of_missing t.now.incoming o ≡ Some nr
    → ((n : ℕ) → nr ≡ n % t.now.incoming.modulus
    → P (sending (SuperSent Srej false n false) (changing missing_asked t)))
    → P (send_srej o t)
srej_sent t None nr P e sent = absurd (false≢true (ap is_some e))
srej_sent t (Some k) nr P e sent =
    subst P (before_asking t (SuperSent Srej false (t.now.incoming.vr + k) false))
    (sent (t.now.incoming.vr + k) (sym (ap number_of e)))

pub none_to_ask : (i : Incoming) (o : Option ℕ) → number_of_missing i o ≡ None → o ≡ None
none_to_ask i None e = refl
none_to_ask i (Some k) e = absurd (false≢true (sym (ap is_some e)))
