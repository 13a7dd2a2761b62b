-- Lists of calls: their length, one more call, a text that is no call, and that a text spells one list. Then how the
-- calls of a text are read one after another.
use Rattle.tnc_words.proofs.Common.{◌≡◌, ◌+◌, ◌<◌, List, [], ◌∷◌, ◌++◌, length, Option, Some, None, refl, sym, subst}
use Rattle.tnc_words.proofs.Common.{ap, ◌∙◌, arith, false, eqb, Text, Callsign, IsCallText, IsCallList}
use denote.Ref.{Bor}
use Rattle.std.proofs.Common.{suc, ◌≤◌, length-append, append_assoc, lit<}
use Rattle.std.specs.Prelude.{MatchOption}
use Rattle.std.specs.List.{after_first}
use Rattle.std.proofs.lemmas.List.Elements.{All-from_get_or}
use Rattle.std.proofs.lemmas.List.Splits.{length-slice_split, slice_split_first, slice_split_none}
use Rattle.std.proofs.lemmas.List.Sums.{fails_before_first}
use Rattle.std.proofs.lemmas.Str.Pattern.{IsSplitOnceResult, split_once_first}
use Rattle.tnc_words.specs.Stations.{GivesCall, HasRepeaters, SpellCalls, parts_at_commas}
use Rattle.tnc_words.proofs.OneLink.{one_spelled}

-- as many texts as calls
pub spell-length : (texts : List Text) (calls : List Callsign) → SpellCalls texts calls → length texts ≡ length calls
spell-length [] [] h = refl
spell-length [] (call ∷ calls) h = absurd h
spell-length (text ∷ texts) [] h = absurd h
spell-length (text ∷ texts) (call ∷ calls) h = ap suc (spell-length texts calls h.1)

-- one call more
pub spell-append : (texts : List Text) (calls : List Callsign) (text : Text) (call : Callsign) → SpellCalls texts calls
    → IsCallText text call → SpellCalls (texts ++ text ∷ []) (calls ++ call ∷ [])
spell-append [] [] text call h is = (is, tt)
spell-append [] (first ∷ calls) text call h is = absurd h
spell-append (first ∷ texts) [] text call h is = absurd h
spell-append (first ∷ texts) (other ∷ calls) text call h is = (h.0, spell-append texts calls text call h.1 is)

-- texts among which one is no call spell nothing
pub spell-nothing : (before : List Text) (text : Text) (after : List Text)
    → ((call : Callsign) → IsCallText text call → ⊥) → (calls : List Callsign)
    → SpellCalls (before ++ text ∷ after) calls → ⊥
spell-nothing [] text after none [] h = h
spell-nothing [] text after none (call ∷ calls) h = none call h.0
spell-nothing (first ∷ before) text after none [] h = h
spell-nothing (first ∷ before) text after none (call ∷ calls) h = spell-nothing before text after none calls h.1

-- an option gives one call
pub one_given_call : (text : Option Text) (call other : Callsign) → GivesCall text call → GivesCall text other
    → call ≡ other
one_given_call None call other h k = absurd h
one_given_call (Some text) call other h k = one_spelled text call other h k

one_spelling : (texts : List Text) (calls others : List Callsign) → SpellCalls texts calls → SpellCalls texts others
    → calls ≡ others
one_spelling [] [] [] h k = refl
one_spelling [] [] (other ∷ others) h k = absurd k
one_spelling [] (call ∷ calls) others h k = absurd h
one_spelling (text ∷ texts) [] others h k = absurd h
one_spelling (text ∷ texts) (call ∷ calls) [] h k = absurd k
one_spelling (text ∷ texts) (call ∷ calls) (other ∷ others) h k =
    ap (λ c. c ∷ calls) (one_spelled text call other h.0 k.0)
    ∙ ap (λ cs. other ∷ cs) (one_spelling texts calls others h.1 k.1)

-- an option names one list of repeaters
pub one_repeaters : (text : Option Text) (calls others : List Callsign) → HasRepeaters text calls
    → HasRepeaters text others → calls ≡ others
one_repeaters None calls others h k = h ∙ sym k
one_repeaters (Some text) calls others h k = one_spelling _ calls others h.spelled k.spelled

-- ---- reading the calls of a text one after another

-- the calls are those of the parts of a text in front of its rest
pub record SpelledSoFar (text rest : Text) (calls : List Callsign) : Type 0 where
  pub parts : List Text
  pub cut : parts_at_commas text ≡ parts ++ parts_at_commas rest
  pub spelled : SpellCalls parts calls
  pub few : length calls ≤ 8

-- where the first comma of a text stands, or that it has none
pub first_part : (text : Text) (r : Option (Bor Text × Bor Text)) → IsSplitOnceResult 44 text r
    → MatchOption r (parts_at_commas text ≡ text ∷ []) (λ x. parts_at_commas text ≡ x.0.now ∷ parts_at_commas x.1.now)
first_part text None h =
    let none = split_once_first 44 text None h (lit< tt) in
    slice_split_none (λ b. eqb b 44) text (All-from_get_or (λ b. eqb b 44 ≡ false) text 0 (λ i within.
    fails_before_first (λ b. eqb b 44) text i 0 (omega (arith, none, within))))
first_part text (Some x) h =
    let at = split_once_first 44 text (Some x) h (lit< tt) in
    slice_split_first (λ b. eqb b 44) text 0 at.0
    ∙ ap (λ part. part ∷ parts_at_commas (after_first (λ b. eqb b 44) text)) (sym at.1)
    ∙ ap (λ rest. x.0.now ∷ parts_at_commas rest) (sym at.2)

module _ (text rest : Text) (calls : List Callsign) (h : SpelledSoFar text rest calls) where
  pub one_more : (first others : Text) (call : Callsign) → parts_at_commas rest ≡ first ∷ parts_at_commas others
      → IsCallText first call → length calls < 8 → SpelledSoFar text others (calls ++ call ∷ [])
  one_more first others call is spells few =
      let size = length-append calls (call ∷ []) in
      record {
        parts = h.parts ++ first ∷ [];
        cut = h.cut ∙ ap (λ parts. h.parts ++ parts) is
            ∙ sym (append_assoc h.parts (first ∷ []) (parts_at_commas others));
        spelled = spell-append h.parts calls first call h.spelled spells;
        few = omega arith;
      }

  pub last_one : (call : Callsign) → parts_at_commas rest ≡ rest ∷ [] → IsCallText rest call → length calls < 8
      → IsCallList text (calls ++ call ∷ [])
  last_one call is spells few =
      let size = length-append calls (call ∷ []) in
      record {
        spelled = subst (λ parts. SpellCalls parts (calls ++ call ∷ []))
            (sym (h.cut ∙ ap (λ parts. h.parts ++ parts) is)) (spell-append h.parts calls rest call h.spelled spells);
        few = omega arith;
      }

  pub bad_part : (first : Text) (others : List Text) → parts_at_commas rest ≡ first ∷ others
      → ((call : Callsign) → IsCallText first call → ⊥) → (all : List Callsign) → IsCallList text all → ⊥
  bad_part first others is none all k =
      spell-nothing h.parts first others none all
      (subst (λ parts. SpellCalls parts all) (h.cut ∙ ap (λ parts. h.parts ++ parts) is) k.spelled)

  pub too_many : 8 ≤ length calls → (all : List Callsign) → IsCallList text all → ⊥
  too_many full all k =
      let one = length-slice_split (λ b. eqb b 44) rest in
      let whole = ap length h.cut ∙ length-append h.parts (parts_at_commas rest) in
      let here = spell-length h.parts calls h.spelled in
      let there = spell-length (parts_at_commas text) all k.spelled in
      let few = k.few in
      omega arith
