-- What is kept stands for all octets so far.
use Rattle.std.proofs.Common.{◌≡◌, ◌≢◌, ℕ, suc, ◌+◌, eqb, ltb, cond, Bool, true, false, List, [], ◌∷◌, ◌++◌, length}
use Rattle.std.proofs.Common.{take, min, refl, ap, subst, ◌∙◌, sym, inl, inr, arith, append_assoc, append-nil}
use Rattle.std.proofs.Common.{length-take, Some, ◌≤◌, ◌%◌, ◌==◌}
use Rattle.std.specs.Option.{option_to_list}
use Rattle.std.specs.List.{flat_map}
use Rattle.std.proofs.lemmas.Bool.{cond-true, cond-false, eq-eqb, ne_eqb, lt-ltb, le-ltb, cases_eq, cases_lt}
use Rattle.std.proofs.lemmas.List.{length_push, take_all, take-append-le}
use Rattle.std.proofs.lemmas.List.Concat.{flat_map-append}
use Rattle.kiss_port.specs.Escapes.{fend, fesc, tfend, tfesc, meant, unescaped, spelled}
use Rattle.kiss_port.specs.Pieces.{pieces}
use Rattle.kiss_port.specs.Items.{ack_command, most_octets, item_of, items_in}
use Rattle.kiss_port.specs.Held.{Held, StandsForPiece, StandsFor, rest_of_piece, new_held, kept_item, held_item}
use Rattle.kiss_port.specs.Held.{StandsForSome, keeping, unmarked, after_escape, with_octet}
use Rattle.kiss_port.proofs.PieceLemmas.{inside-append, pieces_inside, pieces_end}
use Rattle.kiss_port.proofs.EscapeLemmas.{unescaped_plain, spelled_back, spelled_piece}

-- ---- what is kept of a meaning

record Keeps (held : Held) (meaning : List ℕ) : Type 0 where
  kept : held.kept ≡ take 1027 meaning
  long : held.long ≡ ltb 1027 (length meaning)

keeps_more : (held : Held) (meaning : List ℕ) (octet : ℕ) → Keeps held meaning
    → Keeps (keeping held octet) (meaning ++ octet ∷ [])
keeps_more held meaning octet keeps =
    let K : Held → Type 0 = λ h. Keeps h (meaning ++ octet ∷ []) in
    let count : length held.kept ≡ min 1027 (length meaning) = ap length keeps.kept ∙ length-take 1027 meaning in
    let longer : length (meaning ++ octet ∷ []) ≡ length meaning + 1 = length_push meaning octet in
    elim (cases_eq (length held.kept) 1027) [
      | inl full ↦
          subst K (sym (cond-true _ _ _ (eq-eqb (length held.kept) 1027 full))) (record {
            kept = keeps.kept ∙ sym (take-append-le 1027 meaning (octet ∷ []) (omega arith));
            long = sym (lt-ltb 1027 (length (meaning ++ octet ∷ [])) (omega arith));
          })
      | inr room ↦
          subst K (sym (cond-false _ _ _ (ne_eqb (length held.kept) 1027 room))) (record {
            kept = ap (λ xs. xs ++ octet ∷ []) (keeps.kept ∙ take_all 1027 meaning (omega arith))
                ∙ sym (take_all 1027 (meaning ++ octet ∷ []) (omega arith));
            long = keeps.long ∙ le-ltb 1027 (length meaning) (omega arith)
                ∙ sym (le-ltb 1027 (length (meaning ++ octet ∷ [])) (omega arith));
          })
    ]

-- no piece of this length is short enough
most_at_most : (kind : ℕ) → most_octets kind ≤ 1026
most_at_most kind = go (kind % 16 == ack_command)
  where
    go : (b : Bool) → cond b 1026 1024 ≤ 1026
    go true = omega arith
    go false = omega arith

-- what is kept tells the item
kept_says : (meaning : List ℕ) → kept_item (ltb 1027 (length meaning)) (take 1027 meaning) ≡ item_of meaning
kept_says [] = refl
kept_says (kind ∷ octets) =
    let most = most_at_most kind in
    elim (cases_lt 1026 (length octets)) [
      | inl past ↦
          ap (λ b. kept_item b (kind ∷ take 1026 octets)) (lt-ltb 1027 (suc (length octets)) (omega arith))
          ∙ ap Some (sym (cond-true _ _ _ (lt-ltb (most_octets kind) (length octets) (omega arith))))
      | inr within ↦
          ap (λ b. kept_item b (kind ∷ take 1026 octets)) (le-ltb 1027 (suc (length octets)) (omega arith))
          ∙ ap (λ xs. kept_item false (kind ∷ xs)) (take_all 1026 octets within)
    ]

-- ---- the piece

pub piece_new : StandsForPiece new_held []
piece_new = record { inside = tt; meaning = []; rest = λ more. refl; kept = refl; long = refl }

-- how the piece is read with an octet more
longer : (held next : Held) (piece : List ℕ) (octet : ℕ) (meaning : List ℕ) (escaped : Bool) → octet ≢ fend
    → (stands : StandsForPiece held piece) → Keeps next meaning
    → next.escaped ≡ escaped → ((more : List ℕ) → stands.meaning ++ rest_of_piece held.escaped (octet ∷ more)
    ≡ meaning ++ rest_of_piece escaped more)
    → StandsForPiece next (piece ++ octet ∷ [])
longer held next piece octet meaning escaped other stands keeps mark further = record {
  inside = inside-append piece (octet ∷ []) stands.inside (other, tt);
  meaning = meaning;
  rest = λ more.
      ap unescaped (append_assoc piece (octet ∷ []) more)
      ∙ stands.rest (octet ∷ more)
      ∙ further more
      ∙ ap (λ b. meaning ++ rest_of_piece b more) (sym mark);
  kept = keeps.kept;
  long = keeps.long;
}

-- the mark of an escape stays if an octet is kept
keeping_mark : (held : Held) (octet : ℕ) → (keeping held octet).escaped ≡ held.escaped
keeping_mark held octet = by_room (eqb (length held.kept) 1027)
  where
    by_room : (b : Bool)
        → (cond b (let h : Held = record { kept = held.kept; long = true; escaped = held.escaped } in h)
        (record { kept = held.kept ++ octet ∷ []; long = held.long; escaped = held.escaped })).escaped ≡ held.escaped
    by_room true = refl
    by_room false = refl

unmarked_keeps : (held : Held) (meaning : List ℕ) → Keeps held meaning → Keeps (unmarked held) meaning
unmarked_keeps held meaning keeps = record { kept = keeps.kept; long = keeps.long }

-- an octet that is no FEND
pub piece_octet : (held : Held) (piece : List ℕ) (octet : ℕ) → octet ≢ fend → StandsForPiece held piece
    → StandsForPiece (with_octet held octet) (piece ++ octet ∷ [])
piece_octet held piece octet other = by_escape held.kept held.long held.escaped
  where
    S : Held → Type 0
    S next = StandsForPiece next (piece ++ octet ∷ [])

    by_escape : (kept : List ℕ) (long escaped : Bool) → let h : Held =
        record { kept = kept; long = long; escaped = escaped } in StandsForPiece h piece → S (with_octet h octet)
    by_escape kept long true stands = following
      where
        h : Held
        h = record { kept = kept; long = long; escaped = true }

        keeps : Keeps h stands.meaning
        keeps = record { kept = stands.kept; long = stands.long }

        -- the octet is the one that stands for another
        as_other : (mark meaning : ℕ) → octet ≡ mark → meant mark ≡ meaning ∷ [] → S (unmarked (keeping h meaning))
        as_other mark meaning is means =
            longer h (unmarked (keeping h meaning)) piece octet (stands.meaning ++ meaning ∷ []) false other stands
            (unmarked_keeps (keeping h meaning) (stands.meaning ++ meaning ∷ [])
            (keeps_more h stands.meaning meaning keeps)) refl
            (λ more. ap (λ ms. stands.meaning ++ (ms ++ unescaped more)) (ap meant is ∙ means)
            ∙ sym (append_assoc stands.meaning (meaning ∷ []) (unescaped more)))

        as_none : octet ≢ tfend → octet ≢ tfesc → S (unmarked h)
        as_none no_tfend no_tfesc =
            longer h (unmarked h) piece octet stands.meaning false other stands (unmarked_keeps h stands.meaning keeps)
            refl
            (λ more. ap (λ ms. stands.meaning ++ (ms ++ unescaped more)) (cond-false _ _ _ (ne_eqb octet tfend no_tfend)
            ∙ cond-false _ _ _ (ne_eqb octet tfesc no_tfesc)))

        following : S (after_escape h octet)
        following =
            elim (cases_eq octet tfend) [
              | inl is ↦ subst S (sym (cond-true _ _ _ (eq-eqb octet tfend is))) (as_other tfend fend is refl)
              | inr no_tfend ↦
                  subst S (sym (cond-false _ _ _ (ne_eqb octet tfend no_tfend)))
                  (elim (cases_eq octet tfesc) [
                    | inl is ↦ subst S (sym (cond-true _ _ _ (eq-eqb octet tfesc is))) (as_other tfesc fesc is refl)
                    | inr no_tfesc ↦ subst S (sym (cond-false _ _ _ (ne_eqb octet tfesc no_tfesc)))
                        (as_none no_tfend no_tfesc)
                  ])
            ]
    by_escape kept long false stands = plain
      where
        h : Held
        h = record { kept = kept; long = long; escaped = false }

        keeps : Keeps h stands.meaning
        keeps = record { kept = stands.kept; long = stands.long }

        plain : S (with_octet h octet)
        plain =
            elim (cases_eq octet fesc) [
              | inl is ↦
                  subst S (sym (cond-true _ _ _ (eq-eqb octet fesc is)))
                  (longer h (record { kept = kept; long = long; escaped = true })
                  piece octet stands.meaning true other stands (record { kept = stands.kept; long = stands.long })
                  refl
                  (λ more. ap (λ n. stands.meaning ++ unescaped (n ∷ more)) is))
              | inr no_fesc ↦
                  subst S (sym (cond-false _ _ _ (ne_eqb octet fesc no_fesc)))
                  (longer h (keeping h octet) piece octet (stands.meaning ++ octet ∷ []) false other stands
                  (keeps_more h stands.meaning octet keeps) (keeping_mark h octet)
                  (λ more. ap (λ xs. stands.meaning ++ xs) (unescaped_plain octet more no_fesc)
                  ∙ sym (append_assoc stands.meaning (octet ∷ []) (unescaped more))))
            ]

-- what is kept of a piece tells its item
pub piece_says : (held : Held) (piece : List ℕ) → StandsForPiece held piece → held_item held ≡ item_of (unescaped piece)
piece_says held piece stands =
    let all : unescaped piece ≡ stands.meaning =
    ap unescaped (sym (append-nil piece)) ∙ stands.rest [] ∙ ap (λ xs. stands.meaning ++ xs) (nothing held.escaped)
    ∙ append-nil stands.meaning in
    ap (λ b. kept_item b held.kept) stands.long ∙ ap (kept_item (ltb 1027 (length stands.meaning))) stands.kept
    ∙ kept_says stands.meaning ∙ ap item_of (sym all)
  where
    nothing : (escaped : Bool) → rest_of_piece escaped [] ≡ []
    nothing true = refl
    nothing false = refl

-- ---- the stream

module _ (held : Held) (stream : List ℕ) (stands : StandsFor held stream) where
  -- the pieces at a FEND
  pieces_there : (more : List ℕ) → pieces (stream ++ fend ∷ more) ≡ pieces stream ++ (stands.piece ∷ pieces more)
  pieces_there more = stands.cut (fend ∷ more) ∙ ap (λ xs. pieces stream ++ xs)
      (pieces_end stands.piece more stands.piece_held.inside)

  pub items_end : items_in (stream ++ fend ∷ []) ≡ items_in stream ++ option_to_list (held_item held)
  unfolding items_in
  items_end =
      ap (flat_map (λ piece. option_to_list (item_of (unescaped piece)))) (pieces_there [])
      ∙ flat_map-append (λ piece. option_to_list (item_of (unescaped piece))) (pieces stream) (stands.piece ∷ [])
      ∙ ap (λ xs. items_in stream ++ xs) (append-nil (option_to_list (item_of (unescaped stands.piece))))
      ∙ ap (λ item. items_in stream ++ option_to_list item) (sym (piece_says held stands.piece stands.piece_held))

  pub stands_end : StandsFor new_held (stream ++ fend ∷ [])
  stands_end = record {
    piece = [];
    piece_held = piece_new;
    cut = λ more.
        ap pieces (append_assoc stream (fend ∷ []) more)
        ∙ pieces_there more
        ∙ sym (append_assoc (pieces stream) (stands.piece ∷ []) (pieces more))
        ∙ ap (λ xs. xs ++ pieces more) (sym (pieces_there []));
  }

  module _ (octet : ℕ) (other : octet ≢ fend) where
    pieces_same : pieces (stream ++ octet ∷ []) ≡ pieces stream
    pieces_same =
        stands.cut (octet ∷ [])
        ∙ ap (λ xs. pieces stream ++ xs) (pieces_inside (stands.piece ++ octet ∷ [])
        (inside-append stands.piece (octet ∷ []) stands.piece_held.inside (other, tt)))
        ∙ append-nil (pieces stream)

    pub items_same : items_in (stream ++ octet ∷ []) ≡ items_in stream ++ []
    unfolding items_in
    items_same = ap (flat_map (λ piece. option_to_list (item_of (unescaped piece)))) pieces_same
        ∙ sym (append-nil (items_in stream))

    pub stands_octet : StandsFor (with_octet held octet) (stream ++ octet ∷ [])
    stands_octet = record {
      piece = stands.piece ++ octet ∷ [];
      piece_held = piece_octet held stands.piece octet other stands.piece_held;
      cut = λ more.
          ap pieces (append_assoc stream (octet ∷ []) more)
          ∙ stands.cut (octet ∷ more)
          ∙ ap (λ xs. pieces stream ++ pieces xs) (sym (append_assoc stands.piece (octet ∷ []) more))
          ∙ ap (λ xs. xs ++ pieces ((stands.piece ++ octet ∷ []) ++ more)) (sym pieces_same);
    }

-- the one item of a written piece
pub item_written : (kind : ℕ) (octets : List ℕ) → items_in (fend ∷ (spelled (kind ∷ octets) ++ fend ∷ []))
    ≡ option_to_list (item_of (kind ∷ octets))
unfolding items_in
item_written kind octets =
    ap (flat_map (λ piece. option_to_list (item_of (unescaped piece)))) (spelled_piece (kind ∷ octets))
    ∙ append-nil (option_to_list (item_of (unescaped (spelled (kind ∷ octets)))))
    ∙ ap (λ xs. option_to_list (item_of xs)) (spelled_back (kind ∷ octets))

-- before any octet
pub stands_new : StandsFor new_held []
stands_new = record { piece = []; piece_held = piece_new; cut = λ more. refl }

-- ---- every reader stands for some stream

pub some_end : (held : Held) → StandsForSome held → StandsForSome new_held
some_end held (stream, stands) = (stream ++ fend ∷ [], stands_end held stream stands)

pub some_octet : (held : Held) (octet : ℕ) → octet ≢ fend → StandsForSome held → StandsForSome (with_octet held octet)
some_octet held octet other (stream, stands) = (stream ++ octet ∷ [], stands_octet held stream stands octet other)
