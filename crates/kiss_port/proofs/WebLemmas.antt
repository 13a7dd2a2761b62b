-- The beginnings of programs of the web: they show in what is kept, they stay, and no piece ends in them.
use Rattle.std.proofs.Common.{◌≡◌, ◌≢◌, ℕ, zero, suc, Bool, true, false, List, [], ◌∷◌, ◌++◌, length, take, drop}
use Rattle.std.proofs.Common.{refl, ap, subst}
use Rattle.std.proofs.Common.{◌∙◌, sym, inl, inr, arith, append_assoc, append-nil, Option, Result, Ok, Err}
use Rattle.std.specs.Prelude.{◌==◌, ◌||◌, ◌&&◌, cond, not, nat_le, codes, IsErrAnd}
use Rattle.std.specs.Option.{option_to_list}
use Rattle.std.specs.Cmp.Lexicographic.{pointwise}
use Rattle.std.specs.List.{list_any, list_all, flat_map, fold, starts_with}
use Rattle.std.proofs.Math.Bool.{or-true, or-false}
use Rattle.std.proofs.Math.Seq.{take-append_seam}
use Rattle.std.proofs.lemmas.Bool.{cond-true, cond-false, cases_lt, false≢true, leb-true, not-true, eqb-false}
use Rattle.std.proofs.lemmas.Bool.{eqb-true, and_parts, or_parts}
use Rattle.std.proofs.lemmas.Bool.Decides.{Decides-eqb}
use Rattle.std.proofs.lemmas.List.{take_all, take-take, take-append-le, take-append-drop, length-take-le}
use Rattle.std.proofs.lemmas.List.Sums.{fold-append}
use Rattle.std.proofs.lemmas.Slice.Eq.{starts_is}
use Rattle.kiss_port.specs.Escapes.{fend, unescaped}
use Rattle.kiss_port.specs.Items.{item_of, items_in}
use Rattle.kiss_port.specs.declared.fault.KissFault.{KissFault}
use Rattle.kiss_port.specs.declared.fault.KissFault.TheVariants.{Memory, WebRequest}
use Rattle.kiss_port.specs.declared.item.KissItem.{KissItem}
use Rattle.kiss_port.specs.Held.{Held, StandsFor}
use Rattle.kiss_port.specs.HeldHost.{HeldBeginning, HeldHost, HostStandsFor, beginning_of, beginning_with, tells_web}
use Rattle.kiss_port.specs.HeldHost.{is_slash, line_with}
use Rattle.kiss_port.specs.WebRequests.{web_beginnings, has_web_beginning, is_token_character, is_request_line}
use Rattle.kiss_port.specs.WebRequests.{is_web_request, host_items}
use Rattle.kiss_port.specs.declared.request_line.RequestLine.{RequestLine}
use Rattle.kiss_port.specs.declared.request_line.RequestLine.TheVariants.{Empty, Method, Blank, Slash, Other}
use Rattle.kiss_port.proofs.PieceLemmas.{IsInside, pieces_inside}

-- ---- one beginning

abbrev starts : List ℕ → List ℕ → Bool
starts octets beginning = starts_with (λ a b. a == b) octets beginning

-- what begins so is the beginning and more
starts_then : (octets beginning : List ℕ) → starts octets beginning ≡ true
    → octets ≡ beginning ++ drop (length beginning) octets
starts_then octets beginning is = (starts_is Decides-eqb octets beginning (starts octets beginning) refl).0 is

then_starts : (octets beginning rest : List ℕ) → octets ≡ beginning ++ rest → starts octets beginning ≡ true
then_starts octets beginning rest is = (starts_is Decides-eqb octets beginning (starts octets beginning) refl).1 rest is

-- it shows within eight octets, if it is no longer
starts_in_8 : (octets beginning : List ℕ) → nat_le (length beginning) 8 ≡ true
    → starts (take 8 octets) beginning ≡ starts octets beginning
starts_in_8 octets beginning short = ap (pointwise (λ a b. a == b) beginning)
    (take-take (length beginning) 8 octets (leb-true (length beginning) 8 short))

starts_stays : (octets more beginning : List ℕ) → starts octets beginning ≡ true
    → starts (octets ++ more) beginning ≡ true
starts_stays octets more beginning is =
    then_starts (octets ++ more) beginning (drop (length beginning) octets ++ more)
    (ap (λ xs. xs ++ more) (starts_then octets beginning is)
    ∙ append_assoc beginning (drop (length beginning) octets) more)

inside_take : (count : ℕ) (octets : List ℕ) → IsInside octets → IsInside (take count octets)
inside_take zero octets inside = tt
inside_take (suc count) [] inside = tt
inside_take (suc count) (octet ∷ octets) inside = (inside.0, inside_take count octets inside.1)

-- what an octet makes a beginning without a FEND has no FEND
starts_late : (octets beginning : List ℕ) (octet : ℕ) → IsInside beginning → starts octets beginning ≡ false
    → starts (octets ++ octet ∷ []) beginning ≡ true
    → IsInside octets
starts_late octets beginning octet inside early late =
    let rest : List ℕ = drop (length beginning) (octets ++ octet ∷ []) in
    let all : octets ++ octet ∷ [] ≡ beginning ++ rest = starts_then (octets ++ octet ∷ []) beginning late in
    elim (cases_lt (length octets) (length beginning)) [
      | inl short ↦
          let is : octets ≡ take (length octets) beginning =
          sym (take-append_seam octets (octet ∷ [])) ∙ ap (take (length octets)) all
          ∙ take-append-le (length octets) beginning rest (omega (arith, short)) in
          subst IsInside (sym is) (inside_take (length octets) beginning inside)
      | inr long ↦
          let front : take (length beginning) octets ≡ beginning =
          sym (take-append-le (length beginning) octets (octet ∷ []) long) ∙ ap (take (length beginning)) all
          ∙ take-append_seam beginning rest in
          let is : octets ≡ beginning ++ drop (length beginning) octets =
          sym (take-append-drop (length beginning) octets)
          ∙ ap (λ xs. xs ++ drop (length beginning) octets) front in
          absurd (false≢true (sym early ∙ then_starts octets beginning (drop (length beginning) octets) is))
    ]

-- ---- a list of beginnings

abbrev starts_any : List (List ℕ) → List ℕ → Bool
starts_any beginnings octets = list_any (starts_with (λ a b. a == b) octets) beginnings

any_in_8 : (beginnings : List (List ℕ)) (octets : List ℕ)
    → list_all (λ beginning. nat_le (length beginning) 8) beginnings ≡ true
    → starts_any beginnings (take 8 octets) ≡ starts_any beginnings octets
any_in_8 [] octets short = refl
any_in_8 (beginning ∷ beginnings) octets short =
    let parts = and_parts (nat_le (length beginning) 8)
    (list_all (λ beginning. nat_le (length beginning) 8) beginnings) short in
    ap (λ b. b || starts_any beginnings (take 8 octets)) (starts_in_8 octets beginning parts.0)
    ∙ ap (λ b. starts octets beginning || b) (any_in_8 beginnings octets parts.1)

any_stays : (beginnings : List (List ℕ)) (octets more : List ℕ) → starts_any beginnings octets ≡ true
    → starts_any beginnings (octets ++ more) ≡ true
any_stays [] octets more is = absurd (false≢true is)
any_stays (beginning ∷ beginnings) octets more is =
    go (starts octets beginning) refl (any_stays beginnings octets more) is
  where
    go : (b : Bool) → starts octets beginning ≡ b
        → (starts_any beginnings octets ≡ true → starts_any beginnings (octets ++ more) ≡ true)
        → (b || starts_any beginnings octets) ≡ true
        → (starts (octets ++ more) beginning || starts_any beginnings (octets ++ more)) ≡ true
    go true here others h =
        ap (λ b. b || starts_any beginnings (octets ++ more)) (starts_stays octets more beginning here)
    go false here others h = ap (λ b. starts (octets ++ more) beginning || b) (others h)
        ∙ or-true (starts (octets ++ more) beginning)

-- no FEND among these octets
has_no_fend : List ℕ → Bool
has_no_fend octets = list_all (λ octet. not (octet == fend)) octets

inside_from : (octets : List ℕ) → has_no_fend octets ≡ true → IsInside octets
unfolding has_no_fend
inside_from [] none = tt
inside_from (octet ∷ octets) none =
    let parts = and_parts (not (octet == fend)) (has_no_fend octets) none in
    (eqb-false octet fend (not-true (octet == fend) parts.0), inside_from octets parts.1)

any_late : (beginnings : List (List ℕ)) (octets : List ℕ) (octet : ℕ) → list_all has_no_fend beginnings ≡ true
    → starts_any beginnings octets ≡ false
    → starts_any beginnings (octets ++ octet ∷ []) ≡ true
    → IsInside octets
any_late [] octets octet none early late = absurd (false≢true late)
any_late (beginning ∷ beginnings) octets octet none early late =
    go (starts (octets ++ octet ∷ []) beginning) refl (any_late beginnings octets octet fends.1 before.1) late
  where
    fends : (has_no_fend beginning ≡ true) × (list_all has_no_fend beginnings ≡ true)
    fends = and_parts (has_no_fend beginning) (list_all has_no_fend beginnings) none

    before : (starts octets beginning ≡ false) × (starts_any beginnings octets ≡ false)
    before = or_parts (starts octets beginning) (starts_any beginnings octets) early

    go : (b : Bool) → starts (octets ++ octet ∷ []) beginning ≡ b
        → (starts_any beginnings (octets ++ octet ∷ []) ≡ true → IsInside octets)
        → (b || starts_any beginnings (octets ++ octet ∷ [])) ≡ true → IsInside octets
    go true here others h = starts_late octets beginning octet (inside_from beginning fends.0) before.0 here
    go false here others h = others h

-- ---- a method of any name

-- a blank and a slash
abbrev target : List ℕ
target = codes " /"

line_stays : (octets more : List ℕ) → is_request_line octets ≡ true → is_request_line (octets ++ more) ≡ true
line_stays [] more is = absurd (false≢true is)
line_stays (octet ∷ octets) more is =
    let parts = and_parts (is_token_character octet) (starts octets target || is_request_line octets) is in
    ap (λ b. b && (starts (octets ++ more) target || is_request_line (octets ++ more))) parts.0
    ∙ go (starts octets target) refl (line_stays octets more) parts.1
  where
    go : (b : Bool) → starts octets target ≡ b
        → (is_request_line octets ≡ true → is_request_line (octets ++ more) ≡ true)
        → (b || is_request_line octets) ≡ true
        → (starts (octets ++ more) target || is_request_line (octets ++ more)) ≡ true
    go true here others h =
        ap (λ b. b || is_request_line (octets ++ more)) (starts_stays octets more target here)
    go false here others h = ap (λ b. starts (octets ++ more) target || b) (others h)
        ∙ or-true (starts (octets ++ more) target)

-- a FEND is no character of a token
token_inside : (octet : ℕ) → is_token_character octet ≡ true → octet ≢ fend
token_inside octet is same = false≢true (ap is_token_character (sym same) ∙ is)

line_late : (octets : List ℕ) (octet : ℕ) → is_request_line octets ≡ false
    → is_request_line (octets ++ octet ∷ []) ≡ true
    → IsInside octets
unfolding has_no_fend
line_late [] octet early late = tt
line_late (first ∷ octets) octet early late =
    go (starts (octets ++ octet ∷ []) target) refl (line_late octets octet before.1) parts.1
  where
    parts : (is_token_character first ≡ true)
        × ((starts (octets ++ octet ∷ []) target || is_request_line (octets ++ octet ∷ [])) ≡ true)
    parts = and_parts (is_token_character first)
        (starts (octets ++ octet ∷ []) target || is_request_line (octets ++ octet ∷ [])) late

    before : (starts octets target ≡ false) × (is_request_line octets ≡ false)
    before = or_parts (starts octets target) (is_request_line octets)
        (ap (λ b. b && (starts octets target || is_request_line octets)) (sym parts.0) ∙ early)

    go : (b : Bool) → starts (octets ++ octet ∷ []) target ≡ b
        → (is_request_line (octets ++ octet ∷ []) ≡ true → IsInside octets)
        → (b || is_request_line (octets ++ octet ∷ [])) ≡ true → IsInside (first ∷ octets)
    go true here others h = (
      token_inside first parts.0,
      starts_late octets target octet (inside_from target refl) before.0 here,
    )
    go false here others h = (token_inside first parts.0, others h)

-- how far they are a line tells what is still to come of it
abbrev rest_of_line : RequestLine → List ℕ → Bool
rest_of_line Empty octets = is_request_line octets
rest_of_line Method octets = starts octets target || is_request_line octets
rest_of_line Blank octets = starts octets (47 ∷ [])
rest_of_line Slash octets = true
rest_of_line Other octets = false

-- what begins otherwise begins not so
starts_other : (first second : ℕ) (octets rest : List ℕ) → first ≢ second
    → starts (first ∷ octets) (second ∷ rest) ≡ false
starts_other first second octets rest differ = go (starts (first ∷ octets) (second ∷ rest)) refl
  where
    go : (b : Bool) → starts (first ∷ octets) (second ∷ rest) ≡ b → starts (first ∷ octets) (second ∷ rest) ≡ false
    go true is =
        let same = starts_then (first ∷ octets) (second ∷ rest) is in
        absurd (differ (cc same))
    go false is = is

-- a blank is no character of a token
token_other : (octet : ℕ) → is_token_character octet ≡ true → octet ≢ 32
token_other octet is same = false≢true (ap is_token_character (sym same) ∙ is)

line_told : (line : RequestLine) (octets : List ℕ) → is_slash (fold line_with line octets) ≡ rest_of_line line octets
line_told Empty [] = refl
line_told Method [] = refl
line_told Blank [] = refl
line_told Slash [] = refl
line_told Other [] = refl
line_told Empty (octet ∷ octets) = go (is_token_character octet) (line_told Method octets) (line_told Other octets)
  where
    go : (b : Bool) → is_slash (fold line_with Method octets) ≡ (starts octets target || is_request_line octets)
        → is_slash (fold line_with Other octets) ≡ false
        → is_slash (fold line_with (cond b Method Other) octets)
        ≡ (b && (starts octets target || is_request_line octets))
    go true name other = name
    go false name other = other
line_told Method (octet ∷ octets) =
    go (is_token_character octet) refl (octet == 32) refl (line_told Method octets) (line_told Blank octets)
    (line_told Other octets)
  where
    go : (b : Bool) → is_token_character octet ≡ b → (c : Bool) → (octet == 32) ≡ c
        → is_slash (fold line_with Method octets) ≡ (starts octets target || is_request_line octets)
        → is_slash (fold line_with Blank octets) ≡ starts octets (47 ∷ [])
        → is_slash (fold line_with Other octets) ≡ false
        → is_slash (fold line_with (cond b Method (cond c Blank Other)) octets)
        ≡ (starts (octet ∷ octets) target || (b && (starts octets target || is_request_line octets)))
    go true token c is name blank other =
        name ∙ ap (λ b. b || (starts octets target || is_request_line octets))
        (sym (starts_other octet 32 octets (47 ∷ []) (token_other octet token)))
    go false token true is name blank other =
        blank ∙ ap (λ (x : ℕ). starts (x ∷ octets) target) (sym (eqb-true octet 32 is))
        ∙ sym (or-false (starts (octet ∷ octets) target))
    go false token false is name blank other =
        other ∙ ap (λ b. b || false) (sym (starts_other octet 32 octets (47 ∷ []) (eqb-false octet 32 is)))
line_told Blank (octet ∷ octets) = go (octet == 47) refl (line_told Slash octets) (line_told Other octets)
  where
    go : (b : Bool) → (octet == 47) ≡ b → is_slash (fold line_with Slash octets) ≡ true
        → is_slash (fold line_with Other octets) ≡ false
        → is_slash (fold line_with (cond b Slash Other) octets) ≡ starts (octet ∷ octets) (47 ∷ [])
    go true is slash other = slash ∙ ap (λ (x : ℕ). starts (x ∷ octets) (47 ∷ [])) (sym (eqb-true octet 47 is))
    go false is slash other = other ∙ sym (starts_other octet 47 octets [] (eqb-false octet 47 is))
line_told Slash (octet ∷ octets) = line_told Slash octets
line_told Other (octet ∷ octets) = line_told Other octets

-- ---- programs of the web

begins_in_8 : (octets : List ℕ) → has_web_beginning (take 8 octets) ≡ has_web_beginning octets
unfolding has_web_beginning
begins_in_8 octets = any_in_8 web_beginnings octets refl

begin_stays : (octets more : List ℕ) → has_web_beginning octets ≡ true → has_web_beginning (octets ++ more) ≡ true
unfolding has_web_beginning
begin_stays octets more is = any_stays web_beginnings octets more is

begin_late : (octets : List ℕ) (octet : ℕ) → has_web_beginning octets ≡ false
    → has_web_beginning (octets ++ octet ∷ []) ≡ true
    → IsInside octets
unfolding has_web_beginning has_no_fend
begin_late octets octet early late = any_late web_beginnings octets octet refl early late

-- what is kept tells a program of the web
beginning_tells : (octets : List ℕ) → tells_web (beginning_of octets) ≡ is_web_request octets
unfolding is_web_request
beginning_tells octets = ap (λ b. b || is_slash (fold line_with Empty octets)) (begins_in_8 octets)
    ∙ ap (λ b. has_web_beginning octets || b) (line_told Empty octets)

-- a connection that is known as a program's of the web stays so
pub web_stays : (octets more : List ℕ) → is_web_request octets ≡ true → is_web_request (octets ++ more) ≡ true
unfolding is_web_request
web_stays octets more is = go (has_web_beginning octets) refl is
  where
    go : (b : Bool) → has_web_beginning octets ≡ b → (b || is_request_line octets) ≡ true
        → is_web_request (octets ++ more) ≡ true
    go true here h = ap (λ b. b || is_request_line (octets ++ more)) (begin_stays octets more here)
    go false here h = ap (λ b. has_web_beginning (octets ++ more) || b) (line_stays octets more h)
        ∙ or-true (has_web_beginning (octets ++ more))

pub no_web_before : (octets more : List ℕ) → is_web_request (octets ++ more) ≡ false → is_web_request octets ≡ false
no_web_before octets more isnt = go (is_web_request octets) refl
  where
    go : (b : Bool) → is_web_request octets ≡ b → is_web_request octets ≡ false
    go true is = absurd (false≢true (sym isnt ∙ web_stays octets more is))
    go false is = is

-- before the octet by which it is known no FEND has come
inside_before : (octets : List ℕ) (octet : ℕ) → is_web_request octets ≡ false
    → is_web_request (octets ++ octet ∷ []) ≡ true
    → IsInside octets
unfolding is_web_request
inside_before octets octet early late = go (has_web_beginning (octets ++ octet ∷ [])) refl late
  where
    parts : (has_web_beginning octets ≡ false) × (is_request_line octets ≡ false)
    parts = or_parts (has_web_beginning octets) (is_request_line octets) early

    go : (b : Bool) → has_web_beginning (octets ++ octet ∷ []) ≡ b
        → (b || is_request_line (octets ++ octet ∷ [])) ≡ true → IsInside octets
    go true here h = begin_late octets octet parts.0 here
    go false here h = line_late octets octet parts.1 h

-- and no item has ended
none_before : (octets : List ℕ) (octet : ℕ) → is_web_request octets ≡ false
    → is_web_request (octets ++ octet ∷ []) ≡ true
    → items_in octets ≡ []
unfolding items_in
none_before octets octet early late = ap (flat_map (λ piece. option_to_list (item_of (unescaped piece))))
    (pieces_inside octets (inside_before octets octet early late))

pub web_items : (octets : List ℕ) → is_web_request octets ≡ true → host_items octets ≡ []
web_items octets is = cond-true (is_web_request octets) [] (items_in octets) is

pub kiss_items : (octets : List ℕ) → is_web_request octets ≡ false → host_items octets ≡ items_in octets
kiss_items octets is = cond-false (is_web_request octets) [] (items_in octets) is

-- ---- what is kept

-- of the first eight octets and one more, the first eight
beginning_more : (octets : List ℕ) (octet : ℕ) → take 8 (take 8 octets ++ octet ∷ []) ≡ take 8 (octets ++ octet ∷ [])
beginning_more octets octet =
    elim (cases_lt (length octets) 8) [
      | inl short ↦ ap (λ xs. take 8 (xs ++ octet ∷ [])) (take_all 8 octets (omega (arith, short)))
      | inr long ↦
          take-append-le 8 (take 8 octets) (octet ∷ []) (omega (arith, length-take-le 8 octets long))
          ∙ take-take 8 8 octets (omega arith) ∙ sym (take-append-le 8 octets (octet ∷ []) long)
    ]

abbrev kept : List ℕ → RequestLine → HeldBeginning
kept first line = record { first = first; line = line }

-- of what is kept and one octet more
kept_more : (octets : List ℕ) (octet : ℕ)
    → beginning_with (beginning_of octets) octet ≡ beginning_of (octets ++ octet ∷ [])
kept_more octets octet =
    ap (λ (first : List ℕ). kept first (line_with (fold line_with Empty octets) octet)) (beginning_more octets octet)
    ∙ ap (kept (take 8 (octets ++ octet ∷ []))) (sym (fold-append line_with Empty octets (octet ∷ [])))

-- what is kept tells a program of the web
pub kept_tells : (held : HeldHost) (octets : List ℕ) → HostStandsFor held octets
    → tells_web held.beginning ≡ is_web_request octets
kept_tells held octets stands = ap tells_web stands.beginning ∙ beginning_tells octets

-- one octet more, after which this is kept of the beginning
module _ (held : HeldHost) (octets : List ℕ) (stands : HostStandsFor held octets) (octet : ℕ) (next : HeldBeginning)
    (made : next ≡ beginning_with held.beginning octet) where
  next_is : next ≡ beginning_of (octets ++ octet ∷ [])
  next_is = made ∙ ap (λ beginning. beginning_with beginning octet) stands.beginning ∙ kept_more octets octet

  next_tells : tells_web next ≡ is_web_request (octets ++ octet ∷ [])
  next_tells = ap tells_web next_is ∙ beginning_tells (octets ++ octet ∷ [])

  module _ (web : tells_web next ≡ true) where
    pub is_web : is_web_request (octets ++ octet ∷ []) ≡ true
    is_web = sym next_tells ∙ web

    pub stands_web : (piece : Held)
        → HostStandsFor (record { beginning = next; piece = piece }) (octets ++ octet ∷ [])
    stands_web piece = record {
      beginning = next_is;
      piece = λ isnt. absurd (false≢true (sym isnt ∙ is_web));
    }

    pub items_web : host_items (octets ++ octet ∷ []) ≡ host_items octets ++ []
    items_web =
        web_items (octets ++ octet ∷ []) is_web
        ∙ sym (append-nil (host_items octets) ∙ none (is_web_request octets) refl)
      where
        none : (b : Bool) → is_web_request octets ≡ b → host_items octets ≡ []
        none true is = web_items octets is
        none false is = kiss_items octets is ∙ none_before octets octet is is_web

  module _ (kiss : tells_web next ≡ false) where
    pub is_kiss : is_web_request (octets ++ octet ∷ []) ≡ false
    is_kiss = sym next_tells ∙ kiss

    was_kiss : is_web_request octets ≡ false
    was_kiss = no_web_before octets (octet ∷ []) is_kiss

    pub piece_there : StandsFor held.piece octets
    piece_there = stands.piece was_kiss

    pub stands_kiss : (piece : Held) → StandsFor piece (octets ++ octet ∷ [])
        → HostStandsFor (record { beginning = next; piece = piece }) (octets ++ octet ∷ [])
    stands_kiss piece there = record { beginning = next_is; piece = λ isnt. there }

    pub items_kiss : (more : List KissItem) → items_in (octets ++ octet ∷ []) ≡ items_in octets ++ more
        → host_items (octets ++ octet ∷ []) ≡ host_items octets ++ more
    items_kiss more is = kiss_items (octets ++ octet ∷ []) is_kiss ∙ is
        ∙ ap (λ xs. xs ++ more) (sym (kiss_items octets was_kiss))

-- want of memory is no request of the web
pub never_web : (result : Result (Option KissItem) KissFault) → IsErrAnd result (λ fault. fault ≡ Memory)
    → result ≡ Err WebRequest → ⊥
never_web (Ok item) memory is = absurd memory
never_web (Err fault) memory is = absurd (cc (memory, is))
