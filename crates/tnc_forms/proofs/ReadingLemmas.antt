-- An input that is read in pieces.
use Rattle.tnc_forms.proofs.Common.{◌≡◌, ℕ, Some, ◌≤◌, List, ◌++◌, length, take, drop, sym, ap, ◌∙◌, append_assoc}
use Rattle.tnc_forms.proofs.Common.{take-append-drop, take-append-le}
use Rattle.std.specs.declared.option.Option.{Option}
use Rattle.tnc_base.specs.Streams.{Gives}

-- of the whole input these octets were read, and the source has the rest
abbrev pub HasRead : List ℕ → List ℕ → Option (List ℕ) → Type 0
HasRead whole octets left = (rest : List ℕ) × (whole ≡ octets ++ rest) × (left ≡ Some rest)

-- one more piece, which stands at the front of the buffer
pub read_on : (whole octets rest buffer tail items : List ℕ) (left : Option (List ℕ)) (count : ℕ)
    → whole ≡ octets ++ rest → count ≤ length buffer → Gives rest left buffer count
    → items ≡ octets ++ take count (buffer ++ tail) → HasRead whole items left
read_on whole octets rest buffer tail items left count is bound gives longer =
    let piece : take count (buffer ++ tail) ≡ take count rest = take-append-le count buffer tail bound ∙ gives.front in
    let parts : whole ≡ (octets ++ take count rest) ++ drop count rest =
    is ∙ ap (λ r. octets ++ r) (sym (take-append-drop count rest))
    ∙ sym (append_assoc octets (take count rest) (drop count rest)) in
    let whole_items : octets ++ take count rest ≡ items = ap (λ p. octets ++ p) (sym piece) ∙ sym longer in
    (drop count rest, parts ∙ ap (λ p. p ++ drop count rest) whole_items, gives.rest)
