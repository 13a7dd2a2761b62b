-- What is told once one more parameter follows.
use Rattle.std.proofs.Common.{◌≡◌, ℕ, ◌==◌, Bool, true, false, if◌then◌else◌, List, [], ◌∷◌, ◌++◌, Option, Some, None}
use Rattle.std.proofs.Common.{refl, sym, ap, ◌∙◌}
use Rattle.xid_parameters.specs.declared.parameters.ToldParameters.{ToldParameters}
use Rattle.xid_parameters.specs.XidField.{Parameter}
use Rattle.xid_parameters.specs.Values.{duplex_in, mode_in, modulus_in, info_octets_in, window_in, number_in, octet_in}
use Rattle.xid_parameters.specs.Told.{later, value_told, told_in, told_by}

later_none : (x : Option (List ℕ)) → later None x ≡ x
later_none x = refl

later_end : (x : Option (List ℕ)) → x ≡ later x None
later_end None = refl
later_end (Some value) = refl

later_three : (x y z : Option (List ℕ)) → later (later x y) z ≡ later x (later y z)
later_three None y z = refl
later_three (Some value) y z = refl

-- the value of an identifier, if a parameter has it
abbrev value_if : ℕ → Parameter → Option (List ℕ)
value_if identifier p = if p.identifier == identifier then Some p.value else None

value_more : (identifier : ℕ) (ps : List Parameter) (p : Parameter)
    → value_told identifier (ps ++ p ∷ []) ≡ later (value_if identifier p) (value_told identifier ps)
value_more identifier [] p = later_end (value_if identifier p)
value_more identifier (q ∷ ps) p =
    ap (λ x. later x (value_if identifier q)) (value_more identifier ps p)
    ∙ later_three (value_if identifier p) (value_told identifier ps) (value_if identifier q)

-- one more value, if it has the identifier
abbrev pub told_if : {X : Type 0} → (List ℕ → Option X) → Bool → List ℕ → Option X → Option X
told_if read true value told = read value
told_if read false value told = told

told_later : {X : Type 0} (read : List ℕ → Option X) (has : Bool) (value : List ℕ) (x : Option (List ℕ))
    → told_in read (later (if has then Some value else None) x) ≡ told_if read has value (told_in read x)
told_later read true value x = refl
told_later read false value x = refl

told_in_more : {X : Type 0} (read : List ℕ → Option X) (identifier : ℕ) (ps : List Parameter) (p : Parameter)
    → told_in read (value_told identifier (ps ++ p ∷ []))
    ≡ told_if read (p.identifier == identifier) p.value (told_in read (value_told identifier ps))
told_in_more read identifier ps p =
    ap (told_in read) (value_more identifier ps p)
    ∙ told_later read (p.identifier == identifier) p.value (value_told identifier ps)

-- what is told, and then one value
abbrev pub told_with : ℕ → List ℕ → ToldParameters → ToldParameters
told_with identifier value told = record {
  duplex = told_if duplex_in (identifier == 2) value told.duplex;
  mode = told_if mode_in (identifier == 3) value told.mode;
  modulus = told_if modulus_in (identifier == 3) value told.modulus;
  info_octets = told_if info_octets_in (identifier == 6) value told.info_octets;
  window = told_if window_in (identifier == 8) value told.window;
  t1 = told_if number_in (identifier == 9) value told.t1;
  retries = told_if octet_in (identifier == 10) value told.retries;
}

pub told_more : (ps : List Parameter) (p : Parameter)
    → told_by (ps ++ p ∷ []) ≡ told_with p.identifier p.value (told_by ps)
told_more ps p = λ i. record {
  duplex = told_in_more duplex_in 2 ps p i;
  mode = told_in_more mode_in 3 ps p i;
  modulus = told_in_more modulus_in 3 ps p i;
  info_octets = told_in_more info_octets_in 6 ps p i;
  window = told_in_more window_in 8 ps p i;
  t1 = told_in_more number_in 9 ps p i;
  retries = told_in_more octet_in 10 ps p i;
}

-- the same from what was told
pub told_then : (ps : List Parameter) (told : ToldParameters) (identifier k : ℕ) (value : List ℕ)
    → identifier ≡ k → told ≡ told_by ps
    → told_with k value told ≡ told_by (ps ++ record { identifier = identifier; value = value } ∷ [])
told_then ps told identifier k value is said =
    ap (λ (n : ℕ). told_with n value told) (sym is)
    ∙ ap (told_with identifier value) said
    ∙ sym (told_more ps (record { identifier = identifier; value = value }))

-- an identifier of nothing that is told
abbrev told_where : Bool → Bool → Bool → Bool → Bool → Bool → List ℕ → ToldParameters → ToldParameters
told_where duplex functions info window t1 retries value told = record {
  duplex = told_if duplex_in duplex value told.duplex;
  mode = told_if mode_in functions value told.mode;
  modulus = told_if modulus_in functions value told.modulus;
  info_octets = told_if info_octets_in info value told.info_octets;
  window = told_if window_in window value told.window;
  t1 = told_if number_in t1 value told.t1;
  retries = told_if octet_in retries value told.retries;
}

untold_where : (a b c d e f : Bool) (value : List ℕ) (told : ToldParameters)
    → a ≡ false → b ≡ false → c ≡ false → d ≡ false → e ≡ false → f ≡ false
    → told_where a b c d e f value told ≡ told
untold_where false false false false false false value told is1 is2 is3 is4 is5 is6 = refl
untold_where true b c d e f value told is1 is2 is3 is4 is5 is6 = absurd (let clash : true ≡ false = is1 in cc)
untold_where false true c d e f value told is1 is2 is3 is4 is5 is6 = absurd (let clash : true ≡ false = is2 in cc)
untold_where false false true d e f value told is1 is2 is3 is4 is5 is6 = absurd (let clash : true ≡ false = is3 in cc)
untold_where false false false true e f value told is1 is2 is3 is4 is5 is6 = absurd (let clash : true ≡ false = is4 in cc)
untold_where false false false false true f value told is1 is2 is3 is4 is5 is6 = absurd (let clash : true ≡ false = is5 in cc)
untold_where false false false false false true value told is1 is2 is3 is4 is5 is6 = absurd (let clash : true ≡ false = is6 in cc)

pub untold_then : (ps : List Parameter) (told : ToldParameters) (k : ℕ) (value : List ℕ)
    → k == 2 ≡ false → k == 3 ≡ false → k == 6 ≡ false → k == 8 ≡ false → k == 9 ≡ false → k == 10 ≡ false
    → told ≡ told_by ps
    → told ≡ told_by (ps ++ record { identifier = k; value = value } ∷ [])
untold_then ps told k value h2 h3 h6 h8 h9 h10 said =
    sym (untold_where (k == 2) (k == 3) (k == 6) (k == 8) (k == 9) (k == 10) value told h2 h3 h6 h8 h9 h10)
    ∙ told_then ps told k k value refl said
