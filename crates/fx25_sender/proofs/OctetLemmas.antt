-- Octets out of their bits.
use Rattle.fx25_sender.proofs.Common.{◌≡◌, ℕ, zero, suc, ◌+◌, ◌*◌, ◌/◌, ◌%◌, ◌<◌, Bool, true, false, eqb, List, [], ◌∷◌}
use Rattle.fx25_sender.proofs.Common.{◌++◌, length, refl, ap, ◌∙◌, arith, ne_eqb, eq-eqb, low_bits, number_of}
use Rattle.fx25_sender.proofs.Common.{sent_bits}
use Rattle.fx25_sender.proofs.Common.{octet_bits, octets_of}
use Rattle.hdlc_framer.proofs.BitLemmas.{number_of-lt}
use Rattle.reed_solomon.proofs.ValueLemmas.{Octets}

low_bits-number_of : (bits : List Bool) → low_bits (length bits) (number_of bits) ≡ bits
low_bits-number_of [] = refl
low_bits-number_of (false ∷ bits) =
    let half : 2 * number_of bits / 2 ≡ number_of bits = omega arith in
    ap (λ b. b ∷ low_bits (length bits) (2 * number_of bits / 2)) (ne_eqb (2 * number_of bits % 2) 1 (omega arith))
    ∙ ap (λ n. false ∷ low_bits (length bits) n) half ∙ ap (λ xs. false ∷ xs) (low_bits-number_of bits)
low_bits-number_of (true ∷ bits) =
    let half : (2 * number_of bits + 1) / 2 ≡ number_of bits = omega arith in
    ap (λ b. b ∷ low_bits (length bits) ((2 * number_of bits + 1) / 2))
    (eq-eqb ((2 * number_of bits + 1) % 2) 1 (omega arith))
    ∙ ap (λ n. true ∷ low_bits (length bits) n) half ∙ ap (λ xs. true ∷ xs) (low_bits-number_of bits)

-- as many octets as there are bits for, and these are their bits
pub record Packs (bits : List Bool) (count : ℕ) (octets : List ℕ) : Type 0 where
  pub size : length octets ≡ count
  pub octets_fit : Octets octets
  pub carried : sent_bits octets ≡ bits

pub octets_pack : (count : ℕ) (bits : List Bool) → length bits ≡ 8 * count → Packs bits count (octets_of bits)
unfolding octet_bits
octets_pack zero [] size = record { size = refl; octets_fit = tt; carried = refl }
octets_pack zero (a ∷ bits) size = absurd (omega arith)
octets_pack (suc n) [] size = absurd (omega arith)
octets_pack (suc n) (a ∷ []) size = absurd (omega arith)
octets_pack (suc n) (a ∷ b ∷ []) size = absurd (omega arith)
octets_pack (suc n) (a ∷ b ∷ c ∷ []) size = absurd (omega arith)
octets_pack (suc n) (a ∷ b ∷ c ∷ d ∷ []) size = absurd (omega arith)
octets_pack (suc n) (a ∷ b ∷ c ∷ d ∷ e ∷ []) size = absurd (omega arith)
octets_pack (suc n) (a ∷ b ∷ c ∷ d ∷ e ∷ f ∷ []) size = absurd (omega arith)
octets_pack (suc n) (a ∷ b ∷ c ∷ d ∷ e ∷ f ∷ g ∷ []) size = absurd (omega arith)
octets_pack (suc n) (a ∷ b ∷ c ∷ d ∷ e ∷ f ∷ g ∷ h ∷ bits) size =
    let first : List Bool = a ∷ b ∷ c ∷ d ∷ e ∷ f ∷ g ∷ h ∷ [] in
    let rest = octets_pack n bits (omega arith) in
    record {
      size = ap suc rest.size;
      octets_fit = (number_of-lt first, rest.octets_fit);
      carried = ap (λ xs. xs ++ sent_bits (octets_of bits)) (low_bits-number_of first)
          ∙ ap (λ xs. first ++ xs) rest.carried;
    }
