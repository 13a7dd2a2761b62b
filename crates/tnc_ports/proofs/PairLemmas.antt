-- Octets taken in pairs: one more octet ends a sample if one was left over, and is left over itself if none was.
use Rattle.tnc_ports.proofs.Common.{◌≡◌, refl, ℕ, [], ◌++◌, ap, samples, sample_of, odd_octet, odd_after, ended}
use Rattle.std.proofs.Common.{List, ◌∷◌}

pub samples-snoc : (read : List ℕ) (octet : ℕ) → samples (read ++ octet ∷ [])
    ≡ samples read ++ ended (odd_octet read) octet
samples-snoc [] octet = refl
samples-snoc (low ∷ []) octet = refl
samples-snoc (low ∷ high ∷ rest) octet = ap (λ more. sample_of low high ∷ more) (samples-snoc rest octet)

pub odd-snoc : (read : List ℕ) (octet : ℕ) → odd_octet (read ++ octet ∷ []) ≡ odd_after (odd_octet read) octet
odd-snoc [] octet = refl
odd-snoc (low ∷ []) octet = refl
odd-snoc (low ∷ high ∷ rest) octet = odd-snoc rest octet
