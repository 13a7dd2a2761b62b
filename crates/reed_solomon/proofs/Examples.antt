-- Worked examples, computed on the definitions.
use Rattle.reed_solomon.proofs.Common.{◌≡◌, ℕ, List, [], ◌∷◌, ◌++◌, replicate, refl, distance, double, times_power}
use Rattle.reed_solomon.proofs.Common.{power, value_at}

-- x^8 is x^4 + x^3 + x^2 + 1, and the 255th power is 1 again
eighth_power : power 8 ≡ 29
unfolding double times_power
eighth_power = refl

last_power : power 254 ≡ 142
unfolding double times_power
last_power = refl

round : power 255 ≡ 1
unfolding double times_power
round = refl

-- three octets and two check octets: of a code with the first root power(0) and its zeros in front
il2p_word : List ℕ
il2p_word = 1 ∷ 2 ∷ 3 ∷ 4 ∷ 4 ∷ []

il2p_first : value_at 0 il2p_word ≡ 0
unfolding il2p_word value_at double times_power
il2p_first = refl

il2p_second : value_at 1 il2p_word ≡ 0
unfolding il2p_word value_at double times_power
il2p_second = refl

-- the same octets in a code with the first root power(1) and its zeros between
fx25_word : List ℕ
fx25_word = (1 ∷ 2 ∷ 3 ∷ []) ++ replicate 250 0 ++ 27 ∷ 220 ∷ []

fx25_first : value_at 1 fx25_word ≡ 0
unfolding fx25_word value_at double times_power
fx25_first = refl

fx25_second : value_at 2 fx25_word ≡ 0
unfolding fx25_word value_at double times_power
fx25_second = refl

-- two octets differ
two_apart : distance (1 ∷ 2 ∷ 3 ∷ 4 ∷ []) (1 ∷ 0 ∷ 3 ∷ 5 ∷ []) ≡ 2
unfolding distance
two_apart = refl

-- A block whose octets are wrong at the powers 251 and 7: the kernel of its syndromes is x^2 + 88 x + 8, which is 0 at
-- both points.
kernel_at_251 : value_at 251 (1 ∷ 88 ∷ 8 ∷ []) ≡ 0
unfolding value_at double times_power
kernel_at_251 = refl

kernel_at_7 : value_at 7 (1 ∷ 88 ∷ 8 ∷ []) ≡ 0
unfolding value_at double times_power
kernel_at_7 = refl
