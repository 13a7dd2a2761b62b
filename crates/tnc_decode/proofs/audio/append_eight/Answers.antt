use Rattle.tnc_decode.proofs.Common.{◌≡◌, ◌∙◌, ◌∷◌, ◌++◌, [], ap, sym, ℤ}
use Rattle.std.proofs.Common.{rules, FitsSigned, to_z, of_z}
use Rattle.std.proofs.lemmas.Int.{to_z-of_z}
use mir.Syntax.{w16}
use Rattle.tnc_decode.proofs.AudioLemmas.{sixteen_octets}
use Rattle.tnc_decode.proofs.audio.append_eight.Goals as goal

all_eight : {a b c d e f g h i j k l m n o p : ℤ} → a ≡ i → b ≡ j → c ≡ k → d ≡ l → e ≡ m → f ≡ n → g ≡ o → h ≡ p
    → (a ∷ b ∷ c ∷ d ∷ e ∷ f ∷ g ∷ h ∷ []) ≡ (i ∷ j ∷ k ∷ l ∷ m ∷ n ∷ o ∷ p ∷ [])
all_eight q r s t u v w x = λ i. q i ∷ r i ∷ s i ∷ t i ∷ u i ∷ v i ∷ w i ∷ x i ∷ []

-- a sample as it is put into a list
kept : {b : ℤ} (a : ℤ) → FitsSigned w16 a → a ≡ b → to_z w16 (of_z w16 a) ≡ b
kept a fits is = to_z-of_z w16 a fits ∙ is

pub returns-clause-appended : goal.returns-clause-appended
returns-clause-appended c =
    c.in_ok-extend_from_slice.ensures.items
    ∙ ap (λ t. c.args.samples.now.items ++ t)
    (all_eight (kept c.sample_at.result (search rules) c.sample_at.ensures)
    (kept c.sample_at-2.result (search rules) c.sample_at-2.ensures)
    (kept c.sample_at-3.result (search rules) c.sample_at-3.ensures)
    (kept c.sample_at-4.result (search rules) c.sample_at-4.ensures)
    (kept c.sample_at-5.result (search rules) c.sample_at-5.ensures)
    (kept c.sample_at-6.result (search rules) c.sample_at-6.ensures)
    (kept c.sample_at-7.result (search rules) c.sample_at-7.ensures)
    (kept c.sample_at-8.result (search rules) c.sample_at-8.ensures)
    ∙ sym (sixteen_octets c.args.octets.now c.told-octets))
