use Rattle.slicer_bank.proofs.Common.{◌≡◌, ◌∙◌, ◌∷◌, [], List, ℤ, take, drop, ap, sym, drop-drop, Tone, tone_of}
unfoldable use Rattle.slicer_bank.specs.Heard.{tones_in}
use Rattle.slicer_bank.proofs.eight.tones_of.Goals as goal

all_eight : {a b c d e f g h i j k l m n o p : Tone} → a ≡ i → b ≡ j → c ≡ k → d ≡ l → e ≡ m → f ≡ n → g ≡ o → h ≡ p
    → (a ∷ b ∷ c ∷ d ∷ e ∷ f ∷ g ∷ h ∷ []) ≡ (i ∷ j ∷ k ∷ l ∷ m ∷ n ∷ o ∷ p ∷ [])
all_eight q r s t u v w x = λ i. q i ∷ r i ∷ s i ∷ t i ∷ u i ∷ v i ∷ w i ∷ x i ∷ []

pub returns : goal.returns
unfolding tones_in
returns c =
    let w : List ℤ = c.args.windows.now in
    let two : drop 8 (drop 8 w) ≡ drop 16 w = drop-drop 8 8 w in
    let three : drop 8 (drop 8 (drop 8 w)) ≡ drop 24 w = ap (drop 8) two ∙ drop-drop 8 16 w in
    let four : drop 8 (drop 8 (drop 8 (drop 8 w))) ≡ drop 32 w = ap (drop 8) three ∙ drop-drop 8 24 w in
    let five : drop 8 (drop 8 (drop 8 (drop 8 (drop 8 w)))) ≡ drop 40 w = ap (drop 8) four ∙ drop-drop 8 32 w in
    let six : drop 8 (drop 8 (drop 8 (drop 8 (drop 8 (drop 8 w))))) ≡ drop 48 w = ap (drop 8) five ∙ drop-drop 8 40 w in
    let seven : drop 8 (drop 8 (drop 8 (drop 8 (drop 8 (drop 8 (drop 8 w)))))) ≡ drop 56 w
    = ap (drop 8) six ∙ drop-drop 8 48 w in
    all_eight c.tone_at.ensures c.tone_at-2.ensures c.tone_at-3.ensures c.tone_at-4.ensures c.tone_at-5.ensures
    c.tone_at-6.ensures c.tone_at-7.ensures c.tone_at-8.ensures
    ∙ (λ i. tone_of (take 8 w) ∷ tone_of (take 8 (drop 8 w)) ∷ tone_of (take 8 (sym two i)) ∷ tone_of (take 8 (sym three i))
    ∷ tone_of (take 8 (sym four i)) ∷ tone_of (take 8 (sym five i)) ∷ tone_of (take 8 (sym six i))
    ∷ tone_of (take 8 (sym seven i)) ∷ [])
