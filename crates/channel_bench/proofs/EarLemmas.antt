-- An ear of either kind by what it reads.
use Rattle.channel_bench.proofs.Common.{◌≡◌, Bool, true, false, ℤ, List, length, refl, subst, Ear, EarStandsFor}
use Rattle.channel_bench.proofs.Common.{BlockEar, BlockEarStandsFor, PlainEar, PlainEarStandsFor, Plain, Blocks, heard_by}

pub ear_count : (ear : Ear) (blocks : Bool) (x : List ℤ) → EarStandsFor ear blocks x → heard_by ear ≡ length x
ear_count (Plain ear) false x h = h.count
ear_count (Plain ear) true x h = absurd h
ear_count (Blocks ear) false x h = absurd h
ear_count (Blocks ear) true x h = h.count

plain_by : (ear : PlainEar) (blocks : Bool) (x : List ℤ) → EarStandsFor (Plain ear) blocks x
    → (blocks ≡ false) × PlainEarStandsFor ear x
plain_by ear false x h = (refl, h)
plain_by ear true x h = absurd h

blocks_by : (ear : BlockEar) (blocks : Bool) (x : List ℤ) → EarStandsFor (Blocks ear) blocks x
    → (blocks ≡ true) × BlockEarStandsFor ear x
blocks_by ear false x h = absurd h
blocks_by ear true x h = (refl, h)

-- an ear that reads no blocks
pub plain_ear : (held : Ear) (ear : PlainEar) (blocks : Bool) (x : List ℤ) → held ≡ Plain ear
    → EarStandsFor held blocks x → (blocks ≡ false) × PlainEarStandsFor ear x
plain_ear held ear blocks x is h = plain_by ear blocks x (subst (λ e. EarStandsFor e blocks x) is h)

-- and one that reads them
pub block_ear : (held : Ear) (ear : BlockEar) (blocks : Bool) (x : List ℤ) → held ≡ Blocks ear
    → EarStandsFor held blocks x → (blocks ≡ true) × BlockEarStandsFor ear x
block_ear held ear blocks x is h = blocks_by ear blocks x (subst (λ e. EarStandsFor e blocks x) is h)
