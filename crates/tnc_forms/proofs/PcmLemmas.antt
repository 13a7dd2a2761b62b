-- Raw PCM, one piece after another.
use Rattle.tnc_forms.proofs.Common.{◌≡◌, List, ◌++◌, pcm}
use Rattle.std.proofs.Common.{ℤ}
use Rattle.std.proofs.lemmas.Grind.{flat_map-append}
use Rattle.tnc_forms.specs.Pcm.{sample_octets}

pub pcm-append : (xs ys : List ℤ) → pcm (xs ++ ys) ≡ pcm xs ++ pcm ys
unfolding pcm
pcm-append xs ys = flat_map-append sample_octets xs ys
