-- What the bench makes of random words.
use Rattle.std.specs.Prelude.{ℕ, ◌+◌, ◌*◌, ◌/◌, ◌%◌, ◌^◌, ◌≤◌, List, map}
use Rattle.channel_access.specs.Words.{generator_of, words}
use Rattle.link_world.specs.declared.end.End.{End}
use Rattle.link_world.specs.declared.end.End.TheVariants.{A, B}
use Rattle.channel_bench.specs.declared.words.BenchWords.{BenchWords}

-- so many octets, each the low eight bits of a word
unfoldable pub text_of : ℕ → ℕ → ℕ → List ℕ
text_of seed stream count = map (λ word. word % 256) (words count (generator_of seed stream))

-- the streams of losses and of noise, and of the text at each station
abbrev pub loss_stream : ℕ
loss_stream = 2

abbrev pub text_stream : End → ℕ
text_stream A = 3
text_stream B = 4

-- what the host program at a station gives in each set-up
abbrev pub text_at : BenchWords → End → List ℕ
text_at w end = text_of w.seed (text_stream end) w.octets

-- the seed of a station; B has the next one
abbrev pub seed_at : BenchWords → End → ℕ
seed_at w A = w.seed
seed_at w B = (w.seed + 1) % 2 ^ 64

-- the ranges of the words
pub record AreInRange (w : BenchWords) : Type 0 where
  pub octets : w.octets ≤ 100000
  pub loss : w.loss ≤ 90
  pub noise : w.noise ≤ 2000

-- the most ticks that a run may take: 60,000, and 3,000 more for each 256 octets that are begun
abbrev pub most_ticks : ℕ → ℕ
most_ticks octets = 60000 + 3000 * ((octets + 255) / 256)
