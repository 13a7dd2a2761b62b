-- What bench tells of a run that is over: its ticks, how many transmissions began and how many of them were lost, and
-- for each set-up of A, and then of B, what its host gave and got.
use Rattle.std.specs.Prelude.{◌≡◌, ℕ, ◌+◌, List, [], ◌∷◌, ◌++◌, length, codes, decimal, option_map}
use Rattle.std.specs.Int.{to_be_bytes, w64}
use Rattle.hex.specs.Hex.{encode_lower}
use Rattle.tnc_base.specs.Hash.{fnv_1a}
use Rattle.channel_access.specs.declared.modem.CheckOctets.{CheckOctets as ChannelOctets}
use Rattle.channel_access.specs.declared.modem.CheckOctets.TheVariants.{Sixteen as ChannelSixteen}
use Rattle.channel_access.specs.declared.modem.CheckOctets.TheVariants.{ThirtyTwo as ChannelThirtyTwo}
use Rattle.channel_access.specs.declared.modem.CheckOctets.TheVariants.{SixtyFour as ChannelSixtyFour}
use Rattle.channel_bench.specs.declared.report.SetUp.{SetUp}
use Rattle.channel_bench.specs.declared.words.BenchWords.{BenchWords}
use Rattle.channel_bench.specs.BenchRun.{IsOver}
use Rattle.channel_bench.specs.KeepsOrder.{KeepsOrder}
use Rattle.channel_bench.specs.Report.{Report}
use Rattle.tnc_words.specs.declared.command.BenchOptions.{BenchOptions}
use Rattle.tnc_words.specs.declared.command.CheckOctets.{CheckOctets}
use Rattle.tnc_words.specs.declared.command.CheckOctets.TheVariants.{Sixteen, ThirtyTwo, SixtyFour}

-- how many check octets the channel sends, as the options say it
abbrev pub octets_sent : CheckOctets → ChannelOctets
octets_sent Sixteen = ChannelSixteen
octets_sent ThirtyTwo = ChannelThirtyTwo
octets_sent SixtyFour = ChannelSixtyFour

-- the run that the options ask for
abbrev pub words_of : BenchOptions → BenchWords
words_of options = record {
  seed = options.seed;
  octets = options.octets;
  loss = options.loss;
  noise = options.noise;
  full = options.full;
  wide = options.wide;
  checks = option_map octets_sent options.checks;
}

-- the FNV-1a hash of octets, in 16 lower-case hexadecimal digits
abbrev pub hash_digits : List ℕ → List ℕ
hash_digits octets = encode_lower (to_be_bytes w64 (fnv_1a octets))

-- a side's set-up of this number: how many octets its host gave and got, each with their hash
unfoldable pub set_up_line : List ℕ → ℕ → SetUp → List ℕ
set_up_line side number set_up =
    side ++ (codes " " ++ (decimal number
    ++ (codes " given " ++ (decimal (length set_up.given) ++ (codes " " ++ (hash_digits set_up.given
    ++ (codes " got " ++ (decimal (length set_up.got) ++ (codes " " ++ (hash_digits set_up.got ++ 10 ∷ []))))))))))

-- a line for each set-up of a side, counted from a number
abbrev pub set_up_lines : List ℕ → ℕ → List SetUp → List ℕ
set_up_lines side number [] = []
set_up_lines side number (set_up ∷ set_ups) = set_up_line side number set_up ++ set_up_lines side (number + 1) set_ups

-- the counts, then the set-ups of A and of B
unfoldable pub report_text : Report → List ℕ
report_text report =
    codes "ticks " ++ (decimal report.ticks ++ (10 ∷ (codes "sent " ++ (decimal report.transmissions
    ++ (codes " lost " ++ (decimal report.lost ++ (10 ∷ (set_up_lines (codes "A") 1 report.a
    ++ set_up_lines (codes "B") 1 report.b))))))))

-- The text tells of a run that is over, which the options ask for. In each set-up a side got a first part of what the
-- other gave in the set-up that is its origin, and these come in order.
pub record IsReportOf (options : BenchOptions) (text : List ℕ) : Type 0 where
  pub report : Report
  pub over : IsOver (words_of options) report
  pub order : KeepsOrder (words_of options) report
  pub is : text ≡ report_text report
