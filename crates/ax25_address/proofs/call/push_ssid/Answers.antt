use Rattle.ax25_address.proofs.Common.{arith, common_steps, decimal_digit}
use Rattle.ax25_address.proofs.SsidLemmas.{decimal_two_digits}
use Rattle.ax25_address.proofs.call.push_ssid.Goals as goal

pub returns-then-ssid-lt10 : goal.returns-then-ssid-lt10
returns-then-ssid-lt10 c = grind (arith, common_steps, decimal_digit)

pub returns : goal.returns
returns c = grind (arith, common_steps, decimal_two_digits)
