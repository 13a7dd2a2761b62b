-- Options of serve say one set of options.
use Rattle.tnc_words.proofs.Common.{◌≡◌, List, sym, ap, ◌∙◌, Row, HasServeOptions}
use Rattle.tnc_words.specs.declared.command.ServeOptions.{ServeOptions}
use Rattle.tnc_words.proofs.OneCarrier.{one_dcd}
use Rattle.tnc_words.proofs.OneChannel.{one_channel}
use Rattle.tnc_words.proofs.OneKey.{one_ptt}
use Rattle.tnc_words.proofs.OneLink.{one_call as one_digi, one_params}
use Rattle.tnc_words.proofs.OneNumber.{named_number, one_number}
use Rattle.tnc_words.proofs.OneModem.{one_station_modem}
use Rattle.tnc_words.proofs.OnePort.{one_address, one_port}
use Rattle.tnc_words.proofs.OneRate.{one_station_rate}

pub one_serve_options : (found : List Row) (serve other : ServeOptions) → HasServeOptions found serve
    → HasServeOptions found other → serve ≡ other
one_serve_options found serve other h k =
    let kiss = other.kiss in
    let agw = other.agw in
    let bind = other.bind in
    let seed = other.seed in
    let params = other.params in
    ap (λ v. record serve { kiss = v }) (one_port _ _ serve.kiss other.kiss h.kiss k.kiss)
    ∙ ap (λ v. record serve { kiss = kiss; agw = v }) (one_port _ _ serve.agw other.agw h.agw k.agw)
    ∙ ap (λ v. record serve { kiss = kiss; agw = agw; bind = v })
    (one_address _ serve.bind other.bind h.bind k.bind)
    ∙ ap (λ v. record serve { kiss = kiss; agw = agw; bind = bind; seed = v }) (named_number _ _ _ serve.seed other.seed h.seed k.seed)
    ∙ ap (λ v. record serve { kiss = kiss; agw = agw; bind = bind; seed = seed; params = v })
    (one_params found serve.params other.params h.params.said k.params.said)
    ∙ ap (λ v. record serve { kiss = kiss; agw = agw; bind = bind; seed = seed; params = params; channel = v })
    (one_channel found serve.channel other.channel h.channel k.channel)
    ∙ ap (λ v. record other {
      paclen = v;
      digi = serve.digi;
      dcd = serve.dcd;
      modem = serve.modem;
      rate = serve.rate;
      monitor = serve.monitor;
      stats = serve.stats;
      ptt = serve.ptt;
    })
    (one_number _ _ _ _ _ _ h.paclen k.paclen)
    ∙ ap (λ v. record other {
      digi = v;
      dcd = serve.dcd;
      modem = serve.modem;
      rate = serve.rate;
      monitor = serve.monitor;
      stats = serve.stats;
      ptt = serve.ptt;
    })
    (one_digi _ serve.digi other.digi h.digi k.digi)
    ∙ ap (λ v. record other {
      dcd = v;
      modem = serve.modem;
      rate = serve.rate;
      monitor = serve.monitor;
      stats = serve.stats;
      ptt = serve.ptt;
    })
    (one_dcd _ _ serve.dcd other.dcd h.dcd k.dcd)
    ∙ ap (λ v. record other {
      modem = v;
      rate = serve.rate;
      monitor = serve.monitor;
      stats = serve.stats;
      ptt = serve.ptt;
    })
    (one_station_modem _ _ _ serve.modem other.modem h.modem k.modem)
    ∙ ap (λ v. record other { rate = v; monitor = serve.monitor; stats = serve.stats; ptt = serve.ptt })
    (one_station_rate _ _ serve.rate other.rate h.rate k.rate)
    ∙ ap (λ v. record other { monitor = v; stats = serve.stats; ptt = serve.ptt }) (h.monitor ∙ sym k.monitor)
    ∙ ap (λ v. record other { stats = v; ptt = serve.ptt }) (named_number _ _ _ serve.stats other.stats h.stats k.stats)
    ∙ ap (λ v. record other { ptt = v }) (one_ptt _ _ _ serve.ptt other.ptt h.ptt k.ptt)
