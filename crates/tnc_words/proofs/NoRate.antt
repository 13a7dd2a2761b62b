-- Words that name no rate ask for no way of hearing, and no station has one.
use Rattle.tnc_words.proofs.Common.{List, Row, Receiving, Standard, Sensitive, ShortWave, SensitiveShortWave, Fx25}
use Rattle.tnc_words.proofs.Common.{SampleRate, Narrow, SensitiveFx25}
use Rattle.tnc_words.proofs.Common.{HasNumber, HasReceiving, Option, Some, None, Text, samples_a_second}
use Rattle.tnc_words.specs.Rates.{HasRate, HasStationRate}

pub no_rate : (found : List Row) → ((rate : SampleRate) → HasRate found rate → ⊥) → (receiving : Receiving)
    → HasReceiving found receiving → ⊥
no_rate found none (Standard rate) h = none rate h.3
no_rate found none (Sensitive rate) h = none rate h.3
no_rate found none ShortWave h = none Narrow h.4
no_rate found none SensitiveShortWave h = none Narrow h.4
no_rate found none Fx25 h = none Narrow h.3
no_rate found none SensitiveFx25 h = none Narrow h.3

pub no_station_rate : (text checks : Option Text)
    → ((rate : SampleRate) → HasNumber text 9600 9600 48000 (samples_a_second rate) → ⊥) → (rate : SampleRate)
    → HasStationRate text checks rate → ⊥
no_station_rate text None none rate h = none rate h
no_station_rate text (Some checks) none rate h = none Narrow h.1
