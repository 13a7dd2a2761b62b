-- Words ask for one command.
use Rattle.tnc_words.proofs.Common.{◌≡◌, ℕ, ◌+◌, false, Option, Some, List, ◌∷◌, codes, refl, sym, ap, ◌∙◌, arith}
use Rattle.tnc_words.proofs.Common.{eqb-false, eqb, Row, Text, Command, Help, Version, Receiving, Standard, Sensitive}
use Rattle.tnc_words.proofs.Common.{ShortWave, SensitiveShortWave, Fx25, Topic, Asks, IsDecode, IsEncode, IsShow}
use Rattle.tnc_words.proofs.Common.{IsLoop, SensitiveFx25}
use Rattle.tnc_words.proofs.Common.{IsBench, first_word, HasDecodeOptions, HasEncodeOptions, HasShowOptions}
use Rattle.tnc_words.proofs.Common.{HasLoopOptions, HasBenchOptions, HasRecordOptions, HasCallOptions}
use Rattle.tnc_words.proofs.Common.{IsRecord, IsHelp, IsVersion, HasReceiving}
use Rattle.std.proofs.Common.{◌*◌}
use Rattle.std.proofs.lemmas.Bool.{true≢false}
use Rattle.ax25_frames.specs.ControlField.{numbers}
use Rattle.ax25_frames.specs.declared.frame.Modulus.{Modulus}
use Rattle.ax25_frames.specs.declared.frame.Modulus.TheVariants.{Eight, OneTwentyEight}
use Rattle.tnc_words.specs.declared.command.Command.TheVariants.{Decode, Encode, Show, Loop, Bench, Serve, Record, Call}
use Rattle.tnc_words.specs.declared.command.DecodeWords.{DecodeWords}
use Rattle.tnc_words.specs.declared.command.EncodeWords.{EncodeWords}
use Rattle.tnc_words.specs.declared.command.ShowWords.{ShowWords}
use Rattle.tnc_words.specs.declared.command.LoopWords.{LoopWords}
use Rattle.tnc_words.specs.declared.command.BenchOptions.{BenchOptions}
use Rattle.tnc_words.specs.declared.command.ServeOptions.{ServeOptions}
use Rattle.tnc_words.specs.declared.command.RecordOptions.{RecordOptions}
use Rattle.tnc_words.specs.declared.command.CallOptions.{CallOptions}
use Rattle.tnc_words.specs.Commands.{IsServe, IsCall}
use Rattle.tnc_words.proofs.AskedHelp.{help_alone, help_is_no_version, one_topic, version_alone}
use Rattle.tnc_words.proofs.CallLists.{one_given_call, one_repeaters}
use Rattle.tnc_words.proofs.OneModem.{one_count_sent, one_modem}
use Rattle.tnc_words.proofs.OneNumber.{given_number, one_number}
use Rattle.tnc_words.proofs.OneRate.{one_rate}
use Rattle.tnc_words.proofs.OneServe.{one_serve_options}

eight_is_not : (n : ℕ) → n ≡ 128 → 8 ≡ n → ⊥
eight_is_not n is same = omega arith

-- a modulus is known by its number
one_modulus : (modulus other : Modulus) → numbers modulus ≡ numbers other → modulus ≡ other
one_modulus Eight Eight h = refl
one_modulus Eight OneTwentyEight h = absurd (eight_is_not 128 refl h)
one_modulus OneTwentyEight Eight h = absurd (eight_is_not 128 refl (sym h))
one_modulus OneTwentyEight OneTwentyEight h = refl

one_receiving : (found : List Row) (receiving other : Receiving) → HasReceiving found receiving
    → HasReceiving found other → receiving ≡ other
one_receiving found (Standard rate) (Standard other) h k =
    ap Standard (one_rate found rate other h.3 k.3)
one_receiving found (Standard rate) (Sensitive other) h k = absurd (true≢false (sym k.1 ∙ h.1))
one_receiving found (Standard rate) ShortWave h k = absurd (true≢false (sym k.0 ∙ h.0))
one_receiving found (Standard rate) SensitiveShortWave h k = absurd (true≢false (sym k.0 ∙ h.0))
one_receiving found (Standard rate) Fx25 h k = absurd (true≢false (sym k.2 ∙ h.2))
one_receiving found (Standard rate) SensitiveFx25 h k = absurd (true≢false (sym k.2 ∙ h.2))
one_receiving found (Sensitive rate) (Standard other) h k = absurd (true≢false (sym h.1 ∙ k.1))
one_receiving found (Sensitive rate) (Sensitive other) h k =
    ap Sensitive (one_rate found rate other h.3 k.3)
one_receiving found (Sensitive rate) ShortWave h k = absurd (true≢false (sym k.0 ∙ h.0))
one_receiving found (Sensitive rate) SensitiveShortWave h k = absurd (true≢false (sym k.0 ∙ h.0))
one_receiving found (Sensitive rate) Fx25 h k = absurd (true≢false (sym h.1 ∙ k.1))
one_receiving found (Sensitive rate) SensitiveFx25 h k = absurd (true≢false (sym k.2 ∙ h.2))
one_receiving found ShortWave (Standard other) h k = absurd (true≢false (sym h.0 ∙ k.0))
one_receiving found ShortWave (Sensitive other) h k = absurd (true≢false (sym h.0 ∙ k.0))
one_receiving found ShortWave ShortWave h k = refl
one_receiving found ShortWave SensitiveShortWave h k = absurd (true≢false (sym k.1 ∙ h.1))
one_receiving found ShortWave Fx25 h k = absurd (true≢false (sym h.0 ∙ k.0))
one_receiving found ShortWave SensitiveFx25 h k = absurd (true≢false (sym h.0 ∙ k.0))
one_receiving found SensitiveShortWave (Standard other) h k = absurd (true≢false (sym h.0 ∙ k.0))
one_receiving found SensitiveShortWave (Sensitive other) h k = absurd (true≢false (sym h.0 ∙ k.0))
one_receiving found SensitiveShortWave ShortWave h k = absurd (true≢false (sym h.1 ∙ k.1))
one_receiving found SensitiveShortWave SensitiveShortWave h k = refl
one_receiving found SensitiveShortWave Fx25 h k = absurd (true≢false (sym h.0 ∙ k.0))
one_receiving found SensitiveShortWave SensitiveFx25 h k = absurd (true≢false (sym h.0 ∙ k.0))
one_receiving found Fx25 (Standard other) h k = absurd (true≢false (sym h.2 ∙ k.2))
one_receiving found Fx25 (Sensitive other) h k = absurd (true≢false (sym k.1 ∙ h.1))
one_receiving found Fx25 ShortWave h k = absurd (true≢false (sym k.0 ∙ h.0))
one_receiving found Fx25 SensitiveShortWave h k = absurd (true≢false (sym k.0 ∙ h.0))
one_receiving found Fx25 Fx25 h k = refl
one_receiving found Fx25 SensitiveFx25 h k = absurd (true≢false (sym k.1 ∙ h.1))
one_receiving found SensitiveFx25 (Standard other) h k = absurd (true≢false (sym h.2 ∙ k.2))
one_receiving found SensitiveFx25 (Sensitive other) h k = absurd (true≢false (sym h.2 ∙ k.2))
one_receiving found SensitiveFx25 ShortWave h k = absurd (true≢false (sym k.0 ∙ h.0))
one_receiving found SensitiveFx25 SensitiveShortWave h k = absurd (true≢false (sym k.0 ∙ h.0))
one_receiving found SensitiveFx25 Fx25 h k = absurd (true≢false (sym h.1 ∙ k.1))
one_receiving found SensitiveFx25 SensitiveFx25 h k = refl

-- ---- what was found gives one set of options

one_decode_options : (found : List Row) (decode other : DecodeWords) → HasDecodeOptions found decode
    → HasDecodeOptions found other → decode ≡ other
one_decode_options found decode other h k =
    ap (λ v. record decode { audio = v }) (h.audio ∙ sym k.audio)
    ∙ ap (λ v. record decode { audio = other.audio; frames = v }) (h.frames ∙ sym k.frames)
    ∙ ap (λ v. record decode { audio = other.audio; frames = other.frames; threads = v }) (h.threads ∙ sym k.threads)
    ∙ ap (λ v. record other { receiving = v })
    (one_receiving found decode.receiving other.receiving h.receiving k.receiving)

one_encode_options : (found : List Row) (encode other : EncodeWords) → HasEncodeOptions found encode
    → HasEncodeOptions found other → encode ≡ other
one_encode_options found encode other h k =
    let frames = other.frames in
    let audio = other.audio in
    let join = other.join in
    let opening = other.opening in
    let closing = other.closing in
    let silence = other.silence in
    ap (λ v. record encode { frames = v }) (h.frames ∙ sym k.frames)
    ∙ ap (λ v. record encode { frames = frames; audio = v }) (h.audio ∙ sym k.audio)
    ∙ ap (λ v. record encode { frames = frames; audio = audio; join = v }) (h.join ∙ sym k.join)
    ∙ ap (λ v. record encode { frames = frames; audio = audio; join = join; opening = v })
    (one_number _ _ _ _ _ _ h.opening k.opening)
    ∙ ap (λ v. record encode { frames = frames; audio = audio; join = join; opening = opening; closing = v })
    (one_number _ _ _ _ _ _ h.closing k.closing)
    ∙ ap (λ v. record encode {
      frames = frames;
      audio = audio;
      join = join;
      opening = opening;
      closing = closing;
      silence = v;
    })
    (one_number _ _ _ _ _ _ h.silence k.silence)
    ∙ ap (λ v. record other { level = v; modem = encode.modem }) (one_number _ _ _ _ _ _ h.level k.level)
    ∙ ap (λ v. record other { modem = v }) (one_modem found encode.modem other.modem h.modem k.modem)

one_show_options : (found : List Row) (show other : ShowWords) → HasShowOptions found show
    → HasShowOptions found other → show ≡ other
one_show_options found show other h k =
    ap (λ v. record { modulus = v }) (one_modulus show.modulus other.modulus
    (one_number _ _ _ _ _ _ h.modulus k.modulus))

one_loop_options : (found : List Row) (run other : LoopWords) → HasLoopOptions found run
    → HasLoopOptions found other → run ≡ other
one_loop_options found run other h k =
    ap (λ v. record run { seed = v }) (given_number _ _ _ _ _ h.seed k.seed)
    ∙ ap (λ v. record run { seed = other.seed; frames = v }) (given_number _ _ _ _ _ h.frames k.frames)
    ∙ ap (λ v. record run { seed = other.seed; frames = other.frames; rough = v }) (h.rough ∙ sym k.rough)
    ∙ ap (λ v. record other { threads = v }) (h.threads ∙ sym k.threads)

one_bench_options : (found : List Row) (bench other : BenchOptions) → HasBenchOptions found bench
    → HasBenchOptions found other → bench ≡ other
one_bench_options found bench other h k =
    let seed = other.seed in
    let octets = other.octets in
    let loss = other.loss in
    let noise = other.noise in
    ap (λ v. record bench { seed = v }) (given_number _ _ _ _ _ h.seed k.seed)
    ∙ ap (λ v. record bench { seed = seed; octets = v }) (one_number _ _ _ _ _ _ h.octets k.octets)
    ∙ ap (λ v. record bench { seed = seed; octets = octets; loss = v }) (one_number _ _ _ _ _ _ h.loss k.loss)
    ∙ ap (λ v. record bench { seed = seed; octets = octets; loss = loss; noise = v })
    (one_number _ _ _ _ _ _ h.noise k.noise)
    ∙ ap (λ v. record bench { seed = seed; octets = octets; loss = loss; noise = noise; full = v }) (h.full
    ∙ sym k.full)
    ∙ ap (λ v. record other { wide = v; checks = bench.checks }) (h.wide ∙ sym k.wide)
    ∙ ap (λ v. record other { checks = v })
    (one_count_sent bench.checks other.checks (one_number _ _ _ _ _ _ h.checks k.checks))

one_record_options : (found : List Row) (recorder other : RecordOptions) → HasRecordOptions found recorder
    → HasRecordOptions found other → recorder ≡ other
one_record_options found recorder other h k =
    ap (λ v. record recorder { keep = v }) (one_number _ _ _ _ _ _ h.keep k.keep)
    ∙ ap (λ v. record other { sensitive = v }) (h.sensitive ∙ sym k.sensitive)

one_call_options : (found : List Row) (call other : CallOptions) → HasCallOptions found call
    → HasCallOptions found other → call ≡ other
one_call_options found call other h k =
    let agw = other.agw in
    let own = other.own in
    let remote = other.remote in
    let via = other.via in
    ap (λ v. record call { agw = v }) (given_number _ _ _ _ _ h.agw k.agw)
    ∙ ap (λ v. record call { agw = agw; own = v }) (one_given_call _ call.own other.own h.own k.own)
    ∙ ap (λ v. record call { agw = agw; own = own; remote = v })
    (one_given_call _ call.remote other.remote h.remote k.remote)
    ∙ ap (λ v. record call { agw = agw; own = own; remote = remote; via = record { items = v } })
    (one_repeaters _ call.via.items other.via.items h.via k.via)
    ∙ ap (λ v. record call { agw = agw; own = own; remote = remote; via = via; expect = v })
    (one_number _ _ _ _ _ _ h.expect k.expect)
    ∙ ap (λ v. record other { polls = v }) (one_number _ _ _ _ _ _ h.polls k.polls)

-- ---- words give one set of options

pub one_decode : (words : List Text) (decode other : DecodeWords) → IsDecode words decode → IsDecode words other
    → decode ≡ other
one_decode words decode other h k = one_decode_options _ decode other h.options k.options

pub one_encode : (words : List Text) (encode other : EncodeWords) → IsEncode words encode → IsEncode words other
    → encode ≡ other
one_encode words encode other h k = one_encode_options _ encode other h.options k.options

pub one_show : (words : List Text) (show other : ShowWords) → IsShow words show → IsShow words other → show ≡ other
one_show words show other h k = one_show_options _ show other h.options k.options

pub one_loop : (words : List Text) (run other : LoopWords) → IsLoop words run → IsLoop words other → run ≡ other
one_loop words run other h k = one_loop_options _ run other h.options k.options

pub one_bench : (words : List Text) (bench other : BenchOptions) → IsBench words bench → IsBench words other
    → bench ≡ other
one_bench words bench other h k = one_bench_options _ bench other h.options k.options

pub one_serve : (words : List Text) (serve other : ServeOptions) → IsServe words serve → IsServe words other
    → serve ≡ other
one_serve words serve other h k = one_serve_options _ serve other h.options k.options

pub one_record : (words : List Text) (recorder other : RecordOptions) → IsRecord words recorder → IsRecord words other
    → recorder ≡ other
one_record words recorder other h k = one_record_options _ recorder other h.options k.options

pub one_call : (words : List Text) (call other : CallOptions) → IsCall words call → IsCall words other → call ≡ other
one_call words call other h k = one_call_options _ call other h.options k.options

-- ---- words ask for one command

-- the first two letters as one number
abbrev pub first_letters : Option Text → ℕ
first_letters (Some (first ∷ second ∷ rest)) = 256 * first + second
first_letters _ = 0

-- words that begin with one name do not begin with another where already the first two letters differ, as those of the
-- eight commands do
pub apart : (words : List Text) (name other : Text) → first_word words ≡ Some name → first_word words ≡ Some other
    → eqb (first_letters (Some name)) (first_letters (Some other)) ≡ false → ⊥
apart words name other h k differ = eqb-false _ _ differ (ap first_letters (sym h ∙ k))

-- words that name decode, and are no decode, ask for nothing
pub no_decode : (words : List Text) → first_word words ≡ Some (codes "decode")
    → ((topic : Topic) → IsHelp words topic → ⊥) → (IsVersion words → ⊥)
    → ((decode : DecodeWords) → IsDecode words decode → ⊥) → (command : Command) → Asks words command → ⊥
no_decode words is no_help no_version h (Decode decode) k = h decode k
no_decode words is no_help no_version h (Encode encode) k = apart words _ _ is k.named refl
no_decode words is no_help no_version h (Show show) k = apart words _ _ is k.named refl
no_decode words is no_help no_version h (Loop run) k = apart words _ _ is k.named refl
no_decode words is no_help no_version h (Bench bench) k = apart words _ _ is k.named refl
no_decode words is no_help no_version h (Serve serve) k = apart words _ _ is k.named refl
no_decode words is no_help no_version h (Record recorder) k = apart words _ _ is k.named refl
no_decode words is no_help no_version h (Call call) k = apart words _ _ is k.named refl
no_decode words is no_help no_version h (Help topic) k = no_help topic k
no_decode words is no_help no_version h Version k = no_version k

-- words ask for one command
pub one_command : (words : List Text) (command other : Command) → Asks words command → Asks words other
    → command ≡ other
one_command words (Decode decode) (Decode other) h k = ap Decode (one_decode words decode other h k)
one_command words (Decode decode) (Encode encode) h k = absurd (apart words _ _ h.named k.named refl)
one_command words (Decode decode) (Show show) h k = absurd (apart words _ _ h.named k.named refl)
one_command words (Decode decode) (Loop run) h k = absurd (apart words _ _ h.named k.named refl)
one_command words (Decode decode) (Bench bench) h k = absurd (apart words _ _ h.named k.named refl)
one_command words (Decode decode) (Serve serve) h k = absurd (apart words _ _ h.named k.named refl)
one_command words (Decode decode) (Record recorder) h k = absurd (apart words _ _ h.named k.named refl)
one_command words (Decode decode) (Call call) h k = absurd (apart words _ _ h.named k.named refl)
one_command words (Decode decode) (Help topic) h k = absurd (help_alone words topic (Decode decode) k tt h)
one_command words (Decode decode) Version h k = absurd (version_alone words (Decode decode) k tt h)
one_command words (Encode encode) (Decode decode) h k = absurd (apart words _ _ h.named k.named refl)
one_command words (Encode encode) (Encode other) h k = ap Encode (one_encode words encode other h k)
one_command words (Encode encode) (Show show) h k = absurd (apart words _ _ h.named k.named refl)
one_command words (Encode encode) (Loop run) h k = absurd (apart words _ _ h.named k.named refl)
one_command words (Encode encode) (Bench bench) h k = absurd (apart words _ _ h.named k.named refl)
one_command words (Encode encode) (Serve serve) h k = absurd (apart words _ _ h.named k.named refl)
one_command words (Encode encode) (Record recorder) h k = absurd (apart words _ _ h.named k.named refl)
one_command words (Encode encode) (Call call) h k = absurd (apart words _ _ h.named k.named refl)
one_command words (Encode encode) (Help topic) h k = absurd (help_alone words topic (Encode encode) k tt h)
one_command words (Encode encode) Version h k = absurd (version_alone words (Encode encode) k tt h)
one_command words (Show show) (Decode decode) h k = absurd (apart words _ _ h.named k.named refl)
one_command words (Show show) (Encode encode) h k = absurd (apart words _ _ h.named k.named refl)
one_command words (Show show) (Show other) h k = ap Show (one_show words show other h k)
one_command words (Show show) (Loop run) h k = absurd (apart words _ _ h.named k.named refl)
one_command words (Show show) (Bench bench) h k = absurd (apart words _ _ h.named k.named refl)
one_command words (Show show) (Serve serve) h k = absurd (apart words _ _ h.named k.named refl)
one_command words (Show show) (Record recorder) h k = absurd (apart words _ _ h.named k.named refl)
one_command words (Show show) (Call call) h k = absurd (apart words _ _ h.named k.named refl)
one_command words (Show show) (Help topic) h k = absurd (help_alone words topic (Show show) k tt h)
one_command words (Show show) Version h k = absurd (version_alone words (Show show) k tt h)
one_command words (Loop run) (Decode decode) h k = absurd (apart words _ _ h.named k.named refl)
one_command words (Loop run) (Encode encode) h k = absurd (apart words _ _ h.named k.named refl)
one_command words (Loop run) (Show show) h k = absurd (apart words _ _ h.named k.named refl)
one_command words (Loop run) (Loop other) h k = ap Loop (one_loop words run other h k)
one_command words (Loop run) (Bench bench) h k = absurd (apart words _ _ h.named k.named refl)
one_command words (Loop run) (Serve serve) h k = absurd (apart words _ _ h.named k.named refl)
one_command words (Loop run) (Record recorder) h k = absurd (apart words _ _ h.named k.named refl)
one_command words (Loop run) (Call call) h k = absurd (apart words _ _ h.named k.named refl)
one_command words (Loop run) (Help topic) h k = absurd (help_alone words topic (Loop run) k tt h)
one_command words (Loop run) Version h k = absurd (version_alone words (Loop run) k tt h)
one_command words (Bench bench) (Decode decode) h k = absurd (apart words _ _ h.named k.named refl)
one_command words (Bench bench) (Encode encode) h k = absurd (apart words _ _ h.named k.named refl)
one_command words (Bench bench) (Show show) h k = absurd (apart words _ _ h.named k.named refl)
one_command words (Bench bench) (Loop run) h k = absurd (apart words _ _ h.named k.named refl)
one_command words (Bench bench) (Bench other) h k = ap Bench (one_bench words bench other h k)
one_command words (Bench bench) (Serve serve) h k = absurd (apart words _ _ h.named k.named refl)
one_command words (Bench bench) (Record recorder) h k = absurd (apart words _ _ h.named k.named refl)
one_command words (Bench bench) (Call call) h k = absurd (apart words _ _ h.named k.named refl)
one_command words (Bench bench) (Help topic) h k = absurd (help_alone words topic (Bench bench) k tt h)
one_command words (Bench bench) Version h k = absurd (version_alone words (Bench bench) k tt h)
one_command words (Serve serve) (Decode decode) h k = absurd (apart words _ _ h.named k.named refl)
one_command words (Serve serve) (Encode encode) h k = absurd (apart words _ _ h.named k.named refl)
one_command words (Serve serve) (Show show) h k = absurd (apart words _ _ h.named k.named refl)
one_command words (Serve serve) (Loop run) h k = absurd (apart words _ _ h.named k.named refl)
one_command words (Serve serve) (Bench bench) h k = absurd (apart words _ _ h.named k.named refl)
one_command words (Serve serve) (Serve other) h k = ap Serve (one_serve words serve other h k)
one_command words (Serve serve) (Record recorder) h k = absurd (apart words _ _ h.named k.named refl)
one_command words (Serve serve) (Call call) h k = absurd (apart words _ _ h.named k.named refl)
one_command words (Serve serve) (Help topic) h k = absurd (help_alone words topic (Serve serve) k tt h)
one_command words (Serve serve) Version h k = absurd (version_alone words (Serve serve) k tt h)
one_command words (Record recorder) (Decode decode) h k = absurd (apart words _ _ h.named k.named refl)
one_command words (Record recorder) (Encode encode) h k = absurd (apart words _ _ h.named k.named refl)
one_command words (Record recorder) (Show show) h k = absurd (apart words _ _ h.named k.named refl)
one_command words (Record recorder) (Loop run) h k = absurd (apart words _ _ h.named k.named refl)
one_command words (Record recorder) (Bench bench) h k = absurd (apart words _ _ h.named k.named refl)
one_command words (Record recorder) (Serve serve) h k = absurd (apart words _ _ h.named k.named refl)
one_command words (Record recorder) (Record other) h k = ap Record (one_record words recorder other h k)
one_command words (Record recorder) (Call call) h k = absurd (apart words _ _ h.named k.named refl)
one_command words (Record recorder) (Help topic) h k = absurd (help_alone words topic (Record recorder) k tt h)
one_command words (Record recorder) Version h k = absurd (version_alone words (Record recorder) k tt h)
one_command words (Call call) (Decode decode) h k = absurd (apart words _ _ h.named k.named refl)
one_command words (Call call) (Encode encode) h k = absurd (apart words _ _ h.named k.named refl)
one_command words (Call call) (Show show) h k = absurd (apart words _ _ h.named k.named refl)
one_command words (Call call) (Loop run) h k = absurd (apart words _ _ h.named k.named refl)
one_command words (Call call) (Bench bench) h k = absurd (apart words _ _ h.named k.named refl)
one_command words (Call call) (Serve serve) h k = absurd (apart words _ _ h.named k.named refl)
one_command words (Call call) (Record recorder) h k = absurd (apart words _ _ h.named k.named refl)
one_command words (Call call) (Call other) h k = ap Call (one_call words call other h k)
one_command words (Call call) (Help topic) h k = absurd (help_alone words topic (Call call) k tt h)
one_command words (Call call) Version h k = absurd (version_alone words (Call call) k tt h)
one_command words (Help topic) (Decode decode) h k = absurd (help_alone words topic (Decode decode) h tt k)
one_command words (Help topic) (Encode encode) h k = absurd (help_alone words topic (Encode encode) h tt k)
one_command words (Help topic) (Show show) h k = absurd (help_alone words topic (Show show) h tt k)
one_command words (Help topic) (Loop run) h k = absurd (help_alone words topic (Loop run) h tt k)
one_command words (Help topic) (Bench bench) h k = absurd (help_alone words topic (Bench bench) h tt k)
one_command words (Help topic) (Serve serve) h k = absurd (help_alone words topic (Serve serve) h tt k)
one_command words (Help topic) (Record recorder) h k = absurd (help_alone words topic (Record recorder) h tt k)
one_command words (Help topic) (Call call) h k = absurd (help_alone words topic (Call call) h tt k)
one_command words (Help topic) (Help other) h k = ap Help (one_topic words topic other h k)
one_command words (Help topic) Version h k = absurd (help_is_no_version words topic h k)
one_command words Version (Decode decode) h k = absurd (version_alone words (Decode decode) h tt k)
one_command words Version (Encode encode) h k = absurd (version_alone words (Encode encode) h tt k)
one_command words Version (Show show) h k = absurd (version_alone words (Show show) h tt k)
one_command words Version (Loop run) h k = absurd (version_alone words (Loop run) h tt k)
one_command words Version (Bench bench) h k = absurd (version_alone words (Bench bench) h tt k)
one_command words Version (Serve serve) h k = absurd (version_alone words (Serve serve) h tt k)
one_command words Version (Record recorder) h k = absurd (version_alone words (Record recorder) h tt k)
one_command words Version (Call call) h k = absurd (version_alone words (Call call) h tt k)
one_command words Version (Help topic) h k = absurd (help_is_no_version words topic k h)
one_command words Version Version h k = refl
