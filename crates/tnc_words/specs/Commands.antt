-- The command that the words after the program's name ask for. The first word names it, and clap reads the rest.
use Rattle.std.specs.Prelude.{◌≡◌, ◌^◌, ◌-◌, List, [], Option, Some, codes, slice_get}
use Rattle.clap.specs.Words.{Row, Text, first_of}
use Rattle.ax25_frames.specs.ControlField.{numbers}
use Rattle.tnc_words.specs.declared.command.Command.{Command}
use Rattle.tnc_words.specs.declared.command.Command.TheVariants.{Decode, Encode, Show, Loop, Bench, Serve, Help}
use Rattle.tnc_words.specs.declared.command.Command.TheVariants.{Record, Call, Version}
use Rattle.tnc_words.specs.declared.command.DecodeWords.{DecodeWords}
use Rattle.tnc_words.specs.declared.command.EncodeWords.{EncodeWords}
use Rattle.tnc_words.specs.declared.command.ShowWords.{ShowWords}
use Rattle.tnc_words.specs.declared.command.LoopWords.{LoopWords}
use Rattle.tnc_words.specs.declared.command.BenchOptions.{BenchOptions}
use Rattle.tnc_words.specs.declared.command.ServeOptions.{ServeOptions}
use Rattle.tnc_words.specs.declared.command.RecordOptions.{RecordOptions}
use Rattle.tnc_words.specs.declared.command.CallOptions.{CallOptions}
use Rattle.tnc_words.specs.Options.{decode_faults, encode_faults, show_faults, loop_faults, bench_faults, serve_faults}
use Rattle.tnc_words.specs.Options.{record_faults, record_rows, call_faults, call_rows}
use Rattle.tnc_words.specs.Options.{decode_rows, encode_rows, show_rows, loop_rows, bench_rows, serve_rows, is_used}
use Rattle.tnc_words.specs.Help.{IsHelp, IsVersion}
use Rattle.tnc_words.specs.Forms.{audio_form, frame_form}
use Rattle.tnc_words.specs.Rates.{HasStationRate, HasReceiving}
use Rattle.tnc_words.specs.Links.{HasCall, HasParams}
use Rattle.tnc_words.specs.Carriers.{HasDcd, is_by_flags}
use Rattle.tnc_words.specs.Keys.{HasPtt}
use Rattle.tnc_words.specs.Numbers.{GivesNumber, HasNumber, NamesNumber}
use Rattle.tnc_words.specs.Ports.{HasAddress, HasPort}
use Rattle.tnc_words.specs.Channels.{HasChannel}
use Rattle.tnc_words.specs.StationModems.{HasStationModem, count_sent}
use Rattle.tnc_words.specs.Stations.{GivesCall, HasRepeaters}
use Rattle.tnc_words.specs.Sending.{HasModem}

abbrev pub first_word : List Text → Option Text
first_word words = slice_get words 0

-- The options of decode. The rate is read also with --wav, if the file tells its own.
pub record HasDecodeOptions (found : List Row) (decode : DecodeWords) : Type 0 where
  pub audio : decode.audio ≡ audio_form found
  pub frames : decode.frames ≡ frame_form found
  pub threads : decode.threads ≡ is_used (codes "threads") found
  pub receiving : HasReceiving found decode.receiving

-- decode with these options
pub record IsDecode (words : List Text) (decode : DecodeWords) : Type 0 where
  pub named : first_word words ≡ Some (codes "decode")
  pub taken : decode_faults words ≡ []
  pub options : HasDecodeOptions (decode_rows words) decode

-- The options of encode. If no other number was given, 75 flags open a transmission, 2 close it, no silence stands
-- before it, and its level is 10000.
pub record HasEncodeOptions (found : List Row) (encode : EncodeWords) : Type 0 where
  pub frames : encode.frames ≡ frame_form found
  pub audio : encode.audio ≡ audio_form found
  pub join : encode.join ≡ is_used (codes "join") found
  pub opening : HasNumber (first_of (codes "opening") found) 75 2 10000 encode.opening
  pub closing : HasNumber (first_of (codes "closing") found) 2 1 10000 encode.closing
  pub silence : HasNumber (first_of (codes "silence") found) 0 0 1000000 encode.silence
  pub level : HasNumber (first_of (codes "level") found) 10000 10 32767 encode.level
  pub modem : HasModem found encode.modem

-- encode with these options
pub record IsEncode (words : List Text) (encode : EncodeWords) : Type 0 where
  pub named : first_word words ≡ Some (codes "encode")
  pub taken : encode_faults words ≡ []
  pub options : HasEncodeOptions (encode_rows words) encode

-- The option of show: a modulus by how many sequence numbers it has, and 8 if none was given.
pub record HasShowOptions (found : List Row) (show : ShowWords) : Type 0 where
  pub modulus : HasNumber (first_of (codes "modulo") found) 8 8 128 (numbers show.modulus)

-- show with this option
pub record IsShow (words : List Text) (show : ShowWords) : Type 0 where
  pub named : first_word words ≡ Some (codes "show")
  pub taken : show_faults words ≡ []
  pub options : HasShowOptions (show_rows words) show

-- The options of loop. Its numbers have no default.
pub record HasLoopOptions (found : List Row) (loop : LoopWords) : Type 0 where
  pub seed : GivesNumber (first_of (codes "seed") found) 0 (2 ^ 64 - 1) loop.seed
  pub frames : GivesNumber (first_of (codes "frames") found) 0 1000 loop.frames
  pub rough : loop.rough ≡ is_used (codes "rough") found
  pub threads : loop.threads ≡ is_used (codes "threads") found

-- loop with these options
pub record IsLoop (words : List Text) (loop : LoopWords) : Type 0 where
  pub named : first_word words ≡ Some (codes "loop")
  pub taken : loop_faults words ≡ []
  pub options : HasLoopOptions (loop_rows words) loop

-- The options of bench. Its seed has no default. If no other number was given, each host gives 2000 octets, no
-- transmission is lost, there is no noise, and no check octets are sent.
pub record HasBenchOptions (found : List Row) (bench : BenchOptions) : Type 0 where
  pub seed : GivesNumber (first_of (codes "seed") found) 0 (2 ^ 64 - 1) bench.seed
  pub octets : HasNumber (first_of (codes "octets") found) 2000 0 100000 bench.octets
  pub loss : HasNumber (first_of (codes "loss") found) 0 0 90 bench.loss
  pub noise : HasNumber (first_of (codes "noise") found) 0 0 2000 bench.noise
  pub full : bench.full ≡ is_used (codes "full") found
  pub wide : bench.wide ≡ is_used (codes "wide") found
  pub checks : HasNumber (first_of (codes "fx25") found) 0 0 64 (count_sent bench.checks)

-- bench with these options
pub record IsBench (words : List Text) (bench : BenchOptions) : Type 0 where
  pub named : first_word words ≡ Some (codes "bench")
  pub taken : bench_faults words ≡ []
  pub options : HasBenchOptions (bench_rows words) bench

-- The options of serve. If no others were given, the ports are 8001 for KISS and 8000 for AGWPE at 127.0.0.1, the seed is
-- not named, a packet of a host's data has 256 octets, a channel is busy by the tones of another station, or with --hf or
-- --fx25 by three flags in a row, there are 9600 samples a second, and the report has no lines of counts. Nothing is keyed
-- if no port of rigctld was given.
pub record HasServeOptions (found : List Row) (serve : ServeOptions) : Type 0 where
  pub kiss : HasPort (first_of (codes "kiss") found) 8001 serve.kiss
  pub agw : HasPort (first_of (codes "agw") found) 8000 serve.agw
  pub bind : HasAddress (first_of (codes "bind") found) serve.bind
  pub seed : NamesNumber (first_of (codes "seed") found) 0 (2 ^ 64 - 1) serve.seed
  pub params : HasParams found serve.params
  pub channel : HasChannel found serve.channel
  pub paclen : HasNumber (first_of (codes "paclen") found) 256 16 256 serve.paclen
  pub digi : HasCall (first_of (codes "digi") found) serve.digi
  pub dcd : HasDcd (is_by_flags found) (first_of (codes "dcd") found) serve.dcd
  pub modem : HasStationModem found serve.modem
  pub rate : HasStationRate (first_of (codes "rate") found) (first_of (codes "fx25") found) serve.rate
  pub monitor : serve.monitor ≡ is_used (codes "monitor") found
  pub stats : NamesNumber (first_of (codes "stats") found) 1 86400 serve.stats
  pub ptt : HasPtt (first_of (codes "ptt") found) (first_of (codes "ptt-tail") found) (is_used (codes "ptt-data") found)
      serve.ptt

-- serve with these options
pub record IsServe (words : List Text) (serve : ServeOptions) : Type 0 where
  pub named : first_word words ≡ Some (codes "serve")
  pub taken : serve_faults words ≡ []
  pub options : HasServeOptions (serve_rows words) serve

-- The options of record. If no other number was given, the last 576,000 samples are kept, a minute of sound.
pub record HasRecordOptions (found : List Row) (recorder : RecordOptions) : Type 0 where
  pub keep : HasNumber (first_of (codes "keep") found) 576000 1 17280000 recorder.keep
  pub sensitive : recorder.sensitive ≡ is_used (codes "sensitive") found

-- record with these options
pub record IsRecord (words : List Text) (recorder : RecordOptions) : Type 0 where
  pub named : first_word words ≡ Some (codes "record")
  pub taken : record_faults words ≡ []
  pub options : HasRecordOptions (record_rows words) recorder

-- The options of call. Its port and its two calls have no default. If nothing else was given, no repeater stands
-- between them, no octet is awaited, and there are 100,000 polls at most.
pub record HasCallOptions (found : List Row) (call : CallOptions) : Type 0 where
  pub agw : GivesNumber (first_of (codes "agw") found) 1 65535 call.agw
  pub own : GivesCall (first_of (codes "from") found) call.own
  pub remote : GivesCall (first_of (codes "to") found) call.remote
  pub via : HasRepeaters (first_of (codes "via") found) call.via.items
  pub expect : HasNumber (first_of (codes "expect") found) 0 0 1000000 call.expect
  pub polls : HasNumber (first_of (codes "polls") found) 100000 1 1000000 call.polls

-- call with these options
pub record IsCall (words : List Text) (call : CallOptions) : Type 0 where
  pub named : first_word words ≡ Some (codes "call")
  pub taken : call_faults words ≡ []
  pub options : HasCallOptions (call_rows words) call

-- what the words ask for
abbrev pub Asks : List Text → Command → Type 0
Asks words (Decode decode) = IsDecode words decode
Asks words (Encode encode) = IsEncode words encode
Asks words (Show show) = IsShow words show
Asks words (Loop loop) = IsLoop words loop
Asks words (Bench bench) = IsBench words bench
Asks words (Serve serve) = IsServe words serve
Asks words (Record recorder) = IsRecord words recorder
Asks words (Call call) = IsCall words call
Asks words (Help topic) = IsHelp words topic
Asks words Version = IsVersion words
