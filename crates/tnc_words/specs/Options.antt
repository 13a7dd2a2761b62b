-- The options of each command, as clap is told of them: an option is --name value or --name=value.
use Rattle.std.specs.Prelude.{Bool, true, false, List, Option, Some, find, codes, option_and_then}
use Rattle.std.specs.Str.{bytes_eq}
use Rattle.clap.specs.Words.{App, Kinds, Row, Rule, Text, fault_of, matches_of, new_app, new_rule, with_rule}
use Rattle.clap.specs.declared.builder.action.ArgAction.TheVariants.{Set, SetTrue}
use Rattle.clap.specs.declared.parser.matches.ValueSource.{ValueSource}
use Rattle.clap.specs.declared.parser.matches.ValueSource.TheVariants.{CommandLine}

-- an option with a value
abbrev pub option_rule : Text → Rule
option_rule name = record (new_rule name) { long = Some name; action = Some Set }

-- an option that is there or not
abbrev pub flag_rule : Text → Rule
flag_rule name = record (new_rule name) { long = Some name; action = Some SetTrue }

-- an option with a value, which has to be given
abbrev pub needed_rule : Text → Rule
needed_rule name = record (option_rule name) { required = true }

-- [--wav] [--kiss]
abbrev pub with_forms : App → App
with_forms app = with_rule (with_rule app (flag_rule (codes "wav"))) (flag_rule (codes "kiss"))

-- decode [--wav] [--kiss] [--threads] [--hf] [--sensitive] [--fx25] [--rate n]
abbrev pub decode_app : App
decode_app = with_rule (with_rule (with_rule (with_rule (with_rule (with_forms (new_app (codes "decode")))
    (flag_rule (codes "threads"))) (flag_rule (codes "hf"))) (flag_rule (codes "sensitive")))
    (flag_rule (codes "fx25"))) (option_rule (codes "rate"))

-- [--opening n] [--closing n] [--silence n] [--level n]
abbrev pub with_numbers : App → App
with_numbers app = with_rule (with_rule (with_rule (with_rule app
    (option_rule (codes "opening"))) (option_rule (codes "closing")))
    (option_rule (codes "silence"))) (option_rule (codes "level"))

-- encode [--wav] [--kiss] [--join] [--hf] [--fx25 n] [--opening n] [--closing n] [--silence n] [--level n]
abbrev pub encode_app : App
encode_app = with_numbers (with_rule (with_rule (with_rule (with_forms (new_app (codes "encode")))
    (flag_rule (codes "join"))) (flag_rule (codes "hf"))) (option_rule (codes "fx25")))

-- show [--modulo n]
abbrev pub show_app : App
show_app = with_rule (new_app (codes "show")) (option_rule (codes "modulo"))

-- loop --seed n --frames n [--rough] [--threads]
abbrev pub loop_app : App
loop_app = with_rule (with_rule (with_rule (with_rule (new_app (codes "loop"))
    (needed_rule (codes "seed"))) (needed_rule (codes "frames"))) (flag_rule (codes "rough")))
    (flag_rule (codes "threads"))

-- [--octets n] [--loss n] [--noise n] [--fx25 n]
abbrev pub with_run : App → App
with_run app = with_rule (with_rule (with_rule (with_rule app
    (option_rule (codes "octets"))) (option_rule (codes "loss"))) (option_rule (codes "noise")))
    (option_rule (codes "fx25"))

-- bench --seed n [--octets n] [--loss n] [--noise n] [--fx25 n] [--full] [--wide]
abbrev pub bench_app : App
bench_app = with_rule (with_rule (with_run (with_rule (new_app (codes "bench"))
    (needed_rule (codes "seed")))) (flag_rule (codes "full"))) (flag_rule (codes "wide"))

-- [--kiss port] [--agw port] [--bind A.B.C.D]
abbrev pub with_ports : App → App
with_ports app = with_rule (with_rule (with_rule app
    (option_rule (codes "kiss"))) (option_rule (codes "agw"))) (option_rule (codes "bind"))

-- [--mode rej or srej] [--window n]
abbrev pub with_window : App → App
with_window app = with_rule (with_rule app (option_rule (codes "mode"))) (option_rule (codes "window"))

-- [--wide] [--wide-window n]
abbrev pub with_wide_window : App → App
with_wide_window app = with_rule (with_rule app (flag_rule (codes "wide"))) (option_rule (codes "wide-window"))

-- [--t1 n] [--retries n]
abbrev pub with_retries : App → App
with_retries app = with_rule (with_rule app (option_rule (codes "t1"))) (option_rule (codes "retries"))

-- [--txdelay n] [--txtail n] [--persist n] [--slot n] [--duplex]
abbrev pub with_channel : App → App
with_channel app = with_rule (with_rule (with_rule (with_rule (with_rule app
    (option_rule (codes "txdelay"))) (option_rule (codes "txtail"))) (option_rule (codes "persist")))
    (option_rule (codes "slot"))) (flag_rule (codes "duplex"))

-- [--digi call] [--dcd how] [--hf] [--sensitive] [--fx25 n] [--rate n] [--monitor] [--stats n]
abbrev pub with_station : App → App
with_station app = with_rule (with_rule (with_rule (with_rule (with_rule (with_rule (with_rule (with_rule app
    (option_rule (codes "digi"))) (option_rule (codes "dcd"))) (flag_rule (codes "hf")))
    (flag_rule (codes "sensitive"))) (option_rule (codes "fx25"))) (option_rule (codes "rate")))
    (flag_rule (codes "monitor")))
    (option_rule (codes "stats"))

-- [--ptt n] [--ptt-tail n] [--ptt-data]
abbrev pub with_key : App → App
with_key app = with_rule (with_rule (with_rule app
    (option_rule (codes "ptt"))) (option_rule (codes "ptt-tail"))) (flag_rule (codes "ptt-data"))

-- serve [--kiss port] [--agw port] [--bind A.B.C.D] [--seed n] [--mode rej or srej] [--window n] [--wide] [--wide-window n]
-- [--t1 n] [--retries n] [--txdelay n] [--txtail n] [--persist n] [--slot n] [--duplex] [--paclen n] [--digi call] [--dcd how] [--hf] [--sensitive] [--fx25 n] [--rate n] [--monitor] [--stats n] [--ptt n] [--ptt-tail n] [--ptt-data]
abbrev pub serve_app : App
serve_app = with_key (with_station (with_rule (with_channel (with_retries (with_wide_window
    (with_window (with_rule (with_ports (new_app (codes "serve"))) (option_rule (codes "seed")))))))
    (option_rule (codes "paclen"))))

-- record [--keep n] [--sensitive]
abbrev pub record_app : App
record_app = with_rule (with_rule (new_app (codes "record")) (option_rule (codes "keep")))
    (flag_rule (codes "sensitive"))

-- --agw n --from call --to call
abbrev pub with_stations : App → App
with_stations app = with_rule (with_rule (with_rule app (needed_rule (codes "agw"))) (needed_rule (codes "from")))
    (needed_rule (codes "to"))

-- call --agw n --from call --to call [--via call,call,..] [--expect n] [--polls n]
abbrev pub call_app : App
call_app = with_rule (with_rule (with_rule (with_stations (new_app (codes "call")))
    (option_rule (codes "via"))) (option_rule (codes "expect"))) (option_rule (codes "polls"))

-- Why clap refuses words, of which the first is the command's own: nothing if it takes them.
unfoldable pub decode_faults : List Text → Kinds
decode_faults words = fault_of decode_app words

unfoldable pub encode_faults : List Text → Kinds
encode_faults words = fault_of encode_app words

unfoldable pub show_faults : List Text → Kinds
show_faults words = fault_of show_app words

unfoldable pub loop_faults : List Text → Kinds
loop_faults words = fault_of loop_app words

unfoldable pub bench_faults : List Text → Kinds
bench_faults words = fault_of bench_app words

unfoldable pub serve_faults : List Text → Kinds
serve_faults words = fault_of serve_app words

unfoldable pub record_faults : List Text → Kinds
record_faults words = fault_of record_app words

unfoldable pub call_faults : List Text → Kinds
call_faults words = fault_of call_app words

-- What clap finds in words for a command's options.
unfoldable pub decode_rows : List Text → List Row
decode_rows words = matches_of decode_app words

unfoldable pub encode_rows : List Text → List Row
encode_rows words = matches_of encode_app words

unfoldable pub show_rows : List Text → List Row
show_rows words = matches_of show_app words

unfoldable pub loop_rows : List Text → List Row
loop_rows words = matches_of loop_app words

unfoldable pub bench_rows : List Text → List Row
bench_rows words = matches_of bench_app words

unfoldable pub serve_rows : List Text → List Row
serve_rows words = matches_of serve_app words

unfoldable pub record_rows : List Text → List Row
record_rows words = matches_of record_app words

unfoldable pub call_rows : List Text → List Row
call_rows words = matches_of call_app words

-- whether a value was given by the words, and not by default
abbrev pub is_from_words : Option ValueSource → Bool
is_from_words (Some CommandLine) = true
is_from_words _ = false

-- whether an option was given
abbrev pub is_used : Text → List Row → Bool
is_used name rows = is_from_words (option_and_then (λ row. row.source) (find (λ row. bytes_eq row.id name) rows))
