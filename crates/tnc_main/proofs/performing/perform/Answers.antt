use Rattle.tnc_main.proofs.Common.{◌≡◌, ◌++◌, ℕ, List, [], Some, inl, inr, refl, sym, subst, ap, ◌∙◌, OnOk, OnErr}
use Rattle.tnc_main.proofs.Common.{WrotePart, Decode, Encode, Show, Loop, Bench, Help, Version, TooLong}
use Rattle.tnc_main.proofs.Common.{ReadsNothing, end_of, end_of_bench}
use Rattle.tnc_main.proofs.Common.{end_of_loop}
use Rattle.tnc_words.specs.Help.{text_about, version_text}
use Rattle.tnc_main.specs.Commands.{HeardAsMade}
use Rattle.tnc_main.proofs.Ends.{if_ok, if_input, if_read, reader_sent, loop_ok, loop_no_input, loop_sent}
use Rattle.tnc_main.proofs.Ends.{bench_no_input, bench_no_read, bench_ok, bench_sent, bench_write, on_ok, both_ok}
use Rattle.tnc_main.proofs.Ends.{on_fault, text_no_input, text_no_read, text_sent}
use Rattle.tnc_main.proofs.CommandLemmas.{reads, reads_back, same_fault, no_fault, last as last_of, written}
use Rattle.tnc_main.proofs.MakerWriting.{decode_reads, encode_reads, show_reads}
use Rattle.tnc_main.proofs.Writing.{some_summary, nothing_written, part_written, at_memory, at_write}
use Rattle.tnc_main.proofs.Writing.{loop_writes, text_writes, bench_writes}
use Rattle.tnc_main.proofs.performing.perform.Goals as goal

-- ---- decode

pub returns-in-Decode-clause-end : goal.returns-in-Decode-clause-end
returns-in-Decode-clause-end g c = λ octets read.
    let left = reads c.args.command (Decode c.in-Decode.words) c.in-Decode.is _ octets read in
    if_ok c.ended.result c.decode.result c.ended.ensures
    (reads_back c.args.command (Decode c.in-Decode.words) c.in-Decode.is _ [])
    (decode_reads c.in-Decode.words octets _ _ _ c.decode.result (c.decode.ensures.ended octets left)).end

pub returns-in-Decode-clause-stops : goal.returns-in-Decode-clause-stops
returns-in-Decode-clause-stops g c = λ octets read is.
    let left = reads c.args.command (Decode c.in-Decode.words) c.in-Decode.is _ octets read in
    reads_back c.args.command (Decode c.in-Decode.words) c.in-Decode.is _ _
    ((decode_reads c.in-Decode.words octets _ _ _ c.decode.result (c.decode.ensures.ended octets left)).stops
    (if_input c.ended.result c.decode.result c.ended.ensures TooLong is))

pub returns-in-Decode-clause-unread : goal.returns-in-Decode-clause-unread
returns-in-Decode-clause-unread g c = λ none. absurd (subst ReadsNothing c.in-Decode.is none)

pub returns-in-Decode-clause-heard_as_made : goal.returns-in-Decode-clause-heard_as_made
returns-in-Decode-clause-heard_as_made g c = λ words same. let both : Decode c.in-Decode.words ≡ Loop words =
    sym c.in-Decode.is ∙ same in cc both

pub returns-in-Decode-clause-good : goal.returns-in-Decode-clause-good
returns-in-Decode-clause-good g c = λ octets read.
    let left = reads c.args.command (Decode c.in-Decode.words) c.in-Decode.is _ octets read in
    no_fault c.args.command (Decode c.in-Decode.words) c.in-Decode.is octets c.ended.result c.decode.result c.ended.ensures
    (decode_reads c.in-Decode.words octets _ _ _ c.decode.result (c.decode.ensures.ended octets left)).good

pub returns-in-Decode-clause-bad : goal.returns-in-Decode-clause-bad
returns-in-Decode-clause-bad g c = λ octets fault read is.
    let left = reads c.args.command (Decode c.in-Decode.words) c.in-Decode.is _ octets read in
    same_fault c.args.command (Decode c.in-Decode.words) c.in-Decode.is octets
    ∙ (decode_reads c.in-Decode.words octets _ _ _ c.decode.result (c.decode.ensures.ended octets left)).bad fault
    (if_input c.ended.result c.decode.result c.ended.ensures fault is)

pub returns-in-Decode-clause-written : goal.returns-in-Decode-clause-written
returns-in-Decode-clause-written g c = λ octets before read was.
    let left = reads c.args.command (Decode c.in-Decode.words) c.in-Decode.is _ octets read in
    written c.args.command (Decode c.in-Decode.words) c.in-Decode.is octets before
    (g.I.Source.told c.decode.new.input).left
    (g.O.Sink.told c.decode.new.output).written c.ended.result (end_of c.decode.result) c.ended.ensures
    ((decode_reads c.in-Decode.words octets _ _ _ c.decode.result (c.decode.ensures.ended octets left)).written before was)

pub returns-in-Decode-clause-unwritten : goal.returns-in-Decode-clause-unwritten
returns-in-Decode-clause-unwritten g c = λ last. absurd
    (last_of c.args.command (Decode c.in-Decode.words) c.in-Decode.is last)

pub returns-in-Decode-clause-sent : goal.returns-in-Decode-clause-sent
returns-in-Decode-clause-sent g c = reader_sent c.ended.result c.decode.result c.ended.ensures c.args.command

-- ---- encode

pub returns-in-Encode-clause-end : goal.returns-in-Encode-clause-end
returns-in-Encode-clause-end g c = λ octets read.
    let left = reads c.args.command (Encode c.in-Encode.words) c.in-Encode.is _ octets read in
    if_ok c.ended-in-Encode.result c.encode.result c.ended-in-Encode.ensures
    (reads_back c.args.command (Encode c.in-Encode.words) c.in-Encode.is _ [])
    (encode_reads c.in-Encode.words octets _ _ _ c.encode.result (λ kept. c.encode.ensures.whole octets kept left)
    (λ kept which. ap (λ o. (g.O.Sink.told o).written) (c.encode.ensures.unwritten kept which))
    (λ sent. c.encode.ensures.ended octets sent left)).end

pub returns-in-Encode-clause-stops : goal.returns-in-Encode-clause-stops
returns-in-Encode-clause-stops g c = λ octets read is.
    let left = reads c.args.command (Encode c.in-Encode.words) c.in-Encode.is _ octets read in
    reads_back c.args.command (Encode c.in-Encode.words) c.in-Encode.is _ _
    ((encode_reads c.in-Encode.words octets _ _ _ c.encode.result (λ kept. c.encode.ensures.whole octets kept left)
    (λ kept which. ap (λ o. (g.O.Sink.told o).written) (c.encode.ensures.unwritten kept which))
    (λ sent. c.encode.ensures.ended octets sent left)).stops
    (if_input c.ended-in-Encode.result c.encode.result c.ended-in-Encode.ensures TooLong is))

pub returns-in-Encode-clause-unread : goal.returns-in-Encode-clause-unread
returns-in-Encode-clause-unread g c = λ none. absurd (subst ReadsNothing c.in-Encode.is none)

pub returns-in-Encode-clause-heard_as_made : goal.returns-in-Encode-clause-heard_as_made
returns-in-Encode-clause-heard_as_made g c = λ words same. let both : Encode c.in-Encode.words ≡ Loop words =
    sym c.in-Encode.is ∙ same in cc both

pub returns-in-Encode-clause-good : goal.returns-in-Encode-clause-good
returns-in-Encode-clause-good g c = λ octets read.
    let left = reads c.args.command (Encode c.in-Encode.words) c.in-Encode.is _ octets read in
    no_fault c.args.command (Encode c.in-Encode.words) c.in-Encode.is octets c.ended-in-Encode.result c.encode.result c.ended-in-Encode.ensures
    (encode_reads c.in-Encode.words octets _ _ _ c.encode.result (λ kept. c.encode.ensures.whole octets kept left)
    (λ kept which. ap (λ o. (g.O.Sink.told o).written) (c.encode.ensures.unwritten kept which))
    (λ sent. c.encode.ensures.ended octets sent left)).good

pub returns-in-Encode-clause-bad : goal.returns-in-Encode-clause-bad
returns-in-Encode-clause-bad g c = λ octets fault read is.
    let left = reads c.args.command (Encode c.in-Encode.words) c.in-Encode.is _ octets read in
    same_fault c.args.command (Encode c.in-Encode.words) c.in-Encode.is octets
    ∙ (encode_reads c.in-Encode.words octets _ _ _ c.encode.result (λ kept. c.encode.ensures.whole octets kept left)
    (λ kept which. ap (λ o. (g.O.Sink.told o).written) (c.encode.ensures.unwritten kept which))
    (λ sent. c.encode.ensures.ended octets sent left)).bad fault
    (if_input c.ended-in-Encode.result c.encode.result c.ended-in-Encode.ensures fault is)

pub returns-in-Encode-clause-written : goal.returns-in-Encode-clause-written
returns-in-Encode-clause-written g c = λ octets before read was.
    let left = reads c.args.command (Encode c.in-Encode.words) c.in-Encode.is _ octets read in
    written c.args.command (Encode c.in-Encode.words) c.in-Encode.is octets before
    (g.I.Source.told c.encode.new.input).left
    (g.O.Sink.told c.encode.new.output).written c.ended-in-Encode.result
    (end_of c.encode.result) c.ended-in-Encode.ensures
    ((encode_reads c.in-Encode.words octets _ _ _ c.encode.result (λ kept. c.encode.ensures.whole octets kept left)
    (λ kept which. ap (λ o. (g.O.Sink.told o).written) (c.encode.ensures.unwritten kept which))
    (λ sent. c.encode.ensures.ended octets sent left)).written before was)

pub returns-in-Encode-clause-unwritten : goal.returns-in-Encode-clause-unwritten
returns-in-Encode-clause-unwritten g c = λ last which.
    c.encode.ensures.unwritten (last_of c.args.command (Encode c.in-Encode.words) c.in-Encode.is last)
    (elim which [
      | inl is ↦ inl (if_input c.ended-in-Encode.result c.encode.result c.ended-in-Encode.ensures TooLong is)
      | inr is ↦ inr (if_read c.ended-in-Encode.result c.encode.result c.ended-in-Encode.ensures is)
    ])

pub returns-in-Encode-clause-sent : goal.returns-in-Encode-clause-sent
returns-in-Encode-clause-sent g c = reader_sent c.ended-in-Encode.result c.encode.result c.ended-in-Encode.ensures
    c.args.command

-- ---- show

pub returns-in-Show-clause-end : goal.returns-in-Show-clause-end
returns-in-Show-clause-end g c = λ octets read.
    let left = reads c.args.command (Show c.in-Show.words) c.in-Show.is _ octets read in
    if_ok c.ended-in-Show.result c.show.result c.ended-in-Show.ensures
    (reads_back c.args.command (Show c.in-Show.words) c.in-Show.is _ [])
    (show_reads c.in-Show.words octets _ _ _ c.show.result (c.show.ensures.ended octets left)).end

pub returns-in-Show-clause-stops : goal.returns-in-Show-clause-stops
returns-in-Show-clause-stops g c = λ octets read is.
    let left = reads c.args.command (Show c.in-Show.words) c.in-Show.is _ octets read in
    reads_back c.args.command (Show c.in-Show.words) c.in-Show.is _ _
    ((show_reads c.in-Show.words octets _ _ _ c.show.result (c.show.ensures.ended octets left)).stops
    (if_input c.ended-in-Show.result c.show.result c.ended-in-Show.ensures TooLong is))

pub returns-in-Show-clause-unread : goal.returns-in-Show-clause-unread
returns-in-Show-clause-unread g c = λ none. absurd (subst ReadsNothing c.in-Show.is none)

pub returns-in-Show-clause-heard_as_made : goal.returns-in-Show-clause-heard_as_made
returns-in-Show-clause-heard_as_made g c = λ words same. let both : Show c.in-Show.words ≡ Loop words =
    sym c.in-Show.is ∙ same in cc both

pub returns-in-Show-clause-good : goal.returns-in-Show-clause-good
returns-in-Show-clause-good g c = λ octets read.
    let left = reads c.args.command (Show c.in-Show.words) c.in-Show.is _ octets read in
    no_fault c.args.command (Show c.in-Show.words) c.in-Show.is octets c.ended-in-Show.result c.show.result c.ended-in-Show.ensures
    (show_reads c.in-Show.words octets _ _ _ c.show.result (c.show.ensures.ended octets left)).good

pub returns-in-Show-clause-bad : goal.returns-in-Show-clause-bad
returns-in-Show-clause-bad g c = λ octets fault read is.
    let left = reads c.args.command (Show c.in-Show.words) c.in-Show.is _ octets read in
    same_fault c.args.command (Show c.in-Show.words) c.in-Show.is octets
    ∙ (show_reads c.in-Show.words octets _ _ _ c.show.result (c.show.ensures.ended octets left)).bad fault
    (if_input c.ended-in-Show.result c.show.result c.ended-in-Show.ensures fault is)

pub returns-in-Show-clause-written : goal.returns-in-Show-clause-written
returns-in-Show-clause-written g c = λ octets before read was.
    let left = reads c.args.command (Show c.in-Show.words) c.in-Show.is _ octets read in
    written c.args.command (Show c.in-Show.words) c.in-Show.is octets before (g.I.Source.told c.show.new.input).left
    (g.O.Sink.told c.show.new.output).written c.ended-in-Show.result (end_of c.show.result) c.ended-in-Show.ensures
    ((show_reads c.in-Show.words octets _ _ _ c.show.result (c.show.ensures.ended octets left)).written before was)

pub returns-in-Show-clause-unwritten : goal.returns-in-Show-clause-unwritten
returns-in-Show-clause-unwritten g c = λ last. absurd (last_of c.args.command (Show c.in-Show.words) c.in-Show.is last)

pub returns-in-Show-clause-sent : goal.returns-in-Show-clause-sent
returns-in-Show-clause-sent g c = reader_sent c.ended-in-Show.result c.show.result c.ended-in-Show.ensures
    c.args.command

-- ---- loop

pub returns-in-Loop-clause-end : goal.returns-in-Loop-clause-end
returns-in-Loop-clause-end g c = λ octets read. on_ok c.ended_loop.result
    (reads_back c.args.command (Loop c.in-Loop.words) c.in-Loop.is _ [] refl)

pub returns-in-Loop-clause-stops : goal.returns-in-Loop-clause-stops
returns-in-Loop-clause-stops g c = λ octets read is. absurd
    (loop_no_input c.ended_loop.result c.loop_back.result c.ended_loop.ensures TooLong is)

pub returns-in-Loop-clause-heard_as_made : goal.returns-in-Loop-clause-heard_as_made
returns-in-Loop-clause-heard_as_made g c = λ words same.
    let both : Loop c.in-Loop.words ≡ Loop words = sym c.in-Loop.is ∙ same in
    let same_words : c.in-Loop.words ≡ words = cc both in
    loop_ok c.ended_loop.result c.loop_back.result c.ended_loop.ensures
    (λ h. subst (λ w. HeardAsMade w) same_words (record { no_stray = h.0; heard = h.1 }))
    (both_ok c.loop_back.result _ _ c.loop_back.ensures.no_stray c.loop_back.ensures.clean)

pub returns-in-Loop-clause-written : goal.returns-in-Loop-clause-written
returns-in-Loop-clause-written g c = λ octets before read was.
    let command = Loop c.in-Loop.words in
    let left_now = (g.I.Source.told c.args.input.now).left in
    let now = (g.O.Sink.told c.loop_back.new.output).written in
    written c.args.command command c.in-Loop.is octets before left_now now c.ended_loop.result
    (end_of_loop c.loop_back.result) c.ended_loop.ensures
    (loop_writes command octets before left_now now c.loop_back.result
    (c.loop_back.ensures.done before was)
    (λ frame. c.loop_back.ensures.done_before frame before was)
    (λ memory. at_memory command tt octets before left_now now
    (nothing_written command tt octets before left_now now (ap (λ o. (g.O.Sink.told o).written)
    (c.loop_back.ensures.unwritten memory)
    ∙ was)))
    (λ write.
    let text = some_summary c.in-Loop.words in
    at_write command tt octets before left_now now
    (part_written command tt octets before left_now now text.0 text.1
    (on_fault c.loop_back.result write (c.loop_back.ensures.cut before text.0 was text.1)))))

pub returns-in-Loop-clause-sent : goal.returns-in-Loop-clause-sent
returns-in-Loop-clause-sent g c =
    loop_sent c.ended_loop.result c.loop_back.result c.ended_loop.ensures c.args.command c.in-Loop.words c.in-Loop.is
    c.loop_back.ensures.stray

-- ---- bench

pub returns-in-Bench-clause-end : goal.returns-in-Bench-clause-end
returns-in-Bench-clause-end g c = λ octets read. on_ok c.ended_bench.result
    (reads_back c.args.command (Bench c.in-Bench.options) c.in-Bench.is _ [] refl)

pub returns-in-Bench-clause-stops : goal.returns-in-Bench-clause-stops
returns-in-Bench-clause-stops g c = λ octets read is. absurd
    (bench_no_input c.ended_bench.result c.bench.result c.ended_bench.ensures TooLong is)

pub returns-in-Bench-clause-heard_as_made : goal.returns-in-Bench-clause-heard_as_made
returns-in-Bench-clause-heard_as_made g c = λ words same. let both : Bench c.in-Bench.options ≡ Loop words =
    sym c.in-Bench.is ∙ same in cc both

pub returns-in-Bench-clause-written : goal.returns-in-Bench-clause-written
returns-in-Bench-clause-written g c = λ octets before read was.
    let options = c.in-Bench.options in
    let left_now = (g.I.Source.told c.args.input.now).left in
    let now = (g.O.Sink.told c.bench.new.output).written in
    written c.args.command (Bench options) c.in-Bench.is octets before left_now now c.ended_bench.result
    (end_of_bench c.bench.result) c.ended_bench.ensures
    (bench_writes options octets before left_now now c.bench.result
    (c.bench.ensures.done before was)
    (λ fault is. ap (λ o. (g.O.Sink.told o).written) (c.bench.ensures.unwritten fault is) ∙ was)
    (c.bench.ensures.cut before was))

pub returns-in-Bench-clause-unwritten : goal.returns-in-Bench-clause-unwritten
returns-in-Bench-clause-unwritten g c = λ last which. elim which [
  | inl is ↦ absurd (bench_no_input c.ended_bench.result c.bench.result c.ended_bench.ensures TooLong is)
  | inr is ↦ absurd (bench_no_read c.ended_bench.result c.bench.result c.ended_bench.ensures is)
]

pub returns-in-Bench-clause-faultless : goal.returns-in-Bench-clause-faultless
returns-in-Bench-clause-faultless g c =
    bench_ok c.ended_bench.result c.bench.result c.ended_bench.ensures (λ same. (refl, same)) c.bench.ensures.faultless

pub returns-in-Bench-clause-sent : goal.returns-in-Bench-clause-sent
returns-in-Bench-clause-sent g c =
    bench_sent c.ended_bench.result c.bench.result c.ended_bench.ensures c.args.command c.in-Bench.options c.in-Bench.is
    c.bench.ensures.fault

pub returns-in-Bench-clause-write : goal.returns-in-Bench-clause-write
returns-in-Bench-clause-write g c = λ is. c.bench.ensures.write
    (bench_write c.ended_bench.result c.bench.result c.ended_bench.ensures is)

-- ---- help

pub returns-in-Help-clause-end : goal.returns-in-Help-clause-end
returns-in-Help-clause-end g c = λ octets read. on_ok c.print_text.result
    (reads_back c.args.command (Help c.in-Help.topic) c.in-Help.is _ [] refl)

pub returns-in-Help-clause-stops : goal.returns-in-Help-clause-stops
returns-in-Help-clause-stops g c = λ octets read is. absurd
    (text_no_input c.print_text.result c.print_text.ensures.ends TooLong is)

pub returns-in-Help-clause-heard_as_made : goal.returns-in-Help-clause-heard_as_made
returns-in-Help-clause-heard_as_made g c = λ words same. let both : Help c.in-Help.topic ≡ Loop words = sym c.in-Help.is
    ∙ same in cc both

pub returns-in-Help-clause-written : goal.returns-in-Help-clause-written
returns-in-Help-clause-written g c = λ octets before read was.
    let left_now = (g.I.Source.told c.args.input.now).left in
    let now = (g.O.Sink.told c.print_text.new.output).written in
    written c.args.command (Help c.in-Help.topic) c.in-Help.is octets before left_now now c.print_text.result
    c.print_text.result refl
    (text_writes (Help c.in-Help.topic) tt octets before (text_about c.in-Help.topic)
    left_now now c.print_text.result c.print_text.ensures.ends refl
    (subst (λ (t : List ℕ). OnOk c.print_text.result (now ≡ Some (before ++ t))) c.help_text.ensures
    (c.print_text.ensures.whole before was))
    (subst (λ (t : List ℕ). OnErr c.print_text.result (WrotePart before t now)) c.help_text.ensures
    (c.print_text.ensures.cut before was)))

pub returns-in-Help-clause-unwritten : goal.returns-in-Help-clause-unwritten
returns-in-Help-clause-unwritten g c = λ last which. elim which [
  | inl is ↦ absurd (text_no_input c.print_text.result c.print_text.ensures.ends TooLong is)
  | inr is ↦ absurd (text_no_read c.print_text.result c.print_text.ensures.ends is)
]

-- ---- version

pub returns-in-Version-clause-end : goal.returns-in-Version-clause-end
returns-in-Version-clause-end g c = λ octets read. on_ok c.print_text-in-Version.result
    (reads_back c.args.command Version c.in-Version.is _ [] refl)

pub returns-in-Version-clause-stops : goal.returns-in-Version-clause-stops
returns-in-Version-clause-stops g c = λ octets read is. absurd
    (text_no_input c.print_text-in-Version.result c.print_text-in-Version.ensures.ends TooLong is)

pub returns-in-Version-clause-heard_as_made : goal.returns-in-Version-clause-heard_as_made
returns-in-Version-clause-heard_as_made g c = λ words same. let both : Version ≡ Loop words = sym c.in-Version.is
    ∙ same in cc both

pub returns-in-Version-clause-written : goal.returns-in-Version-clause-written
returns-in-Version-clause-written g c = λ octets before read was.
    let left_now = (g.I.Source.told c.args.input.now).left in
    let now = (g.O.Sink.told c.print_text-in-Version.new.output).written in
    written c.args.command Version c.in-Version.is octets before left_now now c.print_text-in-Version.result
    c.print_text-in-Version.result refl
    (text_writes Version tt octets before version_text left_now now c.print_text-in-Version.result
    c.print_text-in-Version.ensures.ends refl
    (subst (λ (t : List ℕ). OnOk c.print_text-in-Version.result (now ≡ Some (before ++ t))) c.version_line.ensures
    (c.print_text-in-Version.ensures.whole before was))
    (subst (λ (t : List ℕ). OnErr c.print_text-in-Version.result (WrotePart before t now)) c.version_line.ensures
    (c.print_text-in-Version.ensures.cut before was)))

pub returns-in-Version-clause-unwritten : goal.returns-in-Version-clause-unwritten
returns-in-Version-clause-unwritten g c = λ last which. elim which [
  | inl is ↦ absurd (text_no_input c.print_text-in-Version.result c.print_text-in-Version.ensures.ends TooLong is)
  | inr is ↦ absurd (text_no_read c.print_text-in-Version.result c.print_text-in-Version.ensures.ends is)
]

pub returns-in-Help-clause-sent : goal.returns-in-Help-clause-sent
returns-in-Help-clause-sent g c = text_sent c.args.command c.print_text.result c.print_text.ensures.ends

pub returns-in-Version-clause-sent : goal.returns-in-Version-clause-sent
returns-in-Version-clause-sent g c = text_sent c.args.command c.print_text-in-Version.result
    c.print_text-in-Version.ensures.ends
