-- What commands write, by how they end.
use Rattle.tnc_main.proofs.Common.{◌≡◌, ℕ, List, [], ◌++◌, Option, Some, Result, Ok, Err, IfErr, inl}
use Rattle.tnc_main.proofs.Common.{inr, append-nil, refl, sym, subst, ap, ◌∙◌, ◌⊎◌, OnOk, OnErr}
use Rattle.tnc_main.proofs.Common.{WrotePart, Command, Decode, Encode, Show, Loop, Bench, Serve}
use Rattle.tnc_main.proofs.Common.{Help, Record, Call, Version, LoopWords, BenchOptions, InputFault}
use Rattle.tnc_main.proofs.Common.{encoded, encoded_before, LoopFault, BenchFault, CommandFault, IsReportOf, Status}
use Rattle.tnc_main.proofs.Common.{ReadFault, WriteFault, Stop, Input, Stray, NotQuiet, Spent, Memory, Read}
use Rattle.tnc_main.proofs.Common.{Write, Makes, fault_of, HasAtMemory, MakesPart, WritesAtEnd, Writes, EndsAs}
use Rattle.tnc_main.proofs.Common.{IsStopOfRun, end_of_bench, end_of_loop, status_of}
use Rattle.slicer_bank.proofs.SomeList.{some_list}
use Rattle.clean_signal.specs.TrueEnds.{true_ends}
use Rattle.tnc_forms.specs.HexFrames.{frames_in_lines}
use Rattle.tnc_forms.proofs.WrittenParts.{wrote_all}
use Rattle.tnc_encode.proofs.EncodedLemmas.{part_before}
use Rattle.tnc_loop.specs.declared.fault.LoopFault.TheVariants.{Stray as LoopStray, Memory as LoopMemory}
use Rattle.tnc_loop.specs.declared.fault.LoopFault.TheVariants.{Write as LoopWrite}
use Rattle.tnc_loop.specs.Drawn.{drawn, samples_drawn}
use Rattle.tnc_loop.specs.Summary.{IsSummary, summary_of}
use Rattle.channel_bench.specs.declared.report.BenchFault.TheVariants.{Stray as BenchStray, NotQuiet as BenchNotQuiet}
use Rattle.channel_bench.specs.declared.report.BenchFault.TheVariants.{Spent as BenchSpent, Memory as BenchMemory}
use Rattle.tnc_bench.specs.declared.fault.CommandFault.TheVariants.{Run as OfRun, Write as OfBenchWrite}
use Rattle.tnc_main.specs.declared.status.Status.TheVariants.{Memory as NoMemory}
use Rattle.tnc_main.specs.Commands.{FindsNoQuiet, IsSpent, MakesUpToFault, Strays}
use Rattle.tnc_main.specs.Parts.{Begins, HasAtWriteFault, IsRefused, MakesAtReadFault, MakesAtStray, MakesFirst}

-- all words of loop have a summary
pub some_summary : (words : LoopWords) → (text : List ℕ) × IsSummary words text
some_summary words =
    let found = some_list (samples_drawn words) in (
      summary_of words.frames (true_ends (drawn words)) found.0,
      record { candidates = found.0; are = found.1; is = refl },
    )

-- a text begins itself
pub begins_all : (text : List ℕ) → Begins text text
begins_all text = ([], sym (append-nil text))

-- what a command makes is what it makes of all frames
pub makes_first : (command : Command) (octets text : List ℕ) → Makes command octets text
    → MakesFirst command octets text
makes_first (Decode words) octets text h = h
makes_first (Encode words) octets text h = h
makes_first (Show words) octets text h = (frames_in_lines 0 octets, [], sym (append-nil (frames_in_lines 0 octets)), h)
makes_first (Loop words) octets text h = h
makes_first (Bench options) octets text h = h
makes_first (Serve options) octets text h = absurd h
makes_first (Record options) octets text h = absurd h
makes_first (Call options) octets text h = absurd h
makes_first (Help topic) octets text h = h
makes_first Version octets text h = h

-- what is written before a fault is a first part of what would be written without it
pub up_to_fault : (command : Command) (octets text : List ℕ) → MakesUpToFault command octets text
    → MakesPart command octets text
up_to_fault (Decode words) octets text h = inr (text, h, begins_all text)
up_to_fault (Encode words) octets text h =
    let sent = encoded_before words octets in
    let part = part_before words octets [] (Some sent) (wrote_all [] sent (Some sent) refl) in
    let same : sent ≡ part.0 = cc part.3 in
    inr (encoded words octets, refl, (part.1, part.2 ∙ ap (λ p. p ++ part.1) (sym (h ∙ same))))
up_to_fault (Show words) octets text h = inr (text, makes_first (Show words) octets text h, begins_all text)
up_to_fault (Loop words) octets text h = absurd h
up_to_fault (Bench options) octets text h = absurd h
up_to_fault (Serve options) octets text h = absurd h
up_to_fault (Record options) octets text h = absurd h
up_to_fault (Call options) octets text h = absurd h
up_to_fault (Help topic) octets text h = absurd h
up_to_fault Version octets text h = absurd h

-- ---- an end whose line could not be told

module _ (octets : List ℕ) (left : Option (List ℕ)) (text : List ℕ) where
  refused_memory : (command : Command) → IsRefused command octets text → HasAtMemory command octets left text
  refused_memory (Decode words) h = inr h
  refused_memory (Encode words) h = inr (inr h)
  refused_memory (Show words) h = inr h
  refused_memory (Loop words) h = tt
  refused_memory (Bench options) h = tt
  refused_memory (Serve options) (fault, is, before) = cc is
  refused_memory (Record options) (fault, is, before) = cc is
  refused_memory (Call options) (fault, is, before) = cc is
  refused_memory (Help topic) h = tt
  refused_memory Version h = tt

  refused_write : (command : Command) → IsRefused command octets text → HasAtWriteFault command octets left text
  refused_write (Decode words) h = inr h
  refused_write (Encode words) h = inr (inr h)
  refused_write (Show words) h = inr h
  refused_write (Loop words) h = tt
  refused_write (Bench options) h = tt
  refused_write (Serve options) (fault, is, before) = cc is
  refused_write (Record options) (fault, is, before) = cc is
  refused_write (Call options) (fault, is, before) = cc is
  refused_write (Help topic) h = tt
  refused_write Version h = tt

  -- one that writes at its end may have written nothing
  has_memory : (command : Command) → WritesAtEnd command → HasAtMemory command octets left text
  has_memory (Decode words) last = absurd last
  has_memory (Encode words) last = inr (inl last)
  has_memory (Show words) last = absurd last
  has_memory (Loop words) last = tt
  has_memory (Bench options) last = tt
  has_memory (Serve options) last = absurd last
  has_memory (Record options) last = absurd last
  has_memory (Call options) last = absurd last
  has_memory (Help topic) last = tt
  has_memory Version last = tt

  has_write : (command : Command) → WritesAtEnd command → HasAtWriteFault command octets left text
  has_write (Decode words) last = absurd last
  has_write (Encode words) last = inr (inl last)
  has_write (Show words) last = absurd last
  has_write (Loop words) last = tt
  has_write (Bench options) last = tt
  has_write (Serve options) last = absurd last
  has_write (Record options) last = absurd last
  has_write (Call options) last = absurd last
  has_write (Help topic) last = tt
  has_write Version last = tt

-- what is told of that which a command sent to itself comes of one that writes at its end
strays_at_end : (command : Command) (frame : List ℕ) → Strays command frame → WritesAtEnd command
strays_at_end (Decode words) frame h = absurd h
strays_at_end (Encode words) frame h = absurd h
strays_at_end (Show words) frame h = absurd h
strays_at_end (Loop words) frame h = tt
strays_at_end (Bench options) frame h = tt
strays_at_end (Serve options) frame h = absurd h
strays_at_end (Record options) frame h = absurd h
strays_at_end (Call options) frame h = absurd h
strays_at_end (Help topic) frame h = absurd h
strays_at_end Version frame h = absurd h

unquiet_at_end : (command : Command) (index : ℕ) → FindsNoQuiet command index → WritesAtEnd command
unquiet_at_end (Decode words) index h = absurd h
unquiet_at_end (Encode words) index h = absurd h
unquiet_at_end (Show words) index h = absurd h
unquiet_at_end (Loop words) index h = absurd h
unquiet_at_end (Bench options) index h = tt
unquiet_at_end (Serve options) index h = absurd h
unquiet_at_end (Record options) index h = absurd h
unquiet_at_end (Call options) index h = absurd h
unquiet_at_end (Help topic) index h = absurd h
unquiet_at_end Version index h = absurd h

spent_at_end : (command : Command) (ticks : ℕ) → IsSpent command ticks → WritesAtEnd command
spent_at_end (Decode words) ticks h = absurd h
spent_at_end (Encode words) ticks h = absurd h
spent_at_end (Show words) ticks h = absurd h
spent_at_end (Loop words) ticks h = absurd h
spent_at_end (Bench options) ticks h = tt
spent_at_end (Serve options) ticks h = absurd h
spent_at_end (Record options) ticks h = absurd h
spent_at_end (Call options) ticks h = absurd h
spent_at_end (Help topic) ticks h = absurd h
spent_at_end Version ticks h = absurd h

-- what is written at a stray frame is a first part of what would be written without it
stray_part : (command : Command) (octets text : List ℕ) → MakesAtStray command octets text
    → MakesPart command octets text
stray_part (Decode words) octets text h = absurd h
stray_part (Encode words) octets text h = absurd h
stray_part (Show words) octets text h = absurd h
stray_part (Loop words) octets text h = inr (text, h, begins_all text)
stray_part (Bench options) octets text h = inl h
stray_part (Serve options) octets text h = absurd h
stray_part (Record options) octets text h = absurd h
stray_part (Call options) octets text h = absurd h
stray_part (Help topic) octets text h = absurd h
stray_part Version octets text h = absurd h

-- what a command wrote is what its run wrote, also if its line could not be told
module _ (command : Command) (octets : List ℕ) (left : Option (List ℕ)) (text : List ℕ) where
  pub told_writes : (end : Result (Unit {0}) Stop) (status : Status) → EndsAs end status
      → ((fault : InputFault) → end ≡ Err (Input fault) → fault_of command octets ≡ Some fault)
      → IfErr end (IsStopOfRun command)
      → Writes command octets left (status_of end) text → Writes command octets left status text
  told_writes end status (inl same) bad sent h = subst (λ s. Writes command octets left s text) (sym same) h
  told_writes (Ok x) status (inr (told, which)) bad sent h = absurd told
  told_writes (Err (Input fault)) status (inr (told, inl is)) bad sent h =
      subst (λ s. Writes command octets left s text) (sym is) (
        h.part,
        refused_memory octets left text command (fault, bad fault refl, h),
      )
  told_writes (Err (Input fault)) status (inr (told, inr is)) bad sent h =
      subst (λ s. Writes command octets left s text) (sym is) (
        h.part,
        refused_write octets left text command (fault, bad fault refl, h),
      )
  told_writes (Err (Stray frame)) status (inr (told, inl is)) bad sent h =
      subst (λ s. Writes command octets left s text) (sym is) (
        stray_part command octets text h,
        has_memory octets left text command (strays_at_end command frame sent),
      )
  told_writes (Err (Stray frame)) status (inr (told, inr is)) bad sent h =
      subst (λ s. Writes command octets left s text) (sym is) (
        stray_part command octets text h,
        has_write octets left text command (strays_at_end command frame sent),
      )
  told_writes (Err (NotQuiet index)) status (inr (told, inl is)) bad sent h =
      subst (λ s. Writes command octets left s text) (sym is) (
        inl h,
        has_memory octets left text command (unquiet_at_end command index sent),
      )
  told_writes (Err (NotQuiet index)) status (inr (told, inr is)) bad sent h =
      subst (λ s. Writes command octets left s text) (sym is) (
        inl h,
        has_write octets left text command (unquiet_at_end command index sent),
      )
  told_writes (Err (Spent ticks)) status (inr (told, inl is)) bad sent h =
      subst (λ s. Writes command octets left s text) (sym is) (
        inl h,
        has_memory octets left text command (spent_at_end command ticks sent),
      )
  told_writes (Err (Spent ticks)) status (inr (told, inr is)) bad sent h =
      subst (λ s. Writes command octets left s text) (sym is) (
        inl h,
        has_write octets left text command (spent_at_end command ticks sent),
      )
  told_writes (Err Memory) status (inr (told, which)) bad sent h = absurd told
  told_writes (Err Read) status (inr (told, which)) bad sent h = absurd told
  told_writes (Err Write) status (inr (told, which)) bad sent h = absurd told

-- ---- each end of a command

module _ (command : Command) (octets before : List ℕ) (left now : Option (List ℕ)) where
  abbrev pub Written : Status → Type 0
  Written status = (text : List ℕ) × Writes command octets left status text × (now ≡ Some (before ++ text))

  -- of a loop
  pub loop_writes : (end : Result (Unit {0}) LoopFault)
      → OnOk end ((text : List ℕ) × Makes command octets text × (now ≡ Some (before ++ text)))
      → ((frame : List ℕ) → end ≡ Err (LoopStray frame) → (text : List ℕ) × MakesAtStray command octets text
      × (now ≡ Some (before ++ text)))
      → (end ≡ Err LoopMemory → Written NoMemory)
      → (end ≡ Err LoopWrite → Written WriteFault)
      → Written (status_of (end_of_loop end))
  loop_writes (Ok x) made all memory write = made
  loop_writes (Err (LoopStray frame)) made all memory write = all frame refl
  loop_writes (Err LoopMemory) made all memory write = memory refl
  loop_writes (Err LoopWrite) made all memory write = write refl

-- ---- a command that writes when its input has ended

none_at_read : (octets : List ℕ) (left : Option (List ℕ)) (command : Command) → WritesAtEnd command
    → MakesAtReadFault command octets left []
none_at_read octets left (Decode words) last = absurd last
none_at_read octets left (Encode words) last = inr (last, refl)
none_at_read octets left (Show words) last = absurd last
none_at_read octets left (Loop words) last = refl
none_at_read octets left (Bench options) last = refl
none_at_read octets left (Serve options) last = absurd last
none_at_read octets left (Record options) last = absurd last
none_at_read octets left (Call options) last = absurd last
none_at_read octets left (Help topic) last = refl
none_at_read octets left Version last = refl

module _ (command : Command) (last : WritesAtEnd command) (octets before : List ℕ) (left now : Option (List ℕ)) where
  abbrev pub WrittenPart : Type 0
  WrittenPart = (part : List ℕ) × MakesPart command octets part × (now ≡ Some (before ++ part))

  pub nothing_written : now ≡ Some before → WrittenPart
  nothing_written is = ([], inl refl, is ∙ ap Some (sym (append-nil before)))

  pub part_written : (text : List ℕ) → Makes command octets text → WrotePart before text now → WrittenPart
  part_written text makes part = (part.0, inr (text, makes_first command octets text makes, (part.1, part.2)), part.3)

  pub at_memory : WrittenPart → Written command octets before left now NoMemory
  at_memory h = (h.0, (h.1, has_memory octets left h.0 command last), h.2)

  pub at_write : WrittenPart → Written command octets before left now WriteFault
  at_write h = (h.0, (h.1, has_write octets left h.0 command last), h.2)

  pub at_read : now ≡ Some before → Written command octets before left now ReadFault
  at_read is = ([], (inl refl, none_at_read octets left command last), is ∙ ap Some (sym (append-nil before)))

-- ---- a command that writes a text of its own

module _ (command : Command) (last : WritesAtEnd command) (octets before text : List ℕ) (left now : Option (List ℕ))
  where
    pub text_writes : (end : Result (Unit {0}) Stop) → (end ≡ Ok tt) ⊎ (end ≡ Err Write) → Makes command octets text
        → OnOk end (now ≡ Some (before ++ text)) → OnErr end (WrotePart before text now)
        → Written command octets before left now (status_of end)
    text_writes end (inl same) makes whole cut =
        subst (λ e. Written command octets before left now (status_of e)) (sym same)
        (text, makes, subst (λ e. OnOk e (now ≡ Some (before ++ text))) same whole)
    text_writes end (inr same) makes whole cut =
        subst (λ e. Written command octets before left now (status_of e)) (sym same)
        (at_write command last octets before left now
        (part_written command last octets before left now text makes
        (subst (λ e. OnErr e (WrotePart before text now)) same cut)))

-- ---- bench

module _ (options : BenchOptions) (octets before : List ℕ) (left now : Option (List ℕ)) where
  pub bench_writes : (end : Result (Unit {0}) CommandFault)
      → OnOk end ((text : List ℕ) × IsReportOf options text × (now ≡ Some (before ++ text)))
      → ((fault : BenchFault) → end ≡ Err (OfRun fault) → now ≡ Some before)
      → (end ≡ Err OfBenchWrite → (text : List ℕ) × IsReportOf options text × WrotePart before text now)
      → Written (Bench options) octets before left now (status_of (end_of_bench end))
  bench_writes (Ok x) made none cut = made
  bench_writes (Err (OfRun (BenchStray frame))) made none cut =
      ([], refl, none (BenchStray frame) refl ∙ ap Some (sym (append-nil before)))
  bench_writes (Err (OfRun (BenchNotQuiet index))) made none cut =
      ([], refl, none (BenchNotQuiet index) refl ∙ ap Some (sym (append-nil before)))
  bench_writes (Err (OfRun (BenchSpent ticks))) made none cut =
      ([], refl, none (BenchSpent ticks) refl ∙ ap Some (sym (append-nil before)))
  bench_writes (Err (OfRun BenchMemory)) made none cut =
      at_memory (Bench options) tt octets before left now
      (nothing_written (Bench options) tt octets before left now (none BenchMemory refl))
  bench_writes (Err OfBenchWrite) made none cut =
      let part = cut refl in
      at_write (Bench options) tt octets before left now
      (part_written (Bench options) tt octets before left now part.0 part.1 part.2)
