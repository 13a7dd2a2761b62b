-- What decode, encode and show write, by how the engine ends.
use Rattle.tnc_main.proofs.Common.{◌≡◌, ℕ, ◌+◌, ◌≤◌, Bool, true, false, List, [], ◌++◌, length, take, Option, Some}
use Rattle.tnc_main.proofs.Common.{None, Result, Ok, Err, inl, inr, ◌⊎◌, OnOk, append-nil, refl, sym, subst, ap, ◌∙◌, IsDecoded}
use Rattle.tnc_main.proofs.Common.{arith, Command, Decode, Encode, Show, Loop, Bench, Serve, Help, Record, Call, Version}
use Rattle.tnc_main.proofs.Common.{DecodeWords, EncodeWords, Fault, InputFault, TooLong, input_limit, WereRead, encoded}
use Rattle.tnc_main.proofs.Common.{encoded_before, keeps_frames, fault_kept, Makes, Reads, fault_of}
use Rattle.tnc_main.proofs.Common.{HasAtMemory, MakesPart, end_of, status_of}
use Rattle.std.proofs.lemmas.Bool.{cases_lt}
use Rattle.std.proofs.Common.{append_assoc}
use Rattle.std.proofs.lemmas.List.{take-append-drop}
use Rattle.std.specs.Prelude.{drop}
use Rattle.tnc_words.specs.declared.command.ShowWords.{ShowWords}
use Rattle.tnc_forms.specs.declared.fault.Fault.TheVariants.{Input, Memory, Read, Write}
use Rattle.tnc_forms.specs.Reading.{piece_limit}
use Rattle.tnc_engine.specs.Ended.{IsEnded}
use Rattle.tnc_engine.specs.Making.{IsMaking, Making, fault_in}
use Rattle.tnc_engine.proofs.EndedLemmas.{to_bad, to_end, to_good, to_stops}
use Rattle.tnc_engine.proofs.MakingLemmas.{settled_begins}
use Rattle.tnc_decode.specs.Making.{decode_making}
use Rattle.tnc_decode.specs.Written.{most_at_once}
use Rattle.tnc_decode.proofs.AudioLemmas.{begins_with}
use Rattle.tnc_decode.proofs.MakingLemmas.{decodes}
use Rattle.tnc_decode.proofs.SettledLemmas.{early_part}
use Rattle.tnc_decode.specs.Audio.{rates_of, samples_read}
use Rattle.tnc_encode.specs.Making.{encode_making}
use Rattle.tnc_encode.specs.Writing.{EncodesWhole}
use Rattle.tnc_encode.proofs.EndedLemmas.{before_sent, encodes_sent, fault_sent, so_far_kept}
use Rattle.tnc_encode.proofs.EndedLemmas.{whole_too_long}
use Rattle.tnc_show.specs.Making.{show_making}
use Rattle.tnc_show.proofs.MakingLemmas.{show_is_making}
use Rattle.tnc_main.specs.Commands.{MakesUpToFault}
use Rattle.tnc_main.specs.Parts.{HasAtWriteFault, MakesAtReadFault, MakesOfTooMany, SettledByMost, Settles}
use Rattle.tnc_main.proofs.Writing.{Written, at_memory, at_read, at_write, part_written, up_to_fault}

-- what a maker makes is what a command makes of its input, if octets are read at most so many at once
pub record IsMadeBy (command : Command) (making : Making) (most : ℕ) : Type 0 where
  pub laws : IsMaking making
  pub bad : (octets : List ℕ) → fault_of command octets ≡ fault_in making octets
  pub makes : (octets text : List ℕ) → making.Makes octets text
      → Makes command octets text × MakesUpToFault command octets text
  pub part : (octets part : List ℕ) → making.Begins octets part → MakesPart command octets part
  pub many : (octets text : List ℕ) → making.Settles (take input_limit octets) text → MakesOfTooMany command octets text
  pub fault : (octets : List ℕ) (left : Option (List ℕ)) (read text : List ℕ) → WereRead octets left read
      → making.fault_so_far read ≡ None → making.Settles read text → MakesAtReadFault command octets left text
  pub memory : (octets : List ℕ) (left : Option (List ℕ)) (read front rest text : List ℕ) → WereRead octets left read
      → read ≡ front ++ rest → length rest ≤ most → making.fault_so_far front ≡ None → making.Settles front text
      → HasAtMemory command octets left text
  pub write : (octets : List ℕ) (left : Option (List ℕ)) (read front rest early more : List ℕ)
      → WereRead octets left read → read ≡ front ++ rest → length rest ≤ most → making.fault_so_far front ≡ None
      → making.Settles front early → making.Begins read (early ++ more)
      → HasAtWriteFault command octets left (early ++ more)

-- how a command ends that reads its input
pub record ReadsAs (command : Command) (octets : List ℕ) (left was now : Option (List ℕ))
    (r : Result (Unit {0}) Fault) : Type 0 where
  pub end : OnOk r (left ≡ Some [])
  pub good : OnOk r (fault_of command octets ≡ None)
  pub bad : (fault : InputFault) → r ≡ Err (Input fault) → fault_of command octets ≡ Some fault
  pub stops : r ≡ Err (Input TooLong) → left ≡ Some (drop (input_limit + 1) octets)
  pub written : (before : List ℕ) → was ≡ Some before → Written command octets before left now (status_of (end_of r))

module _ (command : Command) (making : Making) (most : ℕ) (made : IsMadeBy command making most) (octets : List ℕ)
    (left was now : Option (List ℕ)) where
  -- what first octets settle is a first part
  part_settled : (front rest text : List ℕ) → octets ≡ front ++ rest → making.Settles front text
      → MakesPart command octets text
  part_settled front rest text parts settled = made.part octets text (subst (λ o. making.Begins o text) (sym parts)
      (settled_begins making made.laws front rest text text [] settled (sym (append-nil text))))

  written_made : (r : Result (Unit {0}) Fault) → IsEnded making most octets left was now r → (before : List ℕ)
      → was ≡ Some before → Written command octets before left now (status_of (end_of r))
  written_made (Ok x) h before w = (h.wrote.text, (made.makes octets h.wrote.text h.wrote.is).0, h.wrote.written before w)
  written_made (Err (Input fault)) h before w = elim (cases_lt input_limit (length octets)) [
    | inl over ↦
        let wrote = h.wrote_of_many over in (
          wrote.text,
          record {
            part = part_settled (take input_limit octets) (drop input_limit octets) wrote.text
                (sym (take-append-drop input_limit octets)) wrote.is;
            too_many = λ many. made.many octets wrote.text wrote.is;
            up_to_fault = λ few. absurd (omega arith);
          },
          wrote.written before w,
        )
    | inr few ↦
        let wrote = h.wrote few in
        let told = (made.makes octets wrote.text wrote.is).1 in (
          wrote.text,
          record {
            part = up_to_fault command octets wrote.text told;
            too_many = λ over. absurd (omega arith);
            up_to_fault = λ fits. told;
          },
          wrote.written before w,
        )
  ]
  written_made (Err Read) h before w = (
    h.wrote.text,
    (
      part_settled h.read h.taken.rest h.wrote.text h.taken.parts h.wrote.is,
      made.fault octets left h.read h.wrote.text h.taken h.good h.wrote.is,
    ),
    h.wrote.written before w,
  )
  written_made (Err Memory) h before w = (
    h.wrote.text,
    (
      part_settled h.front (h.rest ++ h.taken.rest) h.wrote.text
          (h.taken.parts ∙ ap (λ o. o ++ h.taken.rest) h.parts ∙ append_assoc h.front h.rest h.taken.rest) h.wrote.is,
      made.memory octets left h.read h.front h.rest h.wrote.text h.taken h.parts h.few h.good h.wrote.is,
    ),
    h.wrote.written before w,
  )
  written_made (Err Write) h before w =
      let cut = h.written before w in (
        h.early ++ cut.0,
        (
          made.part octets (h.early ++ cut.0) cut.2,
          made.write octets left h.read h.front h.rest h.early cut.0 h.taken h.parts h.few h.good h.settled cut.1,
        ),
        cut.3,
      )

  reads_made : (r : Result (Unit {0}) Fault) → IsEnded making most octets left was now r
      → ReadsAs command octets left was now r
  reads_made r h = record {
    end = to_end making most octets left was now r h;
    good = subst (λ fault. OnOk r (fault ≡ None)) (sym (made.bad octets)) (to_good making most octets left was now r h);
    bad = λ fault is. made.bad octets ∙ to_bad making most octets left was now r h fault is;
    stops = to_stops making most octets left was now r h;
    written = written_made r h;
  }

-- before an octet was read
unread_made : (command : Command) (making : Making) (most : ℕ) → IsMadeBy command making most → (octets : List ℕ)
    (left : Option (List ℕ)) → left ≡ Some octets → HasAtMemory command octets left []
unread_made command making most made octets left reads =
    made.memory octets left [] [] [] [] (record { rest = octets; parts = refl; left_over = reads }) refl (omega arith)
    made.laws.good made.laws.none

-- ---- decode

decode_made : (words : DecodeWords) → IsMadeBy (Decode words) (decode_making words) (most_at_once words)
decode_made words = record {
  laws = decodes words;
  bad = λ octets. refl;
  makes = λ octets text makes. (makes, makes);
  part = λ octets part is. inr (is.0, is.2, (is.1, is.3));
  many = λ octets text settled. settled;
  fault = λ octets left read text taken good settled. record { read = read; taken = taken; settled = settled };
  memory = λ octets left read front rest text taken parts few good settled.
      let begins = settled_begins (decode_making words) (decodes words) front rest text text [] settled
      (sym (append-nil text)) in
      inl (record {
        read = read;
        front = front;
        whole = begins.0;
        taken = taken;
        parts = (rest, parts);
        settled = settled;
        decoded = subst (λ o. IsDecoded words o begins.0) (sym parts) begins.2;
        part = (begins.1, begins.3);
      });
  write = λ octets left read front rest early more taken parts few good settled begins.
      let y = begins_with (rates_of words.receiving) words.audio front rest in
      let size = y.2 in
      let first = early_part words front read rest early begins.0 y.0 parts (ap (samples_read words) parts ∙ y.1)
      (omega (arith, size, few)) settled begins.2 in
      inl (record {
        read = read;
        early = first.0;
        whole = begins.0;
        taken = taken;
        settled = first.2;
        decoded = begins.2;
        has_early = (first.1 ++ more, ap (λ t. t ++ more) first.3 ∙ append_assoc first.0 first.1 more);
        part = (begins.1, begins.3);
      });
}

pub decode_reads : (words : DecodeWords) (octets : List ℕ) (left was now : Option (List ℕ))
    (r : Result (Unit {0}) Fault) → IsEnded (decode_making words) (most_at_once words) octets left was now r
    → ReadsAs (Decode words) octets left was now r
decode_reads words octets left was now =
    reads_made (Decode words) (decode_making words) (most_at_once words) (decode_made words) octets left was now

-- ---- show

-- all that was read but the last of it
abbrev most_settled : (command : Command) (octets : List ℕ) (left : Option (List ℕ)) (read front rest text : List ℕ)
    → WereRead octets left read → read ≡ front ++ rest → length rest ≤ piece_limit → Settles command front text
    → SettledByMost command octets left text
most_settled command octets left read front rest text taken parts few settled = record {
  read = read;
  front = front;
  rest = rest;
  taken = taken;
  parts = parts;
  few = few;
  settled = settled;
}

show_made : (words : ShowWords) → IsMadeBy (Show words) (show_making words) piece_limit
show_made words = record {
  laws = show_is_making words;
  bad = λ octets. refl;
  makes = λ octets text makes. (makes, makes);
  part = λ octets part is. inr (is.text, (is.frames, is.others, is.parts, is.is), (is.rest, is.begins));
  many = λ octets text settled. settled;
  fault = λ octets left read text taken good settled. record {
    read = read;
    taken = taken;
    settled = record { good = good; is = settled };
  };
  memory = λ octets left read front rest text taken parts few good settled. inl (most_settled (Show words) octets left read
      front rest text taken parts few (record { good = good; is = settled }));
  write = λ octets left read front rest early more taken parts few good settled begins. inl (record {
    early = early;
    most = most_settled (Show words) octets left read front rest early taken parts few
        (record { good = good; is = settled });
    has_early = (more, refl);
    whole = begins.text;
    made = (begins.frames, begins.others, begins.parts, begins.is);
    part = (begins.rest, begins.begins);
  });
}

pub show_reads : (words : ShowWords) (octets : List ℕ) (left was now : Option (List ℕ)) (r : Result (Unit {0}) Fault)
    → IsEnded (show_making words) piece_limit octets left was now r → ReadsAs (Show words) octets left was now r
show_reads words octets left was now =
    reads_made (Show words) (show_making words) piece_limit (show_made words) octets left was now

-- ---- encode, of which each frame is sent as it comes

module _ (words : EncodeWords) (sent : keeps_frames words.audio words.join ≡ false) where
  encode_made : IsMadeBy (Encode words) (encode_making words) piece_limit
  encode_made = record {
    laws = encodes_sent words sent;
    bad = fault_sent words sent;
    makes = λ octets text makes. (makes, makes ∙ before_sent words sent octets);
    part = λ octets part is. inr (encoded words octets, refl, is);
    many = λ octets text settled. settled;
    fault = λ octets left read text taken good settled. inl (record {
      read = read;
      taken = taken;
      settled = (good, settled);
    });
    memory = λ octets left read front rest text taken parts few good settled. inl (most_settled (Encode words) octets left read
        front rest text taken parts few (good, settled));
    write = λ octets left read front rest early more taken parts few good settled begins. inl (record {
      early = early;
      most = most_settled (Encode words) octets left read front rest early taken parts few (good, settled);
      has_early = (more, refl);
      whole = encoded words read;
      made = refl;
      part = begins;
    });
  }

-- ---- and of which the frames are kept

module _ (words : EncodeWords) (kept : keeps_frames words.audio words.join ≡ true) (octets : List ℕ)
    (left was now : Option (List ℕ)) where
  written_kept : (r : Result (Unit {0}) Fault) → EncodesWhole words octets left was now r
      → ((r ≡ Err (Input TooLong)) ⊎ (r ≡ Err Read) → now ≡ was) → (before : List ℕ) → was ≡ Some before
      → Written (Encode words) octets before left now (status_of (end_of r))
  written_kept (Ok x) h same before w = (encoded words octets, refl, h.writes.all before w)
  written_kept (Err (Input fault)) h same before w = elim (cases_lt input_limit (length octets)) [
    | inl over ↦
        let both : Some fault ≡ Some TooLong = sym (h.bad fault refl) ∙ whole_too_long words octets over in
        let long : fault ≡ TooLong = cc both in (
          [],
          record {
            part = inl refl;
            too_many = λ many. sym (so_far_kept words kept (take input_limit octets));
            up_to_fault = λ few. absurd (omega arith);
          },
          same (inl (ap (λ f. failed (Input f)) long)) ∙ w ∙ ap Some (sym (append-nil before)),
        )
    | inr few ↦ (
      encoded_before words octets,
      record {
        part = up_to_fault (Encode words) octets (encoded_before words octets) refl;
        too_many = λ over. absurd (omega arith);
        up_to_fault = λ fits. refl;
      },
      h.before_bad before fault w few refl,
    )
  ]
    where
      failed : Fault → Result (Unit {0}) Fault
      failed e = Err e
  written_kept (Err Read) h same before w =
      at_read (Encode words) kept octets before left now (same (inr refl) ∙ w)
  written_kept (Err Memory) h same before w = at_memory (Encode words) kept octets before left now
      (part_written (Encode words) kept octets before left now (encoded words octets) refl (h.writes.part before w))
  written_kept (Err Write) h same before w = at_write (Encode words) kept octets before left now
      (part_written (Encode words) kept octets before left now (encoded words octets) refl (h.writes.part before w))

  kept_reads : (r : Result (Unit {0}) Fault) → EncodesWhole words octets left was now r
      → ((r ≡ Err (Input TooLong)) ⊎ (r ≡ Err Read) → now ≡ was) → ReadsAs (Encode words) octets left was now r
  kept_reads r h same = record {
    end = h.end;
    good = subst (λ fault. OnOk r (fault ≡ None)) (sym (fault_kept words kept octets)) h.good;
    bad = λ fault is. fault_kept words kept octets ∙ h.bad fault is;
    stops = h.stops;
    written = written_kept r h same;
  }

-- an end by whether the frames are kept
by_keeping : (words : EncodeWords) (P : Type 0) → (keeps_frames words.audio words.join ≡ true → P)
    → (keeps_frames words.audio words.join ≡ false → P) → P
by_keeping words P kept sent = go (keeps_frames words.audio words.join) refl
  where
    go : (b : Bool) → keeps_frames words.audio words.join ≡ b → P
    go true is = kept is
    go false is = sent is

pub encode_reads : (words : EncodeWords) (octets : List ℕ) (left was now : Option (List ℕ))
    (r : Result (Unit {0}) Fault)
    → (keeps_frames words.audio words.join ≡ true → EncodesWhole words octets left was now r)
    → (keeps_frames words.audio words.join ≡ true → (r ≡ Err (Input TooLong)) ⊎ (r ≡ Err Read) → now ≡ was)
    → (keeps_frames words.audio words.join ≡ false → IsEnded (encode_making words) piece_limit octets left was now r)
    → ReadsAs (Encode words) octets left was now r
encode_reads words octets left was now r whole same ended =
    by_keeping words (ReadsAs (Encode words) octets left was now r)
    (λ kept. kept_reads words kept octets left was now r (whole kept) (same kept))
    (λ sent. reads_made (Encode words) (encode_making words) piece_limit (encode_made words sent) octets left was now r
    (ended sent))

-- a command whose words no memory was there for has read nothing
pub unread : (command : Command) (octets : List ℕ) (left : Option (List ℕ)) → Reads command left octets
    → HasAtMemory command octets left []
unread (Decode words) octets left reads =
    unread_made (Decode words) (decode_making words) (most_at_once words) (decode_made words) octets left reads
unread (Encode words) octets left reads = by_keeping words (HasAtMemory (Encode words) octets left [])
    (λ kept. inr (inl kept))
    (λ sent. unread_made (Encode words) (encode_making words) piece_limit (encode_made words sent) octets left reads)
unread (Show words) octets left reads =
    unread_made (Show words) (show_making words) piece_limit (show_made words) octets left reads
unread (Loop words) octets left reads = tt
unread (Bench options) octets left reads = tt
unread (Serve options) octets left reads = absurd reads
unread (Record options) octets left reads = absurd reads
unread (Call options) octets left reads = absurd reads
unread (Help topic) octets left reads = tt
unread Version octets left reads = tt
