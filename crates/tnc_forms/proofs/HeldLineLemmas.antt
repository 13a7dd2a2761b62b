-- A reader of lines takes more octets.
use Rattle.tnc_forms.proofs.Common.{◌≡◌, ℕ, ◌+◌, ◌<◌, ◌≤◌, true, List, [], ◌∷◌, ◌++◌, length, length-append}
use Rattle.tnc_forms.proofs.Common.{append_assoc, Some, None, sym, ap, ◌∙◌, arith, lt-ltb, le-ltb, if◌then◌else◌}
use Rattle.tnc_forms.proofs.Common.{option_to_list, strip_carriage_return, append-nil, InputFault, LongLine}
use Rattle.tnc_forms.proofs.Common.{fault_in_line, hex_fault, HeldLine, StandsFor, fault_of, fault_of_lines, frame_of}
use Rattle.tnc_forms.proofs.Common.{frames_in_lines, frames_of_lines, line_fault, Line, ended_of, is_line_feed}
use Rattle.tnc_forms.proofs.Common.{lines_from, lines_of, parts_of, fault_so_far, frames_so_far, known_of}
use Rattle.tnc_forms.specs.declared.fault.InputFault.TheVariants.{Line as BadLine}
use Rattle.tnc_forms.proofs.CutLemmas.{IsInside, ended_now, ended_of_more, first_line, inside_more, inside_none}
use Rattle.tnc_forms.proofs.CutLemmas.{known_now, known_of_more, lines_ended, lines_now, strip_size}
use Rattle.tnc_forms.proofs.SoFarLemmas.{fault_join, fault_some, frames_join, line_fault_at, long_fault, one_bad}
use Rattle.tnc_forms.proofs.SoFarLemmas.{one_fault, one_frame}

module _ (held : HeldLine) (octets : List ℕ) (h : StandsFor held octets) where
  -- the line that has not ended
  abbrev pub open_line : Line
  open_line = record { place = held.place; text = held.part }

  pub frames_held : frames_so_far held.least octets ≡ frames_of_lines held.least h.ended
  unfolding frames_so_far
  frames_held = ap (frames_of_lines held.least) (ended_now octets h.ended held.place held.part h.inside h.cut)

  pub fault_held : fault_so_far held.least octets ≡ None
  unfolding fault_so_far
  fault_held =
      let known : known_of (lines_of octets) ≡ h.ended =
      known_now octets h.ended held.place held.part h.inside h.cut
      ∙ ap (λ b. h.ended ++ (if b then open_line ∷ [] else []))
      (le-ltb 2048 (length (strip_carriage_return held.part)) h.short) ∙ append-nil h.ended in
      ap (λ lines. fault_in_line (fault_of_lines held.least lines)) known ∙ ap fault_in_line h.good

  -- the end of the input: the open line is the last one
  pub frames_last : fault_of held.least open_line ≡ None → frames_in_lines held.least octets
      ≡ frames_so_far held.least octets ++ option_to_list (frame_of held.least open_line)
  unfolding frames_in_lines
  frames_last none =
      ap (frames_of_lines held.least) (lines_now octets h.ended held.place held.part h.inside h.cut)
      ∙ frames_join held.least h.ended (open_line ∷ []) h.good
      ∙ ap (λ fs. frames_of_lines held.least h.ended ++ fs) (one_frame held.least open_line none)
      ∙ ap (λ fs. fs ++ option_to_list (frame_of held.least open_line)) (sym frames_held)

  fault_last : hex_fault held.least octets ≡ fault_in_line (fault_of_lines held.least (open_line ∷ []))
  unfolding line_fault
  fault_last =
      ap (λ lines. fault_in_line (fault_of_lines held.least lines))
      (lines_now octets h.ended held.place held.part h.inside h.cut)
      ∙ ap fault_in_line (fault_join held.least h.ended (open_line ∷ []) h.good)

  pub good_last : fault_of held.least open_line ≡ None → hex_fault held.least octets ≡ None
  good_last none = fault_last ∙ ap fault_in_line (one_fault held.least open_line [] none)

  pub bad_last : (fault : InputFault) → fault_in_line (fault_of held.least open_line) ≡ Some fault
      → (hex_fault held.least octets ≡ Some fault) × (frames_in_lines held.least octets
      ≡ frames_so_far held.least octets)
  unfolding frames_in_lines
  bad_last fault is =
      let found = fault_some (fault_of held.least open_line) fault is in
      let bad = one_bad held.least open_line [] found.0 found.1 in (
        fault_last ∙ ap fault_in_line bad.1 ∙ found.2,
        ap (frames_of_lines held.least) (lines_now octets h.ended held.place held.part h.inside h.cut)
            ∙ frames_join held.least h.ended (open_line ∷ []) h.good
            ∙ ap (λ fs. frames_of_lines held.least h.ended ++ fs) bad.0
            ∙ append-nil (frames_of_lines held.least h.ended) ∙ sym frames_held,
      )

  module _ (more : List ℕ) (inside : IsInside more) where
    longer : IsInside (held.part ++ more)
    longer = inside_more held.part more h.inside inside

    cut_more : (rest : List ℕ) → lines_of ((octets ++ more) ++ rest)
        ≡ h.ended ++ lines_from held.place (parts_of ((held.part ++ more) ++ rest))
    cut_more rest =
        ap (λ o. lines_of o) (append_assoc octets more rest) ∙ h.cut (more ++ rest)
        ∙ ap (λ o. h.ended ++ lines_from held.place (parts_of o)) (sym (append_assoc held.part more rest))

    -- more octets of the line
    pub stands_more : length (strip_carriage_return (held.part ++ more)) ≤ 2048
        → StandsFor (record { least = held.least; place = held.place; part = held.part ++ more }) (octets ++ more)
    stands_more short = record {
      ended = h.ended;
      cut = cut_more;
      inside = longer;
      good = h.good;
      short = short;
      count = (let a = h.count in let b = length-append octets more in let d = length-append held.part more in
          omega (arith, a, b, d));
    }

    pub frames_kept : frames_so_far held.least (octets ++ more) ≡ frames_so_far held.least octets
    unfolding frames_so_far
    frames_kept =
        ap (frames_of_lines held.least) (ended_now (octets ++ more) h.ended held.place (held.part ++ more)
        longer cut_more) ∙ sym frames_held

    -- too many of them
    pub long_more : 2048 < length (strip_carriage_return (held.part ++ more))
        → fault_so_far held.least (octets ++ more) ≡ Some (BadLine (line_fault_at LongLine held.place))
    unfolding fault_so_far
    long_more over =
        let now : Line = record { place = held.place; text = held.part ++ more } in
        let size = (strip_size (held.part ++ more)).0 in
        ap (λ lines. fault_in_line (fault_of_lines held.least lines))
        (known_now (octets ++ more) h.ended held.place (held.part ++ more) longer cut_more
        ∙ ap (λ b. h.ended ++ (if b then now ∷ [] else []))
        (lt-ltb 2048 (length (strip_carriage_return (held.part ++ more))) over))
        ∙ ap fault_in_line (fault_join held.least h.ended (now ∷ []) h.good)
        ∙ ap fault_in_line (one_bad held.least now [] (line_fault_at LongLine held.place)
        (long_fault held.least now (omega (arith, size, over)))).1

    module _ (feed : ℕ) (is_feed : is_line_feed feed ≡ true) where
      -- the line that ends with the line feed
      abbrev pub closed : Line
      closed = record { place = held.place; text = strip_carriage_return (held.part ++ more) }

      abbrev pub opened : HeldLine
      opened = record { least = held.least; place = held.place + length (held.part ++ more) + 1; part = [] }

      cut_end : (rest : List ℕ) → lines_of ((octets ++ (more ++ feed ∷ [])) ++ rest)
          ≡ (h.ended ++ closed ∷ []) ++ lines_from opened.place (parts_of ([] ++ rest))
      cut_end rest =
          ap (λ o. lines_of o) (append_assoc octets (more ++ feed ∷ []) rest
          ∙ ap (λ o. octets ++ o) (append_assoc more (feed ∷ []) rest)
          ∙ sym (append_assoc octets more (feed ∷ rest)))
          ∙ cut_more (feed ∷ rest)
          ∙ ap (λ lines. h.ended ++ lines) (lines_ended held.place (held.part ++ more) feed rest longer is_feed)
          ∙ sym (append_assoc h.ended (closed ∷ []) (lines_from opened.place (parts_of rest)))

      pub stands_end : fault_of held.least closed ≡ None → StandsFor opened (octets ++ (more ++ feed ∷ []))
      stands_end none = record {
        ended = h.ended ++ closed ∷ [];
        cut = cut_end;
        inside = inside_none;
        good = fault_join held.least h.ended (closed ∷ []) h.good ∙ one_fault held.least closed [] none;
        short = omega arith;
        count = (let a = h.count in let b = length-append octets (more ++ feed ∷ []) in let d =
            length-append held.part more in let e = length-append more (feed ∷ []) in omega (arith, a, b, d, e));
      }

      pub frames_end : fault_of held.least closed ≡ None
          → frames_so_far held.least (octets ++ (more ++ feed ∷ []))
          ≡ frames_so_far held.least octets ++ option_to_list (frame_of held.least closed)
      unfolding frames_so_far
      frames_end none =
          ap (frames_of_lines held.least) (ended_now (octets ++ (more ++ feed ∷ [])) (h.ended ++ closed ∷ [])
          opened.place [] inside_none cut_end)
          ∙ frames_join held.least h.ended (closed ∷ []) h.good
          ∙ ap (λ fs. frames_of_lines held.least h.ended ++ fs) (one_frame held.least closed none)
          ∙ ap (λ fs. fs ++ option_to_list (frame_of held.least closed)) (sym frames_held)

      -- a bad line
      module _ (rest : List ℕ) (fault : InputFault) (is : fault_in_line (fault_of held.least closed) ≡ Some fault) where
        all_octets : octets ++ (more ++ feed ∷ rest) ≡ (octets ++ (more ++ feed ∷ [])) ++ rest
        all_octets = ap (λ o. octets ++ o) (sym (append_assoc more (feed ∷ []) rest))
            ∙ sym (append_assoc octets (more ++ feed ∷ []) rest)

        lines_there : lines_of (octets ++ (more ++ feed ∷ rest))
            ≡ h.ended ++ closed ∷ lines_from opened.place (parts_of rest)
        lines_there = ap (λ o. lines_of o) all_octets ∙ cut_end rest
            ∙ append_assoc h.ended (closed ∷ []) (lines_from opened.place (parts_of rest))

        pub bad_end : (fault_so_far held.least (octets ++ (more ++ feed ∷ rest)) ≡ Some fault)
            × (frames_so_far held.least (octets ++ (more ++ feed ∷ rest)) ≡ frames_so_far held.least octets)
        unfolding fault_so_far frames_so_far
        bad_end =
            let next = first_line opened.place [] rest inside_none in
            let found = fault_some (fault_of held.least closed) fault is in
            let lines : lines_of (octets ++ (more ++ feed ∷ rest)) ≡ h.ended ++ closed ∷ next.first ∷ next.rest =
            lines_there ∙ ap (λ ls. h.ended ++ closed ∷ ls) next.cut in
            let known : known_of (lines_of (octets ++ (more ++ feed ∷ rest)))
            ≡ h.ended ++ closed ∷ known_of (next.first ∷ next.rest) =
            ap known_of lines ∙ known_of_more h.ended closed (next.first ∷ next.rest) in
            let ended : ended_of (lines_of (octets ++ (more ++ feed ∷ rest)))
            ≡ h.ended ++ closed ∷ ended_of (next.first ∷ next.rest) =
            ap ended_of lines ∙ ended_of_more h.ended closed (next.first ∷ next.rest) in
            let bad = one_bad held.least closed (known_of (next.first ∷ next.rest)) found.0 found.1 in
            let none = one_bad held.least closed (ended_of (next.first ∷ next.rest)) found.0 found.1 in (
              ap (λ ls. fault_in_line (fault_of_lines held.least ls)) known
                  ∙ ap fault_in_line (fault_join held.least h.ended (closed ∷ known_of (next.first ∷ next.rest)) h.good)
                  ∙ ap fault_in_line bad.1 ∙ found.2,
              ap (frames_of_lines held.least) ended
                  ∙ frames_join held.least h.ended (closed ∷ ended_of (next.first ∷ next.rest)) h.good
                  ∙ ap (λ fs. frames_of_lines held.least h.ended ++ fs) none.0
                  ∙ append-nil (frames_of_lines held.least h.ended) ∙ sym frames_held,
            )
