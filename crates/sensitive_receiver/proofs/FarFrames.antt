-- Two frames of one line do not end close to one another.
use Rattle.sensitive_receiver.proofs.Common.{◌≡◌, ℕ, ◌+◌, ◌<◌, ◌≤◌, Bool, true, false, List, [], ◌∷◌, ◌++◌, length, ap}
use Rattle.sensitive_receiver.proofs.Common.{◌∙◌, arith, length-append, nat_lt, ◌==◌, ◌&&◌, if◌then◌else◌, length_push}
use Rattle.sensitive_receiver.proofs.Common.{EndsFrame}
use Rattle.std.proofs.Common.{Option, Some, None}
use Rattle.std.specs.List.{fold}
use Rattle.hdlc_framer.specs.BitOrder.{sent_bits}
use Rattle.hdlc_framer.specs.Stuffing.{flag}
use Rattle.hdlc_framer.specs.Frames.{with_fcs}
use Rattle.hdlc_framer.specs.Held.{Line, longer, next_line, open_line, line_after, flag_start}
use Rattle.hdlc_framer.proofs.BitLemmas.{length-sent_bits}
use Rattle.hdlc_framer.proofs.FrameEnds.{line_after-append, frame_flag, frame_told, length-with_fcs}
use Rattle.hdlc_framer.proofs.Lines.{after_flag}

-- how many bits a line keeps since the last flag
abbrev size_of : Option (List Bool) → ℕ
size_of None = 0
size_of (Some content) = length content

size_if : (b : Bool) (u v : Option (List Bool)) (n : ℕ) → size_of u ≤ n → size_of v ≤ n
    → size_of (if b then u else v) ≤ n
size_if true u v n a b = a
size_if false u v n a b = b

size_longer : (content : Option (List Bool)) (bit : Bool) → size_of (longer content bit) ≤ size_of content + 1
size_longer None bit = omega arith
size_longer (Some content) bit =
    size_if (nat_lt (length content) 8215) (Some (content ++ bit ∷ [])) None (length content + 1)
    (omega (arith, length_push content bit)) (omega arith)

-- a bit adds one at most
size_next : (line : Line) (bit : Bool) → size_of (next_line line bit).content ≤ size_of line.content + 1
size_next line true =
    let n : ℕ = size_of line.content + 1 in
    size_if (nat_lt line.ones 5) (longer line.content true) (if line.ones == 5 then line.content else None) n
    (size_longer line.content true)
    (size_if (line.ones == 5) line.content None n (omega arith) (omega arith))
size_next line false =
    let n : ℕ = size_of line.content + 1 in
    let ended : Option (List Bool) = if (line.ones == 6) && line.after_zero then Some [] else None in
    size_if (nat_lt line.ones 5) (longer line.content false) (if line.ones == 5 then line.content else ended) n
    (size_longer line.content false)
    (size_if (line.ones == 5) line.content ended n (omega arith)
    (size_if ((line.ones == 6) && line.after_zero) (Some []) None n (omega arith) (omega arith)))

size_fold : (bits : List Bool) (line : Line)
    → size_of (fold next_line line bits).content ≤ size_of line.content + length bits
size_fold [] line = omega arith
size_fold (bit ∷ bits) line = let one = size_next line bit in let rest = size_fold bits (next_line line bit) in
    omega arith

-- The shortest frame has 17 octets with its check sequence, and its bits lie between the two flags.
pub frames_far : (bits more : List Bool) (bit : Bool) (octets others : List ℕ) → EndsFrame bits octets
    → EndsFrame ((bits ++ more) ++ bit ∷ []) others → length more < 142 → ⊥
unfolding with_fcs
frames_far bits more bit octets others first second few =
    let flagged = frame_flag bits octets first in
    let opened : line_after bits ≡ open_line = ap line_after flagged.1 ∙ line_after-append flagged.0 flag
    ∙ after_flag (line_after flagged.0) in
    let told = frame_told (bits ++ more) bit others second in
    let same : line_after (bits ++ more) ≡ fold next_line open_line more = line_after-append bits more
    ∙ ap (λ line. fold next_line line more) opened in
    let size : size_of (line_after (bits ++ more)).content ≡ length (sent_bits (with_fcs others) ++ flag_start)
    = ap size_of told.2.content in
    let whole : length (sent_bits (with_fcs others) ++ flag_start) ≡ length (sent_bits (with_fcs others)) + 6
    = length-append (sent_bits (with_fcs others)) flag_start in
    let octets_sent = length-sent_bits (with_fcs others) in
    let with_check = length-with_fcs others in
    let least = told.2.frame.least in
    let kept : size_of (line_after (bits ++ more)).content ≡ size_of (fold next_line open_line more).content = ap
    (λ line. size_of line.content) same in
    let small = size_fold more open_line in
    omega arith
