-- A frame as AGWPE shows it to a host that monitors the channel (the AGWPE TCP/IP API tutorial, SV2AGW; in the letter
-- as Dire Wolf writes it): from whom to whom, by way of which repeaters, what it is, when it was heard or sent, and its
-- information.
use Rattle.std.specs.Prelude.{ℕ, ◌==◌, Bool, true, false, not, ◌&&◌, if◌then◌else◌, List, [], ◌∷◌, ◌++◌, length, codes}
use Rattle.std.specs.Prelude.{decimal}
use Rattle.std.specs.List.{list_any}
use Rattle.hex.specs.Hex.{encode_upper}
use Rattle.ax25_address.specs.AddressField.{bit}
use Rattle.ax25_address.specs.CallText.{text_of_call}
use Rattle.ax25_address.specs.declared.path.Hop.{Hop}
use Rattle.ax25_address.specs.declared.path.Path.{Path}
use Rattle.ax25_address.specs.declared.path.Role.{Role}
use Rattle.ax25_address.specs.declared.path.Role.TheVariants.{Command, Response, Old}
use Rattle.ax25_frames.specs.declared.frame.Frame.{Frame}
use Rattle.ax25_frames.specs.declared.frame.Kind.{Kind}
use Rattle.ax25_frames.specs.declared.frame.Kind.TheVariants.{Info, Super, Setup, Ui, Other}
use Rattle.ax25_frames.specs.FrameOctets.{information_of}
use Rattle.ax25_frames.specs.FrameText.{supervisory_name, setup_name, other_name}
use Rattle.frame_monitor.specs.Clock.{clock_text}

-- ---- the path

-- a star stands after the last repeater that has repeated the frame, and after no other
abbrev pub star : Hop → List Hop → List ℕ
star hop others = if hop.done && not (list_any (λ other. other.done) others) then codes "*" else []

-- the repeaters, the first after these words and each other one after a comma
abbrev pub repeaters_text : List ℕ → List Hop → List ℕ
repeaters_text words [] = []
repeaters_text words (hop ∷ hops) =
    words ++ (text_of_call hop.call ++ (star hop hops ++ repeaters_text (codes ",") hops))

abbrev pub path_text : Path → List ℕ
path_text path =
    codes " 1:Fm " ++ (text_of_call path.source ++ (codes " To " ++ (text_of_call path.dest
    ++ repeaters_text (codes " Via ") path.repeaters.items)))

-- ---- what the frame is

-- by the C bits: P of a command, F of a response, and PF in the older version, which tells neither
abbrev pub poll_final_name : Role → List ℕ
poll_final_name Command = codes "P"
poll_final_name Response = codes "F"
poll_final_name (Old c) = codes "PF"

abbrev pub poll_final_text : Role → Bool → List ℕ
poll_final_text role flag = codes " " ++ (poll_final_name role ++ (codes "=" ++ decimal (bit flag)))

abbrev pub length_text : List ℕ → List ℕ
length_text octets = codes " Len=" ++ decimal (length octets)

abbrev pub description : Role → Kind → List ℕ
description role (Info ns nr poll pid octets) =
    codes "<I S" ++ (decimal ns ++ (codes " R" ++ (decimal nr ++ (codes " pid=0x" ++ (encode_upper (pid ∷ [])
    ++ (length_text octets ++ (poll_final_text role poll ++ codes " >")))))))
description role (Super which nr flag) =
    codes "<" ++ (supervisory_name which ++ (codes " R" ++ (decimal nr ++ (poll_final_text role flag ++ codes " >"))))
description role (Setup which flag) = codes "<" ++ (setup_name which ++ (poll_final_text role flag ++ codes " >"))
description role (Ui flag pid octets) =
    codes "<UI pid=" ++ (encode_upper (pid ∷ []) ++ (length_text octets ++ (poll_final_text role flag ++ codes " >")))
description role (Other which flag octets) =
    codes "<" ++ (other_name which ++ (poll_final_text role flag ++ (length_text octets ++ codes " >")))

-- ---- the whole

-- the information as it came, and CR, if there is any
abbrev pub information_text : List ℕ → List ℕ
information_text [] = []
information_text (octet ∷ octets) = (octet ∷ octets) ++ 13 ∷ []

abbrev pub head_text : ℕ → Frame → List ℕ
head_text ticks frame =
    path_text frame.path ++ (codes " " ++ (description frame.path.role frame.kind
    ++ (codes "[" ++ (clock_text ticks ++ codes "]"))))

-- the text of a frame that was heard or sent after so many ticks, which CR and NUL end
abbrev pub monitor_text : ℕ → Frame → List ℕ
monitor_text ticks frame =
    head_text ticks frame ++ (13 ∷ (information_text (information_of frame.kind) ++ 0 ∷ []))

-- ---- the kind of the message

-- U: an unnumbered frame of information
abbrev pub unnumbered_letter : ℕ
unnumbered_letter = 85

-- I: a numbered frame of information
abbrev pub information_letter : ℕ
information_letter = 73

-- S: any other frame
abbrev pub supervisory_letter : ℕ
supervisory_letter = 83

-- T: a frame that this station has sent
abbrev pub sent_letter : ℕ
sent_letter = 84

abbrev pub heard_letter : Kind → ℕ
heard_letter (Info ns nr poll pid octets) = information_letter
heard_letter (Super which nr flag) = supervisory_letter
heard_letter (Setup which flag) = supervisory_letter
heard_letter (Ui flag pid octets) = unnumbered_letter
heard_letter (Other which flag octets) = supervisory_letter

abbrev pub monitor_letter : Bool → Kind → ℕ
monitor_letter sent kind = if sent then sent_letter else heard_letter kind
