-- A frame as one line of text: `SOURCE>DEST,REPEATER*` and what the frame says. An asterisk stands after a repeater
-- that has repeated the frame, and information is in hexadecimal.
use Rattle.std.specs.Prelude.{ℕ, ◌==◌, Bool, true, false, if◌then◌else◌, List, [], ◌∷◌, ◌++◌, length, flat_map, codes}
use Rattle.std.specs.Prelude.{decimal}
use Rattle.hex.specs.Hex.{encode_lower}
use Rattle.ax25_address.specs.CallText.{text_of_call}
use Rattle.ax25_address.specs.AddressField.{bit}
use Rattle.ax25_address.specs.declared.path.Hop.{Hop}
use Rattle.ax25_address.specs.declared.path.Path.{Path}
use Rattle.ax25_address.specs.declared.path.Role.{Role}
use Rattle.ax25_address.specs.declared.path.Role.TheVariants.{Command, Response, Old}
use Rattle.ax25_address.specs.declared.fault.AddrFault.{AddrFault}
use Rattle.ax25_address.specs.declared.fault.AddrFault.TheVariants.{Short, BadChar, OneAddress, NoEnd}
use Rattle.ax25_frames.specs.declared.frame.Frame.{Frame}
use Rattle.ax25_frames.specs.declared.frame.Kind.{Kind}
use Rattle.ax25_frames.specs.declared.frame.Kind.TheVariants.{Info, Super, Setup, Ui, Other}
use Rattle.ax25_frames.specs.declared.frame.S.{S}
use Rattle.ax25_frames.specs.declared.frame.S.TheVariants.{Rr, Rnr, Rej, Srej}
use Rattle.ax25_frames.specs.declared.frame.U.{U}
use Rattle.ax25_frames.specs.declared.frame.U.TheVariants.{Sabm, Sabme, Disc, Dm, Ua}
use Rattle.ax25_frames.specs.declared.frame.W.{W}
use Rattle.ax25_frames.specs.declared.frame.W.TheVariants.{Frmr, Xid, Test}
use Rattle.ax25_frames.specs.declared.fault.FrameFault.{FrameFault}
use Rattle.ax25_frames.specs.declared.fault.FrameFault.TheVariants.{Address, NoControl, NoPid, UnknownControl}
use Rattle.ax25_frames.specs.declared.fault.FrameFault.TheVariants.{InfoTooLong, StrayInfo, Memory}

-- a frame is a command by its C bits
abbrev pub has_command_bits : Role → Bool
has_command_bits Command = true
has_command_bits Response = false
has_command_bits (Old c) = false

-- an unnumbered frame is a command or a response by itself, whatever its C bits say
abbrev pub sets_up_or_ends : U → Bool
sets_up_or_ends Sabm = true
sets_up_or_ends Sabme = true
sets_up_or_ends Disc = true
sets_up_or_ends Dm = false
sets_up_or_ends Ua = false

abbrev pub exchanges_or_tests : W → Bool
exchanges_or_tests Frmr = false
exchanges_or_tests Xid = true
exchanges_or_tests Test = true

-- whether a frame is read as a command: I, UI, SABM, SABME, DISC, XID and TEST are, and an S frame by its C bits
abbrev pub is_command_of : Role → Kind → Bool
is_command_of role (Info ns nr poll pid octets) = true
is_command_of role (Super which nr flag) = has_command_bits role
is_command_of role (Setup which flag) = sets_up_or_ends which
is_command_of role (Ui flag pid octets) = true
is_command_of role (Other which flag octets) = exchanges_or_tests which

-- a repeater, with an asterisk if it has repeated the frame
abbrev pub hop_text : Hop → List ℕ
hop_text hop = codes "," ++ text_of_call hop.call ++ (if hop.done then codes "*" else [])

-- a path
abbrev pub path_text : Path → List ℕ
path_text path = text_of_call path.source ++ codes ">" ++ text_of_call path.dest
    ++ flat_map hop_text path.repeaters.items

abbrev pub role_word : Bool → List ℕ
role_word command = if command then codes "cmd" else codes "rsp"

-- the length of the information, and the information if there is some
abbrev pub information_text : List ℕ → List ℕ
information_text octets =
    codes " len=" ++ decimal (length octets) ++ (if length octets == 0 then [] else codes " " ++ encode_lower octets)

abbrev pub supervisory_name : S → List ℕ
supervisory_name Rr = codes "RR"
supervisory_name Rnr = codes "RNR"
supervisory_name Rej = codes "REJ"
supervisory_name Srej = codes "SREJ"

abbrev pub setup_name : U → List ℕ
setup_name Sabm = codes "SABM"
setup_name Sabme = codes "SABME"
setup_name Disc = codes "DISC"
setup_name Dm = codes "DM"
setup_name Ua = codes "UA"

abbrev pub other_name : W → List ℕ
other_name Frmr = codes "FRMR"
other_name Xid = codes "XID"
other_name Test = codes "TEST"

-- a PID
abbrev pub pid_text : ℕ → List ℕ
pid_text pid = codes " pid=" ++ encode_lower (pid ∷ [])

-- what a frame says
abbrev pub kind_text : Bool → Kind → List ℕ
kind_text command (Info ns nr poll pid octets) =
    codes "I " ++ role_word command ++ codes " ns=" ++ decimal ns ++ codes " nr=" ++ decimal nr ++ codes " p="
    ++ decimal (bit poll) ++ pid_text pid ++ information_text octets
kind_text command (Super which nr flag) =
    supervisory_name which ++ codes " " ++ role_word command ++ codes " nr=" ++ decimal nr ++ codes " f="
    ++ decimal (bit flag)
kind_text command (Setup which flag) = setup_name which ++ codes " " ++ role_word command ++ codes " f="
    ++ decimal (bit flag)
kind_text command (Ui flag pid octets) = codes "UI " ++ role_word command ++ codes " f=" ++ decimal (bit flag)
    ++ pid_text pid ++ information_text octets
kind_text command (Other which flag octets) = other_name which ++ codes " " ++ role_word command ++ codes " f="
    ++ decimal (bit flag) ++ information_text octets

-- the line of a frame
abbrev pub text_of_frame : Frame → List ℕ
text_of_frame frame = path_text frame.path ++ codes " " ++ kind_text (is_command_of frame.path.role frame.kind)
    frame.kind

abbrev pub address_fault_text : AddrFault → List ℕ
address_fault_text (Short at) = codes "! short at " ++ decimal at
address_fault_text (BadChar at) = codes "! bad character at " ++ decimal at
address_fault_text OneAddress = codes "! one address"
address_fault_text NoEnd = codes "! no end"

-- the line of a fault
abbrev pub text_of_frame_fault : FrameFault → List ℕ
text_of_frame_fault (Address fault) = address_fault_text fault
text_of_frame_fault (NoControl at) = codes "! no control at " ++ decimal at
text_of_frame_fault (NoPid at) = codes "! no pid at " ++ decimal at
text_of_frame_fault (UnknownControl octet) = codes "! unknown control " ++ encode_lower (octet ∷ [])
text_of_frame_fault (InfoTooLong len) = codes "! info too long " ++ decimal len
text_of_frame_fault (StrayInfo at) = codes "! stray info at " ++ decimal at
text_of_frame_fault Memory = codes "! out of memory"
