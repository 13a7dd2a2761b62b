-- The text of a call, and how a call may end before and after it is read.
use Rattle.std.specs.Prelude.{⊤, ℕ, ◌^◌}
use Rattle.tnc_call.specs.declared.call_end.CallEnd.{CallEnd}
use Rattle.tnc_call.specs.declared.call_end.CallEnd.TheVariants.{Done, TooLong, Memory, ReadFault, WriteFault, NoHost}
use Rattle.tnc_call.specs.declared.call_end.CallEnd.TheVariants.{Refused, HostLost, Broken, GaveUp}

-- the most octets of a text
abbrev pub text_limit : ℕ
text_limit = 2 ^ 20

-- a way to end before the text is read
abbrev pub IsReadingEnd : CallEnd → Type 0
IsReadingEnd (Done got) = ⊥
IsReadingEnd TooLong = ⊤
IsReadingEnd Memory = ⊤
IsReadingEnd ReadFault = ⊤
IsReadingEnd WriteFault = ⊥
IsReadingEnd NoHost = ⊥
IsReadingEnd Refused = ⊥
IsReadingEnd HostLost = ⊥
IsReadingEnd (Broken len) = ⊥
IsReadingEnd (GaveUp polls) = ⊥

-- a way to end after the host was dialed
abbrev pub IsTalkEnd : CallEnd → Type 0
IsTalkEnd (Done got) = ⊤
IsTalkEnd TooLong = ⊥
IsTalkEnd Memory = ⊤
IsTalkEnd ReadFault = ⊥
IsTalkEnd WriteFault = ⊤
IsTalkEnd NoHost = ⊥
IsTalkEnd Refused = ⊤
IsTalkEnd HostLost = ⊤
IsTalkEnd (Broken len) = ⊤
IsTalkEnd (GaveUp polls) = ⊤
