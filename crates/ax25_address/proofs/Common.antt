-- The names that most proofs of this crate cite, passed on from one place.
pub use Rattle.ax25_address.specs.AddressField.{IsField, bit, field_octets, ssid_octet}
pub use Rattle.ax25_address.specs.CallText.{IsCallText, IsFaultOf, TellsSsid, ssid_suffix, text_of_call}
pub use Rattle.ax25_address.specs.Callsign.{Callsign, IsCall, IsCallCharacter, IsName, padded}
pub use Rattle.ax25_address.specs.FramePath.{BeginsWithPath, IsPath, destination_bit, field_at, repeater_count}
pub use Rattle.ax25_address.specs.FramePath.{source_bit, undone}
pub use Rattle.ax25_address.specs.Held.{IsHeld}
pub use Rattle.ax25_address.specs.PathFault.{GoesOnFor, ShowsFault}
pub use Rattle.ax25_address.specs.declared.call.CallFault.{CallFault}
pub use Rattle.ax25_address.specs.declared.call.CallFault.TheVariants.{BadSsid, TooLong}
pub use Rattle.ax25_address.specs.declared.fault.AddrFault.{AddrFault}
pub use Rattle.ax25_address.specs.declared.fault.AddrFault.TheVariants.{BadChar, NoEnd, OneAddress, Short}
pub use Rattle.ax25_address.specs.declared.path.Hop.{Hop}
pub use Rattle.ax25_address.specs.declared.path.Path.{Path}
pub use Rattle.std.proofs.Common.{Bool, Err, List, Result, Some, [], ap, arith, drop, eqb, false, get_or, inl, inr, leb}
pub use Rattle.std.proofs.Common.{length, map, refl, replicate, reverse, subst, suc, sym, take, true, ℕ, ◌%◌, ◌*◌, ◌++◌}
pub use Rattle.std.proofs.Common.{◌+◌, ◌-◌, ◌/◌, ◌<◌, ◌∙◌, ◌∷◌, ◌≡◌, ◌≤◌, ◌⊎◌}
pub use Rattle.std.proofs.lemmas.Bool.{cases_lt}
pub use Rattle.std.proofs.lemmas.Bool.Decides.{nat_tests}
pub use Rattle.std.proofs.lemmas.Fmt.{decimal_digit}
pub use Rattle.std.proofs.lemmas.Grind.{common_steps}
pub use Rattle.std.proofs.lemmas.List.{drop_at, ext_get_or, get_or-append_right, get_or-map, get_or_append_left}
pub use Rattle.std.proofs.lemmas.List.{get_or_default, length-append, length-map, length-replicate, length-take-le}
pub use Rattle.std.proofs.lemmas.List.{take-take, take_all, take_at, take_more}
pub use Rattle.std.proofs.lemmas.List.Sums.{position_or_len_is}
pub use Rattle.std.proofs.lemmas.Result.{err_from_is_err_and}
pub use Rattle.std.specs.Char.{to_ascii_uppercase}
