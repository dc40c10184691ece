-- How many bytes a message has.
use Rattle.std.proofs.Common.{◌≡◌, ℕ, suc, ◌<◌, ◌≤◌, true, List, length, refl, arith}
use Rattle.std.specs.Prelude.{◌&&◌, nat_le}
use Rattle.std.specs.List.{list_all}
use Rattle.std.proofs.lemmas.Bool.{and_parts, leb-true}
use Rattle.bcv_base.specs.Names.{is_name, is_name_byte}
use Rattle.bcv_proto.specs.Messages.{HasFields, IsCut, fields_text, message_text}
use Rattle.bcv_proto.specs.declared.message.Message.{Message}
use Rattle.bcv_proto.specs.declared.message.Message.TheVariants as message

name_short : (name : List ℕ) → is_name name ≡ true → length name ≤ 64
name_short name e =
    let front = (and_parts (nat_le 1 (length name) && nat_le (length name) 64) (list_all is_name_byte name) e).0 in
    leb-true (length name) 64 (and_parts (nat_le 1 (length name)) (nat_le (length name) 64) front).1

fields_short : (m : Message) → HasFields m → length (fields_text m) ≤ 64
fields_short (message.Poll session) h = omega arith
fields_short (message.Begin session db) h = name_short db h
fields_short (message.Read session off len) h = omega arith
fields_short (message.End session) h = omega arith
fields_short (message.List session) h = omega arith
fields_short (message.Hold session page) h = omega arith
fields_short (message.Look session page) h = omega arith
fields_short (message.Free session page) h = omega arith

-- the front of a message is short
pub cut_short : (bytes : List ℕ) → IsCut bytes → length bytes < 73
cut_short bytes cut =
    let m = cut.whole in
    let e : length (message_text m) ≡ suc (suc (suc (suc (suc (suc (suc (suc (suc (length (fields_text m)))))))))) = refl in
    omega (arith, e, cut.longer, fields_short m cut.is_one.1)
