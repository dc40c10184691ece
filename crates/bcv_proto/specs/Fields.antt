-- How a message is read, field by field from the left: each is read, cut by the end of the input, or bad.
use Rattle.std.specs.Prelude.{◌≡◌, ℕ, ◌-◌, Bool, true, ◌&&◌, ◌==◌, List, [], ◌∷◌, length, take, drop, Option, Some, None, Result, Ok, Err, nat_lt, nat_le, if◌then◌else◌}
use Rattle.std.specs.Int.{Width, w32, w64, byte_len, from_be_bytes}
use Rattle.bcv_base.specs.Names.{is_name}
use Rattle.bcv_base.specs.Padded.{padded}
use Rattle.bcv_proto.specs.declared.kind.Kind.{Kind}
use Rattle.bcv_proto.specs.declared.kind.Kind.TheVariants as kind
use Rattle.bcv_proto.specs.declared.message.Message.{Message}
use Rattle.bcv_proto.specs.declared.message.Message.TheVariants as message
use Rattle.bcv_proto.specs.declared.message.Parsed.{Parsed}
use Rattle.bcv_proto.specs.declared.message.Parsed.TheVariants as parsed
use Rattle.bcv_proto.specs.declared.stop.Stop.{Stop}
use Rattle.bcv_proto.specs.declared.stop.Stop.TheVariants as stop
use Rattle.bcv_proto.specs.Messages.{most_read}

-- a value and the bytes after it, or why there is none
abbrev pub Read : Type 0 → Type 0
Read A = Result (A × List ℕ) Stop

infixl 10 ◌>>=◌
abbrev pub ◌>>=◌ : {A B : Type 0} → Read A → (A × List ℕ → Read B) → Read B
(Ok x) >>= f = f x
(Err e) >>= f = Err e

-- a call answered, as seen by view, what is read
abbrev pub Gives : {X A : Type 0} → (X → A × List ℕ) → Result X Stop → Read A → Type 0
Gives view (Ok x) read = read ≡ Ok (view x)
Gives view (Err e) read = read ≡ Err e

-- ---- single fields

-- so many bytes
abbrev pub bytes_at : ℕ → List ℕ → Read (List ℕ)
bytes_at n bytes = if nat_lt (length bytes) n then Err stop.Cut else Ok (take n bytes, drop n bytes)

abbrev pub number_at : Width → List ℕ → Read ℕ
number_at w bytes = do
  field ← bytes_at (byte_len w) bytes
  Ok (from_be_bytes w field.0, field.1)

-- a number that was read, within bounds
abbrev pub within : ℕ → ℕ → ℕ → List ℕ → Read ℕ
within low most n rest = if nat_le low n && nat_le n most then Ok (n, rest) else Err stop.Bad

-- the least number of four bytes that begins so
abbrev pub least : List ℕ → ℕ
least cut = from_be_bytes w32 (padded 4 cut)

-- a number of four bytes within bounds; one that is cut may be so where the least that begins so is not above them
abbrev pub bounded_at : ℕ → ℕ → List ℕ → Read ℕ
bounded_at low most bytes =
    if nat_lt (length bytes) 4 then (if nat_le (least bytes) most then Err stop.Cut else Err stop.Bad)
    else within low most (from_be_bytes w32 (take 4 bytes)) (drop 4 bytes)

-- a name, where these bytes are one
abbrev pub named : List ℕ → List ℕ → Read (List ℕ)
named text rest = if is_name text then Ok (text, rest) else Err stop.Bad

-- the front of a name of more bytes: nothing, or a name
abbrev pub is_name_front : List ℕ → Bool
is_name_front [] = true
is_name_front (b ∷ bs) = is_name (b ∷ bs)

-- a name of so many bytes
abbrev pub name_at : ℕ → List ℕ → Read (List ℕ)
name_at n bytes =
    if nat_lt (length bytes) n then (if is_name_front bytes then Err stop.Cut else Err stop.Bad)
    else named (take n bytes) (drop n bytes)

-- ---- kinds

abbrev pub kind_of : ℕ → Option Kind
kind_of n =
    if n == 1 then Some kind.Poll else if n == 2 then Some kind.Begin else if n == 3 then Some kind.Read else if n == 4 then Some kind.End
    else if n == 5 then Some kind.List else if n == 6 then Some kind.Hold else if n == 7 then Some kind.Look else if n == 8 then Some kind.Free
    else None

-- a message of the kind may have so many bytes after its length
abbrev pub has_length : Kind → ℕ → Bool
has_length kind.Poll len = len == 5
has_length kind.Begin len = nat_le 6 len && nat_le len 69
has_length kind.Read len = len == 17
has_length kind.End len = len == 5
has_length kind.List len = len == 5
has_length kind.Hold len = len == 9
has_length kind.Look len = len == 9
has_length kind.Free len = len == 9

abbrev pub kind_found : ℕ → Option Kind → List ℕ → Read Kind
kind_found len None rest = Err stop.Bad
kind_found len (Some k) rest = if has_length k len then Ok (k, rest) else Err stop.Bad

-- a kind of a message of that length
abbrev pub kind_at : ℕ → List ℕ → Read Kind
kind_at len [] = Err stop.Cut
kind_at len (n ∷ rest) = kind_found len (kind_of n) rest

-- ---- the whole

-- a message of a kind and of that length, from its fields on
unfoldable pub fields_at : Kind → ℕ → ℕ → List ℕ → Read Message
fields_at kind.Poll len session bytes = Ok (message.Poll session, bytes)
fields_at kind.Begin len session bytes = do
  db ← name_at (len - 5) bytes
  Ok (message.Begin session db.0, db.1)
fields_at kind.Read len session bytes = do
  off ← number_at w64 bytes
  size ← bounded_at 0 most_read off.1
  Ok (message.Read session off.0 size.0, size.1)
fields_at kind.End len session bytes = Ok (message.End session, bytes)
fields_at kind.List len session bytes = Ok (message.List session, bytes)
fields_at kind.Hold len session bytes = do
  page ← number_at w32 bytes
  Ok (message.Hold session page.0, page.1)
fields_at kind.Look len session bytes = do
  page ← number_at w32 bytes
  Ok (message.Look session page.0, page.1)
fields_at kind.Free len session bytes = do
  page ← number_at w32 bytes
  Ok (message.Free session page.0, page.1)

-- a message; no message has fewer than 5 bytes after its length, or more than 69
unfoldable pub message_at : List ℕ → Read Message
message_at bytes = do
  len ← bounded_at 5 69 bytes
  kind ← kind_at len.0 len.1
  session ← number_at w32 kind.1
  fields_at kind.0 len.0 session.0 session.1

abbrev pub answer_of : ℕ → Read Message → Parsed
answer_of total (Ok x) = parsed.Whole x.0 (total - length x.1)
answer_of total (Err stop.Cut) = parsed.Short
answer_of total (Err stop.Bad) = parsed.Bad

-- what stands at the front of the bytes
unfoldable pub parsed_of : List ℕ → Parsed
parsed_of bytes = answer_of (length bytes) (message_at bytes)
