-- The messages of a daemon's connection as bytes, and what the front of an input is. Numbers stand with their highest byte first.
use Rattle.std.specs.Prelude.{◌≡◌, ◌↔◌, ℕ, ◌+◌, ◌^◌, ◌<◌, ◌≤◌, true, List, [], ◌∷◌, ◌++◌, length, take}
use Rattle.std.specs.Int.{w32, w64, to_be_bytes}
use Rattle.bcv_base.specs.Names.{is_name}
use Rattle.bcv_proto.specs.declared.message.Message.{Message}
use Rattle.bcv_proto.specs.declared.message.Message.TheVariants as message
use Rattle.bcv_proto.specs.declared.message.Parsed.{Parsed}
use Rattle.bcv_proto.specs.declared.message.Parsed.TheVariants as parsed

-- the length of all that follows it, a kind, a session's number and the fields
abbrev pub framed : ℕ → ℕ → List ℕ → List ℕ
framed kind session fields = to_be_bytes w32 (5 + length fields) ++ (kind ∷ (to_be_bytes w32 session ++ fields))

-- ---- messages

abbrev pub session_of : Message → ℕ
session_of (message.Poll session) = session
session_of (message.Begin session db) = session
session_of (message.Read session off len) = session
session_of (message.End session) = session
session_of (message.List session) = session
session_of (message.Hold session page) = session
session_of (message.Look session page) = session
session_of (message.Free session page) = session

abbrev pub kind_number : Message → ℕ
kind_number (message.Poll session) = 1
kind_number (message.Begin session db) = 2
kind_number (message.Read session off len) = 3
kind_number (message.End session) = 4
kind_number (message.List session) = 5
kind_number (message.Hold session page) = 6
kind_number (message.Look session page) = 7
kind_number (message.Free session page) = 8

abbrev pub fields_text : Message → List ℕ
fields_text (message.Poll session) = []
fields_text (message.Begin session db) = db
fields_text (message.Read session off len) = to_be_bytes w64 off ++ to_be_bytes w32 len
fields_text (message.End session) = []
fields_text (message.List session) = []
fields_text (message.Hold session page) = to_be_bytes w32 page
fields_text (message.Look session page) = to_be_bytes w32 page
fields_text (message.Free session page) = to_be_bytes w32 page

-- a message's bytes
abbrev pub message_text : Message → List ℕ
message_text m = framed (kind_number m) (session_of m) (fields_text m)

-- a read asks for at most 16 MiB
abbrev pub most_read : ℕ
most_read = 16777216

-- the fields are in their ranges, and a database's name is one
abbrev pub HasFields : Message → Type 0
HasFields (message.Poll session) = Unit {0}
HasFields (message.Begin session db) = is_name db ≡ true
HasFields (message.Read session off len) = (off < 2 ^ 64) × (len ≤ most_read)
HasFields (message.End session) = Unit {0}
HasFields (message.List session) = Unit {0}
HasFields (message.Hold session page) = page < 2 ^ 32
HasFields (message.Look session page) = page < 2 ^ 32
HasFields (message.Free session page) = page < 2 ^ 32

abbrev pub IsMessage : Message → Type 0
IsMessage m = (session_of m < 2 ^ 32) × HasFields m

-- ---- the front of an input

-- the first n bytes are this message
abbrev pub Begins : List ℕ → Message → ℕ → Type 0
Begins bytes m n = IsMessage m × (n ≤ length bytes) × (take n bytes ≡ message_text m)

-- all bytes are the front of a message that goes on
pub record IsCut (bytes : List ℕ) : Type 0 where
  pub whole : Message
  pub is_one : IsMessage whole
  pub front : bytes ≡ take (length bytes) (message_text whole)
  pub longer : length bytes < length (message_text whole)

-- whole exactly where the input begins with that message of that length, short exactly where it is cut, else bad
pub record Reads (bytes : List ℕ) (found : Parsed) : Type 0 where
  pub whole : (m : Message) (n : ℕ) → (found ≡ parsed.Whole m n) ↔ Begins bytes m n
  pub short : (found ≡ parsed.Short) ↔ IsCut bytes
