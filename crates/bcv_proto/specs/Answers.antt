-- The answers of a daemon's connection as bytes. Numbers stand with their highest byte first.
use Rattle.std.specs.Prelude.{ℕ, ◌+◌, ◌-◌, ◌≤◌, List, [], ◌∷◌, ◌++◌, length, take, drop}
use Rattle.std.specs.Int.{w8, w32, w64, to_be_bytes}
use Rattle.bcv_base.specs.ManifestText.{counted}
use Rattle.bcv_model.specs.declared.reply.Row.{Row}
use Rattle.bcv_model.specs.ReplyText.{reply_text}
use Rattle.bcv_proto.specs.declared.answer.Answer.{Answer}
use Rattle.bcv_proto.specs.declared.answer.Answer.TheVariants as answer
use Rattle.bcv_proto.specs.Messages.{framed}

-- the number of the base's version, the pages and the local commits
abbrev pub counts_text : Row → List ℕ
counts_text r = to_be_bytes w64 r.number ++ (to_be_bytes w32 r.pages ++ to_be_bytes w64 r.commits)

-- a name after its length
abbrev pub name_text : List ℕ → List ℕ
name_text name = to_be_bytes w8 (length name) ++ name

-- a row: the name and the counts
abbrev pub row_fields : Row → List ℕ
row_fields r = name_text r.name ++ counts_text r

-- a version's number, its page size and its pages
abbrev pub begun_text : ℕ → ℕ → ℕ → List ℕ
begun_text number page_size pages = to_be_bytes w64 number ++ (to_be_bytes w32 page_size ++ to_be_bytes w32 pages)

abbrev pub answer_number : Answer → ℕ
answer_number answer.Fine = 0
answer_number (answer.Polled number) = 1
answer_number (answer.Begun number page_size pages) = 2
answer_number (answer.Bytes bytes) = 3
answer_number (answer.Rows rows) = 5
answer_number (answer.Refused reply) = 64

abbrev pub answer_fields : Answer → List ℕ
answer_fields answer.Fine = []
answer_fields (answer.Polled number) = to_be_bytes w64 number
answer_fields (answer.Begun number page_size pages) = begun_text number page_size pages
answer_fields (answer.Bytes bytes) = bytes
answer_fields (answer.Rows rows) = counted row_fields rows
answer_fields (answer.Refused reply) = reply_text reply

-- the bytes of an answer to a session
abbrev pub answer_text : ℕ → Answer → List ℕ
answer_text session a = framed (answer_number a) session (answer_fields a)

-- an answer with zeros for its length
abbrev pub unmeasured : ℕ → Answer → List ℕ
unmeasured session a = to_be_bytes w32 0 ++ (answer_number a ∷ (to_be_bytes w32 session ++ answer_fields a))

-- a text with the length of what stands after four bytes from a place on in these bytes
abbrev pub measured_from : ℕ → List ℕ → List ℕ
measured_from start text = take start text ++ (to_be_bytes w32 (length text - (start + 4)) ++ drop (start + 4) text)

-- the bytes of an answer after its length: at most 16 MiB and 64 more
abbrev pub most_answer : ℕ
most_answer = 16777280

abbrev pub FitsAnswer : Answer → Type 0
FitsAnswer a = 5 + length (answer_fields a) ≤ most_answer
