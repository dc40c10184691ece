-- The laws of messages and answers on a stream.
use Rattle.std.specs.Prelude.{◌≡◌, ℕ, ◌^◌, ◌<◌, List, [], ◌++◌, length}
use Rattle.bcv_proto.specs.declared.answer.Answer.{Answer}
use Rattle.bcv_proto.specs.declared.message.Message.{Message}
use Rattle.bcv_proto.specs.declared.message.Parsed.{Parsed}
use Rattle.bcv_proto.specs.declared.message.Parsed.TheVariants as parsed
use Rattle.bcv_proto.specs.Answers.{answer_text, FitsAnswer}
use Rattle.bcv_proto.specs.Fields.{parsed_of}
use Rattle.bcv_proto.specs.Messages.{message_text, IsMessage, Reads}

-- a message's bytes are read as that message, whatever follows
abbrev pub TextIsReadBack : Type 0
TextIsReadBack = (m : Message) (rest : List ℕ) → IsMessage m
    → parsed_of (message_text m ++ rest) ≡ parsed.Whole m (length (message_text m))

-- bytes begin with one message at most
abbrev pub OneMessageBegins : Type 0
OneMessageBegins = (m k : Message) (a b : List ℕ) → IsMessage m → IsMessage k
    → message_text m ++ a ≡ message_text k ++ b → (m ≡ k) × (a ≡ b)

-- no message's bytes go on to be another message's
abbrev pub NoMessageGoesOn : Type 0
NoMessageGoesOn = (m k : Message) (rest : List ℕ) → IsMessage m → IsMessage k
    → message_text m ++ rest ≡ message_text k → (m ≡ k) × (rest ≡ [])

-- an input is read in one way
abbrev pub OneReading : Type 0
OneReading = (bytes : List ℕ) (f g : Parsed) → Reads bytes f → Reads bytes g → f ≡ g

-- bytes begin with one answer at most, whatever the sessions
abbrev pub OneAnswerBegins : Type 0
OneAnswerBegins = (s t : ℕ) (x y : Answer) (a b : List ℕ) → s < 2 ^ 32 → t < 2 ^ 32
    → FitsAnswer x → FitsAnswer y
    → answer_text s x ++ a ≡ answer_text t y ++ b → (answer_text s x ≡ answer_text t y) × (s ≡ t) × (a ≡ b)

-- no answer's bytes go on to be another answer's
abbrev pub NoAnswerGoesOn : Type 0
NoAnswerGoesOn = (s t : ℕ) (x y : Answer) (rest : List ℕ) → s < 2 ^ 32 → t < 2 ^ 32
    → FitsAnswer x → FitsAnswer y
    → answer_text s x ++ rest ≡ answer_text t y → (s ≡ t) × (rest ≡ [])
