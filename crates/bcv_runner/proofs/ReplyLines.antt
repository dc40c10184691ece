-- A reply's line: its text and a newline.
use Rattle.std.proofs.Common.{◌≡◌, ◌∙◌, ◌<◌, ℕ, List, [], ◌∷◌, ◌++◌, length, length-append, take, refl, sym, ap, arith}
use Rattle.std.specs.Prelude.{Option}
use Rattle.std.specs.Io.KnownBytes.{Appends}
use Rattle.std.proofs.KnownBytes.{Appends-nil}
use Rattle.bcv_model.specs.ReplyText.{reply_text, said_text}
use Rattle.bcv_model.specs.declared.reply.Reply.{Reply}
use Rattle.bcv_runner.specs.Endings.{line_of}

line_text : (r : Reply) → line_of r ≡ reply_text r ++ 10 ∷ []
unfolding said_text
line_text r = refl

pub line_made : (r : Reply) (start text line : List ℕ) → start ≡ [] → text ≡ start ++ reply_text r → line ≡ text ++ 10 ∷ [] → line ≡ line_of r
line_made r start text line none added ended =
    ended ∙ ap (λ (t : List ℕ). t ++ 10 ∷ []) (added ∙ ap (λ (s : List ℕ). s ++ reply_text r) none) ∙ sym (line_text r)

line_there : (r : Reply) → 0 < length (line_of r)
line_there r = omega (arith, ap length (line_text r), length-append (reply_text r) (10 ∷ []))

-- a line of which nothing was written
pub line_missed : (given : Option (List ℕ)) (r : Reply) → (x : List ℕ) × Appends given given x × ((0 < length (line_of r)) × ((k : ℕ) × (x ≡ take k (line_of r))))
line_missed given r = ([], Appends-nil given, (line_there r, (0, refl)))
