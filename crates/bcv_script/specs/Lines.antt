-- The parts of a reply's line, and bytes that are added to others.
use Rattle.std.specs.Prelude.{◌≡◌, ℕ, List, ◌++◌, length, take, Result, Ok, Err, codes}
use Rattle.std.specs.List.{flat_map}
use Rattle.std.specs.Fmt.{decimal}
use Rattle.bcv_base.specs.Names.{hex_of}
use Rattle.bcv_model.specs.ReplyText.{page_text, row_text, flag_text, numbers_text}
use Rattle.bcv_script.specs.declared.writing.Part.{Part}
use Rattle.bcv_script.specs.declared.writing.Part.TheVariants as part
use Rattle.bcv_script.specs.declared.writing.Line.{Line}
use Rattle.bcv_script.specs.declared.writing.Line.TheVariants as line

-- the bytes are added at the end; where that failed, what stood there before still begins the rest
abbrev pub Adds : {A E : Type 0} → Result A E → List ℕ → List ℕ → List ℕ → Type 0
Adds (Ok _) old new text = new ≡ old ++ text
Adds (Err _) old new text = take (length old) new ≡ old

-- the text of one part
abbrev pub part_text : Part → List ℕ
part_text (part.Word w) = w.now
part_text (part.Bytes b) = b.now
part_text (part.Number n) = decimal n
part_text (part.Hex b) = hex_of b.now

-- the text of parts, one after another
abbrev pub parts_text : List Part → List ℕ
parts_text ps = flat_map part_text ps

-- the text of a line of each shape
abbrev pub line_text : Line → List ℕ
line_text (line.Word w) = w.now
line_text (line.Counted w n) = w.now ++ decimal n
line_text (line.Task task left) = codes "task " ++ (decimal task ++ (codes " working " ++ decimal left))
line_text (line.Cleaned deleted more) = codes "cleaned " ++ (decimal deleted ++ flag_text more (codes " more"))
line_text (line.Page bytes) = codes "page " ++ page_text bytes.now
line_text (line.Table word rows pending) = word.now ++ (flat_map row_text rows.now ++ flag_text pending (codes " pending"))
line_text (line.Conflict mine theirs) = codes "conflict " ++ (hex_of mine.now ++ (codes " " ++ hex_of theirs.now))
line_text (line.Contended ns) = codes "contended" ++ numbers_text ns.now
line_text (line.Unknown id) = codes "unknown " ++ hex_of id.now
