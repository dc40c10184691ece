-- How long the parts of notes are.
use Rattle.std.proofs.Common.{◌≡◌, ℕ, ◌+◌, ◌*◌, List, [], ◌∷◌, ◌++◌, length, Option, Some, None, refl, arith}
use Rattle.std.proofs.lemmas.List.{length-append}
use Rattle.std.specs.Prelude.{IfSome}
use Rattle.std.specs.Int.{w8, w32, w64, to_be_bytes}
use Rattle.std.specs.List.{flat_map, AllByRecursion}
use Rattle.bcv_base.specs.declared.id.Id16.{Id16}
use Rattle.bcv_base.specs.declared.manifest.DbEntry.{DbEntry}
use Rattle.bcv_base.specs.Ids.{IsId}
use Rattle.bcv_base.specs.Image.{Page}
use Rattle.bcv_base.specs.ManifestRules.{MeetsEntryRules, entry_length}
use Rattle.bcv_base.specs.ManifestText.{entry_text, id_text}
use Rattle.bcv_model.specs.declared.ask.Commit.{Commit}
use Rattle.bcv_model.specs.declared.kept.Kept.{Kept}
use Rattle.bcv_model.specs.declared.kept.Uploading.{Uploading}
use Rattle.bcv_model.specs.declared.note.Note.TheVariants.{Me, First, Committed, Intent, Done, Void, Revert}
use Rattle.bcv_model.specs.Notes.{numbered_page, commit_text, name_field, upload_text, pages_size, commit_size, upload_size}
use Rattle.bcv_model.specs.NoteRules.{MayUpload, SizesAgree}

pages_len : (ps : List (ℕ × Page)) → length (flat_map numbered_page ps) ≡ pages_size ps
pages_len [] = refl
pages_len (p ∷ ps) = omega (arith, length-append (numbered_page p) (flat_map numbered_page ps), length-append (to_be_bytes w32 p.0) p.1, pages_len ps)

commit_len : (c : Commit) → length (commit_text c) ≡ commit_size c.pages
commit_len c =
    omega (arith, length-append (to_be_bytes w32 c.size) (to_be_bytes w32 (length c.pages) ++ flat_map numbered_page c.pages), length-append (to_be_bytes w32 (length c.pages)) (flat_map numbered_page c.pages), pages_len c.pages)

ids_len : (ids : List Id16) → AllByRecursion IsId ids → length (flat_map id_text ids) ≡ 16 * length ids
ids_len [] h = refl
ids_len (i ∷ ids) h = omega (arith, length-append (id_text i) (flat_map id_text ids), h.0.len, ids_len ids h.1)

entry_len : (block : ℕ) (d : DbEntry) → MeetsEntryRules block d → length (entry_text d) ≡ entry_length d
entry_len block d h =
    let ids : List ℕ = flat_map id_text d.blocks in
    let pages : List ℕ = to_be_bytes w32 d.pages ++ ids in
    let size : List ℕ = to_be_bytes w32 d.page_size ++ pages in
    let tag : List ℕ = d.tag.0 ++ size in
    omega (
      arith,
      length-append (to_be_bytes w8 (length d.name)) (d.name ++ tag),
      length-append d.name tag,
      length-append d.tag.0 size,
      length-append (to_be_bytes w32 d.page_size) pages,
      length-append (to_be_bytes w32 d.pages) ids,
      h.tag.len,
      ids_len d.blocks h.ids,
    )

upload_len : (k : Kept) (o : Option Uploading) → IfSome o (MayUpload k) → length (upload_text o) ≡ 1 + upload_size o
upload_len k None h = refl
upload_len k (Some u) h =
    omega (arith, length-append (to_be_bytes w64 u.count) (to_be_bytes w32 u.block ++ entry_text u.entry), length-append (to_be_bytes w32 u.block) (entry_text u.entry), entry_len u.block u.entry h.is_entry)

pub note_len : SizesAgree
note_len k (Me id) h = omega (arith, h.1.len)
note_len k (First entry number block commit) h =
    omega (
      arith,
      length-append (to_be_bytes w32 block) (to_be_bytes w64 number ++ (entry_text entry ++ commit_text commit)),
      length-append (to_be_bytes w64 number) (entry_text entry ++ commit_text commit),
      length-append (entry_text entry) (commit_text commit),
      entry_len block entry h.is_entry,
      commit_len commit,
    )
note_len k (Committed db commit) h = omega (arith, length-append (name_field db) (commit_text commit), commit_len commit)
note_len k (Intent p) h = omega (arith, length-append p.id.0 (upload_text p.upload), h.is_id.len, upload_len k p.upload h.upload)
note_len k (Done id number) h = omega (arith, length-append id.0 (to_be_bytes w64 number), h.0.is_id.len)
note_len k (Void id) h = omega (arith, h.is_id.len)
note_len k (Revert db) h = omega arith
