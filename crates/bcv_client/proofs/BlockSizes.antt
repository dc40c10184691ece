-- The block size of a client's databases, once one is seen and after the notes of a publication.
use Rattle.std.proofs.Common.{◌≡◌, ◌∙◌, ◌==◌, ℕ, Bool, true, false, not, eqb-true, List, [], Option, Some, None, IfSome, refl, sym, ap, subst}
use Rattle.std.specs.List.{AllByRecursion}
use Rattle.bcv_base.specs.declared.id.Id16.{Id16}
use Rattle.bcv_base.specs.ManifestRules.{is_block_size}
use Rattle.bcv_cache.specs.Entry.{Blocks}
use Rattle.bcv_clientlaws.specs.Forms.{AreInForm, KnownInForm, LocalInForm, PendingInForm, UploadInForm}
use Rattle.bcv_clientlaws.proofs.DatabaseForms.{notes_keep_form, resolves_keep_form}
use Rattle.bcv_clientstate.specs.Parts.{Parts}
use Rattle.bcv_databases.specs.Catalog.{Catalog}
use Rattle.bcv_databases.specs.Sound.{CanEnd, CanUpload}
use Rattle.bcv_databases.specs.declared.known.Known.{Known}
use Rattle.bcv_ledger.specs.NoteEnds.{known_found}
use Rattle.bcv_model.specs.declared.kept.Kept.{Kept}
use Rattle.bcv_model.specs.declared.kept.Local.{Local}
use Rattle.bcv_model.specs.declared.kept.PendingPub.{PendingPub}
use Rattle.bcv_model.specs.declared.kept.Uploading.{Uploading}
use Rattle.bcv_model.specs.declared.note.Note.TheVariants as note
use Rattle.bcv_model.specs.Notes.{after_note, kept_published}
use Rattle.bcv_publish.specs.ManifestRead.{is_other}
use Rattle.bcv_client.specs.ClientForm.{HasSize}

-- ---- the size that was seen

-- the manifest has the block size that was seen
abbrev pub IsAlike : Option ℕ → ℕ → Type 0
IsAlike b block = IfSome b (λ (n : ℕ). block ≡ n)

pub alike_other : (b : Option ℕ) (block : ℕ) → is_other b block ≡ false → IsAlike b block
alike_other None block same = tt
alike_other (Some n) block same = elim (n == block) as (λ (t : Bool). n == block ≡ t → not t ≡ false → block ≡ n) [
  | true ↦ λ is e. sym (eqb-true n block is)
  | false ↦ λ is e. absurd (let x : true ≡ false = e in cc)
] refl same

-- where no databases have commits, none is uploaded
no_upload : (block : ℕ) (locals : List Local) (x : Option PendingPub) → locals ≡ [] → CanEnd locals x → IfSome x (PendingInForm block)
no_upload block locals None none can = tt
no_upload block locals (Some p) none can = by p.upload can
  where
    by : (u : Option Uploading) → IfSome u (CanUpload locals) → IfSome u (UploadInForm block)
    by None h = tt
    by (Some u) h = absurd (let c : CanUpload [] u = subst (λ (ls : List Local). CanUpload ls u) none h in let e : None ≡ Some c.local = c.is_local in cc)

-- all have the size of the manifest, once it is seen
pub sized : (b : Option ℕ) (block : ℕ) (c : Catalog) (blocks : Option Blocks) → is_block_size block ≡ true → IsAlike b block → CanEnd c.kept.locals c.kept.pending → HasSize b c blocks
    → HasSize (Some block) c blocks
sized None block c blocks valid alike can size = (
  valid,
  record {
    locals = subst (λ (ls : List Local). AllByRecursion (LocalInForm block) ls) (sym size.0) tt;
    known = subst (λ (ks : List Known). AllByRecursion (KnownInForm block) ks) (sym size.1) tt;
    pending = no_upload block c.kept.locals c.kept.pending size.0 can;
  },
  subst (λ (x : Option Blocks). IfSome x (λ (y : Blocks). y.block ≡ block)) (sym size.2) tt,
)
sized (Some n) block c blocks valid alike can size = subst (λ (k : ℕ). HasSize (Some k) c blocks) (sym alike) size

-- ---- the size after a note

no_upload_left : (locals : List Local) (x : Uploading) → locals ≡ [] → CanUpload locals x → ⊥
no_upload_left locals x none can = (let c : CanUpload [] x = subst (λ (ls : List Local). CanUpload ls x) none can in let e : None ≡ Some c.local = c.is_local in absurd (cc))

-- where nothing is kept of databases, a publication that was made leaves it so
none_published : (n : ℕ) (k : Kept) (p : Option PendingPub) → k.locals ≡ [] → CanEnd k.locals p → (kept_published n k p).locals ≡ []
none_published n k None none can = none
none_published n k (Some p) none can = by p.upload can
  where
    by : (u : Option Uploading) → IfSome u (CanUpload k.locals) → (kept_published n k (Some (record p { upload = u }))).locals ≡ []
    by None h = none
    by (Some u) h = absurd (no_upload_left k.locals u none h)

none_known : (n : ℕ) (id : Id16) (k : Kept) (known : List Known) (p : Option PendingPub) → k.pending ≡ p → k.locals ≡ [] → CanEnd k.locals p → known_found k id n known ≡ known
none_known n id k known None is none can = subst (λ (x : Option PendingPub). known_found (record k { pending = x }) id n known ≡ known) (sym is) refl
none_known n id k known (Some p) is none can = by p.upload refl can
  where
    by : (u : Option Uploading) → p.upload ≡ u → IfSome u (CanUpload k.locals) → known_found k id n known ≡ known
    by None e h =
        subst (λ (x : Option PendingPub). known_found (record k { pending = x }) id n known ≡ known) (sym is)
        (subst (λ (u : Option Uploading). known_found (record k { pending = Some (record { id = p.id; upload = u }) }) id n known ≡ known) (sym e) refl)
    by (Some u) e h = absurd (no_upload_left k.locals u none h)

pub size_found : (size : Option ℕ) (c d : Catalog) (blocks : Option Blocks) (id : Id16) (n : ℕ) (p : Parts) → p.kept ≡ c.kept → p.known ≡ c.known → CanEnd c.kept.locals c.kept.pending → HasSize size c blocks
    → d.kept ≡ after_note c.kept (note.Done id n) → d.known ≡ known_found c.kept id n c.known → HasSize size d blocks
size_found None c d blocks id n p is has_known can has kept knows = (
  ap (λ (k : Kept). k.locals) kept ∙ none_published n c.kept c.kept.pending has.0 can,
  knows ∙ none_known n id c.kept c.known c.kept.pending refl has.0 can ∙ has.1,
  has.2,
)
size_found (Some b) c d blocks id n p is has_known can has kept knows =
    let at : AreInForm b p.kept p.known = subst (λ (k : Kept). AreInForm b k p.known) (sym is) (subst (λ (ks : List Known). AreInForm b c.kept ks) (sym has_known) has.1) in
    let after : AreInForm b (after_note p.kept (note.Done id n)) (known_found p.kept id n p.known) = resolves_keep_form b n id p at (subst (λ (k : Kept). CanEnd k.locals k.pending) (sym is) can) in (
      has.0,
      subst (λ (k : Kept). AreInForm b k d.known) (sym kept)
          (subst (λ (ks : List Known). AreInForm b (after_note c.kept (note.Done id n)) ks) (sym knows)
          (subst (λ (k : Kept). AreInForm b (after_note k (note.Done id n)) (known_found k id n c.known)) is
          (subst (λ (ks : List Known). AreInForm b (after_note p.kept (note.Done id n)) (known_found p.kept id n ks)) has_known after))),
      has.2,
    )

pub size_void : (size : Option ℕ) (c d : Catalog) (blocks : Option Blocks) (id : Id16) → HasSize size c blocks → d.kept ≡ after_note c.kept (note.Void id) → d.known ≡ c.known → HasSize size d blocks
size_void None c d blocks id has kept knows = (ap (λ (k : Kept). k.locals) kept ∙ has.0, knows ∙ has.1, has.2)
size_void (Some b) c d blocks id has kept knows = (
  has.0,
  subst (λ (k : Kept). AreInForm b k d.known) (sym kept)
      (subst (λ (ks : List Known). AreInForm b (after_note c.kept (note.Void id)) ks) (sym knows) (notes_keep_form b c.kept c.known (note.Void id) has.1 tt)),
  has.2,
)
