-- The databases that a client knows stay in form.
use lib.Count.{ones}
use Rattle.std.proofs.Common.{◌≡◌, ◌∙◌, ℕ, zero, suc, Bool, true, false, cond, List, [], ◌∷◌, ◌++◌, drop, filter, map, Option, Some, None, IfSome, refl, sym, ap, subst}
use Rattle.std.proofs.lemmas.Option.{same_Some}
use Rattle.std.specs.List.{AllByRecursion}
use Rattle.std.specs.Str.{bytes_eq}
use Rattle.bcv_base.specs.declared.manifest.DbEntry.{DbEntry}
use Rattle.bcv_base.specs.declared.manifest.Manifest.{Manifest}
use Rattle.bcv_base.specs.History.{Item, history_of, last_of}
use Rattle.bcv_base.specs.Keyed.{keyed, with_made}
use Rattle.bcv_base.specs.ManifestRules.{MeetsEntryRules, MeetsRules, db_name, is_block_size}
use Rattle.bcv_databases.specs.Catalog.{known_name}
use Rattle.bcv_databases.proofs.FoldLoaded.{folds_loaded}
use Rattle.bcv_databases.specs.Changes.{known_left, published, upload_left}
use Rattle.bcv_databases.specs.Sound.{CanEnd, CanUpload}
use Rattle.bcv_databases.specs.declared.known.Known.{Known}
use Rattle.bcv_dbmap.specs.Sound.{Sound}
use Rattle.bcv_dbmap.proofs.Keys.{all_found, all_with, all_without}
use Rattle.bcv_model.specs.declared.ask.Commit.{Commit}
use Rattle.bcv_model.specs.declared.kept.Kept.{Kept}
use Rattle.bcv_model.specs.declared.kept.Local.{Local}
use Rattle.bcv_model.specs.declared.kept.PendingPub.{PendingPub}
use Rattle.bcv_model.specs.declared.kept.Uploading.{Uploading}
use Rattle.bcv_model.specs.declared.note.Note as bytes
use Rattle.bcv_model.specs.declared.note.Note.TheVariants as note
use Rattle.bcv_model.specs.NoteRules.{Folds, MayBeCommitted, MayStand, MayUpload}
use Rattle.bcv_model.specs.Notes.{after_note, kept_name, kept_published, nothing_kept, rebased, replaced_local, with_published}
use Rattle.bcv_clientstate.specs.BaseLaws.{FitsLocal}
use Rattle.bcv_clientstate.specs.Fits.{FitsKnown}
use Rattle.bcv_clientstate.specs.KnownLaws.{has_none, known_in}
use Rattle.bcv_clientstate.specs.LocalSides.{known_again}
use Rattle.bcv_clientstate.specs.SeenContainer.{block_in}
use Rattle.bcv_clientstate.proofs.Bases.{base_block}
use Rattle.bcv_clientstate.proofs.Growth.{all_kept}
use Rattle.bcv_clientlaws.specs.Forms.{AreInForm, BasesAreInForm, CommitsInForm, CommitsKeepForm, EndsKeepForm, FitsAreInForm, FoldsAreInForm, FormIsContainers, FormOf, FoundInForm, FoundKnownInForm, KnownInForm, LocalInForm, NeedsFewBlocks, NoteInForm, NotesKeepForm, PendingInForm, ReadsKeepForm, ResolvesKeepForm, RevertsKeepForm, SomeLocals, UploadInForm}
use Rattle.bcv_clientlaws.proofs.ManifestsRead.{rules_of}

-- ---- one that is found

pub found_in_form : FoundInForm
found_in_form block k others db l are found = all_found kept_name (LocalInForm block) db k.locals l are.locals found

pub found_known_in_form : FoundKnownInForm
found_known_in_form block k others db x are found = all_found known_name (KnownInForm block) db others x are.known found

-- ---- lists of databases

all_join : (P : Local → Type 0) (xs ys : List Local) → AllByRecursion P xs → AllByRecursion P ys → AllByRecursion P (xs ++ ys)
all_join P [] ys a b = b
all_join P (x ∷ xs) ys a b = (a.0, all_join P xs ys a.1 b)

-- the one of a name is changed
all_replaced : (P : Local → Type 0) (change : Local → List Local) (db : List ℕ) (ls : List Local) → AllByRecursion P ls
    → ((l : Local) → keyed kept_name db ls ≡ Some l → P l → AllByRecursion P (change l)) → AllByRecursion P (replaced_local change db ls)
all_replaced P change db [] all f = tt
all_replaced P change db (x ∷ xs) all f =
    elim (bytes_eq (kept_name x) db) as (λ (b : Bool). ((l : Local) → cond b (Some x) (keyed kept_name db xs) ≡ Some l → P l → AllByRecursion P (change l))
    → AllByRecursion P (cond b (change x ++ xs) (x ∷ replaced_local change db xs))) [
      | true ↦ λ g. all_join P (change x) xs (g x refl all.0) all.1
      | false ↦ λ g. (all.0, all_replaced P change db xs all.1 g)
    ] f

-- ---- commits

few_dropped : (block page_size n : ℕ) (cs : List Commit) → AllByRecursion (NeedsFewBlocks block page_size) cs → AllByRecursion (NeedsFewBlocks block page_size) (drop n cs)
few_dropped block page_size zero cs all = all
few_dropped block page_size (suc n) [] all = tt
few_dropped block page_size (suc n) (c ∷ cs) all = few_dropped block page_size n cs all.1

few_more : (block page_size : ℕ) (cs : List Commit) (c : Commit) → AllByRecursion (NeedsFewBlocks block page_size) cs → NeedsFewBlocks block page_size c
    → AllByRecursion (NeedsFewBlocks block page_size) (cs ++ c ∷ [])
few_more block page_size [] c all few = (few, tt)
few_more block page_size (x ∷ xs) c all few = (all.0, few_more block page_size xs c all.1 few)

rebased_in_form : (block number : ℕ) (u : Uploading) (cs : List Commit) → UploadInForm block u → AllByRecursion (NeedsFewBlocks block u.entry.page_size) cs
    → AllByRecursion (LocalInForm block) (rebased number u cs)
rebased_in_form block number u [] is few = tt
rebased_in_form block number u (c ∷ cs) is few = ((is, few), tt)

published_in_form : (block number : ℕ) (o : Option Uploading) (ls : List Local) → IfSome o (UploadInForm block) → IfSome o (CanUpload ls) → AllByRecursion (LocalInForm block) ls
    → AllByRecursion (LocalInForm block) (with_published number o ls)
published_in_form block number None ls is can all = all
published_in_form block number (Some u) ls is can all =
    all_replaced (LocalInForm block) (λ (l : Local). rebased number u (drop u.count l.commits)) u.entry.name ls all
    (λ l found h. rebased_in_form block number u (drop u.count l.commits) is
    (few_dropped block u.entry.page_size u.count l.commits
    (subst (λ (n : ℕ). AllByRecursion (NeedsFewBlocks block n) l.commits)
    (ap (λ (x : Local). x.entry.page_size) (same_Some l can.local (sym found ∙ can.is_local)) ∙ sym can.size) h.1)))

-- ---- notes

done_in_form : (block number : ℕ) (k : Kept) (others : List Known) (o : Option PendingPub) → AreInForm block k others → IfSome o (PendingInForm block) → CanEnd k.locals o
    → AreInForm block (kept_published number k o) others
done_in_form block number k others None are is can = are
done_in_form block number k others (Some p) are is can = record { locals = published_in_form block number p.upload k.locals is can are.locals; known = are.known; pending = tt }

-- one more commit of the database of a name
more_in_form : (block : ℕ) (commit : Commit) (o : Option Local) (l : Local) → o ≡ Some l → IfSome o (λ (l : Local). NeedsFewBlocks block l.entry.page_size commit) → LocalInForm block l
    → LocalInForm block (record l { commits = l.commits ++ commit ∷ [] })
more_in_form block commit None l found few is = absurd (let e : None ≡ Some l = found in cc)
more_in_form block commit (Some x) l found few is =
    (is.0, few_more block l.entry.page_size l.commits commit is.1 (subst (λ (y : Local). NeedsFewBlocks block y.entry.page_size commit) (same_Some x l found) few))

pub notes_keep_form : NotesKeepForm
notes_keep_form block k others (note.Me id) are is = record { locals = are.locals; known = are.known; pending = are.pending }
notes_keep_form block k others (note.First entry number own commit) are is =
    record {
      locals = all_with kept_name (LocalInForm block) (record { entry = entry; number = number; block = own; commits = commit ∷ [] }) k.locals (is.0, (is.1, tt)) are.locals;
      known = are.known;
      pending = are.pending;
    }
notes_keep_form block k others (note.Committed db commit) are is =
    record {
      locals = all_replaced (LocalInForm block) (λ (l : Local). record l { commits = l.commits ++ commit ∷ [] } ∷ []) db k.locals are.locals
          (λ l found h. (more_in_form block commit (keyed kept_name db k.locals) l found is h, tt));
      known = are.known;
      pending = are.pending;
    }
notes_keep_form block k others (note.Intent p) are is = record { locals = are.locals; known = are.known; pending = is }
notes_keep_form block k others (note.Done id number) are is = done_in_form block number k others k.pending are are.pending is
notes_keep_form block k others (note.Void id) are is = record { locals = are.locals; known = are.known; pending = tt }
notes_keep_form block k others (note.Revert db) are is =
    record { locals = all_without kept_name (LocalInForm block) db k.locals are.locals; known = are.known; pending = are.pending }

-- ---- what is known

read_in_form : (block : ℕ) (k : Kept) (m : Manifest) (ds : List DbEntry) → m.block ≡ block → AllByRecursion (MeetsEntryRules m.block) ds
    → AllByRecursion (KnownInForm block) (map (known_in m) (filter (has_none k) ds))
read_in_form block k m [] same all = tt
read_in_form block k m (d ∷ ds) same all =
    elim (has_none k d) as (λ (b : Bool). AllByRecursion (KnownInForm block) (map (known_in m) (cond b (d ∷ filter (has_none k) ds) (filter (has_none k) ds)))) [
      | true ↦ ((same, subst (λ (b : ℕ). MeetsEntryRules b d) same all.0), read_in_form block k m ds same all.1)
      | false ↦ read_in_form block k m ds same all.1
    ]

pub reads_keep_form : ReadsKeepForm
reads_keep_form block k others m are rules same = record { locals = are.locals; known = read_in_form block k m m.dbs same rules.each_db; pending = are.pending }

pub commits_keep_form : CommitsKeepForm
commits_keep_form block db x p are is =
    let after : AreInForm block (after_note p.kept x) p.known = notes_keep_form block p.kept p.known x are is in
    record { locals = after.locals; known = all_without known_name (KnownInForm block) db p.known are.known; pending = after.pending }

pub reverts_keep_form : RevertsKeepForm
reverts_keep_form block db l p are found =
    let after : AreInForm block (after_note p.kept (note.Revert db)) p.known = notes_keep_form block p.kept p.known (note.Revert db) are tt in
    record {
      locals = after.locals;
      known = all_with known_name (KnownInForm block) (known_again l) p.known (found_in_form block p.kept p.known db l are found).0 are.known;
      pending = after.pending;
    }

pub ends_keep_form : EndsKeepForm
ends_keep_form block n id k others m are can rules same =
    reads_keep_form block (after_note k (note.Done id n)) others m (notes_keep_form block k others (note.Done id n) are can) rules same

left_in_form : (b : Bool) (block number : ℕ) (u : Uploading) → UploadInForm block u → IfSome (cond b None (Some (published number u))) (KnownInForm block)
left_in_form true block number u is = tt
left_in_form false block number u is = is

left_by : (block number : ℕ) (ls : List Local) (o : Option PendingPub) → IfSome o (PendingInForm block) → IfSome (known_left number ls o) (KnownInForm block)
left_by block number ls None is = tt
left_by block number ls (Some p) is = by_upload p.upload is
  where
    by_upload : (u : Option Uploading) → IfSome u (UploadInForm block) → IfSome (upload_left number ls u) (KnownInForm block)
    by_upload None h = tt
    by_upload (Some u) h = left_in_form _ block number u h

made_in_form : (block : ℕ) (o : Option Known) (known : List Known) → IfSome o (KnownInForm block) → AllByRecursion (KnownInForm block) known → AllByRecursion (KnownInForm block) (with_made known_name o known)
made_in_form block None known is all = all
made_in_form block (Some x) known is all = all_with known_name (KnownInForm block) x known is all

pub resolves_keep_form : ResolvesKeepForm
resolves_keep_form block n id p are can =
    let k : Kept = after_note p.kept (note.Done id n) in
    let after : AreInForm block k p.known = notes_keep_form block p.kept p.known (note.Done id n) are can in
    record {
      locals = after.locals;
      known = made_in_form block (known_left n k.locals p.kept.pending) p.known (left_by block n k.locals p.kept.pending are.pending) are.known;
      pending = after.pending;
    }

-- ---- what the notes of a log come to

some_found : (db : List ℕ) (ls : List Local) (l : Local) → keyed kept_name db ls ≡ Some l → SomeLocals ls
some_found db [] l found = absurd (let e : None ≡ Some l = found in cc)
some_found db (x ∷ xs) l found = tt

-- as of a block size, and of another one that all of them have
moved : (block own : ℕ) (ls : List Local) → AllByRecursion (LocalInForm block) ls → AllByRecursion (λ (l : Local). l.block ≡ own) ls → AllByRecursion (LocalInForm own) ls
moved block own [] all alike = tt
moved block own (l ∷ ls) all alike =
    let same : block ≡ own = sym all.0.0.0 ∙ alike.0 in
    (subst (λ (b : ℕ). LocalInForm b l) same all.0, moved block own ls all.1 alike.1)

same_size : (block own : ℕ) (ls : List Local) → AllByRecursion (LocalInForm block) ls → AllByRecursion (λ (l : Local). l.block ≡ own) ls → SomeLocals ls → block ≡ own
same_size block own [] all alike some = absurd some
same_size block own (l ∷ ls) all alike some = sym all.0.0.0 ∙ alike.0

-- what is being uploaded is that of a database with commits
pending_moved : (block own : ℕ) (ls : List Local) (o : Option PendingPub) → AllByRecursion (LocalInForm block) ls → AllByRecursion (λ (l : Local). l.block ≡ own) ls → CanEnd ls o
    → IfSome o (PendingInForm block) → IfSome o (PendingInForm own)
pending_moved block own ls None all alike can is = tt
pending_moved block own ls (Some p) all alike can is = by p.upload can is
  where
    by : (u : Option Uploading) → IfSome u (CanUpload ls) → IfSome u (UploadInForm block) → IfSome u (UploadInForm own)
    by None c h = tt
    by (Some u) c h =
        let same : block ≡ own = same_size block own ls all alike (some_found u.entry.name ls c.local c.is_local) in
        subst (λ (b : ℕ). UploadInForm b u) same h

intent_in_form : (block : ℕ) (k : Kept) (o : Option Uploading) → AreInForm block k [] → IfSome o (MayUpload k) → IfSome o (UploadInForm block)
intent_in_form block k None are may = tt
intent_in_form block k (Some u) are may =
    let same : u.block ≡ block = may.same_block ∙ (found_in_form block k [] u.entry.name may.local are may.is_local).0.0 in
    (same, subst (λ (b : ℕ). MeetsEntryRules b u.entry) same may.is_entry)

commit_in_form : (block : ℕ) (k : Kept) (db : List ℕ) (commit : Commit) → AreInForm block k [] → MayBeCommitted k db commit → NoteInForm block k (note.Committed db commit)
commit_in_form block k db commit are may =
    subst (λ (o : Option Local). IfSome o (λ (l : Local). NeedsFewBlocks block l.entry.page_size commit)) (sym may.is_local)
    (subst (λ (b : ℕ). NeedsFewBlocks b may.local.entry.page_size commit) (found_in_form block k [] db may.local are may.is_local).0.0 may.fits.blocks)

note_loads : (k : Kept) (x : bytes.Note) → MayStand k x → CanEnd k.locals k.pending → FormOf k → FormOf (after_note k x)
note_loads k (note.Me id) may can is = record { block = is.block; is_block = is.is_block; are = notes_keep_form is.block k [] (note.Me id) is.are tt }
note_loads k (note.First entry number own commit) may can is =
    let local : Local = record { entry = entry; number = number; block = own; commits = commit ∷ [] } in
    record {
      block = own;
      is_block = may.is_block;
      are = record {
        locals = all_with kept_name (LocalInForm own) local k.locals ((refl, may.is_entry), (may.fits.blocks, tt)) (moved is.block own k.locals is.are.locals may.alike);
        known = tt;
        pending = pending_moved is.block own k.locals k.pending is.are.locals may.alike can is.are.pending;
      };
    }
note_loads k (note.Committed db commit) may can is =
    record { block = is.block; is_block = is.is_block; are = notes_keep_form is.block k [] (note.Committed db commit) is.are (commit_in_form is.block k db commit is.are may) }
note_loads k (note.Intent p) may can is =
    record { block = is.block; is_block = is.is_block; are = notes_keep_form is.block k [] (note.Intent p) is.are (intent_in_form is.block k p.upload is.are may.upload) }
note_loads k (note.Done id number) may can is = record { block = is.block; is_block = is.is_block; are = notes_keep_form is.block k [] (note.Done id number) is.are can }
note_loads k (note.Void id) may can is = record { block = is.block; is_block = is.is_block; are = notes_keep_form is.block k [] (note.Void id) is.are tt }
note_loads k (note.Revert db) may can is = record { block = is.block; is_block = is.is_block; are = notes_keep_form is.block k [] (note.Revert db) is.are tt }

-- one more note that may stand
folds_more : (k m : Kept) (front : List bytes.Note) (x : bytes.Note) → Folds k front m → MayStand m x → Folds k (front ++ x ∷ []) (after_note m x)
folds_more k m [] x folds may = (subst (λ (y : Kept). MayStand y x) folds may, ap (λ (y : Kept). after_note y x) folds)
folds_more k m (y ∷ ys) x folds may = (folds.0, folds_more (after_note k y) m ys x folds.1 may)

all_load : (front notes : List bytes.Note) (k end : Kept) → Folds nothing_kept front k → FormOf k → Folds k notes end → FormOf end
all_load front [] k end from is folds = subst FormOf (sym folds) is
all_load front (x ∷ xs) k end from is folds =
    all_load (front ++ x ∷ []) xs (after_note k x) end (folds_more nothing_kept k front x from folds.0) (note_loads k x folds.0 (folds_loaded front k from).pending is) folds.1

least_size : is_block_size 512 ≡ true
unfolding ones
least_size = refl

pub folds_are_in_form : FoldsAreInForm
folds_are_in_form notes k folds =
    all_load [] notes nothing_kept k refl (record { block = 512; is_block = least_size; are = record { locals = tt; known = tt; pending = tt } }) folds

-- ---- over a log

pub bases_are_in_form : BasesAreInForm
bases_are_in_form past number block e sound has =
    let same : block ≡ block_in (last_of past) = sym (base_block past number block e sound has) in
    let rules : MeetsRules has.manifest = rules_of past has.manifest sound.reads has.published in
    (same, subst (λ (b : ℕ). MeetsEntryRules b e) (has.block_is ∙ same) (all_found db_name (MeetsEntryRules has.manifest.block) e.name has.manifest.dbs e rules.each_db has.listed))

locals_in_form : (past : List Item) (ls : List Local) → Sound past → AllByRecursion (FitsLocal past) ls → AllByRecursion (CommitsInForm (block_in (last_of past))) ls
    → AllByRecursion (LocalInForm (block_in (last_of past))) ls
locals_in_form past [] sound fits few = tt
locals_in_form past (l ∷ ls) sound fits few = ((bases_are_in_form past l.number l.block l.entry sound fits.0, few.0), locals_in_form past ls sound fits.1 few.1)

pub fits_are_in_form : FitsAreInForm
fits_are_in_form log p entries sound fits few pending =
    let past : List Item = history_of log in
    record {
      locals = locals_in_form past p.kept.locals sound fits.locals few;
      known = all_kept (FitsKnown past) (KnownInForm (block_in (last_of past))) (λ k has. bases_are_in_form past k.number k.block k.entry sound has) p.known fits.known;
      pending = pending;
    }

form_by : (past : List Item) (block : ℕ) (ls : List Local) → Sound past → AllByRecursion (FitsLocal past) ls → AllByRecursion (LocalInForm block) ls → SomeLocals ls → block ≡ block_in (last_of past)
form_by past block [] sound fits are some = absurd some
form_by past block (l ∷ ls) sound fits are some = sym are.0.0.0 ∙ (bases_are_in_form past l.number l.block l.entry sound fits.0).0

pub form_is_containers : FormIsContainers
form_is_containers past block k others sound fits are some = form_by past block k.locals sound fits are.locals some
