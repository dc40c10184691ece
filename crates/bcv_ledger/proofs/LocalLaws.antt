-- Where a commit and a revert pass, their note may stand.
use Rattle.std.proofs.Common.{◌≡◌, ◌∙◌, ◌≤◌, ◌<◌, ◌^◌, ℕ, Bool, true, List, [], ◌∷◌, Option, Some, None, IsSome, is_none, inl, inr, refl, sym, ap, subst}
use Rattle.std.proofs.lemmas.Bool.{ltb-false}
use Rattle.std.proofs.lemmas.Option.{same_Some}
use Rattle.std.specs.Option.{option_map}
use Rattle.bcv_base.specs.declared.log.Entry.{Entry}
use Rattle.bcv_base.specs.declared.manifest.DbEntry.{DbEntry}
use Rattle.bcv_base.specs.declared.manifest.Manifest.{Manifest}
use Rattle.bcv_base.specs.History.{Always, Item, history_of}
use Rattle.bcv_base.specs.Image.{or_else}
use Rattle.bcv_base.specs.Keyed.{keyed}
use Rattle.bcv_base.specs.ManifestRules.{MeetsEntryRules, MeetsRules, blocks_needed, db_name, is_block_size}
use Rattle.bcv_base.specs.Names.{is_name}
use Rattle.bcv_base.specs.Versions.{Reads}
use Rattle.bcv_base.specs.Views.{is_commit}
use Rattle.bcv_cache.specs.Entry as cache
use Rattle.bcv_databases.specs.Catalog.{Catalog, known_name}
use Rattle.bcv_databases.specs.Changes.{note_over}
use Rattle.bcv_databases.specs.declared.known.Known.{Known}
use Rattle.bcv_dbmap.specs.Outlived.{IsPublished}
use Rattle.bcv_dbmap.specs.Sound.{IsSoundLog, Sound}
use Rattle.bcv_machine.specs.State as m
use Rattle.bcv_model.specs.declared.ask.Commit.{Commit}
use Rattle.bcv_model.specs.declared.kept.Local.{Local}
use Rattle.bcv_model.specs.declared.note.Note.{Note}
use Rattle.bcv_model.specs.declared.note.Note.TheVariants as note
use Rattle.bcv_model.specs.declared.reply.Reply.TheVariants as reply
use Rattle.bcv_model.specs.Commits.{writes_of}
use Rattle.bcv_model.specs.NoteRules.{FitsDatabase, IsVersionNumber}
use Rattle.bcv_model.specs.Notes.{kept_name}
use Rattle.bcv_clientstate.specs.BaseLaws.{FitsLocal}
use Rattle.bcv_clientstate.specs.Fits.{Fits, FitsKnown}
use Rattle.bcv_clientstate.specs.NoteSides.{MayNote}
use Rattle.bcv_clientstate.specs.PartRefusals.{PartView, bad_commit, commit_reason, known_part, large_commit, local_part, part_view, runs_publication}
use Rattle.bcv_clientstate.specs.Parts.{Parts}
use Rattle.bcv_clientstate.specs.SeenContainer.{HasBase}
use Rattle.bcv_clientstate.specs.SeenKept.{seen_commit}
use Rattle.bcv_clientstate.proofs.Bases.{base_block}
use Rattle.bcv_clientstate.proofs.Growth.{all_kept}
use Rattle.bcv_dbmap.proofs.Keys.{all_found, keyed_key}
use Rattle.bcv_ledger.specs.LocalLaws.{CommitMayStand, RevertMayStand}
use Rattle.bcv_ledger.proofs.Begun.{none_is}
use Rattle.bcv_ledger.proofs.Reasons.{free_to_revert, none_first, not_false, some_is}

-- ---- bases

-- a published manifest keeps the rules
rules_of : (past : List Item) (m : Manifest) → Always Reads past → IsPublished m past → MeetsRules m
rules_of [] m reads there = absurd there
rules_of (x ∷ past) m reads (inl is) = (subst (λ (y : Item). Reads past y) is reads.1).rules
rules_of (x ∷ past) m reads (inr there) = rules_of past m reads.0 there

entry_rules : (past : List Item) (number block : ℕ) (e : DbEntry) → Sound past → HasBase past number block e → MeetsEntryRules block e
entry_rules past number block e sound has =
    subst (λ (b : ℕ). MeetsEntryRules b e) has.block_is
    (all_found db_name (MeetsEntryRules has.manifest.block) e.name has.manifest.dbs e (rules_of past has.manifest sound.reads has.published).each_db has.listed)

named : (p : Parts) (entries : List cache.Entry) (log : List Entry) → Fits p entries log → IsSome p.kept.me
named p entries log fits = subst (λ (o : Option _). IsSome o) (sym fits.named) refl

-- ---- commits

-- what the reasons leave, by the view
pub record CommitPasses (c : Commit) (v : PartView) : Type 0 where
  pub fits : is_commit v.entry.page_size (writes_of c) ≡ true
  pub small : blocks_needed v.block v.entry.page_size c.size ≤ 65536

pub passes : (p : Parts) (db : List ℕ) (c : Commit) (v : PartView) → commit_reason p db (writes_of c) ≡ None → part_view p db ≡ Some v → CommitPasses c v
passes p db c v none there =
    let w = writes_of c in
    let o = part_view p db in
    let unknown : Bool = is_none o in
    let last = (large_commit w o, reply.TooLarge) ∷ [] in
    let a = none_first p.closed reply.Closed ((unknown, reply.NoDatabase) ∷ (bad_commit w o, reply.BadPage) ∷ last) none in
    let b = none_first unknown reply.NoDatabase ((bad_commit w o, reply.BadPage) ∷ last) a.1 in
    let d = none_first (bad_commit w o) reply.BadPage last b.1 in
    let e = none_first (large_commit w o) reply.TooLarge [] d.1 in
    record {
      fits = not_false (is_commit v.entry.page_size w) (sym (ap (bad_commit w) there) ∙ d.0);
      small = ltb-false 65536 (blocks_needed v.block v.entry.page_size c.size) (sym (ap (large_commit w) there) ∙ e.0);
    }

module _ (log : List Entry) (entries : List cache.Entry) (p : Parts) (db : List ℕ) (c : Commit) (sound : IsSoundLog log) (fits : Fits p entries log) (size : c.size < 2 ^ 32) where
  abbrev past : List Item
  past = history_of log

  fitting : (v : PartView) → CommitPasses c v → FitsDatabase v.block v.entry.page_size c
  fitting v pass = record { size = size; blocks = pass.small; pages = pass.fits }

  later : (l : Local) → keyed kept_name db p.kept.locals ≡ Some l → CommitPasses c (local_part l) → MayNote past p (note.Committed db c) (m.Committing db l.number (writes_of c))
  later l is pass =
      let base : FitsLocal past l = all_found kept_name (FitsLocal past) db p.kept.locals l fits.locals is in
      let name : kept_name l ≡ db = keyed_key kept_name db p.kept.locals l is in
      record {
        sound = sound;
        ordered = fits.ordered;
        locals = fits.locals;
        may = record {
          named = named p entries log fits;
          is_db = subst (λ (n : List ℕ). is_name n ≡ true) name (entry_rules past l.number l.block l.entry sound base).name;
          local = l;
          is_local = is;
          fits = fitting (local_part l) pass;
        };
        fits = tt;
        is = ap (seen_commit db c) is;
      }

  first : (k : Known) → keyed kept_name db p.kept.locals ≡ None → keyed known_name db p.known ≡ Some k → CommitPasses c (known_part k)
      → MayNote past p (note.First k.entry k.number k.block c) (m.Committing db k.number (writes_of c))
  first k without is pass =
      let base : FitsKnown past k = all_found known_name (FitsKnown past) db p.known k fits.known is in
      let name : known_name k ≡ db = keyed_key known_name db p.known k is in
      let rules : MeetsRules base.manifest = rules_of past base.manifest sound.reads base.published in
      record {
        sound = sound;
        ordered = fits.ordered;
        locals = fits.locals;
        may = record {
          named = named p entries log fits;
          is_block = subst (λ (b : ℕ). is_block_size b ≡ true) base.block_is rules.block;
          is_number = subst IsVersionNumber base.number_is (record { least = rules.least; most = rules.number });
          is_entry = entry_rules past k.number k.block k.entry sound base;
          is_new = ap (λ (n : List ℕ). keyed kept_name n p.kept.locals) name ∙ without;
          alike = all_kept (FitsLocal past) (λ (l : Local). l.block ≡ k.block)
              (λ l has. sym (base_block past l.number l.block l.entry sound has) ∙ base_block past k.number k.block k.entry sound base) p.kept.locals fits.locals;
          fits = fitting (known_part k) pass;
        };
        fits = base;
        is = ap (λ (n : List ℕ). Some (m.Committing n k.number (writes_of c))) name;
      }

  by : (a : Option Local) (b : Option Known) (v : PartView) (x : Note) → keyed kept_name db p.kept.locals ≡ a → keyed known_name db p.known ≡ b → or_else (option_map local_part a) (option_map known_part b) ≡ Some v
      → note_over db c a b ≡ Some x → CommitPasses c v → MayNote past p x (m.Committing db v.number (writes_of c))
  by (Some l) b v x isa isb there noted pass =
      let same : local_part l ≡ v = same_Some (local_part l) v there in
      subst (λ (y : Note). MayNote past p y (m.Committing db v.number (writes_of c))) (same_Some (note.Committed db c) x noted)
      (subst (λ (u : PartView). MayNote past p (note.Committed db c) (m.Committing db u.number (writes_of c))) same (later l isa (subst (CommitPasses c) (sym same) pass)))
  by None (Some k) v x isa isb there noted pass =
      let same : known_part k ≡ v = same_Some (known_part k) v there in
      subst (λ (y : Note). MayNote past p y (m.Committing db v.number (writes_of c))) (same_Some (note.First k.entry k.number k.block c) x noted)
      (subst (λ (u : PartView). MayNote past p (note.First k.entry k.number k.block c) (m.Committing db u.number (writes_of c))) same (first k isa isb (subst (CommitPasses c) (sym same) pass)))
  by None None v x isa isb there noted pass = absurd (cc)

pub commit_may_stand : CommitMayStand
commit_may_stand log entries p db c v x sound fits size none there noted =
    by log entries p db c sound fits size (keyed kept_name db p.kept.locals) (keyed known_name db p.known) v x refl refl there noted (passes p db c v none there)

-- ---- reverts

pub revert_may_stand : RevertMayStand
revert_may_stand log entries p db sound fits none =
    let past = history_of log in
    let catalog : Catalog = record { kept = p.kept; known = p.known; uses = []; sets = []; rooms = record { known = 0; uses = 0; commits = 0 } } in
    let free = free_to_revert p.closed (runs_publication p) catalog db none in
    let l = some_is (keyed kept_name db p.kept.locals) free.local in
    let base : FitsLocal past l.0 = all_found kept_name (FitsLocal past) db p.kept.locals l.0 fits.locals l.1 in
    let name : kept_name l.0 ≡ db = keyed_key kept_name db p.kept.locals l.0 l.1 in
    record {
      sound = sound;
      ordered = fits.ordered;
      locals = fits.locals;
      may = record {
        named = named p entries log fits;
        is_db = subst (λ (n : List ℕ). is_name n ≡ true) name (entry_rules past l.0.number l.0.block l.0.entry sound base).name;
        is_local = free.local;
        free = none_is p.kept.pending free.free;
      };
      fits = tt;
      is = refl;
    }
