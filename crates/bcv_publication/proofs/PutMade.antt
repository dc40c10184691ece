-- What a put of a manifest appends over a sound log, in the machine's words.
use Rattle.std.proofs.Common.{◌≡◌, ◌∙◌, ℕ, true, List, [], ◌∷◌, ◌++◌, append-nil, Option, Some, None, Result, sym, ap}
use Rattle.std.specs.List.{AllByRecursion}
use Rattle.bcv_base.specs.declared.id.Id16.{Id16}
use Rattle.bcv_base.specs.declared.log.Entry.{Entry}
use Rattle.bcv_base.specs.declared.log.Entry.TheVariants as entry
use Rattle.bcv_base.specs.declared.manifest.Manifest.{Manifest}
use Rattle.bcv_base.specs.declared.object.ObjName.TheVariants as object
use Rattle.bcv_base.specs.Edits as edits
use Rattle.bcv_base.specs.History.{Item, Published, as_read, history_of, last_of}
use Rattle.bcv_base.specs.HistoryLaws.{history_of-more}
use Rattle.bcv_base.specs.Version.{Version}
use Rattle.bcv_base.specs.Versions.{version_of, versions_of}
use Rattle.bcv_dbmap.specs.declared.plan.EditPlan.{EditPlan}
use Rattle.bcv_dbmap.specs.Applied.{applied, edit_of, first_manifest}
use Rattle.bcv_dbmap.specs.Sound.{Sound}
use Rattle.bcv_machine.specs.ManifestPut.{sized_by, version_made, version_next}
use Rattle.bcv_machine.specs.ManifestPut as machine
use Rattle.bcv_machine.specs.State as m
use Rattle.bcv_model.specs.declared.kept.Local.{Local}
use Rattle.bcv_publish.specs.ManifestAppend.{IsAppended}
use Rattle.bcv_clientstate.specs.BaseLaws.{FitsLocal}
use Rattle.bcv_clientstate.specs.PutLaws.{IsEditMade, IsFirstMade}
use Rattle.bcv_clientstate.specs.SeenContainer.{container_of}
use Rattle.bcv_clientstate.proofs.Bases.{stays}
use Rattle.bcv_clientstate.proofs.PutLaws.{create_is_first, put_is_edit}

-- ---- logs

pub appended_history : (log own after : List Entry) (n : Manifest) (etag : ℕ) → after ≡ log ++ own → IsAppended own n etag → history_of after ≡ Published n ∷ history_of log
appended_history log own after n etag grown is =
    ap history_of (grown ∙ ap (λ (es : List Entry). log ++ es) is.1)
    ∙ history_of-more log (entry.Put true object.Manifest is.0 etag) ∙ ap (λ (r : Result Manifest ℕ). as_read r ∷ history_of log) is.2

pub same_log : (log own after : List Entry) → after ≡ log ++ own → own ≡ [] → after ≡ log
same_log log own after grown none = grown ∙ ap (λ (es : List Entry). log ++ es) none ∙ append-nil log

-- ---- the version

last_same : (xs : List Version) (x y : Version) → xs ++ x ∷ [] ≡ xs ++ y ∷ [] → x ≡ y
last_same [] x y e = cc
last_same (z ∷ zs) x y e = let rest : zs ++ x ∷ [] ≡ zs ++ y ∷ [] = cc in last_same zs x y rest

module _ (moment : ℕ) (past : List Item) (old : Manifest) (plan : EditPlan) (q : m.Publication) (writer : Id16) (sound : Sound past) (last : last_of past ≡ Some old) where
  made : IsEditMade moment past old plan q.id writer
  made = put_is_edit moment past old plan q.id writer sound last

  made_is : made.version ≡ version_of past (applied old plan q.id writer moment)
  made_is = sym (last_same (versions_of past) (version_of past (applied old plan q.id writer moment)) made.version (ap (λ (c : m.Container). c.versions) made.after))

  pub version_is : machine.edit_of (container_of moment past) q.kind ≡ Some (edit_of past plan)
      → version_made (container_of moment past) q ≡ Some (version_of past (applied old plan q.id writer moment))
  version_is is =
      ap (λ (e : Option edits.Edit). version_next (container_of moment past) q.id e (m.last_version (container_of moment past))) is ∙ made.next ∙ ap Some made_is

  pub container_is : sized_by q.kind (container_of moment past) ≡ container_of moment past
      → container_of moment (Published (applied old plan q.id writer moment) ∷ past)
      ≡ record (sized_by q.kind (container_of moment past)) { versions = (container_of moment past).versions ++ version_of past (applied old plan q.id writer moment) ∷ [] }
  container_is sized =
      made.after
      ∙ ap (λ (v : Version). record (container_of moment past) { versions = (container_of moment past).versions ++ v ∷ [] }) made_is
      ∙ ap (λ (c : m.Container). record c { versions = (container_of moment past).versions ++ version_of past (applied old plan q.id writer moment) ∷ [] }) (sym sized)

-- ---- bases

pub locals_stay : (log more : List Entry) (ls : List Local) → AllByRecursion (FitsLocal (history_of log)) ls → AllByRecursion (FitsLocal (history_of (log ++ more))) ls
locals_stay log more [] each = tt
locals_stay log more (l ∷ ls) each = (stays log more l.number l.block l.entry each.0, locals_stay log more ls each.1)

-- ---- a first version

module _ (moment : ℕ) (past : List Item) (block retention : ℕ) (id writer : Id16) (sound : Sound past) (last : last_of past ≡ None) where
  first : IsFirstMade moment past block retention id writer
  first = create_is_first moment past block retention id writer sound last

  first_is : first.version ≡ version_of past (first_manifest block retention id writer moment)
  first_is = sym (last_same (versions_of past) (version_of past (first_manifest block retention id writer moment)) first.version (ap (λ (c : m.Container). c.versions) first.after))

  pub first_next : version_next (container_of moment past) id None (m.last_version (container_of moment past)) ≡ Some (version_of past (first_manifest block retention id writer moment))
  first_next = first.next ∙ ap Some first_is

  pub first_after : container_of moment (Published (first_manifest block retention id writer moment) ∷ past)
      ≡ record (sized_by (m.Creating block retention) (container_of moment past)) { versions = (container_of moment past).versions ++ version_of past (first_manifest block retention id writer moment) ∷ [] }
  first_after =
      first.after ∙ ap (λ (v : Version). record (sized_by (m.Creating block retention) (container_of moment past)) { versions = (container_of moment past).versions ++ v ∷ [] }) first_is
