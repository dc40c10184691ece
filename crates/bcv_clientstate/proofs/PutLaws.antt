-- A publication in the machine's words.
use Rattle.std.proofs.Common.{◌≡◌, ◌∙◌, ◌+◌, ◌-◌, ℕ, Bool, cond, List, [], ◌∷◌, ◌++◌, length, Option, Some, None, slice_get, refl, sym, ap, arith, length-append}
use Rattle.std.proofs.lemmas.Bool.{ne_eqb}
use Rattle.bcv_base.specs.declared.manifest.Manifest.{Manifest}
use Rattle.bcv_base.specs.Edits as edits
use Rattle.bcv_base.specs.HistoryLaws.{IsLast, last_is, no_version, version-count}
use Rattle.bcv_base.specs.Version.{Version}
use Rattle.bcv_base.specs.Versions.{version_of, versions_of}
use Rattle.bcv_dbmap.specs.Applied.{edit_of}
use Rattle.bcv_machine.specs.ManifestPut.{version_next}
use Rattle.bcv_machine.specs.State.{Container, last_version}
use Rattle.bcv_clientstate.specs.PutLaws.{CreateIsFirst, LastIsLastVersion, NoneIsNoVersion, PutIsTheEdit}
use Rattle.bcv_clientstate.specs.SeenContainer.{block_in, container_of, retention_in, swept_of}
use Rattle.bcv_dbmap.proofs.Appends.{appends_edit, creates_first}

at_end : (vs : List Version) (v : Version) → slice_get (vs ++ v ∷ []) (length vs) ≡ Some v
at_end [] v = refl
at_end (x ∷ xs) v = at_end xs v

last_at : (c : Container) (vs : List Version) (v : Version) → c.versions ≡ vs ++ v ∷ [] → last_version c ≡ Some v
last_at c vs v e =
    let long : length c.versions ≡ length vs + 1 = ap length e ∙ length-append vs (v ∷ []) in
    ap (λ (b : Bool). cond b None (slice_get c.versions (length c.versions - 1))) (ne_eqb (length c.versions) 0 (λ z. absurd (omega (arith, long, z))))
    ∙ ap (λ (n : ℕ). slice_get c.versions n) (omega (arith, long))
    ∙ ap (λ (ws : List Version). slice_get ws (length vs)) e
    ∙ at_end vs v

pub last_is_last : LastIsLastVersion
last_is_last moment past m sound last =
    let l : IsLast past m = last_is past m sound.reads last in
    record { version = last_at (container_of moment past) l.older (version_of past m) l.versions; number = version-count past sound.reads ∙ sym l.number }

pub none_is_none : NoneIsNoVersion
none_is_none moment past sound last = no_version past sound.reads last

pub put_is_edit : PutIsTheEdit
put_is_edit moment past old plan id writer sound last =
    let made = appends_edit past old plan id writer moment sound.reads last in
    record {
      version = edits.edited (version_of past old) (edit_of past plan) id moment;
      next = ap (version_next (container_of moment past) id (Some (edit_of past plan))) (last_is_last moment past old sound last).version;
      after =
          ap (λ (vs : List Version). record { versions = vs; block = old.block; retention = old.retention; moment = moment; swept = swept_of past }) made.2
          ∙ ap (λ (o : Option Manifest). record { versions = versions_of past ++ edits.edited (version_of past old) (edit_of past plan) id moment ∷ []; block = block_in o; retention = retention_in o; moment = moment; swept = swept_of past }) (sym last);
    }

pub create_is_first : CreateIsFirst
create_is_first moment past block retention id writer sound last =
    let none : versions_of past ≡ [] = no_version past sound.reads last in
    record {
      version = edits.created id moment;
      next = ap (λ (vs : List Version). version_next (container_of moment past) id None (last_version (record (container_of moment past) { versions = vs }))) none;
      after =
          ap (λ (vs : List Version). record { versions = vs; block = block; retention = retention; moment = moment; swept = swept_of past })
          (creates_first past block retention id writer moment sound.reads last ∙ ap (λ (vs : List Version). vs ++ edits.created id moment ∷ []) (sym none));
    }
