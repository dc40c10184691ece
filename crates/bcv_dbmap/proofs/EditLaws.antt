-- What an edit of a manifest changes: entries, listed blocks, dead blocks and writers.
use Rattle.std.proofs.Common.{◌≡◌, ◌∙◌, ℕ, ◌+◌, ◌≤◌, Bool, true, false, cond, ◌⊎◌, inl, inr, Option, Some, None, is_some, bytes_eq, refl, sym, ap, subst, leb-true}
use Rattle.bcv_base.specs.declared.id.Id16.{Id16}
use Rattle.bcv_base.specs.declared.manifest.DbEntry.{DbEntry}
use Rattle.bcv_base.specs.declared.manifest.Dead.{Dead}
use Rattle.bcv_base.specs.declared.manifest.Manifest.{Manifest}
use Rattle.bcv_base.specs.Ids.{has_id}
use Rattle.bcv_base.specs.Keyed.{keyed}
use Rattle.bcv_base.specs.ManifestRules.{writer_id, dead_id, lists, is_dead}
use Rattle.bcv_dbmap.specs.Applied.{made_entry, swept_ids, applied}
use Rattle.bcv_dbmap.specs.Past.{IsAmong, is_old, writer_of}
use Rattle.bcv_dbmap.specs.Sound.{IsEditOf}
use Rattle.bcv_dbmap.proofs.DeadLaws.{dead_at, dead_found, dead_after_found, found_died}
use Rattle.bcv_dbmap.proofs.Entries.{entry_from}
use Rattle.bcv_dbmap.proofs.Keys.{keyed_with}

module _ (old m : Manifest) (e : IsEditOf old m) where
  -- ---- sizes that stay

  pub edit_number : m.number ≡ old.number + 1
  edit_number = ap (λ (k : Manifest). k.number) e.made

  pub edit_block : m.block ≡ old.block
  edit_block = ap (λ (k : Manifest). k.block) e.made

  pub edit_retention : m.retention ≡ old.retention
  edit_retention = ap (λ (k : Manifest). k.retention) e.made

  -- ---- entries

  -- an entry is an old one or the made one
  pub edit_entry : (d : DbEntry) → IsAmong d m.dbs → IsAmong d old.dbs ⊎ (made_entry e.plan m.id old.dbs ≡ Some d)
  edit_entry d among = entry_from e.plan m.id old.dbs d (subst (λ (k : Manifest). IsAmong d k.dbs) e.made among)

  -- ---- dead blocks

  pub edit_dead : (i : Id16) → keyed dead_id i.0 m.dead ≡ dead_found e.plan m.moment m.dbs old.dbs old.dead i
  edit_dead i =
      let made : Manifest = applied old e.plan m.id e.writer e.moment in
      subst (λ (k : Manifest). keyed dead_id i.0 k.dead ≡ dead_found e.plan k.moment k.dbs old.dbs old.dead i) (sym e.made)
      (dead_after_found e.plan made.moment made.dbs old.dbs old.dead i)

  -- a block that is listed no longer is dead
  pub edit_leaves : (i : Id16) → lists m.dbs i ≡ false → lists old.dbs i ≡ true → is_dead m.dead i ≡ true
  edit_leaves i h g = ap is_some (edit_dead i) ∙ found (lists m.dbs i) (lists old.dbs i) h g
    where
      found : (a b : Bool) → a ≡ false → b ≡ true → is_some (cond a None (cond b (Some (dead_at i m.moment)) (cond (has_id i (swept_ids e.plan)) None (keyed dead_id i.0 old.dead)))) ≡ true
      found true b h g = absurd cc
      found false true h g = refl
      found false false h g = absurd cc

  -- one that was dead stays dead where it is not listed and not swept
  pub edit_keeps : (i : Id16) → lists m.dbs i ≡ false → is_dead old.dead i ≡ true → has_id i (swept_ids e.plan) ≡ false → is_dead m.dead i ≡ true
  edit_keeps i h g s = ap is_some (edit_dead i) ∙ found (lists m.dbs i) (lists old.dbs i) (has_id i (swept_ids e.plan)) h s
    where
      found : (a b c : Bool) → a ≡ false → c ≡ false → is_some (cond a None (cond b (Some (dead_at i m.moment)) (cond c None (keyed dead_id i.0 old.dead)))) ≡ true
      found true b c h s = absurd cc
      found false true c h s = refl
      found false false true h s = absurd cc
      found false false false h s = g

  -- a dead block was listed or dead before
  pub edit_died : (i : Id16) → is_dead m.dead i ≡ true → (lists old.dbs i ≡ true) ⊎ (is_dead old.dead i ≡ true)
  edit_died i h = found_died e.plan m.moment m.dbs old.dbs old.dead i (sym (ap is_some (edit_dead i)) ∙ h)

  -- one that lies the retention back was listed before and the manifest itself lies it back, or it did so before
  pub edit_expired : (i : Id16) (at : ℕ) → is_old (keyed dead_id i.0 m.dead) m.retention at ≡ true
      → ((lists m.dbs i ≡ false) × (m.moment + m.retention ≤ at)) ⊎ (is_old (keyed dead_id i.0 old.dead) old.retention at ≡ true)
  edit_expired i at h =
      found (lists m.dbs i) (lists old.dbs i) (has_id i (swept_ids e.plan)) (sym (ap (λ (o : Option Dead). is_old o m.retention at) (edit_dead i)) ∙ h)
    where
      found : (a b c : Bool) → is_old (cond a None (cond b (Some (dead_at i m.moment)) (cond c None (keyed dead_id i.0 old.dead)))) m.retention at ≡ true
          → ((a ≡ false) × (m.moment + m.retention ≤ at)) ⊎ (is_old (keyed dead_id i.0 old.dead) old.retention at ≡ true)
      found true b c h = absurd cc
      found false true c h = inl (refl, leb-true (m.moment + m.retention) at h)
      found false false true h = absurd cc
      found false false false h = inr (sym (ap (λ (r : ℕ). is_old (keyed dead_id i.0 old.dead) r at) edit_retention) ∙ h)

  -- ---- writers

  -- the line of the writer is new, and each other one is as it was
  pub edit_writer : (i : Id16) → writer_of i m.writers ≡ cond (bytes_eq e.writer.0 i.0) (Some (record { id = e.writer; last = m.id; number = m.number })) (writer_of i old.writers)
  edit_writer i =
      subst (λ (k : Manifest). writer_of i k.writers ≡ cond (bytes_eq e.writer.0 i.0) (Some (record { id = e.writer; last = m.id; number = k.number })) (writer_of i old.writers)) (sym e.made)
      (keyed_with writer_id (record { id = e.writer; last = m.id; number = old.number + 1 }) i.0 old.writers)
