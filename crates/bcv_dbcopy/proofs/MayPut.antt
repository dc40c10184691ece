-- A task that is ready may publish: its new blocks are its own, and it sweeps nothing.
use Rattle.std.proofs.Common.{◌≡◌, ◌∙◌, ℕ, suc, Bool, true, false, ◌||◌, List, [], ◌∷◌, Option, Some, MatchOption, is_some, ◌==◌, refl, sym, ap, subst}
use Rattle.std.specs.Cmp.{first_so}
use Rattle.bcv_base.specs.declared.id.Id16.{Id16}
use Rattle.bcv_base.specs.declared.log.Entry.{Entry}
use Rattle.bcv_base.specs.declared.seen.Latest.{Latest}
use Rattle.bcv_base.specs.History.{Item, history_of}
use Rattle.bcv_base.specs.HistoryLaws.{id_eq-is}
use Rattle.bcv_base.specs.Ids.{id_eq, has_id}
use Rattle.bcv_base.specs.Image.{Page}
use Rattle.bcv_base.specs.ManifestRules.{lists}
use Rattle.bcv_dbmap.specs.declared.plan.EditPlan.{EditPlan}
use Rattle.bcv_dbmap.specs.declared.plan.EditPlan.TheVariants as edit
use Rattle.bcv_dbmap.specs.Applied.{dbs_after, swept_ids}
use Rattle.bcv_dbmap.specs.Merged.{taken_off}
use Rattle.bcv_dbmap.proofs.Bools.{or_left}
use Rattle.bcv_dbmap.proofs.Moved.{taken}
use Rattle.bcv_dbmap.specs.OwnBlock.{IsOwnBlock}
use Rattle.bcv_dbmap.specs.Honest.{GrewHonestly}
use Rattle.bcv_dbmap.specs.Sound.{Sound}
use Rattle.bcv_publish.specs.declared.work.PutEnd.{PutEnd}
use Rattle.bcv_publish.specs.ManifestPut.{MayPublish, ManifestPuts, ManifestPutSound}
use Rattle.bcv_publish.specs.State as publish
use Rattle.bcv_store.specs.StoreShown.{StoreTold, StoreShown}
use Rattle.bcv_dbcopy.specs.TaskPut.{MayPut}
use Rattle.bcv_dbcopy.specs.State.{State, IsTask, IsEdit, is_ready, left_of}
use Rattle.bcv_dbcopy.specs.TaskWork.{AreOwnBlocks, HasBlocks}
use Rattle.bcv_dbcopy.proofs.Tasks.{Ready, ready_of, some_kept}

own_among : (mine : List Id16) (past : List Item) (block size : ℕ) (pages : List Page) (n : ℕ) (ids : List Id16) (i : Id16) → AreOwnBlocks mine past block size pages n ids → has_id i ids ≡ true → IsOwnBlock mine past block i
own_among mine past block size pages n [] i own h = absurd (cc)
own_among mine past block size pages n (j ∷ js) i own h = by_first (id_eq j i) refl h (own_among mine past block size pages (suc n) js i own.2)
  where
    by_first : (b : Bool) → id_eq j i ≡ b → (b || has_id i js) ≡ true → (has_id i js ≡ true → IsOwnBlock mine past block i) → IsOwnBlock mine past block i
    by_first true e h rest = subst (IsOwnBlock mine past block) (id_eq-is j i e) own.0
    by_first false e h rest = rest h

own_taken : (mine : List Id16) (past : List Item) (block : ℕ) (pages : List Page) (e : EditPlan) (i : Id16) → IsEdit e pages → HasBlocks mine past pages e (Some block) → has_id i (taken_off e) ≡ true → IsOwnBlock mine past block i
own_taken mine past block pages (edit.New e) i is has h = own_among mine past block e.page_size pages 0 e.blocks i has h
own_taken mine past block pages (edit.Copy from to) i is has h = absurd (cc)
own_taken mine past block pages (edit.Remove name) i is has h = absurd (cc)
own_taken mine past block pages (edit.Upload from e) i is has h = absurd is
own_taken mine past block pages (edit.Sweep ids) i is has h = absurd is

none_swept : (e : EditPlan) (pages : List Page) (i : Id16) → IsEdit e pages → has_id i (swept_ids e) ≡ true → ⊥
none_swept (edit.New e) pages i is h = cc
none_swept (edit.Copy from to) pages i is h = cc
none_swept (edit.Remove name) pages i is h = cc
none_swept (edit.Upload from e) pages i is h = is
none_swept (edit.Sweep ids) pages i is h = is

may_publish : (mine : List Id16) (log : List Entry) (s : State) (l : Latest) (moment : ℕ) → IsTask s → Ready s l → MayPut mine log s l → MayPublish mine log s.publish l s.edit moment
may_publish mine log s l moment t r may =
    let has : HasBlocks mine (history_of log) s.pages s.edit (Some l.manifest.block) =
    subst (HasBlocks mine (history_of log) s.pages s.edit) (r.block_is ∙ ap (λ (b : ℕ). Some b) (sym r.passed.block)) may.blocks
    in
    record {
      kept = may.kept;
      writer = may.writer;
      id = may.id;
      fresh = may.fresh;
      blocks =
          λ i listed unlisted. own_taken mine (history_of log) l.manifest.block s.pages s.edit i t.edit has
          (sym (taken s.edit s.publish.id i l.manifest.dbs unlisted) ∙ or_left (lists (dbs_after s.edit s.publish.id l.manifest.dbs) i) (has_id i (swept_ids s.edit)) listed);
      swept = λ i h. absurd (none_swept s.edit s.pages i t.edit h);
    }

pub any_sound : (store : StoreTold) (mine : List Id16) (old new : StoreShown) (s : State) (moment : ℕ) (result : PutEnd) (q : publish.State) → IsTask s → is_ready s ≡ true
    → store.tells → Sound (history_of old.log) → GrewHonestly store.alone mine old.log new.log
    → MatchOption s.publish.latest ⊥ (λ read. ManifestPuts store old new s.publish read s.edit moment result q)
    → MatchOption s.publish.latest ⊥ (λ read. MayPut mine old.log s read → ManifestPutSound store mine old new s.publish read s.edit moment result q)
any_sound store mine old new s moment result q t ready tells sound honest puts =
    let k = some_kept s.publish.latest (first_so (is_some s.publish.latest) (left_of s == 1) ready) in
    let of_it = subst (λ (o : Option Latest). MatchOption o ⊥ (λ read. ManifestPuts store old new s.publish read s.edit moment result q)) k.1 puts in
    subst (λ (o : Option Latest). MatchOption o ⊥ (λ read. MayPut mine old.log s read → ManifestPutSound store mine old new s.publish read s.edit moment result q)) (sym k.1)
    (λ may. of_it.sound tells mine sound honest (may_publish mine old.log s k.0 moment t (ready_of s k.0 t ready k.1) may))
