-- What a publication's get finds, in the machine's words.
use Rattle.std.proofs.Common.{◌≡◌, ◌∙◌, ◌+◌, ◌-◌, ◌^◌, ◌<◌, ◌≤◌, ◌==◌, ◌⊎◌, ℕ, Bool, true, false, ◌&&◌, cond, List, [], ◌∷◌, length, map, Option, Some, None, IfSome, is_some, is_none, nat_lt, nat_le, inl, inr, refl, sym, ap, subst, arith}
use Rattle.std.proofs.lemmas.Bool.{false≢true, leb-true}
use Rattle.std.proofs.lemmas.List.{length-map}
use Rattle.std.proofs.lemmas.Option.{same_Some}
use Rattle.std.specs.Option.{option_map}
use Rattle.bcv_base.specs.declared.id.Id16.{Id16}
use Rattle.bcv_base.specs.declared.manifest.DbEntry.{DbEntry}
use Rattle.bcv_base.specs.declared.manifest.Manifest.{Manifest}
use Rattle.bcv_base.specs.BlockCounts as counts
use Rattle.bcv_base.specs.History.{Item, last_of}
use Rattle.bcv_base.specs.Ids.{id_eq}
use Rattle.bcv_base.specs.Image.{or_else}
use Rattle.bcv_base.specs.Joined.{database_of}
use Rattle.bcv_base.specs.Keyed.{keyed}
use Rattle.bcv_base.specs.ManifestRules.{db_name, writer_id, blocks_needed}
use Rattle.bcv_base.specs.Version.{Database, Version, the_name}
use Rattle.bcv_base.specs.Versions.{version_of}
use Rattle.bcv_dbmap.specs.declared.fault.EditFault.{EditFault}
use Rattle.bcv_dbmap.specs.declared.fault.EditFault.TheVariants as fault
use Rattle.bcv_dbmap.specs.declared.plan.EditPlan.{EditPlan}
use Rattle.bcv_dbmap.specs.declared.plan.EditPlan.TheVariants as edit
use Rattle.bcv_dbmap.specs.Checked as checks
use Rattle.bcv_dbmap.specs.Room as room
use Rattle.bcv_dbmap.specs.Sound.{Sound}
use Rattle.bcv_machine.specs.ManifestGet as machine
use Rattle.bcv_machine.specs.ManifestGet.{CanPublish, IsEditFault, IsFound}
use Rattle.bcv_machine.specs.State as m
use Rattle.bcv_model.specs.declared.reply.Reply.{Reply}
use Rattle.bcv_model.specs.declared.reply.Reply.TheVariants as reply
use Rattle.bcv_clientstate.specs.CheckLaws.{FaultIsFound, IsAskedAs, NoneIsFound, PassesIsFree, fault_reply}
use Rattle.bcv_clientstate.specs.PutLaws.{IsLastVersion}
use Rattle.bcv_clientstate.specs.SeenContainer.{block_in, container_of}
use Rattle.bcv_dbmap.proofs.Keys.{key_turned}
use Rattle.bcv_dbmap.proofs.ManifestLaws.{few_writers}
use Rattle.bcv_dbmap.proofs.Room.{full_is_many}
use Rattle.bcv_clientstate.proofs.KeyedMaps.{keyed_map}
use Rattle.bcv_clientstate.proofs.PutLaws.{last_is_last, none_is_none}

-- ---- databases

some_mapped : {A B : Type 0} (f : A → B) (o : Option A) → is_some (option_map f o) ≡ is_some o
some_mapped f None = refl
some_mapped f (Some x) = refl

none_mapped : {A B : Type 0} (f : A → B) (o : Option A) → is_none (option_map f o) ≡ is_none o
none_mapped f None = refl
none_mapped f (Some x) = refl

module _ (past : List Item) (dbs : List DbEntry) where
  found : (name : List ℕ) → keyed the_name name (map (database_of past) dbs) ≡ option_map (database_of past) (keyed db_name name dbs)
  found name = keyed_map db_name the_name (database_of past) (λ d. refl) name dbs

  has_seen : (name : List ℕ) → is_some (keyed the_name name (map (database_of past) dbs)) ≡ is_some (keyed db_name name dbs)
  has_seen name = ap is_some (found name) ∙ some_mapped (database_of past) (keyed db_name name dbs)

  lacks_seen : (name : List ℕ) → is_none (keyed the_name name (map (database_of past) dbs)) ≡ is_none (keyed db_name name dbs)
  lacks_seen name = ap is_none (found name) ∙ none_mapped (database_of past) (keyed db_name name dbs)

-- ---- the reasons, by the tests alone

abbrev new_reply : Bool → Bool → Bool → Bool → Option Reply
new_reply a b c d = cond a (Some reply.Exists) (cond b (Some reply.PageTooLarge) (cond c (Some reply.TooLarge) (cond d (Some reply.TooManyDatabases) None)))

abbrev new_reason : Bool → Bool → Bool → Bool → Option EditFault
new_reason a b c d = cond a (Some fault.Exists) (cond b (Some fault.PageTooLarge) (cond c (Some fault.TooLarge) (cond d (Some fault.TooManyDatabases) None)))

new_said : (a b c d : Bool) → new_reply a b c d ≡ option_map fault_reply (new_reason a b c d)
new_said true b c d = refl
new_said false true c d = refl
new_said false false true d = refl
new_said false false false true = refl
new_said false false false false = refl

abbrev copy_reply : Bool → Bool → Bool → Option Reply
copy_reply a b c = cond a (Some reply.NoDatabase) (cond b (Some reply.Exists) (cond c (Some reply.TooManyDatabases) None))

abbrev copy_reason : Bool → Bool → Bool → Option EditFault
copy_reason a b c = cond a (Some fault.NoDatabase) (cond b (Some fault.Exists) (cond c (Some fault.TooManyDatabases) None))

copy_said : (a b c : Bool) → copy_reply a b c ≡ option_map fault_reply (copy_reason a b c)
copy_said true b c = refl
copy_said false true c = refl
copy_said false false true = refl
copy_said false false false = refl

remove_said : (a : Bool) → cond a (Some reply.NoDatabase) None ≡ option_map fault_reply (cond a (Some fault.NoDatabase) None)
remove_said true = refl
remove_said false = refl

conflict_said : (same : Bool) (mine theirs : Id16) → cond same None (Some (reply.Conflict mine theirs)) ≡ option_map fault_reply (cond same None (Some (fault.Conflict mine theirs)))
conflict_said true mine theirs = refl
conflict_said false mine theirs = refl

upload_said : (past : List Item) (mine : Database) (from : Id16) (o : Option DbEntry) → mine.tag ≡ from
    → machine.upload_fault (Some mine) (option_map (database_of past) o) ≡ option_map fault_reply (checks.upload_fault o from)
upload_said past mine from None tag = refl
upload_said past mine from (Some d) tag =
    ap (λ (i : Id16). cond (id_eq i d.tag) None (Some (reply.Conflict i d.tag))) tag
    ∙ ap (λ (b : Bool). cond b None (Some (reply.Conflict from d.tag))) (key_turned from.0 d.tag.0)
    ∙ conflict_said (id_eq d.tag from) from d.tag

-- ---- what the version decides

module _ (c : m.Container) (past : List Item) (dbs : List DbEntry) where
  plan_seen : (kind : m.Kind) (plan : EditPlan) → IsAskedAs c kind plan → machine.kind_fault c (map (database_of past) dbs) kind ≡ option_map fault_reply (checks.plan_fault c.block dbs plan)
  plan_seen (m.Creating block retention) plan is = absurd is
  plan_seen (m.Making d page_size pages) (edit.New e) is =
      ap (λ (n : List ℕ). machine.new_fault c.block (map (database_of past) dbs) n page_size (length pages)) (sym is.0)
      ∙ ap (λ (s : ℕ). machine.new_fault c.block (map (database_of past) dbs) e.name s (length pages)) (sym is.1)
      ∙ ap (λ (n : ℕ). machine.new_fault c.block (map (database_of past) dbs) e.name e.page_size n) (sym is.2)
      ∙ ap (λ (t : Bool). new_reply t (nat_lt c.block e.page_size) (nat_lt 65536 (blocks_needed c.block e.page_size e.pages)) (nat_le 1024 (length (map (database_of past) dbs)))) (has_seen past dbs e.name)
      ∙ ap (λ (k : ℕ). new_reply (is_some (keyed db_name e.name dbs)) (nat_lt c.block e.page_size) (nat_lt 65536 (blocks_needed c.block e.page_size e.pages)) (nat_le 1024 k)) (length-map dbs (database_of past))
      ∙ new_said (is_some (keyed db_name e.name dbs)) (nat_lt c.block e.page_size) (nat_lt 65536 (blocks_needed c.block e.page_size e.pages)) (nat_le 1024 (length dbs))
  plan_seen (m.Making d page_size pages) (edit.Upload from e) is = absurd is
  plan_seen (m.Making d page_size pages) (edit.Copy from to) is = absurd is
  plan_seen (m.Making d page_size pages) (edit.Remove name) is = absurd is
  plan_seen (m.Making d page_size pages) (edit.Sweep ids) is = absurd is
  plan_seen (m.Uploading d base commits) (edit.Upload from e) is =
      ap (λ (o : Option Database). machine.upload_fault o (keyed the_name d (map (database_of past) dbs))) is.1.there
      ∙ ap (λ (n : List ℕ). machine.upload_fault (Some is.1.mine) (keyed the_name n (map (database_of past) dbs))) (sym is.0)
      ∙ ap (machine.upload_fault (Some is.1.mine)) (found past dbs e.name)
      ∙ upload_said past is.1.mine from (keyed db_name e.name dbs) is.1.tag
  plan_seen (m.Uploading d base commits) (edit.New e) is = absurd is
  plan_seen (m.Uploading d base commits) (edit.Copy from to) is = absurd is
  plan_seen (m.Uploading d base commits) (edit.Remove name) is = absurd is
  plan_seen (m.Uploading d base commits) (edit.Sweep ids) is = absurd is
  plan_seen (m.Copying a b) (edit.Copy from to) is =
      ap (λ (n : List ℕ). machine.copy_fault (map (database_of past) dbs) n b) (sym is.0)
      ∙ ap (λ (n : List ℕ). machine.copy_fault (map (database_of past) dbs) from n) (sym is.1)
      ∙ ap (λ (t : Bool). copy_reply t (is_some (keyed the_name to (map (database_of past) dbs))) (nat_le 1024 (length (map (database_of past) dbs)))) (lacks_seen past dbs from)
      ∙ ap (λ (t : Bool). copy_reply (is_none (keyed db_name from dbs)) t (nat_le 1024 (length (map (database_of past) dbs)))) (has_seen past dbs to)
      ∙ ap (λ (k : ℕ). copy_reply (is_none (keyed db_name from dbs)) (is_some (keyed db_name to dbs)) (nat_le 1024 k)) (length-map dbs (database_of past))
      ∙ copy_said (is_none (keyed db_name from dbs)) (is_some (keyed db_name to dbs)) (nat_le 1024 (length dbs))
  plan_seen (m.Copying a b) (edit.New e) is = absurd is
  plan_seen (m.Copying a b) (edit.Upload from e) is = absurd is
  plan_seen (m.Copying a b) (edit.Remove name) is = absurd is
  plan_seen (m.Copying a b) (edit.Sweep ids) is = absurd is
  plan_seen (m.Removing a) (edit.Remove name) is =
      ap (λ (n : List ℕ). cond (is_none (keyed the_name n (map (database_of past) dbs))) (Some reply.NoDatabase) None) (sym is)
      ∙ ap (λ (t : Bool). cond t (Some reply.NoDatabase) None) (lacks_seen past dbs name) ∙ remove_said (is_none (keyed db_name name dbs))
  plan_seen (m.Removing a) (edit.New e) is = absurd is
  plan_seen (m.Removing a) (edit.Upload from e) is = absurd is
  plan_seen (m.Removing a) (edit.Copy from to) is = absurd is
  plan_seen (m.Removing a) (edit.Sweep ids) is = absurd is
  plan_seen m.Cleaning (edit.Sweep ids) is = refl
  plan_seen m.Cleaning (edit.New e) is = absurd is
  plan_seen m.Cleaning (edit.Upload from e) is = absurd is
  plan_seen m.Cleaning (edit.Copy from to) is = absurd is
  plan_seen m.Cleaning (edit.Remove name) is = absurd is

-- the first fault that does not come from want of room
abbrev decided : Manifest → EditPlan → Option EditFault
decided l p = cond (l.number == 2 ^ 64 - 1) (Some fault.VersionsFull) (checks.plan_fault l.block l.dbs p)

full_said : (full : Bool) (o : Option EditFault) → cond full (Some reply.VersionsFull) (option_map fault_reply o) ≡ option_map fault_reply (cond full (Some fault.VersionsFull) o)
full_said true o = refl
full_said false o = refl

-- over the last version the machine finds it
edit_seen : (c : m.Container) (past : List Item) (l : Manifest) (kind : m.Kind) (p : EditPlan) → IsAskedAs c kind p → m.version_count c ≡ l.number → c.block ≡ l.block
    → machine.edit_fault c (version_of past l) kind ≡ option_map fault_reply (decided l p)
edit_seen c past l kind p is count block =
    ap (λ (n : ℕ). cond (n == 2 ^ 64 - 1) (Some reply.VersionsFull) (machine.kind_fault c (map (database_of past) l.dbs) kind)) count
    ∙ ap (λ (o : Option Reply). cond (l.number == 2 ^ 64 - 1) (Some reply.VersionsFull) o)
    (plan_seen c past l.dbs kind p is ∙ ap (λ (b : ℕ). option_map fault_reply (checks.plan_fault b l.dbs p)) block)
    ∙ full_said (l.number == 2 ^ 64 - 1) (checks.plan_fault l.block l.dbs p)

-- ---- the first fault

-- it is decided, or there is none decided and it says want of room
abbrev Parts : Option EditFault → Option EditFault → EditFault → Type 0
Parts o size f = (o ≡ Some f) ⊎ ((o ≡ None) × (size ≡ Some f))

else_none : (o size : Option EditFault) → or_else o size ≡ None → o ≡ None
else_none None size e = refl
else_none (Some f) size e = e

else_some : (o size : Option EditFault) (f : EditFault) → or_else o size ≡ Some f → Parts o size f
else_some None size f e = inr (refl, e)
else_some (Some g) size f e = inl e

whole_none : (full : Bool) (o size : Option EditFault) → cond full (Some fault.VersionsFull) (or_else o size) ≡ None → cond full (Some fault.VersionsFull) o ≡ None
whole_none true o size e = e
whole_none false o size e = else_none o size e

whole_some : (full : Bool) (o size : Option EditFault) (f : EditFault) → cond full (Some fault.VersionsFull) (or_else o size) ≡ Some f → Parts (cond full (Some fault.VersionsFull) o) size f
whole_some true o size f e = inl e
whole_some false o size f e = else_some o size f e

-- ---- which faults are decided

-- the fault does not depend on the size of the result
abbrev is_decided : EditFault → Bool
is_decided fault.WritersFull = false
is_decided fault.DeleteListFull = false
is_decided fault.ManifestTooLong = false
is_decided _ = true

abbrev Decided : Option EditFault → Type 0
Decided o = IfSome o (λ f. is_decided f ≡ true)

new_decided : (a b c d : Bool) → Decided (new_reason a b c d)
new_decided true b c d = refl
new_decided false true c d = refl
new_decided false false true d = refl
new_decided false false false true = refl
new_decided false false false false = tt

copy_decided : (a b c : Bool) → Decided (copy_reason a b c)
copy_decided true b c = refl
copy_decided false true c = refl
copy_decided false false true = refl
copy_decided false false false = tt

remove_decided : (a : Bool) → Decided (cond a (Some fault.NoDatabase) None)
remove_decided true = refl
remove_decided false = tt

conflict_decided : (same : Bool) (mine theirs : Id16) → Decided (cond same None (Some (fault.Conflict mine theirs)))
conflict_decided true mine theirs = tt
conflict_decided false mine theirs = refl

upload_decided : (o : Option DbEntry) (from : Id16) → Decided (checks.upload_fault o from)
upload_decided None from = refl
upload_decided (Some d) from = conflict_decided (id_eq d.tag from) from d.tag

plan_decided : (block : ℕ) (dbs : List DbEntry) (p : EditPlan) → Decided (checks.plan_fault block dbs p)
plan_decided block dbs (edit.New e) = new_decided (is_some (keyed db_name e.name dbs)) (nat_lt block e.page_size) (nat_lt 65536 (blocks_needed block e.page_size e.pages)) (nat_le 1024 (length dbs))
plan_decided block dbs (edit.Upload from e) = upload_decided (keyed db_name e.name dbs) from
plan_decided block dbs (edit.Copy from to) = copy_decided (is_none (keyed db_name from dbs)) (is_some (keyed db_name to dbs)) (nat_le 1024 (length dbs))
plan_decided block dbs (edit.Remove name) = remove_decided (is_none (keyed db_name name dbs))
plan_decided block dbs (edit.Sweep ids) = tt

full_decided : (full : Bool) (o : Option EditFault) → Decided o → Decided (cond full (Some fault.VersionsFull) o)
full_decided true o d = refl
full_decided false o d = d

decided_is : (l : Manifest) (p : EditPlan) (f : EditFault) → decided l p ≡ Some f → is_decided f ≡ true
decided_is l p f e = subst Decided e (full_decided (l.number == 2 ^ 64 - 1) (checks.plan_fault l.block l.dbs p) (plan_decided l.block l.dbs p))

-- ---- want of room

-- the machine counts blocks as the law does
same_databases : (block : ℕ) (ds : List Database) → machine.database_blocks block ds ≡ counts.database_blocks block ds
same_databases block [] = refl
same_databases block (d ∷ ds) = ap (λ (n : ℕ). blocks_needed block d.page_size (length d.image) + n) (same_databases block ds)

same_blocks : (block : ℕ) (vs : List Version) → machine.all_blocks block vs ≡ counts.all_blocks block vs
same_blocks block [] = refl
same_blocks block (v ∷ vs) =
    ap (λ (n : ℕ). n + machine.all_blocks block vs) (same_databases block v.dbs) ∙ ap (λ (n : ℕ). counts.database_blocks block v.dbs + n) (same_blocks block vs)

brings_few : (c : m.Container) (kind : m.Kind) (p : EditPlan) → IsAskedAs c kind p → room.BringsFew c.block p
brings_few c (m.Creating block retention) p is = absurd is
brings_few c (m.Making d page_size pages) (edit.New e) is = is.3
brings_few c (m.Making d page_size pages) (edit.Upload from e) is = absurd is
brings_few c (m.Making d page_size pages) (edit.Copy from to) is = absurd is
brings_few c (m.Making d page_size pages) (edit.Remove name) is = absurd is
brings_few c (m.Making d page_size pages) (edit.Sweep ids) is = absurd is
brings_few c (m.Uploading d base commits) (edit.Upload from e) is = is.2
brings_few c (m.Uploading d base commits) (edit.New e) is = absurd is
brings_few c (m.Uploading d base commits) (edit.Copy from to) is = absurd is
brings_few c (m.Uploading d base commits) (edit.Remove name) is = absurd is
brings_few c (m.Uploading d base commits) (edit.Sweep ids) is = absurd is
brings_few c (m.Copying a b) (edit.Copy from to) is = is.2
brings_few c (m.Copying a b) (edit.New e) is = absurd is
brings_few c (m.Copying a b) (edit.Upload from e) is = absurd is
brings_few c (m.Copying a b) (edit.Remove name) is = absurd is
brings_few c (m.Copying a b) (edit.Sweep ids) is = absurd is
brings_few c (m.Removing a) (edit.Remove name) is = tt
brings_few c (m.Removing a) (edit.New e) is = absurd is
brings_few c (m.Removing a) (edit.Upload from e) is = absurd is
brings_few c (m.Removing a) (edit.Copy from to) is = absurd is
brings_few c (m.Removing a) (edit.Sweep ids) is = absurd is
brings_few c m.Cleaning (edit.Sweep ids) is = tt
brings_few c m.Cleaning (edit.New e) is = absurd is
brings_few c m.Cleaning (edit.Upload from e) is = absurd is
brings_few c m.Cleaning (edit.Copy from to) is = absurd is
brings_few c m.Cleaning (edit.Remove name) is = absurd is

-- ---- the machine's faults

-- a fault that is not decided: no place for the writer, or no room
size_parts : (w b c : Bool) (f : EditFault) → cond w (Some fault.WritersFull) (cond b (Some fault.DeleteListFull) (cond c (Some fault.ManifestTooLong) None)) ≡ Some f
    → ((f ≡ fault.WritersFull) × (w ≡ true)) ⊎ (room.is_want_of_room f ≡ true)
size_parts true b c f e = inl (sym (same_Some fault.WritersFull f e), refl)
size_parts false true c f e = inr (subst (λ (g : EditFault). room.is_want_of_room g ≡ true) (same_Some fault.DeleteListFull f e) refl)
size_parts false false true f e = inr (subst (λ (g : EditFault). room.is_want_of_room g ≡ true) (same_Some fault.ManifestTooLong f e) refl)
size_parts false false false f e = absurd (cc)

both : (a b : Bool) → (a && b) ≡ true → b ≡ true
both true b e = e
both false b e = absurd (false≢true e)

-- one that is decided, exactly
decided_fault : (c : m.Container) (v : Version) (kind : m.Kind) (f : EditFault) → is_decided f ≡ true → machine.edit_fault c v kind ≡ Some (fault_reply f) → IsEditFault c v kind (fault_reply f)
decided_fault c v kind fault.VersionsFull is e = e
decided_fault c v kind fault.Exists is e = e
decided_fault c v kind fault.PageTooLarge is e = e
decided_fault c v kind fault.TooLarge is e = e
decided_fault c v kind fault.TooManyDatabases is e = e
decided_fault c v kind fault.NoDatabase is e = e
decided_fault c v kind (fault.Conflict mine theirs) is e = e
decided_fault c v kind fault.WritersFull is e = absurd (false≢true is)
decided_fault c v kind fault.DeleteListFull is e = absurd (false≢true is)
decided_fault c v kind fault.ManifestTooLong is e = absurd (false≢true is)

room_fault : (c : m.Container) (v : Version) (kind : m.Kind) (f : EditFault) → room.is_want_of_room f ≡ true → machine.edit_fault c v kind ≡ None → 1048576 < machine.all_blocks c.block c.versions → IsEditFault c v kind (fault_reply f)
room_fault c v kind fault.VersionsFull is e many = absurd (false≢true is)
room_fault c v kind fault.Exists is e many = absurd (false≢true is)
room_fault c v kind fault.PageTooLarge is e many = absurd (false≢true is)
room_fault c v kind fault.TooLarge is e many = absurd (false≢true is)
room_fault c v kind fault.TooManyDatabases is e many = absurd (false≢true is)
room_fault c v kind fault.NoDatabase is e many = absurd (false≢true is)
room_fault c v kind (fault.Conflict mine theirs) is e many = absurd (false≢true is)
room_fault c v kind fault.WritersFull is e many = absurd (false≢true is)
room_fault c v kind fault.DeleteListFull is e many = (e, many)
room_fault c v kind fault.ManifestTooLong is e many = (e, many)

module _ (moment : ℕ) (past : List Item) (l : Manifest) (kind : m.Kind) (p : EditPlan) (writer : Id16) (sound : Sound past) (last : last_of past ≡ Some l) (is : IsAskedAs (container_of moment past) kind p) where
  abbrev c : m.Container
  c = container_of moment past

  at_last : IsLastVersion moment past l
  at_last = last_is_last moment past l sound last

  block : c.block ≡ l.block
  block = ap block_in last

  seen : machine.edit_fault c (version_of past l) kind ≡ option_map fault_reply (decided l p)
  seen = edit_seen c past l kind p is at_last.number block

  by_size : (f : EditFault) → checks.checked l p writer ≡ Some f → machine.edit_fault c (version_of past l) kind ≡ None
      → ((f ≡ fault.WritersFull) × ((is_none (keyed writer_id writer.0 l.writers) && nat_le 4096 (length l.writers)) ≡ true)) ⊎ (room.is_want_of_room f ≡ true)
      → IsEditFault c (version_of past l) kind (fault_reply f)
  by_size f fails free (inl w) =
      let many : 4096 ≤ length l.writers = leb-true 4096 (length l.writers) (both (is_none (keyed writer_id writer.0 l.writers)) (nat_le 4096 (length l.writers)) w.1) in
      let few = few_writers past l sound last in
      let count = at_last.number in
      subst (λ (g : EditFault). IsEditFault c (version_of past l) kind (fault_reply g)) (sym w.0) (free, omega (arith, many, few, count))
  by_size f fails free (inr want) =
      room_fault c (version_of past l) kind f want free
      (subst (λ (n : ℕ). 1048576 < n) (sym (ap (λ (b : ℕ). machine.all_blocks b c.versions) block ∙ same_blocks l.block c.versions))
      (full_is_many past l p writer f sound last (subst (λ (b : ℕ). room.BringsFew b p) block (brings_few c kind p is)) fails want))

  by_parts : (f : EditFault) → checks.checked l p writer ≡ Some f → Parts (decided l p) (checks.size_fault l p writer) f → IsEditFault c (version_of past l) kind (fault_reply f)
  by_parts f fails (inl known) = decided_fault c (version_of past l) kind f (decided_is l p f known) (seen ∙ ap (option_map fault_reply) known)
  by_parts f fails (inr size) =
      by_size f fails (seen ∙ ap (option_map fault_reply) size.0)
      (size_parts (is_none (keyed writer_id writer.0 l.writers) && nat_le 4096 (length l.writers)) (nat_lt 1048576 (checks.dead_length l p)) (nat_lt 67108864 (checks.result_length l p writer)) f size.1)

  fault_is : (f : EditFault) → checks.checked l p writer ≡ Some f → IsEditFault c (version_of past l) kind (fault_reply f)
  fault_is f fails = by_parts f fails (whole_some (l.number == 2 ^ 64 - 1) (checks.plan_fault l.block l.dbs p) (checks.size_fault l p writer) f fails)

  free_is : checks.checked l p writer ≡ None → machine.edit_fault c (version_of past l) kind ≡ None
  free_is passes = seen ∙ ap (option_map fault_reply) (whole_none (l.number == 2 ^ 64 - 1) (checks.plan_fault l.block l.dbs p) (checks.size_fault l p writer) passes)

pub passes_is_free : PassesIsFree
passes_is_free moment past l kind p writer sound last is passes =
    subst (CanPublish (container_of moment past) kind) (sym (at_last moment past l kind p writer sound last is).version) (free_is moment past l kind p writer sound last is passes)

-- a fault of an edit is what is found
found_fault : (c : m.Container) (q : m.Publication) (v : Version) (f : EditFault) → IsEditFault c v q.kind (fault_reply f) → IsFound c q (Some v) (fault_reply f)
found_fault c q v fault.VersionsFull is = is
found_fault c q v fault.Exists is = is
found_fault c q v fault.PageTooLarge is = is
found_fault c q v fault.TooLarge is = is
found_fault c q v fault.TooManyDatabases is = is
found_fault c q v fault.NoDatabase is = is
found_fault c q v (fault.Conflict mine theirs) is = is
found_fault c q v fault.WritersFull is = is
found_fault c q v fault.DeleteListFull is = is
found_fault c q v fault.ManifestTooLong is = is

pub fault_is_found : FaultIsFound
fault_is_found moment past l q p writer f sound last is fails =
    subst (λ (o : Option Version). IsFound (container_of moment past) q o (fault_reply f)) (sym (at_last moment past l q.kind p writer sound last is).version)
    (found_fault (container_of moment past) q (version_of past l) f (fault_is moment past l q.kind p writer sound last is f fails))

pub none_is_found : NoneIsFound
none_is_found moment past q sound last =
    subst (λ (o : Option Version). IsFound (container_of moment past) q o reply.NoContainer)
    (sym (ap (λ (vs : List Version). m.last_version (record (container_of moment past) { versions = vs })) (none_is_none moment past sound last))) tt
