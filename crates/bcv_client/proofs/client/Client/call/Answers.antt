use Rattle.std.proofs.Common.{[], ap, refl, ◌∷◌}
use Rattle.bcv_clientlaws.proofs.OtherParts.{includes_all}
use Rattle.bcv_clientstate.specs.Parts.{mine_of}
use Rattle.bcv_databases.specs.Catalog.{found_at}
use Rattle.bcv_client.proofs.AskNames.{begin_named, commit_named, end_named, free_named, page_named, poll_named, resolve_named, revert_named, upload_named}
use Rattle.bcv_clientstate.specs.PartRefusals.{runs_publication}
use Rattle.bcv_clientstate.specs.SeenKept.{seen_kept}
use Rattle.bcv_clientstate.specs.StartRefusals.{resolve_reason}
use Rattle.bcv_machine.specs.Starting.{upload_of}
use Rattle.bcv_machine.specs.State as m
use Rattle.bcv_model.specs.declared.ask.Ask.TheVariants as ask
use Rattle.bcv_ledger.specs.declared.ledger.Ledger.{Ledger}
use Rattle.bcv_transaction.specs.Open.{Open, set_in}
use Rattle.bcv_client.specs.ClientParts.{parts_of}
use Rattle.bcv_client.specs.Transactions.{pages_for}
use Rattle.bcv_client.specs.declared.job.Access.TheVariants as access
use Rattle.bcv_client.specs.declared.job.Job.TheVariants as job
use Rattle.bcv_client.proofs.AskReplies.{begin_inside, commit_not_names, end_inside, freed_inside, list_inside, no_causes, no_disk, no_names, page_inside, publication_only, resolve_inside, revert_not_names, task_inside, unless_only}
use Rattle.bcv_client.proofs.AsksTaken.{as_asked, locally_ask, notes_ask, same_as, starts_ask, step_ask}
use Rattle.bcv_client.proofs.CallFaults.{commit_causes, quiet_disk, revert_causes, start_causes, start_disk}
use Rattle.bcv_client.proofs.PollForm.{read_still}
use Rattle.bcv_client.proofs.FallsCalls.{ask_falls, noting_falls, unmoved_falls}
use Rattle.bcv_client.proofs.SlotsKept.{begin_slots, calls_slots, end_slots, page_slots}
use Rattle.bcv_client.specs.AnyMoment.{NotesOfCommit, NotesOfRevert}
use Rattle.bcv_client.proofs.CallMoments.{asked_moments, local_moments, quiet_ask}
use Rattle.bcv_client.proofs.Descent.{as_descends}
use Rattle.bcv_client.proofs.Caching.{as_cached}
use Rattle.bcv_client.proofs.CountsOn.{counts_still, starts_count}
use Rattle.bcv_client.proofs.client.Client.call.Goals as goal

pub begin-requires : goal.begin-requires
begin-requires g c = record { form = c.requires.client.form }

pub read-requires : goal.read-requires
read-requires g c = record { form = c.requires.client.form }

pub hold-requires : goal.hold-requires
hold-requires g c = record { form = c.requires.client.form }

pub look_copied-requires : goal.look_copied-requires
look_copied-requires g c = record { form = c.requires.client.form }

pub free-requires : goal.free-requires
free-requires g c = record { form = c.requires.client.form }

pub end-requires : goal.end-requires
end-requires g c = record { form = c.requires.client.form }

pub revert-requires : goal.revert-requires
revert-requires g c = record { form = c.requires.client.form }

pub start_upload-requires : goal.start_upload-requires
start_upload-requires g c = record { form = c.requires.client.form }

pub start_poll-requires : goal.start_poll-requires
start_poll-requires g c = record { form = c.requires.client.form }

pub start_cleanup-requires : goal.start_cleanup-requires
start_cleanup-requires g c = record { form = c.requires.client.form }

pub start_resolve-requires : goal.start_resolve-requires
start_resolve-requires g c = record { form = c.requires.client.form }

pub commit-requires-clause-form : goal.commit-requires-clause-form
commit-requires-clause-form g c = c.requires.client.form

pub start_create-requires-clause-form : goal.start_create-requires-clause-form
start_create-requires-clause-form g c = c.requires.client.form

pub start_copy-requires-clause-form : goal.start_copy-requires-clause-form
start_copy-requires-clause-form g c = c.requires.client.form

pub start_copy-requires-in-Copy-clause-form : goal.start_copy-requires-in-Copy-clause-form
start_copy-requires-in-Copy-clause-form g c = c.requires.client.form

pub start_copy-requires-in-Remove-clause-form : goal.start_copy-requires-in-Remove-clause-form
start_copy-requires-in-Remove-clause-form g c = c.requires.client.form

pub commit-requires-clause-taken : goal.commit-requires-clause-taken
commit-requires-clause-taken g c = rw c.in-Commit.is at c.requires.ask

pub start_create-requires-clause-size : goal.start_create-requires-clause-size
start_create-requires-clause-size g c = rw c.in-Create.is at c.requires.ask

pub start_copy-requires-clause-pages : goal.start_copy-requires-clause-pages
start_copy-requires-clause-pages g c = rw c.in-NewDb.is at c.requires.ask

pub step-requires-clause-client : goal.step-requires-clause-client
step-requires-clause-client g c = c.requires.client

pub step-requires-clause-rule : goal.step-requires-clause-rule
step-requires-clause-rule g c = c.requires.rule

-- ---- Begin

pub returns-in-Begin-clause-client : goal.returns-in-Begin-clause-client
returns-in-Begin-clause-client g c =
    let only = c.begin.ensures.only in
    record { form = c.begin.ensures.form; read = read_still c.args.self.now.seen _ c.args.self.now.latest _ only.seen only.latest c.requires.client.read }

pub returns-in-Begin-clause-same : goal.returns-in-Begin-clause-same
returns-in-Begin-clause-same g c =
    let only = c.begin.ensures.only in
    same_as c.args.self.now c.begin.new.self c.args.ask (ask.Begin c.in-Begin.db) c.in-Begin.is only.id only.taken (begin_slots c.args.self.now c.begin.new.self _ c.begin.result c.begin.ensures.begins)

pub returns-in-Begin-clause-asks : goal.returns-in-Begin-clause-asks
returns-in-Begin-clause-asks g c =
    as_asked c.args.ask (ask.Begin c.in-Begin.db) c.in-Begin.is
    (locally_ask g.D.Disk.told g.D.Disk.shown g.S.Store.told (g.S.Store.shown c.args.outside.now.store) (g.N.Names.shown c.args.outside.now.names) (g.C.Clock.shown c.args.outside.now.clock) c.args.self.now c.begin.new.self c.begin.result (ask.Begin c.in-Begin.db) refl refl
    (no_names c.begin.result (begin_inside c.args.self.now c.begin.new.self _ c.begin.result c.begin.ensures.begins))
    (begin_named c.args.self.now c.begin.new.self c.begin.ensures.only) c.begin.ensures.machine)

-- ---- Read

pub returns-in-Read-clause-client : goal.returns-in-Read-clause-client
returns-in-Read-clause-client g c =
    let only = c.read.ensures.only in
    record { form = c.read.ensures.form; read = read_still c.args.self.now.seen _ c.args.self.now.latest _ only.seen only.latest c.requires.client.read }

pub returns-in-Read-clause-same : goal.returns-in-Read-clause-same
returns-in-Read-clause-same g c =
    let only = c.read.ensures.only in
    same_as c.args.self.now c.read.new.self c.args.ask (ask.Read c.in-Read.txn c.in-Read.page) c.in-Read.is only.id only.taken (page_slots m.ToRead (pages_for c.args.self.now.ledger.databases c.in-Read.txn c.args.self.now.txns) c.args.self.now.txns c.read.new.self.txns c.in-Read.txn c.in-Read.page c.read.ensures.asks.how c.read.ensures.asks.calls)

pub returns-in-Read-clause-asks : goal.returns-in-Read-clause-asks
returns-in-Read-clause-asks g c =
    as_asked c.args.ask (ask.Read c.in-Read.txn c.in-Read.page) c.in-Read.is
    (locally_ask g.D.Disk.told g.D.Disk.shown g.S.Store.told (g.S.Store.shown c.args.outside.now.store) (g.N.Names.shown c.args.outside.now.names) (g.C.Clock.shown c.args.outside.now.clock) c.args.self.now c.read.new.self c.read.result (ask.Read c.in-Read.txn c.in-Read.page) refl refl
    (no_names c.read.result (page_inside m.ToRead c.args.self.now c.read.new.self c.in-Read.txn c.in-Read.page (job.Fetch access.ToRead c.in-Read.txn c.in-Read.page) c.read.result c.read.ensures.asks))
    (page_named c.args.self.now c.read.new.self m.ToRead access.ToRead c.in-Read.txn c.in-Read.page c.read.result c.read.ensures.only c.read.ensures.asks) c.read.ensures.machine)

-- ---- Hold

pub returns-in-Hold-clause-client : goal.returns-in-Hold-clause-client
returns-in-Hold-clause-client g c =
    let only = c.hold.ensures.only in
    record { form = c.hold.ensures.form; read = read_still c.args.self.now.seen _ c.args.self.now.latest _ only.seen only.latest c.requires.client.read }

pub returns-in-Hold-clause-same : goal.returns-in-Hold-clause-same
returns-in-Hold-clause-same g c =
    let only = c.hold.ensures.only in
    same_as c.args.self.now c.hold.new.self c.args.ask (ask.Hold c.in-Hold.txn c.in-Hold.page) c.in-Hold.is only.id only.taken (page_slots m.ToHold (pages_for c.args.self.now.ledger.databases c.in-Hold.txn c.args.self.now.txns) c.args.self.now.txns c.hold.new.self.txns c.in-Hold.txn c.in-Hold.page c.hold.ensures.asks.how c.hold.ensures.asks.calls)

pub returns-in-Hold-clause-asks : goal.returns-in-Hold-clause-asks
returns-in-Hold-clause-asks g c =
    as_asked c.args.ask (ask.Hold c.in-Hold.txn c.in-Hold.page) c.in-Hold.is
    (locally_ask g.D.Disk.told g.D.Disk.shown g.S.Store.told (g.S.Store.shown c.args.outside.now.store) (g.N.Names.shown c.args.outside.now.names) (g.C.Clock.shown c.args.outside.now.clock) c.args.self.now c.hold.new.self c.hold.result (ask.Hold c.in-Hold.txn c.in-Hold.page) refl refl
    (no_names c.hold.result (page_inside m.ToHold c.args.self.now c.hold.new.self c.in-Hold.txn c.in-Hold.page (job.Fetch access.ToHold c.in-Hold.txn c.in-Hold.page) c.hold.result c.hold.ensures.asks))
    (page_named c.args.self.now c.hold.new.self m.ToHold access.ToHold c.in-Hold.txn c.in-Hold.page c.hold.result c.hold.ensures.only c.hold.ensures.asks) c.hold.ensures.machine)

-- ---- Free

pub returns-in-Free-clause-client : goal.returns-in-Free-clause-client
returns-in-Free-clause-client g c =
    let only = c.free.ensures.only.reading in
    record { form = c.free.ensures.form; read = read_still c.args.self.now.seen _ c.args.self.now.latest _ only.seen only.latest c.requires.client.read }

pub returns-in-Free-clause-same : goal.returns-in-Free-clause-same
returns-in-Free-clause-same g c =
    let only = c.free.ensures.only.reading in
    same_as c.args.self.now c.free.new.self c.args.ask (ask.Free c.in-Free.txn c.in-Free.page) c.in-Free.is only.id only.taken (calls_slots c.args.self.now.txns c.free.new.self.txns _ _ c.free.ensures.frees.frees)

pub returns-in-Free-clause-asks : goal.returns-in-Free-clause-asks
returns-in-Free-clause-asks g c =
    as_asked c.args.ask (ask.Free c.in-Free.txn c.in-Free.page) c.in-Free.is
    (locally_ask g.D.Disk.told g.D.Disk.shown g.S.Store.told (g.S.Store.shown c.args.outside.now.store) (g.N.Names.shown c.args.outside.now.names) (g.C.Clock.shown c.args.outside.now.clock) c.args.self.now c.free.new.self c.free.result (ask.Free c.in-Free.txn c.in-Free.page) refl refl
    (no_names c.free.result (freed_inside c.free.ensures.frees.how c.free.result c.free.ensures.frees.answers))
    (free_named c.args.self.now c.free.new.self c.free.ensures.only) c.free.ensures.machine)

-- ---- End

pub returns-in-End-clause-client : goal.returns-in-End-clause-client
returns-in-End-clause-client g c =
    let only = c.end.ensures.ledger in
    record { form = c.end.ensures.form; read = read_still c.args.self.now.seen _ c.args.self.now.latest _ only.seen only.latest c.requires.client.read }

pub returns-in-End-clause-same : goal.returns-in-End-clause-same
returns-in-End-clause-same g c =
    let only = c.end.ensures.ledger in
    same_as c.args.self.now c.end.new.self c.args.ask (ask.End c.in-End.txn) c.in-End.is only.id only.taken (end_slots c.args.self.now c.end.new.self c.in-End.txn (set_in c.in-End.txn c.args.self.now.txns.txns) c.end.result c.end.ensures.ends)

pub returns-in-End-clause-asks : goal.returns-in-End-clause-asks
returns-in-End-clause-asks g c =
    as_asked c.args.ask (ask.End c.in-End.txn) c.in-End.is
    (locally_ask g.D.Disk.told g.D.Disk.shown g.S.Store.told (g.S.Store.shown c.args.outside.now.store) (g.N.Names.shown c.args.outside.now.names) (g.C.Clock.shown c.args.outside.now.clock) c.args.self.now c.end.new.self c.end.result (ask.End c.in-End.txn) refl refl
    (no_names c.end.result (end_inside c.args.self.now c.end.new.self c.in-End.txn (set_in c.in-End.txn c.args.self.now.txns.txns) c.end.result c.end.ensures.ends))
    (end_named c.args.self.now c.end.new.self c.in-End.txn (set_in c.in-End.txn c.args.self.now.txns.txns) c.end.result c.end.ensures.ledger c.end.ensures.ends) c.end.ensures.machine)

-- ---- Commit

pub returns-in-Commit-clause-client : goal.returns-in-Commit-clause-client
returns-in-Commit-clause-client g c =
    let only = c.commit.ensures.others in
    record { form = c.commit.ensures.form; read = read_still c.args.self.now.seen _ c.args.self.now.latest _ only.seen only.latest c.requires.client.read }

pub returns-in-Commit-clause-same : goal.returns-in-Commit-clause-same
returns-in-Commit-clause-same g c =
    let only = c.commit.ensures.others in
    same_as c.args.self.now c.commit.new.self c.args.ask (ask.Commit c.in-Commit.db c.in-Commit.commit) c.in-Commit.is only.id c.commit.ensures.taken (ap (λ (o : Open). o.slots) only.txns)

pub returns-in-Commit-clause-asks : goal.returns-in-Commit-clause-asks
returns-in-Commit-clause-asks g c =
    as_asked c.args.ask (ask.Commit c.in-Commit.db c.in-Commit.commit) c.in-Commit.is
    (notes_ask g.D.Disk.told g.D.Disk.shown g.S.Store.told (g.S.Store.shown c.args.outside.now.store) (g.N.Names.shown c.args.outside.now.names) (g.C.Clock.shown c.args.outside.now.clock) c.args.self.now c.commit.new.self c.commit.result (ask.Commit c.in-Commit.db c.in-Commit.commit) refl refl
    (commit_not_names g.D.Disk.told g.D.Disk.shown c.args.self.now.ledger c.commit.new.self.ledger c.in-Commit.db c.in-Commit.commit c.commit.result c.commit.ensures.commits)
    (commit_named c.args.self.now c.commit.new.self g.D.Disk.told g.D.Disk.shown c.in-Commit.db c.in-Commit.commit c.commit.result c.commit.ensures.others c.commit.ensures.commits) c.commit.ensures.steps)

-- ---- Revert

pub returns-in-Revert-clause-client : goal.returns-in-Revert-clause-client
returns-in-Revert-clause-client g c =
    let only = c.revert.ensures.others.writes in
    record { form = c.revert.ensures.form; read = read_still c.args.self.now.seen _ c.args.self.now.latest _ only.seen only.latest c.requires.client.read }

pub returns-in-Revert-clause-same : goal.returns-in-Revert-clause-same
returns-in-Revert-clause-same g c =
    let only = c.revert.ensures.others.writes in
    same_as c.args.self.now c.revert.new.self c.args.ask (ask.Revert c.in-Revert.db) c.in-Revert.is only.id c.revert.ensures.others.taken (ap (λ (o : Open). o.slots) only.txns)

pub returns-in-Revert-clause-asks : goal.returns-in-Revert-clause-asks
returns-in-Revert-clause-asks g c =
    as_asked c.args.ask (ask.Revert c.in-Revert.db) c.in-Revert.is
    (notes_ask g.D.Disk.told g.D.Disk.shown g.S.Store.told (g.S.Store.shown c.args.outside.now.store) (g.N.Names.shown c.args.outside.now.names) (g.C.Clock.shown c.args.outside.now.clock) c.args.self.now c.revert.new.self c.revert.result (ask.Revert c.in-Revert.db) refl refl
    (revert_not_names g.D.Disk.told g.D.Disk.shown c.args.self.now.ledger c.revert.ensures.reverts.mid (runs_publication (parts_of c.args.self.now)) c.in-Revert.db c.revert.result c.revert.ensures.reverts.reverts)
    (revert_named c.args.self.now c.revert.new.self g.D.Disk.told g.D.Disk.shown c.in-Revert.db c.revert.result c.revert.ensures.others.writes c.revert.ensures.reverts) c.revert.ensures.steps)

-- ---- Look

pub returns-in-Look-clause-client : goal.returns-in-Look-clause-client
returns-in-Look-clause-client g c = c.requires.client

pub returns-in-Look-clause-same : goal.returns-in-Look-clause-same
returns-in-Look-clause-same g c = same_as c.args.self.now c.args.self.now c.args.ask (ask.Look c.in-Look.txn c.in-Look.page) c.in-Look.is refl refl refl

pub returns-in-Look-clause-asks : goal.returns-in-Look-clause-asks
returns-in-Look-clause-asks g c =
    as_asked c.args.ask (ask.Look c.in-Look.txn c.in-Look.page) c.in-Look.is
    (locally_ask g.D.Disk.told g.D.Disk.shown g.S.Store.told (g.S.Store.shown c.args.outside.now.store) (g.N.Names.shown c.args.outside.now.names) (g.C.Clock.shown c.args.outside.now.clock) c.args.self.now c.args.self.now c.look_copied.result (ask.Look c.in-Look.txn c.in-Look.page) refl refl (no_names c.look_copied.result c.look_copied.ensures.inside) (includes_all (mine_of (parts_of c.args.self.now))) c.look_copied.ensures.machine)

-- ---- List

pub returns-in-List-clause-client : goal.returns-in-List-clause-client
returns-in-List-clause-client g c = c.requires.client

pub returns-in-List-clause-same : goal.returns-in-List-clause-same
returns-in-List-clause-same g c = same_as c.args.self.now c.args.self.now c.args.ask (ask.List) c.in-List.is refl refl refl

pub returns-in-List-clause-asks : goal.returns-in-List-clause-asks
returns-in-List-clause-asks g c =
    as_asked c.args.ask (ask.List) c.in-List.is
    (locally_ask g.D.Disk.told g.D.Disk.shown g.S.Store.told (g.S.Store.shown c.args.outside.now.store) (g.N.Names.shown c.args.outside.now.names) (g.C.Clock.shown c.args.outside.now.clock) c.args.self.now c.args.self.now c.list.result (ask.List) refl refl (no_names c.list.result (list_inside c.args.self.now.ledger.databases c.list.result c.list.ensures.table)) (includes_all (mine_of (parts_of c.args.self.now))) c.list.ensures.steps)

-- ---- Create

pub returns-in-Create-clause-client : goal.returns-in-Create-clause-client
returns-in-Create-clause-client g c =
    let only = publication_only g.D.Disk.shown _ c.args.self.now c.start_create.new.self (g.N.Names.shown c.args.outside.now.names) (g.N.Names.shown c.start_create.new.names) _ _ c.start_create.result c.start_create.ensures.starts in
    record { form = c.start_create.ensures.form; read = read_still c.args.self.now.seen _ c.args.self.now.latest _ only.seen only.latest c.requires.client.read }

pub returns-in-Create-clause-same : goal.returns-in-Create-clause-same
returns-in-Create-clause-same g c =
    let only = publication_only g.D.Disk.shown _ c.args.self.now c.start_create.new.self (g.N.Names.shown c.args.outside.now.names) (g.N.Names.shown c.start_create.new.names) _ _ c.start_create.result c.start_create.ensures.starts in
    same_as c.args.self.now c.start_create.new.self c.args.ask (ask.Create c.in-Create.block c.in-Create.retention) c.in-Create.is only.id only.taken (ap (λ (o : Open). o.slots) only.txns)

pub returns-in-Create-clause-asks : goal.returns-in-Create-clause-asks
returns-in-Create-clause-asks g c =
    as_asked c.args.ask (ask.Create c.in-Create.block c.in-Create.retention) c.in-Create.is
    (starts_ask g.D.Disk.told g.D.Disk.shown g.S.Store.told (g.S.Store.shown c.args.outside.now.store) (g.N.Names.shown c.args.outside.now.names) (g.N.Names.shown c.start_create.new.names) (g.C.Clock.shown c.args.outside.now.clock) c.args.self.now c.start_create.new.self (m.Creating c.in-Create.block c.in-Create.retention) _ (ask.Create c.in-Create.block c.in-Create.retention) c.start_create.result refl c.start_create.ensures.starts
    (λ id. includes_all (id ∷ [])))

-- ---- NewDb

pub returns-in-NewDb-clause-client : goal.returns-in-NewDb-clause-client
returns-in-NewDb-clause-client g c =
    let only = publication_only g.D.Disk.shown _ c.args.self.now c.start_copy.new.self (g.N.Names.shown c.args.outside.now.names) (g.N.Names.shown c.start_copy.new.names) _ _ c.start_copy.result c.start_copy.ensures.starts in
    record { form = c.start_copy.ensures.form; read = read_still c.args.self.now.seen _ c.args.self.now.latest _ only.seen only.latest c.requires.client.read }

pub returns-in-NewDb-clause-same : goal.returns-in-NewDb-clause-same
returns-in-NewDb-clause-same g c =
    let only = publication_only g.D.Disk.shown _ c.args.self.now c.start_copy.new.self (g.N.Names.shown c.args.outside.now.names) (g.N.Names.shown c.start_copy.new.names) _ _ c.start_copy.result c.start_copy.ensures.starts in
    same_as c.args.self.now c.start_copy.new.self c.args.ask (ask.NewDb c.in-NewDb.name c.in-NewDb.page_size c.in-NewDb.pages) c.in-NewDb.is only.id only.taken (ap (λ (o : Open). o.slots) only.txns)

pub returns-in-NewDb-clause-asks : goal.returns-in-NewDb-clause-asks
returns-in-NewDb-clause-asks g c =
    as_asked c.args.ask (ask.NewDb c.in-NewDb.name c.in-NewDb.page_size c.in-NewDb.pages) c.in-NewDb.is
    (starts_ask g.D.Disk.told g.D.Disk.shown g.S.Store.told (g.S.Store.shown c.args.outside.now.store) (g.N.Names.shown c.args.outside.now.names) (g.N.Names.shown c.start_copy.new.names) (g.C.Clock.shown c.args.outside.now.clock) c.args.self.now c.start_copy.new.self (m.Making c.in-NewDb.name c.in-NewDb.page_size c.in-NewDb.pages) _ (ask.NewDb c.in-NewDb.name c.in-NewDb.page_size c.in-NewDb.pages) c.start_copy.result refl c.start_copy.ensures.starts
    (λ id. includes_all (id ∷ [])))

-- ---- Upload

pub returns-in-Upload-clause-client : goal.returns-in-Upload-clause-client
returns-in-Upload-clause-client g c =
    let only = publication_only g.D.Disk.shown _ c.args.self.now c.start_upload.new.self (g.N.Names.shown c.args.outside.now.names) (g.N.Names.shown c.start_upload.new.names) _ _ c.start_upload.result c.start_upload.ensures.starts in
    record { form = c.start_upload.ensures.form; read = read_still c.args.self.now.seen _ c.args.self.now.latest _ only.seen only.latest c.requires.client.read }

pub returns-in-Upload-clause-same : goal.returns-in-Upload-clause-same
returns-in-Upload-clause-same g c =
    let only = publication_only g.D.Disk.shown _ c.args.self.now c.start_upload.new.self (g.N.Names.shown c.args.outside.now.names) (g.N.Names.shown c.start_upload.new.names) _ _ c.start_upload.result c.start_upload.ensures.starts in
    same_as c.args.self.now c.start_upload.new.self c.args.ask (ask.Upload c.in-Upload.db) c.in-Upload.is only.id only.taken (ap (λ (o : Open). o.slots) only.txns)

pub returns-in-Upload-clause-asks : goal.returns-in-Upload-clause-asks
returns-in-Upload-clause-asks g c =
    as_asked c.args.ask (ask.Upload c.in-Upload.db) c.in-Upload.is
    (starts_ask g.D.Disk.told g.D.Disk.shown g.S.Store.told (g.S.Store.shown c.args.outside.now.store) (g.N.Names.shown c.args.outside.now.names) (g.N.Names.shown c.start_upload.new.names) (g.C.Clock.shown c.args.outside.now.clock) c.args.self.now c.start_upload.new.self (upload_of (seen_kept c.args.self.now.ledger.databases.kept) c.in-Upload.db) _ (ask.Upload c.in-Upload.db) c.start_upload.result refl c.start_upload.ensures.starts
    (λ id. upload_named c.args.self.now.ledger.databases c.args.self.now.id (found_at c.args.self.now.ledger.databases c.in-Upload.db) id))

-- ---- Copy

pub returns-in-Copy-clause-client : goal.returns-in-Copy-clause-client
returns-in-Copy-clause-client g c =
    let only = publication_only g.D.Disk.shown _ c.args.self.now c.start_copy-in-Copy.new.self (g.N.Names.shown c.args.outside.now.names) (g.N.Names.shown c.start_copy-in-Copy.new.names) _ _ c.start_copy-in-Copy.result c.start_copy-in-Copy.ensures.starts in
    record { form = c.start_copy-in-Copy.ensures.form; read = read_still c.args.self.now.seen _ c.args.self.now.latest _ only.seen only.latest c.requires.client.read }

pub returns-in-Copy-clause-same : goal.returns-in-Copy-clause-same
returns-in-Copy-clause-same g c =
    let only = publication_only g.D.Disk.shown _ c.args.self.now c.start_copy-in-Copy.new.self (g.N.Names.shown c.args.outside.now.names) (g.N.Names.shown c.start_copy-in-Copy.new.names) _ _ c.start_copy-in-Copy.result c.start_copy-in-Copy.ensures.starts in
    same_as c.args.self.now c.start_copy-in-Copy.new.self c.args.ask (ask.Copy c.in-Copy.from c.in-Copy.to) c.in-Copy.is only.id only.taken (ap (λ (o : Open). o.slots) only.txns)

pub returns-in-Copy-clause-asks : goal.returns-in-Copy-clause-asks
returns-in-Copy-clause-asks g c =
    as_asked c.args.ask (ask.Copy c.in-Copy.from c.in-Copy.to) c.in-Copy.is
    (starts_ask g.D.Disk.told g.D.Disk.shown g.S.Store.told (g.S.Store.shown c.args.outside.now.store) (g.N.Names.shown c.args.outside.now.names) (g.N.Names.shown c.start_copy-in-Copy.new.names) (g.C.Clock.shown c.args.outside.now.clock) c.args.self.now c.start_copy-in-Copy.new.self (m.Copying c.in-Copy.from c.in-Copy.to) _ (ask.Copy c.in-Copy.from c.in-Copy.to) c.start_copy-in-Copy.result refl c.start_copy-in-Copy.ensures.starts
    (λ id. includes_all (id ∷ [])))

-- ---- Remove

pub returns-in-Remove-clause-client : goal.returns-in-Remove-clause-client
returns-in-Remove-clause-client g c =
    let only = publication_only g.D.Disk.shown _ c.args.self.now c.start_copy-in-Remove.new.self (g.N.Names.shown c.args.outside.now.names) (g.N.Names.shown c.start_copy-in-Remove.new.names) _ _ c.start_copy-in-Remove.result c.start_copy-in-Remove.ensures.starts in
    record { form = c.start_copy-in-Remove.ensures.form; read = read_still c.args.self.now.seen _ c.args.self.now.latest _ only.seen only.latest c.requires.client.read }

pub returns-in-Remove-clause-same : goal.returns-in-Remove-clause-same
returns-in-Remove-clause-same g c =
    let only = publication_only g.D.Disk.shown _ c.args.self.now c.start_copy-in-Remove.new.self (g.N.Names.shown c.args.outside.now.names) (g.N.Names.shown c.start_copy-in-Remove.new.names) _ _ c.start_copy-in-Remove.result c.start_copy-in-Remove.ensures.starts in
    same_as c.args.self.now c.start_copy-in-Remove.new.self c.args.ask (ask.Remove c.in-Remove.name) c.in-Remove.is only.id only.taken (ap (λ (o : Open). o.slots) only.txns)

pub returns-in-Remove-clause-asks : goal.returns-in-Remove-clause-asks
returns-in-Remove-clause-asks g c =
    as_asked c.args.ask (ask.Remove c.in-Remove.name) c.in-Remove.is
    (starts_ask g.D.Disk.told g.D.Disk.shown g.S.Store.told (g.S.Store.shown c.args.outside.now.store) (g.N.Names.shown c.args.outside.now.names) (g.N.Names.shown c.start_copy-in-Remove.new.names) (g.C.Clock.shown c.args.outside.now.clock) c.args.self.now c.start_copy-in-Remove.new.self (m.Removing c.in-Remove.name) _ (ask.Remove c.in-Remove.name) c.start_copy-in-Remove.result refl c.start_copy-in-Remove.ensures.starts
    (λ id. includes_all (id ∷ [])))

-- ---- Poll

pub returns-in-Poll-clause-client : goal.returns-in-Poll-clause-client
returns-in-Poll-clause-client g c =
    let only = c.start_poll.ensures.starts.only in
    record { form = c.start_poll.ensures.form; read = read_still c.args.self.now.seen _ c.args.self.now.latest _ only.seen only.latest c.requires.client.read }

pub returns-in-Poll-clause-same : goal.returns-in-Poll-clause-same
returns-in-Poll-clause-same g c =
    let only = c.start_poll.ensures.starts.only in
    same_as c.args.self.now c.start_poll.new.self c.args.ask (ask.Poll) c.in-Poll.is only.id only.taken (ap (λ (o : Open). o.slots) only.txns)

pub returns-in-Poll-clause-asks : goal.returns-in-Poll-clause-asks
returns-in-Poll-clause-asks g c =
    as_asked c.args.ask (ask.Poll) c.in-Poll.is
    (locally_ask g.D.Disk.told g.D.Disk.shown g.S.Store.told (g.S.Store.shown c.args.outside.now.store) (g.N.Names.shown c.args.outside.now.names) (g.C.Clock.shown c.args.outside.now.clock) c.args.self.now c.start_poll.new.self c.start_poll.result (ask.Poll) refl refl
    (no_names c.start_poll.result (task_inside c.args.self.now c.start_poll.new.self job.Poll 1 c.start_poll.result c.start_poll.ensures.starts))
    (poll_named c.args.self.now c.start_poll.new.self c.start_poll.result c.start_poll.ensures.starts) c.start_poll.ensures.steps)

-- ---- Cleanup

pub returns-in-Cleanup-clause-client : goal.returns-in-Cleanup-clause-client
returns-in-Cleanup-clause-client g c =
    let only = publication_only g.D.Disk.shown _ c.args.self.now c.start_cleanup.new.self (g.N.Names.shown c.args.outside.now.names) (g.N.Names.shown c.start_cleanup.new.names) _ _ c.start_cleanup.result c.start_cleanup.ensures.starts in
    record { form = c.start_cleanup.ensures.form; read = read_still c.args.self.now.seen _ c.args.self.now.latest _ only.seen only.latest c.requires.client.read }

pub returns-in-Cleanup-clause-same : goal.returns-in-Cleanup-clause-same
returns-in-Cleanup-clause-same g c =
    let only = publication_only g.D.Disk.shown _ c.args.self.now c.start_cleanup.new.self (g.N.Names.shown c.args.outside.now.names) (g.N.Names.shown c.start_cleanup.new.names) _ _ c.start_cleanup.result c.start_cleanup.ensures.starts in
    same_as c.args.self.now c.start_cleanup.new.self c.args.ask (ask.Cleanup) c.in-Cleanup.is only.id only.taken (ap (λ (o : Open). o.slots) only.txns)

pub returns-in-Cleanup-clause-asks : goal.returns-in-Cleanup-clause-asks
returns-in-Cleanup-clause-asks g c =
    as_asked c.args.ask (ask.Cleanup) c.in-Cleanup.is
    (starts_ask g.D.Disk.told g.D.Disk.shown g.S.Store.told (g.S.Store.shown c.args.outside.now.store) (g.N.Names.shown c.args.outside.now.names) (g.N.Names.shown c.start_cleanup.new.names) (g.C.Clock.shown c.args.outside.now.clock) c.args.self.now c.start_cleanup.new.self (m.Cleaning) _ (ask.Cleanup) c.start_cleanup.result refl c.start_cleanup.ensures.starts
    (λ id. includes_all (id ∷ [])))

-- ---- Resolve

pub returns-in-Resolve-clause-client : goal.returns-in-Resolve-clause-client
returns-in-Resolve-clause-client g c =
    let only = unless_only c.args.self.now c.start_resolve.new.self (resolve_reason (parts_of c.args.self.now)) job.Resolve 1 c.start_resolve.result c.start_resolve.ensures.starts in
    record { form = c.start_resolve.ensures.form; read = read_still c.args.self.now.seen _ c.args.self.now.latest _ only.seen only.latest c.requires.client.read }

pub returns-in-Resolve-clause-same : goal.returns-in-Resolve-clause-same
returns-in-Resolve-clause-same g c =
    let only = unless_only c.args.self.now c.start_resolve.new.self (resolve_reason (parts_of c.args.self.now)) job.Resolve 1 c.start_resolve.result c.start_resolve.ensures.starts in
    same_as c.args.self.now c.start_resolve.new.self c.args.ask (ask.Resolve) c.in-Resolve.is only.id only.taken (ap (λ (o : Open). o.slots) only.txns)

pub returns-in-Resolve-clause-asks : goal.returns-in-Resolve-clause-asks
returns-in-Resolve-clause-asks g c =
    as_asked c.args.ask (ask.Resolve) c.in-Resolve.is
    (locally_ask g.D.Disk.told g.D.Disk.shown g.S.Store.told (g.S.Store.shown c.args.outside.now.store) (g.N.Names.shown c.args.outside.now.names) (g.C.Clock.shown c.args.outside.now.clock) c.args.self.now c.start_resolve.new.self c.start_resolve.result (ask.Resolve) refl refl
    (no_names c.start_resolve.result (resolve_inside c.args.self.now c.start_resolve.new.self job.Resolve c.start_resolve.result c.start_resolve.ensures.starts))
    (resolve_named c.args.self.now c.start_resolve.new.self c.start_resolve.result c.start_resolve.ensures.starts) c.start_resolve.ensures.steps)

-- ---- Step

pub returns-in-Step-clause-client : goal.returns-in-Step-clause-client
returns-in-Step-clause-client g c = c.step.ensures.client

pub returns-in-Step-clause-same : goal.returns-in-Step-clause-same
returns-in-Step-clause-same g c = same_as c.args.self.now c.step.new.self c.args.ask (ask.Step c.in-Step.task) c.in-Step.is c.step.ensures.same.id c.step.ensures.same.taken c.step.ensures.same.slots

pub returns-in-Step-clause-asks : goal.returns-in-Step-clause-asks
returns-in-Step-clause-asks g c =
    as_asked c.args.ask (ask.Step c.in-Step.task) c.in-Step.is
    (step_ask g.D.Disk.told g.D.Disk.shown g.S.Store.told (g.S.Store.shown c.args.outside.now.store) (g.S.Store.shown c.step.new.outside.store) (g.N.Names.shown c.args.outside.now.names) (g.N.Names.shown c.step.new.outside.names) (g.C.Clock.shown c.args.outside.now.clock) (g.C.Clock.shown c.step.new.outside.clock) c.args.self.now c.step.new.self c.in-Step.task c.step.result c.step.ensures.steps)

-- ---- what a crash leaves

pub returns-in-Begin-clause-falls : goal.returns-in-Begin-clause-falls
returns-in-Begin-clause-falls g c =
    unmoved_falls g.D.Disk.told g.D.Disk.shown g.S.Store.told (g.S.Store.shown c.args.outside.now.store) c.args.self.now c.begin.new.self (g.N.Names.shown c.args.outside.now.names) c.begin.ensures.only.id c.begin.ensures.only.log

pub returns-in-Read-clause-falls : goal.returns-in-Read-clause-falls
returns-in-Read-clause-falls g c =
    unmoved_falls g.D.Disk.told g.D.Disk.shown g.S.Store.told (g.S.Store.shown c.args.outside.now.store) c.args.self.now c.read.new.self (g.N.Names.shown c.args.outside.now.names) c.read.ensures.only.id (ap (λ (l : Ledger g.row.D.Denot g.D.Disk). l.log) c.read.ensures.only.ledger)

pub returns-in-Hold-clause-falls : goal.returns-in-Hold-clause-falls
returns-in-Hold-clause-falls g c =
    unmoved_falls g.D.Disk.told g.D.Disk.shown g.S.Store.told (g.S.Store.shown c.args.outside.now.store) c.args.self.now c.hold.new.self (g.N.Names.shown c.args.outside.now.names) c.hold.ensures.only.id (ap (λ (l : Ledger g.row.D.Denot g.D.Disk). l.log) c.hold.ensures.only.ledger)

pub returns-in-Look-clause-falls : goal.returns-in-Look-clause-falls
returns-in-Look-clause-falls g c =
    unmoved_falls g.D.Disk.told g.D.Disk.shown g.S.Store.told (g.S.Store.shown c.args.outside.now.store) c.args.self.now c.args.self.now (g.N.Names.shown c.args.outside.now.names) refl refl

pub returns-in-Free-clause-falls : goal.returns-in-Free-clause-falls
returns-in-Free-clause-falls g c =
    unmoved_falls g.D.Disk.told g.D.Disk.shown g.S.Store.told (g.S.Store.shown c.args.outside.now.store) c.args.self.now c.free.new.self (g.N.Names.shown c.args.outside.now.names) c.free.ensures.only.reading.id (ap (λ (l : Ledger g.row.D.Denot g.D.Disk). l.log) c.free.ensures.only.reading.ledger)

pub returns-in-End-clause-falls : goal.returns-in-End-clause-falls
returns-in-End-clause-falls g c =
    unmoved_falls g.D.Disk.told g.D.Disk.shown g.S.Store.told (g.S.Store.shown c.args.outside.now.store) c.args.self.now c.end.new.self (g.N.Names.shown c.args.outside.now.names) c.end.ensures.ledger.id c.end.ensures.ledger.log

pub returns-in-Commit-clause-falls : goal.returns-in-Commit-clause-falls
returns-in-Commit-clause-falls g c =
    noting_falls g.D.Disk.told g.D.Disk.shown g.S.Store.told (g.S.Store.shown c.args.outside.now.store) c.args.self.now c.commit.new.self (g.N.Names.shown c.args.outside.now.names) c.commit.ensures.falls

pub returns-in-Revert-clause-falls : goal.returns-in-Revert-clause-falls
returns-in-Revert-clause-falls g c =
    noting_falls g.D.Disk.told g.D.Disk.shown g.S.Store.told (g.S.Store.shown c.args.outside.now.store) c.args.self.now c.revert.new.self (g.N.Names.shown c.args.outside.now.names) c.revert.ensures.falls

pub returns-in-List-clause-falls : goal.returns-in-List-clause-falls
returns-in-List-clause-falls g c =
    unmoved_falls g.D.Disk.told g.D.Disk.shown g.S.Store.told (g.S.Store.shown c.args.outside.now.store) c.args.self.now c.args.self.now (g.N.Names.shown c.args.outside.now.names) refl refl

pub returns-in-Create-clause-falls : goal.returns-in-Create-clause-falls
returns-in-Create-clause-falls g c =
    let only = publication_only g.D.Disk.shown _ c.args.self.now c.start_create.new.self (g.N.Names.shown c.args.outside.now.names) (g.N.Names.shown c.start_create.new.names) _ _ c.start_create.result c.start_create.ensures.starts in
    ask_falls g.D.Disk.told g.D.Disk.shown g.S.Store.told (g.S.Store.shown c.args.outside.now.store) c.args.self.now c.start_create.new.self (g.N.Names.shown c.args.outside.now.names) (g.N.Names.shown c.start_create.new.names) (g.C.Clock.shown c.args.outside.now.clock) (g.C.Clock.shown c.args.outside.now.clock) c.args.ask c.start_create.result (returns-in-Create-clause-asks g c) only.id (ap (λ (l : Ledger g.row.D.Denot g.D.Disk). l.log) only.ledger)

pub returns-in-NewDb-clause-falls : goal.returns-in-NewDb-clause-falls
returns-in-NewDb-clause-falls g c =
    let only = publication_only g.D.Disk.shown _ c.args.self.now c.start_copy.new.self (g.N.Names.shown c.args.outside.now.names) (g.N.Names.shown c.start_copy.new.names) _ _ c.start_copy.result c.start_copy.ensures.starts in
    ask_falls g.D.Disk.told g.D.Disk.shown g.S.Store.told (g.S.Store.shown c.args.outside.now.store) c.args.self.now c.start_copy.new.self (g.N.Names.shown c.args.outside.now.names) (g.N.Names.shown c.start_copy.new.names) (g.C.Clock.shown c.args.outside.now.clock) (g.C.Clock.shown c.args.outside.now.clock) c.args.ask c.start_copy.result (returns-in-NewDb-clause-asks g c) only.id (ap (λ (l : Ledger g.row.D.Denot g.D.Disk). l.log) only.ledger)

pub returns-in-Upload-clause-falls : goal.returns-in-Upload-clause-falls
returns-in-Upload-clause-falls g c =
    let only = publication_only g.D.Disk.shown _ c.args.self.now c.start_upload.new.self (g.N.Names.shown c.args.outside.now.names) (g.N.Names.shown c.start_upload.new.names) _ _ c.start_upload.result c.start_upload.ensures.starts in
    ask_falls g.D.Disk.told g.D.Disk.shown g.S.Store.told (g.S.Store.shown c.args.outside.now.store) c.args.self.now c.start_upload.new.self (g.N.Names.shown c.args.outside.now.names) (g.N.Names.shown c.start_upload.new.names) (g.C.Clock.shown c.args.outside.now.clock) (g.C.Clock.shown c.args.outside.now.clock) c.args.ask c.start_upload.result (returns-in-Upload-clause-asks g c) only.id (ap (λ (l : Ledger g.row.D.Denot g.D.Disk). l.log) only.ledger)

pub returns-in-Copy-clause-falls : goal.returns-in-Copy-clause-falls
returns-in-Copy-clause-falls g c =
    let only = publication_only g.D.Disk.shown _ c.args.self.now c.start_copy-in-Copy.new.self (g.N.Names.shown c.args.outside.now.names) (g.N.Names.shown c.start_copy-in-Copy.new.names) _ _ c.start_copy-in-Copy.result c.start_copy-in-Copy.ensures.starts in
    ask_falls g.D.Disk.told g.D.Disk.shown g.S.Store.told (g.S.Store.shown c.args.outside.now.store) c.args.self.now c.start_copy-in-Copy.new.self (g.N.Names.shown c.args.outside.now.names) (g.N.Names.shown c.start_copy-in-Copy.new.names) (g.C.Clock.shown c.args.outside.now.clock) (g.C.Clock.shown c.args.outside.now.clock) c.args.ask c.start_copy-in-Copy.result (returns-in-Copy-clause-asks g c) only.id (ap (λ (l : Ledger g.row.D.Denot g.D.Disk). l.log) only.ledger)

pub returns-in-Remove-clause-falls : goal.returns-in-Remove-clause-falls
returns-in-Remove-clause-falls g c =
    let only = publication_only g.D.Disk.shown _ c.args.self.now c.start_copy-in-Remove.new.self (g.N.Names.shown c.args.outside.now.names) (g.N.Names.shown c.start_copy-in-Remove.new.names) _ _ c.start_copy-in-Remove.result c.start_copy-in-Remove.ensures.starts in
    ask_falls g.D.Disk.told g.D.Disk.shown g.S.Store.told (g.S.Store.shown c.args.outside.now.store) c.args.self.now c.start_copy-in-Remove.new.self (g.N.Names.shown c.args.outside.now.names) (g.N.Names.shown c.start_copy-in-Remove.new.names) (g.C.Clock.shown c.args.outside.now.clock) (g.C.Clock.shown c.args.outside.now.clock) c.args.ask c.start_copy-in-Remove.result (returns-in-Remove-clause-asks g c) only.id (ap (λ (l : Ledger g.row.D.Denot g.D.Disk). l.log) only.ledger)

pub returns-in-Cleanup-clause-falls : goal.returns-in-Cleanup-clause-falls
returns-in-Cleanup-clause-falls g c =
    let only = publication_only g.D.Disk.shown _ c.args.self.now c.start_cleanup.new.self (g.N.Names.shown c.args.outside.now.names) (g.N.Names.shown c.start_cleanup.new.names) _ _ c.start_cleanup.result c.start_cleanup.ensures.starts in
    ask_falls g.D.Disk.told g.D.Disk.shown g.S.Store.told (g.S.Store.shown c.args.outside.now.store) c.args.self.now c.start_cleanup.new.self (g.N.Names.shown c.args.outside.now.names) (g.N.Names.shown c.start_cleanup.new.names) (g.C.Clock.shown c.args.outside.now.clock) (g.C.Clock.shown c.args.outside.now.clock) c.args.ask c.start_cleanup.result (returns-in-Cleanup-clause-asks g c) only.id (ap (λ (l : Ledger g.row.D.Denot g.D.Disk). l.log) only.ledger)

pub returns-in-Poll-clause-falls : goal.returns-in-Poll-clause-falls
returns-in-Poll-clause-falls g c =
    unmoved_falls g.D.Disk.told g.D.Disk.shown g.S.Store.told (g.S.Store.shown c.args.outside.now.store) c.args.self.now c.start_poll.new.self (g.N.Names.shown c.args.outside.now.names) c.start_poll.ensures.starts.only.id (ap (λ (l : Ledger g.row.D.Denot g.D.Disk). l.log) c.start_poll.ensures.starts.only.ledger)

pub returns-in-Resolve-clause-falls : goal.returns-in-Resolve-clause-falls
returns-in-Resolve-clause-falls g c =
    let only = unless_only c.args.self.now c.start_resolve.new.self (resolve_reason (parts_of c.args.self.now)) job.Resolve 1 c.start_resolve.result c.start_resolve.ensures.starts in
    unmoved_falls g.D.Disk.told g.D.Disk.shown g.S.Store.told (g.S.Store.shown c.args.outside.now.store) c.args.self.now c.start_resolve.new.self (g.N.Names.shown c.args.outside.now.names) only.id (ap (λ (l : Ledger g.row.D.Denot g.D.Disk). l.log) only.ledger)

pub returns-in-Step-clause-falls : goal.returns-in-Step-clause-falls
returns-in-Step-clause-falls g c =
    c.step.ensures.falls

-- ---- its faults

pub returns-in-Begin-clause-disk : goal.returns-in-Begin-clause-disk
returns-in-Begin-clause-disk g c =
    quiet_disk g.D.Disk.told g.D.Disk.shown c.args.self.now c.begin.new.self c.begin.result c.begin.ensures.only.log
    (no_disk c.begin.result (begin_inside c.args.self.now c.begin.new.self _ c.begin.result c.begin.ensures.begins))

pub returns-in-Begin-clause-causes : goal.returns-in-Begin-clause-causes
returns-in-Begin-clause-causes g c =
    no_causes (g.S.Store.shown c.args.outside.now.store) (g.S.Store.shown c.args.outside.now.store) (g.N.Names.shown c.args.outside.now.names) (g.N.Names.shown c.args.outside.now.names) (g.C.Clock.shown c.args.outside.now.clock) (g.C.Clock.shown c.args.outside.now.clock) c.begin.result
    (begin_inside c.args.self.now c.begin.new.self _ c.begin.result c.begin.ensures.begins)

pub returns-in-Read-clause-disk : goal.returns-in-Read-clause-disk
returns-in-Read-clause-disk g c =
    quiet_disk g.D.Disk.told g.D.Disk.shown c.args.self.now c.read.new.self c.read.result (ap (λ (l : Ledger _ _). l.log) c.read.ensures.only.ledger)
    (no_disk c.read.result (page_inside m.ToRead c.args.self.now c.read.new.self c.in-Read.txn c.in-Read.page (job.Fetch access.ToRead c.in-Read.txn c.in-Read.page) c.read.result c.read.ensures.asks))

pub returns-in-Read-clause-causes : goal.returns-in-Read-clause-causes
returns-in-Read-clause-causes g c =
    no_causes (g.S.Store.shown c.args.outside.now.store) (g.S.Store.shown c.args.outside.now.store) (g.N.Names.shown c.args.outside.now.names) (g.N.Names.shown c.args.outside.now.names) (g.C.Clock.shown c.args.outside.now.clock) (g.C.Clock.shown c.args.outside.now.clock) c.read.result
    (page_inside m.ToRead c.args.self.now c.read.new.self c.in-Read.txn c.in-Read.page (job.Fetch access.ToRead c.in-Read.txn c.in-Read.page) c.read.result c.read.ensures.asks)

pub returns-in-Hold-clause-disk : goal.returns-in-Hold-clause-disk
returns-in-Hold-clause-disk g c =
    quiet_disk g.D.Disk.told g.D.Disk.shown c.args.self.now c.hold.new.self c.hold.result (ap (λ (l : Ledger _ _). l.log) c.hold.ensures.only.ledger)
    (no_disk c.hold.result (page_inside m.ToHold c.args.self.now c.hold.new.self c.in-Hold.txn c.in-Hold.page (job.Fetch access.ToHold c.in-Hold.txn c.in-Hold.page) c.hold.result c.hold.ensures.asks))

pub returns-in-Hold-clause-causes : goal.returns-in-Hold-clause-causes
returns-in-Hold-clause-causes g c =
    no_causes (g.S.Store.shown c.args.outside.now.store) (g.S.Store.shown c.args.outside.now.store) (g.N.Names.shown c.args.outside.now.names) (g.N.Names.shown c.args.outside.now.names) (g.C.Clock.shown c.args.outside.now.clock) (g.C.Clock.shown c.args.outside.now.clock) c.hold.result
    (page_inside m.ToHold c.args.self.now c.hold.new.self c.in-Hold.txn c.in-Hold.page (job.Fetch access.ToHold c.in-Hold.txn c.in-Hold.page) c.hold.result c.hold.ensures.asks)

pub returns-in-Free-clause-disk : goal.returns-in-Free-clause-disk
returns-in-Free-clause-disk g c =
    quiet_disk g.D.Disk.told g.D.Disk.shown c.args.self.now c.free.new.self c.free.result (ap (λ (l : Ledger _ _). l.log) c.free.ensures.only.reading.ledger)
    (no_disk c.free.result (freed_inside c.free.ensures.frees.how c.free.result c.free.ensures.frees.answers))

pub returns-in-Free-clause-causes : goal.returns-in-Free-clause-causes
returns-in-Free-clause-causes g c =
    no_causes (g.S.Store.shown c.args.outside.now.store) (g.S.Store.shown c.args.outside.now.store) (g.N.Names.shown c.args.outside.now.names) (g.N.Names.shown c.args.outside.now.names) (g.C.Clock.shown c.args.outside.now.clock) (g.C.Clock.shown c.args.outside.now.clock) c.free.result
    (freed_inside c.free.ensures.frees.how c.free.result c.free.ensures.frees.answers)

pub returns-in-End-clause-disk : goal.returns-in-End-clause-disk
returns-in-End-clause-disk g c =
    quiet_disk g.D.Disk.told g.D.Disk.shown c.args.self.now c.end.new.self c.end.result c.end.ensures.ledger.log
    (no_disk c.end.result (end_inside c.args.self.now c.end.new.self c.in-End.txn (set_in c.in-End.txn c.args.self.now.txns.txns) c.end.result c.end.ensures.ends))

pub returns-in-End-clause-causes : goal.returns-in-End-clause-causes
returns-in-End-clause-causes g c =
    no_causes (g.S.Store.shown c.args.outside.now.store) (g.S.Store.shown c.args.outside.now.store) (g.N.Names.shown c.args.outside.now.names) (g.N.Names.shown c.args.outside.now.names) (g.C.Clock.shown c.args.outside.now.clock) (g.C.Clock.shown c.args.outside.now.clock) c.end.result
    (end_inside c.args.self.now c.end.new.self c.in-End.txn (set_in c.in-End.txn c.args.self.now.txns.txns) c.end.result c.end.ensures.ends)

pub returns-in-Look-clause-disk : goal.returns-in-Look-clause-disk
returns-in-Look-clause-disk g c =
    quiet_disk g.D.Disk.told g.D.Disk.shown c.args.self.now c.args.self.now c.look_copied.result refl
    (no_disk c.look_copied.result c.look_copied.ensures.inside)

pub returns-in-Look-clause-causes : goal.returns-in-Look-clause-causes
returns-in-Look-clause-causes g c =
    no_causes (g.S.Store.shown c.args.outside.now.store) (g.S.Store.shown c.args.outside.now.store) (g.N.Names.shown c.args.outside.now.names) (g.N.Names.shown c.args.outside.now.names) (g.C.Clock.shown c.args.outside.now.clock) (g.C.Clock.shown c.args.outside.now.clock) c.look_copied.result
    c.look_copied.ensures.inside

pub returns-in-List-clause-disk : goal.returns-in-List-clause-disk
returns-in-List-clause-disk g c =
    quiet_disk g.D.Disk.told g.D.Disk.shown c.args.self.now c.args.self.now c.list.result refl
    (no_disk c.list.result (list_inside c.args.self.now.ledger.databases c.list.result c.list.ensures.table))

pub returns-in-List-clause-causes : goal.returns-in-List-clause-causes
returns-in-List-clause-causes g c =
    no_causes (g.S.Store.shown c.args.outside.now.store) (g.S.Store.shown c.args.outside.now.store) (g.N.Names.shown c.args.outside.now.names) (g.N.Names.shown c.args.outside.now.names) (g.C.Clock.shown c.args.outside.now.clock) (g.C.Clock.shown c.args.outside.now.clock) c.list.result
    (list_inside c.args.self.now.ledger.databases c.list.result c.list.ensures.table)

pub returns-in-Poll-clause-disk : goal.returns-in-Poll-clause-disk
returns-in-Poll-clause-disk g c =
    quiet_disk g.D.Disk.told g.D.Disk.shown c.args.self.now c.start_poll.new.self c.start_poll.result (ap (λ (l : Ledger _ _). l.log) c.start_poll.ensures.starts.only.ledger)
    (no_disk c.start_poll.result (task_inside c.args.self.now c.start_poll.new.self job.Poll 1 c.start_poll.result c.start_poll.ensures.starts))

pub returns-in-Poll-clause-causes : goal.returns-in-Poll-clause-causes
returns-in-Poll-clause-causes g c =
    no_causes (g.S.Store.shown c.args.outside.now.store) (g.S.Store.shown c.args.outside.now.store) (g.N.Names.shown c.args.outside.now.names) (g.N.Names.shown c.args.outside.now.names) (g.C.Clock.shown c.args.outside.now.clock) (g.C.Clock.shown c.args.outside.now.clock) c.start_poll.result
    (task_inside c.args.self.now c.start_poll.new.self job.Poll 1 c.start_poll.result c.start_poll.ensures.starts)

pub returns-in-Resolve-clause-disk : goal.returns-in-Resolve-clause-disk
returns-in-Resolve-clause-disk g c =
    quiet_disk g.D.Disk.told g.D.Disk.shown c.args.self.now c.start_resolve.new.self c.start_resolve.result (ap (λ (l : Ledger _ _). l.log) (unless_only c.args.self.now c.start_resolve.new.self (resolve_reason (parts_of c.args.self.now)) job.Resolve 1 c.start_resolve.result c.start_resolve.ensures.starts).ledger)
    (no_disk c.start_resolve.result (resolve_inside c.args.self.now c.start_resolve.new.self job.Resolve c.start_resolve.result c.start_resolve.ensures.starts))

pub returns-in-Resolve-clause-causes : goal.returns-in-Resolve-clause-causes
returns-in-Resolve-clause-causes g c =
    no_causes (g.S.Store.shown c.args.outside.now.store) (g.S.Store.shown c.args.outside.now.store) (g.N.Names.shown c.args.outside.now.names) (g.N.Names.shown c.args.outside.now.names) (g.C.Clock.shown c.args.outside.now.clock) (g.C.Clock.shown c.args.outside.now.clock) c.start_resolve.result
    (resolve_inside c.args.self.now c.start_resolve.new.self job.Resolve c.start_resolve.result c.start_resolve.ensures.starts)

pub returns-in-Commit-clause-disk : goal.returns-in-Commit-clause-disk
returns-in-Commit-clause-disk g c = c.commit.ensures.disk

pub returns-in-Commit-clause-causes : goal.returns-in-Commit-clause-causes
returns-in-Commit-clause-causes g c =
    commit_causes (g.S.Store.shown c.args.outside.now.store) (g.S.Store.shown c.args.outside.now.store) (g.N.Names.shown c.args.outside.now.names) (g.N.Names.shown c.args.outside.now.names) (g.C.Clock.shown c.args.outside.now.clock) (g.C.Clock.shown c.args.outside.now.clock) g.D.Disk.told g.D.Disk.shown c.args.self.now.ledger c.commit.new.self.ledger c.in-Commit.db c.in-Commit.commit c.commit.result c.commit.ensures.commits

pub returns-in-Revert-clause-disk : goal.returns-in-Revert-clause-disk
returns-in-Revert-clause-disk g c = c.revert.ensures.disk

pub returns-in-Revert-clause-causes : goal.returns-in-Revert-clause-causes
returns-in-Revert-clause-causes g c =
    revert_causes (g.S.Store.shown c.args.outside.now.store) (g.S.Store.shown c.args.outside.now.store) (g.N.Names.shown c.args.outside.now.names) (g.N.Names.shown c.args.outside.now.names) (g.C.Clock.shown c.args.outside.now.clock) (g.C.Clock.shown c.args.outside.now.clock) g.D.Disk.told g.D.Disk.shown c.args.self.now.ledger c.revert.ensures.reverts.mid (runs_publication (parts_of c.args.self.now)) c.in-Revert.db c.revert.result c.revert.ensures.reverts.reverts

pub returns-in-Create-clause-disk : goal.returns-in-Create-clause-disk
returns-in-Create-clause-disk g c = start_disk g.D.Disk.shown _ c.args.self.now c.start_create.new.self (g.N.Names.shown c.args.outside.now.names) (g.N.Names.shown c.start_create.new.names) (m.Creating c.in-Create.block c.in-Create.retention) _ c.start_create.result c.start_create.ensures.starts g.D.Disk.told

pub returns-in-Create-clause-causes : goal.returns-in-Create-clause-causes
returns-in-Create-clause-causes g c =
    start_causes g.D.Disk.shown _ c.args.self.now c.start_create.new.self (g.N.Names.shown c.args.outside.now.names) (g.N.Names.shown c.start_create.new.names) (m.Creating c.in-Create.block c.in-Create.retention) _ c.start_create.result c.start_create.ensures.starts (g.S.Store.shown c.args.outside.now.store) (g.C.Clock.shown c.args.outside.now.clock)

pub returns-in-NewDb-clause-disk : goal.returns-in-NewDb-clause-disk
returns-in-NewDb-clause-disk g c = start_disk g.D.Disk.shown _ c.args.self.now c.start_copy.new.self (g.N.Names.shown c.args.outside.now.names) (g.N.Names.shown c.start_copy.new.names) (m.Making c.in-NewDb.name c.in-NewDb.page_size c.in-NewDb.pages) _ c.start_copy.result c.start_copy.ensures.starts g.D.Disk.told

pub returns-in-NewDb-clause-causes : goal.returns-in-NewDb-clause-causes
returns-in-NewDb-clause-causes g c =
    start_causes g.D.Disk.shown _ c.args.self.now c.start_copy.new.self (g.N.Names.shown c.args.outside.now.names) (g.N.Names.shown c.start_copy.new.names) (m.Making c.in-NewDb.name c.in-NewDb.page_size c.in-NewDb.pages) _ c.start_copy.result c.start_copy.ensures.starts (g.S.Store.shown c.args.outside.now.store) (g.C.Clock.shown c.args.outside.now.clock)

pub returns-in-Upload-clause-disk : goal.returns-in-Upload-clause-disk
returns-in-Upload-clause-disk g c = start_disk g.D.Disk.shown _ c.args.self.now c.start_upload.new.self (g.N.Names.shown c.args.outside.now.names) (g.N.Names.shown c.start_upload.new.names) (upload_of (seen_kept c.args.self.now.ledger.databases.kept) c.in-Upload.db) _ c.start_upload.result c.start_upload.ensures.starts g.D.Disk.told

pub returns-in-Upload-clause-causes : goal.returns-in-Upload-clause-causes
returns-in-Upload-clause-causes g c =
    start_causes g.D.Disk.shown _ c.args.self.now c.start_upload.new.self (g.N.Names.shown c.args.outside.now.names) (g.N.Names.shown c.start_upload.new.names) (upload_of (seen_kept c.args.self.now.ledger.databases.kept) c.in-Upload.db) _ c.start_upload.result c.start_upload.ensures.starts (g.S.Store.shown c.args.outside.now.store) (g.C.Clock.shown c.args.outside.now.clock)

pub returns-in-Copy-clause-disk : goal.returns-in-Copy-clause-disk
returns-in-Copy-clause-disk g c = start_disk g.D.Disk.shown _ c.args.self.now c.start_copy-in-Copy.new.self (g.N.Names.shown c.args.outside.now.names) (g.N.Names.shown c.start_copy-in-Copy.new.names) (m.Copying c.in-Copy.from c.in-Copy.to) _ c.start_copy-in-Copy.result c.start_copy-in-Copy.ensures.starts g.D.Disk.told

pub returns-in-Copy-clause-causes : goal.returns-in-Copy-clause-causes
returns-in-Copy-clause-causes g c =
    start_causes g.D.Disk.shown _ c.args.self.now c.start_copy-in-Copy.new.self (g.N.Names.shown c.args.outside.now.names) (g.N.Names.shown c.start_copy-in-Copy.new.names) (m.Copying c.in-Copy.from c.in-Copy.to) _ c.start_copy-in-Copy.result c.start_copy-in-Copy.ensures.starts (g.S.Store.shown c.args.outside.now.store) (g.C.Clock.shown c.args.outside.now.clock)

pub returns-in-Remove-clause-disk : goal.returns-in-Remove-clause-disk
returns-in-Remove-clause-disk g c = start_disk g.D.Disk.shown _ c.args.self.now c.start_copy-in-Remove.new.self (g.N.Names.shown c.args.outside.now.names) (g.N.Names.shown c.start_copy-in-Remove.new.names) (m.Removing c.in-Remove.name) _ c.start_copy-in-Remove.result c.start_copy-in-Remove.ensures.starts g.D.Disk.told

pub returns-in-Remove-clause-causes : goal.returns-in-Remove-clause-causes
returns-in-Remove-clause-causes g c =
    start_causes g.D.Disk.shown _ c.args.self.now c.start_copy-in-Remove.new.self (g.N.Names.shown c.args.outside.now.names) (g.N.Names.shown c.start_copy-in-Remove.new.names) (m.Removing c.in-Remove.name) _ c.start_copy-in-Remove.result c.start_copy-in-Remove.ensures.starts (g.S.Store.shown c.args.outside.now.store) (g.C.Clock.shown c.args.outside.now.clock)

pub returns-in-Cleanup-clause-disk : goal.returns-in-Cleanup-clause-disk
returns-in-Cleanup-clause-disk g c = start_disk g.D.Disk.shown _ c.args.self.now c.start_cleanup.new.self (g.N.Names.shown c.args.outside.now.names) (g.N.Names.shown c.start_cleanup.new.names) m.Cleaning _ c.start_cleanup.result c.start_cleanup.ensures.starts g.D.Disk.told

pub returns-in-Cleanup-clause-causes : goal.returns-in-Cleanup-clause-causes
returns-in-Cleanup-clause-causes g c =
    start_causes g.D.Disk.shown _ c.args.self.now c.start_cleanup.new.self (g.N.Names.shown c.args.outside.now.names) (g.N.Names.shown c.start_cleanup.new.names) m.Cleaning _ c.start_cleanup.result c.start_cleanup.ensures.starts (g.S.Store.shown c.args.outside.now.store) (g.C.Clock.shown c.args.outside.now.clock)

pub returns-in-Step-clause-disk : goal.returns-in-Step-clause-disk
returns-in-Step-clause-disk g c = c.step.ensures.disk

pub returns-in-Step-clause-causes : goal.returns-in-Step-clause-causes
returns-in-Step-clause-causes g c = c.step.ensures.causes

-- ---- at any moment

pub returns-in-Begin-clause-any_moment : goal.returns-in-Begin-clause-any_moment
returns-in-Begin-clause-any_moment g c =
    quiet_ask g.D.Disk.told g.D.Disk.shown g.met.D.Disk.only_now g.S.Store.told (g.S.Store.shown c.args.outside.now.store) (g.S.Store.shown c.args.outside.now.store) c.args.self.now c.begin.new.self c.args.ask (ask.Begin c.in-Begin.db) c.in-Begin.is refl c.begin.ensures.only.log

pub returns-in-Read-clause-any_moment : goal.returns-in-Read-clause-any_moment
returns-in-Read-clause-any_moment g c =
    quiet_ask g.D.Disk.told g.D.Disk.shown g.met.D.Disk.only_now g.S.Store.told (g.S.Store.shown c.args.outside.now.store) (g.S.Store.shown c.args.outside.now.store) c.args.self.now c.read.new.self c.args.ask (ask.Read c.in-Read.txn c.in-Read.page) c.in-Read.is refl (ap (λ (l : Ledger g.row.D.Denot g.D.Disk). l.log) c.read.ensures.only.ledger)

pub returns-in-Hold-clause-any_moment : goal.returns-in-Hold-clause-any_moment
returns-in-Hold-clause-any_moment g c =
    quiet_ask g.D.Disk.told g.D.Disk.shown g.met.D.Disk.only_now g.S.Store.told (g.S.Store.shown c.args.outside.now.store) (g.S.Store.shown c.args.outside.now.store) c.args.self.now c.hold.new.self c.args.ask (ask.Hold c.in-Hold.txn c.in-Hold.page) c.in-Hold.is refl (ap (λ (l : Ledger g.row.D.Denot g.D.Disk). l.log) c.hold.ensures.only.ledger)

pub returns-in-Look-clause-any_moment : goal.returns-in-Look-clause-any_moment
returns-in-Look-clause-any_moment g c =
    quiet_ask g.D.Disk.told g.D.Disk.shown g.met.D.Disk.only_now g.S.Store.told (g.S.Store.shown c.args.outside.now.store) (g.S.Store.shown c.args.outside.now.store) c.args.self.now c.args.self.now c.args.ask (ask.Look c.in-Look.txn c.in-Look.page) c.in-Look.is refl refl

pub returns-in-Free-clause-any_moment : goal.returns-in-Free-clause-any_moment
returns-in-Free-clause-any_moment g c =
    quiet_ask g.D.Disk.told g.D.Disk.shown g.met.D.Disk.only_now g.S.Store.told (g.S.Store.shown c.args.outside.now.store) (g.S.Store.shown c.args.outside.now.store) c.args.self.now c.free.new.self c.args.ask (ask.Free c.in-Free.txn c.in-Free.page) c.in-Free.is refl (ap (λ (l : Ledger g.row.D.Denot g.D.Disk). l.log) c.free.ensures.only.reading.ledger)

pub returns-in-End-clause-any_moment : goal.returns-in-End-clause-any_moment
returns-in-End-clause-any_moment g c =
    quiet_ask g.D.Disk.told g.D.Disk.shown g.met.D.Disk.only_now g.S.Store.told (g.S.Store.shown c.args.outside.now.store) (g.S.Store.shown c.args.outside.now.store) c.args.self.now c.end.new.self c.args.ask (ask.End c.in-End.txn) c.in-End.is refl c.end.ensures.ledger.log

pub returns-in-Commit-clause-any_moment : goal.returns-in-Commit-clause-any_moment
returns-in-Commit-clause-any_moment g c =
    asked_moments g.D.Disk.told g.D.Disk.shown g.met.D.Disk.only_now g.S.Store.told (g.S.Store.shown c.args.outside.now.store) (g.S.Store.shown c.args.outside.now.store) c.args.self.now c.commit.new.self c.args.ask (ask.Commit c.in-Commit.db c.in-Commit.commit) c.in-Commit.is
    (local_moments g.D.Disk.told g.D.Disk.shown g.met.D.Disk.only_now (NotesOfCommit c.args.self.now.ledger.databases c.in-Commit.db c.in-Commit.commit) g.S.Store.told (g.S.Store.shown c.args.outside.now.store) (g.S.Store.shown c.args.outside.now.store) c.args.self.now c.commit.new.self c.commit.ensures.any_moment)

pub returns-in-Revert-clause-any_moment : goal.returns-in-Revert-clause-any_moment
returns-in-Revert-clause-any_moment g c =
    asked_moments g.D.Disk.told g.D.Disk.shown g.met.D.Disk.only_now g.S.Store.told (g.S.Store.shown c.args.outside.now.store) (g.S.Store.shown c.args.outside.now.store) c.args.self.now c.revert.new.self c.args.ask (ask.Revert c.in-Revert.db) c.in-Revert.is
    (local_moments g.D.Disk.told g.D.Disk.shown g.met.D.Disk.only_now (NotesOfRevert c.in-Revert.db) g.S.Store.told (g.S.Store.shown c.args.outside.now.store) (g.S.Store.shown c.args.outside.now.store) c.args.self.now c.revert.new.self c.revert.ensures.any_moment)

pub returns-in-List-clause-any_moment : goal.returns-in-List-clause-any_moment
returns-in-List-clause-any_moment g c =
    quiet_ask g.D.Disk.told g.D.Disk.shown g.met.D.Disk.only_now g.S.Store.told (g.S.Store.shown c.args.outside.now.store) (g.S.Store.shown c.args.outside.now.store) c.args.self.now c.args.self.now c.args.ask (ask.List) c.in-List.is refl refl

pub returns-in-Create-clause-any_moment : goal.returns-in-Create-clause-any_moment
returns-in-Create-clause-any_moment g c =
    let only = publication_only g.D.Disk.shown _ c.args.self.now c.start_create.new.self (g.N.Names.shown c.args.outside.now.names) (g.N.Names.shown c.start_create.new.names) _ _ c.start_create.result c.start_create.ensures.starts in
    quiet_ask g.D.Disk.told g.D.Disk.shown g.met.D.Disk.only_now g.S.Store.told (g.S.Store.shown c.args.outside.now.store) (g.S.Store.shown c.args.outside.now.store) c.args.self.now c.start_create.new.self c.args.ask (ask.Create c.in-Create.block c.in-Create.retention) c.in-Create.is refl (ap (λ (l : Ledger g.row.D.Denot g.D.Disk). l.log) only.ledger)

pub returns-in-NewDb-clause-any_moment : goal.returns-in-NewDb-clause-any_moment
returns-in-NewDb-clause-any_moment g c =
    let only = publication_only g.D.Disk.shown _ c.args.self.now c.start_copy.new.self (g.N.Names.shown c.args.outside.now.names) (g.N.Names.shown c.start_copy.new.names) _ _ c.start_copy.result c.start_copy.ensures.starts in
    quiet_ask g.D.Disk.told g.D.Disk.shown g.met.D.Disk.only_now g.S.Store.told (g.S.Store.shown c.args.outside.now.store) (g.S.Store.shown c.args.outside.now.store) c.args.self.now c.start_copy.new.self c.args.ask (ask.NewDb c.in-NewDb.name c.in-NewDb.page_size c.in-NewDb.pages) c.in-NewDb.is refl (ap (λ (l : Ledger g.row.D.Denot g.D.Disk). l.log) only.ledger)

pub returns-in-Upload-clause-any_moment : goal.returns-in-Upload-clause-any_moment
returns-in-Upload-clause-any_moment g c =
    let only = publication_only g.D.Disk.shown _ c.args.self.now c.start_upload.new.self (g.N.Names.shown c.args.outside.now.names) (g.N.Names.shown c.start_upload.new.names) _ _ c.start_upload.result c.start_upload.ensures.starts in
    quiet_ask g.D.Disk.told g.D.Disk.shown g.met.D.Disk.only_now g.S.Store.told (g.S.Store.shown c.args.outside.now.store) (g.S.Store.shown c.args.outside.now.store) c.args.self.now c.start_upload.new.self c.args.ask (ask.Upload c.in-Upload.db) c.in-Upload.is refl (ap (λ (l : Ledger g.row.D.Denot g.D.Disk). l.log) only.ledger)

pub returns-in-Copy-clause-any_moment : goal.returns-in-Copy-clause-any_moment
returns-in-Copy-clause-any_moment g c =
    let only = publication_only g.D.Disk.shown _ c.args.self.now c.start_copy-in-Copy.new.self (g.N.Names.shown c.args.outside.now.names) (g.N.Names.shown c.start_copy-in-Copy.new.names) _ _ c.start_copy-in-Copy.result c.start_copy-in-Copy.ensures.starts in
    quiet_ask g.D.Disk.told g.D.Disk.shown g.met.D.Disk.only_now g.S.Store.told (g.S.Store.shown c.args.outside.now.store) (g.S.Store.shown c.args.outside.now.store) c.args.self.now c.start_copy-in-Copy.new.self c.args.ask (ask.Copy c.in-Copy.from c.in-Copy.to) c.in-Copy.is refl (ap (λ (l : Ledger g.row.D.Denot g.D.Disk). l.log) only.ledger)

pub returns-in-Remove-clause-any_moment : goal.returns-in-Remove-clause-any_moment
returns-in-Remove-clause-any_moment g c =
    let only = publication_only g.D.Disk.shown _ c.args.self.now c.start_copy-in-Remove.new.self (g.N.Names.shown c.args.outside.now.names) (g.N.Names.shown c.start_copy-in-Remove.new.names) _ _ c.start_copy-in-Remove.result c.start_copy-in-Remove.ensures.starts in
    quiet_ask g.D.Disk.told g.D.Disk.shown g.met.D.Disk.only_now g.S.Store.told (g.S.Store.shown c.args.outside.now.store) (g.S.Store.shown c.args.outside.now.store) c.args.self.now c.start_copy-in-Remove.new.self c.args.ask (ask.Remove c.in-Remove.name) c.in-Remove.is refl (ap (λ (l : Ledger g.row.D.Denot g.D.Disk). l.log) only.ledger)

pub returns-in-Cleanup-clause-any_moment : goal.returns-in-Cleanup-clause-any_moment
returns-in-Cleanup-clause-any_moment g c =
    let only = publication_only g.D.Disk.shown _ c.args.self.now c.start_cleanup.new.self (g.N.Names.shown c.args.outside.now.names) (g.N.Names.shown c.start_cleanup.new.names) _ _ c.start_cleanup.result c.start_cleanup.ensures.starts in
    quiet_ask g.D.Disk.told g.D.Disk.shown g.met.D.Disk.only_now g.S.Store.told (g.S.Store.shown c.args.outside.now.store) (g.S.Store.shown c.args.outside.now.store) c.args.self.now c.start_cleanup.new.self c.args.ask (ask.Cleanup) c.in-Cleanup.is refl (ap (λ (l : Ledger g.row.D.Denot g.D.Disk). l.log) only.ledger)

pub returns-in-Poll-clause-any_moment : goal.returns-in-Poll-clause-any_moment
returns-in-Poll-clause-any_moment g c =
    quiet_ask g.D.Disk.told g.D.Disk.shown g.met.D.Disk.only_now g.S.Store.told (g.S.Store.shown c.args.outside.now.store) (g.S.Store.shown c.args.outside.now.store) c.args.self.now c.start_poll.new.self c.args.ask (ask.Poll) c.in-Poll.is refl (ap (λ (l : Ledger g.row.D.Denot g.D.Disk). l.log) c.start_poll.ensures.starts.only.ledger)

pub returns-in-Resolve-clause-any_moment : goal.returns-in-Resolve-clause-any_moment
returns-in-Resolve-clause-any_moment g c =
    let only = unless_only c.args.self.now c.start_resolve.new.self (resolve_reason (parts_of c.args.self.now)) job.Resolve 1 c.start_resolve.result c.start_resolve.ensures.starts in
    quiet_ask g.D.Disk.told g.D.Disk.shown g.met.D.Disk.only_now g.S.Store.told (g.S.Store.shown c.args.outside.now.store) (g.S.Store.shown c.args.outside.now.store) c.args.self.now c.start_resolve.new.self c.args.ask (ask.Resolve) c.in-Resolve.is refl (ap (λ (l : Ledger g.row.D.Denot g.D.Disk). l.log) only.ledger)

pub returns-in-Step-clause-any_moment : goal.returns-in-Step-clause-any_moment
returns-in-Step-clause-any_moment g c =
    asked_moments g.D.Disk.told g.D.Disk.shown g.met.D.Disk.only_now g.S.Store.told (g.S.Store.shown c.args.outside.now.store) (g.S.Store.shown c.step.new.outside.store) c.args.self.now c.step.new.self c.args.ask (ask.Step c.in-Step.task) c.in-Step.is c.step.ensures.any_moment

-- ---- steps to come

pub returns-in-Begin-clause-descends : goal.returns-in-Begin-clause-descends
returns-in-Begin-clause-descends g c = as_descends _ _ _ _ _ c.in-Begin.is tt

pub returns-in-Read-clause-descends : goal.returns-in-Read-clause-descends
returns-in-Read-clause-descends g c = as_descends _ _ _ _ _ c.in-Read.is tt

pub returns-in-Hold-clause-descends : goal.returns-in-Hold-clause-descends
returns-in-Hold-clause-descends g c = as_descends _ _ _ _ _ c.in-Hold.is tt

pub returns-in-Look-clause-descends : goal.returns-in-Look-clause-descends
returns-in-Look-clause-descends g c = as_descends _ _ _ _ _ c.in-Look.is tt

pub returns-in-Free-clause-descends : goal.returns-in-Free-clause-descends
returns-in-Free-clause-descends g c = as_descends _ _ _ _ _ c.in-Free.is tt

pub returns-in-End-clause-descends : goal.returns-in-End-clause-descends
returns-in-End-clause-descends g c = as_descends _ _ _ _ _ c.in-End.is tt

pub returns-in-Commit-clause-descends : goal.returns-in-Commit-clause-descends
returns-in-Commit-clause-descends g c = as_descends _ _ _ _ _ c.in-Commit.is tt

pub returns-in-Revert-clause-descends : goal.returns-in-Revert-clause-descends
returns-in-Revert-clause-descends g c = as_descends _ _ _ _ _ c.in-Revert.is tt

pub returns-in-List-clause-descends : goal.returns-in-List-clause-descends
returns-in-List-clause-descends g c = as_descends _ _ _ _ _ c.in-List.is tt

pub returns-in-Create-clause-descends : goal.returns-in-Create-clause-descends
returns-in-Create-clause-descends g c = as_descends _ _ _ _ _ c.in-Create.is tt

pub returns-in-NewDb-clause-descends : goal.returns-in-NewDb-clause-descends
returns-in-NewDb-clause-descends g c = as_descends _ _ _ _ _ c.in-NewDb.is tt

pub returns-in-Upload-clause-descends : goal.returns-in-Upload-clause-descends
returns-in-Upload-clause-descends g c = as_descends _ _ _ _ _ c.in-Upload.is tt

pub returns-in-Copy-clause-descends : goal.returns-in-Copy-clause-descends
returns-in-Copy-clause-descends g c = as_descends _ _ _ _ _ c.in-Copy.is tt

pub returns-in-Remove-clause-descends : goal.returns-in-Remove-clause-descends
returns-in-Remove-clause-descends g c = as_descends _ _ _ _ _ c.in-Remove.is tt

pub returns-in-Poll-clause-descends : goal.returns-in-Poll-clause-descends
returns-in-Poll-clause-descends g c = as_descends _ _ _ _ _ c.in-Poll.is tt

pub returns-in-Cleanup-clause-descends : goal.returns-in-Cleanup-clause-descends
returns-in-Cleanup-clause-descends g c = as_descends _ _ _ _ _ c.in-Cleanup.is tt

pub returns-in-Resolve-clause-descends : goal.returns-in-Resolve-clause-descends
returns-in-Resolve-clause-descends g c = as_descends _ _ _ _ _ c.in-Resolve.is tt

pub returns-in-Step-clause-descends : goal.returns-in-Step-clause-descends
returns-in-Step-clause-descends g c = as_descends _ _ _ _ _ c.in-Step.is c.step.ensures.descends

-- ---- the cache

pub returns-in-Begin-clause-caches : goal.returns-in-Begin-clause-caches
returns-in-Begin-clause-caches g c =
    as_cached g.S.Store.told (g.S.Store.shown c.args.outside.now.store) (g.S.Store.shown c.args.outside.now.store) c.args.ask _ c.args.self.now c.begin.new.self c.begin.result c.in-Begin.is (record { quiet = refl; does = c.begin.ensures.begins })

pub returns-in-Read-clause-caches : goal.returns-in-Read-clause-caches
returns-in-Read-clause-caches g c =
    as_cached g.S.Store.told (g.S.Store.shown c.args.outside.now.store) (g.S.Store.shown c.args.outside.now.store) c.args.ask _ c.args.self.now c.read.new.self c.read.result c.in-Read.is (record { quiet = refl; does = c.read.ensures.asks })

pub returns-in-Hold-clause-caches : goal.returns-in-Hold-clause-caches
returns-in-Hold-clause-caches g c =
    as_cached g.S.Store.told (g.S.Store.shown c.args.outside.now.store) (g.S.Store.shown c.args.outside.now.store) c.args.ask _ c.args.self.now c.hold.new.self c.hold.result c.in-Hold.is (record { quiet = refl; does = c.hold.ensures.asks })

pub returns-in-Look-clause-caches : goal.returns-in-Look-clause-caches
returns-in-Look-clause-caches g c =
    as_cached g.S.Store.told (g.S.Store.shown c.args.outside.now.store) (g.S.Store.shown c.args.outside.now.store) c.args.ask _ c.args.self.now c.args.self.now c.look_copied.result c.in-Look.is (record { quiet = refl; does = refl })

pub returns-in-Free-clause-caches : goal.returns-in-Free-clause-caches
returns-in-Free-clause-caches g c =
    as_cached g.S.Store.told (g.S.Store.shown c.args.outside.now.store) (g.S.Store.shown c.args.outside.now.store) c.args.ask _ c.args.self.now c.free.new.self c.free.result c.in-Free.is (record { quiet = refl; does = c.free.ensures.frees })

pub returns-in-End-clause-caches : goal.returns-in-End-clause-caches
returns-in-End-clause-caches g c =
    as_cached g.S.Store.told (g.S.Store.shown c.args.outside.now.store) (g.S.Store.shown c.args.outside.now.store) c.args.ask _ c.args.self.now c.end.new.self c.end.result c.in-End.is (record { quiet = refl; does = c.end.ensures.ends })

pub returns-in-Commit-clause-caches : goal.returns-in-Commit-clause-caches
returns-in-Commit-clause-caches g c =
    as_cached g.S.Store.told (g.S.Store.shown c.args.outside.now.store) (g.S.Store.shown c.args.outside.now.store) c.args.ask _ c.args.self.now c.commit.new.self c.commit.result c.in-Commit.is (record { quiet = refl; does = c.commit.ensures.others.txns })

pub returns-in-Revert-clause-caches : goal.returns-in-Revert-clause-caches
returns-in-Revert-clause-caches g c =
    as_cached g.S.Store.told (g.S.Store.shown c.args.outside.now.store) (g.S.Store.shown c.args.outside.now.store) c.args.ask _ c.args.self.now c.revert.new.self c.revert.result c.in-Revert.is (record { quiet = refl; does = c.revert.ensures.others.writes.txns })

pub returns-in-List-clause-caches : goal.returns-in-List-clause-caches
returns-in-List-clause-caches g c =
    as_cached g.S.Store.told (g.S.Store.shown c.args.outside.now.store) (g.S.Store.shown c.args.outside.now.store) c.args.ask _ c.args.self.now c.args.self.now c.list.result c.in-List.is (record { quiet = refl; does = refl })

pub returns-in-Create-clause-caches : goal.returns-in-Create-clause-caches
returns-in-Create-clause-caches g c =
    let only = publication_only g.D.Disk.shown _ c.args.self.now c.start_create.new.self (g.N.Names.shown c.args.outside.now.names) (g.N.Names.shown c.start_create.new.names) _ _ c.start_create.result c.start_create.ensures.starts in
    as_cached g.S.Store.told (g.S.Store.shown c.args.outside.now.store) (g.S.Store.shown c.args.outside.now.store) c.args.ask _ c.args.self.now c.start_create.new.self c.start_create.result c.in-Create.is (record { quiet = refl; does = only.txns })

pub returns-in-NewDb-clause-caches : goal.returns-in-NewDb-clause-caches
returns-in-NewDb-clause-caches g c =
    let only = publication_only g.D.Disk.shown _ c.args.self.now c.start_copy.new.self (g.N.Names.shown c.args.outside.now.names) (g.N.Names.shown c.start_copy.new.names) _ _ c.start_copy.result c.start_copy.ensures.starts in
    as_cached g.S.Store.told (g.S.Store.shown c.args.outside.now.store) (g.S.Store.shown c.args.outside.now.store) c.args.ask _ c.args.self.now c.start_copy.new.self c.start_copy.result c.in-NewDb.is (record { quiet = refl; does = only.txns })

pub returns-in-Upload-clause-caches : goal.returns-in-Upload-clause-caches
returns-in-Upload-clause-caches g c =
    let only = publication_only g.D.Disk.shown _ c.args.self.now c.start_upload.new.self (g.N.Names.shown c.args.outside.now.names) (g.N.Names.shown c.start_upload.new.names) _ _ c.start_upload.result c.start_upload.ensures.starts in
    as_cached g.S.Store.told (g.S.Store.shown c.args.outside.now.store) (g.S.Store.shown c.args.outside.now.store) c.args.ask _ c.args.self.now c.start_upload.new.self c.start_upload.result c.in-Upload.is (record { quiet = refl; does = only.txns })

pub returns-in-Copy-clause-caches : goal.returns-in-Copy-clause-caches
returns-in-Copy-clause-caches g c =
    let only = publication_only g.D.Disk.shown _ c.args.self.now c.start_copy-in-Copy.new.self (g.N.Names.shown c.args.outside.now.names) (g.N.Names.shown c.start_copy-in-Copy.new.names) _ _ c.start_copy-in-Copy.result c.start_copy-in-Copy.ensures.starts in
    as_cached g.S.Store.told (g.S.Store.shown c.args.outside.now.store) (g.S.Store.shown c.args.outside.now.store) c.args.ask _ c.args.self.now c.start_copy-in-Copy.new.self c.start_copy-in-Copy.result c.in-Copy.is (record { quiet = refl; does = only.txns })

pub returns-in-Remove-clause-caches : goal.returns-in-Remove-clause-caches
returns-in-Remove-clause-caches g c =
    let only = publication_only g.D.Disk.shown _ c.args.self.now c.start_copy-in-Remove.new.self (g.N.Names.shown c.args.outside.now.names) (g.N.Names.shown c.start_copy-in-Remove.new.names) _ _ c.start_copy-in-Remove.result c.start_copy-in-Remove.ensures.starts in
    as_cached g.S.Store.told (g.S.Store.shown c.args.outside.now.store) (g.S.Store.shown c.args.outside.now.store) c.args.ask _ c.args.self.now c.start_copy-in-Remove.new.self c.start_copy-in-Remove.result c.in-Remove.is (record { quiet = refl; does = only.txns })

pub returns-in-Poll-clause-caches : goal.returns-in-Poll-clause-caches
returns-in-Poll-clause-caches g c =
    as_cached g.S.Store.told (g.S.Store.shown c.args.outside.now.store) (g.S.Store.shown c.args.outside.now.store) c.args.ask _ c.args.self.now c.start_poll.new.self c.start_poll.result c.in-Poll.is (record { quiet = refl; does = c.start_poll.ensures.starts.only.txns })

pub returns-in-Cleanup-clause-caches : goal.returns-in-Cleanup-clause-caches
returns-in-Cleanup-clause-caches g c =
    let only = publication_only g.D.Disk.shown _ c.args.self.now c.start_cleanup.new.self (g.N.Names.shown c.args.outside.now.names) (g.N.Names.shown c.start_cleanup.new.names) _ _ c.start_cleanup.result c.start_cleanup.ensures.starts in
    as_cached g.S.Store.told (g.S.Store.shown c.args.outside.now.store) (g.S.Store.shown c.args.outside.now.store) c.args.ask _ c.args.self.now c.start_cleanup.new.self c.start_cleanup.result c.in-Cleanup.is (record { quiet = refl; does = only.txns })

pub returns-in-Resolve-clause-caches : goal.returns-in-Resolve-clause-caches
returns-in-Resolve-clause-caches g c =
    let only = unless_only c.args.self.now c.start_resolve.new.self (resolve_reason (parts_of c.args.self.now)) job.Resolve 1 c.start_resolve.result c.start_resolve.ensures.starts in
    as_cached g.S.Store.told (g.S.Store.shown c.args.outside.now.store) (g.S.Store.shown c.args.outside.now.store) c.args.ask _ c.args.self.now c.start_resolve.new.self c.start_resolve.result c.in-Resolve.is (record { quiet = refl; does = only.txns })

pub returns-in-Step-clause-caches : goal.returns-in-Step-clause-caches
returns-in-Step-clause-caches g c =
    as_cached g.S.Store.told (g.S.Store.shown c.args.outside.now.store) (g.S.Store.shown c.step.new.outside.store) c.args.ask _ c.args.self.now c.step.new.self c.step.result c.in-Step.is (record { quiet = tt; does = c.step.ensures.caches })

-- ---- the store

pub returns-in-Begin-clause-reached : goal.returns-in-Begin-clause-reached
returns-in-Begin-clause-reached g c = g.met.S.Store.same c.args.outside.now.store

pub returns-in-Read-clause-reached : goal.returns-in-Read-clause-reached
returns-in-Read-clause-reached g c = g.met.S.Store.same c.args.outside.now.store

pub returns-in-Hold-clause-reached : goal.returns-in-Hold-clause-reached
returns-in-Hold-clause-reached g c = g.met.S.Store.same c.args.outside.now.store

pub returns-in-Look-clause-reached : goal.returns-in-Look-clause-reached
returns-in-Look-clause-reached g c = g.met.S.Store.same c.args.outside.now.store

pub returns-in-Free-clause-reached : goal.returns-in-Free-clause-reached
returns-in-Free-clause-reached g c = g.met.S.Store.same c.args.outside.now.store

pub returns-in-End-clause-reached : goal.returns-in-End-clause-reached
returns-in-End-clause-reached g c = g.met.S.Store.same c.args.outside.now.store

pub returns-in-Commit-clause-reached : goal.returns-in-Commit-clause-reached
returns-in-Commit-clause-reached g c = g.met.S.Store.same c.args.outside.now.store

pub returns-in-Revert-clause-reached : goal.returns-in-Revert-clause-reached
returns-in-Revert-clause-reached g c = g.met.S.Store.same c.args.outside.now.store

pub returns-in-List-clause-reached : goal.returns-in-List-clause-reached
returns-in-List-clause-reached g c = g.met.S.Store.same c.args.outside.now.store

pub returns-in-Create-clause-reached : goal.returns-in-Create-clause-reached
returns-in-Create-clause-reached g c = g.met.S.Store.same c.args.outside.now.store

pub returns-in-NewDb-clause-reached : goal.returns-in-NewDb-clause-reached
returns-in-NewDb-clause-reached g c = g.met.S.Store.same c.args.outside.now.store

pub returns-in-Upload-clause-reached : goal.returns-in-Upload-clause-reached
returns-in-Upload-clause-reached g c = g.met.S.Store.same c.args.outside.now.store

pub returns-in-Copy-clause-reached : goal.returns-in-Copy-clause-reached
returns-in-Copy-clause-reached g c = g.met.S.Store.same c.args.outside.now.store

pub returns-in-Remove-clause-reached : goal.returns-in-Remove-clause-reached
returns-in-Remove-clause-reached g c = g.met.S.Store.same c.args.outside.now.store

pub returns-in-Poll-clause-reached : goal.returns-in-Poll-clause-reached
returns-in-Poll-clause-reached g c = g.met.S.Store.same c.args.outside.now.store

pub returns-in-Cleanup-clause-reached : goal.returns-in-Cleanup-clause-reached
returns-in-Cleanup-clause-reached g c = g.met.S.Store.same c.args.outside.now.store

pub returns-in-Resolve-clause-reached : goal.returns-in-Resolve-clause-reached
returns-in-Resolve-clause-reached g c = g.met.S.Store.same c.args.outside.now.store

pub returns-in-Step-clause-reached : goal.returns-in-Step-clause-reached
returns-in-Step-clause-reached g c = c.step.ensures.reached

pub returns-in-Begin-clause-counted : goal.returns-in-Begin-clause-counted
returns-in-Begin-clause-counted g c = counts_still (g.S.Store.shown c.args.outside.now.store) (g.N.Names.shown c.args.outside.now.names) (g.C.Clock.shown c.args.outside.now.clock)

pub returns-in-Read-clause-counted : goal.returns-in-Read-clause-counted
returns-in-Read-clause-counted g c = counts_still (g.S.Store.shown c.args.outside.now.store) (g.N.Names.shown c.args.outside.now.names) (g.C.Clock.shown c.args.outside.now.clock)

pub returns-in-Hold-clause-counted : goal.returns-in-Hold-clause-counted
returns-in-Hold-clause-counted g c = counts_still (g.S.Store.shown c.args.outside.now.store) (g.N.Names.shown c.args.outside.now.names) (g.C.Clock.shown c.args.outside.now.clock)

pub returns-in-Look-clause-counted : goal.returns-in-Look-clause-counted
returns-in-Look-clause-counted g c = counts_still (g.S.Store.shown c.args.outside.now.store) (g.N.Names.shown c.args.outside.now.names) (g.C.Clock.shown c.args.outside.now.clock)

pub returns-in-Free-clause-counted : goal.returns-in-Free-clause-counted
returns-in-Free-clause-counted g c = counts_still (g.S.Store.shown c.args.outside.now.store) (g.N.Names.shown c.args.outside.now.names) (g.C.Clock.shown c.args.outside.now.clock)

pub returns-in-End-clause-counted : goal.returns-in-End-clause-counted
returns-in-End-clause-counted g c = counts_still (g.S.Store.shown c.args.outside.now.store) (g.N.Names.shown c.args.outside.now.names) (g.C.Clock.shown c.args.outside.now.clock)

pub returns-in-Commit-clause-counted : goal.returns-in-Commit-clause-counted
returns-in-Commit-clause-counted g c = counts_still (g.S.Store.shown c.args.outside.now.store) (g.N.Names.shown c.args.outside.now.names) (g.C.Clock.shown c.args.outside.now.clock)

pub returns-in-Revert-clause-counted : goal.returns-in-Revert-clause-counted
returns-in-Revert-clause-counted g c = counts_still (g.S.Store.shown c.args.outside.now.store) (g.N.Names.shown c.args.outside.now.names) (g.C.Clock.shown c.args.outside.now.clock)

pub returns-in-List-clause-counted : goal.returns-in-List-clause-counted
returns-in-List-clause-counted g c = counts_still (g.S.Store.shown c.args.outside.now.store) (g.N.Names.shown c.args.outside.now.names) (g.C.Clock.shown c.args.outside.now.clock)

pub returns-in-Poll-clause-counted : goal.returns-in-Poll-clause-counted
returns-in-Poll-clause-counted g c = counts_still (g.S.Store.shown c.args.outside.now.store) (g.N.Names.shown c.args.outside.now.names) (g.C.Clock.shown c.args.outside.now.clock)

pub returns-in-Resolve-clause-counted : goal.returns-in-Resolve-clause-counted
returns-in-Resolve-clause-counted g c = counts_still (g.S.Store.shown c.args.outside.now.store) (g.N.Names.shown c.args.outside.now.names) (g.C.Clock.shown c.args.outside.now.clock)

pub returns-in-Create-clause-counted : goal.returns-in-Create-clause-counted
returns-in-Create-clause-counted g c =
    starts_count (g.S.Store.shown c.args.outside.now.store) (g.C.Clock.shown c.args.outside.now.clock) (g.N.Names.shown c.args.outside.now.names) (g.N.Names.shown c.start_create.new.names) c.args.self.now c.start_create.new.self _ c.start_create.result c.start_create.ensures.starts

pub returns-in-NewDb-clause-counted : goal.returns-in-NewDb-clause-counted
returns-in-NewDb-clause-counted g c =
    starts_count (g.S.Store.shown c.args.outside.now.store) (g.C.Clock.shown c.args.outside.now.clock) (g.N.Names.shown c.args.outside.now.names) (g.N.Names.shown c.start_copy.new.names) c.args.self.now c.start_copy.new.self _ c.start_copy.result c.start_copy.ensures.starts

pub returns-in-Upload-clause-counted : goal.returns-in-Upload-clause-counted
returns-in-Upload-clause-counted g c =
    starts_count (g.S.Store.shown c.args.outside.now.store) (g.C.Clock.shown c.args.outside.now.clock) (g.N.Names.shown c.args.outside.now.names) (g.N.Names.shown c.start_upload.new.names) c.args.self.now c.start_upload.new.self _ c.start_upload.result c.start_upload.ensures.starts

pub returns-in-Copy-clause-counted : goal.returns-in-Copy-clause-counted
returns-in-Copy-clause-counted g c =
    starts_count (g.S.Store.shown c.args.outside.now.store) (g.C.Clock.shown c.args.outside.now.clock) (g.N.Names.shown c.args.outside.now.names) (g.N.Names.shown c.start_copy-in-Copy.new.names) c.args.self.now c.start_copy-in-Copy.new.self _ c.start_copy-in-Copy.result c.start_copy-in-Copy.ensures.starts

pub returns-in-Remove-clause-counted : goal.returns-in-Remove-clause-counted
returns-in-Remove-clause-counted g c =
    starts_count (g.S.Store.shown c.args.outside.now.store) (g.C.Clock.shown c.args.outside.now.clock) (g.N.Names.shown c.args.outside.now.names) (g.N.Names.shown c.start_copy-in-Remove.new.names) c.args.self.now c.start_copy-in-Remove.new.self _ c.start_copy-in-Remove.result c.start_copy-in-Remove.ensures.starts

pub returns-in-Cleanup-clause-counted : goal.returns-in-Cleanup-clause-counted
returns-in-Cleanup-clause-counted g c =
    starts_count (g.S.Store.shown c.args.outside.now.store) (g.C.Clock.shown c.args.outside.now.clock) (g.N.Names.shown c.args.outside.now.names) (g.N.Names.shown c.start_cleanup.new.names) c.args.self.now c.start_cleanup.new.self _ c.start_cleanup.result c.start_cleanup.ensures.starts

pub returns-in-Step-clause-counted : goal.returns-in-Step-clause-counted
returns-in-Step-clause-counted g c = c.step.ensures.counted
