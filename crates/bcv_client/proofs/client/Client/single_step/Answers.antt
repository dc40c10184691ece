use Rattle.std.proofs.Common.{◌≡◌, false, true, ap, refl, subst, sym}
use Rattle.bcv_transaction.specs.Open.{Open}
use Rattle.bcv_client.specs.Steps.{EndsJob}
use Rattle.bcv_client.specs.TaskTaken.{CanStep}
use Rattle.bcv_client.specs.declared.job.Job.{Job}
use Rattle.bcv_client.specs.declared.job.Job.TheVariants as job
use Rattle.bcv_client.proofs.CallFaults.{fetch_causes, fetch_disk, poll_causes, poll_disk, resolve_causes, resolve_disk}
use Rattle.bcv_client.proofs.PollForm.{read_still}
use Rattle.bcv_client.proofs.SlotsKept.{steps_slots}
use Rattle.bcv_ledger.specs.declared.ledger.Ledger.{Ledger}
use Rattle.bcv_client.proofs.CallMoments.{resolve_moments, unmoved_step}
use Rattle.bcv_client.proofs.Descent.{fetch_ends, poll_ends, resolve_ends}
use Rattle.bcv_client.proofs.Caching.{fetch_caches, job_as}
use Rattle.bcv_client.proofs.client.Client.single_step.Goals as goal

pub fetch-requires-clause-form : goal.fetch-requires-clause-form
fetch-requires-clause-form g c = c.requires.form

pub fetch-requires-clause-page : goal.fetch-requires-clause-page
fetch-requires-clause-page g c = rw c.in-Fetch.is at c.requires.can.form

pub poll-requires-clause-form : goal.poll-requires-clause-form
poll-requires-clause-form g c = c.requires.form

pub poll-requires-clause-read : goal.poll-requires-clause-read
poll-requires-clause-read g c = c.requires.read

pub resolve-requires-clause-form : goal.resolve-requires-clause-form
resolve-requires-clause-form g c = c.requires.form

pub resolve-requires-clause-pending : goal.resolve-requires-clause-pending
resolve-requires-clause-pending g c = rw c.in-Resolve.is at c.requires.can.form

pub resolve-requires-clause-is_open : goal.resolve-requires-clause-is_open
resolve-requires-clause-is_open g c = (let can : CanStep c.args.self.now job.Resolve = rw c.in-Resolve.is at c.requires.can in can.is_open refl)

pub resolve-requires-clause-alone : goal.resolve-requires-clause-alone
resolve-requires-clause-alone g c = (let can : CanStep c.args.self.now job.Resolve = rw c.in-Resolve.is at c.requires.can in can.alone refl)

pub unreachable-requires : goal.unreachable-requires
unreachable-requires g c = (let e : false ≡ true = rw c.in-Publish.is at c.requires.single in absurd (cc))

pub unreachable-unreachable : goal.unreachable-unreachable
unreachable-unreachable g c = (let e : false ≡ true = rw c.in-Publish.is at c.requires.single in absurd (cc))

pub returns-in-Fetch-clause-form : goal.returns-in-Fetch-clause-form
returns-in-Fetch-clause-form g c = c.fetch.ensures.form

pub returns-in-Fetch-clause-read : goal.returns-in-Fetch-clause-read
returns-in-Fetch-clause-read g c = read_still c.args.self.now.seen _ c.args.self.now.latest _ c.fetch.ensures.fetches.fetches.only.reading.seen c.fetch.ensures.fetches.fetches.only.reading.latest c.requires.read

pub returns-in-Fetch-clause-only : goal.returns-in-Fetch-clause-only
returns-in-Fetch-clause-only g c =
    let only = c.fetch.ensures.fetches.fetches.only in
    record {
      id = only.reading.id;
      tasks = only.tasks;
      taken = only.reading.taken;
      slots =
          steps_slots _ _ g.S.Store.told (g.S.Store.shown c.args.store.now) (g.S.Store.shown c.fetch.new.store) _ _ c.fetch.ensures.fetches.how c.args.self.now.txns c.fetch.new.self.txns
          c.fetch.ensures.fetches.fetches.steps;
    }

pub returns-in-Fetch-clause-ends : goal.returns-in-Fetch-clause-ends
returns-in-Fetch-clause-ends g c =
    subst (λ (j : Job). EndsJob g.D.Disk.told g.D.Disk.shown g.S.Store.told (g.S.Store.shown c.args.store.now) (g.S.Store.shown c.fetch.new.store) c.args.self.now c.fetch.new.self j c.fetch.result)
    (sym c.in-Fetch.is) c.fetch.ensures.ends

pub returns-in-Poll-clause-form : goal.returns-in-Poll-clause-form
returns-in-Poll-clause-form g c = c.poll.ensures.form

pub returns-in-Poll-clause-read : goal.returns-in-Poll-clause-read
returns-in-Poll-clause-read g c = c.poll.ensures.read

pub returns-in-Poll-clause-only : goal.returns-in-Poll-clause-only
returns-in-Poll-clause-only g c = record { id = c.poll.ensures.only.id; tasks = c.poll.ensures.only.tasks; taken = c.poll.ensures.only.taken; slots = ap (λ (o : Open). o.slots) c.poll.ensures.only.txns }

pub returns-in-Poll-clause-ends : goal.returns-in-Poll-clause-ends
returns-in-Poll-clause-ends g c =
    subst (λ (j : Job). EndsJob g.D.Disk.told g.D.Disk.shown g.S.Store.told (g.S.Store.shown c.args.store.now) (g.S.Store.shown c.poll.new.store) c.args.self.now c.poll.new.self j c.poll.result)
    (sym c.in-Poll.is) c.poll.ensures.ends

pub returns-in-Resolve-clause-form : goal.returns-in-Resolve-clause-form
returns-in-Resolve-clause-form g c = c.resolve.ensures.form

pub returns-in-Resolve-clause-read : goal.returns-in-Resolve-clause-read
returns-in-Resolve-clause-read g c = read_still c.args.self.now.seen _ c.args.self.now.latest _ c.resolve.ensures.only.writes.seen c.resolve.ensures.only.writes.latest c.requires.read

pub returns-in-Resolve-clause-only : goal.returns-in-Resolve-clause-only
returns-in-Resolve-clause-only g c = record { id = c.resolve.ensures.only.writes.id; tasks = c.resolve.ensures.tasks; taken = c.resolve.ensures.only.taken; slots = ap (λ (o : Open). o.slots) c.resolve.ensures.only.writes.txns }

pub returns-in-Resolve-clause-ends : goal.returns-in-Resolve-clause-ends
returns-in-Resolve-clause-ends g c =
    subst (λ (j : Job). EndsJob g.D.Disk.told g.D.Disk.shown g.S.Store.told (g.S.Store.shown c.args.store.now) (g.S.Store.shown c.resolve.new.store) c.args.self.now c.resolve.new.self j c.resolve.result)
    (sym c.in-Resolve.is) c.resolve.ensures.ends

pub returns-in-Fetch-clause-falls : goal.returns-in-Fetch-clause-falls
returns-in-Fetch-clause-falls g c = c.fetch.ensures.falls

pub returns-in-Poll-clause-falls : goal.returns-in-Poll-clause-falls
returns-in-Poll-clause-falls g c = c.poll.ensures.falls

pub returns-in-Resolve-clause-falls : goal.returns-in-Resolve-clause-falls
returns-in-Resolve-clause-falls g c = c.resolve.ensures.falls

pub returns-in-Fetch-clause-disk : goal.returns-in-Fetch-clause-disk
returns-in-Fetch-clause-disk g c =
    fetch_disk g.D.Disk.told g.D.Disk.shown g.S.Store.told (g.S.Store.shown c.args.store.now) (g.S.Store.shown c.fetch.new.store) c.args.self.now c.fetch.new.self _ _ _ c.fetch.result c.fetch.ensures.fetches

pub returns-in-Fetch-clause-causes : goal.returns-in-Fetch-clause-causes
returns-in-Fetch-clause-causes g c = λ names clock.
    fetch_causes g.D.Disk.told g.D.Disk.shown g.S.Store.told (g.S.Store.shown c.args.store.now) (g.S.Store.shown c.fetch.new.store) names clock c.args.self.now c.fetch.new.self _ _ _ c.fetch.result c.fetch.ensures.fetches

pub returns-in-Poll-clause-disk : goal.returns-in-Poll-clause-disk
returns-in-Poll-clause-disk g c =
    poll_disk g.D.Disk.told g.D.Disk.shown g.S.Store.told (g.S.Store.shown c.args.store.now) (g.S.Store.shown c.poll.new.store) c.args.self.now c.poll.new.self c.poll.result c.poll.ensures.polls

pub returns-in-Poll-clause-causes : goal.returns-in-Poll-clause-causes
returns-in-Poll-clause-causes g c = λ names clock.
    poll_causes g.D.Disk.told g.D.Disk.shown g.S.Store.told (g.S.Store.shown c.args.store.now) (g.S.Store.shown c.poll.new.store) names clock c.args.self.now c.poll.new.self c.poll.result c.poll.ensures.polls

pub returns-in-Resolve-clause-disk : goal.returns-in-Resolve-clause-disk
returns-in-Resolve-clause-disk g c =
    resolve_disk g.D.Disk.told g.D.Disk.shown g.S.Store.told (g.S.Store.shown c.args.store.now) (g.S.Store.shown c.resolve.new.store) c.args.self.now c.resolve.new.self c.resolve.result c.resolve.ensures.resolves

pub returns-in-Resolve-clause-causes : goal.returns-in-Resolve-clause-causes
returns-in-Resolve-clause-causes g c = λ names clock.
    resolve_causes g.D.Disk.told g.D.Disk.shown g.S.Store.told (g.S.Store.shown c.args.store.now) (g.S.Store.shown c.resolve.new.store) names clock c.args.self.now c.resolve.new.self c.resolve.result c.resolve.ensures.resolves

pub returns-in-Fetch-clause-any_moment : goal.returns-in-Fetch-clause-any_moment
returns-in-Fetch-clause-any_moment g c =
    unmoved_step g.D.Disk.told g.D.Disk.shown g.met.D.Disk.only_now g.S.Store.told (g.S.Store.shown c.args.store.now) (g.S.Store.shown c.fetch.new.store) c.args.self.now c.fetch.new.self (ap (λ (l : Ledger g.row.D.Denot g.D.Disk). l.log) c.fetch.ensures.fetches.fetches.only.reading.ledger)

pub returns-in-Poll-clause-any_moment : goal.returns-in-Poll-clause-any_moment
returns-in-Poll-clause-any_moment g c = unmoved_step g.D.Disk.told g.D.Disk.shown g.met.D.Disk.only_now g.S.Store.told (g.S.Store.shown c.args.store.now) (g.S.Store.shown c.poll.new.store) c.args.self.now c.poll.new.self c.poll.ensures.polls.log

pub returns-in-Resolve-clause-any_moment : goal.returns-in-Resolve-clause-any_moment
returns-in-Resolve-clause-any_moment g c =
    let can : CanStep c.args.self.now job.Resolve = rw c.in-Resolve.is at c.requires.can in
    resolve_moments g.D.Disk.told g.D.Disk.shown g.met.D.Disk.only_now g.S.Store.told (g.S.Store.shown c.args.store.now) (g.S.Store.shown c.resolve.new.store) c.args.self.now c.resolve.new.self (can.is_open refl) c.resolve.result c.resolve.ensures.resolves (can.alone refl)

pub returns-in-Fetch-clause-descends : goal.returns-in-Fetch-clause-descends
returns-in-Fetch-clause-descends g c = fetch_ends c.fetch.result c.fetch.ensures.fetches.how c.fetch.ensures.fetches.answers

pub returns-in-Poll-clause-descends : goal.returns-in-Poll-clause-descends
returns-in-Poll-clause-descends g c = poll_ends _ _ _ _ _ _ _ c.poll.result c.poll.ensures.polls.leaves

pub returns-in-Resolve-clause-descends : goal.returns-in-Resolve-clause-descends
returns-in-Resolve-clause-descends g c =
    resolve_ends g.D.Disk.told g.D.Disk.shown g.S.Store.told (g.S.Store.shown c.args.store.now) (g.S.Store.shown c.resolve.new.store) c.args.self.now c.resolve.new.self c.resolve.result c.resolve.ensures.resolves

pub returns-in-Fetch-clause-caches : goal.returns-in-Fetch-clause-caches
returns-in-Fetch-clause-caches g c =
    job_as g.S.Store.told (g.S.Store.shown c.args.store.now) (g.S.Store.shown c.fetch.new.store) c.args.self.now.ledger.databases c.args.self.now.txns c.fetch.new.self.txns _ _ c.fetch.result c.in-Fetch.is
    (fetch_caches g.S.Store.told (g.S.Store.shown c.args.store.now) (g.S.Store.shown c.fetch.new.store) c.args.self.now c.fetch.new.self _ _ _ c.fetch.result c.fetch.ensures.fetches)

pub returns-in-Poll-clause-caches : goal.returns-in-Poll-clause-caches
returns-in-Poll-clause-caches g c =
    job_as g.S.Store.told (g.S.Store.shown c.args.store.now) (g.S.Store.shown c.poll.new.store) c.args.self.now.ledger.databases c.args.self.now.txns c.poll.new.self.txns _ _ c.poll.result c.in-Poll.is
    c.poll.ensures.only.txns

pub returns-in-Resolve-clause-caches : goal.returns-in-Resolve-clause-caches
returns-in-Resolve-clause-caches g c =
    job_as g.S.Store.told (g.S.Store.shown c.args.store.now) (g.S.Store.shown c.resolve.new.store) c.args.self.now.ledger.databases c.args.self.now.txns c.resolve.new.self.txns _ _ c.resolve.result c.in-Resolve.is
    c.resolve.ensures.only.writes.txns

pub returns-in-Fetch-clause-reached : goal.returns-in-Fetch-clause-reached
returns-in-Fetch-clause-reached g c = c.fetch.ensures.reached

pub returns-in-Poll-clause-reached : goal.returns-in-Poll-clause-reached
returns-in-Poll-clause-reached g c = c.poll.ensures.reached

pub returns-in-Resolve-clause-reached : goal.returns-in-Resolve-clause-reached
returns-in-Resolve-clause-reached g c = c.resolve.ensures.reached
