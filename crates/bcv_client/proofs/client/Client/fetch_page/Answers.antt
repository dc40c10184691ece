use Rattle.std.proofs.Common.{None, refl, subst, sym, ap}
use Rattle.bcv_machine.specs.State as m
use Rattle.bcv_pages.specs.Held.{Held}
use Rattle.bcv_transaction.specs.StepCalls.{Steps}
use Rattle.bcv_client.specs.FetchOver.{stepped_reply}
use Rattle.bcv_client.specs.PagesFound.{IsPagesOf}
use Rattle.bcv_client.specs.Steps.{EndsJob}
use Rattle.bcv_client.specs.TaskParts.{seen_access}
use Rattle.bcv_client.specs.Transactions.{pages_for}
use Rattle.bcv_client.specs.declared.job.Access.{Access}
use Rattle.bcv_client.specs.declared.job.Access.TheVariants as access
use Rattle.bcv_client.specs.declared.job.Job.TheVariants.{Fetch}
use Rattle.bcv_client.proofs.FetchOver.{block_of_base, fetch_ends, has_base, has_pages, step_stays}
use Rattle.bcv_client.proofs.PagesFound.{can_read, pages_are}
use Rattle.bcv_client.proofs.TxnForms.{form_stays}
use Rattle.bcv_client.proofs.FallsSteps.{others_fall}
use Rattle.bcv_client.proofs.client.Client.fetch_page.Goals as goal

pub unreachable-requires : goal.unreachable-requires
unreachable-requires g c = has_base c.args.self.now.txns c.args.txn c.args.page None c.requires.page (rw c.in_default.is at c.opened.ensures) refl

pub pages_of-requires : goal.pages_of-requires
pages_of-requires g c = c.requires.form.txns

pub unreachable-requires-in_default-pages_of : goal.unreachable-requires-in_default-pages_of
unreachable-requires-in_default-pages_of g c =
    has_pages c.args.self.now.ledger.databases c.args.self.now.txns c.args.txn c.args.page None c.requires.page (rw c.in_default-pages_of.is at c.pages_of.ensures) refl

pub unreachable-unreachable : goal.unreachable-unreachable
unreachable-unreachable g c = has_base c.args.self.now.txns c.args.txn c.args.page None c.requires.page (rw c.in_default.is at c.opened.ensures) refl

pub unreachable-unreachable-in_default-pages_of : goal.unreachable-unreachable-in_default-pages_of
unreachable-unreachable-in_default-pages_of g c =
    has_pages c.args.self.now.ledger.databases c.args.self.now.txns c.args.txn c.args.page None c.requires.page (rw c.in_default-pages_of.is at c.pages_of.ensures) refl

pub read_step-requires-clause-view : goal.read_step-requires-clause-view
read_step-requires-clause-view g c =
    let old = c.args.self.now in
    let found : IsPagesOf old.ledger.databases old.txns c.args.txn c.in-Some-pages_of.pages.now = rw c.in-Some-pages_of.is at c.pages_of.ensures in
    can_read old.ledger.databases old.txns c.args.txn c.in-Some-pages_of.pages.now found

pub read_step-requires-clause-block : goal.read_step-requires-clause-block
read_step-requires-clause-block g c =
    let old = c.args.self.now in
    let found : IsPagesOf old.ledger.databases old.txns c.args.txn c.in-Some-pages_of.pages.now = rw c.in-Some-pages_of.is at c.pages_of.ensures in
    block_of_base old.ledger.databases old.txns c.args.txn c.in-Some-pages_of.pages.now c.in-Some.base.now found c.is_full.ensures.are_open (rw c.in-Some.is at c.opened.ensures)

pub returns-in-ToRead-clause-form : goal.returns-in-ToRead-clause-form
returns-in-ToRead-clause-form g c =
    let old = c.args.self.now in
    form_stays old.seen old.ledger.databases old.txns c.read_step.new.self old.tasks.items
    (step_stays g.S.Store.told (g.S.Store.shown c.args.store.now) (g.S.Store.shown c.read_step.new.store) c.in-Some-pages_of.pages.now c.args.txn c.args.page c.read_step.result m.ToRead old.txns c.read_step.new.self
    c.is_full.ensures.are_open c.read_step.ensures.steps) c.requires.form

pub returns-in-ToRead-clause-fetches : goal.returns-in-ToRead-clause-fetches
returns-in-ToRead-clause-fetches g c =
    let old = c.args.self.now in
    let found : IsPagesOf old.ledger.databases old.txns c.args.txn c.in-Some-pages_of.pages.now = rw c.in-Some-pages_of.is at c.pages_of.ensures in
    record {
      only = record { reading = record { id = refl; ledger = refl; seen = refl; latest = refl; taken = refl }; tasks = refl };
      steps =
          subst (λ (a : m.Access). Steps a (pages_for old.ledger.databases c.args.txn old.txns) g.S.Store.told (g.S.Store.shown c.args.store.now) (g.S.Store.shown c.read_step.new.store) old.txns c.args.txn c.args.page c.read_step.result c.read_step.new.self)
          (sym (ap seen_access c.in-ToRead.is))
          (subst (λ (h : Held). Steps m.ToRead h g.S.Store.told (g.S.Store.shown c.args.store.now) (g.S.Store.shown c.read_step.new.store) old.txns c.args.txn c.args.page c.read_step.result c.read_step.new.self)
          (sym (pages_are old.ledger.databases old.txns c.args.txn c.in-Some-pages_of.pages.now found)) c.read_step.ensures.steps);
      says = c.read_step.ensures.says;
    }

pub returns-in-ToRead-clause-ends : goal.returns-in-ToRead-clause-ends
returns-in-ToRead-clause-ends g c =
    let old = c.args.self.now in
    let new = record old { txns = c.read_step.new.self } in
    let found : IsPagesOf old.ledger.databases old.txns c.args.txn c.in-Some-pages_of.pages.now = rw c.in-Some-pages_of.is at c.pages_of.ensures in
    subst (λ (a : Access). EndsJob g.D.Disk.told g.D.Disk.shown g.S.Store.told (g.S.Store.shown c.args.store.now) (g.S.Store.shown c.read_step.new.store) old new (Fetch a c.args.txn c.args.page) (stepped_reply c.read_step.result))
    (sym c.in-ToRead.is)
    (fetch_ends g.D.Disk.told g.D.Disk.shown g.S.Store.told (g.S.Store.shown c.args.store.now) (g.S.Store.shown c.read_step.new.store) old new access.ToRead c.args.txn c.args.page c.in-Some-pages_of.pages.now c.read_step.result
    (record { reading = record { id = refl; ledger = refl; seen = refl; latest = refl; taken = refl }; tasks = refl })
    c.requires.form c.requires.page found c.is_full.ensures.are_open c.read_step.ensures.steps c.read_step.ensures.says c.read_step.ensures.sound c.read_step.ensures.fit)

pub hold_step-requires-clause-view : goal.hold_step-requires-clause-view
hold_step-requires-clause-view g c =
    let old = c.args.self.now in
    let found : IsPagesOf old.ledger.databases old.txns c.args.txn c.in-Some-pages_of.pages.now = rw c.in-Some-pages_of.is at c.pages_of.ensures in
    can_read old.ledger.databases old.txns c.args.txn c.in-Some-pages_of.pages.now found

pub hold_step-requires-clause-block : goal.hold_step-requires-clause-block
hold_step-requires-clause-block g c =
    let old = c.args.self.now in
    let found : IsPagesOf old.ledger.databases old.txns c.args.txn c.in-Some-pages_of.pages.now = rw c.in-Some-pages_of.is at c.pages_of.ensures in
    block_of_base old.ledger.databases old.txns c.args.txn c.in-Some-pages_of.pages.now c.in-Some.base.now found c.is_full.ensures.are_open (rw c.in-Some.is at c.opened.ensures)

pub returns-in-ToHold-clause-form : goal.returns-in-ToHold-clause-form
returns-in-ToHold-clause-form g c =
    let old = c.args.self.now in
    form_stays old.seen old.ledger.databases old.txns c.hold_step.new.self old.tasks.items
    (step_stays g.S.Store.told (g.S.Store.shown c.args.store.now) (g.S.Store.shown c.hold_step.new.store) c.in-Some-pages_of.pages.now c.args.txn c.args.page c.hold_step.result m.ToHold old.txns c.hold_step.new.self
    c.is_full.ensures.are_open c.hold_step.ensures.steps) c.requires.form

pub returns-in-ToHold-clause-fetches : goal.returns-in-ToHold-clause-fetches
returns-in-ToHold-clause-fetches g c =
    let old = c.args.self.now in
    let found : IsPagesOf old.ledger.databases old.txns c.args.txn c.in-Some-pages_of.pages.now = rw c.in-Some-pages_of.is at c.pages_of.ensures in
    record {
      only = record { reading = record { id = refl; ledger = refl; seen = refl; latest = refl; taken = refl }; tasks = refl };
      steps =
          subst (λ (a : m.Access). Steps a (pages_for old.ledger.databases c.args.txn old.txns) g.S.Store.told (g.S.Store.shown c.args.store.now) (g.S.Store.shown c.hold_step.new.store) old.txns c.args.txn c.args.page c.hold_step.result c.hold_step.new.self)
          (sym (ap seen_access c.in-ToHold.is))
          (subst (λ (h : Held). Steps m.ToHold h g.S.Store.told (g.S.Store.shown c.args.store.now) (g.S.Store.shown c.hold_step.new.store) old.txns c.args.txn c.args.page c.hold_step.result c.hold_step.new.self)
          (sym (pages_are old.ledger.databases old.txns c.args.txn c.in-Some-pages_of.pages.now found)) c.hold_step.ensures.steps);
      says = c.hold_step.ensures.says;
    }

pub returns-in-ToHold-clause-ends : goal.returns-in-ToHold-clause-ends
returns-in-ToHold-clause-ends g c =
    let old = c.args.self.now in
    let new = record old { txns = c.hold_step.new.self } in
    let found : IsPagesOf old.ledger.databases old.txns c.args.txn c.in-Some-pages_of.pages.now = rw c.in-Some-pages_of.is at c.pages_of.ensures in
    subst (λ (a : Access). EndsJob g.D.Disk.told g.D.Disk.shown g.S.Store.told (g.S.Store.shown c.args.store.now) (g.S.Store.shown c.hold_step.new.store) old new (Fetch a c.args.txn c.args.page) (stepped_reply c.hold_step.result))
    (sym c.in-ToHold.is)
    (fetch_ends g.D.Disk.told g.D.Disk.shown g.S.Store.told (g.S.Store.shown c.args.store.now) (g.S.Store.shown c.hold_step.new.store) old new access.ToHold c.args.txn c.args.page c.in-Some-pages_of.pages.now c.hold_step.result
    (record { reading = record { id = refl; ledger = refl; seen = refl; latest = refl; taken = refl }; tasks = refl })
    c.requires.form c.requires.page found c.is_full.ensures.are_open c.hold_step.ensures.steps c.hold_step.ensures.says c.hold_step.ensures.sound c.hold_step.ensures.fit)

pub returns-in-ToRead-clause-falls : goal.returns-in-ToRead-clause-falls
returns-in-ToRead-clause-falls g c =
    let old = c.args.self.now in
    others_fall g.D.Disk.told g.D.Disk.shown g.S.Store.told (g.S.Store.shown c.args.store.now) (g.S.Store.shown c.read_step.new.store) old (record old { txns = c.read_step.new.self }) refl refl
    (λ tells mine f stands all honest. let s = c.read_step.ensures.sound tells mine stands.sound honest in (s.growth, s.no_own))

pub returns-in-ToHold-clause-falls : goal.returns-in-ToHold-clause-falls
returns-in-ToHold-clause-falls g c =
    let old = c.args.self.now in
    others_fall g.D.Disk.told g.D.Disk.shown g.S.Store.told (g.S.Store.shown c.args.store.now) (g.S.Store.shown c.hold_step.new.store) old (record old { txns = c.hold_step.new.self }) refl refl
    (λ tells mine f stands all honest. let s = c.hold_step.ensures.sound tells mine stands.sound honest in (s.growth, s.no_own))

pub returns-in-ToRead-clause-reached : goal.returns-in-ToRead-clause-reached
returns-in-ToRead-clause-reached g c = c.read_step.ensures.reached

pub returns-in-ToHold-clause-reached : goal.returns-in-ToHold-clause-reached
returns-in-ToHold-clause-reached g c = c.hold_step.ensures.reached
