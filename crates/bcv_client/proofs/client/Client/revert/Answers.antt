use Rattle.std.proofs.Common.{Bool, ap, refl, subst, ◌∙◌}
use Rattle.bcv_ledger.specs.LocalCalls.{LedgerReverts, RevertSteps}
use Rattle.bcv_client.specs.LocalWrites.{set_in_view}
use Rattle.bcv_client.proofs.CallFaults.{revert_disk}
use Rattle.bcv_client.proofs.Reverts.{ends, revert_is_noted, same_ledger}
use Rattle.bcv_client.proofs.NeededKept.{trims_as}
use Rattle.bcv_client.proofs.FallsLocal.{revert_falls}
use Rattle.bcv_client.proofs.CallMoments.{revert_moments}
use Rattle.bcv_client.proofs.client.Client.revert.Goals as goal

pub returns-clause-form : goal.returns-clause-form
returns-clause-form g c =
    let s = c.args.self.now in
    let d = g.D.Disk in
    (ends d.told d.shown s (record s { ledger = c.trim_where.new.ledger }) c.revert-reply.new.self c.args.db c.set_of-set.result (record { id = refl; seen = refl; latest = refl; txns = refl; tasks = refl }) c.requires.form c.revert-reply.result
    (subst (λ (b : Bool). LedgerReverts d.told d.shown s.ledger c.revert-reply.new.self b c.args.db c.revert-reply.result) c.runs_publication-busy.ensures c.revert-reply.ensures.reverts)
    (trims_as c.revert-reply.new.self c.trim_where.new.ledger s.txns c.is_fine.result _ c.set_of-set.result c.set_of-set.result c.deref.result.now s.tasks.items c.is_fine.ensures refl c.deref.ensures.value c.trim_where.ensures.trims)
    c.trim_where.ensures.views).form_after

pub returns-clause-others : goal.returns-clause-others
returns-clause-others g c = record { writes = record { id = refl; seen = refl; latest = refl; txns = refl; tasks = refl }; taken = refl }

pub returns-clause-reverts : goal.returns-clause-reverts
returns-clause-reverts g c =
    let s = c.args.self.now in
    let d = g.D.Disk in
    record {
      mid = c.revert-reply.new.self;
      reverts = subst (λ (b : Bool). LedgerReverts d.told d.shown s.ledger c.revert-reply.new.self b c.args.db c.revert-reply.result) c.runs_publication-busy.ensures c.revert-reply.ensures.reverts;
      trims =
          trims_as c.revert-reply.new.self c.trim_where.new.ledger s.txns c.is_fine.result _ c.set_of-set.result _ c.deref.result.now s.tasks.items c.is_fine.ensures
          (c.set_of-set.ensures ∙ ap set_in_view c.find.ensures.found) c.deref.ensures.value c.trim_where.ensures.trims;
      views = c.trim_where.ensures.views;
    }

pub returns-clause-steps : goal.returns-clause-steps
returns-clause-steps g c = λ tells.
    (let s = c.args.self.now in
    let d = g.D.Disk in
    let reverts = subst (λ (b : Bool). LedgerReverts d.told d.shown s.ledger c.revert-reply.new.self b c.args.db c.revert-reply.result) c.runs_publication-busy.ensures c.revert-reply.ensures.reverts in
    let trims = trims_as c.revert-reply.new.self c.trim_where.new.ledger s.txns c.is_fine.result _ c.set_of-set.result c.set_of-set.result c.deref.result.now s.tasks.items c.is_fine.ensures refl c.deref.ensures.value c.trim_where.ensures.trims in
    revert_is_noted d.told d.shown s _ c.revert-reply.new.self c.args.db c.set_of-set.result (record { id = refl; seen = refl; latest = refl; txns = refl; tasks = refl }) c.requires.form
    (ends d.told d.shown s _ c.revert-reply.new.self c.args.db c.set_of-set.result (record { id = refl; seen = refl; latest = refl; txns = refl; tasks = refl }) c.requires.form c.revert-reply.result reverts trims c.trim_where.ensures.views)
    (same_ledger c.revert-reply.new.self c.trim_where.new.ledger s.txns c.trim_where.ensures.views) c.kept.ensures.sound c.revert-reply.result tells reverts
    (subst (λ (b : Bool). RevertSteps d.shown s.ledger c.revert-reply.new.self b c.args.db c.revert-reply.result) c.runs_publication-busy.ensures (c.revert-reply.ensures.steps tells)))

pub returns-clause-falls : goal.returns-clause-falls
returns-clause-falls g c =
    let s = c.args.self.now in
    let d = g.D.Disk in
    revert_falls d.told d.shown g.met.D.Disk.counts_now s (record s { ledger = c.trim_where.new.ledger }) c.args.db (record { id = refl; seen = refl; latest = refl; txns = refl; tasks = refl }) c.revert-reply.new.self
    (same_ledger c.revert-reply.new.self c.trim_where.new.ledger s.txns c.trim_where.ensures.views) c.revert-reply.result
    (subst (λ (b : Bool). LedgerReverts d.told d.shown s.ledger c.revert-reply.new.self b c.args.db c.revert-reply.result) c.runs_publication-busy.ensures c.revert-reply.ensures.reverts)

pub returns-clause-disk : goal.returns-clause-disk
returns-clause-disk g c =
    revert_disk g.D.Disk.told g.D.Disk.shown c.args.self.now (record c.args.self.now { ledger = c.trim_where.new.ledger }) c.args.db c.revert-reply.result (returns-clause-reverts g c)

pub returns-clause-any_moment : goal.returns-clause-any_moment
returns-clause-any_moment g c =
    let s = c.args.self.now in
    let d = g.D.Disk in
    revert_moments d.told d.shown g.met.D.Disk.only_now s (record s { ledger = c.trim_where.new.ledger }) c.args.db (record { id = refl; seen = refl; latest = refl; txns = refl; tasks = refl }) c.revert-reply.new.self
    (same_ledger c.revert-reply.new.self c.trim_where.new.ledger s.txns c.trim_where.ensures.views) c.revert-reply.result
    (subst (λ (b : Bool). LedgerReverts d.told d.shown s.ledger c.revert-reply.new.self b c.args.db c.revert-reply.result) c.runs_publication-busy.ensures c.revert-reply.ensures.reverts)
