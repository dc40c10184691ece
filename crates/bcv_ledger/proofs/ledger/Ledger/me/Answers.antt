use Rattle.std.proofs.Common.{Bool, inr, subst}
use Rattle.bcv_clientlog.specs.LogParts.{is_waiting}
use Rattle.bcv_ledger.specs.LedgerLoads.{NamedWhere}
use Rattle.bcv_ledger.proofs.Named.{waits_not}
use Rattle.bcv_ledger.proofs.ledger.Ledger.me.Goals as goal

pub returns-clause-notes : goal.returns-clause-notes
returns-clause-notes g c =
    let old = c.args.self.now in
    let id = c.args.id in
    inr (record {
      notes = c.me-noted.ensures.notes;
      databases = subst (λ (b : Bool). NamedWhere b old.databases c.name_where.new.databases id) c.stands.ensures c.name_where.ensures;
    })

pub invariant_of-self : goal.invariant_of-self
invariant_of-self g c = record { waits = waits_not c.stands.result (is_waiting c.me-noted.new.self) c.args.self.now.databases c.name_where.new.databases c.args.id c.requires c.name_where.ensures }
