use Rattle.std.proofs.Common.{Bool, Option, ap, sym, ◌∙◌}
use Rattle.std.specs.Option.{option_map}
use Rattle.bcv_clientlog.specs.LogParts.{is_shut}
use Rattle.bcv_databases.specs.Catalog.{View, shown_view}
use Rattle.bcv_model.specs.Commits.{writes_of}
use Rattle.bcv_ledger.specs.Reasons.{commit_reason_by}
use Rattle.bcv_ledger.proofs.Reasons.{commit_reason_is}
use Rattle.bcv_ledger.proofs.ledger.Ledger.commit_reason.Goals as goal

pub returns-clause-reason : goal.returns-clause-reason
returns-clause-reason g c =
    let l = c.args.self.now in
    let w = writes_of c.args.commit.now in
    let found = option_map shown_view c.find.result in
    c.commit_reason_by.ensures
    ∙ ap (λ (b : Bool). commit_reason_by b w found) c.closed.ensures
    ∙ ap (λ (v : Option View). commit_reason_by (is_shut l.log) w v) c.find.ensures
    ∙ sym (commit_reason_is (is_shut l.log) w l.databases c.args.db.now)
