use Rattle.std.proofs.Common.{Bool, Option, ap, is_some, sym, ◌∙◌}
use Rattle.std.specs.Option.{option_map}
use Rattle.bcv_clientlog.specs.LogParts.{is_shut}
use Rattle.bcv_databases.specs.Catalog.{View, shown_view}
use Rattle.bcv_model.specs.declared.kept.Kept.{Kept}
use Rattle.bcv_ledger.specs.Reasons.{revert_reason_by}
use Rattle.bcv_ledger.proofs.Reasons.{revert_reason_is}
use Rattle.bcv_ledger.proofs.ledger.Ledger.revert_reason.Goals as goal

pub returns : goal.returns
returns g c =
    let l = c.args.self.now in
    let busy = c.args.busy in
    let shut : Bool = is_shut l.log in
    let found = option_map shown_view c.find.result in
    let pending : Bool = is_some l.databases.kept.pending in
    c.revert_reason_by.ensures
    ∙ ap (λ (b : Bool). revert_reason_by b c.is_some-pending.result busy found) c.closed.ensures
    ∙ ap (λ (b : Bool). revert_reason_by shut b busy found) c.is_some-pending.ensures
    ∙ ap (λ (k : Kept). revert_reason_by shut (is_some k.pending) busy found) c.kept.ensures.kept
    ∙ ap (λ (v : Option View). revert_reason_by shut pending busy v) c.find.ensures
    ∙ sym (revert_reason_is shut busy l.databases c.args.db.now c.kept.ensures.sound)
