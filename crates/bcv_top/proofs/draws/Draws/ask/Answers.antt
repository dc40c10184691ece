use Rattle.std.proofs.Common.{◌≡◌, IfOk, sym, subst}
use Rattle.bcv_top.specs.declared.draws.AskKind.{AskKind}
use Rattle.bcv_top.specs.Generated.{asked}
use Rattle.bcv_top.proofs.draws.Draws.ask.Goals as goal

pub returns-in-New-clause-value : goal.returns-in-New-clause-value
returns-in-New-clause-value c =
    subst (λ (k : AskKind). IfOk c.new_database.result (λ q. q ≡ (asked k c.args.self.now.x).0)) (sym c.in-New.is) c.new_database.ensures.value

pub returns-in-Commit-clause-value : goal.returns-in-Commit-clause-value
returns-in-Commit-clause-value c =
    subst (λ (k : AskKind). IfOk c.commit.result (λ q. q ≡ (asked k c.args.self.now.x).0)) (sym c.in-Commit.is) c.commit.ensures.value
