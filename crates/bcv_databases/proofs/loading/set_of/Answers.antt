use Rattle.std.proofs.Common.{◌∙◌, ap}
use Rattle.bcv_base.specs.Views.{is_commit}
use Rattle.bcv_model.specs.declared.ask.Commit.{Commit}
use Rattle.bcv_model.specs.Commits.{writes_of}
use Rattle.bcv_pages.specs.Held.{Held}
use Rattle.bcv_databases.proofs.Loaded.{commit_at, filled_more}
use Rattle.bcv_databases.proofs.loading.set_of.Goals as goal

pub reserve-requires : goal.reserve-requires
reserve-requires c =
    ap (λ (h : Held). is_commit h.page_size (writes_of c.commit-item.result)) c.loop-commit.invariant
    ∙ commit_at c.args.page_size c.args.commits.now c.loop-commit.commit-index c.commit-item.result c.loop-commit-test.true c.commit-item.is c.requires

pub add-requires-clause-commit : goal.add-requires-clause-commit
add-requires-clause-commit c =
    ap (λ (h : Held). is_commit h.page_size (writes_of c.in_ok-copy.copy)) c.in_ok-reserve.ensures
    ∙ ap (λ (z : Commit). is_commit c.loop-commit.set.page_size (writes_of z)) c.in_ok-copy.ensures
    ∙ ap (λ (h : Held). is_commit h.page_size (writes_of c.commit-item.result)) c.loop-commit.invariant
    ∙ commit_at c.args.page_size c.args.commits.now c.loop-commit.commit-index c.commit-item.result c.loop-commit-test.true c.commit-item.is c.requires

pub loop-commit-preserved : goal.loop-commit-preserved
loop-commit-preserved c =
    filled_more c.args.page_size c.args.commits.now c.loop-commit.commit-index c.commit-item.result c.in_ok-copy.copy c.loop-commit.set c.reserve.new.set c.add.new.self
    c.loop-commit-test.true c.commit-item.is c.in_ok-copy.ensures c.loop-commit.invariant c.in_ok-reserve.ensures c.add.ensures.added
