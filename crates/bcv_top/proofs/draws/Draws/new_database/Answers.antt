use Rattle.bcv_top.proofs.MadeRuns.{made_database}
use Rattle.bcv_top.proofs.draws.Draws.new_database.Goals as goal

pub returns-clause-value : goal.returns-clause-value
returns-clause-value c =
    made_database c.args.self.now.x c.name-db.new.self.x c.byte-first.new.self.x c.name-db.result c.byte-first.result c.byte-second.result c.in_ok-pages.pages
    c.name-db.ensures.value c.name-db.ensures.next c.byte-first.ensures.value c.byte-first.ensures.next c.byte-second.ensures.value c.in_ok-pages.ensures
