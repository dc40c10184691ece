use Rattle.std.proofs.Common.{sym, ◌∙◌}
use Rattle.bcv_model.specs.Commits.{writes_of}
use Rattle.bcv_pages.specs.Held.{with_commit}
use Rattle.bcv_databases.proofs.Slots.{put_back}
use Rattle.bcv_databases.proofs.set_slots.add_in.Goals as goal

pub returns : goal.returns
returns c =
    put_back (with_commit (writes_of c.args.commit)) c.args.sets.now.items c.args.place c.index_mut.result.now c.take.new.self c.in-Some.set c.add.new.self
    c.requires.inside c.index_mut.ensures.value (sym c.take.ensures.value ∙ c.in-Some.is) c.add.ensures.added
