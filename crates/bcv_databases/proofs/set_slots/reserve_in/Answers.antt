use Rattle.std.proofs.Common.{sym, ◌∙◌, is_ok}
use Rattle.bcv_model.specs.Commits.{writes_of}
use Rattle.bcv_pages.specs.Held.{with_room}
use Rattle.bcv_databases.proofs.Slots.{put_back_or}
use Rattle.bcv_databases.proofs.set_slots.reserve_in.Goals as goal

pub returns : goal.returns
returns c =
    put_back_or (is_ok c.reserve-reserved.result) (with_room (writes_of c.args.commit.now)) c.args.sets.now.items c.args.place c.index_mut.result.now c.take.new.self c.in-Some.set c.reserve-reserved.new.set
    c.requires.inside c.index_mut.ensures.value (sym c.take.ensures.value ∙ c.in-Some.is) c.reserve-reserved.ensures
