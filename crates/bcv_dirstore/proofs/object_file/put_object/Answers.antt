use Rattle.bcv_dirstore.proofs.Putting.{stops, replaced}
use Rattle.bcv_dirstore.proofs.object_file.put_object.Goals as goal

pub returns-in-Err-clause-puts : goal.returns-in-Err-clause-puts
returns-in-Err-clause-puts g c = λ told.
    stops (g.F.Folder.shown c.args.folder.now).files c.args.name.now c.args.cond c.args.bytes.now _ (g.F.Folder.shown c.front.new.self) c.front.result c.in-Err.answer
    (c.front.ensures.fronts.leaves told).files c.front.ensures.fronts.fails.rose (c.in-Err.ensures _ (c.front.ensures.fronts.is told))

pub returns-in-Done-clause-puts : goal.returns-in-Done-clause-puts
returns-in-Done-clause-puts g c = λ told.
    replaced (g.F.Folder.shown c.args.folder.now).files c.args.name.now c.args.cond c.args.bytes.now (Unit {0}) (g.F.Folder.shown c.front.new.self) (g.F.Folder.shown c.replace.new.folder)
    c.front.result c.in-Ok.etag c.to_be_bytes.result (c.front.ensures.fronts.leaves told).files c.to_be_bytes.ensures
    (c.in-Ok.ensures _ (c.front.ensures.fronts.is told)) (c.in-Done.ensures.replaces told)
