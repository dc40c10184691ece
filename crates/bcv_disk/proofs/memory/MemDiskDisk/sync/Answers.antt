use Rattle.std.proofs.Common.{List, ap, sym, ◌∙◌, subst, arith}
use Rattle.bcv_disk.specs.DiskCalls.{Sync}
use Rattle.bcv_disk.specs.Record.{content, Leaves, moment_of}
use Rattle.bcv_disk.specs.Story.{Story}
use Rattle.bcv_disk.proofs.Telling.{sync_durable, sync_grows, sync_seen, told_calls, told_done, told_fails, told_passes}
use Rattle.bcv_disk.proofs.memory.MemDiskDisk.sync.Goals as goal

pub returns-clause-syncs : goal.returns-clause-syncs
returns-clause-syncs c =
    let old = c.args.self.now in
    let new = c.sync_bytes.new.self in
    let says = c.sync_bytes.ensures.besides in
    record {
      answers = c.sync_bytes.ensures.answers;
      durable = λ told done. sync_durable old.platter new.platter (told_done old new Sync c.sync_bytes.result says done);
      seen = λ told done. sync_seen old.platter new.platter (told_done old new Sync c.sync_bytes.result says done);
      grows = λ told done stands. sync_grows old.platter new.platter (told_done old new Sync c.sync_bytes.result says done) stands;
      crash = λ told. told_passes old new Sync c.sync_bytes.result says;
      fails = told_fails old new Sync c.sync_bytes.result says;
      calls = λ told. told_calls old new Sync c.sync_bytes.result says;
    }
