use Rattle.std.proofs.Common.{ap, length}
use Rattle.bcv_disk.specs.DiskCalls.{Read}
use Rattle.bcv_disk.specs.Record.{content}
use Rattle.bcv_disk.specs.Story.{Story}
use Rattle.bcv_disk.proofs.Telling.{told_calls, told_done, told_fails, told_passes}
use Rattle.bcv_disk.proofs.memory.MemDiskDisk.read.Goals as goal

pub returns-clause-reads : goal.returns-clause-reads
returns-clause-reads c =
    let old = c.args.self.now in
    let new = c.read_bytes.new.self in
    let call = Read c.args.at (length c.args.into.now) in
    let says = c.read_bytes.ensures.besides in
    record {
      answers = c.read_bytes.ensures.answers;
      bytes = λ told done. c.read_bytes.ensures.bytes done;
      seen = λ told done. ap (λ (s : Story). content s.acts) (told_done old new call c.read_bytes.result says done);
      crash = λ told. told_passes old new call c.read_bytes.result says;
      fails = told_fails old new call c.read_bytes.result says;
      calls = λ told. told_calls old new call c.read_bytes.result says;
    }
