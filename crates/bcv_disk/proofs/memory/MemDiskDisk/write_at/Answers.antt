use Rattle.std.proofs.Common.{ap, arith}
use Rattle.bcv_disk.specs.DiskCalls.{Write}
use Rattle.bcv_disk.specs.Record.{content, moment_of}
use Rattle.bcv_disk.specs.Story.{Story}
use Rattle.bcv_disk.proofs.Telling.{same_shown, told_calls, told_done, told_fails, told_passes, told_starved}
use Rattle.bcv_disk.proofs.memory.MemDiskDisk.write_at.Goals as goal

pub returns-clause-writes : goal.returns-clause-writes
returns-clause-writes c =
    let old = c.args.self.now in
    let new = c.write_bytes.new.self in
    let call = Write c.args.at c.args.bytes.now in
    let says = c.write_bytes.ensures in
    record {
      written = λ told done. ap (λ (s : Story). content s.acts) (told_done old new call c.write_bytes.result says done);
      grows = λ told done. omega (arith, ap (λ (s : Story). moment_of s.idle s.acts) (told_done old new call c.write_bytes.result says done));
      same = λ told none. same_shown old new (told_starved old new call c.write_bytes.result says none);
      crash = λ told. told_passes old new call c.write_bytes.result says;
      fails = told_fails old new call c.write_bytes.result says;
      calls = λ told. told_calls old new call c.write_bytes.result says;
    }
