use Rattle.std.proofs.Common.{ap}
use Rattle.bcv_disk.specs.DiskCalls.{Len, ended}
use Rattle.bcv_disk.specs.Record.{content}
use Rattle.bcv_disk.specs.Story.{Story}
use Rattle.bcv_disk.proofs.Telling.{len_ends, len_fails, len_counts, told_calls, told_done, told_fails, told_passes}
use Rattle.bcv_disk.proofs.memory.MemDiskDisk.len.Goals as goal

pub returns-clause-lens : goal.returns-clause-lens
returns-clause-lens c =
    let old = c.args.self.now in
    let new = c.tell_len.new.self in
    let end = ended c.tell_len.result in
    let says = c.tell_len.ensures.besides in
    record {
      len = λ told n is. c.tell_len.ensures.len n is;
      seen = λ told whole. ap (λ (s : Story). content s.acts) (told_done old new Len end says ((len_ends c.tell_len.result).0 whole));
      crash = λ told. told_passes old new Len end says;
      fails = len_fails old new c.tell_len.result (told_fails old new Len end says);
      calls = λ told. len_counts old new c.tell_len.result (told_calls old new Len end says);
    }
