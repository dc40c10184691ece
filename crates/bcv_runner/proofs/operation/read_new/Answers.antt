use Rattle.bcv_runner.proofs.FileForms.{file_fits}
use Rattle.bcv_runner.proofs.operation.read_new.Goals as goal

pub returns-in-Ok-clause-form : goal.returns-in-Ok-clause-form
returns-in-Ok-clause-form g c = let read = c.in-Ok.ensures.read in file_fits c.args.db read.0 c.in-Ok.field-0 read.2.1 read.2.2
