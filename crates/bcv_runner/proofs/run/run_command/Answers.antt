use Rattle.bcv_runner.proofs.CommandFaults.{command_counts}
use Rattle.bcv_runner.proofs.Causes.{not_words, stream_causes}
use Rattle.bcv_runner.proofs.run.run_command.Goals as goal

pub returns-clause-runs : goal.returns-clause-runs
returns-clause-runs g c =
    let read = c.prepare-prepared.ensures.read in
    let output = c.write_ending-status.ensures.output in (
      read.0,
      output.0,
      read.1,
      output.1,
      record {
        prepared = c.prepare-prepared.result;
        input = read.2;
        ending = c.run_prepared-ending.result.0;
        runs = c.run_prepared-ending.ensures.runs;
        output = output.2;
      },
    )

pub returns-clause-causes : goal.returns-clause-causes
returns-clause-causes g c =
    stream_causes c.prepare-prepared.result c.run_prepared-ending.result.0 (g.I.Source.faults c.args.input.now) (g.I.Source.faults c.prepare-prepared.new.input) (g.O.Sink.faults c.args.out.now)
    (g.O.Sink.faults c.write_ending-status.new.out) c.write_ending-status.result c.prepare-prepared.ensures.causes c.run_prepared-ending.ensures.inside c.write_ending-status.ensures.read c.write_ending-status.ensures.write c.write_ending-status.ensures.steady

pub returns-clause-words : goal.returns-clause-words
returns-clause-words g c =
    not_words c.prepare-prepared.result c.run_prepared-ending.result.0 (g.I.Source.faults c.args.input.now) (g.I.Source.faults c.prepare-prepared.new.input) c.write_ending-status.result
    c.prepare-prepared.ensures.causes c.run_prepared-ending.ensures.inside c.write_ending-status.ensures.words

pub returns-clause-disk : goal.returns-clause-disk
returns-clause-disk g c =
    let read = c.prepare-prepared.ensures.read in
    let output = c.write_ending-status.ensures.output in
    let counts =
    command_counts g.D.Disk g.D.Disk.told g.D.Disk.shown g.S.Store.told c.args.command.now c.prepare-prepared.result read.0 _ c.args.disk _ _
    c.run_prepared-ending.result.0 c.run_prepared-ending.result.1 c.write_ending-status.result output.0 read.2 c.run_prepared-ending.ensures.runs output.2 in
    counts.disk

pub returns-clause-store : goal.returns-clause-store
returns-clause-store g c =
    let read = c.prepare-prepared.ensures.read in
    let output = c.write_ending-status.ensures.output in
    let counts =
    command_counts g.D.Disk g.D.Disk.told g.D.Disk.shown g.S.Store.told c.args.command.now c.prepare-prepared.result read.0 _ c.args.disk _ _
    c.run_prepared-ending.result.0 c.run_prepared-ending.result.1 c.write_ending-status.result output.0 read.2 c.run_prepared-ending.ensures.runs output.2 in
    counts.store

pub returns-clause-names : goal.returns-clause-names
returns-clause-names g c =
    let read = c.prepare-prepared.ensures.read in
    let output = c.write_ending-status.ensures.output in
    let counts =
    command_counts g.D.Disk g.D.Disk.told g.D.Disk.shown g.S.Store.told c.args.command.now c.prepare-prepared.result read.0 _ c.args.disk _ _
    c.run_prepared-ending.result.0 c.run_prepared-ending.result.1 c.write_ending-status.result output.0 read.2 c.run_prepared-ending.ensures.runs output.2 in
    counts.names

pub returns-clause-clock : goal.returns-clause-clock
returns-clause-clock g c =
    let read = c.prepare-prepared.ensures.read in
    let output = c.write_ending-status.ensures.output in
    let counts =
    command_counts g.D.Disk g.D.Disk.told g.D.Disk.shown g.S.Store.told c.args.command.now c.prepare-prepared.result read.0 _ c.args.disk _ _
    c.run_prepared-ending.result.0 c.run_prepared-ending.result.1 c.write_ending-status.result output.0 read.2 c.run_prepared-ending.ensures.runs output.2 in
    counts.clock
