use Rattle.std.proofs.Common.{ℕ, take, arith}
use Rattle.bcv_commands.proofs.Headers.{file_after, short_is_file}
use Rattle.std.specs.Io.KnownBytes.{IsAtEnd}
use Rattle.bcv_commands.proofs.database_file.read_file.Goals as goal

pub returns-in-Full-clause-read : goal.returns-in-Full-clause-read
returns-in-Full-clause-read g c =
    file_after (g.I.Source.left c.args.input.now) (g.I.Source.left c.fill.new.input) (g.I.Source.left c.after_header.new.input) c.fill.new.slice c.after_header.result c.in-Full.ensures.bytes.0 c.after_header.ensures.read

pub returns-in-Ended-clause-read : goal.returns-in-Ended-clause-read
returns-in-Ended-clause-read g c =
    let f = c.in-Ended.ensures.bytes in
    (take c.in-Ended.count c.fill.new.slice, f.1, short_is_file c.short_file.result (take c.in-Ended.count c.fill.new.slice) (IsAtEnd (g.I.Source.left c.fill.new.input)) f.0 c.short_file.ensures.read)

pub returns-in-TooLong-clause-read : goal.returns-in-TooLong-clause-read
returns-in-TooLong-clause-read g c = let f = c.in-TooLong.ensures.bytes in (f.0, f.1, omega (arith, f.2))

pub returns-in-Failed-clause-read : goal.returns-in-Failed-clause-read
returns-in-Failed-clause-read g c = let f = c.in-Failed.ensures.bytes in (f.0, f.1, omega (arith, f.2))
