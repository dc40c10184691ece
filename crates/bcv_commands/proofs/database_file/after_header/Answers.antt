use Rattle.std.proofs.Common.{sym, arith}
use Rattle.bcv_commands.proofs.Headers.{pages_are_file, size_range}
use Rattle.bcv_commands.proofs.database_file.after_header.Goals as goal

pub read_pages-requires-clause-sized : goal.read_pages-requires-clause-sized
read_pages-requires-clause-sized g c = let r = size_range c.args.header.now c.in-Some.page_size (sym c.in-Some.ensures) in omega (arith, r.0)

pub read_pages-requires-clause-header : goal.read_pages-requires-clause-header
read_pages-requires-clause-header g c = let r = size_range c.args.header.now c.in-Some.page_size (sym c.in-Some.ensures) in omega (arith, r.0, c.requires.header)

pub read_pages-requires-clause-small : goal.read_pages-requires-clause-small
read_pages-requires-clause-small g c = (size_range c.args.header.now c.in-Some.page_size (sym c.in-Some.ensures)).1

pub returns-in-Some-clause-read : goal.returns-in-Some-clause-read
returns-in-Some-clause-read g c =
    pages_are_file (g.I.Source.left c.args.input.now) (g.I.Source.left c.read_pages.new.input) c.read_pages.result c.in-Some.page_size c.args.header.now c.requires.header (sym c.in-Some.ensures) c.read_pages.ensures.read
