-- The law is that of the definitions, at this span.
use Rattle.bcv_vfs.proofs.Covering.{Cover-range, sum_by-pieces_of}
use Rattle.bcv_vfs.proofs.Images.{flat_map-pieces_of}
use Rattle.bcv_vfs.proofs.Parts.{length-pieces_of}
use Rattle.bcv_vfs.proofs.Span.pieces_are_the_range.Goals as goal

pub returns-clause-covers : goal.returns-clause-covers
returns-clause-covers c = Cover-range c.args.self.now c.requires

pub returns-clause-few : goal.returns-clause-few
returns-clause-few c = length-pieces_of c.args.self.now

pub returns-clause-whole : goal.returns-clause-whole
returns-clause-whole c = sum_by-pieces_of c.args.self.now c.requires

pub returns-clause-reads : goal.returns-clause-reads
returns-clause-reads c = flat_map-pieces_of c.args.self.now
