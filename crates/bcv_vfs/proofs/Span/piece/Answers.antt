-- What the page in which the body looks gives is the i-th piece.
use Rattle.std.proofs.Common.{◌≡◌, ◌+◌, ◌/◌, arith}
use Rattle.bcv_vfs.proofs.Covering.{lands-pieces_of}
use Rattle.bcv_vfs.proofs.Parts.{found_at, no_piece_here, piece_found, piece_missing}
use Rattle.bcv_vfs.proofs.Span.piece.Goals as goal

pub returns-then-before-from-clause-exact : goal.returns-then-before-from-clause-exact
returns-then-before-from-clause-exact c =
    no_piece_here c.args.self.now c.args.i (c.args.self.now.off / c.from-page_size.result + c.from.result) (cc) (λ within. absurd (omega (arith, c.saturating_add-before.ensures)))

pub returns-then-end-begin-clause-exact : goal.returns-then-end-begin-clause-exact
returns-then-end-begin-clause-exact c =
    let at : c.saturating_add-before.result ≡ c.args.self.now.off / c.from-page_size.result + c.from.result = omega (arith, c.saturating_add-before.ensures) in
    piece_missing c.args.self.now c.args.i _ c.saturating_add-before.result c.max-begin.result c.min-end.result
    c.requires c.from-page_size.ensures (cc) (cc) (omega arith) (omega arith)

pub returns-clause-exact : goal.returns-clause-exact
returns-clause-exact c =
    let at : c.saturating_add-before.result ≡ c.args.self.now.off / c.from-page_size.result + c.from.result = omega (arith, c.saturating_add-before.ensures) in
    piece_found c.args.self.now c.args.i c.from-page_size.result c.saturating_add-before.result c.max-begin.result c.min-end.result _ _ _ _
    c.requires c.from-page_size.ensures (cc) (omega arith) (cc) (omega arith) (omega arith) (omega arith) (omega arith) (omega arith) (omega arith)

pub returns-clause-lands : goal.returns-clause-lands
returns-clause-lands c = lands-pieces_of c.args.self.now c.args.i _ c.requires (returns-clause-exact c)

pub returns-then-before-from-clause-found : goal.returns-then-before-from-clause-found
returns-then-before-from-clause-found c = found_at _ c.args.i _ (returns-then-before-from-clause-exact c)

pub returns-then-end-begin-clause-found : goal.returns-then-end-begin-clause-found
returns-then-end-begin-clause-found c = found_at _ c.args.i _ (returns-then-end-begin-clause-exact c)

pub returns-clause-found : goal.returns-clause-found
returns-clause-found c = found_at _ c.args.i _ (returns-clause-exact c)
