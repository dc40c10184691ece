use Rattle.std.specs.Prelude.{None}
use Rattle.bcv_daemon.proofs.connections.serve_stream.Goals as goal

pub returns-clause-served : goal.returns-clause-served
returns-clause-served g c =
    let s = c.serve_top.ensures.serves in
    record { taken = s.0; written = s.1; later = None; ended = c.serve_top.result; served = s.4 }
