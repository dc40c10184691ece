use Rattle.bcv_databases.proofs.databases.Databases.finished.Goals as goal

pub returns : goal.returns
returns c id = record { kept = c.end_pending.ensures.kept id; known = c.end_pending.ensures.known; views = c.end_pending.ensures.views }
