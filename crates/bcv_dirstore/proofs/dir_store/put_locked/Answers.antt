use Rattle.std.proofs.Common.{inl, inr, refl, arith}
use Rattle.bcv_dirstore.proofs.Putting.{unlocked}
use Rattle.bcv_dirstore.proofs.dir_store.put_locked.Goals as goal

pub returns-in-Failed : goal.returns-in-Failed
returns-in-Failed g c = record {
  files = λ told. record {
    locked = (g.F.Folder.shown c.lock.new.self).files;
    files = λ alone. c.lock.ensures.locks.files told alone;
    unlocked = c.in-Failed.ensures.locks.lock told;
    answers = (inr (c.in-Failed.ensures.locks.fails.rose refl), inl refl);
  };
}

pub returns : goal.returns
returns g c = record {
  files = λ told. record {
    locked = (g.F.Folder.shown c.lock.new.self).files;
    files = λ alone. c.lock.ensures.locks.files told alone;
    unlocked = c.unlock.ensures.unlocks.lock told;
    answers =
        unlocked (g.F.Folder.shown c.lock.new.self).files (g.F.Folder.shown c.put_object-answer.new.folder) (g.F.Folder.shown c.unlock.new.self)
        c.args.name.now c.args.cond c.args.bytes.now c.put_object-answer.result (c.unlock.ensures.unlocks.files told) (c.unlock.ensures.unlocks.synced told)
        (c.unlock.ensures.unlocks.named told) (λ rose. omega (arith, rose, c.lock.ensures.locks.fails.later, c.unlock.ensures.unlocks.faults)) (c.put_object-answer.ensures.puts told);
  };
}
