use Rattle.std.proofs.Common.{inl, refl}
use Rattle.bcv_dirstore.proofs.dir_store.delete_locked.Goals as goal

pub returns-in-Failed : goal.returns-in-Failed
returns-in-Failed g c = record {
  files = λ told. record {
    locked = (g.F.Folder.shown c.lock.new.self).files;
    files = λ alone. c.lock.ensures.locks.files told alone;
    unlocked = c.in-Failed.ensures.locks.lock told;
    answers = (c.in-Failed.ensures.locks.fails.rose refl, inl refl);
  };
}
