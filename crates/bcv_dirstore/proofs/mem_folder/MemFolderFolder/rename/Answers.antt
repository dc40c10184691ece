use Rattle.std.proofs.Common.{◌≡◌, ◌∙◌, Bool, sym, ap, subst}
use Rattle.bcv_dirstore.specs.declared.folder.FolderEnd.TheVariants.{Failed, NoMemory}
use Rattle.bcv_dirstore.specs.FolderCalls.{IsForeseen}
use Rattle.bcv_dirstore.specs.MemFiles.{file_of}
use Rattle.bcv_dirstore.proofs.mem_folder.MemFolderFolder.rename.Goals as goal

pub returns-in-Err : goal.returns-in-Err
returns-in-Err c = record {
  renames = record {
    files = λ told. c.in-Err.ensures.same ∙ ap file_of c.strikes.ensures.counted.files;
    lock = λ told. c.strikes.ensures.counted.lock;
    synced = λ told. c.strikes.ensures.counted.synced;
    fails = record {
      later = c.strikes.ensures.counted.later;
      rose = λ is. absurd (cc is);
      planned = λ told. subst (λ (due : Bool). IsForeseen due (NoMemory ≡ Failed)) (sym c.if-strikes.false ∙ c.strikes.ensures.planned) (λ is. absurd (cc is));
    };
  };
}
