use Rattle.std.proofs.Common.{◌∙◌, List, refl, sym, subst}
use Rattle.std.specs.Option.{option_copied}
use Rattle.bcv_base.specs.declared.id.Id16.{Id16}
use Rattle.bcv_base.specs.Faults.{Rose}
use Rattle.bcv_dirstore.specs.FolderShown.{Files}
use Rattle.bcv_dirstore.specs.FolderCalls.{AreBlocks}
use Rattle.bcv_dirstore.specs.Index.{ListsFirst}
use Rattle.bcv_dirstore.proofs.FirstIds.{lists_files}
use Rattle.bcv_dirstore.proofs.listing.list_blocks.Goals as goal

pub returns-in-Done-end-clause-files : goal.returns-in-Done-end-clause-files
returns-in-Done-end-clause-files g c = λ told.
    let same = c.unlock.ensures.unlocks.files told ∙ (c.blocks-end.ensures.blocks.leaves told).files in
    record {
      files = λ alone. same ∙ c.lock.ensures.locks.files told alone;
      unlocked = c.unlock.ensures.unlocks.lock told;
      answers =
          lists_files (g.F.Folder.shown c.unlock.new.self).files c.blocks-end.new.into.items (option_copied c.args.after) c.first_ids.new.into.items
          (Rose (g.F.Folder.shown c.args.folder.now).faults (g.F.Folder.shown c.unlock.new.self).faults) c.first_ids.result
          (subst (λ (files : Files). AreBlocks files c.blocks-end.new.into.items) (sym same) (c.in-Done-end.ensures.blocks.are told refl))
          (subst (λ (ids : List Id16). ListsFirst ids (option_copied c.args.after) c.first_ids.new.into.items c.first_ids.result) c.deref.ensures.value c.first_ids.ensures.listed);
    }
