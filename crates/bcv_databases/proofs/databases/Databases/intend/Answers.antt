use Rattle.std.proofs.Common.{refl}
use Rattle.bcv_model.specs.declared.note.Note.TheVariants.{Intent}
use Rattle.bcv_databases.proofs.Ends.{ends_over}
use Rattle.bcv_databases.proofs.Slots.{keeps_all}
use Rattle.bcv_databases.proofs.databases.Databases.intend.Goals as goal

pub returns : goal.returns
returns c = ends_over c.args.self.now _ _ (Intent c.args.pending) c.self.view_is refl refl (keeps_all c.self.inside.sets.items)
