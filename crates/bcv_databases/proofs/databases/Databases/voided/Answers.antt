use Rattle.std.proofs.Common.{refl}
use Rattle.bcv_model.specs.declared.note.Note.TheVariants.{Void}
use Rattle.bcv_databases.proofs.Ends.{ends_over}
use Rattle.bcv_databases.proofs.Slots.{keeps_all}
use Rattle.bcv_databases.proofs.databases.Databases.voided.Goals as goal

pub returns : goal.returns
returns c id = ends_over c.args.self.now _ _ (Void id) c.self.view_is refl refl (keeps_all c.self.inside.sets.items)
