use Rattle.std.proofs.Common.{◌≡◌, Bool, true, false, refl, rules, subst, sym}
use Rattle.bcv_model.specs.declared.note.Note.TheVariants.{Void}
use Rattle.bcv_ledger.specs.LedgerNotes.{EndsWhere}
use Rattle.bcv_ledger.proofs.where_noted.void_where.Goals as goal

pub returns-then-stands : goal.returns-then-stands
returns-then-stands c id =
    let is : c.args.stands ≡ true = (search rules) in
    subst (λ (b : Bool). EndsWhere b c.args.databases.now c.voided.new.self (Void id)) (sym is) (c.voided.ensures id)

pub returns-else-stands : goal.returns-else-stands
returns-else-stands c id =
    let is : c.args.stands ≡ false = (search rules) in
    subst (λ (b : Bool). EndsWhere b c.args.databases.now c.args.databases.now (Void id)) (sym is) refl
