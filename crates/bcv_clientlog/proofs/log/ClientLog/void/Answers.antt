use Rattle.std.proofs.Common.{◌≡◌, ◌≢◌, refl, rules}
use Rattle.bcv_journal.specs.declared.fault.Noted.TheVariants as noted
use Rattle.bcv_model.specs.declared.note.Note.TheVariants.{Void}
use Rattle.bcv_clientlog.proofs.LogNoted.{brief_void, never_full, notes}
use Rattle.bcv_clientlog.proofs.log.ClientLog.void.Goals as goal

pub returns-then-eq-clause-notes : goal.returns-then-eq-clause-notes
returns-then-eq-clause-notes g c =
    let done : c.add-noted.result ≡ noted.Done = (search rules) in
    notes g.D.Disk.told g.D.Disk.shown g.met.D.Disk.only_now c.args.self.now _ (Void c.args.id.now) c.add-noted.result (λ was. refl) (λ other. absurd (other done)) refl c.void_note.result c.void_note.ensures c.add-noted.ensures

pub returns-else-eq-clause-notes : goal.returns-else-eq-clause-notes
returns-else-eq-clause-notes g c =
    let not_done : c.add-noted.result ≢ noted.Done = (search rules) in
    notes g.D.Disk.told g.D.Disk.shown g.met.D.Disk.only_now c.args.self.now _ (Void c.args.id.now) c.add-noted.result (λ done. absurd (not_done done)) (λ other. refl) refl c.void_note.result c.void_note.ensures c.add-noted.ensures

pub returns-else-eq-clause-fits : goal.returns-else-eq-clause-fits
returns-else-eq-clause-fits g c =
    never_full g.D.Disk.told g.D.Disk.shown c.args.self.now.journal c.add-noted.new.journal c.void_note.result c.add-noted.result c.add-noted.ensures (brief_void c.void_note.result c.args.id.now (search rules) c.void_note.ensures) (search rules)
