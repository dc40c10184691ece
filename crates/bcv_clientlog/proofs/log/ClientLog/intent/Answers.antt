use Rattle.std.proofs.Common.{◌≡◌, ◌≢◌, refl, rules}
use Rattle.bcv_journal.specs.declared.fault.Noted.TheVariants as noted
use Rattle.bcv_model.specs.declared.note.Note.TheVariants.{Intent}
use Rattle.bcv_clientlog.proofs.LogNoted.{compacts}
use Rattle.bcv_clientlog.proofs.log.ClientLog.intent.Goals as goal

pub returns-then-eq-clause-notes : goal.returns-then-eq-clause-notes
returns-then-eq-clause-notes g c =
    let done : c.add_compactly-noted.result ≡ noted.Done = (search rules) in
    compacts g.D.Disk.told g.D.Disk.shown g.met.D.Disk.only_now c.args.self.now _ (Intent c.args.pending.now) c.add_compactly-noted.result (λ was. refl) (λ other. absurd (other done)) c.args.kept.now c.is_dense-self.result c.is_dense-self.ensures (λ is. (is, tt)) c.intent_note-text.result c.intent_note-text.ensures (λ may. may.named) refl c.add_compactly-noted.ensures

pub returns-else-eq-clause-notes : goal.returns-else-eq-clause-notes
returns-else-eq-clause-notes g c =
    let not_done : c.add_compactly-noted.result ≢ noted.Done = (search rules) in
    compacts g.D.Disk.told g.D.Disk.shown g.met.D.Disk.only_now c.args.self.now _ (Intent c.args.pending.now) c.add_compactly-noted.result (λ done. absurd (not_done done)) (λ other. refl) c.args.kept.now c.is_dense-self.result c.is_dense-self.ensures (λ is. (is, tt)) c.intent_note-text.result c.intent_note-text.ensures (λ may. may.named) refl c.add_compactly-noted.ensures
