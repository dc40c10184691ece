-- What a crash leaves of a client's notes fits a log.
use Rattle.std.proofs.Common.{◌≡◌, ◌∙◌, ◌+◌, ◌*◌, ℕ, List, [], ◌∷◌, Option, Some, None, IfSome, inl, inr, sym, ap, subst}
use Rattle.bcv_base.specs.declared.id.Id16.{Id16}
use Rattle.bcv_base.specs.declared.log.Entry.{Entry}
use Rattle.bcv_base.specs.History.{history_of}
use Rattle.bcv_cache.specs.Entry as cache
use Rattle.bcv_clientlog.specs.LogParts.{LoadsAs, LoadsUpTo}
use Rattle.bcv_clientlog.proofs.LoadedLog.{loads_once}
use Rattle.bcv_databases.specs.declared.known.Known.{Known}
use Rattle.bcv_model.specs.declared.kept.Kept.{Kept}
use Rattle.bcv_model.specs.declared.kept.PendingPub.{PendingPub}
use Rattle.bcv_model.specs.declared.note.Note.{Note}
use Rattle.bcv_model.specs.declared.note.Note.TheVariants as note
use Rattle.bcv_model.specs.NoteRules.{MayStand}
use Rattle.bcv_model.specs.Notes.{after_note, note_size}
use Rattle.bcv_clientstate.specs.Fits.{Fits, FitsPending}
use Rattle.bcv_clientstate.specs.KeptLaws.{IsOrdered}
use Rattle.bcv_clientstate.specs.Parts.{Parts}
use Rattle.bcv_clientstate.proofs.NoteLaws.{keep_order}
use Rattle.bcv_clientlaws.specs.OtherParts.{FitsKept}
use Rattle.bcv_ledger.specs.Begins.{WaitsFor}
use Rattle.bcv_ledger.specs.FitsLedger.{FitsLedger}
use Rattle.bcv_publisher.specs.NotesFit.{FoldsFit}
use Rattle.bcv_publisher.proofs.Grown.{ledger_of_fits}
use Rattle.bcv_publisher.proofs.StepMoments.{begun_notes}

-- ---- what is kept

-- of a ledger
pub ledger_kept : (log : List Entry) (id : Id16) (k : Kept) (known : List Known) → FitsLedger (history_of log) id k known → IsOrdered k → FitsKept log id k []
ledger_kept log id k known fits ordered =
    record { named = fits.named; ordered = ordered; locals = fits.locals; are_known = record { order = tt; apart = tt; fits = tt }; pending = fits.pending }

-- after a note
pub noted_kept : (log : List Entry) (id : Id16) (k : Kept) (x : Note) (known : List Known) → IsOrdered k → MayStand k x → FitsLedger (history_of log) id (after_note k x) known
    → FitsKept log id (after_note k x) []
noted_kept log id k x known ordered may fits = ledger_kept log id (after_note k x) known fits (keep_order k x ordered may)

-- of a client
pub client_kept : (log : List Entry) (entries : List cache.Entry) (p : Parts) → Fits p entries log → FitsKept log p.id p.kept []
client_kept log entries p fits = ledger_kept log p.id p.kept p.known (ledger_of_fits log p entries fits) fits.ordered

-- with another publication pending, or none
pub kept_pending : (log : List Entry) (id : Id16) (k : Kept) (o : Option PendingPub) → FitsKept log id k [] → IfSome o (FitsPending (history_of log) id) → FitsKept log id (record k { pending = o }) []
kept_pending log id k o fits made =
    record { named = fits.named; ordered = fits.ordered; locals = fits.locals; are_known = record { order = tt; apart = tt; fits = tt }; pending = made }

pub void_kept : (log : List Entry) (id i : Id16) (k : Kept) → FitsKept log id k [] → FitsKept log id (after_note k (note.Void i)) []
void_kept log id i k fits = kept_pending log id k None fits tt

-- ---- notes one after the other

pub front_fits : (log : List Entry) (id : Id16) (k : Kept) (ys : List Note) → FoldsFit log id k ys → FitsKept log id k []
front_fits log id k [] fits = fits
front_fits log id k (y ∷ ys) fits = fits.0

same_kept : (k : Kept) (o : Option PendingPub) → k.pending ≡ o → k ≡ record k { pending = o }
same_kept k o is = ap (λ (p : Option PendingPub). let j : Kept = record k { pending = p } in j) is

-- the intent first, where nothing was pending
pub begun_fits : (log : List Entry) (id : Id16) (k : Kept) (x : PendingPub) (o : Option PendingPub) (ys : List Note) → k.pending ≡ o → WaitsFor o x
    → FoldsFit log id (record k { pending = Some x }) ys → FoldsFit log id k (begun_notes o x ys)
begun_fits log id k x None ys is waits fits =
    let begun : FitsKept log id (record k { pending = Some x }) [] = front_fits log id (record k { pending = Some x }) ys fits in
    (subst (λ (j : Kept). FitsKept log id j []) (sym (same_kept k None is)) (kept_pending log id (record k { pending = Some x }) None begun tt), fits)
begun_fits log id k x (Some p) ys is waits fits =
    subst (λ (j : Kept). FoldsFit log id j ys) (sym (same_kept k (Some x) (is ∙ ap Some waits))) fits

-- ---- what an image loads as

pub image_fits : (log : List Entry) (id : Id16) (k : Kept) (most : ℕ) (ys : List Note) → FoldsFit log id k ys → (image : List ℕ) → LoadsUpTo k most ys image
    → (left : Kept) (long : ℕ) → LoadsAs image left long → FitsKept log id left []
image_fits log id k most [] fits image loads left long is = subst (λ (j : Kept). FitsKept log id j []) (loads_once image k left most long loads is) fits
image_fits log id k most (y ∷ ys) fits image (inl loads) left long is = subst (λ (j : Kept). FitsKept log id j []) (loads_once image k left most long loads is) fits.0
image_fits log id k most (y ∷ ys) fits image (inr loads) left long is = image_fits log id (after_note k y) (most + 2 * (5 + note_size y)) ys fits.1 image loads left long is
