-- The step of a resolve, by what was found and by how its note ended.
use Rattle.std.proofs.Common.{◌≡◌, ◌≢◌, ◌∙◌, ◌≤◌, ◌<◌, ◌^◌, ◌||◌, ℕ, Bool, true, false, cond, List, [], ◌∷◌, Option, Some, None, IfSome, nat_lt, le-ltb, inl, inr, refl, sym, ap, subst}
use Rattle.std.proofs.lemmas.Option.{same_Some}
use Rattle.bcv_base.specs.declared.id.Id16.{Id16}
use Rattle.bcv_base.specs.declared.log.Entry.{Entry}
use Rattle.bcv_base.specs.declared.manifest.Manifest.{Manifest}
use Rattle.bcv_base.specs.declared.outcome.Outcome.TheVariants as outcome
use Rattle.bcv_base.specs.declared.seen.Seen.{Seen}
use Rattle.bcv_base.specs.History.{Item, history_of, last_of}
use Rattle.bcv_base.specs.Ids.{IsId}
use Rattle.bcv_base.specs.ManifestRules.{MeetsRules}
use Rattle.bcv_base.specs.Versions.{versions_of}
use Rattle.bcv_cache.specs.Entry as cache
use Rattle.bcv_clientlog.specs.LogParts.{is_shut}
use Rattle.bcv_databases.specs.declared.known.Known.{Known}
use Rattle.bcv_databases.specs.Sound.{AreDatabases}
use Rattle.bcv_dbmap.specs.ManifestLaws.{IsOwnOf, publication}
use Rattle.bcv_dbmap.specs.Past.{Publication, last_own}
use Rattle.bcv_dbmap.specs.Sound.{IsSoundLog, Sound}
use Rattle.bcv_dbmap.proofs.ManifestLaws.{last_own_is_published}
use Rattle.bcv_disk.specs.DiskShown.{DiskShown, DiskTold}
use Rattle.bcv_machine.specs.Resolve.{Resolves, number_from}
use Rattle.bcv_machine.specs.State as m
use Rattle.bcv_model.specs.declared.kept.Kept.{Kept}
use Rattle.bcv_model.specs.declared.kept.PendingPub.{PendingPub}
use Rattle.bcv_model.specs.declared.note.Note.{Note}
use Rattle.bcv_model.specs.declared.note.Note.TheVariants as note
use Rattle.bcv_model.specs.declared.reply.Reply.{Reply}
use Rattle.bcv_model.specs.declared.reply.Reply.TheVariants as reply
use Rattle.bcv_model.specs.NoteRules.{Folds, IsVersionNumber, MayStand}
use Rattle.bcv_model.specs.Notes.{after_note, note_size}
use Rattle.bcv_publish.specs.declared.resolved.Resolved.{Resolved}
use Rattle.bcv_publish.specs.declared.resolved.Resolved.TheVariants as resolved
use Rattle.bcv_publish.specs.ManifestRead.{is_other, unlike}
use Rattle.bcv_publish.specs.Resolve.{ResolveSound}
use Rattle.bcv_publish.specs.State.{new_publish}
use Rattle.bcv_store.specs.StoreShown.{StoreShown, StoreTold}
use Rattle.bcv_clientstate.specs.Fits.{Fits, FitsPending, FitsSeen}
use Rattle.bcv_clientstate.specs.Journaled.{Journaled, free_failed, free_noted}
use Rattle.bcv_clientstate.specs.LocalSides.{shut}
use Rattle.bcv_clientstate.specs.NoteSides.{with_note}
use Rattle.bcv_clientstate.specs.PartRefusals.{runs_publication}
use Rattle.bcv_clientstate.specs.Parts.{LedgerParts, Parts, mine_of, with_ledger}
use Rattle.bcv_clientstate.specs.SeenClient.{Free, seen_up, side_of}
use Rattle.bcv_clientstate.specs.SeenContainer.{HasBase}
use Rattle.bcv_clientstate.specs.SeenKept.{seen_note}
use Rattle.bcv_clientstate.proofs.ResolveSides.{at_is_found, fresh_is_not_found}
use Rattle.bcv_clientlaws.proofs.Appended.{seen_later}
use Rattle.bcv_clientlaws.specs.OtherParts.{FitsKept, Includes}
use Rattle.bcv_clientlaws.specs.Resolves.{IsResolved, resolved_at}
use Rattle.bcv_clientlaws.proofs.ManifestsRead.{rules_of, seen_is_seen_in}
use Rattle.bcv_clientlaws.proofs.OtherParts.{shut_fits}
use Rattle.bcv_clientlaws.proofs.PendingEnds.{may_finish, may_void}
use Rattle.bcv_clientlaws.proofs.ResolveSteps.{resolved_is_not_noted, resolves_at, resolves_void, void_is_not_noted}
use Rattle.bcv_ledger.specs.declared.ledger.Ledger.{Ledger}
use Rattle.bcv_ledger.specs.FitsLedger.{FitsLedger, IsUploadedAt}
use Rattle.bcv_ledger.specs.LedgerNotes.{parts_in}
use Rattle.bcv_ledger.specs.NoteEnds.{EndGoes, IsNoteFault, NoteEnds, ShutAfter, known_found}
use Rattle.bcv_ledger.proofs.FitsLedger.{resolved_keeps_fit, void_keeps_fit}
use Rattle.bcv_publisher.specs.NotesFit.{FoldsFit}
use Rattle.bcv_publisher.specs.PutStep.{Armed}
use Rattle.bcv_publisher.specs.ResolveStep.{ResolveSays}
use Rattle.bcv_publisher.proofs.Grown.{fits_grown, fits_with_ledger, follows_seen, grown_by_others, ledger_of_fits, same_ledger}
use Rattle.bcv_publisher.proofs.NotesFit.{client_kept, noted_kept, void_kept}

-- ---- what is seen

neither : (a b : Bool) (x y : Option ℕ) → a ≡ false → b ≡ false → cond (a || false) x (cond (b || false) y None) ≡ None
neither true b x y one two = absurd (cc)
neither false true x y one two = absurd (cc)
neither false false x y one two = refl

like_seen : (past : List Item) (writer id : Id16) (s : Seen) (m : Manifest) → Sound past → last_of past ≡ Some m → FitsSeen past s → unlike (new_publish writer id) s m ≡ None
like_seen past writer id s m sound last fits =
    let follows = follows_seen past s m sound last (seen_is_seen_in past s sound fits) in
    neither (nat_lt m.number s.number) (is_other s.block m.block) (Some 8) (Some 24) (le-ltb m.number s.number follows.0) follows.1

module _ (store : StoreTold) (mine : List Id16) (before after : StoreShown) (s : Seen) (writer id : Id16) where
  pub not_bad : (at : ℕ) → ResolveSound store mine before after s writer id (resolved.BadManifest at) → FitsSeen (history_of before.log) s → ⊥
  not_bad at told fits =
      let grown = grown_by_others store.alone mine before.log after.log told.growth told.no_own in
      let is_seen : FitsSeen (history_of after.log) s = subst (λ (log : List Entry). FitsSeen (history_of log) s) (sym grown) (seen_later before.log told.growth.others s fits) in
      let none : unlike (new_publish writer id) s told.ends.0 ≡ None = like_seen (history_of after.log) writer id s told.ends.0 told.growth.sound told.ends.2 is_seen in
      let both : None ≡ Some at = sym none ∙ told.ends.3 in cc

-- ---- what is pending

-- a writer's last publication has a version's number
own_number : (past : List Item) (writer id : Id16) (n : ℕ) → Sound past → last_own past writer ≡ Some (publication id n) → IsVersionNumber n
own_number past writer id n sound last =
    let own : IsOwnOf past writer (publication id n) = last_own_is_published past writer (publication id n) last in
    let rules : MeetsRules own.manifest = rules_of past own.manifest sound.reads own.published in
    record { least = subst (λ (k : ℕ). 1 ≤ k) own.number rules.least; most = subst (λ (k : ℕ). k < 2 ^ 64) own.number rules.number }

-- what was found to be made is in its version
pub uploaded_at : (past : List Item) (writer : Id16) (x : PendingPub) (n : ℕ) → Sound past → last_own past writer ≡ Some (publication x.id n) → FitsPending past writer x → IsUploadedAt past n (Some x)
uploaded_at past writer x n sound last (inl fresh) =
    absurd (let found : number_from 1 x.id (versions_of past) ≡ Some n = at_is_found outcome.Ok past (record { block = None; number = 0 }) writer x n sound (refl, last) in
    let none : number_from 1 x.id (versions_of past) ≡ None = fresh_is_not_found past x.id fresh in
    let both : None ≡ Some n = sym none ∙ found in cc)
uploaded_at past writer x n sound last (inr made) =
    let same = same_Some (publication x.id made.number) (publication x.id n) (sym made.last ∙ last) in
    subst (λ (k : ℕ). IfSome x.upload (λ u. HasBase past k u.block u.entry)) (ap (λ (y : Publication). y.number) same) made.entry

-- ---- over a sound log

module _ {D : Type 0} {g : _} (told : DiskTold) (shown : D → DiskShown) (store : StoreTold) (mine : List Id16) (before after : StoreShown) (old new : Ledger D g) (s : Seen) (p : Parts)
    (entries : List cache.Entry) (x : PendingPub) (is_open : is_shut old.log ≡ false) (is_id : IsId x.id) (tells : told.tells) (sound : IsSoundLog before.log)
    (fits : Fits (with_ledger (parts_in old) p) entries before.log) (quiet : runs_publication p ≡ false) (all : Includes mine (mine_of (with_ledger (parts_in old) p)))
    (pending : old.databases.kept.pending ≡ Some x) where
  abbrev here : Parts
  here = with_ledger (parts_in old) p

  abbrev next : Parts
  next = with_ledger (parts_in new) p

  abbrev past : List Item
  past = history_of after.log

  module _ (answer : Resolved) (finds : ResolveSound store mine before after s p.id x.id answer) where
    here_fits : Fits here entries after.log
    here_fits = fits_grown store.alone mine before.log after.log here entries finds.growth finds.no_own sound all fits

    is_resolved : IsResolved after.log entries here x s finds.outcome answer
    is_resolved = record { sound = finds.growth.sound; fits = here_fits; quiet = quiet; pending = pending; is_id = is_id; ends = finds.ends }

    -- what was kept still fits
    kept_now : FitsKept after.log p.id old.databases.kept []
    kept_now = client_kept after.log entries here here_fits

    says : (notes : List Note) (r : Reply) → (end : Kept) × Folds old.databases.kept notes end → FoldsFit after.log p.id old.databases.kept notes → Fits next entries after.log
        → ((f : Free) → Journaled shown old.log old.databases.kept f → Armed r f
        → (free : Free) × Journaled shown new.log new.databases.kept free
        × (r ≢ reply.NoMemory → (moment : ℕ) → Resolves (side_of moment past here f) (seen_up past here) finds.outcome r (side_of moment past next free)))
        → ResolveSays shown store mine before after old new notes p entries r
    says notes r may left next_fits steps = record {
      growth = finds.growth;
      no_own = finds.no_own;
      request = finds.outcome;
      planned = finds.next;
      may = may;
      left = left;
      fits = next_fits;
      steps = steps;
    }

    -- the machine resolves to the client that it is
    resolves : (r : Reply) (ended : Parts) (f free : Free) (moment : ℕ) → next ≡ ended → Resolves (side_of moment past here f) (seen_up past here) finds.outcome r (side_of moment past ended free)
        → Resolves (side_of moment past here f) (seen_up past here) finds.outcome r (side_of moment past next free)
    resolves r ended f free moment is h =
        subst (λ (y : Parts). Resolves (side_of moment past here f) (seen_up past here) finds.outcome r (side_of moment past y free)) (sym is) h

    -- ---- the client afterwards

    next_is : (a : Bool) (k : Kept) (ks : List Known) → is_shut new.log ≡ a → new.databases.kept ≡ k → new.databases.known ≡ ks → next ≡ record here { closed = a; kept = k; known = ks }
    next_is a k ks closed kept known =
        ap (λ (c : LedgerParts). with_ledger c p) (same_ledger (is_shut new.log) a new.databases.kept k new.databases.known ks closed kept known)

    stays_fit : next ≡ here → Fits next entries after.log
    stays_fit is = subst (λ (y : Parts). Fits y entries after.log) (sym is) here_fits

    fails_fit : next ≡ shut here → Fits next entries after.log
    fails_fit is = subst (λ (y : Parts). Fits y entries after.log) (sym is) (shut_fits after.log here entries here_fits)

    ends_fit : AreDatabases new.databases → is_shut new.log ≡ false → FitsLedger past p.id new.databases.kept new.databases.known → Fits next entries after.log
    ends_fit holds closed ledger =
        subst (λ (y : Parts). Fits y entries after.log) (sym (next_is (is_shut old.log) new.databases.kept new.databases.known (closed ∙ sym is_open) refl refl))
        (fits_with_ledger after.log here entries new.databases here_fits quiet holds ledger)

    -- ---- a note

    -- a note that failed, which may stand
    failed : (z : Note) (y : m.Note) (known : List Known) (fault : Reply) → MayStand old.databases.kept z → seen_note old.databases.kept z ≡ Some y
        → FitsKept after.log p.id (after_note old.databases.kept z) [] → NoteEnds told shown old new z known (Some fault) → fault ≢ reply.JournalFull
        → ((f : Free) → f.failing ≡ true → (moment : ℕ) → Resolves (side_of moment past here f) (seen_up past here) finds.outcome reply.DiskFault (side_of moment past (shut here) (free_failed (note_size z) y f)))
        → ResolveSays shown store mine before after old new (z ∷ []) p entries fault
    failed z y known fault may is noted ends room machine =
        says (z ∷ []) fault (after_note old.databases.kept z, (may, refl)) (kept_now, noted) (fit fault ends.shut ends.answers room) (λ f journaled armed. step fault ends.shut room f armed (ends.goes tells may f journaled y is))
      where
        same : (a : Bool) → is_shut new.log ≡ a → next ≡ record here { closed = a }
        same a closed = next_is a old.databases.kept old.databases.known closed ends.kept ends.knows

        fit : (r : Reply) → ShutAfter (Some r) (is_shut new.log) → IsNoteFault (Some r) → r ≢ reply.JournalFull → Fits next entries after.log
        fit reply.DiskFault closed answers room = fails_fit (same true closed)
        fit reply.NoMemory closed answers room = stays_fit (same (is_shut old.log) (closed ∙ sym is_open))
        fit reply.JournalFull closed answers room = absurd (room refl)
        fit _ closed answers room = absurd answers

        step : (r : Reply) → ShutAfter (Some r) (is_shut new.log) → r ≢ reply.JournalFull → (f : Free) → Armed r f → EndGoes shown new.log new.databases.kept f z y (Some r)
            → (free : Free) × Journaled shown new.log new.databases.kept free
            × (r ≢ reply.NoMemory → (moment : ℕ) → Resolves (side_of moment past here f) (seen_up past here) finds.outcome r (side_of moment past next free))
        step reply.DiskFault closed room f armed goes =
            (free_failed (note_size z) y f, goes, λ memory moment. resolves reply.DiskFault (shut here) f (free_failed (note_size z) y f) moment (same true closed) (machine f armed moment))
        step reply.NoMemory closed room f armed goes = (f, goes, λ memory moment. absurd (memory refl))
        step reply.JournalFull closed room f armed goes = absurd (room refl)
        step _ closed room f armed goes = absurd goes

    -- nothing was noted
    pub unnoted : (r : Reply) → new ≡ old → (r ≢ reply.NoMemory → (moment : ℕ) (f : Free) → Resolves (side_of moment past here f) (seen_up past here) finds.outcome r (side_of moment past here f))
        → ResolveSays shown store mine before after old new [] p entries r
    unnoted r same machine =
        let is : next ≡ here = ap (λ (l : Ledger D g). with_ledger (parts_in l) p) same in
        says [] r (old.databases.kept, refl) kept_now (stays_fit is) (λ f journaled armed. (
          f,
          subst (λ (l : Ledger D g). Journaled shown l.log l.databases.kept f) (sym same) journaled,
          λ memory moment. resolves r here f f moment is (machine memory moment f),
        ))

  -- ---- what was found

  -- a version has it
  module _ (n : ℕ) (finds : ResolveSound store mine before after s p.id x.id (resolved.At n)) where
    abbrev found_is : IsResolved after.log entries here x s finds.outcome (resolved.At n)
    found_is = is_resolved (resolved.At n) finds

    may_done : MayStand old.databases.kept (note.Done x.id n)
    may_done =
        (may_finish after.log entries here x finds.growth.sound found_is.fits pending is_id n
        (own_number (history_of after.log) p.id x.id n finds.growth.sound finds.ends.1)).may

    -- what is kept and known once done is noted
    found_ledger : FitsLedger (history_of after.log) p.id (after_note old.databases.kept (note.Done x.id n)) (known_found old.databases.kept x.id n old.databases.known)
    found_ledger =
        let at : IsUploadedAt (history_of after.log) n old.databases.kept.pending =
        subst (λ (o : Option PendingPub). IsUploadedAt (history_of after.log) n o) (sym pending)
        (uploaded_at (history_of after.log) p.id x n finds.growth.sound finds.ends.1
        (subst (λ (o : Option PendingPub). IfSome o (FitsPending (history_of after.log) p.id)) pending found_is.fits.pending)) in
        resolved_keeps_fit (history_of after.log) p.id old.databases.kept old.databases.known x.id n
        (ledger_of_fits after.log here entries found_is.fits) at

    left_done : FitsKept after.log p.id (after_note old.databases.kept (note.Done x.id n)) []
    left_done =
        noted_kept after.log p.id old.databases.kept (note.Done x.id n) (known_found old.databases.kept x.id n old.databases.known) found_is.fits.ordered may_done found_ledger

    pub found_says : AreDatabases new.databases → NoteEnds told shown old new (note.Done x.id n) (known_found old.databases.kept x.id n old.databases.known) None
        → ResolveSays shown store mine before after old new (note.Done x.id n ∷ []) p entries (reply.Resolved n)
    found_says holds ends =
        let k : Kept = after_note old.databases.kept (note.Done x.id n) in
        let ks : List Known = known_found old.databases.kept x.id n old.databases.known in
        let ledger_now : FitsLedger (history_of after.log) p.id new.databases.kept new.databases.known =
        subst (λ (y : Kept). FitsLedger (history_of after.log) p.id y new.databases.known) (sym ends.kept)
        (subst (λ (y : List Known). FitsLedger (history_of after.log) p.id k y) (sym ends.knows) found_ledger) in
        says (resolved.At n) finds
        (note.Done x.id n ∷ []) (reply.Resolved n) (k, (may_done, refl)) (kept_now (resolved.At n) finds, left_done)
        (ends_fit (resolved.At n) finds holds ends.shut ledger_now)
        (λ f journaled armed. (
          free_noted (note_size (note.Done x.id n)) f,
          ends.goes tells may_done f journaled (m.Finishing n) refl,
          λ memory moment.
              resolves (resolved.At n) finds (reply.Resolved n)
              (resolved_at n x.id here) f (free_noted (note_size (note.Done x.id n)) f) moment
              (next_is (resolved.At n) finds (is_shut old.log) k ks (ends.shut ∙ sym is_open)
              ends.kept ends.knows)
              (resolves_at moment after.log entries here f x n s finds.outcome found_is),
        ))

    pub found_fails : (fault : Reply) → NoteEnds told shown old new (note.Done x.id n) (known_found old.databases.kept x.id n old.databases.known) (Some fault) → fault ≢ reply.JournalFull
        → ResolveSays shown store mine before after old new (note.Done x.id n ∷ []) p entries fault
    found_fails fault ends room =
        failed (resolved.At n) finds (note.Done x.id n) (m.Finishing n)
        (known_found old.databases.kept x.id n old.databases.known) fault may_done refl left_done ends room
        (λ f failing moment. resolved_is_not_noted moment after.log entries here f x n s finds.outcome found_is failing)

  -- no version has it
  module _ (finds : ResolveSound store mine before after s p.id x.id resolved.Voided) where
    abbrev none_is : IsResolved after.log entries here x s finds.outcome resolved.Voided
    none_is = is_resolved resolved.Voided finds

    may_end : MayStand old.databases.kept (note.Void x.id)
    may_end = (may_void after.log entries here x finds.growth.sound none_is.fits pending is_id).may

    left_void : FitsKept after.log p.id (after_note old.databases.kept (note.Void x.id)) []
    left_void = void_kept after.log p.id x.id old.databases.kept (kept_now resolved.Voided finds)

    pub voided_says : AreDatabases new.databases → NoteEnds told shown old new (note.Void x.id) old.databases.known None
        → ResolveSays shown store mine before after old new (note.Void x.id ∷ []) p entries reply.Voided
    voided_says holds ends =
        let k : Kept = after_note old.databases.kept (note.Void x.id) in
        let ledger : FitsLedger (history_of after.log) p.id k old.databases.known =
        void_keeps_fit (history_of after.log) p.id old.databases.kept old.databases.known x.id
        (ledger_of_fits after.log here entries none_is.fits) in
        let ledger_now : FitsLedger (history_of after.log) p.id new.databases.kept new.databases.known =
        subst (λ (y : Kept). FitsLedger (history_of after.log) p.id y new.databases.known) (sym ends.kept)
        (subst (λ (y : List Known). FitsLedger (history_of after.log) p.id k y) (sym ends.knows) ledger) in
        says resolved.Voided finds
        (note.Void x.id ∷ []) reply.Voided (k, (may_end, refl)) (kept_now resolved.Voided finds, left_void)
        (ends_fit resolved.Voided finds holds ends.shut ledger_now)
        (λ f journaled armed. (
          free_noted (note_size (note.Void x.id)) f,
          ends.goes tells may_end f journaled m.Voiding refl,
          λ memory moment.
              resolves resolved.Voided finds reply.Voided
              (with_note (note.Void x.id) here) f (free_noted (note_size (note.Void x.id)) f) moment
              (next_is resolved.Voided finds (is_shut old.log) k old.databases.known
              (ends.shut ∙ sym is_open) ends.kept ends.knows)
              (resolves_void moment after.log entries here f x s finds.outcome none_is),
        ))

    pub voided_fails : (fault : Reply) → NoteEnds told shown old new (note.Void x.id) old.databases.known (Some fault) → fault ≢ reply.JournalFull
        → ResolveSays shown store mine before after old new (note.Void x.id ∷ []) p entries fault
    voided_fails fault ends room =
        failed resolved.Voided finds (note.Void x.id) m.Voiding
        old.databases.known fault may_end refl left_void ends room
        (λ f failing moment. void_is_not_noted moment after.log entries here f x s finds.outcome none_is failing)
