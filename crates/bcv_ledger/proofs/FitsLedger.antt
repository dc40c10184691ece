-- What of a client's fitting a log concerns its ledger stays.
use Rattle.std.proofs.Common.{◌≡◌, ℕ, Bool, true, false, cond, List, [], ◌∷◌, ◌++◌, drop, Option, Some, None, IfSome, is_some, bytes_eq, refl, subst}
use Rattle.std.proofs.lemmas.Option.{same_Some}
use Rattle.std.specs.List.{AllByRecursion}
use Rattle.bcv_base.specs.declared.id.Id16.{Id16}
use Rattle.bcv_base.specs.History.{Item}
use Rattle.bcv_base.specs.Keyed.{keyed, with_made, without_keyed}
use Rattle.bcv_databases.specs.Catalog.{known_name}
use Rattle.bcv_databases.specs.Changes.{base_of, known_left, note_over, published, upload_left}
use Rattle.bcv_databases.specs.declared.known.Known.{Known}
use Rattle.bcv_model.specs.declared.ask.Commit.{Commit}
use Rattle.bcv_model.specs.declared.kept.Kept.{Kept}
use Rattle.bcv_model.specs.declared.kept.Local.{Local}
use Rattle.bcv_model.specs.declared.kept.PendingPub.{PendingPub}
use Rattle.bcv_model.specs.declared.kept.Uploading.{Uploading}
use Rattle.bcv_model.specs.declared.note.Note.{Note}
use Rattle.bcv_model.specs.declared.note.Note.TheVariants as note
use Rattle.bcv_model.specs.Notes.{after_note, kept_name, kept_published, rebased, replaced_local, with_published}
use Rattle.bcv_clientstate.specs.BaseLaws.{FitsLocal}
use Rattle.bcv_clientstate.specs.Fits.{FitsKnown, FitsPending}
use Rattle.bcv_clientstate.specs.SeenContainer.{HasBase}
use Rattle.bcv_clientstate.proofs.KnownLaws.{known_fits}
use Rattle.bcv_dbmap.proofs.Keys.{all_found, all_with, all_without}
use Rattle.bcv_ledger.specs.FitsLedger.{CommitKeepsFit, FitsLedger, IntentKeepsFit, IsUploadedAt, MadeKeepsFit, PollKeepsFit, ResolvedKeepsFit, RevertKeepsFit, VoidKeepsFit}

-- ---- databases with commits

all_more : (P : Local → Type 0) (xs ys : List Local) → AllByRecursion P xs → AllByRecursion P ys → AllByRecursion P (xs ++ ys)
all_more P [] ys xall yall = yall
all_more P (x ∷ xs) ys xall yall = (xall.0, all_more P xs ys xall.1 yall)

all_replaced : (P : Local → Type 0) (change : Local → List Local) → ((l : Local) → P l → AllByRecursion P (change l)) → (db : List ℕ) (ls : List Local) → AllByRecursion P ls
    → AllByRecursion P (replaced_local change db ls)
all_replaced P change keeps db [] all = tt
all_replaced P change keeps db (l ∷ ls) all = by (bytes_eq (kept_name l) db) (all_replaced P change keeps db ls all.1)
  where
    by : (b : Bool) → AllByRecursion P (replaced_local change db ls) → AllByRecursion P (cond b (change l ++ ls) (l ∷ replaced_local change db ls))
    by true rest = all_more P (change l) ls (keeps l all.0) all.1
    by false rest = (all.0, rest)

-- ---- commits and reverts

module _ (past : List Item) (id : Id16) (k : Kept) (known : List Known) (fits : FitsLedger past id k known) where
  more : (db : List ℕ) (c : Commit) → FitsLedger past id (after_note k (note.Committed db c)) (without_keyed known_name db known)
  more db c = record {
    named = fits.named;
    locals = all_replaced (FitsLocal past) (λ (l : Local). record l { commits = l.commits ++ c ∷ [] } ∷ []) (λ l has. (has, tt)) db k.locals fits.locals;
    known_fit = all_without known_name (FitsKnown past) db known fits.known_fit;
    pending = fits.pending;
  }

  first : (db : List ℕ) (c : Commit) (x : Known) → keyed known_name db known ≡ Some x → FitsLedger past id (after_note k (note.First x.entry x.number x.block c)) (without_keyed known_name db known)
  first db c x is = record {
    named = fits.named;
    locals = all_with kept_name (FitsLocal past) (record { entry = x.entry; number = x.number; block = x.block; commits = c ∷ [] }) k.locals (all_found known_name (FitsKnown past) db known x fits.known_fit is) fits.locals;
    known_fit = all_without known_name (FitsKnown past) db known fits.known_fit;
    pending = fits.pending;
  }

  committed : (db : List ℕ) (c : Commit) (x : Note) (a : Option Local) (b : Option Known) → keyed known_name db known ≡ b → note_over db c a b ≡ Some x → FitsLedger past id (after_note k x) (without_keyed known_name db known)
  committed db c x (Some l) b is e = subst (λ (y : Note). FitsLedger past id (after_note k y) (without_keyed known_name db known)) (same_Some (note.Committed db c) x e) (more db c)
  committed db c x None (Some y) is e = subst (λ (z : Note). FitsLedger past id (after_note k z) (without_keyed known_name db known)) (same_Some (note.First y.entry y.number y.block c) x e) (first db c y is)
  committed db c x None None is e = absurd (cc)

  -- ---- publications

  done_locals : (number : ℕ) (p : Option PendingPub) → IsUploadedAt past number p → AllByRecursion (FitsLocal past) (kept_published number k p).locals
  done_locals number None at = fits.locals
  done_locals number (Some p) at = by p.upload at
    where
      left : (u : Uploading) → HasBase past number u.block u.entry → (cs : List Commit) → AllByRecursion (FitsLocal past) (rebased number u cs)
      left u has [] = tt
      left u has (c ∷ cs) = (has, tt)

      by : (upload : Option Uploading) → IfSome upload (λ u. HasBase past number u.block u.entry) → AllByRecursion (FitsLocal past) (with_published number upload k.locals)
      by None at = fits.locals
      by (Some u) at = all_replaced (FitsLocal past) (λ (l : Local). rebased number u (drop u.count l.commits)) (λ l has. left u at (drop u.count l.commits)) u.entry.name k.locals fits.locals

  done_named : (number : ℕ) (p : Option PendingPub) → (kept_published number k p).me ≡ Some id
  done_named number None = fits.named
  done_named number (Some p) = fits.named

  done_pending : (number : ℕ) (p : Option PendingPub) → k.pending ≡ p → IfSome (kept_published number k p).pending (FitsPending past id)
  done_pending number None e = fits.pending
  done_pending number (Some p) e = tt

  done : (number : ℕ) (now : List Known) → IsUploadedAt past number k.pending → AllByRecursion (FitsKnown past) now → FitsLedger past id (kept_published number k k.pending) now
  done number now at all = record {
    named = done_named number k.pending;
    locals = done_locals number k.pending at;
    known_fit = all;
    pending = done_pending number k.pending refl;
  }

  with_left : (number : ℕ) (locals : List Local) (p : Option PendingPub) → IsUploadedAt past number p → AllByRecursion (FitsKnown past) (with_made known_name (known_left number locals p) known)
  with_left number locals None at = fits.known_fit
  with_left number locals (Some p) at = by p.upload at
    where
      by : (upload : Option Uploading) → IfSome upload (λ u. HasBase past number u.block u.entry) → AllByRecursion (FitsKnown past) (with_made known_name (upload_left number locals upload) known)
      by None at = fits.known_fit
      by (Some u) at = step (is_some (keyed kept_name u.entry.name locals))
        where
          step : (b : Bool) → AllByRecursion (FitsKnown past) (with_made known_name (cond b None (Some (published number u))) known)
          step true = fits.known_fit
          step false = all_with known_name (FitsKnown past) (published number u) known at fits.known_fit

pub commit_keeps_fit : CommitKeepsFit
commit_keeps_fit past id k known db c x fits e = committed past id k known fits db c x (keyed kept_name db k.locals) (keyed known_name db known) refl e

pub revert_keeps_fit : RevertKeepsFit
revert_keeps_fit past id k known db l fits is = record {
  named = fits.named;
  locals = all_without kept_name (FitsLocal past) db k.locals fits.locals;
  known_fit = all_with known_name (FitsKnown past) (base_of l) known (all_found kept_name (FitsLocal past) db k.locals l fits.locals is) fits.known_fit;
  pending = fits.pending;
}

pub intent_keeps_fit : IntentKeepsFit
intent_keeps_fit past id k known x fits made = record { named = fits.named; locals = fits.locals; known_fit = fits.known_fit; pending = made }

pub void_keeps_fit : VoidKeepsFit
void_keeps_fit past id k known pub_id fits = record { named = fits.named; locals = fits.locals; known_fit = fits.known_fit; pending = tt }

pub made_keeps_fit : MadeKeepsFit
made_keeps_fit past id k known pub_id number read sound there fits at =
    done past id k known fits number _ at (known_fits past (after_note k (note.Done pub_id number)) read sound there).fits

pub resolved_keeps_fit : ResolvedKeepsFit
resolved_keeps_fit past id k known pub_id number fits at =
    done past id k known fits number _ at (with_left past id k known fits number (after_note k (note.Done pub_id number)).locals k.pending at)

pub poll_keeps_fit : PollKeepsFit
poll_keeps_fit past id k known read sound there fits = record { named = fits.named; locals = fits.locals; known_fit = (known_fits past k read sound there).fits; pending = fits.pending }
