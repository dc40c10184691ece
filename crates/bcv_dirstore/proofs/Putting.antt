-- What a put answers, from what the file begins with and what its new contents leave.
use Rattle.std.proofs.Common.{◌≡◌, ◌∙◌, inl, inr, ⊎_elim, ℕ, List, ◌++◌, Some, Ok, Err, ap}
use Rattle.std.specs.Int.{w64, to_be_bytes}
use Rattle.bcv_base.specs.declared.object.ObjName.{ObjName}
use Rattle.bcv_base.specs.declared.object.ObjName.TheVariants as object
use Rattle.bcv_store.specs.declared.store.Cond.{Cond}
use Rattle.bcv_store.specs.declared.store.Put.{Put}
use Rattle.bcv_store.specs.declared.store.Put.TheVariants as put
use Rattle.bcv_dirstore.specs.declared.folder.FolderEnd.TheVariants.{Done}
use Rattle.bcv_dirstore.specs.declared.folder.Front.{Front}
use Rattle.bcv_dirstore.specs.declared.folder.Front.TheVariants as front
use Rattle.bcv_dirstore.specs.FolderShown.{Files, FolderShown}
use Rattle.bcv_dirstore.specs.Answers.{PutsFile, PutAnswersFile, IsSafe}
use Rattle.bcv_dirstore.specs.Steps.{EtagsAsked, Replaces}

module _ (old : Files) (name : ObjName) (cond : Cond) (bytes : List ℕ) (failed : Type 0) where
  -- a put that goes no further than the front of the file
  pub stops : (new : FolderShown) (first : Front) (answer : Put) → new.files ≡ old → (first ≡ front.Failed → failed)
      → EtagsAsked cond (old name) first (Err answer) → PutAnswersFile old new name cond bytes failed answer
  stops new first (put.Stored etag) same rose asked = absurd asked
  stops new first put.Refused same rose asked = (asked, same)
  stops new first put.Failed same rose asked = (⊎_elim (λ barred. inl barred) (λ is. inr (rose is)) asked, inl same)
  stops new first put.NoMemory same rose asked = same

  -- new contents in place of the file, at Done
  pub replaced : (mid new : FolderShown) (first : Front) (etag : ℕ) (front : List ℕ) → mid.files ≡ old → front ≡ to_be_bytes w64 etag
      → EtagsAsked cond (old name) first (Ok etag) → Replaces mid new name front bytes Done → PutsFile old new name cond bytes etag × IsSafe name new
  replaced mid new first etag front same is asked done = (
    record {
      asked = asked.0;
      etag_is = asked.1;
      put = record {
        file = done.0.file ∙ ap (λ (f : List ℕ). Some (f ++ bytes)) is;
        others = λ other apart. done.0.others other apart ∙ ap (λ (files : Files). files other) same;
      };
    },
    done.1,
  )

-- what is on the disk stays there when the lock is given up
safe_stays : (name : ObjName) (mid new : FolderShown) → new.synced ≡ mid.synced → new.named ≡ mid.named → IsSafe name mid → IsSafe name new
safe_stays object.Manifest mid new synced named safe = (synced ∙ safe.0, named ∙ safe.1)
safe_stays (object.Block id) mid new synced named safe = safe

-- an answer stays when the lock is given up
pub unlocked : (old : Files) (mid new : FolderShown) (name : ObjName) (cond : Cond) (bytes : List ℕ) {failed wider : Type 0} (answer : Put)
    → new.files ≡ mid.files → new.synced ≡ mid.synced → new.named ≡ mid.named → (failed → wider)
    → PutAnswersFile old mid name cond bytes failed answer → PutAnswersFile old new name cond bytes wider answer
unlocked old mid new name cond bytes {failed} {wider} answer files synced named widens = by_answer answer
  where
    puts : (etag : ℕ) → PutsFile old mid name cond bytes etag → PutsFile old new name cond bytes etag
    puts etag p = record {
      asked = p.asked;
      etag_is = p.etag_is;
      put = record {
        file = ap (λ (f : Files). f name) files ∙ p.put.file;
        others = λ other apart. ap (λ (f : Files). f other) files ∙ p.put.others other apart;
      };
    }

    by_answer : (answer : Put) → PutAnswersFile old mid name cond bytes failed answer → PutAnswersFile old new name cond bytes wider answer
    by_answer (put.Stored etag) p = (puts etag p.0, safe_stays name mid new synced named p.1)
    by_answer put.Refused p = (p.0, files ∙ p.1)
    by_answer put.Failed p =
        (⊎_elim (λ barred. inl barred) (λ is. inr (widens is)) p.0, ⊎_elim (λ same. inl (files ∙ same)) (λ done. inr (puts _ done)) p.1)
    by_answer put.NoMemory p = files ∙ p
