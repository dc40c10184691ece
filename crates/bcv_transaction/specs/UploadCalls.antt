-- What a step of an upload does over the cache that the open transactions share.
use Rattle.std.specs.Prelude.{◌≡◌, ◌⊎◌, List, Some, None}
use Rattle.bcv_base.specs.declared.seen.Seen.{Seen}
use Rattle.bcv_base.specs.Drawn.{NamesShown}
use Rattle.bcv_base.specs.Image.{Writes}
use Rattle.bcv_cache.specs.Entry.{Blocks}
use Rattle.bcv_publish.specs.declared.work.Work.{Work}
use Rattle.bcv_publish.specs.declared.work.Work.TheVariants as work
use Rattle.bcv_store.specs.StoreShown.{StoreShown, StoreTold}
use Rattle.bcv_transaction.specs.Open.{Open}
use Rattle.bcv_transaction.specs.OpenCalls.{cache_made}
use Rattle.bcv_upload.specs.State.{State}
use Rattle.bcv_upload.specs.UploadWork.{TaskWorks, WorkLeaves, cache_after, is_fetch}

-- what the store and the names show, and the upload
pub record Moment : Type 0 where
  pub store : StoreShown
  pub names : NamesShown
  pub upload : State

-- a step of the upload over the cache: what it keeps, what the cache is then, and all that it says of the store and the names
pub record UploadWorks (told : StoreTold) (seen : Seen) (view : List Writes) (old : Moment) (result : Work) (new : Moment) (c d : Blocks) : Type 0 where
  pub leaves : WorkLeaves old.upload.publish.latest (is_fetch view c old.upload) seen old.upload result new.upload
  pub cache : d ≡ cache_after old.upload.publish.latest view old.upload c
  pub works : TaskWorks told old.store new.store old.names new.names seen view c old.upload result new.upload

-- there is no memory for the cache, and nothing has changed
pub record UploadRests (o : Open) (old : Moment) (result : Work) (n : Open) (new : Moment) : Type 0 where
  pub none : o.cache ≡ None
  pub no_memory : result ≡ work.NoMemory
  pub same : n ≡ o
  pub rest : new ≡ old

-- a step of an upload over the cache, which is made where it is not there; or there is no memory for it
abbrev pub Uploads : StoreTold → Seen → List Writes → Open → Moment → Work → Open → Moment → Type 0
Uploads told seen view o old result n new =
    ((d : Blocks) × (n ≡ record o { cache = Some d }) × UploadWorks told seen view old result new (cache_made o.slots old.upload.base.block o.cache) d)
    ⊎ UploadRests o old result n new
