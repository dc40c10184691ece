-- A step of an upload, over the cache that is made for it.
use Rattle.std.proofs.Common.{◌≡◌, ◌∙◌, ℕ, ◌/◌, ◌^◌, ◌≤◌, true, false, min, List, Option, Some, None, IfSome, Result, Ok, Err, is_err, refl, sym, ap, subst, inl, inr}
use Rattle.std.specs.declared.alloc.AllocError.{AllocError}
use Rattle.std.proofs.lemmas.Option.{same_Some}
use Rattle.bcv_base.specs.declared.seen.Seen.{Seen}
use Rattle.bcv_base.specs.Image.{Writes}
use Rattle.bcv_cache.specs.Entry.{Blocks}
use Rattle.bcv_publish.specs.declared.work.Work.{Work}
use Rattle.bcv_publish.specs.declared.work.Work.TheVariants as work
use Rattle.bcv_store.specs.StoreShown.{StoreTold}
use Rattle.bcv_transaction.specs.declared.open_txn.OpenTxn.{OpenTxn}
use Rattle.bcv_transaction.specs.ListCalls.{SameSize}
use Rattle.bcv_transaction.specs.Open.{AreOpenIn, AreOpenWith, Open}
use Rattle.bcv_transaction.specs.OpenCalls.{OpensCache, cache_made, with_cache}
use Rattle.bcv_transaction.specs.UploadCalls.{Moment, UploadWorks, Uploads}
use Rattle.bcv_transaction.proofs.BegunTxns.{made_block, made_by}

-- there is no memory for the cache
pub none_made : (told : StoreTold) (seen : Seen) (view : List Writes) (o n : Open) (at : Moment) (block : ℕ) (r : Result (Unit {0}) AllocError) → OpensCache o block r n → is_err r ≡ true → Uploads told seen view o at work.NoMemory n at
none_made told seen view o n at block (Ok done) made err = absurd (cc)
none_made told seen view o n at block (Err e) made err = inr (record { none = made.0; no_memory = refl; same = made.1; rest = refl })

-- the cache is that which was there, or an empty one
pub record IsMade (o : Open) (block : ℕ) (now : Open) (c : Blocks) : Type 0 where
  pub cache : c ≡ cache_made o.slots block o.cache
  pub slots : now.slots ≡ o.slots
  pub txns : now.txns ≡ o.txns

pub is_made : (o n now : Open) (block : ℕ) (r : Result (Unit {0}) AllocError) (c : Blocks) → OpensCache o block r n → is_err r ≡ false → now ≡ n → now.cache ≡ Some c → IsMade o block now c
is_made o n now block r c made ok same is =
    let whole : now ≡ with_cache block o = same ∙ made_by o n block r made ok in
    record { cache = same_Some c (cache_made o.slots block o.cache) (sym is ∙ ap (λ (x : Open). x.cache) whole); slots = ap (λ (x : Open). x.slots) whole; txns = ap (λ (x : Open). x.txns) whole }

pub never_none : (o n now : Open) (block : ℕ) (r : Result (Unit {0}) AllocError) → OpensCache o block r n → is_err r ≡ false → now ≡ n → now.cache ≡ None → ⊥
never_none o n now block r made ok same is =
    let whole : now ≡ with_cache block o = same ∙ made_by o n block r made ok in
    let both : ◌≡◌ {A = Option Blocks} None (Some (cache_made o.slots block o.cache)) = sym is ∙ ap (λ (x : Open). x.cache) whole in
    absurd (cc)

pub size_made : (o now : Open) (block size : ℕ) (c : Blocks) → IsMade o block now c → block ≡ size → IfSome o.cache (λ (x : Blocks). x.block ≡ size) → c.block ≡ size
size_made o now block size c made is same =
    ap (λ (x : Blocks). x.block) made.cache ∙ made_block o.slots block o.cache (subst (λ (k : ℕ). IfSome o.cache (λ (x : Blocks). x.block ≡ k)) (sym is) same) ∙ is

-- the transactions over the cache that there is
pub over_cache : (slots : ℕ) (x : Option Blocks) (ts us : List OpenTxn) (c : Blocks) → AreOpenWith slots x ts → x ≡ Some c → us ≡ ts → AreOpenIn c us
over_cache slots x ts us c opened is same =
    let there : AreOpenWith slots (Some c) ts = subst (λ (y : Option Blocks). AreOpenWith slots y ts) is opened in
    subst (AreOpenIn c) (sym same) there.0

pub still_over : (slots : ℕ) (x : Option Blocks) (ts us : List OpenTxn) (c d : Blocks) → AreOpenWith slots x ts → x ≡ Some c → us ≡ ts → AreOpenIn d us → SameSize c d → AreOpenWith slots (Some d) ts
still_over slots x ts us c d opened is same after size =
    let there : AreOpenWith slots (Some c) ts = subst (λ (y : Option Blocks). AreOpenWith slots y ts) is opened in
    (subst (AreOpenIn d) same after, subst (λ (k : ℕ). 1 ≤ k) (sym size.block) there.1, size.most ∙ there.2 ∙ ap (λ (k : ℕ). min slots (2 ^ 30 / k)) (sym size.block))

-- the step over the cache
pub uploads : (told : StoreTold) (seen : Seen) (view : List Writes) (o now : Open) (old new : Moment) (r : Work) (block : ℕ) (c d : Blocks) → IsMade o block now c → block ≡ old.upload.base.block
    → UploadWorks told seen view old r new c d → Uploads told seen view o old r (record now { cache = Some d }) new
uploads told seen view o now old new r block c d made is works =
    let cache : c ≡ cache_made o.slots old.upload.base.block o.cache = made.cache ∙ ap (λ (k : ℕ). cache_made o.slots k o.cache) is in
    let same : record now { cache = Some d } ≡ record o { cache = Some d } =
    ap (λ (k : ℕ). record now { slots = k; cache = Some d }) made.slots ∙ ap (λ (ts : List OpenTxn). record o { cache = Some d; txns = ts }) made.txns
    in
    inl (d, same, subst (λ (x : Blocks). UploadWorks told seen view old r new x d) cache works)
