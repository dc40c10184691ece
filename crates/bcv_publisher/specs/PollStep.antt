-- The step of a poll: the manifest that is there is read, and its databases are known.
use Rattle.std.specs.Prelude.{◌≡◌, ◌≢◌, ◌≤◌, ◌⊎◌, ℕ, max, List, [], Option, Some, Result, Ok, Err, IfSome, MatchOption}
use Rattle.std.specs.Option.{option_map}
use Rattle.bcv_base.specs.declared.id.Id16.{Id16}
use Rattle.bcv_base.specs.declared.manifest.Manifest.{Manifest}
use Rattle.bcv_base.specs.declared.outcome.Outcome.{Outcome}
use Rattle.bcv_base.specs.declared.seen.Latest.{Latest}
use Rattle.bcv_base.specs.declared.seen.Seen.{Seen}
use Rattle.bcv_base.specs.Faults.{Rose}
use Rattle.bcv_base.specs.History.{history_of}
use Rattle.bcv_base.specs.ManifestRules.{MeetsRules}
use Rattle.bcv_cache.specs.Entry as cache
use Rattle.bcv_dbmap.specs.Honest.{GrewHonestly}
use Rattle.bcv_dbmap.specs.RequestGrowth.{RequestGrowth}
use Rattle.bcv_dbmap.specs.Sound.{IsSoundLog}
use Rattle.bcv_machine.specs.Poll.{Polls}
use Rattle.bcv_model.specs.declared.kept.Kept.{Kept}
use Rattle.bcv_model.specs.declared.reply.Reply.{Reply}
use Rattle.bcv_model.specs.declared.reply.Reply.TheVariants as reply
use Rattle.bcv_publish.specs.Request.{TakesOutcome}
use Rattle.bcv_poller.specs.declared.polled.Polled.{Polled}
use Rattle.bcv_poller.specs.declared.polled.Polled.TheVariants as polled
use Rattle.bcv_poller.specs.ManifestPoll.{FollowsSeen}
use Rattle.bcv_store.specs.Plans.{next_of}
use Rattle.bcv_store.specs.StoreShown.{StoreShown, StoreTold}
use Rattle.bcv_databases.specs.declared.known.Known.{Known}
use Rattle.bcv_clientstate.specs.Fits.{Fits}
use Rattle.bcv_clientstate.specs.KnownLaws.{known_of}
use Rattle.bcv_clientstate.specs.Parts.{LedgerParts, Parts, mine_of, with_ledger}
use Rattle.bcv_clientstate.specs.SeenClient.{Free, seen_up, side_of}
use Rattle.bcv_clientlaws.specs.OtherParts.{Includes, with_latest}
use Rattle.bcv_ledger.specs.declared.ledger.Ledger.{Ledger}
use Rattle.bcv_ledger.specs.LedgerNotes.{parts_in}
use Rattle.bcv_ledger.specs.LocalCalls.{IsUnmoved}

-- ---- what was read and seen

-- the manifest keeps the rules, and what was seen of the container counts it
pub record WasSeen (s : Seen) (l : Latest) : Type 0 where
  pub rules : MeetsRules l.manifest
  pub block : s.block ≡ Some l.manifest.block
  pub number : l.manifest.number ≤ s.number

-- the manifest that was read last, where one was, was seen
abbrev pub IsReadForm : Seen → Option Latest → Type 0
IsReadForm s k = IfSome k (WasSeen s)

-- what is seen once this manifest was read: its block size, and the greater number
abbrev pub seen_with : Seen → Manifest → Seen
seen_with s m = record { block = Some m.block; number = max s.number m.number }

-- ---- what a step leaves, over every store

-- the manifest is kept and seen, and its databases are known; it is the one that was kept, or follows what was seen
pub record KnowsRead (kept : Kept) (known : List Known) (s t : Seen) (k l : Option Latest) (n : ℕ) : Type 0 where
  pub latest : Latest
  pub is_latest : l ≡ Some latest
  pub from : (k ≡ Some latest) ⊎ FollowsSeen s latest
  pub number : n ≡ latest.manifest.number
  pub sees : t ≡ seen_with s latest.manifest
  pub knows : known ≡ known_of kept latest.manifest

-- nothing that was known, seen or kept of a manifest has changed
abbrev pub IsUnread : List Known → List Known → Seen → Seen → Option Latest → Option Latest → Type 0
IsUnread before known s t k l = (known ≡ before) × (t ≡ s) × (l ≡ k)

-- what a step leaves, by what it answers
abbrev pub PollLeaves : Kept → List Known → List Known → Seen → Seen → Option Latest → Option Latest → Reply → Type 0
PollLeaves kept before known s t k l (reply.Polled n) = KnowsRead kept known s t k l n
PollLeaves kept before known s t k l reply.NoContainer = IsUnread before known s t k l
PollLeaves kept before known s t k l (reply.BadManifest at) = IsUnread before known s t k l
PollLeaves kept before known s t k l reply.StoreFault = IsUnread before known s t k l
PollLeaves kept before known s t k l reply.NoMemory = IsUnread before known s t k l
PollLeaves kept before known s t k l _ = ⊥

-- ---- over a store that tells

-- the client with this ledger, which saw this and read this manifest last
abbrev pub reading : LedgerParts → Seen → Option Latest → Parts → Parts
reading c s k p = with_latest k s (with_ledger c p)

-- a step over a sound log: how the log grew, which outcome its request had, that the client fits afterwards, and what the
-- machine says, from the side over what others appended to the side over it
pub record PollSays (store : StoreTold) (mine : List Id16) (before after : StoreShown) (p next : Parts)
    (entries : List cache.Entry) (r : Reply) : Type 0 where
  pub growth : RequestGrowth store.alone mine before.log after.log
  pub no_own : growth.own ≡ []
  pub request : Outcome
  pub planned : store.plans → request ≡ next_of before.plan
  pub never_bad : (at : ℕ) → r ≢ reply.BadManifest at
  pub fits : Fits next entries after.log
  pub steps : r ≢ reply.NoMemory → (moment : ℕ) (f : Free)
      → Polls (side_of moment (history_of after.log) p f) (seen_up (history_of after.log) p) request r
      (side_of moment (history_of after.log) next f)

-- the step, for each client that fits a sound log which others grow honestly
abbrev pub PollSteps : StoreTold → StoreShown → StoreShown → LedgerParts → LedgerParts → Seen → Seen → Option Latest → Option Latest
    → Reply → Type 0
PollSteps store before after c d s t k l r =
    (p : Parts) (entries : List cache.Entry) (mine : List Id16) → IsSoundLog before.log
    → Fits (reading c s k p) entries before.log → Includes mine (mine_of (reading c s k p))
    → GrewHonestly store.alone mine before.log after.log
    → PollSays store mine before after (reading c s k p) (reading d t l p) entries r

-- ---- the whole

-- what a step of a poll does; it is one request, and notes nothing
pub record PollStep {D : Type 0} {g : _} (store : StoreTold) (before after : StoreShown) (old new : Ledger D g) (s t : Seen)
    (k l : Option Latest) (r : Reply) : Type 0 where
  pub log : new.log ≡ old.log
  pub kept : new.databases.kept ≡ old.databases.kept
  pub sets : new.databases.sets ≡ old.databases.sets
  pub leaves : PollLeaves old.databases.kept old.databases.known new.databases.known s t k l r
  pub form : IsReadForm t l
  pub taken : TakesOutcome store before after
  pub later : before.faults ≤ after.faults
  pub failed : r ≡ reply.StoreFault → Rose before.faults after.faults
  pub machine : store.tells → PollSteps store before after (parts_in old) (parts_in new) s t k l r

-- ---- the parts of a step, apart from the store

abbrev pub etag_in : Option Latest → Option ℕ
etag_in k = option_map (λ (l : Latest). l.etag) k

-- the databases of a manifest are known, and it is seen
pub record Learns {D : Type 0} {g : _} (old new : Ledger D g) (s t : Seen) (m : Manifest) : Type 0 where
  pub log : new.log ≡ old.log
  pub kept : new.databases.kept ≡ old.databases.kept
  pub sets : new.databases.sets ≡ old.databases.sets
  pub sees : t ≡ seen_with s m
  pub knows : new.databases.known ≡ known_of old.databases.kept m

-- or memory was missing
abbrev pub MayLearn : {D A E : Type 0} {g : _} → Ledger D g → Ledger D g → Seen → Seen → Manifest → Result A E → Type 0
MayLearn old new s t m (Ok done) = Learns old new s t m
MayLearn old new s t m (Err e) = IsUnmoved old new × (t ≡ s)

-- nothing has changed
abbrev pub LearnsNothing : {D : Type 0} {g : _} → Ledger D g → Ledger D g → Seen → Seen → Option Latest → Option Latest → Type 0
LearnsNothing old new s t k l = IsUnmoved old new × (t ≡ s) × (l ≡ k)

-- this manifest is learned and kept, or memory was missing
abbrev pub KeepsPolled : {D : Type 0} {g : _} → Ledger D g → Ledger D g → Seen → Seen → Option Latest → Option Latest → Latest → Reply → Type 0
KeepsPolled old new s t k l x (reply.Polled n) = (n ≡ x.manifest.number) × (l ≡ Some x) × Learns old new s t x.manifest
KeepsPolled old new s t k l x reply.NoMemory = LearnsNothing old new s t k l
KeepsPolled old new s t k l x _ = ⊥

-- what is made of a poll's answer
abbrev pub TakesPoll : {D : Type 0} {g : _} → Ledger D g → Ledger D g → Seen → Seen → Option Latest → Option Latest → Polled → Reply → Type 0
TakesPoll old new s t k l polled.Same r = MatchOption k ⊥ (λ x. KeepsPolled old new s t k l x r)
TakesPoll old new s t k l (polled.New x) r = KeepsPolled old new s t k l x r
TakesPoll old new s t k l polled.NoContainer r = (r ≡ reply.NoContainer) × LearnsNothing old new s t k l
TakesPoll old new s t k l (polled.BadManifest at) r = (r ≡ reply.BadManifest at) × LearnsNothing old new s t k l
TakesPoll old new s t k l polled.StoreFault r = (r ≡ reply.StoreFault) × LearnsNothing old new s t k l
TakesPoll old new s t k l polled.NoMemory r = (r ≡ reply.NoMemory) × LearnsNothing old new s t k l
