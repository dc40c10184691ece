-- The step of a poll, by what was answered.
use Rattle.std.proofs.Common.{◌≡◌, ◌≢◌, ◌∙◌, ◌≤◌, ◌⊎◌, ℕ, List, Option, Some, None, IfSome, MatchOption, inl, inr, refl, sym, ap, subst, arith}
use Rattle.bcv_base.specs.declared.id.Id16.{Id16}
use Rattle.bcv_base.specs.declared.manifest.Manifest.{Manifest}
use Rattle.bcv_base.specs.declared.outcome.Outcome.{Outcome}
use Rattle.bcv_base.specs.declared.outcome.Outcome.TheVariants as outcome
use Rattle.bcv_base.specs.declared.seen.Latest.{Latest}
use Rattle.bcv_base.specs.declared.seen.Seen.{Seen}
use Rattle.bcv_base.specs.History.{Item, history_of, last_of}
use Rattle.bcv_base.specs.ManifestRules.{MeetsRules}
use Rattle.bcv_cache.specs.Entry as cache
use Rattle.bcv_clientlog.specs.declared.log.ClientLog.{ClientLog}
use Rattle.bcv_clientlog.specs.LogParts.{is_shut}
use Rattle.bcv_databases.specs.Catalog.{Catalog}
use Rattle.bcv_dbmap.specs.Kept.{IsKept}
use Rattle.bcv_dbmap.specs.Outlived.{IsPublished}
use Rattle.bcv_dbmap.specs.Sound.{IsSoundLog, Sound}
use Rattle.bcv_dbmap.proofs.KeptLaws.{kept_published}
use Rattle.bcv_machine.specs.Poll.{Polls}
use Rattle.bcv_model.specs.declared.reply.Reply.{Reply}
use Rattle.bcv_model.specs.declared.reply.Reply.TheVariants as reply
use Rattle.bcv_poller.specs.declared.polled.Polled.{Polled}
use Rattle.bcv_poller.specs.declared.polled.Polled.TheVariants as polled
use Rattle.bcv_poller.specs.ManifestPoll.{FollowsSeen, ManifestPolls, PollSound, SoundPollEnds}
use Rattle.bcv_store.specs.StoreShown.{StoreShown, StoreTold}
use Rattle.bcv_clientstate.specs.Fits.{Fits, FitsSeen}
use Rattle.bcv_clientstate.specs.KnownLaws.{known_of}
use Rattle.bcv_clientstate.specs.Parts.{LedgerParts, Parts, mine_of}
use Rattle.bcv_clientstate.specs.PollSides.{with_read}
use Rattle.bcv_clientstate.specs.SeenClient.{Free, seen_up, side_of}
use Rattle.bcv_clientstate.proofs.PollSides.{fault_is_polled, none_is_polled, read_is_polled}
use Rattle.bcv_clientlaws.specs.OtherParts.{Includes}
use Rattle.bcv_clientlaws.proofs.ManifestsRead.{number_within, read_fits, seen_is_seen_in}
use Rattle.bcv_ledger.specs.declared.ledger.Ledger.{Ledger}
use Rattle.bcv_ledger.specs.LedgerNotes.{parts_in}
use Rattle.bcv_publisher.proofs.Grown.{fits_grown, same_ledger}
use Rattle.bcv_publisher.specs.PollStep.{IsReadForm, IsUnread, KeepsPolled, Learns, LearnsNothing, PollLeaves, PollSays, PollStep, PollSteps, TakesPoll, WasSeen, etag_in, reading, seen_with}

-- ---- what was seen

-- a manifest of the log may be added to what was seen of it
seen_fits : (past : List Item) (s : Seen) (m : Manifest) → Sound past → IsPublished m past → FitsSeen past s → FitsSeen past (seen_with s m)
seen_fits past s m sound there fits =
    let within : m.number ≤ _ = number_within past m sound there in
    let seen : s.number ≤ _ = fits.number in
    record { block = (m, there, refl); number = omega (arith, within, seen) }

learned_form : (s : Seen) (x : Latest) → MeetsRules x.manifest → WasSeen (seen_with s x.manifest) x
learned_form s x rules = record { rules = rules; block = refl; number = omega arith }

-- ---- the client

same_reading : (p : Parts) (c d : LedgerParts) (s t : Seen) (k l : Option Latest) → d ≡ c → t ≡ s → l ≡ k → reading d t l p ≡ reading c s k p
same_reading p c d s t k l parts sees keeps =
    ap (λ (x : LedgerParts). reading x t l p) parts ∙ ap (λ (x : Seen). reading c x l p) sees ∙ ap (λ (x : Option Latest). reading c s x p) keeps

-- ---- over a sound log

module _ (store : StoreTold) (mine : List Id16) (before after : StoreShown) (c : LedgerParts) (s : Seen) (k : Option Latest) (p : Parts) (entries : List cache.Entry)
    (sound : IsSoundLog before.log) (fits : Fits (reading c s k p) entries before.log) (all : Includes mine (mine_of (reading c s k p)))
    (answer : Polled) (polls : PollSound store mine before after s (etag_in k) answer) where
  abbrev here : Parts
  here = reading c s k p

  abbrev past : List Item
  past = history_of after.log

  here_fits : Fits here entries after.log
  here_fits = fits_grown store.alone mine before.log after.log here entries polls.growth polls.no_own sound all fits

  says : (next : Parts) (r : Reply) → Fits next entries after.log → ((at : ℕ) → r ≢ reply.BadManifest at)
      → (r ≢ reply.NoMemory → (moment : ℕ) (f : Free) → Polls (side_of moment past here f) (seen_up past here) polls.outcome r (side_of moment past next f))
      → PollSays store mine before after here next entries r
  says next r next_fits good steps = record {
    growth = polls.growth;
    no_own = polls.no_own;
    request = polls.outcome;
    planned = polls.next;
    never_bad = good;
    fits = next_fits;
    steps = steps;
  }

  -- the last manifest was read
  says_read : (x : Latest) (d : LedgerParts) (t : Seen) (l : Option Latest) → polls.outcome ≡ outcome.Ok → IsKept after.log x → last_of past ≡ Some x.manifest
      → d ≡ record c { known = known_of c.kept x.manifest } → t ≡ seen_with s x.manifest → l ≡ Some x
      → PollSays store mine before after here (reading d t l p) entries (reply.Polled x.manifest.number)
  says_read x d t l is kept last parts sees keeps =
      let u : Seen = seen_with s x.manifest in
      let is_seen : FitsSeen past u = seen_fits past s x.manifest polls.growth.sound (kept_published after.log x kept) here_fits.seen in
      subst (λ (next : Parts). PollSays store mine before after here next entries (reply.Polled x.manifest.number))
      (sym (same_reading p (record c { known = known_of c.kept x.manifest }) d u t (Some x) l parts sees keeps))
      (says (with_read x u here) (reply.Polled x.manifest.number) (read_fits after.log here entries x u polls.growth.sound here_fits kept is_seen) (λ at e. cc)
      (λ memory moment f.
      subst (λ (o : Outcome). Polls (side_of moment past here f) (seen_up past here) o (reply.Polled x.manifest.number) (side_of moment past (with_read x u here) f)) (sym is)
      (read_is_polled moment past here f x u polls.growth.sound last)))

  -- all is as it was
  module _ (d : LedgerParts) (t : Seen) (l : Option Latest) (parts : d ≡ c) (sees : t ≡ s) (keeps : l ≡ k) where
    unread : (r : Reply) → PollSays store mine before after here here entries r → PollSays store mine before after here (reading d t l p) entries r
    unread r h = subst (λ (next : Parts). PollSays store mine before after here next entries r) (sym (same_reading p c d s t k l parts sees keeps)) h

    says_none : SoundPollEnds polls.outcome after.log s (etag_in k) polled.NoContainer → PollSays store mine before after here (reading d t l p) entries reply.NoContainer
    says_none ends =
        unread reply.NoContainer (says here reply.NoContainer here_fits (λ at e. cc) (λ memory moment f.
        subst (λ (o : Outcome). Polls (side_of moment past here f) (seen_up past here) o reply.NoContainer (side_of moment past here f)) (sym ends.0)
        (none_is_polled moment past here f polls.growth.sound ends.1)))

    says_fault : SoundPollEnds polls.outcome after.log s (etag_in k) polled.StoreFault → PollSays store mine before after here (reading d t l p) entries reply.StoreFault
    says_fault ends =
        unread reply.StoreFault
        (says here reply.StoreFault here_fits (λ at e. cc) (λ memory moment f. fault_is_polled moment past here f polls.outcome (λ e. ends e)))

    says_memory : PollSays store mine before after here (reading d t l p) entries reply.NoMemory
    says_memory = unread reply.NoMemory (says here reply.NoMemory here_fits (λ at e. cc) (λ memory moment f. absurd (memory refl)))

  not_bad : (at : ℕ) → answer ≡ polled.BadManifest at → ⊥
  not_bad at is = polls.never_bad (seen_is_seen_in past s polls.growth.sound here_fits.seen) at is

-- ---- every answer

module _ {D : Type 0} {g : _} (store : StoreTold) (before after : StoreShown) (old new : Ledger D g) (s t : Seen) (k l : Option Latest) (form : IsReadForm s k) where
  -- nothing has changed
  module _ (answer : Polled) (polls : ManifestPolls store before after s (etag_in k) answer) (same : LearnsNothing old new s t k l) where
    parts_stay : parts_in new ≡ parts_in old
    parts_stay =
        same_ledger (is_shut new.log) (is_shut old.log) new.databases.kept old.databases.kept new.databases.known old.databases.known (ap (λ (y : ClientLog D g). is_shut y) same.0.log)
        (ap (λ (y : Catalog). y.kept) same.0.databases) (ap (λ (y : Catalog). y.known) same.0.databases)

    is_unread : IsUnread old.databases.known new.databases.known s t k l
    is_unread = (ap (λ (y : Catalog). y.known) same.0.databases, same.1, same.2)

    stays : (r : Reply) → PollLeaves old.databases.kept old.databases.known new.databases.known s t k l r → (r ≡ reply.StoreFault → answer ≡ polled.StoreFault)
        → (store.tells → PollSteps store before after (parts_in old) (parts_in new) s t k l r) → PollStep store before after old new s t k l r
    stays r leaves failed machine = record {
      log = same.0.log;
      kept = ap (λ (y : Catalog). y.kept) same.0.databases;
      sets = ap (λ (y : Catalog). y.sets) same.0.databases;
      leaves = leaves;
      form = subst (λ (y : Seen). IsReadForm y l) (sym same.1) (subst (λ (y : Option Latest). IsReadForm s y) (sym same.2) form);
      taken = polls.taken;
      later = polls.later;
      failed = λ e. polls.failed (failed e);
      machine = machine;
    }

    out_of_memory : PollStep store before after old new s t k l reply.NoMemory
    out_of_memory = stays reply.NoMemory is_unread (λ e. absurd (cc)) (λ tells p entries mine sound fits all honest.
        says_memory store mine before after (parts_in old) s k p entries sound fits all answer (polls.sound tells mine sound honest) (parts_in new) t l parts_stay same.1 same.2)

  no_container : ManifestPolls store before after s (etag_in k) polled.NoContainer → LearnsNothing old new s t k l → PollStep store before after old new s t k l reply.NoContainer
  no_container polls same =
      stays polled.NoContainer polls same reply.NoContainer (is_unread polled.NoContainer polls same) (λ e. absurd (cc)) (λ tells p entries mine sound fits all honest.
      let told = polls.sound tells mine sound honest in
      says_none store mine before after (parts_in old) s k p entries sound fits all polled.NoContainer told (parts_in new) t l (parts_stay polled.NoContainer polls same) same.1 same.2 told.ends)

  store_fault : ManifestPolls store before after s (etag_in k) polled.StoreFault → LearnsNothing old new s t k l → PollStep store before after old new s t k l reply.StoreFault
  store_fault polls same =
      stays polled.StoreFault polls same reply.StoreFault (is_unread polled.StoreFault polls same) (λ e. refl) (λ tells p entries mine sound fits all honest.
      let told = polls.sound tells mine sound honest in
      says_fault store mine before after (parts_in old) s k p entries sound fits all polled.StoreFault told (parts_in new) t l (parts_stay polled.StoreFault polls same) same.1 same.2 told.ends)

  bad_manifest : (at : ℕ) → ManifestPolls store before after s (etag_in k) (polled.BadManifest at) → LearnsNothing old new s t k l
      → PollStep store before after old new s t k l (reply.BadManifest at)
  bad_manifest at polls same =
      stays (polled.BadManifest at) polls same (reply.BadManifest at) (is_unread (polled.BadManifest at) polls same) (λ e. absurd (cc)) (λ tells p entries mine sound fits all honest.
      absurd (not_bad store mine before after (parts_in old) s k p entries sound fits all (polled.BadManifest at) (polls.sound tells mine sound honest) at refl))

  -- a manifest was read
  module _ (answer : Polled) (polls : ManifestPolls store before after s (etag_in k) answer) (x : Latest) (learns : Learns old new s t x.manifest) (keeps : l ≡ Some x)
      (rules : MeetsRules x.manifest) (from : (k ≡ Some x) ⊎ FollowsSeen s x)
      (ends : (o : Outcome) → IfSome k (IsKept after.log) → SoundPollEnds o after.log s (etag_in k) answer → (o ≡ outcome.Ok) × IsKept after.log x × (last_of (history_of after.log) ≡ Some x.manifest)) where
    parts_read : parts_in new ≡ record (parts_in old) { known = known_of old.databases.kept x.manifest }
    parts_read =
        same_ledger (is_shut new.log) (is_shut old.log) new.databases.kept old.databases.kept new.databases.known (known_of old.databases.kept x.manifest) (ap (λ (y : ClientLog D g). is_shut y) learns.log)
        learns.kept learns.knows

    read : PollStep store before after old new s t k l (reply.Polled x.manifest.number)
    read = record {
      log = learns.log;
      kept = learns.kept;
      sets = learns.sets;
      leaves = record { latest = x; is_latest = keeps; from = from; number = refl; sees = learns.sees; knows = learns.knows };
      form =
          subst (λ (y : Seen). IsReadForm y l) (sym learns.sees)
          (subst (λ (y : Option Latest). IsReadForm (seen_with s x.manifest) y) (sym keeps) (learned_form s x rules));
      taken = polls.taken;
      later = polls.later;
      failed = λ e. absurd (cc);
      machine = λ tells p entries mine sound fits all honest.
          let told = polls.sound tells mine sound honest in
          let there = ends told.outcome (here_fits store mine before after (parts_in old) s k p entries sound fits all answer told).latest told.ends in
          says_read store mine before after (parts_in old) s k p entries sound fits all answer told x (parts_in new) t l there.0 there.1 there.2 parts_read learns.sees keeps;
    }

  -- by the reply
  keeps_to : (answer : Polled) (polls : ManifestPolls store before after s (etag_in k) answer) (x : Latest) (r : Reply) → KeepsPolled old new s t k l x r → MeetsRules x.manifest
      → (k ≡ Some x) ⊎ FollowsSeen s x
      → ((o : Outcome) → IfSome k (IsKept after.log) → SoundPollEnds o after.log s (etag_in k) answer → (o ≡ outcome.Ok) × IsKept after.log x × (last_of (history_of after.log) ≡ Some x.manifest))
      → PollStep store before after old new s t k l r
  keeps_to answer polls x (reply.Polled n) h rules from ends =
      subst (λ (m : ℕ). PollStep store before after old new s t k l (reply.Polled m)) (sym h.0) (read answer polls x h.2 h.1 rules from ends)
  keeps_to answer polls x reply.NoMemory h rules from ends = out_of_memory answer polls h
  keeps_to answer polls x _ h rules from ends = absurd h

  pub settled : (answer : Polled) (r : Reply) → ManifestPolls store before after s (etag_in k) answer → TakesPoll old new s t k l answer r → PollStep store before after old new s t k l r
  settled polled.Same r polls h = by k refl h
    where
      by : (o : Option Latest) → k ≡ o → MatchOption o ⊥ (λ x. KeepsPolled old new s t k l x r) → PollStep store before after old new s t k l r
      by None is h = absurd h
      by (Some x) is h =
          keeps_to polled.Same polls x r h (subst (λ (y : Option Latest). IfSome y (WasSeen s)) is form).rules (inl is) (λ o kept ends.
          let there : IsKept after.log x = subst (λ (y : Option Latest). IfSome y (IsKept after.log)) is kept in (ends.1, there, ends.5 x (ap etag_in is) there))
  settled (polled.New x) r polls h = keeps_to (polled.New x) polls x r h polls.within.rules (inr polls.within) (λ o kept ends. (ends.0, ends.2, ends.1))
  settled polled.NoContainer r polls h = subst (λ (r : Reply). PollStep store before after old new s t k l r) (sym h.0) (no_container polls h.1)
  settled (polled.BadManifest at) r polls h = subst (λ (r : Reply). PollStep store before after old new s t k l r) (sym h.0) (bad_manifest at polls h.1)
  settled polled.StoreFault r polls h = subst (λ (r : Reply). PollStep store before after old new s t k l r) (sym h.0) (store_fault polls h.1)
  settled polled.NoMemory r polls h = subst (λ (r : Reply). PollStep store before after old new s t k l r) (sym h.0) (out_of_memory polled.NoMemory polls h.1)
