-- What a poll says of the log, from what the store says and what was made of its answer.
use Rattle.std.proofs.Common.{◌≡◌, ◌≢◌, ◌∙◌, inl, inr, ℕ, ◌<◌, ◌≤◌, Bool, true, false, ◌==◌, List, [], ◌++◌, length, append-nil, Option, Some, None, Result, Ok, Err, refl, sym, ap, subst, arith, if◌then◌else◌}
use Rattle.std.proofs.lemmas.Bool.{lt-ltb, le-ltb, eq-eqb, eqb-true}
use Rattle.bcv_base.specs.declared.id.Id16.{Id16}
use Rattle.bcv_base.specs.declared.log.Entry.{Entry}
use Rattle.bcv_base.specs.declared.manifest.Manifest.{Manifest}
use Rattle.bcv_base.specs.declared.object.ObjName.TheVariants as object
use Rattle.bcv_base.specs.declared.outcome.Outcome.{Outcome}
use Rattle.bcv_base.specs.declared.outcome.Outcome.TheVariants as outcome
use Rattle.bcv_base.specs.declared.seen.Seen.{Seen}
use Rattle.bcv_base.specs.History.{Item, history_of, last_of}
use Rattle.bcv_base.specs.Log.{Object, object_of, are_rising}
use Rattle.bcv_base.specs.ManifestGrammar.{manifest_of, placed, whole_at}
use Rattle.bcv_dbmap.specs.Honest.{GrewHonestly}
use Rattle.bcv_dbmap.specs.Kept.{IsKept}
use Rattle.bcv_dbmap.specs.Sound.{Sound}
use Rattle.bcv_dbmap.proofs.KeptLaws.{Agrees, log_agrees, object_kept, kept_stays}
use Rattle.bcv_dbmap.proofs.ManifestLaws.{published_is_up_to}
use Rattle.bcv_store.specs.declared.store.Got.{Got}
use Rattle.bcv_store.specs.declared.store.Got.TheVariants as got
use Rattle.bcv_store.specs.Asked.{GetAnswers, is_known}
use Rattle.bcv_store.specs.Requests.{StoreGets}
use Rattle.bcv_store.specs.StoreShown.{StoreTold, StoreShown}
use Rattle.bcv_store.specs.Within.{IsGotWithin}
use Rattle.bcv_publish.specs.ManifestRead.{is_other, taken}
use Rattle.bcv_publish.proofs.Growth.{later_of, growth_of}
use Rattle.bcv_poller.specs.declared.polled.Polled.{Polled}
use Rattle.bcv_poller.specs.declared.polled.Polled.TheVariants as polled
use Rattle.bcv_poller.specs.ManifestPoll.{unlike_seen, following, FollowsSeen, IfNew, IsPolledWithin, PollEnds, PollTold, IsLastKept, IsNewer, SoundPollEnds, IsSeenIn, PollSound, ManifestPolls, PollAccepts, PollAnswered}

-- ---- manifests that follow what was seen

taken_is : (seen : Seen) (k m : Manifest) (o : Option ℕ) → unlike_seen seen k ≡ o → taken o k ≡ Ok m → (◌≡◌ {A = Result Manifest ℕ} (Ok k) (Ok m)) × (unlike_seen seen m ≡ None)
taken_is seen k m None e h =
    let same : k ≡ m = cc in
    (h, subst (λ (x : Manifest). unlike_seen seen x ≡ None) same e)
taken_is seen k m (Some at) e h = absurd (cc)

following_is : (seen : Seen) (r : Result Manifest ℕ) (m : Manifest) → following seen r ≡ Ok m → (r ≡ Ok m) × (unlike_seen seen m ≡ None)
following_is seen (Err at) m h = absurd (cc)
following_is seen (Ok k) m h = taken_is seen k m (unlike_seen seen k) refl h

refused_at : (o : Option ℕ) (m : Manifest) (at : ℕ) → taken o m ≡ Err at → o ≡ Some at
refused_at None m at h = absurd (cc)
refused_at (Some k) m at h = cc

-- bytes that are too long
too_long : (bytes : List ℕ) → 67108864 < length bytes → manifest_of bytes ≡ Err 67108864
unfolding manifest_of
too_long bytes h = ap (λ (b : Bool). if b then Err 67108864 else placed (length bytes) (whole_at bytes)) (lt-ltb 67108864 (length bytes) h)

-- a number that isn't below the one that was seen, and the block size that was
likeness : (below other : Bool) → below ≡ false → other ≡ false → ◌≡◌ {A = Option ℕ} (if below then Some 8 else (if other then Some 24 else None)) None
likeness true other less same = absurd (cc)
likeness false true less same = absurd (cc)
likeness false false less same = refl

like_seen : (seen : Seen) (m : Manifest) → seen.number ≤ m.number → is_other seen.block m.block ≡ false → unlike_seen seen m ≡ None
like_seen seen m number block = likeness _ _ (le-ltb m.number seen.number number) block

-- what was seen of the log is like its last manifest
seen_of_log : (past : List Item) (seen : Seen) (last : Manifest) → Sound past → last_of past ≡ Some last → IsSeenIn past seen → unlike_seen seen last ≡ None
seen_of_log past seen last s is (inl nothing) = like_seen seen last (omega (arith, ap (λ (x : Seen). x.number) nothing)) (ap (λ (x : Seen). is_other x.block last.block) nothing)
seen_of_log past seen last s is (inr was) =
    let up_to = published_is_up_to past was.0 last s is was.1 in
    like_seen seen last (omega (arith, was.2, up_to.number)) (subst (λ (b : ℕ). is_other seen.block b ≡ false) up_to.block was.3)

-- ---- over any log

accepts_ends : (o : Outcome) (x : Option Object) (there : Object) (seen : Seen) (etag : Option ℕ) (r : Polled) → o ≡ outcome.Ok → x ≡ Some there → is_known x etag ≡ false → PollAccepts (manifest_of there.bytes) there.etag seen r
    → PollEnds o x seen etag r
accepts_ends o x there seen etag polled.Same ok is new a = absurd a
accepts_ends o x there seen etag (polled.New l) ok is new a = (there, ok, is, new, a.0, a.1)
accepts_ends o x there seen etag polled.NoContainer ok is new a = absurd a
accepts_ends o x there seen etag (polled.BadManifest at) ok is new a = (there, ok, is, new, a)
accepts_ends o x there seen etag polled.StoreFault ok is new a = absurd a
accepts_ends o x there seen etag polled.NoMemory ok is new a = tt

poll_ends : (o : Outcome) (x : Option Object) (into : List ℕ) (g : Got) (seen : Seen) (etag : Option ℕ) (r : Polled) → GetAnswers o x etag 67108864 into g → PollAnswered g into seen r → PollEnds o x seen etag r
poll_ends o x into (got.Found e) seen etag r answers a = accepts_ends o x (record { bytes = into; etag = e }) seen etag r answers.0 answers.1 answers.2 a
poll_ends o x into got.Same seen etag r answers a = subst (PollEnds o x seen etag) (sym a) answers
poll_ends o x into got.Missing seen etag r answers a = subst (PollEnds o x seen etag) (sym a) answers
poll_ends o x into (got.TooLong len) seen etag r answers a =
    let there : Object = answers.3.0 in
    let long : 67108864 < length there.bytes = subst (λ (n : ℕ). 67108864 < n) (sym answers.3.2) answers.2 in
    subst (PollEnds o x seen etag) (sym a) (there, answers.0, answers.3.1, answers.1, ap (following seen) (too_long there.bytes long))
poll_ends o x into got.Failed seen etag r answers a = subst (PollEnds o x seen etag) (sym a) answers
poll_ends o x into got.NoMemory seen etag r answers a = subst (PollEnds o x seen etag) (sym a) tt

-- ---- over every store

accepts_within : (read : Result Manifest ℕ) (e : ℕ) (seen : Seen) (etag : Option ℕ) (r : Polled) → PollAccepts read e seen r → IfNew r (FollowsSeen seen) → IsPolledWithin seen etag r
accepts_within read e seen etag polled.Same a new = absurd a
accepts_within read e seen etag (polled.New l) a new = new
accepts_within read e seen etag polled.NoContainer a new = tt
accepts_within read e seen etag (polled.BadManifest at) a new = tt
accepts_within read e seen etag polled.StoreFault a new = tt
accepts_within read e seen etag polled.NoMemory a new = tt

poll_within : (into : List ℕ) (g : Got) (seen : Seen) (etag : Option ℕ) (r : Polled) → IsGotWithin etag 67108864 into g → PollAnswered g into seen r → IfNew r (FollowsSeen seen) → IsPolledWithin seen etag r
poll_within into (got.Found e) seen etag r within a new = accepts_within (manifest_of into) e seen etag r a new
poll_within into got.Same seen etag r within a new = subst (IsPolledWithin seen etag) (sym a) within.0
poll_within into got.Missing seen etag r within a new = subst (IsPolledWithin seen etag) (sym a) tt
poll_within into (got.TooLong len) seen etag r within a new = subst (IsPolledWithin seen etag) (sym a) tt
poll_within into got.Failed seen etag r within a new = subst (IsPolledWithin seen etag) (sym a) tt
poll_within into got.NoMemory seen etag r within a new = subst (IsPolledWithin seen etag) (sym a) tt

poll_failed : (into : List ℕ) (g : Got) (seen : Seen) (r : Polled) → PollAnswered g into seen r → r ≡ polled.StoreFault → g ≡ got.Failed
poll_failed into (got.Found e) seen r a is = absurd (subst (PollAccepts (manifest_of into) e seen) is a)
poll_failed into got.Same seen r a is = absurd (let both : polled.Same ≡ polled.StoreFault = sym a ∙ is in cc)
poll_failed into got.Missing seen r a is = absurd (let both : polled.NoContainer ≡ polled.StoreFault = sym a ∙ is in cc)
poll_failed into (got.TooLong len) seen r a is = absurd (let both : polled.BadManifest 67108864 ≡ polled.StoreFault = sym a ∙ is in cc)
poll_failed into got.Failed seen r a is = refl
poll_failed into got.NoMemory seen r a is = absurd (let both : polled.NoMemory ≡ polled.StoreFault = sym a ∙ is in cc)

-- ---- the manifest that is kept under an etag

-- the object has the etag that is known
known_object : (x : Option Object) (etag : Option ℕ) → is_known x etag ≡ true → (there : Object) × (x ≡ Some there) × (etag ≡ Some there.etag)
known_object x None h = absurd (cc)
known_object None (Some e) h = absurd (cc)
known_object (Some y) (Some e) h = (y, refl, ap (λ (n : ℕ). Some n) (sym (eqb-true y.etag e h)))

-- whether the object's etag is that of what is kept
known_as : (x : Option Object) (there : Object) (etag : Option ℕ) (e : ℕ) (b : Bool) → x ≡ Some there → etag ≡ Some e → is_known x etag ≡ b → (there.etag == e) ≡ b
known_as x there etag e b is named h =
    subst (λ (n : Option ℕ). is_known (Some there) n ≡ b) named (subst (λ (y : Option Object). is_known y etag ≡ b) is h)

last_kept : (log : List Entry) (etag : Option ℕ) → Sound (history_of log) → are_rising log ≡ true → is_known (object_of object.Manifest log) etag ≡ true → IsLastKept log etag
last_kept log etag s rising known kept named k =
    elim (kept_stays log kept s rising k) [
      | inl still ↦ still.same
      | inr past ↦ absurd (omega (arith, past.etag, eqb-true past.there.etag kept.etag (known_as (object_of object.Manifest log) past.there etag kept.etag true past.is named known)))
    ]

newer : (log : List Entry) (etag : Option ℕ) (m : Manifest) → Sound (history_of log) → are_rising log ≡ true → is_known (object_of object.Manifest log) etag ≡ false → last_of (history_of log) ≡ Some m → IsNewer log etag m
newer log etag m s rising known last kept named k =
    elim (kept_stays log kept s rising k) [
      | inl still ↦
          absurd (let both : true ≡ false = sym (eq-eqb still.there.etag kept.etag still.etag) ∙ known_as (object_of object.Manifest log) still.there etag kept.etag false still.is named known in cc)
      | inr past ↦
          let same : past.manifest ≡ m = (let both : Some past.manifest ≡ Some m = sym past.last_is ∙ last in cc) in
          subst (λ (n : Manifest). kept.manifest.number < n.number) same past.number
    ]

-- ---- over a sound log

none_last : (x : Option Object) (last : Option Manifest) → Agrees x last → x ≡ None → last ≡ None
none_last None None a h = refl
none_last None (Some m) a h = absurd a
none_last (Some there) last a h = absurd (cc)

-- the last manifest is the one that the object's bytes are
record IsLastThere (there : Object) (last : Option Manifest) : Type 0 where
  m : Manifest
  is : last ≡ Some m
  read : manifest_of there.bytes ≡ Ok m

some_last : (x : Option Object) (last : Option Manifest) (there : Object) → Agrees x last → x ≡ Some there → IsLastThere there last
some_last None last there a h = absurd (cc)
some_last (Some y) None there a h = absurd a
some_last (Some y) (Some m) there a h =
    let same : y ≡ there = cc in
    record { m = m; is = refl; read = ap (λ (z : Object). manifest_of z.bytes) (sym same) ∙ a }

sound_ends : (o : Outcome) (log : List Entry) (seen : Seen) (etag : Option ℕ) (r : Polled) → Sound (history_of log) → are_rising log ≡ true → PollEnds o (object_of object.Manifest log) seen etag r → SoundPollEnds o log seen etag r
sound_ends o log seen etag polled.Same s rising ends =
    let known = known_object (object_of object.Manifest log) etag ends.1 in
    let last = some_last (object_of object.Manifest log) (last_of (history_of log)) known.0 (log_agrees log s) known.1 in
    (record { manifest = last.m; etag = known.0.etag }, ends.0, known.2, object_kept log known.0 last.m known.1 last.read, last.is, last_kept log etag s rising ends.1)
sound_ends o log seen etag (polled.New l) s rising ends =
    let there : Object = ends.0 in
    let last = some_last (object_of object.Manifest log) (last_of (history_of log)) there (log_agrees log s) ends.2 in
    let f = following_is seen (manifest_of there.bytes) l.manifest ends.4 in
    let both : ◌≡◌ {A = Result Manifest ℕ} (Ok last.m) (Ok l.manifest) = sym last.read ∙ f.0 in
    let same : last.m ≡ l.manifest = cc in
    let is : last_of (history_of log) ≡ Some l.manifest = last.is ∙ ap (λ (k : Manifest). Some k) same in
    let kept : IsKept log (record { manifest = l.manifest; etag = there.etag }) = object_kept log there l.manifest ends.2 f.0 in
    (ends.1, is, subst (λ (n : ℕ). IsKept log (record { manifest = l.manifest; etag = n })) (sym ends.5) kept, f.1, newer log etag l.manifest s rising ends.3 is)
sound_ends o log seen etag polled.NoContainer s rising ends = (ends.0, none_last (object_of object.Manifest log) (last_of (history_of log)) (log_agrees log s) ends.1)
sound_ends o log seen etag (polled.BadManifest at) s rising ends =
    let last = some_last (object_of object.Manifest log) (last_of (history_of log)) ends.0 (log_agrees log s) ends.2 in
    (last.m, ends.1, last.is, refused_at (unlike_seen seen last.m) last.m at (sym (ap (following seen) last.read) ∙ ends.4), newer log etag last.m s rising ends.3 last.is)
sound_ends o log seen etag polled.StoreFault s rising ends = ends
sound_ends o log seen etag polled.NoMemory s rising ends = tt

-- no manifest is bad where what was seen is of the log
not_bad : (o : Outcome) (log : List Entry) (seen : Seen) (etag : Option ℕ) (r : Polled) → Sound (history_of log) → SoundPollEnds o log seen etag r → IsSeenIn (history_of log) seen → (at : ℕ) → r ≢ polled.BadManifest at
not_bad o log seen etag r s ends was at is =
    let bad : SoundPollEnds o log seen etag (polled.BadManifest at) = subst (SoundPollEnds o log seen etag) is ends in
    let none : unlike_seen seen bad.0 ≡ None = seen_of_log (history_of log) seen bad.0 s bad.2 was in
    let both : ◌≡◌ {A = Option ℕ} None (Some at) = sym none ∙ bad.3 in
    cc

poll_sound : (store : StoreTold) (mine : List Id16) (old new : StoreShown) (seen : Seen) (etag : Option ℕ) (r : Polled) → are_rising new.log ≡ true → PollTold store old new seen etag r → Sound (history_of old.log)
    → GrewHonestly store.alone mine old.log new.log → PollSound store mine old new seen etag r
poll_sound store mine old new seen etag r rising told s honest =
    let whole : new.log ≡ (old.log ++ told.others) ++ [] = told.grown ∙ sym (append-nil (old.log ++ told.others)) in
    let later = later_of store.alone mine old.log told.others [] new.log told.by_others whole s honest in
    let sound : Sound (history_of new.log) = subst (λ (l : List Entry). Sound (history_of l)) (sym told.grown) later.sound in
    let ends = sound_ends told.outcome new.log seen etag r sound rising told.ends in
    record {
      growth = growth_of store.alone mine old.log told.others [] new.log told.by_others later whole (omega arith) (λ theirs apart. tt);
      no_own = refl;
      outcome = told.outcome;
      next = told.next;
      ends = ends;
      never_bad = not_bad told.outcome new.log seen etag r sound ends;
    }

-- ---- the whole

poll_told : (store : StoreTold) (old new : StoreShown) (into : List ℕ) (g : Got) (seen : Seen) (etag : Option ℕ) (r : Polled) → StoreGets store old new object.Manifest etag 67108864 into g → PollAnswered g into seen r → store.tells
    → PollTold store old new seen etag r
poll_told store old new into g seen etag r gets a tells =
    let t = gets.told tells in
    record {
      others = t.others;
      by_others = t.by_others;
      grown = t.grown;
      outcome = t.outcome;
      next = t.planned;
      ends = poll_ends t.outcome (object_of object.Manifest new.log) into g seen etag r t.answers a;
    }

-- the answer to what was got
pub get_polls : (store : StoreTold) (old new : StoreShown) (into : List ℕ) (g : Got) (seen : Seen) (etag : Option ℕ) (r : Polled) → (store.tells → are_rising new.log ≡ true) → StoreGets store old new object.Manifest etag 67108864 into g
    → PollAnswered g into seen r → IfNew r (FollowsSeen seen) → ManifestPolls store old new seen etag r
get_polls store old new into g seen etag r rising gets a new_one = record {
  told = poll_told store old new into g seen etag r gets a;
  sound = λ tells mine s honest. poll_sound store mine old new seen etag r (rising tells) (poll_told store old new into g seen etag r gets a tells) s honest;
  within = poll_within into g seen etag r gets.within a new_one;
  taken = gets.taken;
  later = gets.later;
  failed = λ e. gets.failed (poll_failed into g seen r a e);
}
