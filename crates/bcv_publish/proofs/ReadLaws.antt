-- What a read of the manifest says of the log, from what the store says and what was made of its answer.
use Rattle.std.proofs.Common.{◌≡◌, ◌≢◌, ◌∙◌, ℕ, ◌<◌, Bool, List, [], ◌++◌, length, append-nil, Option, Some, None, Result, Ok, Err, refl, sym, ap, subst, arith, if◌then◌else◌}
use Rattle.std.proofs.lemmas.Bool.{lt-ltb}
use Rattle.bcv_base.specs.declared.id.Id16.{Id16}
use Rattle.bcv_base.specs.declared.log.Entry.{Entry}
use Rattle.bcv_base.specs.declared.manifest.Manifest.{Manifest}
use Rattle.bcv_base.specs.declared.object.ObjName.TheVariants as object
use Rattle.bcv_base.specs.declared.outcome.Outcome.{Outcome}
use Rattle.bcv_base.specs.declared.outcome.Outcome.TheVariants as outcome
use Rattle.bcv_base.specs.declared.seen.Latest.{Latest}
use Rattle.bcv_base.specs.declared.seen.Seen.{Seen}
use Rattle.bcv_base.specs.History.{history_of, last_of}
use Rattle.bcv_base.specs.Log.{Object, object_of}
use Rattle.bcv_base.specs.ManifestGrammar.{manifest_of, placed, whole_at}
use Rattle.bcv_dbmap.specs.Honest.{GrewHonestly}
use Rattle.bcv_dbmap.specs.Kept.{IsKept}
use Rattle.bcv_dbmap.specs.RequestGrowth.{RequestGrowth}
use Rattle.bcv_dbmap.specs.Sound.{Sound}
use Rattle.bcv_dbmap.proofs.KeptLaws.{Agrees, log_agrees, object_kept}
use Rattle.bcv_store.specs.declared.store.Got.{Got}
use Rattle.bcv_store.specs.declared.store.Got.TheVariants as got
use Rattle.bcv_store.specs.Asked.{GetAnswers}
use Rattle.bcv_store.specs.Plans.{next_of}
use Rattle.bcv_store.specs.Requests.{StoreGets}
use Rattle.bcv_store.specs.StoreShown.{StoreTold, StoreShown}
use Rattle.bcv_publish.specs.declared.unread.Unread.{Unread}
use Rattle.bcv_publish.specs.declared.unread.Unread.TheVariants as unread
use Rattle.bcv_publish.specs.ManifestRead.{unlike, taken, accepted, ReadEnds, ManifestReadTold, ManifestReads, Accepts, ReadAnswered}
use Rattle.bcv_publish.specs.State.{State}
use Rattle.bcv_publish.proofs.Growth.{later_of, growth_of}

-- ---- manifests that are accepted

taken_is : (p : State) (seen : Seen) (k m : Manifest) (o : Option ℕ) → unlike p seen k ≡ o → taken o k ≡ Ok m → (◌≡◌ {A = Result Manifest ℕ} (Ok k) (Ok m)) × (unlike p seen m ≡ None)
taken_is p seen k m None e h =
    let same : k ≡ m = cc in
    (h, subst (λ (x : Manifest). unlike p seen x ≡ None) same e)
taken_is p seen k m (Some at) e h = absurd (cc)

accepted_is : (p : State) (seen : Seen) (r : Result Manifest ℕ) (m : Manifest) → accepted p seen r ≡ Ok m → (r ≡ Ok m) × (unlike p seen m ≡ None)
accepted_is p seen (Err at) m h = absurd (cc)
accepted_is p seen (Ok k) m h = taken_is p seen k m (unlike p seen k) refl h

refused_at : (o : Option ℕ) (m : Manifest) (at : ℕ) → taken o m ≡ Err at → o ≡ Some at
refused_at None m at h = absurd (cc)
refused_at (Some k) m at h = cc

-- bytes that are too long
too_long : (bytes : List ℕ) → 67108864 < length bytes → manifest_of bytes ≡ Err 67108864
unfolding manifest_of
too_long bytes h = ap (λ (b : Bool). if b then Err 67108864 else placed (length bytes) (whole_at bytes)) (lt-ltb 67108864 (length bytes) h)

-- ---- over any log

accepts_ends : (o : Outcome) (x : Option Object) (there : Object) (seen : Seen) (p : State) (r : Result Latest Unread) → o ≡ outcome.Ok → x ≡ Some there → Accepts (manifest_of there.bytes) there.etag seen p r → ReadEnds o x seen p r
accepts_ends o x there seen p (Ok l) ok is a = (there, ok, is, a.0, a.1)
accepts_ends o x there seen p (Err unread.Missing) ok is a = absurd a
accepts_ends o x there seen p (Err (unread.Bad at)) ok is a = (there, ok, is, a)
accepts_ends o x there seen p (Err unread.Failed) ok is a = absurd a
accepts_ends o x there seen p (Err unread.NoMemory) ok is a = tt

read_ends : (o : Outcome) (x : Option Object) (into : List ℕ) (g : Got) (seen : Seen) (p : State) (r : Result Latest Unread) → GetAnswers o x None 67108864 into g → ReadAnswered g into seen p r → ReadEnds o x seen p r
read_ends o x into (got.Found etag) seen p r answers a = accepts_ends o x (record { bytes = into; etag = etag }) seen p r answers.0 answers.1 a
read_ends o x into got.Same seen p r answers a = absurd a
read_ends o x into got.Missing seen p r answers a = subst (ReadEnds o x seen p) (sym a) answers
read_ends o x into (got.TooLong len) seen p r answers a =
    let there : Object = answers.3.0 in
    let long : 67108864 < length there.bytes = subst (λ (n : ℕ). 67108864 < n) (sym answers.3.2) answers.2 in
    subst (ReadEnds o x seen p) (sym a) (there, answers.0, answers.3.1, ap (accepted p seen) (too_long there.bytes long))
read_ends o x into got.Failed seen p r answers a = subst (ReadEnds o x seen p) (sym a) answers
read_ends o x into got.NoMemory seen p r answers a = subst (ReadEnds o x seen p) (sym a) tt

read_failed : (into : List ℕ) (g : Got) (seen : Seen) (p : State) (r : Result Latest Unread) → ReadAnswered g into seen p r → r ≡ Err unread.Failed → g ≡ got.Failed
read_failed into (got.Found etag) seen p r a e = absurd (subst (Accepts (manifest_of into) etag seen p) e a)
read_failed into got.Same seen p r a e = absurd a
read_failed into got.Missing seen p r a e = absurd (let both : ◌≡◌ {A = Result Latest Unread} (Err unread.Missing) (Err unread.Failed) = sym a ∙ e in cc)
read_failed into (got.TooLong len) seen p r a e = absurd (let both : ◌≡◌ {A = Result Latest Unread} (Err (unread.Bad 67108864)) (Err unread.Failed) = sym a ∙ e in cc)
read_failed into got.Failed seen p r a e = refl
read_failed into got.NoMemory seen p r a e = absurd (let both : ◌≡◌ {A = Result Latest Unread} (Err unread.NoMemory) (Err unread.Failed) = sym a ∙ e in cc)

pub read_reads : (store : StoreTold) (old new : StoreShown) (into : List ℕ) (g : Got) (seen : Seen) (p : State) (r : Result Latest Unread) → StoreGets store old new object.Manifest None 67108864 into g → ReadAnswered g into seen p r
    → ManifestReads store old new seen p r
read_reads store old new into g seen p r gets a = record {
  told = λ tells. let t = gets.told tells in
      record {
        others = t.others;
        by_others = t.by_others;
        grown = t.grown;
        outcome = t.outcome;
        next = t.planned;
        ends = read_ends t.outcome (object_of object.Manifest new.log) into g seen p r t.answers a;
      };
  taken = gets.taken;
  later = gets.later;
  failed = λ e. gets.failed (read_failed into g seen p r a e);
}

-- ---- over a sound log

none_last : (x : Option Object) (last : Option Manifest) → Agrees x last → x ≡ None → last ≡ None
none_last None None a h = refl
none_last None (Some m) a h = absurd a
none_last (Some there) last a h = absurd (cc)

-- the last manifest is the one that the object's bytes are
record IsReadLast (there : Object) (last : Option Manifest) : Type 0 where
  m : Manifest
  is : last ≡ Some m
  read : manifest_of there.bytes ≡ Ok m

some_last : (x : Option Object) (last : Option Manifest) (there : Object) → Agrees x last → x ≡ Some there → IsReadLast there last
some_last None last there a h = absurd (cc)
some_last (Some y) None there a h = absurd a
some_last (Some y) (Some m) there a h =
    let same : y ≡ there = cc in
    record { m = m; is = refl; read = ap (λ (z : Object). manifest_of z.bytes) (sym same) ∙ a }

-- what is read of a sound log is its last manifest
abbrev pub SoundReadEnds : Outcome → List Entry → Seen → State → Result Latest Unread → Type 0
SoundReadEnds o log seen p (Ok l) = (o ≡ outcome.Ok) × (last_of (history_of log) ≡ Some l.manifest) × IsKept log l × (unlike p seen l.manifest ≡ None)
SoundReadEnds o log seen p (Err unread.Missing) = (o ≡ outcome.Ok) × (last_of (history_of log) ≡ None)
SoundReadEnds o log seen p (Err (unread.Bad at)) = (m : Manifest) × (o ≡ outcome.Ok) × (last_of (history_of log) ≡ Some m) × (unlike p seen m ≡ Some at)
SoundReadEnds o log seen p (Err unread.Failed) = o ≢ outcome.Ok
SoundReadEnds o log seen p (Err unread.NoMemory) = Unit {0}

sound_ends : (o : Outcome) (log : List Entry) (seen : Seen) (p : State) (r : Result Latest Unread) → Sound (history_of log) → ReadEnds o (object_of object.Manifest log) seen p r → SoundReadEnds o log seen p r
sound_ends o log seen p (Ok l) s ends =
    let there : Object = ends.0 in
    let last = some_last (object_of object.Manifest log) (last_of (history_of log)) there (log_agrees log s) ends.2 in
    let a = accepted_is p seen (manifest_of there.bytes) l.manifest ends.3 in
    let both : ◌≡◌ {A = Result Manifest ℕ} (Ok last.m) (Ok l.manifest) = sym last.read ∙ a.0 in
    let same : last.m ≡ l.manifest = cc in
    let kept : IsKept log (record { manifest = l.manifest; etag = there.etag }) = object_kept log there l.manifest ends.2 a.0 in
    (ends.1, last.is ∙ ap (λ (k : Manifest). Some k) same, subst (λ (n : ℕ). IsKept log (record { manifest = l.manifest; etag = n })) (sym ends.4) kept, a.1)
sound_ends o log seen p (Err unread.Missing) s ends = (ends.0, none_last (object_of object.Manifest log) (last_of (history_of log)) (log_agrees log s) ends.1)
sound_ends o log seen p (Err (unread.Bad at)) s ends =
    let last = some_last (object_of object.Manifest log) (last_of (history_of log)) ends.0 (log_agrees log s) ends.2 in
    (last.m, ends.1, last.is, refused_at (unlike p seen last.m) last.m at (sym (ap (accepted p seen) last.read) ∙ ends.3))
sound_ends o log seen p (Err unread.Failed) s ends = ends
sound_ends o log seen p (Err unread.NoMemory) s ends = tt

-- a read of a sound log that others grow honestly
pub record ManifestReadSound (store : StoreTold) (mine : List Id16) (old new : StoreShown) (seen : Seen) (p : State) (r : Result Latest Unread) : Type 0 where
  pub growth : RequestGrowth store.alone mine old.log new.log
  pub no_own : growth.own ≡ []
  pub outcome : Outcome
  pub next : store.plans → outcome ≡ next_of old.plan
  pub ends : SoundReadEnds outcome new.log seen p r

pub read_sound : (store : StoreTold) (mine : List Id16) (old new : StoreShown) (seen : Seen) (p : State) (r : Result Latest Unread) → ManifestReadTold store old new seen p r → Sound (history_of old.log)
    → GrewHonestly store.alone mine old.log new.log → ManifestReadSound store mine old new seen p r
read_sound store mine old new seen p r told s honest =
    let whole : new.log ≡ (old.log ++ told.others) ++ [] = told.grown ∙ sym (append-nil (old.log ++ told.others)) in
    let later = later_of store.alone mine old.log told.others [] new.log told.by_others whole s honest in
    record {
      growth = growth_of store.alone mine old.log told.others [] new.log told.by_others later whole (omega arith) (λ theirs apart. tt);
      no_own = refl;
      outcome = told.outcome;
      next = told.next;
      ends = sound_ends told.outcome new.log seen p r (subst (λ (l : List Entry). Sound (history_of l)) (sym told.grown) later.sound) told.ends;
    }
