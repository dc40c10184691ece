-- What the put of a manifest under a condition says of the log.
use Rattle.std.proofs.Common.{◌≡◌, ◌∙◌, ◌⊎◌, inl, inr, ℕ, ◌≤◌, Bool, true, false, List, [], ◌∷◌, ◌++◌, length, append-nil, Ok, refl, sym, ap, subst, arith}
use Rattle.bcv_base.specs.declared.id.Id16.{Id16}
use Rattle.bcv_base.specs.declared.log.Entry.{Entry}
use Rattle.bcv_base.specs.declared.log.Entry.TheVariants as entry
use Rattle.bcv_base.specs.declared.manifest.Manifest.{Manifest}
use Rattle.bcv_base.specs.declared.object.ObjName.TheVariants as object
use Rattle.bcv_base.specs.declared.outcome.Outcome.{Outcome}
use Rattle.bcv_base.specs.declared.outcome.Outcome.TheVariants as outcome
use Rattle.bcv_base.specs.History.{Published, as_read, history_of}
use Rattle.bcv_base.specs.Log.{object_of, are_rising}
use Rattle.bcv_base.specs.ManifestGrammar.{manifest_of}
use Rattle.bcv_dbmap.specs.Growth.{AreLawful, IsLawful}
use Rattle.bcv_dbmap.specs.Honest.{AreApart, GrewHonestly}
use Rattle.bcv_dbmap.specs.RequestGrowth.{RequestGrowth}
use Rattle.bcv_dbmap.specs.Sound.{Sound}
use Rattle.bcv_dbmap.proofs.KeptLaws.{rising_front}
use Rattle.bcv_store.specs.declared.store.Cond.{Cond}
use Rattle.bcv_store.specs.declared.store.Put.{Put}
use Rattle.bcv_store.specs.declared.store.Put.TheVariants as answer
use Rattle.bcv_store.specs.Asked.{holds}
use Rattle.bcv_store.specs.Asked as store
use Rattle.bcv_store.specs.Plans.{next_of}
use Rattle.bcv_store.specs.Requests.{StorePuts}
use Rattle.bcv_store.specs.StoreShown.{StoreTold, StoreShown}
use Rattle.bcv_publish.specs.ManifestAppend.{IsPut, AppendEffect, AppendFails, AppendEnds, ManifestAppendTold, AppendTakes, ManifestAppends, IsAppended}
use Rattle.bcv_publish.specs.Request.{TakesOutcome}
use Rattle.bcv_publish.proofs.Growth.{Later, later_of, growth_of, no_others}

-- ---- over any log

-- one own put more, read
is_put : (log after : List Entry) (bytes : List ℕ) (etag : ℕ) (m : Manifest) → manifest_of bytes ≡ Ok m → store.Adds log after object.Manifest bytes etag → IsPut log after m etag
is_put log after bytes etag m reads a = record { bytes = bytes; reads = reads; rises = a.rises; added = a.added }

append_effect : (held : Bool) (log after : List Entry) (bytes : List ℕ) (m : Manifest) → manifest_of bytes ≡ Ok m → store.PutEffect held log after object.Manifest bytes → AppendEffect held log after m
append_effect true log after bytes m reads e = (e.0, is_put log after bytes e.0 m reads e.1)
append_effect false log after bytes m reads e = e

append_fails : (o : Outcome) (held : Bool) (log after : List Entry) (bytes : List ℕ) (m : Manifest) → manifest_of bytes ≡ Ok m → store.PutFails o held log after object.Manifest bytes → AppendFails o held log after m
append_fails outcome.Ok held log after bytes m reads f = f
append_fails outcome.Fail held log after bytes m reads f = f
append_fails outcome.Lost held log after bytes m reads f = append_effect held log after bytes m reads f

append_ends : (o : Outcome) (held : Bool) (log after : List Entry) (bytes : List ℕ) (m : Manifest) (a : Put) → manifest_of bytes ≡ Ok m → store.PutAnswers o held log after object.Manifest bytes a → AppendEnds o held log after m a
append_ends o held log after bytes m (answer.Stored etag) reads answers = (answers.0, answers.1, is_put log after bytes etag m reads answers.2)
append_ends o held log after bytes m answer.Refused reads answers = answers
append_ends o held log after bytes m answer.Failed reads answers = append_fails o held log after bytes m reads answers
append_ends o held log after bytes m answer.NoMemory reads answers = answers

append_takes : (told : StoreTold) (old new : StoreShown) (a : Put) → TakesOutcome told old new → AppendTakes told old new a
append_takes told old new (answer.Stored etag) takes = takes
append_takes told old new answer.Refused takes = takes
append_takes told old new answer.Failed takes = takes
append_takes told old new answer.NoMemory takes = inl takes

pub append_appends : (told : StoreTold) (old new : StoreShown) (cond : Cond) (bytes : List ℕ) (m : Manifest) (a : Put) → manifest_of bytes ≡ Ok m → StorePuts told old new object.Manifest cond bytes a → ManifestAppends told old new cond m a
append_appends told old new cond bytes m a reads puts = record {
  told = λ tells. let t = puts.told tells in
      record {
        others = t.others;
        by_others = t.by_others;
        outcome = t.outcome;
        next = t.planned;
        ends = append_ends t.outcome (holds cond (object_of object.Manifest (old.log ++ t.others))) (old.log ++ t.others) new.log bytes m a reads t.answers;
      };
  taken = append_takes told old new a puts.taken;
  later = puts.later;
  failed = puts.failed;
}

-- of a put that was not made
pub none_appends : (told : StoreTold) (old : StoreShown) (cond : Cond) (m : Manifest) → ManifestAppends told old old cond m answer.NoMemory
none_appends told old cond m = record {
  told = λ tells. record { others = []; by_others = no_others told.alone; outcome = next_of old.plan; next = λ _. refl; ends = sym (append-nil old.log) };
  taken = inr refl;
  later = omega arith;
  failed = λ e. absurd (cc);
}

-- ---- over a sound log

-- of a put whose answer was lost
abbrev pub SoundLost : Bool → List Entry → Manifest → Type 0
SoundLost true own m = (etag : ℕ) × IsAppended own m etag
SoundLost false own m = own ≡ []

abbrev pub SoundFails : Outcome → Bool → List Entry → Manifest → Type 0
SoundFails outcome.Ok held own m = ⊥
SoundFails outcome.Fail held own m = own ≡ []
SoundFails outcome.Lost held own m = SoundLost held own m

-- how a put ends under a condition that held or not
abbrev pub SoundAppendEnds : Outcome → Bool → List Entry → Manifest → Put → Type 0
SoundAppendEnds o held own m (answer.Stored etag) = (o ≡ outcome.Ok) × (held ≡ true) × IsAppended own m etag
SoundAppendEnds o held own m answer.Refused = (o ≡ outcome.Ok) × (held ≡ false) × (own ≡ [])
SoundAppendEnds o held own m answer.Failed = SoundFails o held own m
SoundAppendEnds o held own m answer.NoMemory = own ≡ []

-- the own entries: none, or the manifest where the condition held
record Own (o : Outcome) (held : Bool) (log after : List Entry) (m : Manifest) (a : Put) : Type 0 where
  own : List Entry
  one : length own ≤ 1
  grown : after ≡ log ++ own
  is : (own ≡ []) ⊎ ((held ≡ true) × ((etag : ℕ) × IsAppended own m etag))
  ends : SoundAppendEnds o held own m a

nothing : (log after : List Entry) → after ≡ log → after ≡ log ++ []
nothing log after e = e ∙ sym (append-nil log)

put_of : (o : Outcome) (held : Bool) (log after : List Entry) (m : Manifest) (a : Put) (etag : ℕ) (p : IsPut log after m etag) → held ≡ true
    → (IsAppended (entry.Put true object.Manifest p.bytes etag ∷ []) m etag → SoundAppendEnds o held (entry.Put true object.Manifest p.bytes etag ∷ []) m a) → Own o held log after m a
put_of o held log after m a etag p h ends =
    let own : IsAppended (entry.Put true object.Manifest p.bytes etag ∷ []) m etag = (p.bytes, refl, p.reads) in
    record { own = entry.Put true object.Manifest p.bytes etag ∷ []; one = omega arith; grown = p.added; is = inr (h, (etag, own)); ends = ends own }

none_of : (o : Outcome) (held : Bool) (log after : List Entry) (m : Manifest) (a : Put) → after ≡ log → SoundAppendEnds o held [] m a → Own o held log after m a
none_of o held log after m a same ends = record { own = []; one = omega arith; grown = nothing log after same; is = inl refl; ends = ends }

fails_own : (o : Outcome) (held : Bool) (log after : List Entry) (m : Manifest) → AppendFails o held log after m → Own o held log after m answer.Failed
fails_own outcome.Ok held log after m f = absurd f
fails_own outcome.Fail held log after m f = none_of outcome.Fail held log after m answer.Failed f refl
fails_own outcome.Lost true log after m f = put_of outcome.Lost true log after m answer.Failed f.0 f.1 refl (λ own. (f.0, own))
fails_own outcome.Lost false log after m f = none_of outcome.Lost false log after m answer.Failed f refl

own_of : (o : Outcome) (held : Bool) (log after : List Entry) (m : Manifest) (a : Put) → AppendEnds o held log after m a → Own o held log after m a
own_of o held log after m (answer.Stored etag) e = put_of o held log after m (answer.Stored etag) etag e.2 e.1 (λ own. (e.0, e.1, own))
own_of o held log after m answer.Refused e = none_of o held log after m answer.Refused e.2 (e.0, e.1, refl)
own_of o held log after m answer.Failed e = fails_own o held log after m e
own_of o held log after m answer.NoMemory e = none_of o held log after m answer.NoMemory e refl

-- what was appended is lawful to others
lawful_own : (theirs : List Id16) (log own : List Entry) (held : Bool) (m : Manifest) → (own ≡ []) ⊎ ((held ≡ true) × ((etag : ℕ) × IsAppended own m etag)) → (held ≡ true → IsLawful theirs (history_of log) (Published m))
    → AreLawful theirs (history_of log) own
lawful_own theirs log own held m (inl e) publishes = subst (AreLawful theirs (history_of log)) (sym e) tt
lawful_own theirs log own held m (inr a) publishes =
    subst (AreLawful theirs (history_of log)) (sym a.1.1.1) (subst (IsLawful theirs (history_of log)) (sym (ap as_read a.1.1.2)) (publishes a.0), tt)

-- a put over a sound log that others grow honestly
pub record ManifestAppendSound (told : StoreTold) (mine : List Id16) (old new : StoreShown) (cond : Cond) (m : Manifest) (a : Put) : Type 0 where
  pub growth : RequestGrowth told.alone mine old.log new.log
  pub later : Later mine old.log growth.others
  pub rising : are_rising (old.log ++ growth.others) ≡ true
  pub outcome : Outcome
  pub next : told.plans → outcome ≡ next_of old.plan
  pub ends : SoundAppendEnds outcome (holds cond (object_of object.Manifest (old.log ++ growth.others))) growth.own m a

-- where the manifest is lawful to others when the condition holds
abbrev pub IsLawfulWhere : List Id16 → List Entry → Cond → Manifest → Type 0
IsLawfulWhere mine before cond m =
    (others : List Entry) → Later mine before others → are_rising (before ++ others) ≡ true → holds cond (object_of object.Manifest (before ++ others)) ≡ true → (theirs : List Id16) → AreApart mine theirs
    → IsLawful theirs (history_of (before ++ others)) (Published m)

pub append_sound : (told : StoreTold) (mine : List Id16) (old new : StoreShown) (cond : Cond) (m : Manifest) (a : Put) → are_rising new.log ≡ true → ManifestAppendTold told old new cond m a → Sound (history_of old.log)
    → GrewHonestly told.alone mine old.log new.log → IsLawfulWhere mine old.log cond m → ManifestAppendSound told mine old new cond m a
append_sound told mine old new cond m a rising t s honest publishes =
    let log : List Entry = old.log ++ t.others in
    let held : Bool = holds cond (object_of object.Manifest log) in
    let own = own_of t.outcome held log new.log m a t.ends in
    let later = later_of told.alone mine old.log t.others own.own new.log t.by_others own.grown s honest in
    let rises : are_rising log ≡ true = rising_front log own.own (sym (ap are_rising own.grown) ∙ rising) in
    record {
      growth = growth_of told.alone mine old.log t.others own.own new.log t.by_others later own.grown own.one
          (λ theirs apart. lawful_own theirs log own.own held m own.is (λ h. publishes t.others later rises h theirs apart));
      later = later;
      rising = rises;
      outcome = t.outcome;
      next = t.next;
      ends = own.ends;
    }
