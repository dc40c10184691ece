-- What a get of the manifest says, from what a read says and what was made of the manifest.
use Rattle.std.proofs.Common.{◌≡◌, ◌∙◌, ℕ, List, Option, Some, None, Result, Ok, Err, refl, sym, ap, subst}
use Rattle.bcv_base.specs.declared.log.Entry.{Entry}
use Rattle.bcv_base.specs.declared.object.ObjName.TheVariants as object
use Rattle.bcv_base.specs.declared.outcome.Outcome.{Outcome}
use Rattle.bcv_base.specs.declared.seen.Latest.{Latest}
use Rattle.bcv_base.specs.declared.seen.Seen.{Seen}
use Rattle.bcv_base.specs.Log.{Object, object_of}
use Rattle.bcv_dbmap.specs.declared.fault.EditFault.{EditFault}
use Rattle.bcv_dbmap.specs.declared.plan.EditPlan.{EditPlan}
use Rattle.bcv_dbmap.specs.Checked.{checked}
use Rattle.bcv_store.specs.StoreShown.{StoreTold, StoreShown}
use Rattle.bcv_publish.specs.declared.unread.Unread.{Unread}
use Rattle.bcv_publish.specs.declared.unread.Unread.TheVariants as unread
use Rattle.bcv_publish.specs.declared.work.Work.{Work}
use Rattle.bcv_publish.specs.declared.work.Work.TheVariants as work
use Rattle.bcv_publish.specs.ManifestGet.{GetLeaves, GetEnds, SoundGetEnds, ManifestGets, Keeps, unread_work}
use Rattle.bcv_publish.specs.ManifestRead.{IsTaken, ReadEnds, ManifestReads}
use Rattle.bcv_publish.specs.State.{State, with_latest}
use Rattle.bcv_publish.proofs.ReadLaws.{SoundReadEnds, read_sound}

-- what a get answers where a manifest was read, or wasn't
abbrev pub Gives : EditPlan → State → Result Latest Unread → Work → State → Type 0
Gives plan p (Ok l) result q = Keeps (checked l.manifest plan p.writer) l p result q
Gives plan p (Err u) result q = (result ≡ unread_work u) × (q ≡ p)

-- ---- whatever the store

keeps_leaves : (seen : Seen) (plan : EditPlan) (p : State) (l : Latest) (c : Option EditFault) (result : Work) (q : State) → checked l.manifest plan p.writer ≡ c → IsTaken p seen l → Keeps c l p result q → GetLeaves seen plan p result q
keeps_leaves seen plan p l None result q is t k = subst (λ (r : Work). GetLeaves seen plan p r q) (sym k.0) (l, t.rules, t.limits, t.like, is, k.1)
keeps_leaves seen plan p l (Some f) result q is t k = subst (λ (r : Work). GetLeaves seen plan p r q) (sym k.0) k.1

pub kept_leaves : (seen : Seen) (plan : EditPlan) (p : State) (l : Latest) (result : Work) (q : State) → IsTaken p seen l → Keeps (checked l.manifest plan p.writer) l p result q → GetLeaves seen plan p result q
kept_leaves seen plan p l result q t k = keeps_leaves seen plan p l (checked l.manifest plan p.writer) result q refl t k

pub unread_leaves : (seen : Seen) (plan : EditPlan) (p : State) (u : Unread) → GetLeaves seen plan p (unread_work u) p
unread_leaves seen plan p unread.Missing = refl
unread_leaves seen plan p (unread.Bad at) = refl
unread_leaves seen plan p unread.Failed = refl
unread_leaves seen plan p unread.NoMemory = refl

-- ---- over any log

with_etag : (p : State) (l : Latest) (etag : ℕ) (q : State) → l.etag ≡ etag → q ≡ with_latest p l → q ≡ with_latest p (record { manifest = l.manifest; etag = etag })
with_etag p l etag q same is = is ∙ ap (λ (n : ℕ). with_latest p (record { manifest = l.manifest; etag = n })) same

keeps_ends : (o : Outcome) (x : Option Object) (seen : Seen) (plan : EditPlan) (p : State) (l : Latest) (c : Option EditFault) (result : Work) (q : State) → checked l.manifest plan p.writer ≡ c
    → ReadEnds o x seen p (Ok l) → Keeps c l p result q → GetEnds o x seen plan p result q
keeps_ends o x seen plan p l None result q is ends k =
    subst (λ (r : Work). GetEnds o x seen plan p r q) (sym k.0) (ends.0, l.manifest, ends.1, ends.2, ends.3, (is, with_etag p l ends.0.etag q ends.4 k.1))
keeps_ends o x seen plan p l (Some f) result q is ends k = subst (λ (r : Work). GetEnds o x seen plan p r q) (sym k.0) (ends.0, l.manifest, ends.1, ends.2, ends.3, (is, k.1))

gives_ends : (o : Outcome) (x : Option Object) (seen : Seen) (plan : EditPlan) (p : State) (r : Result Latest Unread) (result : Work) (q : State) → ReadEnds o x seen p r → Gives plan p r result q → GetEnds o x seen plan p result q
gives_ends o x seen plan p (Ok l) result q ends g = keeps_ends o x seen plan p l (checked l.manifest plan p.writer) result q refl ends g
gives_ends o x seen plan p (Err unread.Missing) result q ends g = subst (λ (r : Work). GetEnds o x seen plan p r q) (sym g.0) (ends.0, ends.1, g.1)
gives_ends o x seen plan p (Err (unread.Bad at)) result q ends g = subst (λ (r : Work). GetEnds o x seen plan p r q) (sym g.0) (ends.0, ends.1, ends.2, ends.3, g.1)
gives_ends o x seen plan p (Err unread.Failed) result q ends g = subst (λ (r : Work). GetEnds o x seen plan p r q) (sym g.0) (ends, g.1)
gives_ends o x seen plan p (Err unread.NoMemory) result q ends g = subst (λ (r : Work). GetEnds o x seen plan p r q) (sym g.0) g.1

-- ---- over a sound log

keeps_sound : (o : Outcome) (log : List Entry) (seen : Seen) (plan : EditPlan) (p : State) (l : Latest) (c : Option EditFault) (result : Work) (q : State) → checked l.manifest plan p.writer ≡ c
    → SoundReadEnds o log seen p (Ok l) → Keeps c l p result q → SoundGetEnds o log seen plan p result q
keeps_sound o log seen plan p l None result q is ends k =
    subst (λ (r : Work). SoundGetEnds o log seen plan p r q) (sym k.0) (l, ends.0, ends.1, ends.2, ends.3, (is, k.1))
keeps_sound o log seen plan p l (Some f) result q is ends k =
    subst (λ (r : Work). SoundGetEnds o log seen plan p r q) (sym k.0) (l, ends.0, ends.1, ends.2, ends.3, (is, k.1))

gives_sound : (o : Outcome) (log : List Entry) (seen : Seen) (plan : EditPlan) (p : State) (r : Result Latest Unread) (result : Work) (q : State) → SoundReadEnds o log seen p r → Gives plan p r result q
    → SoundGetEnds o log seen plan p result q
gives_sound o log seen plan p (Ok l) result q ends g = keeps_sound o log seen plan p l (checked l.manifest plan p.writer) result q refl ends g
gives_sound o log seen plan p (Err unread.Missing) result q ends g = subst (λ (r : Work). SoundGetEnds o log seen plan p r q) (sym g.0) (ends.0, ends.1, g.1)
gives_sound o log seen plan p (Err (unread.Bad at)) result q ends g = subst (λ (r : Work). SoundGetEnds o log seen plan p r q) (sym g.0) (ends.0, ends.1, ends.2, ends.3, g.1)
gives_sound o log seen plan p (Err unread.Failed) result q ends g = subst (λ (r : Work). SoundGetEnds o log seen plan p r q) (sym g.0) (ends, g.1)
gives_sound o log seen plan p (Err unread.NoMemory) result q ends g = subst (λ (r : Work). SoundGetEnds o log seen plan p r q) (sym g.0) g.1

-- ---- the whole

keeps_fault : (p : State) (l : Latest) (c : Option EditFault) (result : Work) (q : State) → Keeps c l p result q → result ≡ work.StoreFault → ⊥
keeps_fault p l None result q k e = let both : work.More ≡ work.StoreFault = sym k.0 ∙ e in cc
keeps_fault p l (Some f) result q k e = let both : work.Fault f ≡ work.StoreFault = sym k.0 ∙ e in cc

gives_fault : (plan : EditPlan) (p : State) (r : Result Latest Unread) (result : Work) (q : State) → Gives plan p r result q → result ≡ work.StoreFault → r ≡ Err unread.Failed
gives_fault plan p (Ok l) result q g e = absurd (keeps_fault p l (checked l.manifest plan p.writer) result q g e)
gives_fault plan p (Err unread.Missing) result q g e = absurd (let both : work.NoContainer ≡ work.StoreFault = sym g.0 ∙ e in cc)
gives_fault plan p (Err (unread.Bad at)) result q g e = absurd (let both : work.BadManifest at ≡ work.StoreFault = sym g.0 ∙ e in cc)
gives_fault plan p (Err unread.Failed) result q g e = refl
gives_fault plan p (Err unread.NoMemory) result q g e = absurd (let both : work.NoMemory ≡ work.StoreFault = sym g.0 ∙ e in cc)

pub get_gets : (store : StoreTold) (old new : StoreShown) (seen : Seen) (plan : EditPlan) (p : State) (r : Result Latest Unread) (result : Work) (q : State) → ManifestReads store old new seen p r → Gives plan p r result q
    → ManifestGets store old new seen plan p result q
get_gets store old new seen plan p r result q reads g = record {
  told = λ tells. let t = reads.told tells in
      record {
        others = t.others;
        by_others = t.by_others;
        grown = t.grown;
        outcome = t.outcome;
        next = t.next;
        ends = gives_ends t.outcome (object_of object.Manifest new.log) seen plan p r result q t.ends g;
      };
  sound = λ tells mine sound honest. let s = read_sound store mine old new seen p r (reads.told tells) sound honest in
      record {
        growth = s.growth;
        no_own = s.no_own;
        outcome = s.outcome;
        next = s.next;
        ends = gives_sound s.outcome new.log seen plan p r result q s.ends g;
      };
  taken = reads.taken;
  later = reads.later;
  failed = λ e. reads.failed (gives_fault plan p r result q g e);
}
