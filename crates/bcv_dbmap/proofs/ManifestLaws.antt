-- What holds of each published manifest of a sound history, and of its writers.
use Rattle.std.proofs.Common.{◌≡◌, ◌∙◌, ℕ, zero, suc, ◌+◌, ◌-◌, ◌≤◌, Bool, true, false, cond, inl, inr, List, [], ◌∷◌, ◌++◌, length, Option, Some, None, MatchOption, slice_get, refl, sym, ap, subst, eq-eqb, arith}
use Rattle.std.proofs.lemmas.Option.{same_Some}
use Rattle.bcv_base.specs.declared.id.Id16.{Id16}
use Rattle.bcv_base.specs.declared.log.Entry.{Entry}
use Rattle.bcv_base.specs.declared.manifest.Manifest.{Manifest}
use Rattle.bcv_base.specs.declared.manifest.Writer.{Writer}
use Rattle.bcv_base.specs.History.{Item, BlockPut, Published, Unreadable, BlockDeleted, ManifestDeleted, HasBlock, Always, last_of, item_of, history_after, history_of}
use Rattle.bcv_base.specs.HistoryLaws.{has_block-stays, version-stays, version-count, history_after-append}
use Rattle.bcv_base.specs.ManifestRules.{writer_id, lists}
use Rattle.bcv_base.specs.Version.{Version}
use Rattle.bcv_base.specs.Versions.{IsVersion, Reads, version_of, versions_of}
use Rattle.bcv_dbmap.specs.Applied.{applied, writers_after}
use Rattle.bcv_dbmap.specs.ManifestLaws.{LineIsLastOwn, NoneIsLastOwn, IsOwnOf, LastOwnIsPublished, AppliedIsLastOwn, FirstIsLastOwn, LastOwnStays, FewWriters, IsUpTo, PublishedIsUpTo, IsVersionOf, PublishedIsVersion, ImagesStay}
use Rattle.bcv_dbmap.specs.Outlived.{IsPublished}
use Rattle.bcv_dbmap.specs.Past.{Publication, is_own, is_numbered, writer_of, last_own}
use Rattle.bcv_dbmap.specs.Sound.{IsEditOf, IsFirst, Follows, IsMade, AreLast}
use Rattle.bcv_dbmap.proofs.Appends.{more_of}
use Rattle.bcv_dbmap.proofs.EditLaws.{edit_number, edit_block, edit_retention}
use Rattle.bcv_dbmap.proofs.Keys.{keyed_at, length_with}
use Rattle.bcv_dbmap.proofs.OthersLaws.{others_leave_mine}
use Rattle.bcv_dbmap.proofs.PastLaws.{of_last, no_own}

-- ---- writers

pub line_is_last_own : LineIsLastOwn
line_is_last_own past m writer s last = of_last (AreLast past) past m last s.writers writer

pub none_is_last_own : NoneIsLastOwn
none_is_last_own past writer last = no_own past writer last

own_later : (x : Item) (past : List Item) (writer : Id16) (p : Publication) → IsOwnOf past writer p → IsOwnOf (x ∷ past) writer p
own_later x past writer p o = record { manifest = o.manifest; published = inr o.published; own = o.own; id = o.id; number = o.number }

pub last_own_is_published : LastOwnIsPublished
last_own_is_published [] writer p h = absurd cc
last_own_is_published (BlockPut i bytes ∷ past) writer p h = own_later (BlockPut i bytes) past writer p (last_own_is_published past writer p h)
last_own_is_published (Published m ∷ past) writer p h = own (is_own writer m) refl h (λ g. last_own_is_published past writer p g)
  where
    made : Publication
    made = record { id = m.id; number = m.number }

    own : (b : Bool) → is_own writer m ≡ b → cond b (Some made) (last_own past writer) ≡ Some p → (last_own past writer ≡ Some p → IsOwnOf past writer p) → IsOwnOf (Published m ∷ past) writer p
    own true is h rest = let same : made ≡ p = same_Some made p h in record { manifest = m; published = inl refl; own = is; id = ap (λ (q : Publication). q.id) same; number = ap (λ (q : Publication). q.number) same }
    own false is h rest = own_later (Published m) past writer p (rest h)
last_own_is_published (Unreadable ∷ past) writer p h = own_later Unreadable past writer p (last_own_is_published past writer p h)
last_own_is_published (BlockDeleted i at ∷ past) writer p h = own_later (BlockDeleted i at) past writer p (last_own_is_published past writer p h)
last_own_is_published (ManifestDeleted ∷ past) writer p h = own_later ManifestDeleted past writer p (last_own_is_published past writer p h)

-- a manifest in which a writer's line has its number is that writer's last own one
numbered_own : (past : List Item) (m : Manifest) (writer : Id16) (line : Writer) → writer_of writer m.writers ≡ Some line → line.number ≡ m.number
    → last_own (Published m ∷ past) writer ≡ Some (record { id = m.id; number = m.number })
numbered_own past m writer line found number =
    let own : is_numbered (writer_of writer m.writers) m.number ≡ true = ap (λ (o : Option Writer). is_numbered o m.number) found ∙ eq-eqb line.number m.number number in
    let made : Publication = record { id = m.id; number = m.number } in
    ap (λ (b : Bool). cond b (Some made) (last_own past writer)) own

pub applied_is_last_own : AppliedIsLastOwn
applied_is_last_own past old p id writer moment =
    let line : Writer = record { id = writer; last = id; number = old.number + 1 } in
    numbered_own past (applied old p id writer moment) writer line (keyed_at writer_id line old.writers) refl

pub first_is_last_own : FirstIsLastOwn
first_is_last_own past block retention id writer moment =
    let line : Writer = record { id = writer; last = id; number = 1 } in
    numbered_own past (record { number = 1; moment = moment; block = block; retention = retention; id = id; writers = line ∷ []; dbs = []; dead = [] }) writer line (keyed_at writer_id line []) refl

pub last_own_stays : LastOwnStays
last_own_stays mine log others writer s lawful is = (others_leave_mine mine log others s lawful).last writer is

few_made : (past : List Item) (m : Manifest) → Always IsMade past → last_of past ≡ Some m → length m.writers ≤ m.number
few_made [] m made last = absurd cc
few_made (BlockPut i bytes ∷ past) m made last = few_made past m made.0 last
few_made (Published k ∷ past) m made last =
    subst (λ (x : Manifest). length x.writers ≤ x.number) (same_Some k m last) (few (last_of past) refl made.1 (λ old is. few_made past old made.0 is))
  where
    few : (o : Option Manifest) → last_of past ≡ o → Follows o k → ((old : Manifest) → last_of past ≡ Some old → length old.writers ≤ old.number) → length k.writers ≤ k.number
    few None is follows before = let f : IsFirst k = follows in subst (λ (x : Manifest). length x.writers ≤ x.number) (sym f.made) (omega arith)
    few (Some old) is follows before =
        let e : IsEditOf old k = follows in
        let line : Writer = record { id = e.writer; last = k.id; number = old.number + 1 } in
        let more : length (writers_after e.writer k.id (old.number + 1) old.writers) ≤ length old.writers + 1 = length_with writer_id line old.writers in
        subst (λ (x : Manifest). length x.writers ≤ x.number) (sym e.made) (omega (arith, more, before old is))
few_made (Unreadable ∷ past) m made last = few_made past m made.0 last
few_made (BlockDeleted i at ∷ past) m made last = few_made past m made.0 last
few_made (ManifestDeleted ∷ past) m made last = few_made past m made.0 last

pub few_writers : FewWriters
few_writers past m s last = few_made past m s.made last

-- ---- published manifests

-- an induction over what comes after a published manifest
pub by_published : (P : List Item → Type 0) (m : Manifest) → ((past : List Item) → P (Published m ∷ past)) → ((x : Item) (past : List Item) → P past → P (x ∷ past))
    → (past : List Item) → IsPublished m past → P past
by_published P m first later [] p = absurd p
by_published P m first later (x ∷ past) (inl is) = subst (λ (y : Item). P (y ∷ past)) (sym is) (first past)
by_published P m first later (x ∷ past) (inr before) = later x past (by_published P m first later past before)

itself : (m : Manifest) → IsUpTo m m
itself m = record { block = refl; retention = refl; number = omega arith; moment = omega arith }

up_to_edit : (old k m : Manifest) → IsEditOf old k → IsUpTo old m → IsUpTo k m
up_to_edit old k m e u =
    let moment : old.moment ≤ k.moment = subst (λ (x : Manifest). old.moment ≤ x.moment) (sym e.made) (omega arith) in
    record {
      block = u.block ∙ sym (edit_block old k e);
      retention = u.retention ∙ sym (edit_retention old k e);
      number = omega (arith, u.number, edit_number old k e);
      moment = omega (arith, u.moment, moment);
    }

-- the last manifest is up to it
abbrev IsBeforeLast : Manifest → List Item → Type 0
IsBeforeLast m past = Always IsMade past → MatchOption (last_of past) ⊥ (λ (k : Manifest). IsUpTo k m)

one_later : (m : Manifest) (x : Item) (past : List Item) → IsBeforeLast m past → IsBeforeLast m (x ∷ past)
one_later m (BlockPut i bytes) past before made = before made.0
one_later m (Published k) past before made = over (last_of past) made.1 (before made.0)
  where
    over : (o : Option Manifest) → Follows o k → MatchOption o ⊥ (λ (old : Manifest). IsUpTo old m) → IsUpTo k m
    over None follows none = absurd none
    over (Some old) follows up_to = up_to_edit old k m follows up_to
one_later m Unreadable past before made = before made.0
one_later m (BlockDeleted i at) past before made = before made.0
one_later m ManifestDeleted past before made = before made.0

pub published_is_up_to : PublishedIsUpTo
published_is_up_to past m last s is p =
    subst (λ (o : Option Manifest). MatchOption o ⊥ (λ (k : Manifest). IsUpTo k m)) is (by_published (IsBeforeLast m) m (λ before made. itself m) (one_later m) past p s.made)

-- ---- versions

-- a version of a list, and of a longer one
get_front : {A : Type 0} (xs ys : List A) (n : ℕ) (x : A) → slice_get xs n ≡ Some x → slice_get (xs ++ ys) n ≡ Some x
get_front [] ys n x h = absurd cc
get_front (y ∷ xs) ys zero x h = h
get_front (y ∷ xs) ys (suc n) x h = get_front xs ys n x h

get_seam : {A : Type 0} (xs : List A) (x : A) → slice_get (xs ++ x ∷ []) (length xs) ≡ Some x
get_seam [] x = refl
get_seam (y ∷ xs) x = get_seam xs x

-- a published manifest, seen from a later place: its blocks are there, and it is the version of its number
record IsIn (past : List Item) (m : Manifest) : Type 0 where
  blocks : (i : Id16) → lists m.dbs i ≡ true → HasBlock past i m.block
  is : IsVersionOf past m

in_later : (x : Item) (past : List Item) (m : Manifest) → IsIn past m → IsIn (x ∷ past) m
in_later x past m l =
    let more = more_of x past in
    record {
      blocks = λ i h. has_block-stays x past i m.block (l.blocks i h);
      is = record {
        least = l.is.least;
        at =
            ap (λ (vs : List Version). slice_get vs (m.number - 1)) more.1 ∙ get_front (versions_of past) more.0 (m.number - 1) (version_of past m) l.is.at
            ∙ ap (λ (v : Version). Some v) (sym (version-stays x past m l.blocks));
      };
    }

in_now : (past : List Item) (m : Manifest) → Always Reads past → IsVersion past m → IsIn (Published m ∷ past) m
in_now past m reads is =
    let place : m.number - 1 ≡ length (versions_of past) = omega (arith, is.number, version-count past reads) in
    record {
      blocks = λ i h. has_block-stays (Published m) past i m.block (is.blocks i h);
      is = record {
        least = omega (arith, is.number);
        at =
            ap (λ (n : ℕ). slice_get (versions_of past ++ version_of past m ∷ []) n) place ∙ get_seam (versions_of past) (version_of past m)
            ∙ ap (λ (v : Version). Some v) (sym (version-stays (Published m) past m is.blocks));
      };
    }

published_in : (past : List Item) (m : Manifest) → Always Reads past → IsPublished m past → IsIn past m
published_in past m reads p =
    by_published (λ (l : List Item). Always Reads l → IsIn l m) m (λ before r. in_now before m r.0 r.1) (λ x before is r. in_later x before m (is r.0)) past p reads

pub published_is_version : PublishedIsVersion
published_is_version past m s p = (published_in past m s.reads p).is

images_after : (past : List Item) (more : List Entry) (m : Manifest) → ((i : Id16) → lists m.dbs i ≡ true → HasBlock past i m.block) → version_of (history_after past more) m ≡ version_of past m
images_after past [] m there = refl
images_after past (e ∷ es) m there =
    images_after (item_of e ∷ past) es m (λ i h. has_block-stays (item_of e) past i m.block (there i h)) ∙ version-stays (item_of e) past m there

pub images_stay : ImagesStay
images_stay log more m s p =
    ap (λ (past : List Item). version_of past m) (history_after-append [] log more)
    ∙ images_after (history_of log) more m (published_in (history_of log) m s.reads p).blocks
