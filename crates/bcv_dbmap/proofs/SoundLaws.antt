-- A sound history stays sound under each lawful entry: clause by clause, by the entry's kind.
use Rattle.std.proofs.Common.{◌≡◌, ◌∙◌, ℕ, ◌+◌, Bool, true, false, cond, ◌||◌, ◌⊎◌, inl, inr, List, ◌∷◌, Option, Some, None, is_some, IfSome, bytes_eq, refl, sym, ap, ap₂, subst, eq-eqb, ne_eqb, arith}
use Rattle.std.proofs.lemmas.Option.{same_Some, IfSome_then}
use Rattle.bcv_base.specs.declared.id.Id16.{Id16}
use Rattle.bcv_base.specs.declared.manifest.DbEntry.{DbEntry}
use Rattle.bcv_base.specs.declared.manifest.Manifest.{Manifest}
use Rattle.bcv_base.specs.declared.manifest.Writer.{Writer}
use Rattle.bcv_base.specs.History.{Item, BlockPut, Published, Unreadable, BlockDeleted, ManifestDeleted, HasBlock, last_of, count_of, first_put}
use Rattle.bcv_base.specs.HistoryLaws.{id_eq-is, id_eq-self, last_is}
use Rattle.bcv_base.specs.Ids.{id_eq, has_id}
use Rattle.bcv_base.specs.Image.{or_else}
use Rattle.bcv_base.specs.ManifestRules.{writer_id, lists, is_dead, MeetsWriterRules, MeetsRules, MeetsLimits}
use Rattle.bcv_dbmap.specs.Applied.{made_entry, swept_ids}
use Rattle.bcv_dbmap.specs.Deletions.{IsDeletable}
use Rattle.bcv_dbmap.specs.Growth.{Edits, Creates, Publishes, PutsNew, IsPublication}
use Rattle.bcv_dbmap.specs.Laws.{EmptyIsSound, LawfulKeepsSound}
use Rattle.bcv_dbmap.specs.Past.{IsAmong, WasEntry, Publication, was_listed, was_dead, was_deleted, has_version, is_numbered, told_by, last_own, writer_of}
use Rattle.bcv_dbmap.specs.Sound.{IsEditOf, IsFirst, Follows, ArePresent, AreAccounted, AreLast, Sound}
use Rattle.bcv_dbmap.proofs.Bools.{or_cases, or_left, or_right, neither_or, not_passed, not_both}
use Rattle.bcv_dbmap.proofs.EditLaws.{edit_number, edit_block, edit_entry, edit_leaves, edit_keeps, edit_writer}
use Rattle.bcv_dbmap.proofs.Entries.{made_tag}
use Rattle.bcv_dbmap.proofs.Keys.{by_test, all_found}
use Rattle.bcv_dbmap.proofs.PastLaws.{last_entry, last_dead, last_rules, of_last, no_last, no_own, no_count, deleted_dead}

pub empty_is_sound : EmptyIsSound
empty_is_sound = record {
  reads = tt;
  safe = tt;
  made = tt;
  new_ids = tt;
  once = tt;
  keeps = tt;
  present = tt;
  accounted = tt;
  stays_dead = tt;
  tags = λ d e was also same. absurd was;
  tagged = λ d was. absurd was;
  writers = tt;
}

-- ---- the put of a block

put_keeps : (mine : List Id16) (past : List Item) (i : Id16) (bytes : List ℕ) → Sound past → PutsNew mine past i → Sound (BlockPut i bytes ∷ past)
put_keeps mine past i bytes s new = record {
  reads = (s.reads, tt);
  safe = (s.safe, tt);
  made = (s.made, tt);
  new_ids = (s.new_ids, tt);
  once = (s.once, new.unput);
  keeps = (s.keeps, tt);
  present = IfSome_then (last_of past) {P = ArePresent past} {Q = ArePresent (BlockPut i bytes ∷ past)} s.present (λ m there j h. (still (first_put past j) (cond (id_eq i j) (Some bytes) None) (there j h).0, (there j h).1));
  accounted = s.accounted;
  stays_dead = (s.stays_dead, tt);
  tags = s.tags;
  tagged = s.tagged;
  writers = s.writers;
}
  where
    still : (o p : Option (List ℕ)) → is_some o ≡ true → is_some (or_else o p) ≡ true
    still None p h = absurd cc
    still (Some b) p h = refl

-- ---- the deletion of a block

deletion_keeps : (past : List Item) (i : Id16) (at : ℕ) → Sound past → IsDeletable past i at → Sound (BlockDeleted i at ∷ past)
deletion_keeps past i at s may = record {
  reads = (s.reads, tt);
  safe = (s.safe, may);
  made = (s.made, tt);
  new_ids = (s.new_ids, tt);
  once = (s.once, tt);
  keeps = (s.keeps, tt);
  present = both (last_of past) s.present may.unlisted;
  accounted = IfSome_then (last_of past) {P = AreAccounted past} {Q = AreAccounted (BlockDeleted i at ∷ past)} s.accounted (λ m accounted j h. more (lists m.dbs j) (is_dead m.dead j) (id_eq i j) (was_deleted past j) (accounted j h));
  stays_dead = (s.stays_dead, tt);
  tags = s.tags;
  tagged = s.tagged;
  writers = s.writers;
}
  where
    -- what is listed is another block
    both : (o : Option Manifest) → IfSome o (ArePresent past) → IfSome o (λ (m : Manifest). lists m.dbs i ≡ false) → IfSome o (ArePresent (BlockDeleted i at ∷ past))
    both None there unlisted = tt
    both (Some m) there unlisted = λ j h. (
      (there j h).0,
      neither_or (id_eq i j) (was_deleted past j) (not_passed (id_eq i j) (λ e. not_both (lists m.dbs i) (ap (λ (k : Id16). lists m.dbs k) (id_eq-is i j e) ∙ h) unlisted)) (there j h).1,
    )

    more : (a b c d : Bool) → (a || (b || d)) ≡ true → (a || (b || (c || d))) ≡ true
    more true b c d h = refl
    more false true c d h = refl
    more false false true d h = refl
    more false false false d h = h

-- ---- a manifest

-- what is to be known of a manifest over the history before it
record Extends (past : List Item) (m : Manifest) : Type 0 where
  number : m.number ≡ count_of past + 1
  blocks : (i : Id16) → lists m.dbs i ≡ true → HasBlock past i m.block
  undeleted : (i : Id16) → lists m.dbs i ≡ true → was_deleted past i ≡ false
  undead : (i : Id16) → lists m.dbs i ≡ true → was_dead past i ≡ false
  follows : Follows (last_of past) m
  accounted : AreAccounted (Published m ∷ past) m
  made : Option DbEntry
  entries : (d : DbEntry) → IsAmong d m.dbs → WasEntry d past ⊎ (made ≡ Some d)
  tag : (d : DbEntry) → made ≡ Some d → d.tag ≡ m.id
  last : AreLast (Published m ∷ past) m

module _ (past : List Item) (m : Manifest) (s : Sound past) (fresh : has_version past m.id ≡ false) (x : Extends past m) where
  -- an entry is from before, or the made one
  entry_of : (d : DbEntry) → WasEntry d (Published m ∷ past) → WasEntry d past ⊎ (x.made ≡ Some d)
  entry_of d (inl among) = x.entries d among
  entry_of d (inr was) = inl was

  -- one from before has not the new id as its tag
  old_tag : (d e : DbEntry) → WasEntry d past → x.made ≡ Some e → d.tag ≡ e.tag → ⊥
  old_tag d e was made same =
      let is : d.tag ≡ m.id = same ∙ x.tag e made in
      not_both (has_version past m.id) (subst (λ (i : Id16). has_version past i ≡ true) is (s.tagged d was)) fresh

  tags_with : (d e : DbEntry) → WasEntry d past ⊎ (x.made ≡ Some d) → WasEntry e past ⊎ (x.made ≡ Some e) → d.tag ≡ e.tag → d ≡ e
  tags_with d e (inl was) (inl also) same = s.tags d e was also same
  tags_with d e (inl was) (inr made) same = absurd (old_tag d e was made same)
  tags_with d e (inr made) (inl was) same = absurd (old_tag e d was made (sym same))
  tags_with d e (inr made) (inr also) same = same_Some d e (sym made ∙ also)

  tagged_with : (d : DbEntry) → WasEntry d past ⊎ (x.made ≡ Some d) → has_version (Published m ∷ past) d.tag ≡ true
  tagged_with d (inl was) = or_right (id_eq m.id d.tag) (has_version past d.tag) (s.tagged d was)
  tagged_with d (inr made) = or_left (id_eq m.id d.tag) (has_version past d.tag) (ap (λ (i : Id16). id_eq m.id i) (x.tag d made) ∙ id_eq-self m.id)

  manifest_keeps : MeetsRules m → MeetsLimits m → Sound (Published m ∷ past)
  manifest_keeps rules limits = record {
    reads = (s.reads, record { number = x.number; rules = rules; limits = limits; blocks = x.blocks });
    safe = (s.safe, x.undeleted);
    made = (s.made, x.follows);
    new_ids = (s.new_ids, fresh);
    once = (s.once, tt);
    keeps = (s.keeps, tt);
    present = λ i h. (let b : HasBlock past i m.block = x.blocks i h in ap is_some b.1, x.undeleted i h);
    accounted = x.accounted;
    stays_dead = (s.stays_dead, x.undead);
    tags = λ d e was also same. tags_with d e (entry_of d was) (entry_of e also) same;
    tagged = λ d was. tagged_with d (entry_of d was);
    writers = x.last;
  }

-- ---- the writers table of a manifest

-- a line that has the manifest's id and number is of its own writer
own_line : (past : List Item) (m : Manifest) (i : Id16) (w : Writer) → writer_of i m.writers ≡ Some w → w.last ≡ m.id → w.number ≡ m.number
    → last_own (Published m ∷ past) i ≡ Some (record { id = w.last; number = w.number })
own_line past m i w found last number =
    ap (λ (b : Bool). cond b (Some (publication m.id m.number)) (last_own past i)) (ap (λ (o : Option Writer). is_numbered o m.number) found ∙ eq-eqb w.number m.number number)
    ∙ ap₂ (λ (j : Id16) (n : ℕ). Some (publication j n)) (sym last) (sym number)
  where
    publication : Id16 → ℕ → Publication
    publication j n = record { id = j; number = n }

-- one with another number is not
pub other_line : (past : List Item) (m : Manifest) (i : Id16) (o : Option Writer) → writer_of i m.writers ≡ o → is_numbered o m.number ≡ false
    → last_own (Published m ∷ past) i ≡ last_own past i
other_line past m i o found other =
    ap (λ (b : Bool). cond b (Some (publication m.id m.number)) (last_own past i)) (ap (λ (o : Option Writer). is_numbered o m.number) found ∙ other)
  where
    publication : Id16 → ℕ → Publication
    publication j n = record { id = j; number = n }

-- ---- a first manifest

first_last : (past : List Item) (m : Manifest) → last_of past ≡ None → IsFirst m → AreLast (Published m ∷ past) m
first_last past m none f i =
    let line : Writer = record { id = f.writer; last = m.id; number = 1 } in
    let number : m.number ≡ 1 = ap (λ (k : Manifest). k.number) f.made in
    let lines : writer_of i m.writers ≡ cond (bytes_eq f.writer.0 i.0) (Some line) None = ap (λ (k : Manifest). writer_of i k.writers) f.made in
    by_test (bytes_eq f.writer.0 i.0)
    (λ own.
    let is : writer_of i m.writers ≡ Some line = lines ∙ ap (λ (b : Bool). cond b (Some line) None) own in
    own_line past m i line is refl (sym number) ∙ sym (ap told_by is))
    (λ another.
    let is : writer_of i m.writers ≡ None = lines ∙ ap (λ (b : Bool). cond b (Some line) None) another in
    other_line past m i None is refl ∙ no_own past i none ∙ sym (ap told_by is))

first_extends : (mine : List Id16) (past : List Item) (m : Manifest) → Sound past → last_of past ≡ None → Creates mine m → Extends past m
first_extends mine past m s none c =
    let f : IsFirst m = c.first in
    let unlisted : (i : Id16) → lists m.dbs i ≡ false = λ i. ap (λ (k : Manifest). lists k.dbs i) f.made in
    record {
      number = let one : m.number ≡ 1 = ap (λ (k : Manifest). k.number) f.made in let count : count_of past ≡ 0 = no_count past s.reads none in omega arith;
      blocks = λ i h. not_both (lists m.dbs i) h (unlisted i);
      undeleted = λ i h. not_both (lists m.dbs i) h (unlisted i);
      undead = λ i h. not_both (lists m.dbs i) h (unlisted i);
      follows = subst (λ (o : Option Manifest). Follows o m) (sym none) f;
      accounted = λ i h. not_both (was_listed (Published m ∷ past) i) h (neither_or (lists m.dbs i) (was_listed past i) (unlisted i) (no_last (λ (k : Manifest). lists k.dbs i) past none));
      made = None;
      entries = λ d among. absurd (subst (λ (k : Manifest). IsAmong d k.dbs) f.made among);
      tag = λ d e. absurd cc;
      last = first_last past m none f;
    }

-- ---- an edit

-- no line of the old table has the number of the edit
pub line_below : (old m : Manifest) (i : Id16) → IsEditOf old m → MeetsRules old → is_numbered (writer_of i old.writers) m.number ≡ false
line_below old m i e rules = below (writer_of i old.writers) (λ w found. all_found writer_id (MeetsWriterRules old.number) i.0 old.writers w rules.each_writer found)
  where
    below : (o : Option Writer) → ((w : Writer) → o ≡ Some w → MeetsWriterRules old.number w) → is_numbered o m.number ≡ false
    below None meets = refl
    below (Some w) meets =
        let of_w : MeetsWriterRules old.number w = meets w refl in
        let later : w.number ≡ m.number → ⊥ = λ same. omega (arith, same, of_w.most, edit_number old m e) in
        ne_eqb w.number m.number later

edit_last : (past : List Item) (old m : Manifest) → IsEditOf old m → MeetsRules old → AreLast past old → AreLast (Published m ∷ past) m
edit_last past old m e rules before i =
    let line : Writer = record { id = e.writer; last = m.id; number = m.number } in
    by_test (bytes_eq e.writer.0 i.0)
    (λ own.
    let is : writer_of i m.writers ≡ Some line = edit_writer old m e i ∙ ap (λ (b : Bool). cond b (Some line) (writer_of i old.writers)) own in
    own_line past m i line is refl refl ∙ sym (ap told_by is))
    (λ another.
    let is : writer_of i m.writers ≡ writer_of i old.writers = edit_writer old m e i ∙ ap (λ (b : Bool). cond b (Some line) (writer_of i old.writers)) another in
    other_line past m i (writer_of i old.writers) is (line_below old m i e rules) ∙ before i ∙ sym (ap told_by is))

edit_extends : (mine : List Id16) (past : List Item) (old m : Manifest) → Sound past → last_of past ≡ Some old → Edits mine past old m → Extends past m
edit_extends mine past old m s last x =
    let e : IsEditOf old m = x.edit in
    let l = last_is past old s.reads last in
    let rules : MeetsRules old = last_rules past old s.reads last in
    record {
      number = edit_number old m e ∙ ap (λ (n : ℕ). n + 1) l.number;
      blocks = λ i h. subst (λ (n : ℕ). HasBlock past i n) (sym (edit_block old m e)) (by_test (lists old.dbs i) (λ listed. l.blocks i listed) (λ unlisted. (x.blocks i h unlisted).there));
      undeleted = λ i h. by_test (lists old.dbs i)
          (λ listed. (of_last (ArePresent past) past old last s.present i listed).1)
          (λ unlisted. not_passed (was_deleted past i) (λ gone. not_both (was_dead past i) (deleted_dead past i s.safe gone) (x.blocks i h unlisted).not_dead));
      undead = λ i h. by_test (lists old.dbs i) (λ listed. last_dead past old i s.reads s.stays_dead last listed) (λ unlisted. (x.blocks i h unlisted).not_dead);
      follows = subst (λ (o : Option Manifest). Follows o m) (sym last) e;
      accounted = λ i h. by_test (lists m.dbs i) (λ listed. or_left (lists m.dbs i) (is_dead m.dead i || was_deleted past i) listed)
          (λ unlisted. or_right (lists m.dbs i) (is_dead m.dead i || was_deleted past i) (still i unlisted (elim (or_cases (lists m.dbs i) (was_listed past i) h) as (λ c. was_listed past i ≡ true) [
            | inl listed ↦ not_both (lists m.dbs i) listed unlisted
            | inr was ↦ was
          ])));
      made = made_entry e.plan m.id old.dbs;
      entries = λ d among. elim (edit_entry old m e d among) as (λ c. WasEntry d past ⊎ (made_entry e.plan m.id old.dbs ≡ Some d)) [
        | inl was ↦ inl (last_entry d past old last was)
        | inr made ↦ inr made
      ];
      tag = λ d made. made_tag e.plan m.id old.dbs d made;
      last = edit_last past old m e rules (of_last (AreLast past) past old last s.writers);
    }
  where
    -- a block that was listed and is no more is dead or deleted
    still : (i : Id16) → lists m.dbs i ≡ false → was_listed past i ≡ true → (is_dead m.dead i || was_deleted past i) ≡ true
    still i unlisted was = elim (or_cases (lists old.dbs i) (is_dead old.dead i || was_deleted past i) (of_last (AreAccounted past) past old last s.accounted i was)) as (λ c. (is_dead m.dead i || was_deleted past i) ≡ true) [
      | inl listed ↦ or_left (is_dead m.dead i) (was_deleted past i) (edit_leaves old m x.edit i unlisted listed)
      | inr rest ↦ elim (or_cases (is_dead old.dead i) (was_deleted past i) rest) as (λ c. (is_dead m.dead i || was_deleted past i) ≡ true) [
        | inl dead ↦ by_test (has_id i (swept_ids x.edit.plan))
            (λ swept. or_right (is_dead m.dead i) (was_deleted past i) (x.swept i swept))
            (λ unswept. or_left (is_dead m.dead i) (was_deleted past i) (edit_keeps old m x.edit i unlisted dead unswept))
        | inr gone ↦ or_right (is_dead m.dead i) (was_deleted past i) gone
      ]
    ]

-- ---- each lawful entry

publication_keeps : (mine : List Id16) (past : List Item) (m : Manifest) → Sound past → IsPublication mine past m → Sound (Published m ∷ past)
publication_keeps mine past m s p = manifest_keeps past m s p.fresh (extends (last_of past) refl p.publishes) p.rules p.limits
  where
    extends : (o : Option Manifest) → last_of past ≡ o → Publishes mine past o m → Extends past m
    extends None last c = first_extends mine past m s last c
    extends (Some old) last x = edit_extends mine past old m s last x

pub lawful_keeps_sound : LawfulKeepsSound
lawful_keeps_sound mine past (BlockPut i bytes) s l = put_keeps mine past i bytes s l
lawful_keeps_sound mine past (Published m) s l = publication_keeps mine past m s l
lawful_keeps_sound mine past Unreadable s l = absurd l
lawful_keeps_sound mine past (BlockDeleted i at) s l = deletion_keeps past i at s l
lawful_keeps_sound mine past ManifestDeleted s l = absurd l
