-- The life of a database is sound, step by step.
use Rattle.std.proofs.Common.{◌≡◌, ◌⊎◌, ℕ, ◌||◌, Bool, true, false, [], ◌∷◌, inl, inr, List, refl, ap, subst, arith}
use Rattle.std.specs.Int.Count.{ones}
use Rattle.bcv_base.specs.declared.id.Id16.{Id16}
use Rattle.bcv_base.specs.declared.manifest.DbEntry.{DbEntry}
use Rattle.bcv_base.specs.History.{Item, BlockPut, Published, BlockDeleted}
use Rattle.bcv_base.specs.HistoryLaws.{id_eq-is}
use Rattle.bcv_base.specs.Ids.{IsId, id_eq}
use Rattle.bcv_base.specs.ManifestRules.{lists, MeetsEntryRules}
use Rattle.bcv_dbmap.specs.declared.plan.EditPlan.TheVariants as plan
use Rattle.bcv_dbmap.specs.Checked.{zero_id}
use Rattle.bcv_dbmap.specs.Filled.{FillsEntry}
use Rattle.bcv_dbmap.specs.Growth.{IsNewBlock, Creates, IsLawful}
use Rattle.bcv_dbmap.specs.Past.{was_deleted}
use Rattle.bcv_dbmap.specs.Sound.{Sound}
use Rattle.bcv_dbmap.proofs.Bools.{or_cases, not_both}
use Rattle.bcv_dbmap.proofs.Publishes.{published_is_lawful}
use Rattle.bcv_dbmap.proofs.RulesLaws.{first_meets_rules}
use Rattle.bcv_dbmap.proofs.SoundLaws.{empty_is_sound, lawful_keeps_sound}
use Rattle.bcv_dbmap.specs.Worked.{named, block, other_block, writer, other_writer, name, copy_name, created, first_bytes, other_bytes, entry, made, copied, uploaded, removed, swept, until_uploaded, until_removed, life}

id1 : IsId (named 1)
id1 = record { len = refl; bytes = refl }

id2 : IsId (named 2)
id2 = record { len = refl; bytes = refl }

id3 : IsId (named 3)
id3 = record { len = refl; bytes = refl }

id4 : IsId (named 4)
id4 = record { len = refl; bytes = refl }

id5 : IsId (named 5)
id5 = record { len = refl; bytes = refl }

id6 : IsId (named 6)
id6 = record { len = refl; bytes = refl }

is_writer : IsId writer
is_writer = record { len = refl; bytes = refl }

is_other_writer : IsId other_writer
is_other_writer = record { len = refl; bytes = refl }

-- an entry of one block that is an id
entry_fits : (i : Id16) → IsId i → MeetsEntryRules 512 (entry i)
unfolding ones
entry_fits i is = record {
  name = refl;
  tag = record { len = refl; bytes = refl };
  page_size = refl;
  pages = omega arith;
  blocks = refl;
  few = omega arith;
  ids = (is, tt);
}

-- what was asked for before there was a block
abbrev asked : DbEntry
asked = record { name = name; tag = zero_id; page_size = 512; pages = 1; blocks = [] }

asked_filled : (i : Id16) → FillsEntry asked (entry i)
asked_filled i = record { name = refl; page_size = refl; pages = refl; blocks = λ j h. absurd cc }

-- ---- tests on one id

-- of one block, or of two
one_of : (b : Bool) → ((b || false) || false) ≡ true → b ≡ true
one_of true h = refl
one_of false h = absurd cc

one_of_two : (b c : Bool) → ((b || false) || ((c || false) || false)) ≡ true → (b ≡ true) ⊎ (c ≡ true)
one_of_two true c h = inl refl
one_of_two false true h = inr refl
one_of_two false false h = absurd cc

first_of_two : {G : Type 0} (b c : Bool) → b ≡ true → ((b || false) || ((c || false) || false)) ≡ false → G
first_of_two true c h g = absurd cc
first_of_two false c h g = absurd cc

one_not : {G : Type 0} (b : Bool) → b ≡ true → ((b || false) || false) ≡ false → G
one_not true h g = absurd cc
one_not false h g = absurd cc

-- ---- the steps

abbrev past1 : List Item
past1 = Published created ∷ []

s1 : Sound past1
unfolding ones
s1 =
    let r = first_meets_rules 512 5 (named 1) writer 10 refl (omega arith) (omega arith) id1 is_writer in
    let c : Creates [] created = record { first = record { block = 512; retention = 5; moment = 10; writer = writer; made = refl }; another = refl } in
    lawful_keeps_sound [] [] (Published created) empty_is_sound (record { rules = r.0; limits = r.1; fresh = refl; not_mine = refl; publishes = c })

abbrev past2 : List Item
past2 = BlockPut block first_bytes ∷ past1

s2 : Sound past2
s2 = lawful_keeps_sound [] past1 (BlockPut block first_bytes) s1 (record { unput = refl; unlisted = refl; not_mine = refl })

new_block : IsNewBlock [] past2 512 block
new_block = record { there = (first_bytes, refl, refl); not_mine = refl; not_listed = refl; not_dead = refl }

abbrev past3 : List Item
past3 = Published made ∷ past2

s3 : Sound past3
s3 = lawful_keeps_sound [] past2 (Published made) s2
    (published_is_lawful [] past2 created (plan.New asked) (plan.New (entry block)) (named 2) writer 20 s2 refl refl (entry block, refl, asked_filled block) (entry_fits block (record { len = refl; bytes = refl }))
    (omega arith) id2 is_writer refl refl refl
    (λ i h g. subst (λ (j : Id16). IsNewBlock [] past2 512 j) (id_eq-is block i (one_of (id_eq block i) h)) new_block)
    (λ i h. absurd cc))

abbrev past4 : List Item
past4 = Published copied ∷ past3

s4 : Sound past4
s4 = lawful_keeps_sound [] past3 (Published copied) s3
    (published_is_lawful [] past3 made (plan.Copy name copy_name) (plan.Copy name copy_name) (named 3) other_writer 22 s3 refl refl refl refl
    (omega arith) id3 is_other_writer refl refl refl
    (λ i h g. elim (one_of_two (id_eq block i) (id_eq block i) h) as (λ c. IsNewBlock [] past3 512 i) [ inl b ↦ one_not (id_eq block i) b g | inr b ↦ one_not (id_eq block i) b g ])
    (λ i h. absurd cc))

abbrev past5 : List Item
past5 = BlockPut other_block other_bytes ∷ past4

s5 : Sound past5
s5 = lawful_keeps_sound [] past4 (BlockPut other_block other_bytes) s4 (record { unput = refl; unlisted = refl; not_mine = refl })

new_other_block : IsNewBlock [] past5 512 other_block
new_other_block = record { there = (other_bytes, refl, refl); not_mine = refl; not_listed = refl; not_dead = refl }

s6 : Sound until_uploaded
s6 = lawful_keeps_sound [] past5 (Published uploaded) s5
    (published_is_lawful [] past5 copied (plan.Upload (named 2) asked) (plan.Upload (named 2) (entry other_block)) (named 4) other_writer 25 s5 refl refl (entry other_block, refl, asked_filled other_block)
    (entry_fits other_block (record { len = refl; bytes = refl }))
    (omega arith) id4 is_other_writer refl refl refl
    (λ i h g. elim (one_of_two (id_eq other_block i) (id_eq block i) h) as (λ c. IsNewBlock [] past5 512 i) [
      | inl b ↦ subst (λ (j : Id16). IsNewBlock [] past5 512 j) (id_eq-is other_block i b) new_other_block
      | inr b ↦ first_of_two (id_eq block i) (id_eq block i) b g
    ])
    (λ i h. absurd cc))

s7 : Sound until_removed
s7 = lawful_keeps_sound [] until_uploaded (Published removed) s6
    (published_is_lawful [] until_uploaded uploaded (plan.Remove copy_name) (plan.Remove copy_name) (named 5) writer 30 s6 refl refl refl tt
    (omega arith) id5 is_writer refl refl refl
    (λ i h g. first_of_two (id_eq other_block i) (id_eq block i) (one_of (id_eq other_block i) h) g)
    (λ i h. absurd cc))

s8 : Sound (BlockDeleted block 35 ∷ until_removed)
s8 = lawful_keeps_sound [] until_removed (BlockDeleted block 35) s7 (record { unlisted = refl; expired = refl })

pub life_is_sound : Sound life
life_is_sound = lawful_keeps_sound [] (BlockDeleted block 35 ∷ until_removed) (Published swept) s8
    (published_is_lawful [] (BlockDeleted block 35 ∷ until_removed) removed (plan.Sweep (block ∷ [])) (plan.Sweep (block ∷ [])) (named 6) writer 40 s8 refl refl refl tt
    (omega arith) id6 is_writer refl refl refl
    (λ i h g. not_both (lists removed.dbs i) h g)
    (λ i h. elim (or_cases (id_eq block i) false h) as (λ c. was_deleted (BlockDeleted block 35 ∷ until_removed) i ≡ true) [ inl y ↦ ap (λ (t : Bool). t || false) y | inr n ↦ absurd cc ]))

-- a second before, the block may not be deleted yet, and while the copy lists it never
pub early_is_unlawful : IsLawful [] until_removed (BlockDeleted block 34) → ⊥
early_is_unlawful d = let e : false ≡ true = d.expired in absurd cc

pub listed_is_unlawful : (at : ℕ) → IsLawful [] until_uploaded (BlockDeleted block at) → ⊥
listed_is_unlawful at d = let e : true ≡ false = d.unlisted in absurd cc
