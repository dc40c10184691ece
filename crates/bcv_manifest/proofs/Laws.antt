-- The two laws of a manifest's bytes: what is read meets the rules and is spelled so, and what meets the rules and is spelled so is read.
use Rattle.std.proofs.Common.{◌≡◌, ℕ, ◌^◌, ◌<◌, ◌≤◌, Bool, true, List, ◌++◌, length, Option, None, Ok, refl, sym, ap, subst, ◌∙◌, append_assoc, arith}
use Rattle.std.specs.Prelude.{nat_le, ◌&&◌, not}
use Rattle.std.specs.Cmp.{first_so, second_so}
use Rattle.std.specs.Cmp.Derive.{both_true}
use Rattle.std.specs.Int.{w8, w32, w64, to_be_bytes, is_power_of_two}
use Rattle.std.specs.List.{flat_map, list_all}
use Rattle.std.proofs.lemmas.Bool.{leb-true, le-leb, not-true, not_from_false}
use Rattle.bcv_base.specs.declared.id.Id16.{Id16}
use Rattle.bcv_base.specs.declared.manifest.DbEntry.{DbEntry}
use Rattle.bcv_base.specs.declared.manifest.Dead.{Dead}
use Rattle.bcv_base.specs.declared.manifest.Writer.{Writer}
use Rattle.bcv_base.specs.Ids.{IsId}
use Rattle.bcv_base.specs.Names.{is_name, is_name_byte}
use Rattle.bcv_base.specs.ManifestGrammar.{Read, ◌>>=◌, bytes_at, number_at, id_at, such, is_above, items_at, writer_at, entry_at, dead_at}
use Rattle.bcv_base.specs.ManifestRules.{writer_id, db_name, dead_id, lists, is_page_size, blocks_needed, MeetsWriterRules, MeetsEntryRules, MeetsDeadRules}
use Rattle.bcv_base.specs.ManifestText.{id_text, writer_text, entry_text, dead_text}
use Rattle.bcv_manifest.proofs.Readers.{IsReader, step, goes, Takes, Takes-then, ok_is, bytes_reader, such_reader, number_reader, id_reader, wide8, wide32, wide64}
use Rattle.bcv_manifest.proofs.Lists.{Chain, Rising, items_reader, all_of_chain, chain_of_all}

-- ---- writers

abbrev writer_made : Id16 × List ℕ → Id16 × List ℕ → ℕ × List ℕ → Read Writer
writer_made id last number = Ok (record { id = id.0; last = last.0; number = number.0 }, number.1)

abbrev number_is : ℕ → ℕ → Bool
number_is most n = nat_le 1 n && nat_le n most

abbrev writer_number : ℕ → Id16 × List ℕ → Id16 × List ℕ → Read Writer
writer_number most id last = such (number_at w64) (number_is most) last.1 >>= writer_made id last

abbrev writer_last : ℕ → Id16 × List ℕ → Read Writer
writer_last most id = id_at id.1 >>= writer_number most id

id_above : (before : Option (List ℕ)) → IsReader (such id_at (λ i. is_above before i.0)) id_text (λ i. IsId i × (is_above before i.0 ≡ true))
id_above before = such_reader id_reader (λ i. is_above before i.0)

number_in : (most : ℕ) → IsReader (such (number_at w64) (number_is most)) (to_be_bytes w64) (λ n. (n < 2 ^ 64) × (number_is most n ≡ true))
number_in most = such_reader (number_reader wide64) (number_is most)

is_in : (most n : ℕ) → number_is most n ≡ true → (1 ≤ n) × (n ≤ most)
is_in most n h = (leb-true _ _ (first_so (nat_le 1 n) (nat_le n most) h), leb-true _ _ (second_so (nat_le 1 n) (nat_le n most) h))

in_is : (most n : ℕ) → 1 ≤ n → n ≤ most → number_is most n ≡ true
in_is most n least h = both_true {s = nat_le 1 n} {t = nat_le n most} (le-leb _ _ least) (le-leb _ _ h)

pub writer_reader : (most : ℕ) → most < 2 ^ 64 → (before : Option (List ℕ)) → IsReader (writer_at most before) writer_text (Rising writer_id (MeetsWriterRules most) before)
unfolding writer_at
writer_reader most small before = record {
  takes = λ bytes y fits e.
      let i = step (id_above before) bytes (writer_last most) y fits e in
      let l = step id_reader i.x.1 (writer_number most i.x) y i.taken.rest_fits i.then in
      let n = step (number_in most) l.x.1 (writer_made i.x l.x) y l.taken.rest_fits l.then in
      let made : Writer × List ℕ = (record { id = i.x.0; last = l.x.0; number = n.x.0 }, n.x.1) in
      let within = is_in most n.x.0 n.meets.1 in
      subst (λ (z : Writer × List ℕ). Takes bytes (writer_text z.0) z.1 × Rising writer_id (MeetsWriterRules most) before z.0) (ok_is made y n.then)
      (Takes-then i.taken (Takes-then l.taken n.taken), (record { id = i.meets.0; last = l.meets; least = within.0; most = within.1 }, i.meets.1));
  again = λ w rest h.
      let number : List ℕ = to_be_bytes w64 w.number ++ rest in
      ap (writer_at most before) (group3 w.id.0 w.last.0 (to_be_bytes w64 w.number) rest)
      ∙ goes (id_above before) w.id (w.last.0 ++ number) (writer_last most) (h.0.id, h.1)
      ∙ goes id_reader w.last number (writer_number most (w.id, w.last.0 ++ number)) h.0.last
      ∙ goes (number_in most) w.number rest (writer_made (w.id, w.last.0 ++ number) (w.last, number)) (omega (arith, h.0.most, small), in_is most w.number h.0.least h.0.most);
}
  where
    group3 : (a b c rest : List ℕ) → (a ++ (b ++ c)) ++ rest ≡ a ++ (b ++ (c ++ rest))
    group3 a b c rest = simp append_assoc

-- ---- databases

abbrev entry_made : List ℕ × List ℕ → Id16 × List ℕ → ℕ × List ℕ → ℕ × List ℕ → List Id16 × List ℕ → Read DbEntry
entry_made name tag page_size pages blocks = Ok (record { name = name.0; tag = tag.0; page_size = page_size.0; pages = pages.0; blocks = blocks.0 }, blocks.1)

abbrev entry_blocks : ℕ → List ℕ × List ℕ → Id16 × List ℕ → ℕ × List ℕ → ℕ × List ℕ → Read DbEntry
entry_blocks block name tag page_size pages = items_at id_text (λ _. id_at) (blocks_needed block page_size.0 pages.0) None pages.1 >>= entry_made name tag page_size pages

abbrev are_few : ℕ → ℕ → ℕ → Bool
are_few block page_size n = nat_le (blocks_needed block page_size n) 65536

abbrev entry_pages : ℕ → List ℕ × List ℕ → Id16 × List ℕ → ℕ × List ℕ → Read DbEntry
entry_pages block name tag page_size = such (number_at w32) (are_few block page_size.0) page_size.1 >>= entry_blocks block name tag page_size

abbrev entry_page_size : ℕ → List ℕ × List ℕ → Id16 × List ℕ → Read DbEntry
entry_page_size block name tag = such (number_at w32) (is_page_size block) tag.1 >>= entry_pages block name tag

abbrev entry_tag : ℕ → List ℕ × List ℕ → Read DbEntry
entry_tag block name = id_at name.1 >>= entry_page_size block name

abbrev stands : Option (List ℕ) → List ℕ → Bool
stands before k = is_name k && is_above before k

abbrev entry_name : ℕ → Option (List ℕ) → ℕ × List ℕ → Read DbEntry
entry_name block before len = such (bytes_at len.0) (stands before) len.1 >>= entry_tag block

abbrev is_len : ℕ → Bool
is_len n = nat_le 1 n && nat_le n 64

len_reader : IsReader (such (number_at w8) is_len) (to_be_bytes w8) (λ n. (n < 256) × (is_len n ≡ true))
len_reader = such_reader (number_reader wide8) is_len

name_reader : (before : Option (List ℕ)) (n : ℕ) → IsReader (such (bytes_at n) (stands before)) (λ k. k) (λ k. (length k ≡ n) × (stands before k ≡ true))
name_reader before n = such_reader (bytes_reader n) (stands before)

page_size_reader : (block : ℕ) → IsReader (such (number_at w32) (is_page_size block)) (to_be_bytes w32) (λ n. (n < 2 ^ 32) × (is_page_size block n ≡ true))
page_size_reader block = such_reader (number_reader wide32) (is_page_size block)

pages_reader : (block page_size : ℕ) → IsReader (such (number_at w32) (are_few block page_size)) (to_be_bytes w32) (λ n. (n < 2 ^ 32) × (are_few block page_size n ≡ true))
pages_reader block page_size = such_reader (number_reader wide32) (are_few block page_size)

ids_reader : (n : ℕ) → IsReader (items_at id_text (λ _. id_at) n None) (flat_map id_text) (λ is. (length is ≡ n) × Chain id_text (λ _. IsId) None is)
ids_reader n = items_reader id_text (λ _. id_at) id_text (λ _. IsId) (λ _. id_reader) n None

name_len : (k : List ℕ) → is_name k ≡ true → is_len (length k) ≡ true
name_len k h = first_so (is_len (length k)) (list_all is_name_byte k) h

page_size_small : (block n : ℕ) → is_page_size block n ≡ true → n ≤ 65536
page_size_small block n h =
    let in_range = first_so (nat_le 512 n && nat_le n 65536) (is_power_of_two n) (first_so (nat_le 512 n && nat_le n 65536 && is_power_of_two n) (nat_le n block) h) in
    leb-true _ _ (second_so (nat_le 512 n) (nat_le n 65536) in_range)

pub entry_reader : (block : ℕ) (before : Option (List ℕ)) → IsReader (entry_at block before) entry_text (Rising db_name (MeetsEntryRules block) before)
unfolding entry_at
entry_reader block before = record {
  takes = λ bytes y fits e.
      let a = step len_reader bytes (entry_name block before) y fits e in
      let k = step (name_reader before a.x.0) a.x.1 (entry_tag block) y a.taken.rest_fits a.then in
      let t = step id_reader k.x.1 (entry_page_size block k.x) y k.taken.rest_fits k.then in
      let s = step (page_size_reader block) t.x.1 (entry_pages block k.x t.x) y t.taken.rest_fits t.then in
      let p = step (pages_reader block s.x.0) s.x.1 (entry_blocks block k.x t.x s.x) y s.taken.rest_fits s.then in
      let i = step (ids_reader (blocks_needed block s.x.0 p.x.0)) p.x.1 (entry_made k.x t.x s.x p.x) y p.taken.rest_fits p.then in
      let d : DbEntry = record { name = k.x.0; tag = t.x.0; page_size = s.x.0; pages = p.x.0; blocks = i.x.0 } in
      let behind : List ℕ = k.x.0 ++ (t.x.0.0 ++ (to_be_bytes w32 s.x.0 ++ (to_be_bytes w32 p.x.0 ++ flat_map id_text i.x.0))) in
      let taken : Takes bytes (to_be_bytes w8 a.x.0 ++ behind) i.x.1 = Takes-then a.taken (Takes-then k.taken (Takes-then t.taken (Takes-then s.taken (Takes-then p.taken i.taken)))) in
      let few : length i.x.0 ≤ 65536 = omega (arith, leb-true _ _ p.meets.1, i.meets.0) in
      let made : DbEntry × List ℕ = (d, i.x.1) in
      let rules : MeetsEntryRules block d = record { name = first_so (is_name k.x.0) (is_above before k.x.0) k.meets.1; tag = t.meets; page_size = s.meets.1; pages = p.meets.0; blocks = i.meets.0; few = few; ids = all_of_chain id_text IsId None i.x.0 i.meets.1 } in
      subst (λ (z : DbEntry × List ℕ). Takes bytes (entry_text z.0) z.1 × Rising db_name (MeetsEntryRules block) before z.0) (ok_is made y i.then)
      (subst (λ (n : ℕ). Takes bytes (to_be_bytes w8 n ++ behind) i.x.1) (sym k.meets.0) taken, (rules, second_so (is_name k.x.0) (is_above before k.x.0) k.meets.1));
  again = λ d rest h.
      let ids : List ℕ = flat_map id_text d.blocks ++ rest in
      let pages : List ℕ = to_be_bytes w32 d.pages ++ ids in
      let page_size : List ℕ = to_be_bytes w32 d.page_size ++ pages in
      let tag : List ℕ = d.tag.0 ++ page_size in
      ap (entry_at block before) (group6 (to_be_bytes w8 (length d.name)) d.name d.tag.0 (to_be_bytes w32 d.page_size) (to_be_bytes w32 d.pages) (flat_map id_text d.blocks) rest)
      ∙ goes len_reader (length d.name) (d.name ++ tag) (entry_name block before) (len_small d.name (name_len d.name h.0.name), name_len d.name h.0.name)
      ∙ goes (name_reader before (length d.name)) d.name tag (entry_tag block) (refl, both_true {s = is_name d.name} {t = is_above before d.name} h.0.name h.1)
      ∙ goes id_reader d.tag page_size (entry_page_size block (d.name, tag)) h.0.tag
      ∙ goes (page_size_reader block) d.page_size pages (entry_pages block (d.name, tag) (d.tag, page_size)) (omega (arith, page_size_small block d.page_size h.0.page_size), h.0.page_size)
      ∙ goes (pages_reader block d.page_size) d.pages ids (entry_blocks block (d.name, tag) (d.tag, page_size) (d.page_size, pages)) (h.0.pages, le-leb _ _ (omega (arith, h.0.few, h.0.blocks)))
      ∙ goes (ids_reader (blocks_needed block d.page_size d.pages)) d.blocks rest (entry_made (d.name, tag) (d.tag, page_size) (d.page_size, pages) (d.pages, ids)) (h.0.blocks, chain_of_all id_text IsId None d.blocks h.0.ids);
}
  where
    group6 : (a b c d e f rest : List ℕ) → (a ++ (b ++ (c ++ (d ++ (e ++ f))))) ++ rest ≡ a ++ (b ++ (c ++ (d ++ (e ++ (f ++ rest)))))
    group6 a b c d e f rest = simp append_assoc

    len_small : (k : List ℕ) → is_len (length k) ≡ true → length k < 256
    len_small k h = omega (arith, leb-true (length k) 64 (second_so (nat_le 1 (length k)) (nat_le (length k) 64) h))

-- ---- dead blocks

abbrev dead_made : Id16 × List ℕ → ℕ × List ℕ → Read Dead
dead_made id stamp = Ok (record { id = id.0; stamp = stamp.0 }, stamp.1)

abbrev dead_stamp : Id16 × List ℕ → Read Dead
dead_stamp id = number_at w64 id.1 >>= dead_made id

abbrev may_die : (Id16 → Bool) → Option (List ℕ) → Id16 → Bool
may_die is_listed before i = is_above before i.0 && not (is_listed i)

dead_id_reader : (dbs : List DbEntry) (before : Option (List ℕ)) → IsReader (such id_at (may_die (lists dbs) before)) id_text (λ i. IsId i × (may_die (lists dbs) before i ≡ true))
dead_id_reader dbs before = such_reader id_reader (may_die (lists dbs) before)

pub dead_reader : (dbs : List DbEntry) (before : Option (List ℕ)) → IsReader (dead_at (lists dbs) before) dead_text (Rising dead_id (MeetsDeadRules dbs) before)
unfolding dead_at
dead_reader dbs before = record {
  takes = λ bytes y fits e.
      let i = step (dead_id_reader dbs before) bytes dead_stamp y fits e in
      let s = step (number_reader wide64) i.x.1 (dead_made i.x) y i.taken.rest_fits i.then in
      let made : Dead × List ℕ = (record { id = i.x.0; stamp = s.x.0 }, s.x.1) in
      subst (λ (z : Dead × List ℕ). Takes bytes (dead_text z.0) z.1 × Rising dead_id (MeetsDeadRules dbs) before z.0) (ok_is made y s.then)
      (Takes-then i.taken s.taken, (record { id = i.meets.0; unlisted = not-true (lists dbs i.x.0) (second_so (is_above before i.x.0.0) (not (lists dbs i.x.0)) i.meets.1); stamp = s.meets }, first_so (is_above before i.x.0.0) (not (lists dbs i.x.0)) i.meets.1));
  again = λ e rest h.
      let stamp : List ℕ = to_be_bytes w64 e.stamp ++ rest in
      ap (dead_at (lists dbs) before) (append_assoc e.id.0 (to_be_bytes w64 e.stamp) rest)
      ∙ goes (dead_id_reader dbs before) e.id stamp dead_stamp (h.0.id, both_true {s = is_above before e.id.0} {t = not (lists dbs e.id)} h.1 (not_from_false _ h.0.unlisted))
      ∙ goes (number_reader wide64) e.stamp rest (dead_made (e.id, stamp)) h.0.stamp;
}
