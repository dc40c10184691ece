-- The laws of a whole manifest's bytes.
use Rattle.std.proofs.Common.{◌≡◌, ℕ, ◌^◌, ◌<◌, ◌≤◌, Bool, true, List, [], ◌++◌, length, None, Ok, refl, sym, ap, subst, ◌∙◌, append_assoc, arith}
use Rattle.std.specs.Prelude.{nat_le, ◌&&◌}
use Rattle.std.specs.Cmp.{first_so, second_so}
use Rattle.std.specs.Int.{w32, w64, to_be_bytes, is_power_of_two}
use Rattle.std.specs.Str.{bytes_eq}
use Rattle.std.proofs.lemmas.Bool.{leb-true, le-leb}
use Rattle.std.proofs.lemmas.Slice.Eq.{bytes_eq-Decides}
use Rattle.bcv_base.specs.declared.id.Id16.{Id16}
use Rattle.bcv_base.specs.declared.manifest.DbEntry.{DbEntry}
use Rattle.bcv_base.specs.declared.manifest.Dead.{Dead}
use Rattle.bcv_base.specs.declared.manifest.Manifest.{Manifest}
use Rattle.bcv_base.specs.declared.manifest.Writer.{Writer}
use Rattle.bcv_base.specs.Ids.{IsId}
use Rattle.bcv_base.specs.ManifestGrammar.{Read, ◌>>=◌, bytes_at, number_at, id_at, such, counted_at, writer_at, entry_at, dead_at, head_at, lists_at, manifest_at}
use Rattle.bcv_base.specs.ManifestRules.{writer_id, db_name, dead_id, lists, is_block_size, MeetsWriterRules, MeetsEntryRules, MeetsDeadRules, MeetsRules}
use Rattle.bcv_base.specs.ManifestText.{magic, writer_text, entry_text, dead_text, counted, manifest_text}
use Rattle.bcv_base.specs.SizeLimits.{most_writers, most_databases, most_dead}
use Rattle.bcv_manifest.specs.Head.{head_text}
use Rattle.bcv_manifest.proofs.Readers.{IsBytes, IsReader, step_to, goes, Takes, Takes-then, ok_is, bytes_reader, such_reader, number_reader, id_reader, wide32, wide64}
use Rattle.bcv_manifest.proofs.Lists.{Chain, Rising, counted_reader, ascends_of, chain_of}
use Rattle.bcv_manifest.proofs.Laws.{writer_reader, entry_reader, dead_reader}

-- ---- what is read after each field

abbrev Numbers : Type 0
Numbers = ℕ × List ℕ

abbrev made : Numbers → Numbers → Numbers → Numbers → Id16 × List ℕ → Read Manifest
made number moment block retention id =
    Ok (record { number = number.0; moment = moment.0; block = block.0; retention = retention.0; id = id.0; writers = []; dbs = []; dead = [] }, id.1)

abbrev from_id : Numbers → Numbers → Numbers → Numbers → Read Manifest
from_id number moment block retention = id_at retention.1 >>= made number moment block retention

abbrev from_retention : Numbers → Numbers → Numbers → Read Manifest
from_retention number moment block = number_at w64 block.1 >>= from_id number moment block

abbrev from_block : Numbers → Numbers → Read Manifest
from_block number moment = such (number_at w32) is_block_size moment.1 >>= from_retention number moment

abbrev from_moment : Numbers → Read Manifest
from_moment number = number_at w64 number.1 >>= from_block number

abbrev from_number : List ℕ × List ℕ → Read Manifest
from_number front = such (number_at w64) (nat_le 1) front.1 >>= from_moment

abbrev with_lists : Manifest → List Writer × List ℕ → List DbEntry × List ℕ → List Dead × List ℕ → Read Manifest
with_lists head writers dbs dead = Ok (record head { writers = writers.0; dbs = dbs.0; dead = dead.0 }, dead.1)

abbrev from_dead : Manifest → List Writer × List ℕ → List DbEntry × List ℕ → Read Manifest
from_dead head writers dbs = counted_at most_dead dead_id (dead_at (lists dbs.0)) dbs.1 >>= with_lists head writers dbs

abbrev from_dbs : Manifest → List Writer × List ℕ → Read Manifest
from_dbs head writers = counted_at most_databases db_name (entry_at head.block) writers.1 >>= from_dead head writers

abbrev from_head : Manifest × List ℕ → Read Manifest
from_head head = lists_at head.0 head.1

abbrev is_magic : List ℕ → Bool
is_magic k = bytes_eq k magic

-- ---- the fields

magic_reader : IsReader (such (bytes_at 8) is_magic) (λ k. k) (λ k. (length k ≡ 8) × (is_magic k ≡ true))
magic_reader = such_reader (bytes_reader 8) is_magic

number_field : IsReader (such (number_at w64) (nat_le 1)) (to_be_bytes w64) (λ n. (n < 2 ^ 64) × (nat_le 1 n ≡ true))
number_field = such_reader (number_reader wide64) (nat_le 1)

block_field : IsReader (such (number_at w32) is_block_size) (to_be_bytes w32) (λ n. (n < 2 ^ 32) × (is_block_size n ≡ true))
block_field = such_reader (number_reader wide32) is_block_size

writers_field : (most : ℕ) → most < 2 ^ 64 → IsReader (counted_at most_writers writer_id (writer_at most)) (counted writer_text) (λ ws. (length ws ≤ most_writers) × Chain writer_id (Rising writer_id (MeetsWriterRules most)) None ws)
writers_field most small = counted_reader writer_id (writer_at most) writer_text (Rising writer_id (MeetsWriterRules most)) (writer_reader most small) most_writers (omega arith)

dbs_field : (block : ℕ) → IsReader (counted_at most_databases db_name (entry_at block)) (counted entry_text) (λ ds. (length ds ≤ most_databases) × Chain db_name (Rising db_name (MeetsEntryRules block)) None ds)
dbs_field block = counted_reader db_name (entry_at block) entry_text (Rising db_name (MeetsEntryRules block)) (entry_reader block) most_databases (omega arith)

dead_field : (dbs : List DbEntry) → IsReader (counted_at most_dead dead_id (dead_at (lists dbs))) (counted dead_text) (λ es. (length es ≤ most_dead) × Chain dead_id (Rising dead_id (MeetsDeadRules dbs)) None es)
dead_field dbs = counted_reader dead_id (dead_at (lists dbs)) dead_text (Rising dead_id (MeetsDeadRules dbs)) (dead_reader dbs) most_dead (omega arith)

block_small : (n : ℕ) → is_block_size n ≡ true → n ≤ 16777216
block_small n h = leb-true n 16777216 (second_so (nat_le 512 n) (nat_le n 16777216) (first_so (nat_le 512 n && nat_le n 16777216) (is_power_of_two n) h))

-- what a manifest at the front of bytes meets
pub record IsManifest (m : Manifest) : Type 0 where
  pub rules : MeetsRules m
  pub few_writers : length m.writers ≤ most_writers
  pub few_dbs : length m.dbs ≤ most_databases
  pub few_dead : length m.dead ≤ most_dead

group3 : (a b c rest : List ℕ) → (a ++ (b ++ c)) ++ rest ≡ a ++ (b ++ (c ++ rest))
group3 a b c rest = simp append_assoc

group6 : (a b c d e f rest : List ℕ) → (a ++ (b ++ (c ++ (d ++ (e ++ f))))) ++ rest ≡ a ++ (b ++ (c ++ (d ++ (e ++ (f ++ rest)))))
group6 a b c d e f rest = simp append_assoc

-- the text of a manifest is that of its head and then that of its lists
abbrev lists_text : Manifest → List ℕ
lists_text m = counted writer_text m.writers ++ (counted entry_text m.dbs ++ counted dead_text m.dead)

parted : (m : Manifest) → head_text m ++ lists_text m ≡ manifest_text m
parted m = group6 magic (to_be_bytes w64 m.number) (to_be_bytes w64 m.moment) (to_be_bytes w32 m.block) (to_be_bytes w64 m.retention) m.id.0 (lists_text m)

abbrev Taken : List ℕ → Manifest × List ℕ → Type 0
Taken bytes y = Takes bytes (manifest_text y.0) y.1 × IsManifest y.0

magic_is : (k : List ℕ) → is_magic k ≡ true → k ≡ magic
magic_is k h = (bytes_eq-Decides k magic).0 h

-- the lists that were read, as rules
rules_of : (m : Manifest) → (m.number < 2 ^ 64) × (nat_le 1 m.number ≡ true) → m.moment < 2 ^ 64 → (m.block < 2 ^ 32) × (is_block_size m.block ≡ true) → m.retention < 2 ^ 64 → IsId m.id
    → (length m.writers ≤ most_writers) × Chain writer_id (Rising writer_id (MeetsWriterRules m.number)) None m.writers
    → (length m.dbs ≤ most_databases) × Chain db_name (Rising db_name (MeetsEntryRules m.block)) None m.dbs
    → (length m.dead ≤ most_dead) × Chain dead_id (Rising dead_id (MeetsDeadRules m.dbs)) None m.dead → IsManifest m
rules_of m number moment block retention id writers dbs dead =
    let w = ascends_of writer_id (MeetsWriterRules m.number) m.writers writers.1 in
    let d = ascends_of db_name (MeetsEntryRules m.block) m.dbs dbs.1 in
    let x = ascends_of dead_id (MeetsDeadRules m.dbs) m.dead dead.1 in
    record {
      rules = record {
        least = leb-true _ _ number.1;
        number = number.0;
        moment = moment;
        block = block.1;
        retention = retention;
        id = id;
        writers = w.0;
        each_writer = w.1;
        dbs = d.0;
        each_db = d.1;
        dead = x.0;
        each_dead = x.1;
      };
      few_writers = writers.0;
      few_dbs = dbs.0;
      few_dead = dead.0;
    }

-- ---- the head

-- what a head at the front of bytes meets: its fields do, and its lists are empty
record IsHead (h : Manifest) : Type 0 where
  number : (h.number < 2 ^ 64) × (nat_le 1 h.number ≡ true)
  moment : h.moment < 2 ^ 64
  block : (h.block < 2 ^ 32) × (is_block_size h.block ≡ true)
  retention : h.retention < 2 ^ 64
  id : IsId h.id
  bare : h ≡ record h { writers = []; dbs = []; dead = [] }

head_takes : (bytes : List ℕ) (y : Manifest × List ℕ) → IsBytes bytes → head_at bytes ≡ Ok y → Takes bytes (head_text y.0) y.1 × IsHead y.0
unfolding head_at
head_takes bytes y fits e =
    let G : Type 0 = Takes bytes (head_text y.0) y.1 × IsHead y.0 in
    step_to G magic_reader bytes from_number y fits e (λ k r1 t1 p1 e1.
    step_to G number_field r1 from_moment y t1.rest_fits e1 (λ n r2 t2 p2 e2.
    step_to G (number_reader wide64) r2 (from_block (n, r2)) y t2.rest_fits e2 (λ o r3 t3 p3 e3.
    step_to G block_field r3 (from_retention (n, r2) (o, r3)) y t3.rest_fits e3 (λ b r4 t4 p4 e4.
    step_to G (number_reader wide64) r4 (from_id (n, r2) (o, r3) (b, r4)) y t4.rest_fits e4 (λ r r5 t5 p5 e5.
    step_to G id_reader r5 (made (n, r2) (o, r3) (b, r4) (r, r5)) y t5.rest_fits e5 (λ i r6 t6 p6 e6.
    let h : Manifest = record { number = n; moment = o; block = b; retention = r; id = i; writers = []; dbs = []; dead = [] } in
    let pair : Manifest × List ℕ = (h, r6) in
    let first : Takes bytes magic r1 = subst (λ (t : List ℕ). Takes bytes t r1) (magic_is k p1.1) t1 in
    let text : Takes bytes (head_text h) r6 = Takes-then first (Takes-then t2 (Takes-then t3 (Takes-then t4 (Takes-then t5 t6)))) in
    let is : IsHead h = record { number = p2; moment = p3; block = p4; retention = p5; id = p6; bare = refl } in
    subst (λ (z : Manifest × List ℕ). Takes bytes (head_text z.0) z.1 × IsHead z.0) (ok_is pair y e6) (text, is)))))))

head_again : (m : Manifest) (rest : List ℕ) → IsHead m → head_at (head_text m ++ rest) ≡ Ok (m, rest)
unfolding head_at
head_again m rest h =
    let id : List ℕ = m.id.0 ++ rest in
    let retention : List ℕ = to_be_bytes w64 m.retention ++ id in
    let block : List ℕ = to_be_bytes w32 m.block ++ retention in
    let moment : List ℕ = to_be_bytes w64 m.moment ++ block in
    let n : Numbers = (m.number, moment) in
    let o : Numbers = (m.moment, block) in
    let b : Numbers = (m.block, retention) in
    let r : Numbers = (m.retention, id) in
    ap head_at (group6 magic (to_be_bytes w64 m.number) (to_be_bytes w64 m.moment) (to_be_bytes w32 m.block) (to_be_bytes w64 m.retention) m.id.0 rest)
    ∙ goes magic_reader magic (to_be_bytes w64 m.number ++ moment) from_number (refl, refl)
    ∙ goes number_field m.number moment from_moment h.number
    ∙ goes (number_reader wide64) m.moment block (from_block n) h.moment
    ∙ goes block_field m.block retention (from_retention n o) h.block
    ∙ goes (number_reader wide64) m.retention id (from_id n o b) h.retention
    ∙ goes id_reader m.id rest (made n o b r) h.id
    ∙ ap (λ (k : Manifest). Ok (k, rest)) (sym h.bare)

head_reader : IsReader head_at head_text IsHead
head_reader = record { takes = head_takes; again = head_again }

-- ---- the whole

manifest_takes : (bytes : List ℕ) (y : Manifest × List ℕ) → IsBytes bytes → manifest_at bytes ≡ Ok y → Taken bytes y
unfolding manifest_at lists_at
manifest_takes bytes y fits e =
    let G : Type 0 = Taken bytes y in
    step_to G head_reader bytes from_head y fits e (λ h r1 t1 p1 e1.
    step_to G (writers_field h.number p1.number.0) r1 (from_dbs h) y t1.rest_fits e1 (λ ws r2 t2 p2 e2.
    step_to G (dbs_field h.block) r2 (from_dead h (ws, r2)) y t2.rest_fits e2 (λ ds r3 t3 p3 e3.
    step_to G (dead_field ds) r3 (with_lists h (ws, r2) (ds, r3)) y t3.rest_fits e3 (λ es r4 t4 p4 e4.
    let m : Manifest = record h { writers = ws; dbs = ds; dead = es } in
    let pair : Manifest × List ℕ = (m, r4) in
    let text : Takes bytes (manifest_text m) r4 = subst (λ (t : List ℕ). Takes bytes t r4) (parted m) (Takes-then t1 (Takes-then t2 (Takes-then t3 t4))) in
    subst (λ (z : Manifest × List ℕ). Taken bytes z) (ok_is pair y e4) (text, rules_of m p1.number p1.moment p1.block p1.retention p1.id p2 p3 p4)))))

manifest_again : (m : Manifest) (rest : List ℕ) → IsManifest m → manifest_at (manifest_text m ++ rest) ≡ Ok (m, rest)
unfolding manifest_at lists_at
manifest_again m rest h =
    let dead : List ℕ = counted dead_text m.dead ++ rest in
    let dbs : List ℕ = counted entry_text m.dbs ++ dead in
    let writers : List ℕ = counted writer_text m.writers ++ dbs in
    let bare : Manifest = record m { writers = []; dbs = []; dead = [] } in
    let is : IsHead bare = record {
      number = (h.rules.number, le-leb _ _ h.rules.least);
      moment = h.rules.moment;
      block = (omega (arith, block_small m.block h.rules.block), h.rules.block);
      retention = h.rules.retention;
      id = h.rules.id;
      bare = refl;
    } in
    ap manifest_at (ap (λ (t : List ℕ). t ++ rest) (sym (parted m)) ∙ append_assoc (head_text m) (lists_text m) rest ∙ ap (λ (t : List ℕ). head_text m ++ t) (group3 (counted writer_text m.writers) (counted entry_text m.dbs) (counted dead_text m.dead) rest))
    ∙ goes head_reader bare writers from_head is
    ∙ goes (writers_field m.number h.rules.number) m.writers dbs (from_dbs bare) (h.few_writers, chain_of writer_id (MeetsWriterRules m.number) m.writers h.rules.writers h.rules.each_writer)
    ∙ goes (dbs_field m.block) m.dbs dead (from_dead bare (m.writers, dbs)) (h.few_dbs, chain_of db_name (MeetsEntryRules m.block) m.dbs h.rules.dbs h.rules.each_db)
    ∙ goes (dead_field m.dbs) m.dead rest (with_lists bare (m.writers, dbs) (m.dbs, dead)) (h.few_dead, chain_of dead_id (MeetsDeadRules m.dbs) m.dead h.rules.dead h.rules.each_dead)

pub manifest_reader : IsReader manifest_at manifest_text IsManifest
manifest_reader = record { takes = manifest_takes; again = manifest_again }
