-- How often the manifest was put in a log is how many versions a sound log has.
use Rattle.std.proofs.Common.{◌≡◌, ◌∙◌, ◌==◌, ◌<◌, ◌≤◌, ◌⊎◌, inl, inr, ℕ, ◌+◌, Bool, true, false, List, [], ◌∷◌, ◌++◌, length, Option, Some, None, if◌then◌else◌, refl, sym, ap, subst, arith}
use Rattle.std.proofs.lemmas.Bool.{cases_eq, eq-eqb, ne_eqb, lt-ltb, le-ltb}
use Rattle.std.proofs.lemmas.List.{length-append}
use Rattle.bcv_base.specs.declared.log.Entry.{Entry}
use Rattle.bcv_base.specs.declared.log.Entry.TheVariants as entry
use Rattle.bcv_base.specs.declared.manifest.Manifest.{Manifest}
use Rattle.bcv_base.specs.declared.object.ObjName.TheVariants as object
use Rattle.bcv_base.specs.History.{Item, BlockPut, Published, Unreadable, BlockDeleted, ManifestDeleted, Always, count_of, history_after, history_of, as_read, item_of}
use Rattle.bcv_base.specs.Log.{put_count}
use Rattle.bcv_base.specs.LogLaws.{put_count-append, put_count-cons}
use Rattle.std.specs.Prelude.{Result, Ok, Err}
use Rattle.bcv_base.specs.ManifestGrammar.{manifest_of}
use Rattle.bcv_base.specs.Versions.{Reads, version_of, versions_of}
use Rattle.bcv_dbmap.specs.Sound.{IsSoundLog}
use Rattle.bcv_publisher.specs.PutStep.{version_added}
use Rattle.bcv_world.specs.WorldForm.{last_of_more}

-- ---- a history

-- where nothing is refused, each put of the manifest is a version
versions_counted : (past : List Item) → Always Reads past → length (versions_of past) ≡ count_of past
versions_counted [] reads = refl
versions_counted (BlockPut i bytes ∷ past) reads = versions_counted past reads.0
versions_counted (Published m ∷ past) reads = length-append (versions_of past) (version_of past m ∷ []) ∙ ap (λ n. n + 1) (versions_counted past reads.0)
versions_counted (Unreadable ∷ past) reads = absurd reads.1
versions_counted (BlockDeleted i at ∷ past) reads = versions_counted past reads.0
versions_counted (ManifestDeleted ∷ past) reads = versions_counted past reads.0

-- ---- a log

abbrev Counts : Entry → Type 0
Counts e = (past : List Item) → count_of (item_of e ∷ past) ≡ count_of past + put_count object.Manifest (e ∷ [])

counts : (e : Entry) → Counts e
counts (entry.Put own object.Manifest bytes etag) past =
    (elim (manifest_of bytes) as (λ r. count_of (as_read r ∷ past) ≡ count_of past + 1) [
      | Ok m ↦ refl
      | Err at ↦ refl
    ])
counts (entry.Put own (object.Block i) bytes etag) past = omega arith
counts (entry.Deleted own object.Manifest at) past = omega arith
counts (entry.Deleted own (object.Block i) at) past = omega arith

counted_after : (past : List Item) (log : List Entry) → count_of (history_after past log) ≡ count_of past + put_count object.Manifest log
counted_after past [] = omega arith
counted_after past (e ∷ es) =
    let one : count_of (item_of e ∷ past) ≡ count_of past + put_count object.Manifest (e ∷ []) = counts e past in
    let rest : count_of (history_after (item_of e ∷ past) es) ≡ count_of (item_of e ∷ past) + put_count object.Manifest es = counted_after (item_of e ∷ past) es in
    let all : put_count object.Manifest (e ∷ es) ≡ put_count object.Manifest (e ∷ []) + put_count object.Manifest es = put_count-append object.Manifest (e ∷ []) es in
    omega (arith, one, rest, all)

-- how many versions a sound log has
pub log_counted : (log : List Entry) → IsSoundLog log → length (versions_of (history_of log)) ≡ put_count object.Manifest log
log_counted log sound = let all = counted_after [] log in versions_counted (history_of log) sound.reads ∙ omega (arith, all)

-- ---- what one more version is seen by

seen_by : (a b : ℕ) → a ≤ b → last_of_more a b ≡ (if a == b then None else Some b)
seen_by a b most = by (cases_eq a b)
  where
    by : (a ≡ b) ⊎ (a ≡ b → ⊥) → last_of_more a b ≡ (if a == b then None else Some b)
    by (inl same) =
        ap (λ (t : Bool). if t then Some b else None) (le-ltb a b (omega (arith, same)))
        ∙ sym (ap (λ (t : Bool). if t then None else Some b) (eq-eqb a b same))
    by (inr ne) =
        ap (λ (t : Bool). if t then Some b else None) (lt-ltb a b (omega (arith, ne, most)))
        ∙ sym (ap (λ (t : Bool). if t then None else Some b) (ne_eqb a b ne))

-- what a log publishes that grows is told by how often the manifest was put
pub published_is : (before after own : List Entry) → after ≡ before ++ own → IsSoundLog before → IsSoundLog after
    → last_of_more (put_count object.Manifest before) (put_count object.Manifest after) ≡ version_added (history_of before) (history_of after)
published_is before after own grew sound sound_after =
    let most : put_count object.Manifest before ≤ put_count object.Manifest after =
    (let all = ap (put_count object.Manifest) grew ∙ put_count-append object.Manifest before own in omega (arith, all)) in
    seen_by (put_count object.Manifest before) (put_count object.Manifest after) most
    ∙ ap (λ (n : ℕ). if n == put_count object.Manifest after then None else Some (put_count object.Manifest after)) (sym (log_counted before sound))
    ∙ ap (λ (n : ℕ). if length (versions_of (history_of before)) == n then None else Some n) (sym (log_counted after sound_after))

pub nothing_published : (past : List Item) → version_added past past ≡ None
nothing_published past =
    ap (λ (t : Bool). if t then None else Some (length (versions_of past))) (eq-eqb (length (versions_of past)) (length (versions_of past)) refl)
