-- The stages of uploads and cleanups.
use Rattle.std.proofs.Common.{◌≡◌, ◌∙◌, ◌+◌, ◌≤◌, ◌==◌, ◌&&◌, ℕ, Bool, true, false, cond, List, [], ◌∷◌, ◌++◌, length, Option, Some, None, is_some, refl, sym, ap, subst, arith}
use Rattle.std.proofs.lemmas.Bool.{eqb-true}
use Rattle.bcv_base.specs.declared.seen.Latest.{Latest}
use Rattle.bcv_base.specs.declared.seen.Seen.{Seen}
use Rattle.bcv_cleanup.specs.State as cleanup
use Rattle.bcv_publish.specs.declared.work.Work.TheVariants as work
use Rattle.bcv_publish.specs.ManifestPut.{refused_once}
use Rattle.bcv_publish.specs.State as publish
use Rattle.bcv_upload.specs.State as upload
use Rattle.bcv_upload.specs.UploadWork as uploading
use Rattle.bcv_clientstate.specs.StageLaws.{DeletionStaysSwept, NewIsStaged, ReadingIsSwept, RefusedIsStaged, RefusedIsSwept, UploadStaysStaged}
use Rattle.bcv_clientstate.specs.Stages.{IsStaged, IsStageOf, IsSwept, IsSweptOf}

pub new_is_staged : NewIsStaged
new_is_staged base size touched writer id = (λ none. (refl, refl), λ none. (refl, refl))

-- ---- where a manifest is kept

kept_staged : (t : upload.State) (l : Latest) → t.publish.latest ≡ Some l → IsStaged t
kept_staged t l kept none = absurd (cc)

kept_swept : (t : cleanup.State) (l : Latest) → t.publish.latest ≡ Some l → IsSwept t
kept_swept t l kept none = absurd (cc)

by_read : (s t : upload.State) (fetch : Bool) (seen : Seen) (o : Option Latest) → s.publish.latest ≡ o → uploading.WorkLeaves o fetch seen s work.More t → IsStaged t
by_read s t fetch seen None unread leaves =
    let read = leaves.1 in kept_staged t read.0 (ap (λ (n : upload.State). n.publish.latest) leaves.2 ∙ ap (λ (q : publish.State). q.latest) read.5)
by_read s t true seen (Some l) kept leaves = kept_staged t l (ap (λ (n : upload.State). n.publish.latest) leaves.3 ∙ kept)
by_read s t false seen (Some l) kept leaves = kept_staged t l (ap (λ (n : upload.State). n.publish.latest) leaves.1 ∙ kept)

pub upload_stays_staged : UploadStaysStaged
upload_stays_staged s t fetch seen leaves = by_read s t fetch seen s.publish.latest refl leaves

pub reading_is_swept : ReadingIsSwept
reading_is_swept s t p l at ids more kept becomes = kept_swept t l (ap (λ (n : cleanup.State). n.publish.latest) becomes ∙ kept)

pub deletion_stays_swept : DeletionStaysSwept
deletion_stays_swept s t l kept leaves = kept_swept t l (ap (λ (n : cleanup.State). n.publish.latest) leaves ∙ kept)

-- ---- after a put that was refused

-- some refusals, one more, are some
upload_stage : (t : upload.State) (ns : List ℕ) (n : ℕ) → upload.left_of t ≡ 2 → IsStageOf (ns ++ n ∷ []) t
upload_stage t [] n two = two
upload_stage t (k ∷ ks) n two = two

cleanup_stage : (t : cleanup.State) (ns : List ℕ) (n : ℕ) → 1 ≤ length (cleanup.taken_ids t) → IsSweptOf (ns ++ n ∷ []) t
cleanup_stage t [] n some = some
cleanup_stage t (k ∷ ks) n some = some

-- all blocks were put where the put alone is left
none_waits : (published : Bool) (k : ℕ) → (cond published 0 (k + 1) == 1) ≡ true → k ≡ 0
none_waits true k e = let zero_is = eqb-true 0 1 e in absurd (omega (arith, zero_is))
none_waits false k e = let one = eqb-true (k + 1) 1 e in omega (arith, one)

refused_staged : (s : upload.State) (read : Latest) → upload.is_ready s ≡ true → s.publish.latest ≡ Some read → upload.left_of (record s { publish = refused_once s.publish read; published = false }) ≡ 2
refused_staged s read ready kept =
    let none : upload.block_requests s ≡ 0 =
    none_waits s.published (upload.block_requests s)
    (ap (λ (o : Option Latest). cond s.published 0 (upload.block_requests s + upload.manifest_requests o) == 1) (sym kept)
    ∙ ap (λ (o : Option Latest). is_some o && (upload.left_of s == 1)) (sym kept) ∙ ready) in
    omega (arith, none)

pub refused_is_staged : RefusedIsStaged
refused_is_staged moment s t read ready kept leaves =
    subst IsStaged (sym (leaves.2 ∙ ap (λ (q : publish.State). record s { publish = q; published = false }) leaves.1.1))
    (λ none. upload_stage (record s { publish = refused_once s.publish read; published = false }) s.publish.refused read.manifest.number (refused_staged s read ready kept))

pub refused_is_swept : RefusedIsSwept
refused_is_swept moment s t read run kept leaves =
    subst IsSwept (sym (leaves.2 ∙ ap (λ (q : publish.State). record s { publish = q; published = false }) leaves.1.1))
    (λ none. cleanup_stage (record s { publish = refused_once s.publish read; published = false }) s.publish.refused read.manifest.number
    (subst (λ (o : Option Latest). cleanup.HasBegun o (cleanup.taken_ids s)) kept run.begun))
