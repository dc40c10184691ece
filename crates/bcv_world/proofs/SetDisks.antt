-- What is set on a disk, after calls of it, and what a crash that is asked for leaves of it.
use Rattle.std.proofs.Common.{◌≡◌, ◌∙◌, ℕ, Bool, true, false, Option, Some, None, is_some, List, ◌∷◌, if◌then◌else◌, refl, sym, ap, subst, ⊎_elim}
use Rattle.std.proofs.lemmas.Bool.{cases_Bool}
use Rattle.bcv_clientstate.specs.SeenClient.{Free}
use Rattle.bcv_disk.specs.DiskShown.{Trouble}
use Rattle.bcv_disk.specs.Record.{Leaves, is_unsynced}
use Rattle.bcv_disk.specs.Story.{Story, raised, with_crash}
use Rattle.bcv_disk.specs.Told.{leaves_image}
use Rattle.bcv_disk.specs.Troubles.{FailureLeft, FuseLeft, IsSpent, Suffers}
use Rattle.bcv_disk.specs.declared.platter.Act.TheVariants.{Crashed}
use Rattle.bcv_world.specs.Standing.{IsSetAs}

-- ---- what is set

-- what is set after calls was set before them
pub fuse_before : (before after : Option (ℕ × ℕ)) → FuseLeft before after → is_some after ≡ true → is_some before ≡ true
fuse_before before None left is = absurd (cc (is))
fuse_before before (Some x) left is = let was = left x.0 x.1 refl in ap is_some was.1

pub failure_before : (before after : Option ℕ) → FailureLeft before after → is_some after ≡ true → is_some before ≡ true
failure_before before None left is = absurd (cc (is))
failure_before before (Some calls) left is = let was = left calls refl in ap is_some was.1

none_set : {A : Type 0} (o : Option A) → o ≡ None → is_some o ≡ true → ⊥
none_set o none is = cc

module _ (old new : Trouble) {failed : Type 0} (s : Suffers old new failed) (f : Free) (set : IsSetAs old f) where
  -- it is set of the machine's client still
  pub set_after : IsSetAs new f
  set_after = record {
    fused = λ is. set.fused (fuse_before old.fuse new.fuse s.fuse_left is);
    failing = λ is. set.failing (failure_before old.failure new.failure s.failure_left is);
  }

  module _ (whole : old.burnt ≡ false) where
    -- a disk that did not fail is not burnt
    pub unburnt_after : (failed → ⊥) → new.burnt ≡ false
    unburnt_after done = ⊎_elim (λ burnt. absurd (done (s.strikes whole burnt))) (λ still. still) (cases_Bool new.burnt)

    -- a fuse that has burnt the disk was set, and is set no more
    pub fuse_was_set : new.burnt ≡ true → f.fused ≡ true
    fuse_was_set burnt = ⊎_elim (λ was. absurd (let never : true ≡ false = sym was ∙ whole in cc)) (λ fuse. set.fused (ap is_some fuse.2)) (s.burns burnt)

    pub burnt_out : new.burnt ≡ true → IsSetAs new (record f { fused = false })
    burnt_out burnt = record { fused = λ is. absurd (none_set new.fuse (s.burnt_out whole burnt) is); failing = set_after.failing }

    -- a failure without a burnt disk was set, and is set no more
    pub failure_was_spent : failed → new.burnt ≡ false → IsSpent old.failure new.failure
    failure_was_spent fails still = ⊎_elim (λ burnt. absurd (let never : true ≡ false = sym burnt ∙ still in cc)) (λ spent. spent) (s.cause fails)

    pub failure_was_set : failed → new.burnt ≡ false → f.failing ≡ true
    failure_was_set fails still = let spent = failure_was_spent fails still in set.failing (ap is_some spent.1)

    pub failed_once : failed → new.burnt ≡ false → IsSetAs new (record f { failing = false })
    failed_once fails still = let spent = failure_was_spent fails still in
        record { fused = set_after.fused; failing = λ is. absurd (none_set new.failure spent.2 is) }

-- ---- a crash

-- it leaves one of the images that could be left before
pub crash_leaves : (image : ℕ) (s : Story) (left : List ℕ) → Leaves (with_crash image s).acts left → Leaves s.acts left
crash_leaves image s left there = by (is_unsynced s.acts) there
  where
    story_by : Bool → Story
    story_by b = if b then record { idle = 0; acts = Crashed s.idle image ∷ s.acts } else record { idle = raised s.idle; acts = s.acts }

    by : (b : Bool) → Leaves (story_by b).acts left → Leaves s.acts left
    by true torn = subst (Leaves s.acts) (sym torn) (leaves_image s.acts image)
    by false same = same
