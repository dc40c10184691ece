-- What is set on the disk of a place, before and after an ask.
use Rattle.std.proofs.Common.{◌≡◌, ◌≢◌, ◌∙◌, ◌⊎◌, inl, inr, ℕ, Bool, true, false, Option, Some, None, is_some, refl, sym, ap}
use Rattle.bcv_clientstate.specs.SeenClient.{Free}
use Rattle.bcv_disk.specs.DiskShown.{Trouble}
use Rattle.bcv_disk.specs.Troubles.{FailureLeft, FuseLeft, IsSpent, Suffers}
use Rattle.bcv_model.specs.declared.reply.Reply.{Reply}
use Rattle.bcv_model.specs.declared.reply.Reply.TheVariants as reply
use Rattle.bcv_world.specs.Standing.{IsSetAs}

-- ---- replies

abbrev is_out_of_memory : Reply → Bool
is_out_of_memory reply.NoMemory = true
is_out_of_memory _ = false

-- memory was missing, or not
pub memory_or : (r : Reply) → (r ≡ reply.NoMemory) ⊎ (r ≢ reply.NoMemory)
memory_or reply.NoMemory = inl refl
memory_or r = inr (λ e. absurd (let wrong : false ≡ true = ap is_out_of_memory e in cc))

-- ---- troubles

-- a fuse that is set was set before
pub fuse_was : (before after : Option (ℕ × ℕ)) → FuseLeft before after → is_some after ≡ true → is_some before ≡ true
fuse_was before None left is = absurd (let wrong : false ≡ true = is in cc)
fuse_was before (Some x) left is = let was = left x.0 x.1 refl in ap (λ (o : Option (ℕ × ℕ)). is_some o) was.1

-- and so a failure
pub failure_was : (before after : Option ℕ) → FailureLeft before after → is_some after ≡ true → is_some before ≡ true
failure_was before None left is = absurd (let wrong : false ≡ true = is in cc)
failure_was before (Some calls) left is = let was = left calls refl in ap (λ (o : Option ℕ). is_some o) was.1

none_set : {A : Type 0} (o : Option A) → o ≡ None → is_some o ≡ true → ⊥
none_set None none is = absurd (let wrong : false ≡ true = is in cc)
none_set (Some x) none is = absurd (cc)

not_burnt : (b : Bool) → b ≡ false → b ≡ true → ⊥
not_burnt b no_fire fire = absurd (let wrong : false ≡ true = sym no_fire ∙ fire in cc)

module _ (old new : Trouble) (r : Reply) (suffers : Suffers old new (r ≡ reply.DiskFault)) (f : Free) (set : IsSetAs old f) where
  -- a failure that was answered is set no more
  spent : new.burnt ≡ false → r ≡ reply.DiskFault → is_some new.failure ≡ true → ⊥
  spent unburnt fault is = by (suffers.cause fault)
    where
      by : (new.burnt ≡ true) ⊎ IsSpent old.failure new.failure → ⊥
      by (inl burnt) = not_burnt new.burnt unburnt burnt
      by (inr gone) = none_set new.failure gone.2 is

  -- a client whose disk failed and is not burnt had a failure set
  pub had_failure : new.burnt ≡ false → r ≡ reply.DiskFault → f.failing ≡ true
  had_failure unburnt fault = by (suffers.cause fault)
    where
      by : (new.burnt ≡ true) ⊎ IsSpent old.failure new.failure → f.failing ≡ true
      by (inl burnt) = absurd (not_burnt new.burnt unburnt burnt)
      by (inr gone) = set.failing (ap (λ (o : Option ℕ). is_some o) gone.1)

  -- while the disk is not burnt, what is set is set of a client that keeps what is set but for a failure that is answered
  pub still_set : (free : Free) → new.burnt ≡ false → free.fused ≡ f.fused → (r ≢ reply.DiskFault → free.failing ≡ f.failing) → IsSetAs new free
  still_set free unburnt fused failing = record {
    fused = λ is. fused ∙ set.fused (fuse_was old.fuse new.fuse suffers.fuse_left is);
    failing = λ is. failing (λ fault. spent unburnt fault is) ∙ set.failing (failure_was old.failure new.failure suffers.failure_left is);
  }

  -- a disk that burnt in the call had a fuse
  pub had_fuse : old.burnt ≡ false → new.burnt ≡ true → f.fused ≡ true
  had_fuse unburnt burnt = by (suffers.burns burnt)
    where
      by : (old.burnt ≡ true) ⊎ ((calls : ℕ) × (image : ℕ) × (old.fuse ≡ Some (calls, image))) → f.fused ≡ true
      by (inl was) = absurd (not_burnt old.burnt unburnt was)
      by (inr fuse) = set.fused (ap (λ (o : Option (ℕ × ℕ)). is_some o) fuse.2)

  -- afterwards no fuse is set, and a failure only where one was
  pub set_struck : (free : Free) → old.burnt ≡ false → new.burnt ≡ true → free.failing ≡ f.failing → IsSetAs new free
  set_struck free unburnt burnt failing = record {
    fused = λ is. absurd (none_set new.fuse (suffers.burnt_out unburnt burnt) is);
    failing = λ is. failing ∙ set.failing (failure_was old.failure new.failure suffers.failure_left is);
  }
