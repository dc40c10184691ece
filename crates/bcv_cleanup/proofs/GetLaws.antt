-- What the manifest's get of a cleanup comes to, from what the publication's get answered.
use Rattle.std.proofs.Common.{◌≡◌, ◌∙◌, ◌⊎◌, inl, inr, ℕ, ◌≤◌, Bool, false, List, [], ◌∷◌, length, Option, Some, None, refl, sym, ap, subst, arith}
use Rattle.bcv_base.specs.declared.id.Id16.{Id16}
use Rattle.bcv_base.specs.declared.seen.Latest.{Latest}
use Rattle.bcv_base.specs.declared.seen.Seen.{Seen}
use Rattle.bcv_dbmap.specs.declared.plan.EditPlan.{EditPlan}
use Rattle.bcv_dbmap.specs.declared.plan.EditPlan.TheVariants as edit
use Rattle.bcv_publish.specs.declared.work.Work.{Work}
use Rattle.bcv_publish.specs.declared.work.Work.TheVariants as work
use Rattle.bcv_publish.specs.ManifestGet.{GetLeaves, ManifestGets}
use Rattle.bcv_publish.specs.State as publish
use Rattle.bcv_store.specs.StoreShown.{StoreTold, StoreShown}
use Rattle.bcv_cleanup.specs.CleanupWork.{GetsAt, KeepsRead, MoreOf, ReadLeaves, TakenWork, get_answer, with_moment}
use Rattle.bcv_cleanup.specs.Released.{RuleAnswers, FindsDead, TakesDead}
use Rattle.bcv_cleanup.specs.State.{State, taken_ids}

-- ---- the publication's answer

-- a get that kept no manifest changed nothing, and it did not answer More
record KeptNone (answers : RuleAnswers) (moment : ℕ) (s : State) (result : Work) (p : publish.State) : Type 0 where
  same : p ≡ s.publish
  answer : get_answer result ≡ result
  leaves : (t : State) → t ≡ with_moment s p moment → ReadLeaves answers moment s p result t

-- a get that kept one answered More
record KeptOne (result : Work) (p : publish.State) : Type 0 where
  read : Latest
  kept : p.latest ≡ Some read
  more : result ≡ work.More

module _ (answers : RuleAnswers) (moment : ℕ) (seen : Seen) (s : State) where
  none_or_one : (result : Work) (p : publish.State) → GetLeaves seen s.edit s.publish result p → KeptNone answers moment s result p ⊎ KeptOne result p
  none_or_one work.More p l = inr (record { read = l.0; kept = ap (λ (q : publish.State). q.latest) l.5; more = refl })
  none_or_one (work.Fault f) p l = inl (record { same = l; answer = refl; leaves = λ t is. is })
  none_or_one work.NoContainer p l = inl (record { same = l; answer = refl; leaves = λ t is. is })
  none_or_one (work.BadManifest at) p l = inl (record { same = l; answer = refl; leaves = λ t is. is })
  none_or_one work.StoreFault p l = inl (record { same = l; answer = refl; leaves = λ t is. is })
  none_or_one work.NoMemory p l = inl (record { same = l; answer = refl; leaves = λ t is. is })
  none_or_one work.Nothing p l = absurd l
  none_or_one work.Gone p l = absurd l
  none_or_one (work.BadBlock len) p l = absurd l
  none_or_one work.NameTaken p l = absurd l
  none_or_one work.NamesFault p l = absurd l
  none_or_one work.ClockFault p l = absurd l

  -- by what is kept then, where nothing was before
  kept_none : (result : Work) (p : publish.State) → GetLeaves seen s.edit s.publish result p → p.latest ≡ None → KeptNone answers moment s result p
  kept_none result p leaves none = by_kept (none_or_one result p leaves)
    where
      by_kept : KeptNone answers moment s result p ⊎ KeptOne result p → KeptNone answers moment s result p
      by_kept (inl k) = k
      by_kept (inr k) = let both : ◌≡◌ {A = Option Latest} None (Some k.read) = sym none ∙ k.kept in absurd cc

  pub kept_one : (result : Work) (p : publish.State) (l : Latest) → s.publish.latest ≡ None → GetLeaves seen s.edit s.publish result p → p.latest ≡ Some l → result ≡ work.More
  kept_one result p l before leaves there = by_kept (none_or_one result p leaves)
    where
      by_kept : KeptNone answers moment s result p ⊎ KeptOne result p → result ≡ work.More
      by_kept (inl k) = let both : ◌≡◌ {A = Option Latest} None (Some l) = sym before ∙ sym (ap (λ (q : publish.State). q.latest) k.same) ∙ there in absurd cc
      by_kept (inr k) = k.more

-- ---- the cleanup then

module _ (answers : RuleAnswers) (store : StoreTold) (old new : StoreShown) (moment : ℕ) (seen : Seen) (s : State) (result : Work) (p : publish.State) (timed : s.moment ≡ Some moment)
    (leaves : GetLeaves seen s.edit s.publish result p) (gets : ManifestGets store old new seen s.edit s.publish result p) where
  -- where none was kept
  pub none_gets : p.latest ≡ None → GetsAt answers store old new moment seen s result (record s { publish = p })
  none_gets none =
      let k = kept_none answers moment seen s result p leaves none in
      record {
        publication = p;
        leaves = subst (λ (w : Work). GetLeaves seen s.edit s.publish w p) (sym k.answer) leaves;
        keeps = k.leaves (record s { publish = p }) (ap (λ (m : Option ℕ). record s { publish = p; moment = m }) timed);
        made = inl (subst (λ (w : Work). ManifestGets store old new seen s.edit s.publish w p) (sym k.answer) gets);
      }

  -- where one was kept, and these ids are taken of it
  one_gets : (l : Latest) (ids : List Id16) (more : Bool) → s.publish.latest ≡ None → p.latest ≡ Some l → FindsDead answers moment l.manifest (taken_ids s) ids more
      → KeepsRead answers moment s p ids more (record s { edit = edit.Sweep ids; publish = p; more = more })
  one_gets l ids more none there finds = record {
    read = l;
    kept = there;
    finds = finds;
    becomes = ap (λ (m : Option ℕ). record s { edit = edit.Sweep ids; publish = p; moment = m; more = more }) timed;
  }

  pub first_gets : (l : Latest) (ids : List Id16) (more : Bool) (answer : Work) → s.publish.latest ≡ None → taken_ids s ≡ [] → p.latest ≡ Some l → FindsDead answers moment l.manifest [] ids more → (ids ≡ [] → more ≡ false)
      → TakenWork ids answer → GetsAt answers store old new moment seen s answer (record s { edit = edit.Sweep ids; publish = p; more = more })
  first_gets l [] more answer none first there finds nothing is =
      let asked = kept_one answers moment seen s result p l none leaves there in
      subst (λ (w : Work). GetsAt answers store old new moment seen s w (record s { edit = edit.Sweep []; publish = p; more = more })) (sym is)
      (record {
        publication = p;
        leaves = subst (λ (w : Work). GetLeaves seen s.edit s.publish w p) asked leaves;
        keeps = (
          first,
          subst (λ (b : Bool). KeepsRead answers moment s p [] b (record s { edit = edit.Sweep []; publish = p; more = more })) (nothing refl)
              (one_gets l [] more none there (subst (λ (before : List Id16). FindsDead answers moment l.manifest before [] more) (sym first) finds)),
        );
        made = inl (subst (λ (w : Work). ManifestGets store old new seen s.edit s.publish w p) asked gets);
      })
  first_gets l (i ∷ is) more answer none first there finds nothing given =
      let asked = kept_one answers moment seen s result p l none leaves there in
      subst (λ (w : Work). GetsAt answers store old new moment seen s w (record s { edit = edit.Sweep (i ∷ is); publish = p; more = more })) (sym given)
      (record {
        publication = p;
        leaves = subst (λ (w : Work). GetLeaves seen s.edit s.publish w p) asked leaves;
        keeps = (i ∷ is, more, omega arith, one_gets l (i ∷ is) more none there (subst (λ (before : List Id16). FindsDead answers moment l.manifest before (i ∷ is) more) (sym first) finds));
        made = inl (subst (λ (w : Work). ManifestGets store old new seen s.edit s.publish w p) asked gets);
      })

  -- a later get, with what it says of what was read
  pub again_gets : (more : Bool) → s.publish.latest ≡ None → s.edit ≡ edit.Sweep (taken_ids s) → 1 ≤ length (taken_ids s) → MoreOf answers p.latest moment (taken_ids s) s.more more
      → GetsAt answers store old new moment seen s result (record s { publish = p; more = more })
  again_gets more none sweeps some says = by_latest p.latest refl says
    where
      nothing_more : (before ids : List Id16) (m : _) → 1 ≤ length ids → before ≡ ids → TakesDead answers moment m before ids
      nothing_more [] [] m some same = absurd (omega (arith, some))
      nothing_more [] (i ∷ is) m some same = absurd cc
      nothing_more (i ∷ is) ids m some same = sym same

      by_latest : (o : Option Latest) → p.latest ≡ o → MoreOf answers o moment (taken_ids s) s.more more → GetsAt answers store old new moment seen s result (record s { publish = p; more = more })
      by_latest None kept says = subst (λ (b : Bool). GetsAt answers store old new moment seen s result (record s { publish = p; more = b })) (sym says) (none_gets kept)
      by_latest (Some l) kept says =
          let asked = kept_one answers moment seen s result p l none leaves kept in
          let finds : FindsDead answers moment l.manifest (taken_ids s) (taken_ids s) more = record { takes = nothing_more (taken_ids s) (taken_ids s) l.manifest some refl; further = says } in
          subst (λ (w : Work). GetsAt answers store old new moment seen s w (record s { publish = p; more = more })) (sym asked)
          (record {
            publication = p;
            leaves = subst (λ (w : Work). GetLeaves seen s.edit s.publish w p) asked leaves;
            keeps = (
              taken_ids s,
              more,
              some,
              subst (λ (e : EditPlan). KeepsRead answers moment s p (taken_ids s) more (record s { edit = e; publish = p; more = more })) (sym sweeps) (one_gets l (taken_ids s) more none kept finds),
            );
            made = inl (subst (λ (w : Work). ManifestGets store old new seen s.edit s.publish w p) asked gets);
          })
