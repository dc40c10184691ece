-- The manifest that a put brings meets the rules and the limits.
use Rattle.std.proofs.Common.{◌≡◌, ℕ, ◌+◌, ◌<◌, ◌^◌, Option, Some, None, Result, Ok, Err, IfOk, MatchOption, sym, ap, subst}
use Rattle.bcv_base.specs.declared.manifest.Manifest.{Manifest}
use Rattle.bcv_base.specs.declared.seen.Latest.{Latest}
use Rattle.bcv_base.specs.Ids.{IsId}
use Rattle.bcv_base.specs.ManifestRules.{MeetsRules, MeetsLimits, IsShort}
use Rattle.bcv_dbmap.specs.declared.plan.EditPlan.{EditPlan}
use Rattle.bcv_dbmap.specs.Applied.{applied}
use Rattle.bcv_dbmap.proofs.Fills.{fills_itself}
use Rattle.bcv_dbmap.proofs.Limits.{applied_meets_limits}
use Rattle.bcv_dbmap.proofs.RulesLaws.{applied_meets_rules}
use Rattle.bcv_publish.specs.ManifestPut.{made, IsReady, IsMadeOf}
use Rattle.bcv_publish.specs.State.{State}

-- what is made of a manifest that is ready may be written
is_made_of : (p : State) (plan : EditPlan) (moment : ℕ) (o : Option Latest) (read : Latest) (m : Manifest) → o ≡ Some read → MatchOption o ⊥ (λ l. IsReady l.manifest plan p.writer)
    → moment < 2 ^ 64 → IsId p.id → IsId p.writer → m ≡ applied read.manifest plan p.id p.writer moment → MatchOption o ⊥ (λ l. IsMadeOf p l plan moment m)
is_made_of p plan moment o read m there ready small id writer is =
    let r : IsReady read.manifest plan p.writer = subst (λ (x : Option Latest). MatchOption x ⊥ (λ l. IsReady l.manifest plan p.writer)) there ready in
    subst (λ (x : Option Latest). MatchOption x ⊥ (λ l. IsMadeOf p l plan moment m)) (sym there)
    (record {
      made = is;
      rules = subst MeetsRules (sym is) (applied_meets_rules read.manifest plan p.id p.writer moment r.rules r.fits r.passes small id writer);
      limits = subst MeetsLimits (sym is) (applied_meets_limits read.manifest plan plan p.id p.writer moment r.rules r.limits r.fits r.passes (fills_itself plan)).1;
      short = subst IsShort (sym is) (applied_meets_limits read.manifest plan plan p.id p.writer moment r.rules r.limits r.fits r.passes (fills_itself plan)).2;
    })

-- where there was memory for it
pub all_made : {E : Type 0} → (p : State) (plan : EditPlan) (moment : ℕ) (o : Option Latest) (read : Latest) (r : Result Manifest E) → o ≡ Some read → MatchOption o ⊥ (λ l. IsReady l.manifest plan p.writer)
    → moment < 2 ^ 64 → IsId p.id → IsId p.writer → IfOk r (λ m. m ≡ applied read.manifest plan p.id p.writer moment) → IfOk r (λ m. MatchOption o ⊥ (λ l. IsMadeOf p l plan moment m))
all_made p plan moment o read (Ok m) there ready small id writer is = is_made_of p plan moment o read m there ready small id writer is
all_made p plan moment o read (Err e) there ready small id writer is = is

-- the facts on what is made, whatever is kept
pub any_rules : (p : State) (plan : EditPlan) (moment : ℕ) (o : Option Latest) (m : Manifest) → MatchOption o ⊥ (λ l. IsMadeOf p l plan moment m) → MeetsRules m
any_rules p plan moment None m is = absurd is
any_rules p plan moment (Some l) m is = is.rules

pub any_limits : (p : State) (plan : EditPlan) (moment : ℕ) (o : Option Latest) (m : Manifest) → MatchOption o ⊥ (λ l. IsMadeOf p l plan moment m) → MeetsLimits m
any_limits p plan moment None m is = absurd is
any_limits p plan moment (Some l) m is = is.limits

pub any_short : (p : State) (plan : EditPlan) (moment : ℕ) (o : Option Latest) (m : Manifest) → MatchOption o ⊥ (λ l. IsMadeOf p l plan moment m) → IsShort m
any_short p plan moment None m is = absurd is
any_short p plan moment (Some l) m is = is.short

pub any_made : (p : State) (plan : EditPlan) (moment : ℕ) (o : Option Latest) (m : Manifest) → MatchOption o ⊥ (λ l. IsMadeOf p l plan moment m) → MatchOption o ⊥ (λ l. m ≡ made p l plan moment)
any_made p plan moment None m is = absurd is
any_made p plan moment (Some l) m is = is.made

pub any_next : (p : State) (plan : EditPlan) (moment : ℕ) (o : Option Latest) (m : Manifest) → MatchOption o ⊥ (λ l. IsMadeOf p l plan moment m) → MatchOption o ⊥ (λ l. m.number ≡ l.manifest.number + 1)
any_next p plan moment None m is = absurd is
any_next p plan moment (Some l) m is = ap (λ (k : Manifest). k.number) is.made
