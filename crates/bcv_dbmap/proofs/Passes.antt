-- What it says that a plan passes: each of the tests in turn.
use Rattle.std.proofs.Common.{◌≡◌, ◌∙◌, ◌-◌, ◌^◌, Bool, true, false, cond, ◌==◌, Option, Some, None, refl, sym, ap, eq-eqb}
use Rattle.bcv_base.specs.declared.id.Id16.{Id16}
use Rattle.bcv_base.specs.declared.manifest.Manifest.{Manifest}
use Rattle.bcv_base.specs.Image.{or_else}
use Rattle.bcv_dbmap.specs.declared.fault.EditFault.{EditFault}
use Rattle.bcv_dbmap.specs.declared.fault.EditFault.TheVariants as fault
use Rattle.bcv_dbmap.specs.declared.plan.EditPlan.{EditPlan}
use Rattle.bcv_dbmap.specs.Checked.{plan_fault, size_fault, checked}

-- a test that gives no fault
pub not_then : (b : Bool) (f : EditFault) (o : Option EditFault) → cond b (Some f) o ≡ None → (b ≡ false) × (o ≡ None)
not_then true f o e = absurd cc
not_then false f o e = (refl, e)

pub then_not : (b : Bool) (f : EditFault) (o : Option EditFault) → b ≡ false → o ≡ None → cond b (Some f) o ≡ None
then_not true f o e none = absurd cc
then_not false f o e none = none

neither : (a b : Option EditFault) → or_else a b ≡ None → (a ≡ None) × (b ≡ None)
neither None b e = (refl, e)
neither (Some f) b e = absurd cc

-- a plan passes: the number, the plan and the size do
pub record Passes (m : Manifest) (p : EditPlan) (writer : Id16) : Type 0 where
  pub number : (m.number == 2 ^ 64 - 1) ≡ false
  pub plan : plan_fault m.block m.dbs p ≡ None
  pub size : size_fault m p writer ≡ None

pub passes_parts : (m : Manifest) (p : EditPlan) (writer : Id16) → checked m p writer ≡ None → Passes m p writer
passes_parts m p writer e =
    let number = not_then (m.number == 2 ^ 64 - 1) fault.VersionsFull (or_else (plan_fault m.block m.dbs p) (size_fault m p writer)) e in
    let both = neither (plan_fault m.block m.dbs p) (size_fault m p writer) number.1 in
    record { number = number.0; plan = both.0; size = both.1 }

pub parts_pass : (m : Manifest) (p : EditPlan) (writer : Id16) → Passes m p writer → checked m p writer ≡ None
parts_pass m p writer r =
    then_not (m.number == 2 ^ 64 - 1) fault.VersionsFull (or_else (plan_fault m.block m.dbs p) (size_fault m p writer)) r.number
    (ap (λ (o : Option EditFault). or_else o (size_fault m p writer)) r.plan ∙ r.size)

-- the number of the manifest is not the last one
pub number_left : (m : Manifest) (p : EditPlan) (writer : Id16) → checked m p writer ≡ None → m.number ≡ 2 ^ 64 - 1 → ⊥
number_left m p writer passes e =
    let r : Passes m p writer = passes_parts m p writer passes in
    let full : true ≡ false = sym (eq-eqb m.number (2 ^ 64 - 1) e) ∙ r.number in
    absurd cc
