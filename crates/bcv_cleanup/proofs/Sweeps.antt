-- A sweep of any ids passes where one of none does, and what it publishes.
use Rattle.std.proofs.Common.{◌≡◌, ◌∙◌, ℕ, ◌≤◌, Bool, false, not, ◌&&◌, cond, List, [], ◌∷◌, length, Some, None, is_none, nat_lt, nat_le, refl, ap, arith}
use Rattle.std.specs.List.{filter}
use Rattle.std.proofs.lemmas.Bool.{le-ltb, ltb-false}
use Rattle.std.proofs.lemmas.List.Filters.{length-filter_both}
use Rattle.bcv_base.specs.declared.id.Id16.{Id16}
use Rattle.bcv_base.specs.declared.manifest.Dead.{Dead}
use Rattle.bcv_base.specs.declared.manifest.Manifest.{Manifest}
use Rattle.bcv_base.specs.Ids.{has_id}
use Rattle.bcv_base.specs.Keyed.{keyed}
use Rattle.bcv_base.specs.ManifestRules.{MeetsRules, length_of, writer_id}
use Rattle.bcv_base.specs.SizeLimits.{most_bytes, most_dead, most_writers}
use Rattle.bcv_dbmap.specs.declared.fault.EditFault.TheVariants as fault
use Rattle.bcv_dbmap.specs.declared.plan.EditPlan.TheVariants as edit
use Rattle.bcv_dbmap.specs.Applied.{applied}
use Rattle.bcv_dbmap.specs.Checked.{checked, dead_length, needed_total, result_length, size_fault, zero_id}
use Rattle.bcv_dbmap.proofs.CleanupLaws.{sweep_leaves_others}
use Rattle.bcv_dbmap.proofs.Passes.{not_then, parts_pass, passes_parts, then_not}

-- a sweep leaves no more dead blocks than there are, and one of no ids leaves them all
all_left : (dead : List Dead) → filter (λ (e : Dead). not (has_id e.id [])) dead ≡ dead
all_left [] = refl
all_left (e ∷ es) = ap (λ (l : List Dead). e ∷ l) (all_left es)

fewer_dead : (m : Manifest) (ids : List Id16) → MeetsRules m → dead_length m (edit.Sweep ids) ≤ dead_length m (edit.Sweep [])
fewer_dead m ids rules =
    let some : dead_length m (edit.Sweep ids) ≡ length (filter (λ (e : Dead). not (has_id e.id ids)) m.dead) = ap (λ (l : List Dead). length l) (sweep_leaves_others m ids zero_id zero_id 0 rules) in
    let none : dead_length m (edit.Sweep []) ≡ length m.dead = ap (λ (l : List Dead). length l) (sweep_leaves_others m [] zero_id zero_id 0 rules ∙ all_left m.dead) in
    omega (arith, some, none, length-filter_both (λ (e : Dead). not (has_id e.id ids)) (λ (e : Dead). not (not (has_id e.id ids))) (λ e. refl) m.dead)

-- what is not above a limit stays so where it is no more
not_above : (limit a b : ℕ) → b ≤ a → nat_lt limit a ≡ false → nat_lt limit b ≡ false
not_above limit a b few h = le-ltb limit b (omega (arith, ltb-false limit a h))

-- the tests of a size, by the writers, the dead blocks and the bytes
tests_pass : (full : Bool) (more_dead more_bytes dead bytes : ℕ) → dead ≤ more_dead → bytes ≤ more_bytes
    → cond full (Some fault.WritersFull) (cond (nat_lt most_dead more_dead) (Some fault.DeleteListFull) (cond (nat_lt most_bytes more_bytes) (Some fault.ManifestTooLong) None)) ≡ None
    → cond full (Some fault.WritersFull) (cond (nat_lt most_dead dead) (Some fault.DeleteListFull) (cond (nat_lt most_bytes bytes) (Some fault.ManifestTooLong) None)) ≡ None
tests_pass full more_dead more_bytes dead bytes few short passes =
    let a = not_then full fault.WritersFull (cond (nat_lt most_dead more_dead) (Some fault.DeleteListFull) (cond (nat_lt most_bytes more_bytes) (Some fault.ManifestTooLong) None)) passes in
    let b = not_then (nat_lt most_dead more_dead) fault.DeleteListFull (cond (nat_lt most_bytes more_bytes) (Some fault.ManifestTooLong) None) a.1 in
    let c = not_then (nat_lt most_bytes more_bytes) fault.ManifestTooLong None b.1 in
    then_not full fault.WritersFull (cond (nat_lt most_dead dead) (Some fault.DeleteListFull) (cond (nat_lt most_bytes bytes) (Some fault.ManifestTooLong) None)) a.0
    (then_not (nat_lt most_dead dead) fault.DeleteListFull (cond (nat_lt most_bytes bytes) (Some fault.ManifestTooLong) None) (not_above most_dead more_dead dead few b.0)
    (then_not (nat_lt most_bytes bytes) fault.ManifestTooLong None (not_above most_bytes more_bytes bytes short c.0) refl))

shorter : (writers entries more dead : ℕ) → dead ≤ more → length_of writers entries dead ≤ length_of writers entries more
shorter writers entries more dead few = omega arith

pub sweep_passes : (m : Manifest) (ids : List Id16) (writer : Id16) → MeetsRules m → checked m (edit.Sweep []) writer ≡ None → checked m (edit.Sweep ids) writer ≡ None
sweep_passes m ids writer rules passes =
    let p = passes_parts m (edit.Sweep []) writer passes in
    let few : dead_length m (edit.Sweep ids) ≤ dead_length m (edit.Sweep []) = fewer_dead m ids rules in
    let size : size_fault m (edit.Sweep ids) writer ≡ None =
    tests_pass (is_none (keyed writer_id writer.0 m.writers) && nat_le most_writers (length m.writers)) (dead_length m (edit.Sweep [])) (result_length m (edit.Sweep []) writer)
    (dead_length m (edit.Sweep ids)) (result_length m (edit.Sweep ids) writer) few
    (shorter (length (applied m (edit.Sweep []) zero_id writer 0).writers) (needed_total m.block m.dbs) (dead_length m (edit.Sweep [])) (dead_length m (edit.Sweep ids)) few) p.size
    in
    parts_pass m (edit.Sweep ids) writer (record { number = p.number; plan = refl; size = size })
