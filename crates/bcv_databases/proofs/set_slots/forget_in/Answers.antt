use Rattle.std.proofs.Common.{◌≡◌, ◌≤◌, ℕ, Some, Option, sym, subst, ◌∙◌}
use Rattle.std.specs.Prelude.{IfSome}
use Rattle.bcv_pages.specs.Held.{Held, KeepsView, without_upto}
use Rattle.bcv_databases.specs.Catalog.{set_at}
use Rattle.bcv_databases.proofs.Slots.{put_back, slot_read}
use Rattle.bcv_databases.proofs.set_slots.forget_in.Goals as goal

pub returns-clause-sets : goal.returns-clause-sets
returns-clause-sets c =
    put_back (without_upto c.args.upto) c.args.sets.now.items c.args.place c.index_mut.result.now c.take.new.self c.in-Some.set c.forget.new.self
    c.requires c.index_mut.ensures.value (sym c.take.ensures.value ∙ c.in-Some.is) c.forget.ensures.forgot

pub returns-clause-views : goal.returns-clause-views
returns-clause-views c =
    let at : set_at c.args.sets.now.items c.args.place ≡ Some c.in-Some.set = slot_read c.args.sets.now.items c.args.place c.index_mut.result.now c.requires c.index_mut.ensures.value ∙ sym c.take.ensures.value ∙ c.in-Some.is in
    subst (λ (o : Option Held). IfSome o (λ h. (from to : ℕ) → c.args.upto ≤ from → KeepsView h (without_upto c.args.upto h) from to)) (sym at)
    (λ from to le. subst (λ (g : Held). KeepsView c.in-Some.set g from to) c.forget.ensures.forgot (c.forget.ensures.views from to le))
