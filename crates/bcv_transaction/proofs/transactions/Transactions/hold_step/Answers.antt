use Rattle.std.proofs.Common.{◌≡◌, IfSome, sym, subst}
use Rattle.bcv_cache.specs.Entry.{Blocks}
use Rattle.bcv_machine.specs.State.{ToHold}
use Rattle.bcv_transaction.specs.Open.{CanRead, Open}
use Rattle.bcv_transaction.proofs.FitLaws.{steps_leave_fit}
use Rattle.bcv_transaction.proofs.StepSides.{StepIs, at_once, comes, comes_as, here_again, kept, still_open, wanted}
use Rattle.bcv_transaction.proofs.transactions.Transactions.hold_step.Goals as goal

-- ---- no request is made

at_once_is : (g : _) (c : goal.In-Err g) → StepIs ToHold g.S.Store.told (g.S.Store.shown c.args.store.now) (g.S.Store.shown c.args.store.now) c.args.pages.now c.args.self.now c.args.number c.args.page c.in-Err.stepped c.hold.new.self
at_once_is g c =
    at_once ToHold g.S.Store.told (g.S.Store.shown c.args.store.now) c.args.pages.now c.args.self.now c.args.number c.args.page c.hold.result c.in-Err.stepped c.hold.new.self
    (record { calls = c.hold.ensures.holds; machine = c.hold.ensures.machine }) (comes_as c.hold.result c.in-Err.stepped c.wanted.result c.wanted.ensures c.in-Err.is)

pub hold-requires : goal.hold-requires
hold-requires g c = c.requires.view

pub returns-in-Err-clause-steps : goal.returns-in-Err-clause-steps
returns-in-Err-clause-steps g c = (at_once_is g c).steps

pub returns-in-Err-clause-says : goal.returns-in-Err-clause-says
returns-in-Err-clause-says g c = (at_once_is g c).says

pub returns-in-Err-clause-sound : goal.returns-in-Err-clause-sound
returns-in-Err-clause-sound g c = (at_once_is g c).sound

pub returns-in-Err-clause-fit : goal.returns-in-Err-clause-fit
returns-in-Err-clause-fit g c =
    steps_leave_fit ToHold c.args.pages.now g.S.Store.told (g.S.Store.shown c.args.store.now) (g.S.Store.shown c.args.store.now) c.args.self.now c.hold.new.self c.args.number c.args.page c.in-Err.stepped c.is_full.ensures.are_open c.hold.ensures.are_open (at_once_is g c).steps

-- ---- the block is got

pub fetch-requires : goal.fetch-requires
fetch-requires g c =
    let w = wanted ToHold c.args.pages.now c.args.self.now c.hold.new.self c.args.number c.args.page c.hold.result c.in-Ok.id c.wanted.result c.wanted.ensures c.in-Ok.is (record { calls = c.hold.ensures.holds; machine = c.hold.ensures.machine }) c.is_full.ensures.are_open in
    record { block = subst (λ (x : Open). IfSome x.cache (λ (y : Blocks). y.block ≡ c.args.block)) (sym w.away.same) c.requires.block }

kept_is : (g : _) (c : goal.In-Some g) → StepIs ToHold g.S.Store.told (g.S.Store.shown c.args.store.now) (g.S.Store.shown c.fetch.new.store) c.args.pages.now c.args.self.now c.args.number c.args.page c.in-Some.stepped c.fetch.new.self
kept_is g c =
    kept ToHold g.S.Store.told (g.S.Store.shown c.args.store.now) (g.S.Store.shown c.fetch.new.store) c.args.pages.now c.args.self.now c.hold.new.self c.args.number c.args.page c.in-Ok.id c.fetch.result c.fetch.new.self c.in-Some.stepped c.not_brought.result c.not_brought.ensures c.in-Some.is
    (wanted ToHold c.args.pages.now c.args.self.now c.hold.new.self c.args.number c.args.page c.hold.result c.in-Ok.id c.wanted.result c.wanted.ensures c.in-Ok.is (record { calls = c.hold.ensures.holds; machine = c.hold.ensures.machine }) c.is_full.ensures.are_open)
    (record { fetches = c.fetch.ensures.fetches; same = c.fetch.ensures.same })

pub returns-in-Some-clause-steps : goal.returns-in-Some-clause-steps
returns-in-Some-clause-steps g c = (kept_is g c).steps

pub returns-in-Some-clause-says : goal.returns-in-Some-clause-says
returns-in-Some-clause-says g c = (kept_is g c).says

pub returns-in-Some-clause-sound : goal.returns-in-Some-clause-sound
returns-in-Some-clause-sound g c = (kept_is g c).sound

pub returns-in-Some-clause-fit : goal.returns-in-Some-clause-fit
returns-in-Some-clause-fit g c =
    steps_leave_fit ToHold c.args.pages.now g.S.Store.told (g.S.Store.shown c.args.store.now) (g.S.Store.shown c.fetch.new.store) c.args.self.now c.fetch.new.self c.args.number c.args.page c.in-Some.stepped c.is_full.ensures.are_open c.fetch.ensures.are_open (kept_is g c).steps

-- ---- the block came in

pub hold-requires-in-None : goal.hold-requires-in-None
hold-requires-in-None g c =
    still_open ToHold g.S.Store.told (g.S.Store.shown c.args.store.now) (g.S.Store.shown c.fetch.new.store) c.args.pages.now c.args.self.now c.hold.new.self c.args.number c.args.page c.in-Ok.id c.fetch.result c.fetch.new.self (CanRead c.args.pages.now)
    (wanted ToHold c.args.pages.now c.args.self.now c.hold.new.self c.args.number c.args.page c.hold.result c.in-Ok.id c.wanted.result c.wanted.ensures c.in-Ok.is (record { calls = c.hold.ensures.holds; machine = c.hold.ensures.machine }) c.is_full.ensures.are_open)
    (record { fetches = c.fetch.ensures.fetches; same = c.fetch.ensures.same }) c.requires.view

pub again-requires : goal.again-requires
again-requires g c =
    here_again ToHold g.S.Store.told (g.S.Store.shown c.args.store.now) (g.S.Store.shown c.fetch.new.store) c.args.pages.now c.args.self.now c.hold.new.self c.args.number c.args.page c.in-Ok.id c.fetch.result c.fetch.new.self c.not_brought.result c.not_brought.ensures c.in-None.is
    (wanted ToHold c.args.pages.now c.args.self.now c.hold.new.self c.args.number c.args.page c.hold.result c.in-Ok.id c.wanted.result c.wanted.ensures c.in-Ok.is (record { calls = c.hold.ensures.holds; machine = c.hold.ensures.machine }) c.is_full.ensures.are_open)
    (record { fetches = c.fetch.ensures.fetches; same = c.fetch.ensures.same })
    c.hold-in-None.result c.hold-in-None.new.self c.hold-in-None.ensures.holds

comes_is : (g : _) (c : goal.After-again g) → StepIs ToHold g.S.Store.told (g.S.Store.shown c.args.store.now) (g.S.Store.shown c.fetch.new.store) c.args.pages.now c.args.self.now c.args.number c.args.page c.again.result c.hold-in-None.new.self
comes_is g c =
    comes ToHold g.S.Store.told (g.S.Store.shown c.args.store.now) (g.S.Store.shown c.fetch.new.store) c.args.pages.now c.args.self.now c.hold.new.self c.args.number c.args.page c.in-Ok.id c.fetch.result c.fetch.new.self c.not_brought.result c.not_brought.ensures c.in-None.is
    (wanted ToHold c.args.pages.now c.args.self.now c.hold.new.self c.args.number c.args.page c.hold.result c.in-Ok.id c.wanted.result c.wanted.ensures c.in-Ok.is (record { calls = c.hold.ensures.holds; machine = c.hold.ensures.machine }) c.is_full.ensures.are_open)
    (record { fetches = c.fetch.ensures.fetches; same = c.fetch.ensures.same })
    c.hold-in-None.result c.again.result c.hold-in-None.new.self (record { calls = c.hold-in-None.ensures.holds; machine = c.hold-in-None.ensures.machine }) c.again.ensures

pub returns-in-None-clause-steps : goal.returns-in-None-clause-steps
returns-in-None-clause-steps g c = (comes_is g c).steps

pub returns-in-None-clause-says : goal.returns-in-None-clause-says
returns-in-None-clause-says g c = (comes_is g c).says

pub returns-in-None-clause-sound : goal.returns-in-None-clause-sound
returns-in-None-clause-sound g c = (comes_is g c).sound

pub returns-in-None-clause-fit : goal.returns-in-None-clause-fit
returns-in-None-clause-fit g c =
    steps_leave_fit ToHold c.args.pages.now g.S.Store.told (g.S.Store.shown c.args.store.now) (g.S.Store.shown c.fetch.new.store) c.args.self.now c.hold-in-None.new.self c.args.number c.args.page c.again.result c.is_full.ensures.are_open c.hold-in-None.ensures.are_open (comes_is g c).steps
