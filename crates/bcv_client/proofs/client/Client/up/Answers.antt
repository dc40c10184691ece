use Rattle.std.proofs.Common.{None, refl}
use Rattle.bcv_risen.specs.Rises.{IsUp}
use Rattle.bcv_risen.specs.RisenSides.{RisesAgain, RisesFirst}
use Rattle.bcv_client.specs.ClientUp.{StartsEmpty, risen_of}
use Rattle.bcv_client.specs.declared.client.Client.{Client}
use Rattle.bcv_client.specs.declared.rising.Up.{Up}
use Rattle.bcv_client.specs.declared.rising.Up.TheVariants as up
use Rattle.bcv_client.proofs.CameUp.{starts_empty, up_again, up_first}
use Rattle.bcv_client.proofs.client.Client.up.Goals as goal

pub returns-in-Ready-clause-empty : goal.returns-in-Ready-clause-empty
returns-in-Ready-clause-empty g c =
    let d = g.D.Disk in
    let u : IsUp d.told d.shown c.args.disk (g.N.Names.shown c.args.names.now) (g.N.Names.shown c.rise.new.names) c.in-Ready.ledger c.in-Ready.id c.in-Ready.seen = rw c.in-Ready.is at c.rise.ensures.rises.ends in
    starts_empty d.told d.shown c.args.disk (g.N.Names.shown c.args.names.now) (g.N.Names.shown c.rise.new.names) c.args.slots _ u refl c.new.ensures c.new-in-Ready.ensures.items refl

pub returns-in-Ready-clause-again : goal.returns-in-Ready-clause-again
returns-in-Ready-clause-again g c =
    let d = g.D.Disk in
    let x : Client g.row.D.Denot g.D.Disk =
    record { id = c.in-Ready.id; ledger = c.in-Ready.ledger; seen = c.in-Ready.seen; latest = None; txns = c.new.result; tasks = c.new-in-Ready.result; taken = 0 } in
    let r : Up g.row.D.Denot g.D.Disk = up.Ready x in
    let u : IsUp d.told d.shown c.args.disk (g.N.Names.shown c.args.names.now) (g.N.Names.shown c.rise.new.names) c.in-Ready.ledger c.in-Ready.id c.in-Ready.seen = rw c.in-Ready.is at c.rise.ensures.rises.ends in
    let empty : StartsEmpty c.args.slots x =
    starts_empty d.told d.shown c.args.disk (g.N.Names.shown c.args.names.now) (g.N.Names.shown c.rise.new.names) c.args.slots x u refl c.new.ensures c.new-in-Ready.ensures.items refl in
    let again : RisesAgain d.told d.shown c.args.disk (risen_of r) = rw c.in-Ready.is at c.rise.ensures.again in
    up_again d.told d.shown c.args.disk c.args.slots r empty again

pub returns-in-Ready-clause-first : goal.returns-in-Ready-clause-first
returns-in-Ready-clause-first g c =
    let d = g.D.Disk in
    let x : Client g.row.D.Denot g.D.Disk =
    record { id = c.in-Ready.id; ledger = c.in-Ready.ledger; seen = c.in-Ready.seen; latest = None; txns = c.new.result; tasks = c.new-in-Ready.result; taken = 0 } in
    let r : Up g.row.D.Denot g.D.Disk = up.Ready x in
    let u : IsUp d.told d.shown c.args.disk (g.N.Names.shown c.args.names.now) (g.N.Names.shown c.rise.new.names) c.in-Ready.ledger c.in-Ready.id c.in-Ready.seen = rw c.in-Ready.is at c.rise.ensures.rises.ends in
    let empty : StartsEmpty c.args.slots x =
    starts_empty d.told d.shown c.args.disk (g.N.Names.shown c.args.names.now) (g.N.Names.shown c.rise.new.names) c.args.slots x u refl c.new.ensures c.new-in-Ready.ensures.items refl in
    let first : RisesFirst d.told d.shown c.args.disk (risen_of r) = rw c.in-Ready.is at c.rise.ensures.first in
    up_first d.told d.shown c.args.disk c.args.slots r empty first

pub returns-in-Refused-clause-again : goal.returns-in-Refused-clause-again
returns-in-Refused-clause-again g c =
    let d = g.D.Disk in
    let r : Up g.row.D.Denot g.D.Disk = up.Refused c.in-Refused.disk c.in-Refused.fault in
    let again : RisesAgain d.told d.shown c.args.disk (risen_of r) = rw c.in-Refused.is at c.rise.ensures.again in
    up_again d.told d.shown c.args.disk c.args.slots r tt again
