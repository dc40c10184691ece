use Rattle.std.proofs.Common.{◌∙◌, ap, refl, subst, sym}
use Rattle.bcv_model.specs.declared.kept.Kept.{Kept}
use Rattle.bcv_risen.specs.Rises.{Rises}
use Rattle.bcv_risen.specs.declared.risen.RiseFault.{RiseFault}
use Rattle.bcv_risen.specs.declared.risen.Risen.TheVariants as risen
use Rattle.bcv_risen.proofs.CameUp.{came_up, newly, refused, room_to_begin, still_open, unnamed}
use Rattle.bcv_risen.proofs.ComesAgain.{again, first}
use Rattle.bcv_risen.proofs.client_rise.rise.Goals as goal

pub returns-in-Refused-clause-rises : goal.returns-in-Refused-clause-rises
returns-in-Refused-clause-rises g c =
    let d = g.D.Disk in
    let names = g.N.Names.shown c.args.names.now in
    subst (λ (why : RiseFault). Rises {g = d} d.told d.shown c.args.disk names names (risen.Refused c.in-Refused.disk why)) (sym c.fault_of.ensures)
    (refused d.told d.shown c.args.disk names names c.in-Refused.disk c.in-Refused.fault refl c.in-Refused.ensures)

pub returns-in-Refused-clause-again : goal.returns-in-Refused-clause-again
returns-in-Refused-clause-again g c =
    let d = g.D.Disk in
    let names = g.N.Names.shown c.args.names.now in
    again d.told d.shown g.met.D.Disk.stands g.met.D.Disk.counts_now c.args.disk names names (risen.Refused c.in-Refused.disk c.fault_of.result) (returns-in-Refused-clause-rises g c)

pub returns-in-Refused-clause-first : goal.returns-in-Refused-clause-first
returns-in-Refused-clause-first g c =
    let d = g.D.Disk in
    let names = g.N.Names.shown c.args.names.now in
    first d.told d.shown g.met.D.Disk.stands g.met.D.Disk.counts_now c.args.disk names names (risen.Refused c.in-Refused.disk c.fault_of.result) (returns-in-Refused-clause-rises g c)

pub name_client-requires-clause-kept : goal.name_client-requires-clause-kept
name_client-requires-clause-kept g c =
    let d = g.D.Disk in
    let names = g.N.Names.shown c.args.names.now in
    unnamed d.told d.shown c.args.disk names names c.in-Ready.ledger c.in-Ready.ensures (ap (λ (k : Kept). k.me) (sym c.kept.ensures.kept) ∙ c.in-None.is)

pub name_client-requires-clause-is_open : goal.name_client-requires-clause-is_open
name_client-requires-clause-is_open g c =
    let d = g.D.Disk in
    let names = g.N.Names.shown c.args.names.now in
    still_open d.told d.shown c.args.disk names names c.in-Ready.ledger c.in-Ready.ensures

pub name_client-requires-clause-room : goal.name_client-requires-clause-room
name_client-requires-clause-room g c =
    let d = g.D.Disk in
    let names = g.N.Names.shown c.args.names.now in
    room_to_begin d.told d.shown c.args.disk names names c.in-Ready.ledger c.in-Ready.ensures (ap (λ (k : Kept). k.me) (sym c.kept.ensures.kept) ∙ c.in-None.is)

pub returns-in-Some-clause-rises : goal.returns-in-Some-clause-rises
returns-in-Some-clause-rises g c =
    let d = g.D.Disk in
    let names = g.N.Names.shown c.args.names.now in
    came_up d.told d.shown c.args.disk names names c.in-Ready.ledger c.in-Ready.ensures c.in-Some.id (ap (λ (k : Kept). k.me) (sym c.kept.ensures.kept) ∙ c.in-Some.is) refl c.up_with.result c.up_with.ensures

pub returns-in-Some-clause-again : goal.returns-in-Some-clause-again
returns-in-Some-clause-again g c =
    let d = g.D.Disk in
    let names = g.N.Names.shown c.args.names.now in
    again d.told d.shown g.met.D.Disk.stands g.met.D.Disk.counts_now c.args.disk names names c.up_with.result (returns-in-Some-clause-rises g c)

pub returns-in-Some-clause-first : goal.returns-in-Some-clause-first
returns-in-Some-clause-first g c =
    let d = g.D.Disk in
    let names = g.N.Names.shown c.args.names.now in
    first d.told d.shown g.met.D.Disk.stands g.met.D.Disk.counts_now c.args.disk names names c.up_with.result (returns-in-Some-clause-rises g c)

pub returns-in-None-clause-rises : goal.returns-in-None-clause-rises
returns-in-None-clause-rises g c =
    let d = g.D.Disk in
    let nothing = unnamed d.told d.shown c.args.disk (g.N.Names.shown c.args.names.now) (g.N.Names.shown c.name_client.new.names) c.in-Ready.ledger c.in-Ready.ensures
    (ap (λ (k : Kept). k.me) (sym c.kept.ensures.kept) ∙ c.in-None.is) in
    newly d.told d.shown c.args.disk (g.N.Names.shown c.args.names.now) (g.N.Names.shown c.name_client.new.names) c.in-Ready.ledger c.in-Ready.ensures nothing c.name_client.result c.name_client.ensures

pub returns-in-None-clause-again : goal.returns-in-None-clause-again
returns-in-None-clause-again g c =
    let d = g.D.Disk in
    again d.told d.shown g.met.D.Disk.stands g.met.D.Disk.counts_now c.args.disk (g.N.Names.shown c.args.names.now) (g.N.Names.shown c.name_client.new.names) c.name_client.result (returns-in-None-clause-rises g c)

pub returns-in-None-clause-first : goal.returns-in-None-clause-first
returns-in-None-clause-first g c =
    let d = g.D.Disk in
    first d.told d.shown g.met.D.Disk.stands g.met.D.Disk.counts_now c.args.disk (g.N.Names.shown c.args.names.now) (g.N.Names.shown c.name_client.new.names) c.name_client.result (returns-in-None-clause-rises g c)
