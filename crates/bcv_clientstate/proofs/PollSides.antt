-- The step of a poll in the machine's words.
use Rattle.std.proofs.Common.{List, Option, Some, refl, sym, ap, subst}
use Rattle.bcv_base.specs.declared.outcome.Outcome.TheVariants as outcome
use Rattle.bcv_base.specs.Version.{Version}
use Rattle.bcv_machine.specs.Poll.{PollsLast}
use Rattle.bcv_machine.specs.State as m
use Rattle.bcv_machine.specs.State.{last_version, with_up}
use Rattle.bcv_model.specs.declared.reply.Reply.TheVariants as reply
use Rattle.bcv_clientstate.specs.PollSides.{FaultIsPolled, NoneIsPolled, ReadIsPolled, with_read}
use Rattle.bcv_clientstate.specs.PutLaws.{IsLastVersion}
use Rattle.bcv_clientstate.specs.SeenClient.{seen_client, seen_up, side_of}
use Rattle.bcv_clientstate.specs.SeenContainer.{container_of}
use Rattle.bcv_clientstate.proofs.KnownLaws.{known_is_known}
use Rattle.bcv_clientstate.proofs.PutLaws.{last_is_last, none_is_none}

pub read_is_polled : ReadIsPolled
read_is_polled moment past p f l seen sound last =
    let s : m.Side = side_of moment past p f in
    let is : IsLastVersion moment past l.manifest = last_is_last moment past l.manifest sound last in
    subst (λ (o : Option Version). PollsLast s (seen_up past p) o (reply.Polled l.manifest.number) (side_of moment past (with_read l seen p) f)) (sym is.version) (
      sym is.number,
      ap (λ (ks : List m.KnownDb). record { container = container_of moment past; client = record (seen_client past p f) { up = Some (record (seen_up past p) { known = ks }) } }) (known_is_known past p.kept l.manifest),
    )

pub none_is_polled : NoneIsPolled
none_is_polled moment past p f sound last =
    let s : m.Side = side_of moment past p f in
    subst (λ (o : Option Version). PollsLast s (seen_up past p) o reply.NoContainer s)
    (sym (ap (λ (vs : List Version). last_version (record (container_of moment past) { versions = vs })) (none_is_none moment past sound last))) refl

pub fault_is_polled : FaultIsPolled
fault_is_polled moment past p f outcome.Ok not = absurd (not refl)
fault_is_polled moment past p f outcome.Fail not = (refl, refl)
fault_is_polled moment past p f outcome.Lost not = (refl, refl)
