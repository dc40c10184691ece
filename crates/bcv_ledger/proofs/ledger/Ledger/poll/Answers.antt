use Rattle.std.proofs.Common.{◌≡◌, ◌∙◌, List, ap, rules, sym, subst}
use Rattle.bcv_base.specs.ManifestRules.{Ascends}
use Rattle.bcv_databases.specs.Catalog.{known_name}
use Rattle.bcv_databases.specs.Changes as changes
use Rattle.bcv_databases.specs.declared.known.Known.{Known}
use Rattle.bcv_ledger.proofs.KnownAt.{ascends_in, known_at_is}
use Rattle.bcv_ledger.proofs.ledger.Ledger.poll.Goals as goal

pub polled-requires : goal.polled-requires
polled-requires g c =
    let m = c.args.manifest.now in
    let is : c.in_ok-found.found.items ≡ changes.known_in m = (search rules) in
    subst (λ (xs : List Known). Ascends known_name xs) (sym is) (ascends_in m m.dbs c.requires.order)

pub returns-clause-known : goal.returns-clause-known
returns-clause-known g c =
    let m = c.args.manifest.now in
    let is : c.in_ok-found.found.items ≡ changes.known_in m = (search rules) in
    let k = c.args.self.now.databases.kept in
    c.polled.ensures.known ∙ ap (changes.known_at k) is ∙ known_at_is k m
