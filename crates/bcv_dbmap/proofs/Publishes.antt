-- A publication of one's own that passes is lawful to every other client that shares no name.
use Rattle.std.proofs.Common.{Option, refl, sym, subst}
use Rattle.bcv_base.specs.declared.manifest.Manifest.{Manifest}
use Rattle.bcv_dbmap.specs.Applied.{applied}
use Rattle.bcv_dbmap.specs.Growth.{Publishes, Edits}
use Rattle.bcv_dbmap.specs.Laws.{PublishedIsLawful}
use Rattle.bcv_dbmap.proofs.Limits.{applied_meets_limits}
use Rattle.bcv_dbmap.proofs.PastLaws.{last_version}
use Rattle.bcv_dbmap.proofs.RulesLaws.{applied_meets_rules}

pub published_is_lawful : PublishedIsLawful
published_is_lawful theirs past old asked p id writer moment s last passes fills fits moment_fits is_id is_writer fresh not_theirs another blocks swept =
    let before = last_version past old s.reads last in
    let within = applied_meets_limits old asked p id writer moment before.0 before.1 fits passes fills in
    let edits : Edits theirs past old (applied old p id writer moment) = record {
      edit = record { plan = p; writer = writer; moment = moment; made = refl; passes = within.0; fits = fits };
      another = another;
      blocks = blocks;
      swept = swept;
    } in
    record {
      rules = applied_meets_rules old p id writer moment before.0 fits within.0 moment_fits is_id is_writer;
      limits = within.1;
      fresh = fresh;
      not_mine = not_theirs;
      publishes = subst (λ (o : Option Manifest). Publishes theirs past o (applied old p id writer moment)) (sym last) edits;
    }
