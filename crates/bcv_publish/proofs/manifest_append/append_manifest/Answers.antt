use Rattle.std.proofs.Common.{◌≡◌, List, ℕ, Ok, subst, sym}
use Rattle.bcv_base.specs.ManifestGrammar.{manifest_of}
use Rattle.bcv_publish.proofs.AppendLaws.{append_appends, none_appends}
use Rattle.bcv_publish.proofs.manifest_append.append_manifest.Goals as goal

pub returns-in-Err-clause-appends : goal.returns-in-Err-clause-appends
returns-in-Err-clause-appends g c = none_appends g.S.Store.told (g.S.Store.shown c.args.store.now) c.args.condition c.args.manifest.now

pub returns-in-Ok-clause-appends : goal.returns-in-Ok-clause-appends
returns-in-Ok-clause-appends g c =
    append_appends g.S.Store.told (g.S.Store.shown c.args.store.now) (g.S.Store.shown c.put.new.self) c.args.condition c.deref.result.now c.args.manifest.now c.put.result
    (subst (λ (bytes : List ℕ). manifest_of bytes ≡ Ok c.args.manifest.now) (sym c.deref.ensures.value) c.in-Ok.ensures.reads) c.put.ensures.puts
