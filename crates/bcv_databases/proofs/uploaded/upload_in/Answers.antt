use Rattle.std.proofs.Common.{◌≡◌, ◌∙◌, ◌<◌, ◌≤◌, List, Some, None, length, set, sym, ap, subst, arith, refl}
use Rattle.std.proofs.lemmas.Option.{same_Some}
use Rattle.bcv_base.specs.Keyed.{keyed}
use Rattle.bcv_dbmap.proofs.Keys.{keyed_at, keyed_removed}
use Rattle.bcv_model.specs.declared.kept.Local.{Local}
use Rattle.bcv_model.specs.Notes.{kept_name}
use Rattle.bcv_databases.specs.NamedLists.{IsFree, IsThere}
use Rattle.bcv_databases.proofs.Replaced.{found_there, item_read}
use Rattle.bcv_databases.proofs.UploadEnds.{after, left_none, left_some, uploaded_all, uploaded_none, uploaded_some}
use Rattle.bcv_databases.proofs.uploaded.upload_in.Goals as goal

pub returns-in_default-clause-locals : goal.returns-in_default-clause-locals
returns-in_default-clause-locals c =
    let ls : List Local = c.args.locals.now.items in
    let db = c.args.upload.entry.name in
    let free : IsFree kept_name db ls c.in_default.field-0 = subst (λ (xs : List Local). IsFree kept_name db xs c.in_default.field-0) c.deref.ensures.value c.in_default.ensures.free in
    uploaded_none c.args.number c.args.upload ls (free.none c.requires)

pub returns-then-upload-items-clause-locals : goal.returns-then-upload-items-clause-locals
returns-then-upload-items-clause-locals c =
    let ls : List Local = c.args.locals.now.items in
    let db = c.args.upload.entry.name in
    let i = c.in-Ok.place in
    let l : Local = c.index.result.now in
    let there : IsThere kept_name db ls i = subst (λ (xs : List Local). IsThere kept_name db xs i) c.deref.ensures.value c.in-Ok.ensures.there in
    let all : length l.commits ≤ c.args.upload.count = omega (arith, c.if-upload-items.true, ap length c.items.ensures) in
    c.remove.ensures.items ∙ sym (there.left c.requires) ∙ sym (uploaded_all c.args.number c.args.upload ls l c.requires (found_there db ls i l there c.index.ensures) all)

pub returns-then-upload-items-clause-known : goal.returns-then-upload-items-clause-known
returns-then-upload-items-clause-known c =
    let ls : List Local = c.args.locals.now.items in
    let db = c.args.upload.entry.name in
    let i = c.in-Ok.place in
    let there : IsThere kept_name db ls i = subst (λ (xs : List Local). IsThere kept_name db xs i) c.deref.ensures.value c.in-Ok.ensures.there in
    let none : keyed kept_name db c.remove.new.self.items ≡ None = ap (keyed kept_name db) (c.remove.ensures.items ∙ sym (there.left c.requires)) ∙ keyed_removed kept_name db ls in
    ap Some c.published-then-upload-items.ensures ∙ left_none c.args.number c.args.upload c.remove.new.self.items none

pub returns-clause-locals : goal.returns-clause-locals
returns-clause-locals c =
    let ls : List Local = c.args.locals.now.items in
    let db = c.args.upload.entry.name in
    let i = c.in-Ok.place in
    let l : Local = c.index_mut.result.now in
    let there : IsThere kept_name db ls i = subst (λ (xs : List Local). IsThere kept_name db xs i) c.deref.ensures.value c.in-Ok.ensures.there in
    let same : c.index.result.now ≡ l = same_Some c.index.result.now l (sym (item_read ls i c.index.result.now there.inside c.index.ensures) ∙ item_read ls i l there.inside c.index_mut.ensures.value) in
    let some : c.args.upload.count < length l.commits = omega (arith, c.if-upload-items.false, ap length c.items.ensures, ap (λ (x : Local). length x.commits) same) in
    ap (set ls i) c.rebase.ensures ∙ sym (there.over (after c.args.number c.args.upload l) refl)
    ∙ sym (uploaded_some c.args.number c.args.upload ls l c.requires (found_there db ls i l there c.index_mut.ensures.value) some)

pub returns-clause-known : goal.returns-clause-known
returns-clause-known c =
    let ls : List Local = c.args.locals.now.items in
    let db = c.args.upload.entry.name in
    let i = c.in-Ok.place in
    let l : Local = c.index_mut.result.now in
    let m : Local = after c.args.number c.args.upload l in
    let there : IsThere kept_name db ls i = subst (λ (xs : List Local). IsThere kept_name db xs i) c.deref.ensures.value c.in-Ok.ensures.there in
    let found : keyed kept_name db (set ls i c.rebase.new.local) ≡ Some m = ap (keyed kept_name db) (ap (set ls i) c.rebase.ensures ∙ sym (there.over m refl)) ∙ keyed_at kept_name m ls in
    left_some c.args.number c.args.upload (set ls i c.rebase.new.local) m found
