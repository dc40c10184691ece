use Rattle.std.proofs.Common.{◌<◌, ℕ, List, sym, subst}
use Rattle.std.specs.List.{AllByRecursion}
use Rattle.bcv_upload.specs.State.{needed, view_in}
use Rattle.bcv_upload.proofs.BlockNumbers.{full_of, touched_are}
use Rattle.bcv_upload.proofs.upload.Upload.new.Goals as goal

pub view_entry-requires-clause-within : goal.view_entry-requires-clause-within
view_entry-requires-clause-within c =
    subst (λ (ns : List ℕ). AllByRecursion (λ n. n < needed c.args.base.now c.size-size.result) ns) (sym c.deref.ensures.value)
    (touched_are c.args.base.now (view_in c.args.pages.now c.args.base.now) c.size-size.result c.in_ok-touched.touched.items (full_of c.args.base.now c.requires.base)
    (record { size_is = c.size-size.ensures.size; touched_are = c.in_ok-touched.ensures })).within

pub view_entry-requires-2-clause-within : goal.view_entry-requires-2-clause-within
view_entry-requires-2-clause-within c =
    subst (λ (ns : List ℕ). AllByRecursion (λ n. n < needed c.args.base.now c.size-size.result) ns) (sym c.deref-2.ensures.value)
    (touched_are c.args.base.now (view_in c.args.pages.now c.args.base.now) c.size-size.result c.in_ok-touched.touched.items (full_of c.args.base.now c.requires.base)
    (record { size_is = c.size-size.ensures.size; touched_are = c.in_ok-touched.ensures })).within
