use Rattle.std.proofs.Common.{◌≡◌, length, sym, ap, subst, ◌∙◌, arith}
use Rattle.std.specs.List.{AllByRecursion}
use Rattle.bcv_base.specs.Ids.{IsId}
use Rattle.store_tests.proofs.Trying.{is_page}
use Rattle.store_tests.proofs.dbmap.entry_of.Goals as goal

pub returns : goal.returns
returns c =
    let same = c.of.ensures in
    let count : length c.of.result ≡ c.args.count = ap length same ∙ c.in-Ok.ensures.len in
    record {
      name = c.text-text.ensures.name;
      tag = c.id_of.ensures;
      page_size = is_page;
      pages = omega arith;
      blocks = omega arith;
      few = omega arith;
      ids = subst (AllByRecursion IsId) (sym same) c.in-Ok.ensures.ids;
    }
