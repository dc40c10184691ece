use Rattle.std.proofs.Common.{◌∙◌, length, refl, sym, ap, subst, arith}
use Rattle.std.specs.List.{AllByRecursion}
use Rattle.bcv_base.specs.Ids.{IsId}
use Rattle.task_tests.proofs.upload.base_of.Goals as goal

pub returns-clause-base : goal.returns-clause-base
unfolding lib.Count.ones
returns-clause-base c =
    let blocks = c.of.ensures ∙ c.in-Ok.ensures.items in
    record {
      block = refl;
      entry = record {
        name = c.text-text.ensures.name;
        tag = c.id_of-2.ensures;
        page_size = refl;
        pages = omega arith;
        blocks = ap length blocks;
        few = omega (arith, ap length blocks);
        ids = subst (AllByRecursion IsId) (sym blocks) (c.id_of.ensures, tt);
      };
    }
