use Rattle.std.proofs.Common.{◌≡◌, ◌∙◌, true, List, [], ◌∷◌, length, ap, sym, refl, subst, arith}
use Rattle.std.specs.Int.Count.{ones}
use Rattle.std.specs.List.{AllByRecursion}
use Rattle.bcv_base.specs.declared.id.Id16.{Id16}
use Rattle.bcv_base.specs.Ids.{IsId}
use Rattle.bcv_base.specs.ManifestRules.{is_page_size}
use Rattle.task_tests.proofs.snapshot.entry_of.Goals as goal

is_page : is_page_size 1024 512 ≡ true
unfolding ones
is_page = refl

pub returns-clause-rules : goal.returns-clause-rules
returns-clause-rules c =
    let blocks : c.of.result ≡ c.args.block ∷ [] = c.of.ensures ∙ c.in_ok-vec.ensures.items in
    let one : length c.of.result ≡ 1 = ap (λ (is : List Id16). length is) blocks in
    record {
      name = c.text.ensures.name;
      tag = c.requires;
      page_size = is_page;
      pages = omega arith;
      blocks = one;
      few = omega (arith, one);
      ids = subst (λ (is : List Id16). AllByRecursion IsId is) (sym blocks) (c.requires, tt);
    }
