use Rattle.std.proofs.Common.{sym, ◌∙◌, arith}
use Rattle.std.proofs.lemmas.Grind.{common_steps}
use Rattle.bcv_pages.proofs.page_index.keep_after.Goals as goal

pub returns-else-not-is_empty : goal.returns-else-not-is_empty
returns-else-not-is_empty c =
    let back = rw c.as_slice.ensures.value at c.count_upto-count.ensures.back in
    record {
      numbers = λ up. c.drop_first.ensures.items ∙ back up;
      room = λ lt. omega (arith, c.drop_first.ensures.len, c.drop_first.ensures.room);
      empty = λ no. grind (arith, common_steps);
      other = λ no. sym c.contains.ensures.value ∙ no;
    }
