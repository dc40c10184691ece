use Rattle.std.proofs.Common.{◌∙◌, ◌≤◌, ◌-◌, List, length, length-drop, drop, map, ap, arith, ◌++◌, ◌∷◌, []}
use Rattle.std.proofs.lemmas.List.{take_all}
use Rattle.bcv_model.specs.declared.kept.Local.{Local}
use Rattle.bcv_model.specs.declared.reply.Row.{Row}
use Rattle.bcv_databases.specs.Table.{local_row, merged_rows}
use Rattle.bcv_databases.proofs.Merged.{table_end, table_more}
use Rattle.bcv_databases.proofs.rows.table.Goals as goal

pub loop-database-preserved : goal.loop-database-preserved
loop-database-preserved c =
    let ls = c.args.locals.now in
    let known = c.args.known.now in
    let all : List Row = merged_rows known (map local_row ls) in
    let more = c.in_ok-push.ensures.items ∙ ap (λ (r : Row). c.push_before.new.rows.items ++ r ∷ []) c.known_row.ensures in (
      c.in_ok-next.ensures.0,
      table_more ls known c.loop-database.database-index c.database-item.result c.loop-database.next c.in_ok-next.next c.loop-database.rows.items c.push_before.new.rows.items c.push.new.self.items all
          c.loop-database-test.true c.database-item.is c.requires.known c.in_ok-next.ensures more c.loop-database.invariant.1,
    )

pub returns : goal.returns
returns c =
    let ls = c.args.locals.now in
    let known = c.args.known.now in
    let all : List Row = merged_rows known (map local_row ls) in
    let past : length known ≤ c.loop-database.database-index = omega (arith, c.loop-database-test.false, c.loop-database.auto.database-index-end) in
    let rest = c.in_ok-push_rows.ensures ∙ ap (λ (zs : List Local). c.loop-database.rows.items ++ map local_row zs) (take_all (length ls - c.loop-database.next) (drop c.loop-database.next ls) (omega (arith, length-drop c.loop-database.next ls))) in
    table_end ls known c.loop-database.database-index c.loop-database.next c.loop-database.rows.items c.push_rows.new.rows.items all past rest c.loop-database.invariant.1
