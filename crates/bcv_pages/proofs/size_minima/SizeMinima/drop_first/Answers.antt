use Rattle.std.proofs.Common.{ℕ, List, drop, ap, ◌∙◌, arith}
use Rattle.std.specs.Global.{Vec}
use Rattle.bcv_pages.specs.Minima.{Minima, held_columns, minima_of}
use Rattle.bcv_pages.proofs.Least.{columns-drop, held-drop, minima-drop, room-drop}
use Rattle.bcv_pages.proofs.size_minima.SizeMinima.drop_first.Goals as goal

pub invariant_of-self : goal.invariant_of-self
invariant_of-self c = record {
  columns_are = rw (c.drop_first.ensures.items, held-drop) (columns-drop c.args.count (held_columns c.self.inside.columns.items) c.self.invariant.columns_are);
  room = room-drop c.self.inside.next _ _ _ _ (omega arith) c.drop_first.ensures.room c.self.invariant.room;
}

pub returns : goal.returns
returns c =
    ap (λ (columns : List (Vec ℕ)). minima_of columns c.self.inside.next) c.drop_first.ensures.items
    ∙ minima-drop c.args.count c.self.inside.columns.items c.self.inside.next
    ∙ ap (λ (m : Minima). record m { sizes = drop c.args.count m.sizes }) c.self.view_is
