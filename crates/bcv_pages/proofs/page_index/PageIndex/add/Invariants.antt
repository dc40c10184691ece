use Rattle.std.proofs.Common.{◌≡◌, ℕ, ◌<◌, ◌≤◌, [], ◌∷◌, ◌++◌, map, take, length, get_or, is_some, cond}
use Rattle.bcv_base.specs.Image.{written}
use Rattle.bcv_pages.specs.Index.{listed, has_room}
use Rattle.bcv_pages.proofs.page_index.PageIndex.add.Given as goal

abbrev pub invariant-loop-written : goal.invariant-loop-written
invariant-loop-written l = record {
  listed : (p : ℕ) → listed l.self.lists p ≡ listed l.initial.self.lists p ++ cond (is_some (written (take l.written-index l.pages) p)) (l.number ∷ []) [];
  room : (k : ℕ) → l.written-index ≤ k → k < length l.pages → has_room l.self.lists (get_or (map (λ w. w.0) l.pages) k 0);
}
