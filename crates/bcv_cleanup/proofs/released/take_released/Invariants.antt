use Rattle.std.proofs.Common.{◌≤◌, length, take, vec_capacity}
use Rattle.bcv_dbmap.specs.Deletions.{most_cleaned}
use Rattle.bcv_cleanup.specs.Picks.{Picks}
use Rattle.bcv_cleanup.proofs.released.take_released.Given as goal

abbrev pub invariant-loop-place : goal.invariant-loop-place
invariant-loop-place g l = record {
  picks : Picks (goal.F-post g l.rule.rule) l.moment l.retention (take l.place l.dead) l.ids.items;
  few : length l.ids.items ≤ most_cleaned;
  room : most_cleaned ≤ vec_capacity l.ids;
}
