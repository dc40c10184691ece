-- What the two writes of an append come to.
use Rattle.std.proofs.Common.{◌≡◌, ℕ, ◌+◌, ◌<◌, ◌≤◌, ◌^◌, List, [], ◌∷◌, ◌++◌, length, refl, ◌∙◌, ap, arith, length-append}
use Rattle.bcv_disk.specs.Calls.{DiskFails-none, DiskFails-then}
use Rattle.bcv_disk.specs.Crash.{put}
use Rattle.bcv_disk.specs.DiskShown.{DiskShown, DiskTold}
use Rattle.bcv_disk.specs.Told.{length-put}
use Rattle.bcv_disk.specs.Troubles.{counted}
use Rattle.bcv_disk.specs.declared.disk.DiskEnd.{DiskEnd}
use Rattle.bcv_disk.specs.declared.disk.DiskEnd.TheVariants.{Done, Failed, NoMemory}
use Rattle.bcv_journal.specs.AddedItem.{DiskAdds}
use Rattle.bcv_journal.specs.KeptWrite.{DiskKeeps}
use Rattle.bcv_journal.specs.Layout.{IsItem, open_item}
use Rattle.bcv_journal.specs.declared.area.Area.{Area}
use Rattle.bcv_journal.proofs.Append.{before_it, block_of, length-open_item, one_put, settled_after, settled_between, settled_same, while_opened, while_staged}

counted-twice : (calls : ℕ) → counted (counted calls 2) 2 ≡ counted calls 4
counted-twice calls = omega arith

module _ (told : DiskTold) (old : DiskShown) (area : Area) (item : List ℕ) (is : IsItem item) (fits : area.tail + 6 + length item ≤ 2 ^ 31) (from : told.tells → area.tail < length old.seen)
    (only_now : told.tells → (image : List ℕ) → old.left_since old.moment image → old.may_leave image) where
  -- no memory for the block
  pub added_none : DiskAdds told old old area item NoMemory
  added_none = record {
    fails = DiskFails-none told old (λ failed. cc failed);
    calls = λ t done. absurd (cc done);
    bytes_are = λ t done. absurd (cc done);
    room_done = λ t done. absurd (cc done);
    room_kept = λ t none. from t;
    items = λ t items s. record {
      any_moment = before_it items area item (block_of item) old s is fits refl (only_now t);
      done = λ done. absurd (cc done);
      kept = λ none. s;
    };
  }

  module _ (block : List ℕ) (block_is : block ≡ block_of item) (mid : DiskShown) where
    pub added_failed : DiskKeeps told old mid (area.tail + 1) block Failed → DiskAdds told old mid area item Failed
    added_failed first = record {
      fails = first.fails;
      calls = λ t done. absurd (cc done);
      bytes_are = λ t done. absurd (cc done);
      room_done = λ t done. absurd (cc done);
      room_kept = λ t none. absurd (cc none);
      items = λ t items s. record {
        any_moment = while_staged items area item block old s is fits block_is (only_now t) mid (first.crash t);
        done = λ done. absurd (cc done);
        kept = λ none. absurd (cc none);
      };
    }

    pub added_starved : DiskKeeps told old mid (area.tail + 1) block NoMemory → DiskAdds told old mid area item NoMemory
    added_starved first = record {
      fails = first.fails;
      calls = λ t done. absurd (cc done);
      bytes_are = λ t done. absurd (cc done);
      room_done = λ t done. absurd (cc done);
      room_kept = λ t none. omega (arith, from t, ap length (first.same t refl).bytes);
      items = λ t items s. record {
        any_moment = while_staged items area item block old s is fits block_is (only_now t) mid (first.crash t);
        done = λ done. absurd (cc done);
        kept = λ none. settled_same old mid area items s (first.same t refl).bytes (first.same t refl).no_more;
      };
    }

    module _ (first : DiskKeeps told old mid (area.tail + 1) block Done) (new : DiskShown) (second : DiskEnd) (then : DiskKeeps told mid new area.tail (1 ∷ []) second) where
      bytes : told.tells → second ≡ Done → new.seen ≡ put old.seen area.tail (open_item item ++ 0 ∷ [])
      bytes t done =
          then.written t done ∙ ap (λ (l : List ℕ). put l area.tail (1 ∷ [])) (first.written t refl) ∙ one_put old.seen area.tail block (from t)
          ∙ ap (λ (b : List ℕ). put old.seen area.tail (1 ∷ b)) block_is

      pub added_both : DiskAdds told old new area item second
      added_both = record {
        fails = DiskFails-then told old mid new (λ done. absurd (cc done)) first.fails then.fails;
        calls = λ t done. then.calls t done ∙ ap (λ (n : ℕ). counted n 2) (first.calls t refl) ∙ counted-twice old.trouble.calls;
        bytes_are = bytes;
        room_done = λ t done.
            omega (
              arith,
              ap length (bytes t done),
              length-put old.seen area.tail (open_item item ++ 0 ∷ []),
              length-append (open_item item) (0 ∷ []),
              length-open_item item,
              from t,
            );
        room_kept = λ t none. omega (arith, from t, ap length (then.same t none).bytes, ap length (first.written t refl), length-put old.seen (area.tail + 1) block);
        items = λ t items s.
            let so_far = while_staged items area item block old s is fits block_is (only_now t) mid (first.crash t) in
            record {
              any_moment = while_opened items area item block old s is fits block_is mid (first.written t refl) (first.durable t refl) new so_far (then.crash t);
              done = λ done. settled_after items area item block old s is fits block_is mid (first.written t refl) (first.durable t refl) new (then.written t done) (then.durable t done);
              kept = λ none. settled_between items area item block old s is fits block_is mid (first.written t refl) (first.durable t refl) new (then.same t none).bytes (then.same t none).no_more;
            };
      }
