-- A new journal.
use Rattle.std.proofs.Common.{◌≡◌, ℕ, false, ◌≤◌, List, [], ◌∷◌, ◌++◌, length, refl, ap, arith}
use Rattle.std.proofs.lemmas.List.{drop_all}
use Rattle.bcv_disk.specs.Crash.{Only, put}
use Rattle.bcv_disk.specs.DiskShown.{DiskShown}
use Rattle.bcv_journal.specs.Layout.{empty, magic}
use Rattle.bcv_journal.specs.Settled.{IsSettled}

pub put_empty : (old : List ℕ) → length old ≤ 18 → put old 0 empty ≡ empty
put_empty old short = ap (λ (l : List ℕ). [] ++ empty ++ l) (drop_all 18 old short)

abbrev head : List ℕ
head = magic ++ 0 ∷ 0 ∷ 0 ∷ 0 ∷ 17 ∷ 0 ∷ 0 ∷ 0 ∷ 0 ∷ []

pub settled_empty : (new : DiskShown) → new.seen ≡ empty → Only new.seen new.may_leave → IsSettled new (record { start = 17; tail = 17; second = false }) []
settled_empty new is only = record {
  spelled = record {
    front = head;
    gate = 0;
    rest = [];
    is_front = record { magic_is = refl; long = omega arith; starts = refl };
    closed = λ no. cc no;
    each = tt;
    whole = is;
  };
  short = omega (arith, ap length is);
  start_is = refl;
  second_is = refl;
  tail_is = refl;
  durable = only;
}
