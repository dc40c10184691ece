-- The databases after the pending publication was found to be made.
use Rattle.std.proofs.Common.{◌≡◌, ◌∙◌, ℕ, cond, List, refl, sym, ap, subst, Option, Some, None, is_some}
use Rattle.std.proofs.lemmas.Option.{same_Some}
use Rattle.bcv_base.specs.Keyed.{keyed, with_keyed}
use Rattle.bcv_dbmap.proofs.Keys.{all_with, ascends_with}
use Rattle.bcv_model.specs.declared.kept.Local.{Local}
use Rattle.bcv_model.specs.declared.kept.PendingPub.{PendingPub}
use Rattle.bcv_model.specs.declared.kept.Uploading.{Uploading}
use Rattle.bcv_model.specs.Notes.{kept_name}
use Rattle.bcv_databases.specs.Catalog.{Catalog, Rooms, known_name}
use Rattle.bcv_databases.specs.Changes.{known_left, published, upload_left}
use Rattle.bcv_databases.specs.Sound.{AreDatabases}
use Rattle.bcv_databases.specs.declared.known.Known.{Known}

-- a database that is left has no commits
left_by : (number : ℕ) (ls : List Local) (u : Uploading) (k : Known) (o : Option Local) → keyed kept_name u.entry.name ls ≡ o → cond (is_some o) None (Some (published number u)) ≡ Some k
    → keyed kept_name (known_name k) ls ≡ None
left_by number ls u k None at is = ap (λ (x : Known). keyed kept_name (known_name x) ls) (sym (same_Some (published number u) k is)) ∙ at
left_by number ls u k (Some l) at is = absurd cc

upload_without : (number : ℕ) (ls : List Local) (o : Option Uploading) (k : Known) → upload_left number ls o ≡ Some k → keyed kept_name (known_name k) ls ≡ None
upload_without number ls None k is = absurd cc
upload_without number ls (Some u) k is = left_by number ls u k (keyed kept_name u.entry.name ls) refl is

pub left_without : (number : ℕ) (ls : List Local) (o : Option PendingPub) (k : Known) → known_left number ls o ≡ Some k → keyed kept_name (known_name k) ls ≡ None
left_without number ls None k is = absurd cc
left_without number ls (Some p) k is = upload_without number ls p.upload k is

-- one more known database, which has no commits
pub known_more : (c : Catalog) (k : Known) (ks : List Known) (rooms : Rooms) → AreDatabases c → keyed kept_name (known_name k) c.kept.locals ≡ None → ks ≡ with_keyed known_name k c.known
    → AreDatabases (record { kept = c.kept; known = ks; uses = c.uses; sets = c.sets; rooms = rooms })
known_more c k ks rooms s none is =
    subst (λ (xs : List Known). AreDatabases (record { kept = c.kept; known = xs; uses = c.uses; sets = c.sets; rooms = rooms })) (sym is)
    (record {
      order = s.order;
      known_order = ascends_with known_name k c.known s.known_order;
      without = all_with known_name (λ (x : Known). keyed kept_name (known_name x) c.kept.locals ≡ None) k c.known none s.without;
      held = s.held;
      uses_order = s.uses_order;
      apart = s.apart;
      pending = s.pending;
    })
