-- The databases after the commits of one were given up.
use Rattle.std.proofs.Common.{◌≡◌, ◌∙◌, ℕ, List, refl, sym, ap, subst, Option, Some, None}
use Rattle.std.specs.List.{AllByRecursion}
use Rattle.bcv_base.specs.Keyed.{keyed, with_keyed, without_keyed}
use Rattle.bcv_base.specs.ManifestRules.{Ascends}
use Rattle.bcv_dbmap.proofs.Keys.{all_with, ascends_with, ascends_without, keyed_key, keyed_left, keyed_removed}
use Rattle.bcv_model.specs.declared.kept.Local.{Local}
use Rattle.bcv_model.specs.declared.kept.PendingPub.{PendingPub}
use Rattle.bcv_model.specs.Notes.{kept_name}
use Rattle.bcv_pages.specs.Held.{Held}
use Rattle.bcv_databases.specs.Catalog.{Catalog, Rooms, known_name, use_name}
use Rattle.bcv_databases.specs.Changes.{Reverts, base_of}
use Rattle.bcv_databases.specs.Sound.{AreDatabases, CanEnd, HasSet}
use Rattle.bcv_databases.specs.declared.known.Known.{Known}
use Rattle.bcv_databases.specs.declared.set_use.SetUse.{SetUse}
use Rattle.bcv_databases.proofs.OneChanged.{SameLocals, SameUses, apart_one, held_one, known_others, without_one}
use Rattle.bcv_databases.proofs.Parts.{with_parts}
use Rattle.bcv_databases.proofs.Slots.{keeps_all}

-- no set for no database
pub has_none : (sets : List (Option Held)) (o : Option Local) (p : Option SetUse) → o ≡ None → p ≡ None → HasSet sets o p
has_none sets o p no_local no_use =
    subst (λ (q : Option Local). HasSet sets q p) (sym no_local) (subst (λ (q : Option SetUse). HasSet sets None q) (sym no_use) tt)

-- what holds of databases of which one lost its commits, but for the pending publication
module _ (c : Catalog) (db : List ℕ) (l : Local) (s : AreDatabases c) (is_local : keyed kept_name db c.kept.locals ≡ Some l) where
  abbrev ms : List Local
  ms = without_keyed kept_name db c.kept.locals

  abbrev vs : List SetUse
  vs = without_keyed use_name db c.uses

  pub locals_left : SameLocals db c.kept.locals ms c.uses vs c.sets c.sets
  locals_left a other = keyed_left kept_name db a c.kept.locals other

  uses_left : SameUses db c.kept.locals ms c.uses vs c.sets c.sets
  uses_left a other = keyed_left use_name db a c.uses other

  pub without_left : AllByRecursion (λ k. keyed kept_name (known_name k) (without_keyed kept_name db c.kept.locals) ≡ None) c.known
  without_left = without_one db c.kept.locals ms c.uses vs c.sets c.sets locals_left c.known (known_others db c.kept.locals l c.known is_local s.without) s.without

  pub left_sound : (ks : List Known) (p : Option PendingPub) (rooms : Rooms) → Ascends known_name ks
      → AllByRecursion (λ k. keyed kept_name (known_name k) (without_keyed kept_name db c.kept.locals) ≡ None) ks → CanEnd (without_keyed kept_name db c.kept.locals) p
      → AreDatabases (record {
        kept = record { me = c.kept.me; locals = without_keyed kept_name db c.kept.locals; pending = p };
        known = ks;
        uses = without_keyed use_name db c.uses;
        sets = c.sets;
        rooms = rooms;
      })
  left_sound ks p rooms order none ends = record {
    order = ascends_without kept_name db c.kept.locals s.order;
    known_order = order;
    without = none;
    held =
        held_one db c.kept.locals ms c.uses vs c.sets c.sets locals_left uses_left (λ a u other is_u. refl)
        (has_none c.sets (keyed kept_name db ms) (keyed use_name db vs) (keyed_removed kept_name db c.kept.locals) (keyed_removed use_name db c.uses)) s.held;
    uses_order = ascends_without use_name db c.uses s.uses_order;
    apart =
        apart_one db c.kept.locals ms c.uses vs c.sets c.sets uses_left
        (λ u v a is_u other is_v same. let both : Some u ≡ None = sym is_u ∙ keyed_removed use_name db c.uses in absurd cc) s.apart;
    pending = ends;
  }

  module _ (free : c.kept.pending ≡ None) (rooms : Rooms) (ls : List Local) (ks : List Known) (us : List SetUse)
      (locals_are : ls ≡ without_keyed kept_name db c.kept.locals) (known_are : ks ≡ with_keyed known_name (base_of l) c.known) (uses_are : us ≡ without_keyed use_name db c.uses) where
    pub reverted_are : AreDatabases (with_parts c ls ks us c.sets rooms)
    reverted_are =
        let name : kept_name l ≡ db = keyed_key kept_name db c.kept.locals l is_local in
        let here : keyed kept_name (kept_name l) ms ≡ None = ap (λ (k : List ℕ). keyed kept_name k ms) name ∙ keyed_removed kept_name db c.kept.locals in
        let none = all_with known_name (λ (k : Known). keyed kept_name (known_name k) ms ≡ None) (base_of l) c.known here without_left in
        let ends : CanEnd ms c.kept.pending = subst (CanEnd ms) (sym free) tt in
        subst (λ (xs : List Local). AreDatabases (with_parts c xs ks us c.sets rooms)) (sym locals_are)
        (subst (λ (xs : List Known). AreDatabases (with_parts c ms xs us c.sets rooms)) (sym known_are)
        (subst (λ (xs : List SetUse). AreDatabases (with_parts c ms (with_keyed known_name (base_of l) c.known) xs c.sets rooms)) (sym uses_are)
        (left_sound (with_keyed known_name (base_of l) c.known) c.kept.pending rooms (ascends_with known_name (base_of l) c.known s.known_order) none ends)))

    pub reverts : Reverts c (with_parts c ls ks us c.sets rooms) db
    reverts = record {
      local = l;
      is_local = is_local;
      kept = ap (λ (xs : List Local). record { me = c.kept.me; locals = xs; pending = c.kept.pending }) locals_are;
      known = known_are;
      views = keeps_all c.sets;
    }
