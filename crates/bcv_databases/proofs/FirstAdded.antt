-- The databases after the first commit of one.
use Rattle.std.proofs.Common.{◌≡◌, ◌∙◌, ℕ, false, List, [], ◌∷◌, map, set, refl, sym, ap, subst, arith, Option, Some, None}
use Rattle.std.specs.List.{AllByRecursion}
use Rattle.std.specs.Str.{bytes_eq}
use Rattle.std.proofs.lemmas.Option.{same_Some}
use Rattle.bcv_base.specs.Keyed.{keyed, with_keyed, without_keyed}
use Rattle.bcv_dbmap.proofs.Keys.{all_without, ascends_with, ascends_without, by_removal, key_turned, keyed_at, keyed_key, keyed_other}
use Rattle.bcv_model.specs.declared.ask.Commit.{Commit}
use Rattle.bcv_model.specs.declared.kept.Local.{Local}
use Rattle.bcv_model.specs.declared.note.Note.TheVariants.{First}
use Rattle.bcv_model.specs.Commits.{writes_of}
use Rattle.bcv_model.specs.Notes.{kept_name}
use Rattle.bcv_pages.specs.Held.{Held, numbers_of, with_commit}
use Rattle.bcv_databases.specs.Catalog.{Catalog, Rooms, known_name, set_at, use_name}
use Rattle.bcv_databases.specs.Changes.{Adds, IsFirstReady, note_over}
use Rattle.bcv_databases.specs.Sound.{AreDatabases, HasSet, IsSetOf, KeepsViews}
use Rattle.bcv_databases.specs.declared.known.Known.{Known}
use Rattle.bcv_databases.specs.declared.ready.FirstReady.{FirstReady}
use Rattle.bcv_databases.specs.declared.set_use.SetUse.{SetUse}
use Rattle.bcv_databases.proofs.OneChanged.{SameLocals, SameSets, SameUses, apart_one, ends_one, held_one, without_one}
use Rattle.bcv_databases.proofs.Parts.{with_parts}
use Rattle.bcv_databases.proofs.Slots.{at_other, at_same}

-- the databases that are left are other ones than the one that is taken out
others_left : (db : List ℕ) (ks : List Known) → AllByRecursion (λ k. bytes_eq db (known_name k) ≡ false) (without_keyed known_name db ks)
others_left db [] = tt
others_left db (k ∷ ks) =
    by_removal known_name (AllByRecursion (λ (x : Known). bytes_eq db (known_name x) ≡ false)) db k ks
    (λ e. others_left db ks) (λ e. (key_turned db (known_name k) ∙ e, others_left db ks))

-- a database that uses a set has one
pub set_used : (c : Catalog) (a : List ℕ) (v : SetUse) → AreDatabases c → keyed use_name a c.uses ≡ Some v → set_at c.sets v.set ≡ None → ⊥
set_used c a v s is_v none = used (keyed kept_name a c.kept.locals) (subst (λ (p : Option SetUse). HasSet c.sets (keyed kept_name a c.kept.locals) p) is_v (s.held a))
  where
    used : (o : Option Local) → HasSet c.sets o (Some v) → ⊥
    used None has = has
    used (Some l) has = let both : Some has.0 ≡ None = sym has.1 ∙ none in absurd cc

-- a set of one commit
set_of_one : (l : Local) (commit : Commit) (ready : Option (List ℕ)) → l.commits ≡ commit ∷ []
    → IsSetOf l 0 (with_commit (writes_of commit) (record { page_size = l.entry.page_size; forgotten = 0; kept = []; ready = ready }))
set_of_one l commit ready is = record {
  size = refl;
  view = record { kept = omega arith; order = omega arith; there = omega arith };
  commits = ap (map writes_of) (sym is);
}

abbrev pub local_of : Known → List Commit → Local
local_of k commits = record { entry = k.entry; number = k.number; block = k.block; commits = commits }

abbrev pub use_of_set : Known → ℕ → SetUse
use_of_set k place = record { name = k.entry.name; set = place; from = 0 }

module _ (c : Catalog) (db : List ℕ) (f : FirstReady) (commit : Commit) (s : AreDatabases c) (r : IsFirstReady c db f commit) where
  first_name : known_name r.known ≡ db
  first_name = keyed_key known_name db c.known r.known r.is_known

  first_sound : (rooms : Rooms)
      → AreDatabases (with_parts c (with_keyed kept_name (local_of r.known f.commits) c.kept.locals) (without_keyed known_name db c.known)
      (with_keyed use_name (use_of_set r.known f.place) c.uses) (set c.sets f.place (Some (with_commit (writes_of commit) f.set))) rooms)
  first_sound rooms =
      let ls : List Local = c.kept.locals in
      let m : Local = local_of r.known f.commits in
      let u : SetUse = use_of_set r.known f.place in
      let g : Held = with_commit (writes_of commit) f.set in
      let ms : List Local = with_keyed kept_name m ls in
      let vs : List SetUse = with_keyed use_name u c.uses in
      let new : List (Option Held) = set c.sets f.place (Some g) in
      let here_local : keyed kept_name db ms ≡ Some m = ap (λ (k : List ℕ). keyed kept_name k ms) (sym first_name) ∙ keyed_at kept_name m ls in
      let here_use : keyed use_name db vs ≡ Some u = ap (λ (k : List ℕ). keyed use_name k vs) (sym first_name) ∙ keyed_at use_name u c.uses in
      let locals : SameLocals db ls ms c.uses vs c.sets new = λ a other. keyed_other kept_name m a ls (ap (λ (k : List ℕ). bytes_eq k a) first_name ∙ other) in
      let uses : SameUses db ls ms c.uses vs c.sets new = λ a other. keyed_other use_name u a c.uses (ap (λ (k : List ℕ). bytes_eq k a) first_name ∙ other) in
      let taken : (a : List ℕ) (v : SetUse) → keyed use_name a c.uses ≡ Some v → v.set ≡ f.place → ⊥ =
      λ a v is_v same. set_used c a v s is_v (ap (set_at c.sets) same ∙ r.free) in
      let sets : SameSets db ls ms c.uses vs c.sets new = λ a v other is_v. at_other c.sets f.place v.set (Some g) (taken a v is_v) in
      let is_set : IsSetOf m 0 g = subst (λ (h : Held). IsSetOf m 0 (with_commit (writes_of commit) h)) (sym r.memory.empty) (set_of_one m commit (Some (numbers_of (writes_of commit))) r.memory.is_copy) in
      let here : HasSet new (keyed kept_name db ms) (keyed use_name db vs) =
      subst (λ (o : Option Local). HasSet new o (keyed use_name db vs)) (sym here_local)
      (subst (λ (o : Option SetUse). HasSet new (Some m) o) (sym here_use) (g, at_same c.sets f.place (Some g) r.inside, is_set)) in
      record {
        order = ascends_with kept_name m ls s.order;
        known_order = ascends_without known_name db c.known s.known_order;
        without =
            without_one db ls ms c.uses vs c.sets new locals (without_keyed known_name db c.known) (others_left db c.known)
            (all_without known_name (λ (k : Known). keyed kept_name (known_name k) ls ≡ None) db c.known s.without);
        held = held_one db ls ms c.uses vs c.sets new locals uses sets here s.held;
        uses_order = ascends_with use_name u c.uses s.uses_order;
        apart =
            apart_one db ls ms c.uses vs c.sets new uses
            (λ x v a is_x other is_v same. taken a v is_v (sym same ∙ ap (λ (y : SetUse). y.set) (same_Some x u (sym is_x ∙ here_use)))) s.apart;
        pending = ends_one db ls ms c.uses vs c.sets new locals (λ x is_x. let both : Some x ≡ None = sym is_x ∙ r.without in absurd cc) c.kept.pending s.pending;
      }

  module _ (known : Known) (is_known : keyed known_name db c.known ≡ Some known) (rooms : Rooms)
      (ls : List Local) (ks : List Known) (us : List SetUse) (g : Held)
      (locals_are : ls ≡ with_keyed kept_name (local_of known f.commits) c.kept.locals) (known_are : ks ≡ without_keyed known_name db c.known)
      (uses_are : us ≡ with_keyed use_name (use_of_set known f.place) c.uses) (set_is : g ≡ with_commit (writes_of commit) f.set) where
    same_known : r.known ≡ known
    same_known = same_Some r.known known (sym r.is_known ∙ is_known)

    pub first_are : AreDatabases (with_parts c ls ks us (set c.sets f.place (Some g)) rooms)
    first_are =
        let w : Held = with_commit (writes_of commit) f.set in
        let ls_is : with_keyed kept_name (local_of r.known f.commits) c.kept.locals ≡ ls = ap (λ (k : Known). with_keyed kept_name (local_of k f.commits) c.kept.locals) same_known ∙ sym locals_are in
        let us_is : with_keyed use_name (use_of_set r.known f.place) c.uses ≡ us = ap (λ (k : Known). with_keyed use_name (use_of_set k f.place) c.uses) same_known ∙ sym uses_are in
        subst (λ (xs : List Local). AreDatabases (with_parts c xs ks us (set c.sets f.place (Some g)) rooms)) ls_is
        (subst (λ (xs : List SetUse). AreDatabases (with_parts c (with_keyed kept_name (local_of r.known f.commits) c.kept.locals) ks xs (set c.sets f.place (Some g)) rooms)) us_is
        (subst (λ (xs : List Known). AreDatabases (with_parts c (with_keyed kept_name (local_of r.known f.commits) c.kept.locals) xs (with_keyed use_name (use_of_set r.known f.place) c.uses) (set c.sets f.place (Some g)) rooms)) (sym known_are)
        (subst (λ (h : Held). AreDatabases (with_parts c (with_keyed kept_name (local_of r.known f.commits) c.kept.locals) (without_keyed known_name db c.known) (with_keyed use_name (use_of_set r.known f.place) c.uses) (set c.sets f.place (Some h)) rooms)) (sym set_is)
        (first_sound rooms))))

    first_views : KeepsViews c.sets (set c.sets f.place (Some g))
    first_views place h at =
        (h, at_other c.sets f.place place (Some g) (λ same. let both : Some h ≡ None = sym at ∙ ap (set_at c.sets) same ∙ r.free in absurd cc) ∙ at, (λ from to can. (can, refl)), refl)

    pub first_adds : Adds c (with_parts c ls ks us (set c.sets f.place (Some g)) rooms) db commit
    first_adds = record {
      note = First known.entry known.number known.block commit;
      is_note = ap (λ (o : Option Local). note_over db commit o (keyed known_name db c.known)) r.without ∙ ap (note_over db commit None) is_known;
      kept = ap (λ (xs : List Local). record { me = c.kept.me; locals = xs; pending = c.kept.pending }) (locals_are ∙ ap (λ (cs : List Commit). with_keyed kept_name (local_of known cs) c.kept.locals) r.memory.is_copy);
      known = known_are;
      views = first_views;
    }
