-- The databases after a commit.
use Rattle.std.proofs.Common.{◌≡◌, ◌∙◌, ℕ, zero, suc, ◌<◌, true, false, List, [], ◌∷◌, length, refl, sym, ap, subst, arith, Option, Some, None}
use Rattle.std.specs.List.{AllByRecursion}
use Rattle.std.specs.Option.{option_map}
use Rattle.std.specs.Str.{bytes_eq}
use Rattle.std.proofs.lemmas.Option.{same_Some}
use Rattle.bcv_base.specs.Keyed.{keyed, with_keyed}
use Rattle.bcv_dbmap.proofs.Keys.{ascends_with, key_same, key_turned, keyed_at, keyed_key, keyed_other, keyed_there}
use Rattle.bcv_model.specs.declared.ask.Commit.{Commit}
use Rattle.bcv_model.specs.declared.kept.Local.{Local}
use Rattle.bcv_model.specs.declared.note.Note.TheVariants.{Committed}
use Rattle.bcv_model.specs.Commits.{writes_of}
use Rattle.bcv_model.specs.Notes.{kept_name, with_local_commit}
use Rattle.bcv_pages.specs.Held.{Held, with_commit}
use Rattle.bcv_databases.specs.Catalog.{Catalog, Rooms, known_name, set_at, use_name}
use Rattle.bcv_databases.specs.Changes.{Adds, IsLaterReady, note_over}
use Rattle.bcv_databases.specs.Slots.{changed}
use Rattle.bcv_databases.specs.Sound.{AreDatabases, HasSet, IsSetOf, KeepsViews}
use Rattle.bcv_databases.specs.declared.known.Known.{Known}
use Rattle.bcv_databases.specs.declared.set_use.SetUse.{SetUse}
use Rattle.bcv_databases.proofs.OneChanged.{SameLocals, SameSets, SameUses, ends_one, held_one, known_others, without_one}
use Rattle.bcv_databases.proofs.Places.{without_none}
use Rattle.bcv_databases.proofs.Replaced.{replaced_with, with_more}
use Rattle.bcv_databases.proofs.SetViews.{commit_keeps, keeps_changed, set_more}
use Rattle.bcv_databases.proofs.Slots.{at_other, at_same}

-- a set is at a place among the others
pub is_inside : (sets : List (Option Held)) (place : ℕ) (h : Held) → set_at sets place ≡ Some h → place < length sets
is_inside [] place h at = absurd cc
is_inside (x ∷ xs) zero h at = omega arith
is_inside (x ∷ xs) (suc i) h at = let r : i < length xs = is_inside xs i h at in omega (arith, r)

-- the set of a database with commits, where its use is found
pub set_found : (sets : List (Option Held)) (o : Option Local) (p : Option SetUse) (l : Local) (u : SetUse) → o ≡ Some l → p ≡ Some u → HasSet sets o p
    → (h : Held) × (set_at sets u.set ≡ Some h) × IsSetOf l u.from h
set_found sets o p l u is_local is_use has =
    subst (λ (q : Option SetUse). HasSet sets (Some l) q) is_use (subst (λ (q : Option Local). HasSet sets q p) is_local has)

-- no known database has the name of one with commits
none_others : (db : List ℕ) (ks : List Known) → AllByRecursion (λ k. bytes_eq db (known_name k) ≡ false) ks → keyed known_name db ks ≡ None
none_others db [] others = refl
none_others db (k ∷ ks) others = keyed_there known_name db k ks (key_turned (known_name k) db ∙ others.0) ∙ none_others db ks others.1

pub known_none : (c : Catalog) (db : List ℕ) (l : Local) → AreDatabases c → keyed kept_name db c.kept.locals ≡ Some l → keyed known_name db c.known ≡ None
known_none c db l s found = none_others db c.known (known_others db c.kept.locals l c.known found s.without)

-- no other database uses the set
pub other_set : (c : Catalog) (db a : List ℕ) (u v : SetUse) → AreDatabases c → keyed use_name db c.uses ≡ Some u → bytes_eq db a ≡ false → keyed use_name a c.uses ≡ Some v → v.set ≡ u.set → ⊥
other_set c db a u v s is_u other is_v same =
    let at : db ≡ a = s.apart db a u v is_u is_v (sym same) in
    let yes : bytes_eq db a ≡ true = ap (bytes_eq db) (sym at) ∙ key_same db in
    let both : true ≡ false = sym yes ∙ other in absurd cc

module _ (c : Catalog) (db : List ℕ) (copy commit : Commit) (s : AreDatabases c) (r : IsLaterReady c db copy commit) where
  pub later_name : kept_name r.local ≡ db
  later_name = keyed_key kept_name db c.kept.locals r.local r.is_local

  pub later_is : with_local_commit db copy c.kept.locals ≡ with_keyed kept_name (with_more copy r.local) c.kept.locals
  later_is = replaced_with (λ (x : Local). with_more copy x ∷ []) db c.kept.locals r.local (with_more copy r.local) s.order r.is_local refl later_name

  pub later_sound : (rooms : Rooms)
      → AreDatabases (record {
        kept = record { me = c.kept.me; locals = with_keyed kept_name (with_more copy r.local) c.kept.locals; pending = c.kept.pending };
        known = c.known;
        uses = c.uses;
        sets = changed (with_commit (writes_of commit)) r.set_use.set c.sets;
        rooms = rooms;
      })
  later_sound rooms =
      let ls : List Local = c.kept.locals in
      let m : Local = with_more copy r.local in
      let ms : List Local = with_keyed kept_name m ls in
      let f : Held → Held = with_commit (writes_of commit) in
      let u : SetUse = r.set_use in
      let new : List (Option Held) = changed f u.set c.sets in
      let has = set_found c.sets (keyed kept_name db ls) (keyed use_name db c.uses) r.local u r.is_local r.is_use (s.held db) in
      let inside : u.set < length c.sets = is_inside c.sets u.set has.0 has.1 in
      let here_local : keyed kept_name db ms ≡ Some m = ap (λ (k : List ℕ). keyed kept_name k ms) (sym later_name) ∙ keyed_at kept_name m ls in
      let here_set : set_at new u.set ≡ Some (f has.0) = at_same c.sets u.set (option_map f (set_at c.sets u.set)) inside ∙ ap (option_map f) has.1 in
      let locals : SameLocals db ls ms c.uses c.uses c.sets new = λ a other. keyed_other kept_name m a ls (ap (λ (k : List ℕ). bytes_eq k a) later_name ∙ other) in
      let uses : SameUses db ls ms c.uses c.uses c.sets new = λ a other. refl in
      let sets : SameSets db ls ms c.uses c.uses c.sets new =
      λ a v other is_v. at_other c.sets u.set v.set (option_map f (set_at c.sets u.set)) (λ same. other_set c db a u v s r.is_use other is_v same) in
      let here : HasSet new (keyed kept_name db ms) (keyed use_name db c.uses) =
      subst (λ (o : Option Local). HasSet new o (keyed use_name db c.uses)) (sym here_local)
      (subst (λ (o : Option SetUse). HasSet new (Some m) o) (sym r.is_use) (f has.0, here_set, set_more r.local commit copy u.from has.0 has.2 r.is_copy)) in
      record {
        order = ascends_with kept_name m ls s.order;
        known_order = s.known_order;
        without = without_one db ls ms c.uses c.uses c.sets new locals c.known (known_others db ls r.local c.known r.is_local s.without) s.without;
        held = held_one db ls ms c.uses c.uses c.sets new locals uses sets here s.held;
        uses_order = s.uses_order;
        apart = s.apart;
        pending = ends_one db ls ms c.uses c.uses c.sets new locals (λ x is_x. (m, here_local, ap (λ (y : Local). y.entry.page_size) (same_Some x r.local (sym is_x ∙ r.is_local)))) c.kept.pending s.pending;
      }

  module _ (u : SetUse) (is_u : keyed use_name db c.uses ≡ Some u) (ls : List Local) (new : List (Option Held)) (rooms : Rooms)
      (locals_are : ls ≡ with_local_commit db copy c.kept.locals) (sets_are : new ≡ changed (with_commit (writes_of commit)) u.set c.sets) where
    same_use : u ≡ r.set_use
    same_use = same_Some u r.set_use (sym is_u ∙ r.is_use)

    abbrev pub later : Catalog
    later = record { kept = record { me = c.kept.me; locals = ls; pending = c.kept.pending }; known = c.known; uses = c.uses; sets = new; rooms = rooms }

    pub later_are : AreDatabases later
    later_are =
        let l_is : with_keyed kept_name (with_more copy r.local) c.kept.locals ≡ ls = sym (locals_are ∙ later_is) in
        let s_is : changed (with_commit (writes_of commit)) r.set_use.set c.sets ≡ new =
        ap (λ (v : SetUse). changed (with_commit (writes_of commit)) v.set c.sets) (sym same_use) ∙ sym sets_are in
        subst (λ (xs : List (Option Held)). AreDatabases (record { kept = record { me = c.kept.me; locals = ls; pending = c.kept.pending }; known = c.known; uses = c.uses; sets = xs; rooms = rooms })) s_is
        (subst (λ (xs : List Local). AreDatabases (record { kept = record { me = c.kept.me; locals = xs; pending = c.kept.pending }; known = c.known; uses = c.uses; sets = changed (with_commit (writes_of commit)) r.set_use.set c.sets; rooms = rooms })) l_is
        (later_sound rooms))

    pub later_adds : Adds c later db commit
    later_adds =
        let has = set_found c.sets (keyed kept_name db c.kept.locals) (keyed use_name db c.uses) r.local u r.is_local is_u (s.held db) in
        record {
          note = Committed db commit;
          is_note = ap (λ (o : Option Local). note_over db commit o (keyed known_name db c.known)) r.is_local;
          kept = ap (λ (xs : List Local). record { me = c.kept.me; locals = xs; pending = c.kept.pending }) (locals_are ∙ ap (λ (z : Commit). with_local_commit db z c.kept.locals) r.is_copy);
          known = sym (without_none known_name db c.known (known_none c db r.local s r.is_local));
          views = subst (KeepsViews c.sets) (sym sets_are) (keeps_changed (with_commit (writes_of commit)) (commit_keeps (writes_of commit)) (λ h. refl) c.sets u.set (is_inside c.sets u.set has.0 has.1));
        }
