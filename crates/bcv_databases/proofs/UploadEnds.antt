-- The databases after an upload that was published.
use Rattle.std.proofs.Common.{◌≡◌, ◌∙◌, ℕ, ◌+◌, ◌-◌, ◌<◌, ◌≤◌, false, cond, List, [], ◌∷◌, length, length-drop, drop, get_or, set, is_some, refl, sym, ap, subst, arith, Option, Some, None, inl, inr}
use Rattle.std.specs.Prelude.{option_and_then}
use Rattle.std.specs.Option.{option_map}
use Rattle.std.specs.Str.{bytes_eq}
use Rattle.std.proofs.lemmas.Bool.{cases_lt}
use Rattle.std.proofs.lemmas.List.{drop-drop, drop-map, drop_all, length-map}
use Rattle.std.proofs.lemmas.Option.{same_Some}
use Rattle.bcv_base.specs.Keyed.{keyed, with_keyed, without_keyed}
use Rattle.bcv_base.specs.ManifestRules.{Ascends}
use Rattle.bcv_dbmap.proofs.Keys.{ascends_with, keyed_at, keyed_key, keyed_other, keyed_removed}
use Rattle.bcv_model.specs.declared.ask.Commit.{Commit}
use Rattle.bcv_model.specs.declared.kept.Local.{Local}
use Rattle.bcv_model.specs.declared.kept.Uploading.{Uploading}
use Rattle.bcv_model.specs.Commits.{writes_of}
use Rattle.bcv_model.specs.Notes.{kept_name, rebased, with_uploaded}
use Rattle.bcv_pages.specs.Held.{Held, CanView, last_of}
use Rattle.bcv_databases.specs.Catalog.{Catalog, Rooms, commits_of, set_at, use_name, writes_in}
use Rattle.bcv_databases.specs.Changes.{left_known, published}
use Rattle.bcv_databases.specs.NamedLists.{IsThere}
use Rattle.bcv_databases.specs.Slots.{use_moved, uses_after}
use Rattle.bcv_databases.specs.Sound.{AreDatabases, CanEnd, CanUpload, HasSet, IsSetOf}
use Rattle.bcv_databases.specs.declared.known.Known.{Known}
use Rattle.bcv_databases.specs.declared.set_use.SetUse.{SetUse}
use Rattle.bcv_databases.proofs.Adding.{other_set, set_found}
use Rattle.bcv_databases.proofs.OneChanged.{SameLocals, SameUses, apart_one, held_one, known_others, without_one}
use Rattle.bcv_databases.proofs.Parts.{with_parts}
use Rattle.bcv_databases.proofs.Replaced.{item_read, replaced_gone, replaced_none, replaced_with}
use Rattle.bcv_databases.proofs.Reverted.{left_sound, without_left}
use Rattle.bcv_databases.proofs.SetViews.{view_whole}

-- ---- uses

abbrev pub moved : ℕ → SetUse → SetUse
moved count u = record u { from = u.from + count }

pub moved_there : (db : List ℕ) (us : List SetUse) (i : ℕ) (u : SetUse) (count : ℕ) → IsThere use_name db us i → u ≡ get_or us i u
    → set us i (moved count u) ≡ use_moved count (keyed use_name db us) us
moved_there db us i u count there is =
    let found : keyed use_name db us ≡ Some u = there.found ∙ item_read us i u there.inside is in
    sym (there.over (moved count u) (keyed_key use_name db us u found)) ∙ sym (ap (λ (o : Option SetUse). use_moved count o us) found)

-- ---- the list of databases with commits

module _ (number : ℕ) (up : Uploading) where
  abbrev pub after : Local → Local
  after l = record { entry = up.entry; number = number; block = up.block; commits = drop up.count l.commits }

  rebased_some : (cs : List Commit) → 0 < length cs → rebased number up cs ≡ record { entry = up.entry; number = number; block = up.block; commits = cs } ∷ []
  rebased_some [] some = absurd (omega (arith, some))
  rebased_some (c ∷ cs) some = refl

  -- where its database is not there
  pub uploaded_none : (ls : List Local) → keyed kept_name up.entry.name ls ≡ None → ls ≡ with_uploaded number up ls
  uploaded_none ls none = sym (replaced_none (λ (l : Local). rebased number up (drop up.count l.commits)) up.entry.name ls none)

  pub left_none : (ls : List Local) → keyed kept_name up.entry.name ls ≡ None → Some (published number up) ≡ left_known number ls up
  left_none ls none = sym (ap (λ (o : Option Local). cond (is_some o) None (Some (published number up))) none)

  pub left_some : (ls : List Local) (l : Local) → keyed kept_name up.entry.name ls ≡ Some l → None ≡ left_known number ls up
  left_some ls l found = sym (ap (λ (o : Option Local). cond (is_some o) None (Some (published number up))) found)

  module _ (ls : List Local) (l : Local) (asc : Ascends kept_name ls) (found : keyed kept_name up.entry.name ls ≡ Some l) where
    -- it took all commits
    pub uploaded_all : length l.commits ≤ up.count → with_uploaded number up ls ≡ without_keyed kept_name up.entry.name ls
    uploaded_all all =
        replaced_gone (λ (x : Local). rebased number up (drop up.count x.commits)) up.entry.name ls l asc found (ap (rebased number up) (drop_all up.count l.commits all))

    -- it left some
    pub uploaded_some : up.count < length l.commits → with_uploaded number up ls ≡ with_keyed kept_name (after l) ls
    uploaded_some some =
        let few : 0 < length (drop up.count l.commits) = omega (arith, some, length-drop up.count l.commits) in
        replaced_with (λ (x : Local). rebased number up (drop up.count x.commits)) up.entry.name ls l (after l) asc found (rebased_some (drop up.count l.commits) few) refl

    -- where its database is there afterwards, it left some
    pub some_left : (m : Local) → keyed kept_name up.entry.name (with_uploaded number up ls) ≡ Some m → up.count < length l.commits
    some_left m is_m = elim (cases_lt up.count (length l.commits)) [
      | inl lt ↦ lt
      | inr le ↦ let both : Some m ≡ None = sym is_m ∙ ap (keyed kept_name up.entry.name) (uploaded_all le) ∙ keyed_removed kept_name up.entry.name ls in absurd cc
    ]

-- ---- the sets

pub set_length : (l : Local) (from : ℕ) (h : Held) → IsSetOf l from h → from + length l.commits ≡ last_of h
set_length l from h is =
    let n : ℕ = from - h.forgotten in
    let long : length (drop n h.kept) ≡ length (writes_in l) = ap length (sym (view_whole h from is.view) ∙ is.commits) in
    let many : length (writes_in l) ≡ length l.commits = length-map l.commits writes_of in
    omega (arith, long, many, length-drop n h.kept, is.view.kept, is.view.order)

set_after : (number : ℕ) (up : Uploading) (l : Local) (from : ℕ) (h : Held) → IsSetOf l from h → up.entry.page_size ≡ l.entry.page_size → up.count < length l.commits → IsSetOf (after number up l) (from + up.count) h
set_after number up l from h is size some =
    let n : ℕ = from - h.forgotten in
    let long : from + length l.commits ≡ last_of h = set_length l from h is in
    let can : CanView h (from + up.count) (last_of h) = record { kept = omega (arith, is.view.kept); order = omega (arith, long, some); there = omega arith } in
    let start : from + up.count - h.forgotten ≡ n + up.count = omega (arith, is.view.kept) in
    record {
      size = is.size ∙ sym size;
      view = can;
      commits =
          view_whole h (from + up.count) can
          ∙ ap (λ (k : ℕ). drop k h.kept) start
          ∙ sym (drop-drop up.count n h.kept)
          ∙ ap (drop up.count) (sym (view_whole h from is.view) ∙ is.commits)
          ∙ drop-map writes_of up.count l.commits;
    }

-- ---- the whole

module _ (c : Catalog) (number : ℕ) (up : Uploading) (s : AreDatabases c) (free : c.kept.pending ≡ None) (can : CanUpload c.kept.locals up) where
  abbrev db : List ℕ
  db = up.entry.name

  -- its database uses a set
  used_by : (p : Option SetUse) → HasSet c.sets (Some can.local) p → (u : SetUse) × (p ≡ Some u)
  used_by None has = absurd has
  used_by (Some u) has = (u, refl)

  pub has_use : (u : SetUse) × (keyed use_name up.entry.name c.uses ≡ Some u)
  has_use = used_by (keyed use_name db c.uses) (subst (λ (o : Option Local). HasSet c.sets o (keyed use_name db c.uses)) can.is_local (s.held db))

  pub has_set : (h : Held) × (set_at c.sets has_use.0.set ≡ Some h) × IsSetOf can.local has_use.0.from h
  has_set = set_found c.sets (keyed kept_name db c.kept.locals) (keyed use_name db c.uses) can.local has_use.0 can.is_local has_use.1 (s.held db)

  -- where its commits are
  pub is_at : option_and_then (commits_of c.sets) (keyed use_name up.entry.name c.uses) ≡ Some (record { set = has_use.0.set; from = has_use.0.from; to = last_of has_set.0 })
  is_at =
      ap (λ (o : Option SetUse). option_and_then (commits_of c.sets) o) has_use.1
      ∙ ap (λ (o : Option Held). option_map (λ (h : Held). record { set = has_use.0.set; from = has_use.0.from; to = last_of h }) o) has_set.1

  module _ (ls : List Local) (locals_are : ls ≡ with_uploaded number up c.kept.locals) where
    -- all commits are gone
    none_is : keyed kept_name up.entry.name ls ≡ None → ls ≡ without_keyed kept_name up.entry.name c.kept.locals
    none_is none = elim (cases_lt up.count (length can.local.commits)) [
      | inl lt ↦
          let both : Some (after number up can.local) ≡ None =
          sym (keyed_at kept_name (after number up can.local) c.kept.locals) ∙ ap (keyed kept_name db) (sym (locals_are ∙ uploaded_some number up c.kept.locals can.local s.order can.is_local lt)) ∙ none in absurd cc
      | inr le ↦ locals_are ∙ uploaded_all number up c.kept.locals can.local s.order can.is_local le
    ]

    all_gone : (us : List SetUse) (rooms : Rooms) → keyed kept_name up.entry.name ls ≡ None → us ≡ without_keyed use_name up.entry.name c.uses → AreDatabases (with_parts c ls c.known us c.sets rooms)
    all_gone us rooms none uses_are =
        let ms : List Local = without_keyed kept_name db c.kept.locals in
        let ends : CanEnd ms c.kept.pending = subst (CanEnd ms) (sym free) tt in
        subst (λ (xs : List Local). AreDatabases (with_parts c xs c.known us c.sets rooms)) (sym (none_is none))
        (subst (λ (xs : List SetUse). AreDatabases (with_parts c ms c.known xs c.sets rooms)) (sym uses_are)
        (left_sound c db can.local s can.is_local c.known c.kept.pending rooms s.known_order (without_left c db can.local s can.is_local) ends))

    -- some are left
    some_stay : (us : List SetUse) (rooms : Rooms) → up.count < length can.local.commits → us ≡ with_keyed use_name (moved up.count has_use.0) c.uses → AreDatabases (with_parts c ls c.known us c.sets rooms)
    some_stay us rooms some uses_are =
        let m : Local = after number up can.local in
        let u : SetUse = has_use.0 in
        let v : SetUse = moved up.count u in
        let ms : List Local = with_keyed kept_name m c.kept.locals in
        let vs : List SetUse = with_keyed use_name v c.uses in
        let name : use_name u ≡ db = keyed_key use_name db c.uses u has_use.1 in
        let here_local : keyed kept_name db ms ≡ Some m = keyed_at kept_name m c.kept.locals in
        let here_use : keyed use_name db vs ≡ Some v = ap (λ (k : List ℕ). keyed use_name k vs) (sym name) ∙ keyed_at use_name v c.uses in
        let locals : SameLocals db c.kept.locals ms c.uses vs c.sets c.sets = λ a other. keyed_other kept_name m a c.kept.locals other in
        let uses : SameUses db c.kept.locals ms c.uses vs c.sets c.sets = λ a other. keyed_other use_name v a c.uses (ap (λ (k : List ℕ). bytes_eq k a) name ∙ other) in
        let here : HasSet c.sets (keyed kept_name db ms) (keyed use_name db vs) =
        subst (λ (o : Option Local). HasSet c.sets o (keyed use_name db vs)) (sym here_local)
        (subst (λ (o : Option SetUse). HasSet c.sets (Some m) o) (sym here_use) (has_set.0, has_set.1, set_after number up can.local u.from has_set.0 has_set.2 can.size some)) in
        subst (λ (xs : List Local). AreDatabases (with_parts c xs c.known us c.sets rooms)) (sym (locals_are ∙ uploaded_some number up c.kept.locals can.local s.order can.is_local some))
        (subst (λ (xs : List SetUse). AreDatabases (with_parts c ms c.known xs c.sets rooms)) (sym uses_are)
        (record {
          order = ascends_with kept_name m c.kept.locals s.order;
          known_order = s.known_order;
          without = without_one db c.kept.locals ms c.uses vs c.sets c.sets locals c.known (known_others db c.kept.locals can.local c.known can.is_local s.without) s.without;
          held = held_one db c.kept.locals ms c.uses vs c.sets c.sets locals uses (λ a w other is_w. refl) here s.held;
          uses_order = ascends_with use_name v c.uses s.uses_order;
          apart =
              apart_one db c.kept.locals ms c.uses vs c.sets c.sets uses
              (λ x w a is_x other is_w same.
              let set_is : x.set ≡ u.set = ap (λ (y : SetUse). y.set) (same_Some x v (sym is_x ∙ here_use)) in
              other_set c db a u w s has_use.1 other is_w (sym same ∙ set_is)) s.apart;
          pending = subst (CanEnd ms) (sym free) tt;
        }))

    -- by what is left of it
    ends_by : (us : List SetUse) (rooms : Rooms) (o : Option Local) → keyed kept_name up.entry.name ls ≡ o
        → us ≡ uses_after (is_some (cond (is_some o) None (Some (published number up)))) up.entry.name up.count c.uses → AreDatabases (with_parts c ls c.known us c.sets rooms)
    ends_by us rooms None is uses_are = all_gone us rooms is uses_are
    ends_by us rooms (Some m) is uses_are =
        let some : up.count < length can.local.commits = some_left number up c.kept.locals can.local s.order can.is_local m (ap (keyed kept_name db) (sym locals_are) ∙ is) in
        some_stay us rooms some (uses_are ∙ ap (λ (p : Option SetUse). use_moved up.count p c.uses) has_use.1)

    pub upload_ends : (us : List SetUse) (rooms : Rooms) (left : Option Known) → left ≡ left_known number ls up → us ≡ uses_after (is_some left) up.entry.name up.count c.uses
        → AreDatabases (with_parts c ls c.known us c.sets rooms)
    upload_ends us rooms left left_is uses_are =
        ends_by us rooms (keyed kept_name up.entry.name ls) refl (uses_are ∙ ap (λ (o : Option Known). uses_after (is_some o) up.entry.name up.count c.uses) left_is)

    -- the number after which the commits that are left begin
    small_by : (o : Option Local) → keyed kept_name up.entry.name ls ≡ o → is_some (cond (is_some o) None (Some (published number up))) ≡ false → has_use.0.from + up.count < last_of has_set.0
    small_by None is ends = absurd cc
    small_by (Some m) is ends =
        let some : up.count < length can.local.commits = some_left number up c.kept.locals can.local s.order can.is_local m (ap (keyed kept_name db) (sym locals_are) ∙ is) in
        omega (arith, some, set_length can.local has_use.0.from has_set.0 has_set.2)

    pub small_from : (left : Option Known) → left ≡ left_known number ls up → is_some left ≡ false → has_use.0.from + up.count < last_of has_set.0
    small_from left left_is ends = small_by (keyed kept_name up.entry.name ls) refl (ap is_some (sym left_is) ∙ ends)
