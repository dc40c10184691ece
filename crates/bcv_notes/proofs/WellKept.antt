-- What a log comes to is well formed.
use Rattle.std.proofs.Common.{◌≡◌, ◌∙◌, ℕ, zero, suc, ◌<◌, ◌≤◌, Bool, true, false, cond, List, [], ◌∷◌, ◌++◌, length, drop, Option, Some, None, refl, sym, ap, subst, arith, length-append}
use Rattle.std.specs.Prelude.{IsSome, IfSome}
use Rattle.std.specs.List.{AllByRecursion}
use Rattle.std.specs.Str.{bytes_eq}
use Rattle.std.proofs.lemmas.Option.{same_Some}
use Rattle.bcv_base.specs.declared.id.Id16.{Id16}
use Rattle.bcv_base.specs.Ids.{IsId}
use Rattle.bcv_base.specs.Keyed.{comes_before, keyed, with_keyed, without_keyed}
use Rattle.bcv_base.specs.ManifestRules.{Ascends, IsAbove, MeetsEntryRules, is_block_size}
use Rattle.bcv_dbmap.proofs.Keys.{all_found, all_with, all_without, ascends_with, ascends_without, by_test, keyed_here, keyed_other, keyed_there, same_key}
use Rattle.bcv_model.specs.declared.ask.Commit.{Commit}
use Rattle.bcv_model.specs.declared.kept.Kept.{Kept}
use Rattle.bcv_model.specs.declared.kept.Local.{Local}
use Rattle.bcv_model.specs.declared.kept.PendingPub.{PendingPub}
use Rattle.bcv_model.specs.declared.kept.Uploading.{Uploading}
use Rattle.bcv_model.specs.declared.note.Note.{Note}
use Rattle.bcv_model.specs.declared.note.Note.TheVariants.{Me, First, Committed, Intent, Done, Void, Revert}
use Rattle.bcv_model.specs.NoteRules.{FitsDatabase, Folds, IsLocal, IsPendingAs, IsVersionNumber, MayStand, MayUpload}
use Rattle.bcv_model.specs.Notes.{after_note, kept_name, kept_published, nothing_kept, rebased, replaced_local, with_local_commit, with_published}

-- ---- what is well formed

pub record IsWellLocal (l : Local) : Type 0 where
  pub is_block : is_block_size l.block ≡ true
  pub is_number : IsVersionNumber l.number
  pub is_entry : MeetsEntryRules l.block l.entry
  pub some : 0 < length l.commits
  pub fits : AllByRecursion (FitsDatabase l.block l.entry.page_size) l.commits

pub record IsWell (k : Kept) : Type 0 where
  pub named : k.me ≡ None → (k.locals ≡ []) × (k.pending ≡ None)
  pub is_me : IfSome k.me IsId
  pub block : ℕ
  pub alike : AllByRecursion (λ (l : Local). l.block ≡ block) k.locals
  pub ascends : Ascends kept_name k.locals
  pub each : AllByRecursion IsWellLocal k.locals
  pub waits : IfSome k.pending (λ p. IsId p.id × IfSome p.upload (MayUpload k))

-- ---- a database changed at its place

not_none : (o : Option Id16) → IsSome o → o ≡ None → ⊥
not_none None some none = cc (some)
not_none (Some id) some none = cc (none)

all_append : {A : Type 0} (P : A → Type 0) (xs ys : List A) → AllByRecursion P xs → AllByRecursion P ys → AllByRecursion P (xs ++ ys)
all_append P [] ys a b = b
all_append P (x ∷ xs) ys a b = (a.0, all_append P xs ys a.1 b)

-- a change takes a database away, or leaves one of its name
abbrev SameName : Local → List Local → Type 0
SameName l [] = Unit {0}
SameName l (m ∷ []) = kept_name m ≡ kept_name l
SameName l (m ∷ (n ∷ ls)) = ⊥

module _ (change : Local → List Local) (db : List ℕ) where
  pub here : (x : Local) (xs : List Local) → bytes_eq (kept_name x) db ≡ true → replaced_local change db (x ∷ xs) ≡ change x ++ xs
  here x xs e = ap (λ (b : Bool). cond b (change x ++ xs) (x ∷ replaced_local change db xs)) e

  pub there : (x : Local) (xs : List Local) → bytes_eq (kept_name x) db ≡ false → replaced_local change db (x ∷ xs) ≡ x ∷ replaced_local change db xs
  there x xs e = ap (λ (b : Bool). cond b (change x ++ xs) (x ∷ replaced_local change db xs)) e

  all_replaced : (P : Local → Type 0) (ls : List Local) (l : Local) → keyed kept_name db ls ≡ Some l → AllByRecursion P ls → AllByRecursion P (change l) → AllByRecursion P (replaced_local change db ls)
  all_replaced P [] l found all new = absurd cc
  all_replaced P (x ∷ xs) l found all new =
      by_test (bytes_eq (kept_name x) db)
      (λ e.
      let is : x ≡ l = same_Some x l (sym (keyed_here kept_name db x xs e) ∙ found) in
      subst (AllByRecursion P) (sym (here x xs e)) (all_append P (change x) xs (subst (λ (y : Local). AllByRecursion P (change y)) (sym is) new) all.1))
      (λ e. subst (AllByRecursion P) (sym (there x xs e)) (all.0, all_replaced P xs l (sym (keyed_there kept_name db x xs e) ∙ found) all.1 new))

  above_change : (k : List ℕ) (x : Local) (made xs : List Local) → SameName x made → comes_before k (kept_name x) ≡ true → IsAbove kept_name k xs → IsAbove kept_name k (made ++ xs)
  above_change k x [] xs same before above = above
  above_change k x (m ∷ []) xs same before above = (ap (comes_before k) same ∙ before, above)
  above_change k x (m ∷ (n ∷ made)) xs same before above = absurd same

  ascends_change : (x : Local) (made xs : List Local) → SameName x made → IsAbove kept_name (kept_name x) xs → Ascends kept_name xs → Ascends kept_name (made ++ xs)
  ascends_change x [] xs same above asc = asc
  ascends_change x (m ∷ []) xs same above asc = (subst (λ (k : List ℕ). IsAbove kept_name k xs) (sym same) above, asc)
  ascends_change x (m ∷ (n ∷ made)) xs same above asc = absurd same

  module _ (same : (l : Local) → kept_name l ≡ db → SameName l (change l)) where
    above_replaced : (k : List ℕ) (ls : List Local) → IsAbove kept_name k ls → IsAbove kept_name k (replaced_local change db ls)
    above_replaced k [] above = tt
    above_replaced k (x ∷ xs) above =
        by_test (bytes_eq (kept_name x) db)
        (λ e. subst (IsAbove kept_name k) (sym (here x xs e)) (above_change k x (change x) xs (same x (same_key (kept_name x) db e)) above.0 above.1))
        (λ e. subst (IsAbove kept_name k) (sym (there x xs e)) (above.0, above_replaced k xs above.1))

    ascends_replaced : (ls : List Local) → Ascends kept_name ls → Ascends kept_name (replaced_local change db ls)
    ascends_replaced [] asc = tt
    ascends_replaced (x ∷ xs) asc =
        by_test (bytes_eq (kept_name x) db)
        (λ e. subst (Ascends kept_name) (sym (here x xs e)) (ascends_change x (change x) xs (same x (same_key (kept_name x) db e)) asc.0 asc.1))
        (λ e. subst (Ascends kept_name) (sym (there x xs e)) (above_replaced (kept_name x) xs asc.0, ascends_replaced xs asc.1))

-- a database with one more commit
abbrev pub grown : Commit → Local → Local
grown c l = record l { commits = l.commits ++ c ∷ [] }

module _ (db : List ℕ) (c : Commit) where
  abbrev pub grows : Local → List Local
  grows l = grown c l ∷ []

  grown_here : (ls : List Local) (l : Local) → keyed kept_name db ls ≡ Some l → keyed kept_name db (with_local_commit db c ls) ≡ Some (grown c l)
  grown_here [] l found = absurd cc
  grown_here (x ∷ xs) l found =
      by_test (bytes_eq (kept_name x) db)
      (λ e.
      let is : x ≡ l = same_Some x l (sym (keyed_here kept_name db x xs e) ∙ found) in
      ap (keyed kept_name db) (here grows db x xs e) ∙ keyed_here kept_name db (grown c x) xs e ∙ ap (λ (y : Local). Some (grown c y)) is)
      (λ e. ap (keyed kept_name db) (there grows db x xs e) ∙ keyed_there kept_name db x (with_local_commit db c xs) e ∙ grown_here xs l (sym (keyed_there kept_name db x xs e) ∙ found))

  grown_other : (k : List ℕ) (ls : List Local) → bytes_eq db k ≡ false → keyed kept_name k (with_local_commit db c ls) ≡ keyed kept_name k ls
  grown_other k [] other = refl
  grown_other k (x ∷ xs) other =
      by_test (bytes_eq (kept_name x) db)
      (λ e.
      let past : bytes_eq (kept_name x) k ≡ false = ap (λ (n : List ℕ). bytes_eq n k) (same_key (kept_name x) db e) ∙ other in
      ap (keyed kept_name k) (here grows db x xs e) ∙ keyed_there kept_name k (grown c x) xs past ∙ sym (keyed_there kept_name k x xs past))
      (λ e. ap (keyed kept_name k) (there grows db x xs e) ∙ ap (λ (o : Option Local). cond (bytes_eq (kept_name x) k) (Some x) o) (grown_other k xs other))

-- ---- an upload that is pending

-- the database of an upload has as many commits as before, or more
upload_kept : (k j : Kept) (u : Uploading) (m : MayUpload k u) (l : Local) → IsLocal j u.entry.name l → length m.local.commits ≤ length l.commits → l.block ≡ m.local.block → l.entry.page_size ≡ m.local.entry.page_size → MayUpload j u
upload_kept k j u m l found more block page_size = record {
  is_block = m.is_block;
  is_entry = m.is_entry;
  local = l;
  is_local = found;
  least = m.least;
  most = omega (arith, m.most, more);
  small = m.small;
  same_block = m.same_block ∙ sym block;
  same_page_size = m.same_page_size ∙ sym page_size;
}

pub upload_as : (k j : Kept) (u : Uploading) (m : MayUpload k u) → keyed kept_name u.entry.name j.locals ≡ keyed kept_name u.entry.name k.locals → MayUpload j u
upload_as k j u m same = upload_kept k j u m m.local (same ∙ m.is_local) (omega arith) refl refl

-- what waits still waits, where each upload may still stand
waits_as : (k j : Kept) (o : Option PendingPub) → ((u : Uploading) → MayUpload k u → MayUpload j u) → IfSome o (λ p. IsId p.id × IfSome p.upload (MayUpload k)) → IfSome o (λ p. IsId p.id × IfSome p.upload (MayUpload j))
waits_as k j None still waits = tt
waits_as k j (Some p) still waits = (waits.0, upload p.upload waits.1)
  where
    upload : (o : Option Uploading) → IfSome o (MayUpload k) → IfSome o (MayUpload j)
    upload None may = tt
    upload (Some u) may = still u may

-- ---- one note more

module _ (k : Kept) (w : IsWell k) where
  -- where a note may stand only after a Me
  still_named : {G : Type 0} → IsSome k.me → k.me ≡ None → G
  still_named some none = absurd (not_none k.me some none)

  well_first : (x : Local) (c : Commit) → x.commits ≡ c ∷ [] → MayStand k (First x.entry x.number x.block c) → IsWell (record k { locals = with_keyed kept_name x k.locals })
  well_first x c one may = record {
    named = still_named may.named;
    is_me = w.is_me;
    block = x.block;
    alike = all_with kept_name (λ (l : Local). l.block ≡ x.block) x k.locals refl may.alike;
    ascends = ascends_with kept_name x k.locals w.ascends;
    each = all_with kept_name IsWellLocal x k.locals (record {
      is_block = may.is_block;
      is_number = may.is_number;
      is_entry = may.is_entry;
      some = omega (arith, ap length one);
      fits = subst (AllByRecursion (FitsDatabase x.block x.entry.page_size)) (sym one) (may.fits, tt);
    }) w.each;
    waits = waits_as k (record k { locals = with_keyed kept_name x k.locals }) k.pending (λ u m.
        upload_as k (record k { locals = with_keyed kept_name x k.locals }) u m (keyed_other kept_name x u.entry.name k.locals (
        by_test (bytes_eq (kept_name x) u.entry.name)
        (λ e. let both : Some m.local ≡ None = sym m.is_local ∙ ap (λ (n : List ℕ). keyed kept_name n k.locals) (sym (same_key (kept_name x) u.entry.name e)) ∙ may.is_new in absurd (cc both))
        (λ e. e)
        ))
        ) w.waits;
  }

  well_committed : (db : List ℕ) (c : Commit) → MayStand k (Committed db c) → IsWell (record k { locals = with_local_commit db c k.locals })
  well_committed db c may =
      let new : Kept = record k { locals = with_local_commit db c k.locals } in
      let old : IsWellLocal may.local = all_found kept_name IsWellLocal db k.locals may.local w.each may.is_local in
      record {
        named = still_named may.named;
        is_me = w.is_me;
        block = w.block;
        alike = all_replaced (grows db c) db (λ (l : Local). l.block ≡ w.block) k.locals may.local may.is_local w.alike (all_found kept_name (λ (l : Local). l.block ≡ w.block) db k.locals may.local w.alike may.is_local, tt);
        ascends = ascends_replaced (grows db c) db (λ l e. refl) k.locals w.ascends;
        each = all_replaced (grows db c) db IsWellLocal k.locals may.local may.is_local w.each (
          record {
            is_block = old.is_block;
            is_number = old.is_number;
            is_entry = old.is_entry;
            some = omega (arith, length-append may.local.commits (c ∷ []));
            fits = all_append (FitsDatabase may.local.block may.local.entry.page_size) may.local.commits (c ∷ []) old.fits (may.fits, tt);
          },
          tt,
        );
        waits = waits_as k new k.pending (λ u m.
            by_test (bytes_eq db u.entry.name)
            (λ e.
            let name : db ≡ u.entry.name = same_key db u.entry.name e in
            let here : keyed kept_name db k.locals ≡ Some m.local = ap (λ (n : List ℕ). keyed kept_name n k.locals) name ∙ m.is_local in
            let found : IsLocal new u.entry.name (grown c m.local) = ap (λ (n : List ℕ). keyed kept_name n new.locals) (sym name) ∙ grown_here db c k.locals m.local here in
            upload_kept k new u m (grown c m.local) found (omega (arith, length-append m.local.commits (c ∷ []))) refl refl)
            (λ e. upload_as k new u m (grown_other db c u.entry.name k.locals e))
            ) w.waits;
      }

  well_intent : (p : PendingPub) → MayStand k (Intent p) → IsWell (record k { pending = Some p })
  well_intent p may = record {
    named = still_named may.named;
    is_me = w.is_me;
    block = w.block;
    alike = w.alike;
    ascends = w.ascends;
    each = w.each;
    waits = (may.is_id, upload p.upload may.upload);
  }
    where
      upload : (o : Option Uploading) → IfSome o (MayUpload k) → IfSome o (MayUpload (record k { pending = Some p }))
      upload None m = tt
      upload (Some u) m = upload_as k (record k { pending = Some p }) u m refl

  well_settled : IsSome k.me → IsWell (record k { pending = None })
  well_settled some = record { named = still_named some; is_me = w.is_me; block = w.block; alike = w.alike; ascends = w.ascends; each = w.each; waits = tt }

  well_reverted : (db : List ℕ) → MayStand k (Revert db) → IsWell (record k { locals = without_keyed kept_name db k.locals })
  well_reverted db may = record {
    named = still_named may.named;
    is_me = w.is_me;
    block = w.block;
    alike = all_without kept_name (λ (l : Local). l.block ≡ w.block) db k.locals w.alike;
    ascends = ascends_without kept_name db k.locals w.ascends;
    each = all_without kept_name IsWellLocal db k.locals w.each;
    waits = subst (λ (o : Option PendingPub). IfSome o (λ p. IsId p.id × IfSome p.upload (MayUpload (record k { locals = without_keyed kept_name db k.locals })))) (sym may.free) tt;
  }

  -- an upload was made: its commits leave
  well_uploaded : (u : Uploading) (number : ℕ) → IsSome k.me → MayUpload k u → IsVersionNumber number
      → IsWell (record { me = k.me; locals = replaced_local (λ l. rebased number u (drop u.count l.commits)) u.entry.name k.locals; pending = None })
  well_uploaded u number some m is_number =
      let change : Local → List Local = λ l. rebased number u (drop u.count l.commits) in
      let old : IsWellLocal m.local = all_found kept_name IsWellLocal u.entry.name k.locals m.local w.each m.is_local in
      record {
        named = still_named some;
        is_me = w.is_me;
        block = w.block;
        alike = all_replaced change u.entry.name (λ (l : Local). l.block ≡ w.block) k.locals m.local m.is_local w.alike (rebased_alike (drop u.count m.local.commits));
        ascends = rebased_ascends;
        each = all_replaced change u.entry.name IsWellLocal k.locals m.local m.is_local w.each (rebased_well (drop u.count m.local.commits) (all_drop u.count m.local.commits (subst (λ (b : ℕ). AllByRecursion (FitsDatabase b u.entry.page_size) m.local.commits) (sym m.same_block) (subst (λ (p : ℕ). AllByRecursion (FitsDatabase m.local.block p) m.local.commits) (sym m.same_page_size) old.fits))));
        waits = tt;
      }
    where
      at : m.local.block ≡ w.block
      at = all_found kept_name (λ (l : Local). l.block ≡ w.block) u.entry.name k.locals m.local w.alike m.is_local

      rebased_alike : (cs : List Commit) → AllByRecursion (λ (l : Local). l.block ≡ w.block) (rebased number u cs)
      rebased_alike [] = tt
      rebased_alike (c ∷ cs) = (m.same_block ∙ at, tt)

      all_drop : (n : ℕ) (cs : List Commit) → AllByRecursion (FitsDatabase u.block u.entry.page_size) cs → AllByRecursion (FitsDatabase u.block u.entry.page_size) (drop n cs)
      all_drop zero cs all = all
      all_drop (suc n) [] all = tt
      all_drop (suc n) (c ∷ cs) all = all_drop n cs all.1

      rebased_well : (cs : List Commit) → AllByRecursion (FitsDatabase u.block u.entry.page_size) cs → AllByRecursion IsWellLocal (rebased number u cs)
      rebased_well [] all = tt
      rebased_well (c ∷ cs) all = (record { is_block = m.is_block; is_number = is_number; is_entry = m.is_entry; some = omega arith; fits = all }, tt)

      renamed : (l : Local) → kept_name l ≡ u.entry.name → (cs : List Commit) → SameName l (rebased number u cs)
      renamed l e [] = tt
      renamed l e (c ∷ cs) = sym e

      rebased_ascends : Ascends kept_name (replaced_local (λ l. rebased number u (drop u.count l.commits)) u.entry.name k.locals)
      rebased_ascends = ascends_replaced (λ l. rebased number u (drop u.count l.commits)) u.entry.name (λ l e. renamed l e (drop u.count l.commits)) k.locals w.ascends

pub well_after : (k : Kept) (x : Note) → IsWell k → MayStand k x → IsWell (after_note k x)
well_after k (Me id) w may = record {
  named = λ none. absurd (cc none);
  is_me = may.1;
  block = w.block;
  alike = w.alike;
  ascends = w.ascends;
  each = w.each;
  waits = subst (λ (o : Option PendingPub). IfSome o (λ p. IsId p.id × IfSome p.upload (MayUpload (record k { me = Some id })))) (sym (w.named may.0).1) tt;
}
well_after k (First entry number block c) w may = well_first k w (record { entry = entry; number = number; block = block; commits = c ∷ [] }) c refl may
well_after k (Committed db c) w may = well_committed k w db c may
well_after k (Intent p) w may = well_intent k w p may
well_after k (Done id number) w may = done k.pending refl
  where
    done : (o : Option PendingPub) → k.pending ≡ o → IsWell (kept_published number k o)
    done None is = absurd (subst (λ (q : Option PendingPub). IsPendingAs q id) is may.0.waits)
    done (Some p) is = upload p.upload (let waits = subst (λ (q : Option PendingPub). IfSome q (λ r. IsId r.id × IfSome r.upload (MayUpload k))) is w.waits in waits.1)
      where
        upload : (u : Option Uploading) → IfSome u (MayUpload k) → IsWell (record { me = k.me; locals = with_published number u k.locals; pending = None })
        upload None m = well_settled k w may.0.named
        upload (Some u) m = well_uploaded k w u number may.0.named m may.1
well_after k (Void id) w may = well_settled k w may.named
well_after k (Revert db) w may = well_reverted k w db may

well_nothing : IsWell nothing_kept
well_nothing = record { named = λ none. (refl, refl); is_me = tt; block = 0; alike = tt; ascends = tt; each = tt; waits = tt }

well_folded : (k end : Kept) (xs : List Note) → IsWell k → Folds k xs end → IsWell end
well_folded k end [] w folds = subst IsWell (sym folds) w
well_folded k end (x ∷ xs) w folds = well_folded (after_note k x) end xs (well_after k x w folds.0) folds.1

pub well_kept : (end : Kept) (xs : List Note) → Folds nothing_kept xs end → IsWell end
well_kept end xs folds = well_folded nothing_kept end xs well_nothing folds
