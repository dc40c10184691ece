-- The views of a set and of all sets, after a change.
use Rattle.std.proofs.Common.{◌≡◌, ◌∙◌, ℕ, ◌+◌, ◌-◌, ◌<◌, ◌≤◌, List, [], ◌∷◌, ◌++◌, length, length-append, length-drop, take, drop, refl, sym, ap, arith, Option, inl, inr}
use Rattle.std.specs.Option.{option_map}
use Rattle.std.proofs.lemmas.Bool.{cases_eq}
use Rattle.std.proofs.lemmas.List.{drop-append-le, map-append, take-append-le, take_all}
use Rattle.bcv_base.specs.Image.{Writes}
use Rattle.bcv_model.specs.declared.ask.Commit.{Commit}
use Rattle.bcv_model.specs.declared.kept.Local.{Local}
use Rattle.bcv_model.specs.Commits.{writes_of}
use Rattle.bcv_pages.specs.Held.{Held, CanView, KeepsView, last_of, view_of, with_commit}
use Rattle.bcv_databases.specs.Catalog.{set_at, writes_in}
use Rattle.bcv_databases.specs.Slots.{changed}
use Rattle.bcv_databases.specs.Sound.{IsSetOf, KeepsViews}
use Rattle.bcv_databases.proofs.Slots.{at_other, at_same}
use Rattle.bcv_databases.proofs.Replaced.{with_more}

-- ---- one set

pub commit_keeps : (w : Writes) (h : Held) (from to : ℕ) → KeepsView h (with_commit w h) from to
commit_keeps w h from to can =
    let n : ℕ = from - h.forgotten in
    let few : n ≤ length h.kept = omega (arith, can.kept, can.order, can.there) in
    let many : to - from ≤ length (drop n h.kept) = omega (arith, length-drop n h.kept, can.kept, can.order, can.there) in (
      record { kept = can.kept; order = can.order; there = omega (arith, can.there, length-append h.kept (w ∷ [])) },
      ap (take (to - from)) (drop-append-le n h.kept (w ∷ []) few) ∙ take-append-le (to - from) (drop n h.kept) (w ∷ []) many,
    )

-- the view up to the last commit
pub view_whole : (h : Held) (from : ℕ) → CanView h from (last_of h) → view_of h from (last_of h) ≡ drop (from - h.forgotten) h.kept
view_whole h from can =
    let n : ℕ = from - h.forgotten in
    take_all (last_of h - from) (drop n h.kept) (omega (arith, length-drop n h.kept, can.kept, can.order))

-- one more commit of a database
pub set_more : (l : Local) (commit copy : Commit) (from : ℕ) (h : Held) → IsSetOf l from h → copy ≡ commit → IsSetOf (with_more copy l) from (with_commit (writes_of commit) h)
set_more l commit copy from h is same =
    let w : Writes = writes_of commit in
    let g : Held = with_commit w h in
    let n : ℕ = from - h.forgotten in
    let long : length g.kept ≡ length h.kept + 1 = length-append h.kept (w ∷ []) in
    let few : n ≤ length h.kept = omega (arith, is.view.kept, is.view.order) in
    let can : CanView g from (last_of g) = record { kept = is.view.kept; order = omega (arith, is.view.order, long); there = omega arith } in
    record {
      size = is.size;
      view = can;
      commits =
          view_whole g from can
          ∙ drop-append-le n h.kept (w ∷ []) few
          ∙ ap (λ (ws : List Writes). ws ++ w ∷ []) (sym (view_whole h from is.view) ∙ is.commits)
          ∙ ap (λ (c : Commit). writes_in l ++ writes_of c ∷ []) (sym same)
          ∙ sym (map-append writes_of l.commits (copy ∷ []));
    }

-- ---- all sets

-- a change of one set that keeps its views
pub keeps_changed : (f : Held → Held) → ((h : Held) (from to : ℕ) → KeepsView h (f h) from to) → ((h : Held) → (f h).page_size ≡ h.page_size) → (sets : List (Option Held)) (place : ℕ) → place < length sets → KeepsViews sets (changed f place sets)
keeps_changed f keeps sized sets place lt p h at = elim (cases_eq p place) [
  | inl e ↦ (f h, ap (set_at (changed f place sets)) e ∙ at_same sets place (option_map f (set_at sets place)) lt ∙ ap (option_map f) (ap (set_at sets) (sym e) ∙ at), keeps h, sized h)
  | inr other ↦ (h, at_other sets place p (option_map f (set_at sets place)) other ∙ at, (λ from to can. (can, refl)), refl)
]
