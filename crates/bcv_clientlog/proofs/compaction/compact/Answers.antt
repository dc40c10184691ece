use Rattle.std.proofs.Common.{◌≡◌, ◌∙◌, List, ℕ, map, rules, arith, ap, sym, subst}
use Rattle.bcv_model.specs.Notes.{note_text}
use Rattle.bcv_notes.specs.KeptBy.{items_of}
use Rattle.bcv_notes.specs.KeptNotes.{items_size, kept_notes, notes_size}
use Rattle.bcv_journal.specs.Parts.{start_at, tail_at}
use Rattle.bcv_clientlog.specs.Compaction.{Compacts}
use Rattle.bcv_clientlog.proofs.Compacting.{has_place, items_are, no_frees, restarted, starved, unmoved, yes_frees}
use Rattle.bcv_clientlog.proofs.Held.{fewest_size}
use Rattle.bcv_clientlog.proofs.compaction.compact.Goals as goal

pub returns-then-not-frees : goal.returns-then-not-frees
returns-then-not-frees g c =
    let d = g.D.Disk in
    let j = c.args.journal.now in
    unmoved d.told d.shown j c.args.kept.now c.args.dense c.args.more c.requires (search rules) (search rules) (search rules) c.span-start.ensures.leaves (g.met.D.Disk.only_now j.disk) (λ items are thick.
    no_frees (start_at j) (tail_at j) (notes_size (kept_notes c.args.kept.now)) c.args.more c.span-start.result.0 c.span-start.result.1 c.kept_size.result c.frees.result c.span-start.ensures.start c.span-start.ensures.tail (search rules) c.kept_size.ensures
    c.frees.ensures c.if-not-frees.true)

pub returns-in_default : goal.returns-in_default
returns-in_default g c =
    let d = g.D.Disk in
    let j = c.args.journal.now in
    starved d.told d.shown j c.args.kept.now c.args.dense c.args.more c.requires (search rules) (search rules) (search rules) c.span-start.ensures.leaves (g.met.D.Disk.only_now j.disk)

pub returns-then-not-frees-2 : goal.returns-then-not-frees-2
returns-then-not-frees-2 g c =
    let d = g.D.Disk in
    let j = c.args.journal.now in
    let given : items_of c.deref.result.now ≡ map note_text (kept_notes c.args.kept.now) = (search rules) in
    unmoved d.told d.shown j c.args.kept.now c.args.dense c.args.more c.requires (search rules) (search rules) (search rules) c.span-start.ensures.leaves (g.met.D.Disk.only_now j.disk) (λ items are thick compacts.
    let size : items_size (items_of c.deref.result.now) ≡ notes_size (kept_notes c.args.kept.now) = ap items_size given ∙ fewest_size items c.args.kept.now are in
    no_frees (start_at j) (tail_at j) (items_size (items_of c.deref.result.now)) c.args.more c.span-start.result.0 c.span-start.result.1 c.items_size.result c.frees-2.result c.span-start.ensures.start c.span-start.ensures.tail (search rules) c.items_size.ensures
    c.frees-2.ensures c.if-not-frees-2.true (subst (λ (n : ℕ). Compacts (start_at j) (tail_at j) n c.args.more) (sym size) compacts))

pub restart-requires-clause-each : goal.restart-requires-clause-each
restart-requires-clause-each g c =
    let j = c.args.journal.now in
    let same : items_of c.deref.result.now ≡ items_of c.deref-2.result.now = (search rules) in
    let given : items_of c.deref-2.result.now ≡ map note_text (kept_notes c.args.kept.now) = (search rules) in
    let compacts =
    yes_frees (start_at j) (tail_at j) (items_size (items_of c.deref.result.now)) c.args.more c.span-start.result.0 c.span-start.result.1 c.items_size.result c.frees-2.result c.span-start.ensures.start c.span-start.ensures.tail (search rules) c.items_size.ensures
    c.frees-2.ensures c.if-not-frees-2.false in
    items_are (items_of c.deref-2.result.now) c.args.kept.now (start_at j) (tail_at j) c.args.more given (search rules) (subst (λ (l : List (List ℕ)). Compacts (start_at j) (tail_at j) (items_size l) c.args.more) same compacts)

pub restart-requires-clause-room : goal.restart-requires-clause-room
restart-requires-clause-room g c =
    let j = c.args.journal.now in
    let same : items_of c.deref.result.now ≡ items_of c.deref-2.result.now = (search rules) in
    let compacts =
    yes_frees (start_at j) (tail_at j) (items_size (items_of c.deref.result.now)) c.args.more c.span-start.result.0 c.span-start.result.1 c.items_size.result c.frees-2.result c.span-start.ensures.start c.span-start.ensures.tail (search rules) c.items_size.ensures
    c.frees-2.ensures c.if-not-frees-2.false in
    has_place (items_of c.deref-2.result.now) (start_at j) (tail_at j) c.args.more (subst (λ (l : List (List ℕ)). Compacts (start_at j) (tail_at j) (items_size l) c.args.more) same compacts)

pub returns : goal.returns
returns g c =
    let d = g.D.Disk in
    let j = c.args.journal.now in
    let same : items_of c.deref.result.now ≡ items_of c.deref-2.result.now = (search rules) in
    let given : items_of c.deref-2.result.now ≡ map note_text (kept_notes c.args.kept.now) = (search rules) in
    let compacts =
    yes_frees (start_at j) (tail_at j) (items_size (items_of c.deref.result.now)) c.args.more c.span-start.result.0 c.span-start.result.1 c.items_size.result c.frees-2.result c.span-start.ensures.start c.span-start.ensures.tail (search rules) c.items_size.ensures
    c.frees-2.ensures c.if-not-frees-2.false in
    restarted d.told d.shown j c.args.kept.now c.args.dense c.args.more c.requires (search rules) (search rules) (search rules) c.span-start.ensures.leaves (items_of c.deref-2.result.now) given
    (subst (λ (l : List (List ℕ)). Compacts (start_at j) (tail_at j) (items_size l) c.args.more) same compacts) c.restart.new.self c.restart.result c.restart.ensures

pub returns-then-dense : goal.returns-then-dense
returns-then-dense g c =
    let d = g.D.Disk in
    let j = c.args.journal.now in
    unmoved d.told d.shown j c.args.kept.now c.args.dense c.args.more c.requires (search rules) (search rules) (search rules) c.span-start.ensures.leaves (g.met.D.Disk.only_now j.disk) (λ items are thick compacts. omega (arith, compacts.halves, thick c.if-dense.true))
