-- What stays when others appended to a log, and the client nothing.
use Rattle.std.proofs.Common.{◌≡◌, ◌∙◌, ◌≤◌, ℕ, Bool, false, List, [], ◌++◌, append-nil, Option, Some, inl, inr, refl, sym, ap, subst, arith}
use Rattle.bcv_base.specs.declared.id.Id16.{Id16}
use Rattle.bcv_base.specs.declared.log.Entry.{Entry}
use Rattle.bcv_base.specs.declared.manifest.Manifest.{Manifest}
use Rattle.bcv_base.specs.declared.seen.Seen.{Seen}
use Rattle.bcv_base.specs.History.{Item, history_of, last_of}
use Rattle.bcv_cache.specs.Entry as cache
use Rattle.bcv_dbmap.specs.RequestGrowth.{RequestGrowth}
use Rattle.bcv_dbmap.specs.Sound.{IsSoundLog, Sound}
use Rattle.bcv_dbmap.proofs.ManifestLaws.{published_is_up_to}
use Rattle.bcv_databases.specs.declared.known.Known.{Known}
use Rattle.bcv_model.specs.declared.kept.Kept.{Kept}
use Rattle.bcv_pages.specs.Held.{Held}
use Rattle.bcv_poller.specs.ManifestPoll.{IsSeenIn}
use Rattle.bcv_publish.specs.ManifestRead.{is_other}
use Rattle.bcv_clientstate.specs.Fits.{Fits}
use Rattle.bcv_clientstate.specs.Parts.{LedgerParts, Parts, mine_of}
use Rattle.bcv_clientstate.specs.PartRefusals.{runs_publication}
use Rattle.bcv_clientlaws.specs.OtherParts.{FitsKept, Includes, with_kept}
use Rattle.bcv_clientlaws.proofs.OtherParts.{kept_fits_quietly, others_leave_fits}
use Rattle.bcv_ledger.specs.FitsLedger.{FitsLedger}
use Rattle.bcv_databases.specs.Catalog.{Catalog}
use Rattle.bcv_databases.specs.Sound.{AreDatabases, KeepsViews}

-- others alone appended
pub grown_by_others : (alone : Type 0) (mine : List Id16) (before after : List Entry) (growth : RequestGrowth alone mine before after) → growth.own ≡ [] → after ≡ before ++ growth.others
grown_by_others alone mine before after growth none =
    growth.grown ∙ ap (λ (es : List Entry). (before ++ growth.others) ++ es) none ∙ append-nil (before ++ growth.others)

-- the client still fits
pub fits_grown : (alone : Type 0) (mine : List Id16) (before after : List Entry) (p : Parts) (entries : List cache.Entry) (growth : RequestGrowth alone mine before after) → growth.own ≡ []
    → IsSoundLog before → Includes mine (mine_of p) → Fits p entries before → Fits p entries after
fits_grown alone mine before after p entries growth none sound all fits =
    subst (λ (log : List Entry). Fits p entries log) (sym (grown_by_others alone mine before after growth none))
    (others_leave_fits mine before growth.others p entries sound all growth.lawful fits)

-- the last manifest follows what was seen
pub follows_seen : (past : List Item) (s : Seen) (m : Manifest) → Sound past → last_of past ≡ Some m → IsSeenIn past s
    → (s.number ≤ m.number) × (is_other s.block m.block ≡ false)
follows_seen past s m sound last (inl is) = subst (λ (x : Seen). (x.number ≤ m.number) × (is_other x.block m.block ≡ false)) (sym is) (omega arith, refl)
follows_seen past s m sound last (inr there) =
    let up = published_is_up_to past there.0 m sound last there.1 in
    let one : there.0.number ≤ m.number = up.number in
    let two : s.number ≤ there.0.number = there.2 in
    (omega (arith, one, two), subst (λ (b : ℕ). is_other s.block b ≡ false) up.block there.3)

-- ---- the parts of a ledger

pub same_views : (sets : List (Option Held)) → KeepsViews sets sets
same_views sets place h at = (h, at, (λ from to can. (can, refl)), refl)

pub keeps_views_then : (a b c : List (Option Held)) → KeepsViews a b → KeepsViews b c → KeepsViews a c
keeps_views_then a b c first second place h at =
    let k = first place h at in
    let l = second place k.0 k.1 in
    (l.0, l.1, (λ from to can. (let x = k.2 from to can in let y = l.2 from to x.0 in (y.0, y.1 ∙ x.1))), l.3 ∙ k.3)

pub same_ledger : (a b : Bool) (j k : Kept) (ks ls : List Known) → a ≡ b → j ≡ k → ks ≡ ls
    → (let c : LedgerParts = record { closed = a; kept = j; known = ks } in c) ≡ record { closed = b; kept = k; known = ls }
same_ledger a b j k ks ls closed kept known =
    ap (λ (c : Bool). let x : LedgerParts = record { closed = c; kept = j; known = ks } in x) closed
    ∙ ap (λ (c : Kept). let x : LedgerParts = record { closed = b; kept = c; known = ks } in x) kept
    ∙ ap (λ (c : List Known). let x : LedgerParts = record { closed = b; kept = k; known = c } in x) known

-- ---- what the ledger keeps and knows

-- of a client that fits, the ledger fits
pub ledger_of_fits : (log : List Entry) (p : Parts) (entries : List cache.Entry) → Fits p entries log → FitsLedger (history_of log) p.id p.kept p.known
ledger_of_fits log p entries fits = record { named = fits.named; locals = fits.locals; known_fit = fits.known; pending = fits.pending }

-- with other databases, whose ledger fits, the client fits while none of its tasks publishes
pub fits_with_ledger : (log : List Entry) (p : Parts) (entries : List cache.Entry) (c : Catalog) → Fits p entries log → runs_publication p ≡ false → AreDatabases c
    → FitsLedger (history_of log) p.id c.kept c.known → Fits (with_kept c.kept c.known p) entries log
fits_with_ledger log p entries c fits quiet holds ledger =
    let kept : FitsKept log p.id c.kept c.known = record {
      named = ledger.named;
      ordered = holds.order;
      locals = ledger.locals;
      are_known = record { order = holds.known_order; apart = holds.without; fits = ledger.known_fit };
      pending = ledger.pending;
    } in
    kept_fits_quietly log p entries c.kept c.known fits kept quiet
