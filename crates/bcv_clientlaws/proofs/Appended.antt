-- What a client has of a log stays, whatever is appended.
use Rattle.std.proofs.Common.{◌≡◌, ◌≤◌, List, [], ◌++◌, Some, sym, subst}
use Rattle.bcv_base.specs.declared.log.Entry.{Entry}
use Rattle.bcv_base.specs.declared.manifest.Manifest.{Manifest}
use Rattle.bcv_base.specs.declared.seen.Latest.{Latest}
use Rattle.bcv_base.specs.declared.seen.Seen.{Seen}
use Rattle.bcv_base.specs.History.{Item, count_of, first_put, history_after, history_of}
use Rattle.bcv_base.specs.HistoryLaws.{history_after-append}
use Rattle.bcv_cache.specs.Entry as cache
use Rattle.bcv_dbmap.specs.Kept.{IsKept}
use Rattle.bcv_dbmap.specs.Outlived.{IsPublished}
use Rattle.bcv_dbmap.proofs.KeptLaws.{kept_longer}
use Rattle.bcv_model.specs.declared.kept.Local.{Local}
use Rattle.bcv_databases.specs.declared.known.Known.{Known}
use Rattle.bcv_clientstate.specs.BaseLaws.{FitsLocal}
use Rattle.bcv_clientstate.specs.Fits.{FitsEntry, FitsKnown, FitsSeen, FitsTxn}
use Rattle.bcv_clientstate.specs.Parts.{OpenTxn}
use Rattle.bcv_clientstate.proofs.Bases.{published_after, stays}
use Rattle.bcv_clientstate.proofs.Growth.{put_later, rising, some_kept}

module _ (log more : List Entry) where
  abbrev past : List Item
  past = history_of log

  abbrev later : List Item
  later = history_of (log ++ more)

  is_later : later ≡ history_after past more
  is_later = history_after-append [] log more

  pub published_later : (k : Manifest) → IsPublished k past → IsPublished k later
  published_later k there = subst (IsPublished k) (sym is_later) (published_after k past more there)

  pub local_later : (l : Local) → FitsLocal past l → FitsLocal later l
  local_later l has = stays log more l.number l.block l.entry has

  pub known_later : (k : Known) → FitsKnown past k → FitsKnown later k
  known_later k has = stays log more k.number k.block k.entry has

  pub txn_later : (t : OpenTxn) → FitsTxn past t → FitsTxn later t
  txn_later t fits =
      record { base = stays log more t.txn.base.number t.txn.base.block t.txn.base.entry fits.base; is_txn = fits.is_txn; size = fits.size; commits = fits.commits }

  pub seen_later : (s : Seen) → FitsSeen past s → FitsSeen later s
  seen_later s fits =
      record {
        block = some_kept (λ b. (k : Manifest) × IsPublished k past × (k.block ≡ b)) (λ b. (k : Manifest) × IsPublished k later × (k.block ≡ b)) (λ b h. (h.0, published_later h.0 h.1, h.2)) s.block fits.block;
        number = subst (λ (n : List Item). s.number ≤ count_of n) (sym is_later) (rising past more s.number fits.number);
      }

  pub entry_later : (e : cache.Entry) → FitsEntry past e → FitsEntry later e
  entry_later e fits = subst (λ (n : List Item). first_put n e.id ≡ Some e.bytes) (sym is_later) (put_later past more e.id e.bytes fits)

  pub latest_later : (l : Latest) → IsKept log l → IsKept (log ++ more) l
  latest_later l is = kept_longer log more l is
