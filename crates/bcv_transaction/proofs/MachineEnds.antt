-- An end and a begin are the machine's.
use Rattle.std.proofs.Common.{◌≡◌, ◌∙◌, ℕ, Bool, false, not, nat_le, List, [], ◌∷◌, ◌++◌, map, length, Option, Some, None, is_none, is_some, refl, sym, ap, subst}
use Rattle.std.specs.Option.{option_and_then, option_map}
use Rattle.std.proofs.lemmas.List.{length-map, map-append}
use Rattle.bcv_base.specs.declared.seen.TxnBase.{TxnBase}
use Rattle.bcv_base.specs.History.{Item}
use Rattle.bcv_base.specs.Joined.{database_of}
use Rattle.bcv_cache.specs.Entry.{Blocks}
use Rattle.bcv_clientstate.proofs.Bases.{base_database}
use Rattle.bcv_dbmap.specs.Sound.{Sound}
use Rattle.bcv_machine.specs.Reading.{Begins, Closes, Ends, Opens, OpensAs, begun, txn_over}
use Rattle.bcv_machine.specs.Refusals.{UnlessRefused, begin_refusal, end_refusal, first_reason, has_all_txns}
use Rattle.bcv_machine.specs.State.{Container, Side, Txn, Up, View, base_of, database_at, least_free, txn_numbers, view_of, with_up}
use Rattle.bcv_model.specs.declared.reply.Reply.{Reply}
use Rattle.bcv_model.specs.declared.reply.Reply.TheVariants as reply
use Rattle.bcv_pages.specs.Held.{Held}
use Rattle.bcv_transaction.specs.declared.open_txn.OpenTxn.{OpenTxn}
use Rattle.bcv_transaction.specs.ListCalls.{EndsOf}
use Rattle.bcv_transaction.specs.MachineCalls.{EndsAs, IsKnownBase, seen_txns, side_ended, side_with}
use Rattle.bcv_transaction.specs.Open.{base_view, numbers_of, txn_at, without_txn}
use Rattle.bcv_transaction.specs.OpenCalls.{begun_txn}
use Rattle.bcv_transaction.proofs.MachineLists.{seen, seen_at, seen_numbers, side_less, side_same}

-- ---- end

-- whether the transaction is open
refused_end : (past : List Item) (sets : ℕ → Held) (n : ℕ) (ts : List OpenTxn) (u : Up) (o : Option OpenTxn) → u.txns ≡ seen_txns past sets ts → txn_at n ts ≡ o
    → end_refusal u n ≡ first_reason ((is_none (option_map (seen past sets) o), reply.NoTxn) ∷ [])
refused_end past sets n ts u o is at =
    ap (λ (x : Option Txn). first_reason ((is_none x, reply.NoTxn) ∷ [])) (seen_at past sets n ts u is ∙ ap (option_map (seen past sets)) at)

pub ends : (past : List Item) (sets : ℕ → Held) (s : Side) (u : Up) (n : ℕ) (ts us : List OpenTxn) (c d : Blocks) (r : Bool) (o : Option OpenTxn) → u.txns ≡ seen_txns past sets ts
    → txn_at n ts ≡ o → EndsOf c o ts n r us d → EndsAs past sets s u n r us
ends past sets s u n ts us c d r None is at done =
    let t : Side = side_with past sets s u ts in
    let plain : Ends s u n reply.NoTxn t =
    subst (λ (x : Option Reply). UnlessRefused x (with_up s u) reply.NoTxn t (Closes s u n reply.NoTxn t)) (sym (refused_end past sets n ts u None is at)) (refl, side_same past sets s u ts is)
    in
    subst (λ (b : Bool). EndsAs past sets s u n b us) (sym done.0) (subst (λ (xs : List OpenTxn). Ends s u n reply.NoTxn (side_with past sets s u xs)) (sym done.1) plain)
ends past sets s u n ts us c d r (Some x) is at done =
    let t : Side = side_ended past sets s u n (without_txn n ts) in
    let plain : Ends s u n reply.Fine t =
    subst (λ (y : Option Reply). UnlessRefused y (with_up s u) reply.Fine t (Closes s u n reply.Fine t)) (sym (refused_end past sets n ts u (Some x) is at)) (side_less past sets s u n ts is)
    in
    subst (λ (b : Bool). EndsAs past sets s u n b us) (sym done.0) (subst (λ (xs : List OpenTxn). Ends s u n reply.Fine (side_ended past sets s u n xs)) (sym done.1) plain)

-- ---- begin

module _ (past : List Item) (sets : ℕ → Held) (s : Side) (u : Up) (base : TxnBase) (pages : Held) (ts : List OpenTxn) (n set : ℕ) where
  -- the machine's view of the database
  abbrev the_view : View
  the_view = record { base = base.number; commits = base_view pages base }

  abbrev new_txn : OpenTxn
  new_txn = record { number = n; set = set; txn = begun_txn base pages }

  not_refused : u.txns ≡ seen_txns past sets ts → view_of s.client.kept u base.entry.name ≡ Some the_view → nat_le 64 (length ts) ≡ false → begin_refusal s.client.kept u base.entry.name ≡ None
  not_refused is known few =
      let full : has_all_txns u ≡ false = ap (λ (xs : List Txn). nat_le 64 (length xs)) is ∙ ap (nat_le 64) (length-map ts (seen past sets)) ∙ few in
      ap (λ (v : Option View). first_reason ((not (is_some v), reply.NoDatabase) ∷ (has_all_txns u, reply.TooMany) ∷ [])) known
      ∙ ap (λ (b : Bool). first_reason ((false, reply.NoDatabase) ∷ (b, reply.TooMany) ∷ [])) full

  its_base : Sound past → IsKnownBase past s u base pages → database_at s.container base.number base.entry.name ≡ Some (database_of past base.entry)
  its_base sound known =
      ap (λ (c : Container). database_at c base.number base.entry.name) known.container ∙ base_database s.container.moment past base.number base.block base.entry sound known.base_is

  its_txn : Sound past → sets set ≡ pages → IsKnownBase past s u base pages → txn_over s u n base.entry.name ≡ Some (seen past sets new_txn)
  its_txn sound same known =
      ap (option_and_then (λ (v : View). option_map (begun n base.entry.name v) (base_of s.container base.entry.name v))) known.view
      ∙ ap (option_map (begun n base.entry.name the_view)) (its_base sound known)
      ∙ ap (λ (h : Held). Some (begun n base.entry.name (record { base = base.number; commits = base_view h base }) (database_of past base.entry))) (sym same)

  pub begins : Sound past → u.txns ≡ seen_txns past sets ts → sets set ≡ pages → IsKnownBase past s u base pages → nat_le 64 (length ts) ≡ false → least_free (numbers_of ts) ≡ Some n
      → Begins s u base.entry.name (reply.Txn n) (side_with past sets s u (ts ++ new_txn ∷ []))
  begins sound is same known few free =
      let t : Side = side_with past sets s u (ts ++ new_txn ∷ []) in
      let numbers : txn_numbers u ≡ numbers_of ts = ap (map (λ (x : Txn). x.number)) is ∙ seen_numbers past sets ts in
      let more : t ≡ with_up s (record u { txns = u.txns ++ seen past sets new_txn ∷ [] }) =
      ap (λ (xs : List Txn). with_up s (record u { txns = xs })) (map-append (seen past sets) ts (new_txn ∷ []) ∙ ap (λ (xs : List Txn). xs ++ seen past sets new_txn ∷ []) (sym is))
      in
      let opens : OpensAs s u base.entry.name (reply.Txn n) t =
      (ap least_free numbers ∙ free, subst (λ (o : Option Txn). Opens s u o t) (sym (its_txn sound same known)) more)
      in
      subst (λ (o : Option Reply). UnlessRefused o (with_up s u) (reply.Txn n) t (OpensAs s u base.entry.name (reply.Txn n) t)) (sym (not_refused is known.view few)) opens
