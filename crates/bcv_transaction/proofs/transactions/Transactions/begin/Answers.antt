use Rattle.std.proofs.Common.{false, arith, length, nat_le, ◌<◌, ◌≡◌, ◌∙◌, ◌++◌, ◌∷◌, [], List, Some, ap, sym, subst}
use Rattle.std.proofs.lemmas.Bool.{lt-leb}
use Rattle.bcv_cache.specs.Entry.{Blocks}
use Rattle.bcv_machine.specs.Reading.{Begins}
use Rattle.bcv_model.specs.declared.reply.Reply.TheVariants as reply
use Rattle.bcv_transaction.specs.MachineCalls.{side_with}
use Rattle.bcv_transaction.proofs.MachineEnds.{begins}
use Rattle.bcv_machine.specs.State.{has_number, least_free}
use Rattle.bcv_snapshot.specs.Opened.{Opened}
use Rattle.bcv_transaction.specs.declared.open_txn.OpenTxn.{OpenTxn}
use Rattle.bcv_transaction.specs.Open.{AreOpen, Open, numbers_of}
use Rattle.bcv_transaction.specs.OpenCalls.{begun_txn, cache_made}
use Rattle.bcv_transaction.proofs.BegunTxns.{begun_with, made_block, made_by}
use Rattle.bcv_transaction.proofs.transactions.Transactions.begin.Goals as goal

-- the transactions with the one that begins
grown : (c : goal.After-push_txn) → AreOpen (record { slots = c.self-2.inside.slots; cache = c.self-2.inside.cache; txns = c.push_txn.new.txns.items })
grown c =
    let o = c.args.self.now in
    let block = c.args.base.block in
    let d : Blocks = cache_made o.slots block o.cache in
    let made = made_by o c.open_cache.new.self block c.open_cache.result c.open_cache.ensures.made (sym c.is_err.ensures.value ∙ c.if-is_err.false) in
    let is : c.self-2.inside.cache ≡ Some d = ap (λ (x : Open). x.cache) c.self-2.view_is ∙ ap (λ (x : Open). x.cache) made in
    let t : OpenTxn = record { number = c.least_free-number.result; set = c.args.set; txn = c.begin-txn.result } in
    let ts = c.self-2.inside.txns.items in
    let same : c.reserve.new.self.items ≡ ts = c.reserve.ensures.items in
    begun_with c.self-2.inside.slots c.self-2.inside.cache d ts c.push_txn.new.txns.items t c.self-2.invariant is (c.push_txn.ensures ∙ ap (λ (xs : List OpenTxn). xs ++ t ∷ []) same)
    (record {
      unused = subst (λ (xs : List OpenTxn). has_number c.least_free-number.result (numbers_of xs) ≡ false) (c.deref.ensures.value ∙ same) c.least_free-number.ensures.unused;
      first = c.least_free-number.ensures.first;
      few = c.least_free-number.ensures.few;
      txn = c.begin-txn.ensures.txn;
      none = ap (λ (x : Opened). x.held) c.begin-txn.ensures.begun;
      block = ap (λ (x : Opened). x.base.block) c.begin-txn.ensures.begun ∙ sym (made_block o.slots block o.cache c.requires.same_block);
    })

pub invariant_of-self-2 : goal.invariant_of-self-2
invariant_of-self-2 c = grown c

pub returns-clause-are_open : goal.returns-clause-are_open
returns-clause-are_open c = grown c

-- no 64 transactions were open
few : (c : goal.After-push_txn) → nat_le 64 (length c.args.self.now.txns) ≡ false
few c =
    let is : c.self.inside.txns.items ≡ c.args.self.now.txns = ap (λ (x : Open). x.txns) c.self.view_is in
    let below : length c.self.inside.txns.items < 64 = omega (arith, c.if-len-ge-MOST_TXNS.false, c.len.ensures) in
    ap (λ (xs : List OpenTxn). nat_le 64 (length xs)) (sym is) ∙ lt-leb 64 (length c.self.inside.txns.items) below

pub returns-clause-machine : goal.returns-clause-machine
returns-clause-machine c = λ past sets s u stands same known.
    let o = c.args.self.now in
    let base = c.args.base in
    let made = made_by o c.open_cache.new.self base.block c.open_cache.result c.open_cache.ensures.made (sym c.is_err.ensures.value ∙ c.if-is_err.false) in
    let old : c.reserve.new.self.items ≡ o.txns = c.reserve.ensures.items ∙ ap (λ (x : Open). x.txns) c.self-2.view_is ∙ ap (λ (x : Open). x.txns) made in
    let n = c.least_free-number.result in
    let t : Opened → OpenTxn = λ x. record { number = n; set = c.args.set; txn = x } in
    let more : c.push_txn.new.txns.items ≡ o.txns ++ t (begun_txn base c.args.pages.now) ∷ [] =
    c.push_txn.ensures ∙ ap (λ (xs : List OpenTxn). xs ++ t c.begin-txn.result ∷ []) old ∙ ap (λ (x : Opened). o.txns ++ t x ∷ []) c.begin-txn.ensures.begun
    in
    let free = subst (λ (xs : List OpenTxn). least_free (numbers_of xs) ≡ Some n) (c.deref.ensures.value ∙ old) c.least_free-number.ensures.free in
    subst (λ (xs : List OpenTxn). Begins s u base.entry.name (reply.Txn n) (side_with past sets s u xs)) (sym more)
    (begins past sets s u base c.args.pages.now o.txns n c.args.set stands.sound stands.txns same known (few c) free)
