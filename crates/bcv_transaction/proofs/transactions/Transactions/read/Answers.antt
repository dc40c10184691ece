use Rattle.std.proofs.Common.{◌≡◌, ◌∙◌, List, [], Option, Some, None, refl, ap, sym, subst}
use Rattle.bcv_cache.specs.Entry.{Blocks}
use Rattle.bcv_machine.specs.State.{ToRead}
use Rattle.bcv_transaction.specs.declared.answers.Came.{Came}
use Rattle.bcv_transaction.specs.declared.answers.Came.TheVariants as came
use Rattle.bcv_transaction.specs.declared.open_txn.OpenTxn.{OpenTxn}
use Rattle.bcv_transaction.specs.ListCalls.{ReadsIn}
use Rattle.bcv_transaction.specs.MachineCalls.{Comes, side_with}
use Rattle.bcv_transaction.specs.Open.{AreOpenIn, AreOpenWith, Open, txn_at}
use Rattle.bcv_transaction.proofs.MachineReads.{all_reads, none_comes}
use Rattle.bcv_transaction.proofs.transactions.Transactions.read.Goals as goal
use Rattle.bcv_transaction.proofs.transactions.Transactions.read.Goals.{in-Some, in-None}

pub returns-clause-machine : goal.returns-clause-machine
returns-clause-machine c = λ past sets s u stands set_of. elim c.match-self.branch [
  | in-Some w ↦ (let o = c.args.self.now in
      let cache : o.cache ≡ Some w.in-Some.cache = ap (λ (x : Open). x.cache) (sym c.self.view_is) ∙ w.in-Some.is in
      let txns : w.deref.result.now ≡ o.txns = w.deref.ensures.value ∙ ap (λ (x : Open). x.txns) c.self.view_is in
      let all : AreOpenWith o.slots o.cache o.txns = subst (λ (x : Open). AreOpenWith x.slots x.cache x.txns) c.self.view_is c.self.invariant in
      let opened : AreOpenWith o.slots (Some w.in-Some.cache) o.txns = subst (λ (x : Option Blocks). AreOpenWith o.slots x o.txns) cache all in
      let after : AreOpenIn w.read_in.new.cache o.txns = subst (AreOpenIn w.read_in.new.cache) txns w.read_in.ensures.are_open in
      let main = all_reads past sets o s u w.in-Some.cache w.read_in.new.cache c.args.number c.args.page c.args.pages.now w.read_in.result cache opened after w.read_in.ensures.size stands set_of c.requires
      (subst (λ (ts : List OpenTxn). ReadsIn c.args.pages.now w.in-Some.cache ts c.args.number c.args.page w.read_in.result w.read_in.new.cache) txns w.read_in.ensures.reads)
      in
      let items : c.match-self.self-inside.txns.items ≡ o.txns = ap (λ x. x.txns.items) w.self-inside-is ∙ ap (λ (x : Open). x.txns) c.self.view_is in
      subst (λ (r : Came). Comes ToRead s u c.args.number c.args.page r (side_with past sets s u c.match-self.self-inside.txns.items)) (sym w.result-is)
      (subst (λ (xs : List OpenTxn). Comes ToRead s u c.args.number c.args.page w.read_in.result (side_with past sets s u xs)) (sym items) main))
  | in-None w ↦ (let o = c.args.self.now in
      let empty : c.self.inside.txns.items ≡ [] = subst (λ (x : Option Blocks). AreOpenWith c.self.inside.slots x c.self.inside.txns.items) w.in-None.is c.self.invariant in
      let none : o.txns ≡ [] = sym (ap (λ (x : Open). x.txns) c.self.view_is) ∙ empty in
      let main = none_comes ToRead past sets o.txns s u c.args.number c.args.page stands.txns (subst (λ (xs : List OpenTxn). txn_at c.args.number xs ≡ None) (sym none) refl) in
      let items : c.match-self.self-inside.txns.items ≡ o.txns = ap (λ x. x.txns.items) w.self-inside-is ∙ ap (λ (x : Open). x.txns) c.self.view_is in
      subst (λ (r : Came). Comes ToRead s u c.args.number c.args.page r (side_with past sets s u c.match-self.self-inside.txns.items)) (sym w.result-is)
      (subst (λ (xs : List OpenTxn). Comes ToRead s u c.args.number c.args.page came.NoTxn (side_with past sets s u xs)) (sym items) main))
]
