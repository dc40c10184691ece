use Rattle.std.proofs.Common.{◌++◌, ◌∷◌, [], ◌∙◌, ap}
use Rattle.bcv_model.specs.declared.reply.Reply.TheVariants as reply
use Rattle.bcv_daemon.specs.Responses.{begun_answer, session}
use Rattle.bcv_daemon.proofs.Responding.{begins_without, begun, begun_no}
use Rattle.bcv_daemon.proofs.responses.begin.Goals as goal

pub returns-then-is_err-clause-answered : goal.returns-then-is_err-clause-answered
returns-then-is_err-clause-answered g c = begins_without g.D.Disk.told g.D.Disk.shown g.S.Store.told _ _ _ _ c.reserve.ensures.items

pub returns-in-Txn-clause-answered : goal.returns-in-Txn-clause-answered
returns-in-Txn-clause-answered g c =
    let e = c.in-Txn.ensures in
    begun g.D.Disk.told g.D.Disk.shown g.S.Store.told _ _ _ _ c.args.session c.args.db c.begun_answer.result (reply.Txn c.in-Txn.txn) c.requires.none
    (record { same = e.same; disk = e.disk; causes = e.causes; asks = e.asks; falls = e.falls; counted = e.counted; caches = e.caches })
    (c.open.ensures ∙ ap (λ l. l ++ session c.args.session c.in-Txn.txn ∷ []) c.reserve.ensures.items, c.begun_answer.ensures ∙ ap (λ o. begun_answer o) c.opened.ensures)

pub returns-in_default : goal.returns-in_default
returns-in_default g c =
    let e = c.call.ensures in
    record {
      client = e.client;
      answered = begun g.D.Disk.told g.D.Disk.shown g.S.Store.told _ _ _ _ c.args.session c.args.db _ c.call.result c.requires.none
          (record { same = e.same; disk = e.disk; causes = e.causes; asks = e.asks; falls = e.falls; counted = e.counted; caches = e.caches })
          (begun_no c.call.new.self c.args.sessions.now.items c.reserve.new.self.items c.args.session c.call.result c.reserve.ensures.items c.in_default.not-Txn);
    }
