use Rattle.std.proofs.Common.{refl}
use Rattle.std.specs.Prelude.{Some, None}
use Rattle.bcv_model.specs.declared.ask.Ask.TheVariants as ask
use Rattle.bcv_proto.specs.declared.message.Message.TheVariants as message
use Rattle.bcv_daemon.proofs.Responding.{answered_as, busy, called, ends_none, ends_some, found, in_session, no_session, read_answered, to_end, unasked}
use Rattle.bcv_daemon.proofs.responses.respond.Goals as goal

pub returns-in-Poll-clause-answered : goal.returns-in-Poll-clause-answered
returns-in-Poll-clause-answered g c =
    answered_as g.D.Disk.told g.D.Disk.shown g.S.Store.told _ _ _ _ _ _ _ c.in-Poll.is (to_end g.D.Disk.told g.D.Disk.shown g.S.Store.told _ _ _ _ (message.Poll c.in-Poll.session) c.polled_answer.result ask.Poll c.ask_to_end.result c.ask_to_end.ensures.asked
    (λ es x. (refl, (c.ask_to_end.result, x, c.polled_answer.ensures))))

pub returns-in-Some-clause-answered : goal.returns-in-Some-clause-answered
returns-in-Some-clause-answered g c =
    answered_as g.D.Disk.told g.D.Disk.shown g.S.Store.told _ _ _ _ _ _ _ c.in-Begin.is (unasked g.D.Disk.told g.D.Disk.shown g.S.Store.told _ _ _ (message.Begin c.in-Begin.session c.in-Begin.db) _
    (busy c.args.client.now c.args.sessions.now.items c.in-Begin.session c.in-Begin.db c.in-Some.field-0 (found c.args.sessions.now.items _ c.in-Begin.session _ (Some c.in-Some.field-0) c.deref.ensures.value c.txn_of.ensures c.in-Some.is)))

pub returns-in-None-clause-answered : goal.returns-in-None-clause-answered
returns-in-None-clause-answered g c =
    answered_as g.D.Disk.told g.D.Disk.shown g.S.Store.told _ _ _ _ _ _ _ c.in-Begin.is c.begin.ensures.answered

pub returns-in-List-clause-answered : goal.returns-in-List-clause-answered
returns-in-List-clause-answered g c =
    let e = c.call.ensures in
    answered_as g.D.Disk.told g.D.Disk.shown g.S.Store.told _ _ _ _ _ _ _ c.in-List.is (called g.D.Disk.told g.D.Disk.shown g.S.Store.told _ _ _ _ (message.List c.in-List.session) c.rows_answer.result ask.List c.call.result (record { same = e.same; disk = e.disk; causes = e.causes; asks = e.asks; falls = e.falls; counted = e.counted; caches = e.caches })
    (refl, (c.call.result, refl, c.rows_answer.ensures)))

pub returns-in-Some-txn_of-clause-answered : goal.returns-in-Some-txn_of-clause-answered
returns-in-Some-txn_of-clause-answered g c =
    let e = c.call-in-Some-txn_of.ensures in
    answered_as g.D.Disk.told g.D.Disk.shown g.S.Store.told _ _ _ _ _ _ _ c.in-End.is (called g.D.Disk.told g.D.Disk.shown g.S.Store.told _ _ _ _ (message.End c.in-End.session) c.fine_answer.result (ask.End c.in-Some-txn_of.txn) c.call-in-Some-txn_of.result (record { same = e.same; disk = e.disk; causes = e.causes; asks = e.asks; falls = e.falls; counted = e.counted; caches = e.caches })
    (ends_some c.args.sessions.now.items c.close.new.sessions.items c.in-End.session c.in-Some-txn_of.txn c.call-in-Some-txn_of.result c.fine_answer.result
    (found c.args.sessions.now.items _ c.in-End.session _ (Some c.in-Some-txn_of.txn) c.deref-in-End.ensures.value c.txn_of-in-End.ensures c.in-Some-txn_of.is) c.close.ensures c.fine_answer.ensures))

pub returns-in-None-txn_of-clause-answered : goal.returns-in-None-txn_of-clause-answered
returns-in-None-txn_of-clause-answered g c =
    answered_as g.D.Disk.told g.D.Disk.shown g.S.Store.told _ _ _ _ _ _ _ c.in-End.is (unasked g.D.Disk.told g.D.Disk.shown g.S.Store.told _ _ _ (message.End c.in-End.session) _ (ends_none c.args.sessions.now.items c.in-End.session (found c.args.sessions.now.items _ c.in-End.session _ (None) c.deref-in-End.ensures.value c.txn_of-in-End.ensures c.in-None-txn_of.is)))

pub returns-in-Some-txn_of-2-clause-answered : goal.returns-in-Some-txn_of-2-clause-answered
returns-in-Some-txn_of-2-clause-answered g c =
    answered_as g.D.Disk.told g.D.Disk.shown g.S.Store.told _ _ _ _ _ _ _ c.in-Read.is (read_answered g.D.Disk.told g.D.Disk.shown g.S.Store.told _ _ _ c.in-Read.session c.in-Read.off c.in-Read.len c.in-Some-txn_of-2.txn c.read.result (found c.args.sessions.now.items _ c.in-Read.session _ (Some c.in-Some-txn_of-2.txn) c.deref-in-Read.ensures.value c.txn_of-in-Read.ensures c.in-Some-txn_of-2.is) c.read.ensures.reads)

pub returns-in-None-txn_of-2-clause-answered : goal.returns-in-None-txn_of-2-clause-answered
returns-in-None-txn_of-2-clause-answered g c =
    answered_as g.D.Disk.told g.D.Disk.shown g.S.Store.told _ _ _ _ _ _ _ c.in-Read.is (unasked g.D.Disk.told g.D.Disk.shown g.S.Store.told _ _ _ (message.Read c.in-Read.session c.in-Read.off c.in-Read.len) _ (refl, no_session _ _ (found c.args.sessions.now.items _ c.in-Read.session _ (None) c.deref-in-Read.ensures.value c.txn_of-in-Read.ensures c.in-None-txn_of-2.is)))

pub returns-in-Some-txn_of-3-clause-answered : goal.returns-in-Some-txn_of-3-clause-answered
returns-in-Some-txn_of-3-clause-answered g c =
    answered_as g.D.Disk.told g.D.Disk.shown g.S.Store.told _ _ _ _ _ _ _ c.in-Hold.is (to_end g.D.Disk.told g.D.Disk.shown g.S.Store.told _ _ _ _ (message.Hold c.in-Hold.session c.in-Hold.page) c.held_answer.result (ask.Hold c.in-Some-txn_of-3.txn c.in-Hold.page) c.ask_to_end-in-Some-txn_of-3.result c.ask_to_end-in-Some-txn_of-3.ensures.asked
    (λ es x. (refl, in_session _ c.in-Some-txn_of-3.txn es _ _ (found c.args.sessions.now.items _ c.in-Hold.session _ (Some c.in-Some-txn_of-3.txn) c.deref-in-Hold.ensures.value c.txn_of-in-Hold.ensures c.in-Some-txn_of-3.is) (c.ask_to_end-in-Some-txn_of-3.result, x, c.held_answer.ensures))))

pub returns-in-None-txn_of-3-clause-answered : goal.returns-in-None-txn_of-3-clause-answered
returns-in-None-txn_of-3-clause-answered g c =
    answered_as g.D.Disk.told g.D.Disk.shown g.S.Store.told _ _ _ _ _ _ _ c.in-Hold.is (unasked g.D.Disk.told g.D.Disk.shown g.S.Store.told _ _ _ (message.Hold c.in-Hold.session c.in-Hold.page) _ (refl, no_session _ _ (found c.args.sessions.now.items _ c.in-Hold.session _ (None) c.deref-in-Hold.ensures.value c.txn_of-in-Hold.ensures c.in-None-txn_of-3.is)))

pub returns-in-Some-txn_of-4-clause-answered : goal.returns-in-Some-txn_of-4-clause-answered
returns-in-Some-txn_of-4-clause-answered g c =
    let e = c.call-in-Some-txn_of-4.ensures in
    answered_as g.D.Disk.told g.D.Disk.shown g.S.Store.told _ _ _ _ _ _ _ c.in-Look.is (called g.D.Disk.told g.D.Disk.shown g.S.Store.told _ _ _ _ (message.Look c.in-Look.session c.in-Look.page) c.page_answer.result (ask.Look c.in-Some-txn_of-4.txn c.in-Look.page) c.call-in-Some-txn_of-4.result (record { same = e.same; disk = e.disk; causes = e.causes; asks = e.asks; falls = e.falls; counted = e.counted; caches = e.caches })
    (refl, in_session _ c.in-Some-txn_of-4.txn _ _ _ (found c.args.sessions.now.items _ c.in-Look.session _ (Some c.in-Some-txn_of-4.txn) c.deref-in-Look.ensures.value c.txn_of-in-Look.ensures c.in-Some-txn_of-4.is) (c.call-in-Some-txn_of-4.result, refl, c.page_answer.ensures)))

pub returns-in-None-txn_of-4-clause-answered : goal.returns-in-None-txn_of-4-clause-answered
returns-in-None-txn_of-4-clause-answered g c =
    answered_as g.D.Disk.told g.D.Disk.shown g.S.Store.told _ _ _ _ _ _ _ c.in-Look.is (unasked g.D.Disk.told g.D.Disk.shown g.S.Store.told _ _ _ (message.Look c.in-Look.session c.in-Look.page) _ (refl, no_session _ _ (found c.args.sessions.now.items _ c.in-Look.session _ (None) c.deref-in-Look.ensures.value c.txn_of-in-Look.ensures c.in-None-txn_of-4.is)))

pub returns-in-Some-txn_of-5-clause-answered : goal.returns-in-Some-txn_of-5-clause-answered
returns-in-Some-txn_of-5-clause-answered g c =
    let e = c.call-in-Some-txn_of-5.ensures in
    answered_as g.D.Disk.told g.D.Disk.shown g.S.Store.told _ _ _ _ _ _ _ c.in-Free.is (called g.D.Disk.told g.D.Disk.shown g.S.Store.told _ _ _ _ (message.Free c.in-Free.session c.in-Free.page) c.fine_answer-in-Some-txn_of-5.result (ask.Free c.in-Some-txn_of-5.txn c.in-Free.page) c.call-in-Some-txn_of-5.result (record { same = e.same; disk = e.disk; causes = e.causes; asks = e.asks; falls = e.falls; counted = e.counted; caches = e.caches })
    (refl, in_session _ c.in-Some-txn_of-5.txn _ _ _ (found c.args.sessions.now.items _ c.in-Free.session _ (Some c.in-Some-txn_of-5.txn) c.deref-in-Free.ensures.value c.txn_of-in-Free.ensures c.in-Some-txn_of-5.is) (c.call-in-Some-txn_of-5.result, refl, c.fine_answer-in-Some-txn_of-5.ensures)))

pub returns-in-None-txn_of-5-clause-answered : goal.returns-in-None-txn_of-5-clause-answered
returns-in-None-txn_of-5-clause-answered g c =
    answered_as g.D.Disk.told g.D.Disk.shown g.S.Store.told _ _ _ _ _ _ _ c.in-Free.is (unasked g.D.Disk.told g.D.Disk.shown g.S.Store.told _ _ _ (message.Free c.in-Free.session c.in-Free.page) _ (refl, no_session _ _ (found c.args.sessions.now.items _ c.in-Free.session _ (None) c.deref-in-Free.ensures.value c.txn_of-in-Free.ensures c.in-None-txn_of-5.is)))
