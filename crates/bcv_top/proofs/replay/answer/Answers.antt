use Rattle.std.proofs.Common.{rules, ◌≡◌, false, List, ℕ, ◌++◌, Ok, ap, ◌∙◌, subst}
use Rattle.std.proofs.lemmas.Result.{err_from_is_err_and}
use Rattle.bcv_model.specs.declared.spec.WorldSpec.{WorldSpec}
use Rattle.bcv_model.specs.ReplyText.{said_text}
use Rattle.bcv_model.specs.Script.{event_of}
use Rattle.bcv_script.specs.Reading.{Refuses}
use Rattle.bcv_top.specs.Led.{is_no_memory}
use Rattle.bcv_world.proofs.LinesKept.{line_keeps}
use Rattle.bcv_top.proofs.Stepping.{GoesOn, answer_unread, answered}
use Rattle.bcv_top.proofs.replay.answer.Goals as goal

pub returns-in_err-event : goal.returns-in_err-event
returns-in_err-event g c =
    let p = err_from_is_err_and c.from_residual.result c.from_residual.ensures.1 in
    let unread = subst (λ (s : WorldSpec). Refuses c.in_err-event.field-0.0 (event_of s c.args.line.now)) c.spec.ensures c.in_err-event.ensures in
    rw (p.1, p.2) (answer_unread c.in_err-event.field-0.0 c.args.world.now c.args.line.now c.args.text.now.items unread)

pub apply-said-requires-clause-keeps : goal.apply-said-requires-clause-keeps
apply-said-requires-clause-keeps g c =
    let is = subst (λ (s : WorldSpec). event_of s c.args.line.now ≡ Ok c.in_ok-event.event) c.spec.ensures c.in_ok-event.ensures in
    line_keeps c.args.world.now.spec c.args.line.now c.in_ok-event.event c.requires.short is

pub returns : goal.returns
returns g c =
    let is = subst (λ (s : WorldSpec). event_of s c.args.line.now ≡ Ok c.in_ok-event.event) c.spec.ensures c.in_ok-event.ensures in
    let ran : is_no_memory c.apply-said.result.reply ≡ false = search rules in
    let goes : GoesOn c.args.world.now c.apply-said.new.self c.in_ok-event.event c.apply-said.result =
    record { world = c.apply-said.ensures.world; spec = c.apply-said.ensures.spec; tally = c.apply-said.ensures.tally; takes = record { takes = c.apply-said.ensures.takes; caches = c.apply-said.ensures.caches; sets = c.apply-said.ensures.sets } } in
    let said = c.in_ok-write_reply.ensures.ok ∙ ap (λ (l : List ℕ). l ++ said_text c.apply-said.result) c.requires.empty in
    answered c.args.world.now c.apply-said.new.self c.args.line.now c.in_ok-event.event c.apply-said.result is ran c.requires.few goes c.write_reply.new.into.items said
