use Rattle.std.proofs.Common.{◌≡◌, ◌∙◌, length, true, not, Option, Some, None, is_none, option_copied, Bor, refl, sym, ap, subst}
use Rattle.bcv_base.specs.declared.id.Id16.{Id16}
use Rattle.bcv_base.specs.declared.seen.Latest.{Latest}
use Rattle.bcv_upload.specs.Inside.{BlockGets}
use Rattle.bcv_upload.specs.declared.next_text.NextText.TheVariants as text
use Rattle.bcv_upload.specs.BlockText.{IsViewOf}
use Rattle.bcv_upload.specs.State.{State, view_in}
use Rattle.bcv_upload.proofs.BlockWorks.{block_works, none_works}
use Rattle.bcv_upload.proofs.Tasks.{cache_at, has_next, next_at, next_inside}
use Rattle.bcv_upload.proofs.WorkLaws.{cache_is, fetch_leaves, fetch_works, made_leaves, read_works}
use Rattle.bcv_upload.proofs.Viewed.{viewed}
use Rattle.bcv_upload.proofs.upload.Upload.work.Goals as goal

none_copied : (o : Option (Bor Latest)) → is_none o ≡ true → option_copied o ≡ None
none_copied None h = refl
none_copied (Some l) h = absurd (cc)

pub returns-then-is_none-clause-works : goal.returns-then-is_none-clause-works
returns-then-is_none-clause-works g c =
    let there : c.self.inside.publish.latest ≡ None = sym c.latest.ensures ∙ none_copied c.latest.result (ap not (c.is_none.ensures ∙ ap not c.if-is_none.true)) in
    let none : c.args.self.now.publish.latest ≡ None = sym (ap (λ (s : State). s.publish.latest) c.self.view_is) ∙ there in
    read_works g.S.Store.told (g.S.Store.shown c.args.store.now) (g.S.Store.shown c.read.new.store) (g.N.Names.shown c.args.names.now) c.args.seen.now (view_in c.args.pages.now c.args.self.now.base) c.args.cache.now
    c.args.self.now c.read.result c.read.new.self none c.read.ensures.leaves c.read.ensures.rest c.read.ensures.gets

pub next_text-requires-clause-inside : goal.next_text-requires-clause-inside
next_text-requires-clause-inside g c =
    let h = has_next (viewed c.self.inside) c.args.self.now c.latest.result c.index-number.result.now c.len.result c.self.view_is c.latest.ensures (ap not (c.is_none.ensures ∙ ap not c.if-is_none.false))
    c.requires.running c.requires.not_ready c.index-number.ensures (c.len.ensures ∙ c.self.inside.ids.ok.0) in
    next_inside (viewed c.self.inside) c.index-number.result.now (view_in c.args.pages.now c.self.inside.base) c.self.invariant.task
    (subst (λ (s : State). IsViewOf s.base (view_in c.args.pages.now s.base) s.size s.touched) (sym c.self.view_is) c.requires.view.of_view) h.more h.number

pub fetch-requires-clause-id : goal.fetch-requires-clause-id
fetch-requires-clause-id g c =
    let h = has_next (viewed c.self.inside) c.args.self.now c.latest.result c.index-number.result.now c.len.result c.self.view_is c.latest.ensures (ap not (c.is_none.ensures ∙ ap not c.if-is_none.false))
    c.requires.running c.requires.not_ready c.index-number.ensures (c.len.ensures ∙ c.self.inside.ids.ok.0) in
    let next = next_at (viewed c.self.inside) c.args.self.now c.args.pages.now c.index-number.result.now c.args.cache.now.entries (text.Missing c.in-Missing.id) c.self.view_is h.number c.in-Missing.ensures.next in
    next.1

pub returns-in-Made-clause-cache : goal.returns-in-Made-clause-cache
returns-in-Made-clause-cache g c =
    let h = has_next (viewed c.self.inside) c.args.self.now c.latest.result c.index-number.result.now c.len.result c.self.view_is c.latest.ensures (ap not (c.is_none.ensures ∙ ap not c.if-is_none.false))
    c.requires.running c.requires.not_ready c.index-number.ensures (c.len.ensures ∙ c.self.inside.ids.ok.0) in
    cache_is c.args.self.now h.latest (view_in c.args.pages.now c.args.self.now.base) c.args.cache.now c.next_text.new.cache h.there
    (cache_at (viewed c.self.inside) c.args.self.now c.args.pages.now c.index-number.result.now c.args.cache.now c.next_text.new.cache c.self.view_is h.number c.next_text.ensures.cache)

pub returns-in-Missing-clause-cache : goal.returns-in-Missing-clause-cache
returns-in-Missing-clause-cache g c =
    let h = has_next (viewed c.self.inside) c.args.self.now c.latest.result c.index-number.result.now c.len.result c.self.view_is c.latest.ensures (ap not (c.is_none.ensures ∙ ap not c.if-is_none.false))
    c.requires.running c.requires.not_ready c.index-number.ensures (c.len.ensures ∙ c.self.inside.ids.ok.0) in
    cache_is c.args.self.now h.latest (view_in c.args.pages.now c.args.self.now.base) c.args.cache.now c.next_text.new.cache h.there
    (cache_at (viewed c.self.inside) c.args.self.now c.args.pages.now c.index-number.result.now c.args.cache.now c.next_text.new.cache c.self.view_is h.number c.next_text.ensures.cache)

pub returns-in-NoMemory-clause-cache : goal.returns-in-NoMemory-clause-cache
returns-in-NoMemory-clause-cache g c =
    let h = has_next (viewed c.self.inside) c.args.self.now c.latest.result c.index-number.result.now c.len.result c.self.view_is c.latest.ensures (ap not (c.is_none.ensures ∙ ap not c.if-is_none.false))
    c.requires.running c.requires.not_ready c.index-number.ensures (c.len.ensures ∙ c.self.inside.ids.ok.0) in
    cache_is c.args.self.now h.latest (view_in c.args.pages.now c.args.self.now.base) c.args.cache.now c.next_text.new.cache h.there
    (cache_at (viewed c.self.inside) c.args.self.now c.args.pages.now c.index-number.result.now c.args.cache.now c.next_text.new.cache c.self.view_is h.number c.next_text.ensures.cache)

pub returns-in-Made-clause-leaves : goal.returns-in-Made-clause-leaves
returns-in-Made-clause-leaves g c =
    let h = has_next (viewed c.self.inside) c.args.self.now c.latest.result c.index-number.result.now c.len.result c.self.view_is c.latest.ensures (ap not (c.is_none.ensures ∙ ap not c.if-is_none.false))
    c.requires.running c.requires.not_ready c.index-number.ensures (c.len.ensures ∙ c.self.inside.ids.ok.0) in
    let next = next_at (viewed c.self.inside) c.args.self.now c.args.pages.now c.index-number.result.now c.args.cache.now.entries (text.Made c.in-Made.bytes) c.self.view_is h.number c.in-Made.ensures.next in
    made_leaves c.args.self.now h.latest _ c.args.seen.now c.put_block.result c.put_block.new.self h.there next.0 c.put_block.ensures.leaves

pub returns-in-Missing-clause-leaves : goal.returns-in-Missing-clause-leaves
returns-in-Missing-clause-leaves g c =
    let h = has_next (viewed c.self.inside) c.args.self.now c.latest.result c.index-number.result.now c.len.result c.self.view_is c.latest.ensures (ap not (c.is_none.ensures ∙ ap not c.if-is_none.false))
    c.requires.running c.requires.not_ready c.index-number.ensures (c.len.ensures ∙ c.self.inside.ids.ok.0) in
    let next = next_at (viewed c.self.inside) c.args.self.now c.args.pages.now c.index-number.result.now c.args.cache.now.entries (text.Missing c.in-Missing.id) c.self.view_is h.number c.in-Missing.ensures.next in
    fetch_leaves c.args.self.now h.latest _ c.args.seen.now c.fetch.result c.fetch.new.self h.there next.0 c.fetch.ensures.leaves

pub returns-in-Made-clause-works : goal.returns-in-Made-clause-works
returns-in-Made-clause-works g c =
    let h = has_next (viewed c.self.inside) c.args.self.now c.latest.result c.index-number.result.now c.len.result c.self.view_is c.latest.ensures (ap not (c.is_none.ensures ∙ ap not c.if-is_none.false))
    c.requires.running c.requires.not_ready c.index-number.ensures (c.len.ensures ∙ c.self.inside.ids.ok.0) in
    let next = next_at (viewed c.self.inside) c.args.self.now c.args.pages.now c.index-number.result.now c.args.cache.now.entries (text.Made c.in-Made.bytes) c.self.view_is h.number c.in-Made.ensures.next in
    block_works g.S.Store.told (g.S.Store.shown c.args.store.now) (g.S.Store.shown c.put_block.new.store) (g.N.Names.shown c.args.names.now) (g.N.Names.shown c.put_block.new.names) c.args.seen.now
    (view_in c.args.pages.now c.args.self.now.base) c.args.cache.now c.args.self.now h.latest c.put_block.result c.put_block.new.self c.deref.result.now c.requires.running.task h.there next.0 h.more_then
    (c.deref.ensures.value ∙ next.1) (ap length c.deref.ensures.value ∙ next.2) c.put_block.ensures.leaves c.put_block.ensures.puts

pub returns-in-Missing-clause-works : goal.returns-in-Missing-clause-works
returns-in-Missing-clause-works g c =
    let h = has_next (viewed c.self.inside) c.args.self.now c.latest.result c.index-number.result.now c.len.result c.self.view_is c.latest.ensures (ap not (c.is_none.ensures ∙ ap not c.if-is_none.false))
    c.requires.running c.requires.not_ready c.index-number.ensures (c.len.ensures ∙ c.self.inside.ids.ok.0) in
    let next = next_at (viewed c.self.inside) c.args.self.now c.args.pages.now c.index-number.result.now c.args.cache.now.entries (text.Missing c.in-Missing.id) c.self.view_is h.number c.in-Missing.ensures.next in
    fetch_works g.S.Store.told (g.S.Store.shown c.args.store.now) (g.S.Store.shown c.fetch.new.store) (g.N.Names.shown c.args.names.now) c.args.seen.now (view_in c.args.pages.now c.args.self.now.base) c.args.cache.now
    c.args.self.now h.latest c.fetch.result c.fetch.new.self c.requires.running.task h.there next.0 c.fetch.ensures.leaves
    (subst (λ (i : Id16). BlockGets g.S.Store.told (g.S.Store.shown c.args.store.now) (g.S.Store.shown c.fetch.new.store) i c.args.self.now.base.block c.fetch.result c.fetch.new.self.fetched) next.1 c.fetch.ensures.gets)

pub returns-in-NoMemory-clause-works : goal.returns-in-NoMemory-clause-works
returns-in-NoMemory-clause-works g c =
    let h = has_next (viewed c.self.inside) c.args.self.now c.latest.result c.index-number.result.now c.len.result c.self.view_is c.latest.ensures (ap not (c.is_none.ensures ∙ ap not c.if-is_none.false))
    c.requires.running c.requires.not_ready c.index-number.ensures (c.len.ensures ∙ c.self.inside.ids.ok.0) in
    let next = next_at (viewed c.self.inside) c.args.self.now c.args.pages.now c.index-number.result.now c.args.cache.now.entries text.NoMemory c.self.view_is h.number c.in-NoMemory.ensures.next in
    none_works g.S.Store.told (g.S.Store.shown c.args.store.now) (g.N.Names.shown c.args.names.now) c.args.seen.now (view_in c.args.pages.now c.args.self.now.base) c.args.cache.now c.args.self.now h.latest
    c.requires.running.task h.there next h.more_then
