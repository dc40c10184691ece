use Rattle.std.proofs.Common.{◌≡◌, ◌∙◌, ◌<◌, ℕ, List, true, length, Option, option_map, sym, ap, subst}
use Rattle.std.specs.Global.{Vec}
use Rattle.bcv_base.specs.declared.id.Id16.{Id16}
use Rattle.bcv_cache.specs.Cache.{found_first, slot_of}
use Rattle.bcv_upload.specs.Inside.{IsNext}
use Rattle.bcv_upload.specs.State.{view_in}
use Rattle.bcv_upload.specs.UploadWork.{asks_store, cache_asked, cached_bytes}
use Rattle.bcv_upload.proofs.NextTexts.{base_block, cache_is, cached, id_read, is_fetched, made_next}
use Rattle.bcv_upload.proofs.next_text.next_text.Goals as goal

pub bounds-items-number : goal.bounds-items-number
bounds-items-number c =
    subst (λ (ids : List Id16). c.args.number < length ids) (sym c.items.ensures)
    (base_block c.args.base.now (view_in c.args.pages.now c.args.base.now) c.args.number c.requires.base (sym c.has_base.ensures ∙ c.if-not-has_base.false))

pub view_block-requires-in-Some-find-clause-old : goal.view_block-requires-in-Some-find-clause-old
view_block-requires-in-Some-find-clause-old c =
    λ has. (cached c.args.cache.now c.find.new.self _ c.in-Some-find.slot _ c.in-Some-find.ensures.slot c.in-Some-find.ensures.entries c.in-Some-find.ensures.cache c.lend.ensures.bytes).whole ∙ c.requires.block

pub returns-in-Some-find-clause-next : goal.returns-in-Some-find-clause-next
returns-in-Some-find-clause-next c =
    let view = view_in c.args.pages.now c.args.base.now in
    let has = sym c.has_base.ensures ∙ c.if-not-has_base.false in
    let id = id_read c.args.base.now.entry.blocks c.items.result.now c.args.number _ c.items.ensures (base_block c.args.base.now view c.args.number c.requires.base has) in
    let there = cached c.args.cache.now c.find.new.self _ c.in-Some-find.slot _ c.in-Some-find.ensures.slot c.in-Some-find.ensures.entries c.in-Some-find.ensures.cache c.lend.ensures.bytes in
    subst (λ (o : Option (Vec ℕ)). IsNext c.args.base.now view c.args.number (option_map (λ b. b.items) o) c.args.cache.now.entries c.made-in-Some-find.result) (sym c.in_default.is)
    (made_next c.args.base.now view c.args.number has c.args.cache.now.entries c.in-Some-find.slot c.lend.result.now c.view_block-in-Some-find.result c.made-in-Some-find.result c.made-in-Some-find.ensures
    (c.in-Some-find.ensures.slot ∙ ap (λ (i : Id16). slot_of i c.args.cache.now.entries) id) (sym (ap (λ (i : Id16). cached_bytes i c.args.cache.now.entries) id) ∙ there.bytes_are)
    c.view_block-in-Some-find.ensures.bytes c.view_block-in-Some-find.ensures.whole)

pub returns-in-Some-find-clause-cache : goal.returns-in-Some-find-clause-cache
returns-in-Some-find-clause-cache c =
    let view = view_in c.args.pages.now c.args.base.now in
    let has = sym c.has_base.ensures ∙ c.if-not-has_base.false in
    let id = id_read c.args.base.now.entry.blocks c.items.result.now c.args.number _ c.items.ensures (base_block c.args.base.now view c.args.number c.requires.base has) in
    subst (λ (o : Option (Vec ℕ)). c.find.new.self ≡ cache_asked c.args.base.now view c.args.number (option_map (λ b. b.items) o) c.args.cache.now) (sym c.in_default.is)
    (cache_is c.args.base.now view c.args.number has c.args.cache.now c.find.new.self
    (c.in-Some-find.ensures.entries ∙ ap (λ (i : Id16). record c.args.cache.now { entries = found_first i c.args.cache.now.entries }) id))

pub returns-in-None-clause-next : goal.returns-in-None-clause-next
returns-in-None-clause-next c =
    let view = view_in c.args.pages.now c.args.base.now in
    let has = sym c.has_base.ensures ∙ c.if-not-has_base.false in
    let id = id_read c.args.base.now.entry.blocks c.items.result.now c.args.number _ c.items.ensures (base_block c.args.base.now view c.args.number c.requires.base has) in (
      subst (λ (o : Option (Vec ℕ)). asks_store c.args.base.now view c.args.number (option_map (λ b. b.items) o) c.args.cache.now.entries ≡ true) (sym c.in_default.is)
          (is_fetched c.args.base.now view c.args.number has c.args.cache.now.entries (c.in-None.ensures.slot ∙ ap (λ (i : Id16). slot_of i c.args.cache.now.entries) id)),
      id,
    )

pub returns-in-None-clause-cache : goal.returns-in-None-clause-cache
returns-in-None-clause-cache c =
    let view = view_in c.args.pages.now c.args.base.now in
    let has = sym c.has_base.ensures ∙ c.if-not-has_base.false in
    let id = id_read c.args.base.now.entry.blocks c.items.result.now c.args.number _ c.items.ensures (base_block c.args.base.now view c.args.number c.requires.base has) in
    subst (λ (o : Option (Vec ℕ)). c.find.new.self ≡ cache_asked c.args.base.now view c.args.number (option_map (λ b. b.items) o) c.args.cache.now) (sym c.in_default.is)
    (cache_is c.args.base.now view c.args.number has c.args.cache.now c.find.new.self
    (c.in-None.ensures.entries ∙ ap (λ (i : Id16). record c.args.cache.now { entries = found_first i c.args.cache.now.entries }) id))
