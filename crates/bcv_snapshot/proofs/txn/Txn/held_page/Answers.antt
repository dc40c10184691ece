use Rattle.std.proofs.Common.{◌≡◌, ◌∙◌, List, Some, None, option_map, get_or, ap, subst}
use Rattle.std.specs.List.{position}
use Rattle.bcv_snapshot.specs.declared.held_block.HeldBlock.{HeldBlock}
use Rattle.bcv_snapshot.specs.Opened.{Opened, has_block_number, number_of}
use Rattle.bcv_snapshot.proofs.CacheLaws.{block_whole}
use Rattle.bcv_snapshot.proofs.HeldBlocks.{held_at, not_held, position_at}
use Rattle.bcv_snapshot.proofs.txn.Txn.held_page.Goals as goal

pub returns-in-None : goal.returns-in-None
returns-in-None c =
    let held : c.deref.result.now ≡ c.args.self.now.held = c.deref.ensures.value ∙ ap (λ (t : Opened). t.held) c.self.view_is in
    ap (option_map (λ (h : HeldBlock). h.pin)) (not_held (number_of c.args.self.now.base c.args.page) c.args.self.now.held
    (position_at c.block_of.result _ c.deref.result.now _ c.place_of.result None c.place_of.ensures c.block_of.ensures.number held c.in-None.is))

pub page_bytes-requires : goal.page_bytes-requires
page_bytes-requires c = record { whole = block_whole c.args.cache.now c.index.result.now.pin.slot c.bytes.result.now c.bytes.ensures.cache c.bytes.ensures.bytes ∙ c.requires.block }

pub returns-in-Some : goal.returns-in-Some
returns-in-Some c =
    let held : c.deref.result.now ≡ c.args.self.now.held = c.deref.ensures.value ∙ ap (λ (t : Opened). t.held) c.self.view_is in
    let place : position (has_block_number (number_of c.args.self.now.base c.args.page)) c.args.self.now.held ≡ Some c.in-Some.at =
    position_at c.block_of.result _ c.deref.result.now _ c.place_of.result (Some c.in-Some.at) c.place_of.ensures c.block_of.ensures.number held c.in-Some.is in
    let h = held_at (number_of c.args.self.now.base c.args.page) c.args.self.now.held c.in-Some.at c.index.result.now place
    (subst (λ (hs : List HeldBlock). c.index.result.now ≡ get_or hs c.in-Some.at c.index.result.now) (ap (λ (t : Opened). t.held) c.self.view_is) c.index.ensures) in
    record { pin = c.index.result.now.pin; held = h.pin; page = record { block = c.bytes.result.now; there = c.bytes.ensures.bytes; page = c.page_bytes.ensures } }
