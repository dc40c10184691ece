-- What a line gives may be asked of a client.
use Rattle.std.proofs.Common.{◌≡◌, ◌∙◌, ◌&&◌, ℕ, ◌^◌, ◌<◌, ◌≤◌, Bool, true, false, length, List, nat_le, refl, sym, ap, subst, arith}
use Rattle.std.proofs.lemmas.Bool.{and_from, and_parts, leb-true, le-leb}
use Rattle.bcv_base.specs.Image.{Page}
use Rattle.std.specs.Int.{is_power_of_two}
use Rattle.bcv_base.specs.ManifestRules.{is_block_size, is_page_size}
use Rattle.bcv_client.specs.AskCalls.{AskInForm}
use Rattle.bcv_dbcopy.specs.State.{FitsPages}
use Rattle.bcv_dbcopy.specs.declared.plan.CopyPlan.TheVariants as plan
use Rattle.bcv_model.specs.declared.ask.Ask.{Ask}
use Rattle.bcv_model.specs.declared.ask.Ask.TheVariants as ask
use Rattle.bcv_model.specs.declared.event.Act.{Act}
use Rattle.bcv_model.specs.declared.event.Act.TheVariants as act
use Rattle.bcv_model.specs.declared.spec.WorldSpec.{WorldSpec}
use Rattle.bcv_world.specs.LineEvents.{ActInForm, IsSpec, KeepsAct, KeepsAsk, KeepsPages}

-- a page size within a block's is within every greater limit
page_within : (most block page : ℕ) → block ≤ most → is_page_size block page ≡ true → is_page_size most page ≡ true
page_within most block page le is =
    let parts = and_parts (nat_le 512 page && nat_le page 65536 && is_power_of_two page) (nat_le page block) is in
    let within : page ≤ block = leb-true page block parts.1 in
    and_from (nat_le 512 page && nat_le page 65536 && is_power_of_two page) (nat_le page most) parts.0 (le-leb page most (omega (arith, within, le)))

block_within : (block : ℕ) → is_block_size block ≡ true → block ≤ 16777216
block_within block is =
    let one = and_parts (nat_le 512 block && nat_le block 16777216) (is_power_of_two block) is in
    leb-true block 16777216 (and_parts (nat_le 512 block) (nat_le block 16777216) one.0).1

module _ (spec : WorldSpec) (sizes : IsSpec spec) (taken : ℕ) (few : taken < 2 ^ 63) where
  pages_fit : (db : List ℕ) (size : ℕ) (pages : List Page) → KeepsPages spec size pages → FitsPages (plan.New db size pages)
  pages_fit db size pages keeps =
      (subst (λ (n : ℕ). is_page_size 16777216 n ≡ true) (sym keeps.same_size) (page_within 16777216 spec.block spec.page (block_within spec.block sizes.block) sizes.page), keeps.each, keeps.few)

  ask_in_form : (q : Ask) → KeepsAsk spec q → AskInForm taken q
  ask_in_form (ask.Begin db) keeps = tt
  ask_in_form (ask.Read n p) keeps = tt
  ask_in_form (ask.Hold n p) keeps = tt
  ask_in_form (ask.Look n p) keeps = tt
  ask_in_form (ask.Free n p) keeps = tt
  ask_in_form (ask.End n) keeps = tt
  ask_in_form (ask.Commit db commit) keeps = few
  ask_in_form (ask.Revert db) keeps = tt
  ask_in_form ask.List keeps = tt
  ask_in_form (ask.Create block retention) keeps = subst (λ (n : ℕ). is_block_size n ≡ true) (sym keeps.0) sizes.block
  ask_in_form (ask.NewDb db size pages) keeps = pages_fit db size pages keeps
  ask_in_form (ask.Upload db) keeps = tt
  ask_in_form (ask.Copy from to) keeps = tt
  ask_in_form (ask.Remove db) keeps = tt
  ask_in_form ask.Poll keeps = tt
  ask_in_form ask.Cleanup keeps = tt
  ask_in_form ask.Resolve keeps = tt
  ask_in_form (ask.Step n) keeps = tt

  pub act_in_form : (what : Act) → KeepsAct spec what → ActInForm taken what
  act_in_form (act.Ask q o) keeps = ask_in_form q keeps
  act_in_form act.Up keeps = tt
  act_in_form (act.Crash image) keeps = keeps
  act_in_form (act.Fuse calls image) keeps = keeps
  act_in_form (act.FailAt calls) keeps = tt
