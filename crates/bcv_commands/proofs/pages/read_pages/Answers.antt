use Rattle.std.proofs.Common.{◌≡◌, ℕ, ◌+◌, List, [], Ok, Err, Result, rules, refl, sym, subst, arith}
use Rattle.bcv_commands.proofs.PageCuts.{PagesTaken, FileEnded, file_with, not_none, no_page_taken, page_goes_on, page_ends_none, page_ends_part, page_ends_limit, page_ends_fault, page_ends_memory}
use Rattle.bcv_commands.specs.declared.database_file.DatabaseFile.{DatabaseFile}
use Rattle.bcv_commands.specs.declared.database_file.FileFault.{FileFault}
use Rattle.bcv_commands.specs.declared.database_file.FileFault.TheVariants as fault
use Rattle.bcv_commands.proofs.pages.read_pages.Goals as goal

pub pages-init : goal.pages-init
pages-init g c = record {
  paged = no_page_taken (g.I.Source.left c.args.input.now) c.args.header.now c.args.page_size c.new-pages.result.items c.new-pages.ensures.items c.requires.header (omega (arith, c.requires.header, c.requires.small));
  unended = c.requires.unended;
  later = omega arith;
}

pub next_page-requires-clause-front : goal.next_page-requires-clause-front
next_page-requires-clause-front g c = c.pages.invariant.paged.short

pub next_page-requires-clause-within : goal.next_page-requires-clause-within
next_page-requires-clause-within g c = c.pages.invariant.paged.within

pub pages-preserved : goal.pages-preserved
pages-preserved g c =
    let r = c.in-Whole.ensures.read in
    record {
      paged = subst (λ (n : ℕ). PagesTaken (g.I.Source.left c.args.input.now) (g.I.Source.left c.next_page.new.input) c.args.header.now [] c.args.page_size (c.pages.length + n) c.push.new.self.items) (sym c.from-length.ensures)
          (page_goes_on (g.I.Source.left c.args.input.now) (g.I.Source.left c.pages.input) c.args.header.now c.pages.front.now c.args.page_size c.pages.length c.pages.pages.items c.pages.invariant.paged (g.I.Source.left c.next_page.new.input) r.0 r.1 c.in-Whole.page [] c.push.new.self.items r.2 refl c.in_ok-push-in-Whole.ensures.items);
      unended = c.in-Whole.ensures.goes_on c.in-Whole.page refl;
      later = omega (arith, c.pages.invariant.later, c.in-Whole.ensures.later);
    }

pub returns-in_err-push-in-Whole-clause-read : goal.returns-in_err-push-in-Whole-clause-read
returns-in_err-push-in-Whole-clause-read g c =
    let r = c.in-Whole.ensures.read in
    let same : c.from_residual.result ≡ Err fault.NoMemory = search rules in
    subst (λ (x : Result DatabaseFile FileFault). FileEnded (g.I.Source.left c.args.input.now) (g.I.Source.left c.next_page.new.input) c.args.header.now c.args.page_size x) (sym same)
    (page_ends_memory (g.I.Source.left c.args.input.now) (g.I.Source.left c.pages.input) c.args.header.now c.pages.front.now c.args.page_size c.pages.length c.pages.pages.items c.pages.invariant.paged (g.I.Source.left c.next_page.new.input) r.0 r.1)

pub returns-in-Ended-eq0-clause-read : goal.returns-in-Ended-eq0-clause-read
returns-in-Ended-eq0-clause-read g c =
    let r = c.in-Ended-eq0.ensures.read in
    subst (λ (ps : List (List ℕ)). FileEnded (g.I.Source.left c.args.input.now) (g.I.Source.left c.next_page.new.input) c.args.header.now c.args.page_size (Ok (file_with c.args.page_size ps))) (sym c.of.ensures)
    (page_ends_none (g.I.Source.left c.args.input.now) (g.I.Source.left c.pages.input) c.args.header.now c.pages.front.now c.args.page_size c.pages.length c.pages.pages.items c.pages.invariant.paged (g.I.Source.left c.next_page.new.input) r.0 r.1 c.requires.sized r.2.0 (omega (arith, r.2.1, c.in-Ended-eq0.field-0-is)))

pub returns-in-Ended-clause-read : goal.returns-in-Ended-clause-read
returns-in-Ended-clause-read g c =
    let r = c.in-Ended.ensures.read in
    page_ends_part (g.I.Source.left c.args.input.now) (g.I.Source.left c.pages.input) c.args.header.now c.pages.front.now c.args.page_size c.pages.length c.pages.pages.items c.pages.invariant.paged (g.I.Source.left c.next_page.new.input) r.0 r.1 c.in-Ended.count r.2.0 r.2.1 (not_none c.in-Ended.count c.in-Ended.count-test.1) r.2.2 r.2.3

pub returns-in-TooLong-clause-read : goal.returns-in-TooLong-clause-read
returns-in-TooLong-clause-read g c =
    let r = c.in-TooLong.ensures.read in
    page_ends_limit (g.I.Source.left c.args.input.now) (g.I.Source.left c.pages.input) c.args.header.now c.pages.front.now c.args.page_size c.pages.length c.pages.pages.items c.pages.invariant.paged (g.I.Source.left c.next_page.new.input) r.0 r.1 r.2

pub returns-in-Failed-clause-read : goal.returns-in-Failed-clause-read
returns-in-Failed-clause-read g c =
    let r = c.in-Failed.ensures.read in
    page_ends_fault (g.I.Source.left c.args.input.now) (g.I.Source.left c.pages.input) c.args.header.now c.pages.front.now c.args.page_size c.pages.length c.pages.pages.items c.pages.invariant.paged (g.I.Source.left c.next_page.new.input) r.0 r.1 r.2

pub returns-in-NoMemory-clause-read : goal.returns-in-NoMemory-clause-read
returns-in-NoMemory-clause-read g c =
    let r = c.in-NoMemory.ensures.read in
    page_ends_memory (g.I.Source.left c.args.input.now) (g.I.Source.left c.pages.input) c.args.header.now c.pages.front.now c.args.page_size c.pages.length c.pages.pages.items c.pages.invariant.paged (g.I.Source.left c.next_page.new.input) r.0 r.1
