use Rattle.std.proofs.Common.{◌≡◌, ℕ, ◌+◌, List, ◌++◌, length, Ok, Err, Result, rules, refl, sym, ap, subst, arith}
use Rattle.std.specs.Io.KnownBytes.{IsAtEnd}
use Rattle.bcv_lines.proofs.LineLists.{line_is, last_is}
use Rattle.bcv_commands.specs.declared.pairs.PairsFault.{PairsFault}
use Rattle.bcv_commands.proofs.PairsTaken.{PairsEnded, none_taken, pairs_few, ends_limit, ends_fault, ends_memory, ends_end, ends_line, ends_last_line, ends_last, goes_on}
use Rattle.bcv_commands.proofs.pairs.read_pairs.Goals as goal

pub lines-init : goal.lines-init
lines-init g c = record {
  pairs = none_taken (g.I.Source.left c.args.input.now) c.new-pairs.result.items c.in_ok-reader.reader.chunk c.in_ok-reader.reader.used c.new-pairs.ensures.items c.in_ok-reader.ensures.0 c.in_ok-reader.ensures.1;
  unended = c.requires.unended;
  later = omega arith;
}

pub add_pair-requires-clause-few : goal.add_pair-requires-clause-few
add_pair-requires-clause-few g c = pairs_few (g.I.Source.left c.args.input.now) (g.I.Source.left c.lines.input) c.lines.pairs.items c.lines.after c.lines.reader.used c.lines.reader.chunk c.lines.invariant.pairs

pub add_pair-requires-in-Last-clause-few : goal.add_pair-requires-in-Last-clause-few
add_pair-requires-in-Last-clause-few g c = pairs_few (g.I.Source.left c.args.input.now) (g.I.Source.left c.lines.input) c.lines.pairs.items c.lines.after c.lines.reader.used c.lines.reader.chunk c.lines.invariant.pairs

pub returns-in_err-page-in-Line-clause-read : goal.returns-in_err-page-in-Line-clause-read
returns-in_err-page-in-Line-clause-read g c =
    let r = c.in-Line.ensures.read in
    let l = line_is c.lines.reader.used (c.lines.reader.chunk ++ r.0) c.next.new.self.line.items c.as_slice-line.result.now c.next.new.self.chunk c.as_slice-line.ensures.value r.2 in
    let same : c.from_residual-in_err-page-in-Line.result ≡ Err c.in_err-page-in-Line.field-0.0 = search rules in
    subst (λ (x : Result (List (ℕ × List ℕ)) PairsFault). PairsEnded (g.I.Source.left c.args.input.now) (g.I.Source.left c.next.new.input) x) (sym same)
    (ends_line (g.I.Source.left c.args.input.now) (g.I.Source.left c.lines.input) c.lines.pairs.items c.lines.after c.lines.reader.used c.lines.reader.chunk c.lines.invariant.pairs (g.I.Source.left c.next.new.input) r.0 r.1 c.as_slice-line.result.now c.next.new.self.chunk c.add_pair.new.pairs.items c.in_err-page-in-Line.field-0.0 l.0 l.1 c.in_err-page-in-Line.ensures)

pub returns-in_err-_page-in-Last-clause-read : goal.returns-in_err-_page-in-Last-clause-read
returns-in_err-_page-in-Last-clause-read g c =
    let r = c.in-Last.ensures.read in
    let l = last_is c.lines.reader.used (c.lines.reader.chunk ++ r.0) c.next.new.self.line.items c.as_slice-last.result.now (IsAtEnd (g.I.Source.left c.next.new.input)) c.as_slice-last.ensures.value r.2 in
    let same : c.from_residual-in_err-_page-in-Last.result ≡ Err c.in_err-_page-in-Last.field-0.0 = search rules in
    subst (λ (x : Result (List (ℕ × List ℕ)) PairsFault). PairsEnded (g.I.Source.left c.args.input.now) (g.I.Source.left c.next.new.input) x) (sym same)
    (ends_last_line (g.I.Source.left c.args.input.now) (g.I.Source.left c.lines.input) c.lines.pairs.items c.lines.after c.lines.reader.used c.lines.reader.chunk c.lines.invariant.pairs (g.I.Source.left c.next.new.input) r.0 r.1 c.as_slice-last.result.now c.add_pair-in-Last.new.pairs.items c.in_err-_page-in-Last.field-0.0 l.0 l.1 l.3 l.2 c.in_err-_page-in-Last.ensures)

pub returns-in-Last-clause-read : goal.returns-in-Last-clause-read
returns-in-Last-clause-read g c =
    let r = c.in-Last.ensures.read in
    let l = last_is c.lines.reader.used (c.lines.reader.chunk ++ r.0) c.next.new.self.line.items c.as_slice-last.result.now (IsAtEnd (g.I.Source.left c.next.new.input)) c.as_slice-last.ensures.value r.2 in
    subst (λ (x : List (ℕ × List ℕ)). PairsEnded (g.I.Source.left c.args.input.now) (g.I.Source.left c.next.new.input) (Ok x)) (sym c.of.ensures)
    (ends_last (g.I.Source.left c.args.input.now) (g.I.Source.left c.lines.input) c.lines.pairs.items c.lines.after c.lines.reader.used c.lines.reader.chunk c.lines.invariant.pairs (g.I.Source.left c.next.new.input) r.0 r.1 c.as_slice-last.result.now c.add_pair-in-Last.new.pairs.items _ l.0 l.1 l.3 l.2 c.in_ok-_page-in-Last.ensures)

pub lines-smaller : goal.lines-smaller
lines-smaller g c = let f = c.in-Line.ensures.read.2.1.fits in omega (arith, f, c.in-Line.ensures.counts)

pub lines-preserved : goal.lines-preserved
lines-preserved g c =
    let r = c.in-Line.ensures.read in
    let l = line_is c.lines.reader.used (c.lines.reader.chunk ++ r.0) c.next.new.self.line.items c.as_slice-line.result.now c.next.new.self.chunk c.as_slice-line.ensures.value r.2 in
    let counts : c.next.new.self.used ≡ c.lines.reader.used + length c.as_slice-line.result.now + 1 = omega (arith, c.in-Line.ensures.counts, ap length c.as_slice-line.ensures.value) in
    record {
      pairs = goes_on (g.I.Source.left c.args.input.now) (g.I.Source.left c.lines.input) c.lines.pairs.items c.lines.after c.lines.reader.used c.lines.reader.chunk c.lines.invariant.pairs
          (g.I.Source.left c.next.new.input) r.0 r.1 c.as_slice-line.result.now c.next.new.self.chunk c.add_pair.new.pairs.items c.in_ok-page-in-Line.page c.next.new.self.used l.0 l.1 counts c.in_ok-page-in-Line.ensures;
      unended = c.in-Line.ensures.goes_on refl;
      later = omega (arith, c.lines.invariant.later, c.in-Line.ensures.later);
    }

pub returns-in-End-clause-read : goal.returns-in-End-clause-read
returns-in-End-clause-read g c =
    let r = c.in-End.ensures.read in
    subst (λ (x : List (ℕ × List ℕ)). PairsEnded (g.I.Source.left c.args.input.now) (g.I.Source.left c.next.new.input) (Ok x)) (sym c.of-in-End.ensures)
    (ends_end (g.I.Source.left c.args.input.now) (g.I.Source.left c.lines.input) c.lines.pairs.items c.lines.after c.lines.reader.used c.lines.reader.chunk c.lines.invariant.pairs (g.I.Source.left c.next.new.input) r.0 r.1 r.2.0 r.2.1)

pub returns-in-TooLong-clause-read : goal.returns-in-TooLong-clause-read
returns-in-TooLong-clause-read g c =
    let r = c.in-TooLong.ensures.read in
    ends_limit (g.I.Source.left c.args.input.now) (g.I.Source.left c.lines.input) c.lines.pairs.items c.lines.after c.lines.reader.used c.lines.reader.chunk c.lines.invariant.pairs (g.I.Source.left c.next.new.input) r.0 r.1 r.2

pub returns-in-ReadFault-clause-read : goal.returns-in-ReadFault-clause-read
returns-in-ReadFault-clause-read g c =
    let r = c.in-ReadFault.ensures.read in
    ends_fault (g.I.Source.left c.args.input.now) (g.I.Source.left c.lines.input) c.lines.pairs.items c.lines.after c.lines.reader.used c.lines.reader.chunk c.lines.invariant.pairs (g.I.Source.left c.next.new.input) r.0 r.1 r.2

pub returns-in-ReadFault-clause-cause : goal.returns-in-ReadFault-clause-cause
returns-in-ReadFault-clause-cause g c = λ e. omega (arith, c.lines.invariant.later, c.in-ReadFault.ensures.cause refl)

pub returns-in-NoMemory-clause-read : goal.returns-in-NoMemory-clause-read
returns-in-NoMemory-clause-read g c =
    let r = c.in-NoMemory.ensures.read in
    ends_memory (g.I.Source.left c.args.input.now) (g.I.Source.left c.lines.input) c.lines.pairs.items c.lines.after c.lines.reader.used c.lines.reader.chunk c.lines.invariant.pairs (g.I.Source.left c.next.new.input) r.0 r.1
