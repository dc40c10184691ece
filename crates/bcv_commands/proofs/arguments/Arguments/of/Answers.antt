use Rattle.std.proofs.Common.{◌≡◌, ℕ, ◌+◌, ◌∙◌, List, ◌++◌, true, false, Some, map, length, take, take_all, drop, sym, ap, String, Global, ◌-◌, arith}
use Rattle.std.specs.Prelude.{Option, string_bytes}
use Rattle.std.specs.List.{list_all}
use Rattle.std.proofs.lemmas.List.{length-drop}
use Rattle.bcv_commands.specs.Commands.{is_plain}
use Rattle.bcv_commands.proofs.Mapped.{refused_words, taken_words}
use Rattle.bcv_commands.proofs.arguments.Arguments.of.Goals as goal

pub returns-then-not-all_plain : goal.returns-then-not-all_plain
returns-then-not-all_plain c =
    let words = c.args.words.now in
    let end = c.dashes_in-end.result in
    let h : list_all (λ (w : String Global). is_plain (string_bytes w)) (take end words) ≡ false = cc in
    sym (refused_words string_bytes words end c.dashes_in-end.ensures.place h)

pub returns : goal.returns
returns c =
    let words = c.args.words.now in
    let end = c.dashes_in-end.result in
    let h : list_all (λ (w : String Global). is_plain (string_bytes w)) (take end words) ≡ true = cc in
    let rest : take (length words - c.min.result) (drop c.min.result words) ≡ drop c.min.result words = take_all (length words - c.min.result) (drop c.min.result words) (omega (arith, length-drop c.min.result words)) in
    ap (λ (l : List (String Global)). let o : Option (List (List ℕ)) = Some (map string_bytes (take end words) ++ map string_bytes l) in o) rest
    ∙ ap (λ (n : ℕ). let o : Option (List (List ℕ)) = Some (map string_bytes (take end words) ++ map string_bytes (drop n words)) in o) c.min.ensures
    ∙ sym (taken_words string_bytes words end c.dashes_in-end.ensures.place h)
