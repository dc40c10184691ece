use Rattle.std.proofs.Common.{ℕ, ◌∙◌, sym, ap, length, String, Global, arith}
use Rattle.std.specs.Prelude.{Option, not, unwrap_or, string_bytes}
use Rattle.std.proofs.lemmas.List.Sums.{prefix_len-le-length}
use Rattle.bcv_commands.specs.Commands.{is_dashes}
use Rattle.bcv_commands.proofs.Mapped.{position_map, found_or_len}
use Rattle.bcv_commands.proofs.arguments.dashes_in.Goals as goal

pub returns-clause-place : goal.returns-clause-place
returns-clause-place c =
    c.unwrap_or.ensures ∙ ap (λ (o : Option ℕ). unwrap_or o (length c.args.words.now)) c.first_dashes.ensures
    ∙ found_or_len (λ (w : String Global). is_dashes (string_bytes w)) c.args.words.now
    ∙ sym (position_map string_bytes is_dashes c.args.words.now)

pub returns-clause-within : goal.returns-clause-within
returns-clause-within c =
    omega (
      arith,
      c.unwrap_or.ensures,
      ap (λ (o : Option ℕ). unwrap_or o (length c.args.words.now)) c.first_dashes.ensures,
      found_or_len (λ (w : String Global). is_dashes (string_bytes w)) c.args.words.now,
      prefix_len-le-length (λ (w : String Global). not (is_dashes (string_bytes w))) c.args.words.now,
    )
