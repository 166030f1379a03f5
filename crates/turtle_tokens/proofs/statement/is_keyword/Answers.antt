use Rattle.std.proofs.Common.{sym}
use Rattle.std.specs.Str.{str_to_ascii_lowercase, bytes_eq}
use Rattle.std.proofs.lemmas.Str.{encodes-chars}
use Rattle.std.proofs.lemmas.Slice.Eq.{bytes_eq-Decides}
use Rattle.turtle_tokens.proofs.CutLaws.{same_test}
use Rattle.turtle_tokens.proofs.statement.is_keyword.Goals as goal

pub returns-then-is_word : goal.returns-then-is_word
returns-then-is_word c =
    rw (sym c.if-is_word.ensures, encodes-chars c.args.text.now c.utf8.text)
    (same_test c.eq_ignore_ascii_case.result (bytes_eq (str_to_ascii_lowercase c.args.text.now) (str_to_ascii_lowercase c.args.keyword.now)) c.eq_ignore_ascii_case.ensures.test (bytes_eq-Decides (str_to_ascii_lowercase c.args.text.now) (str_to_ascii_lowercase c.args.keyword.now)))
