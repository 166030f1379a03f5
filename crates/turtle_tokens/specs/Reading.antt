-- How the token that the code reads is seen.
use Rattle.std.specs.Prelude.{ℕ, List, Option, Some, None}
use Rattle.std.specs.Borrow.{Bor}
use Rattle.std.specs.Str.{chars}
use Rattle.turtle_tokens.specs.declared.kinds.TokenKind.{TokenKind}

-- the kind, and the characters of the rest
abbrev pub token_view : Option (TokenKind × Bor (List ℕ)) → Option (TokenKind × List ℕ)
token_view None = None
token_view (Some x) = Some (x.0, chars x.1.now)
