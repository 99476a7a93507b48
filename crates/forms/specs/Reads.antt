-- What a reader of a request answers, as those of items (items/specs/Reads.antt), but for the request, which it writes into memory that is lent to it.
use Rattle.std.specs.Prelude.{List, ℕ, Option, Some, None}
use Rattle.std.specs.Borrow.{Bor}
use Rattle.text.specs.Token.{tokens}
use Rattle.items.specs.Grammar.{Parsed, got, none}

-- a was read into lent memory, and these bytes are left behind it; none where nothing was read, whatever the memory holds then
abbrev pub read_into : {A : Type 0} → A → Option (Bor (List ℕ)) → Parsed A
read_into a (Some rest) = got a (tokens rest.now)
read_into a None = none
