-- Document 02, P2: what a show line replies.
use Rattle.std.specs.Prelude.{List, [], ◌∷◌, ◌++◌, ℕ, ◌-◌, length, take, drop}
use Rattle.text.specs.Token.{Token}
use Rattle.spelling.specs.Spelling.{spell}

-- the form inside a show form: behind the bracket and the word in front, before the last bracket
unfoldable pub form_inside : List Token → List Token
form_inside ts = take (length ts - 3) (drop 2 ts)

-- it, in the one spelling, and a newline
abbrev pub show_reply : List Token → List ℕ
show_reply ts = spell (form_inside ts) ++ 10 ∷ []
