-- The one spelling as the program writes it: with each token the space in front of it. The law leads from it to Spelling.
use Rattle.std.specs.Prelude.{Bool, ◌&&◌, List, [], ◌∷◌, ◌++◌, ℕ}
use Rattle.text.specs.Token.{Token}
use Rattle.spelling.specs.Spelling.{ends_item, begins_item, written, space_if}

-- a token behind one that ended an item or not: its own bytes, and in front of them the space that parts it
abbrev pub piece : (ended : Bool) → Token → List ℕ
piece ended t = space_if (begins_item t && ended) ++ written t

-- the spelling of these tokens behind such a one
unfoldable pub spelled_after : (ended : Bool) → List Token → List ℕ
spelled_after ended [] = []
spelled_after ended (t ∷ ts) = piece ended t ++ spelled_after (ends_item t) ts
