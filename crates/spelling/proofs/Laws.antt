-- The laws of the one spelling.
use mathlib.Core.Path.{sym, ◌∙◌, ap}
use Rattle.spelling.specs.Spelling.{spell}
use Rattle.spelling.specs.Laws.{EveryLineIsProper, TokensAreKept, SpelledSo, OwnSpelling, SpelledOnce, LengthOfSpelling, LongerByBrackets}
use Rattle.spelling.proofs.Reading.{tokens_spell, tokens_proper}
use Rattle.spelling.proofs.Own.{own_spelling}
use Rattle.spelling.proofs.Spelled.{spelled_so}
use Rattle.spelling.proofs.Lengths.{spell_length, longer_by}

pub every_line_is_proper : EveryLineIsProper
every_line_is_proper = tokens_proper

pub tokens_are_kept : TokensAreKept
tokens_are_kept = tokens_spell

pub what_is_spelled_is_so_spelled : SpelledSo
what_is_spelled_is_so_spelled = spelled_so

pub own : OwnSpelling
own = own_spelling

pub spelled_once : SpelledOnce
spelled_once a b p q e = sym (own_spelling a p) ∙ ap spell e ∙ own_spelling b q

pub length_of_spelling : LengthOfSpelling
length_of_spelling = spell_length

pub longer_by_brackets : LongerByBrackets
longer_by_brackets = longer_by
