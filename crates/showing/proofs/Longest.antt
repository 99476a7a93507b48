-- The longest reply to a show: a line of 2,000 bytes with the most gaps and none of them spaced.
use mathlib.Core.Path.{◌≡◌, refl}
use mathlib.Core.List.{List}
use Prim.Native.Nat.{ℕ}
use lib.ListN.{length}
use Rattle.whole.specs.Lists.{within, all}
use Rattle.whole.specs.Bytes.{bytes}
use Rattle.text.specs.Token.{tokens, number_of, same, value_from}
use Rattle.std.specs.Prelude.{Some, Ok}
use Rattle.line_codes.specs.Line.{walked, reading_of}
use Rattle.spelling.specs.Spelling.{spell}
use Rattle.items.specs.Grammar.{items?, last_numbers?, numbers?, named}
use Rattle.forms.specs.declared.Request.TheVariants.{ShowLine}
use Rattle.request.specs.Shape.{request_of}
use Rattle.showing.specs.Show.{form_inside, show_reply}
use Rattle.showing.specs.Laws.{SomeShowIsSoLong}

abbrev longest : List ℕ
longest = bytes "(show(hold 111111111 trimmed 111111111(part 111111111(wing 11111111 11111111 11111111 11111111)(wing 11111111 11111111 11111111 11111111)(wing 11111111 11111111 11111111 11111111)(wing 11111111 11111111 11111111 11111111)(wing 11111111 11111111 11111111 11111111)(wing 11111111 11111111 11111111 11111111)(wing 11111111 11111111 11111111 11111111)(wing 11111111 11111111 11111111 11111111))(part 111111111(wing 11111111 11111111 11111111 11111111)(wing 11111111 11111111 11111111 11111111)(wing 1111111 1111111 1111111 1111111)(wing 1111111 1111111 1111111 1111111)(wing 1111111 1111111 1111111 1111111)(wing 1111111 1111111 1111111 1111111)(wing 1111111 1111111 1111111 1111111)(wing 1111111 1111111 1111111 1111111))(part 111111111(wing 1111111 1111111 1111111 1111111)(wing 1111111 1111111 1111111 1111111)(wing 1111111 1111111 1111111 1111111)(wing 1111111 1111111 1111111 1111111)(wing 1111111 1111111 1111111 1111111)(wing 1111111 1111111 1111111 1111111)(wing 1111111 1111111 1111111 1111111)(wing 1111111 1111111 1111111 1111111))(part 111111111(wing 1111111 1111111 1111111 1111111)(wing 1111111 1111111 1111111 1111111)(wing 1111111 1111111 1111111 1111111)(wing 1111111 1111111 1111111 1111111)(wing 1111111 1111111 1111111 1111111)(wing 1111111 1111111 1111111 1111111)(wing 1111111 1111111 1111111 1111111)(wing 1111111 1111111 1111111 1111111))(part 111111111(wing 1111111 1111111 1111111 1111111)(wing 1111111 1111111 1111111 1111111)(wing 1111111 1111111 1111111 1111111)(wing 1111111 1111111 1111111 1111111)(wing 1111111 1111111 1111111 1111111)(wing 1111111 1111111 1111111 1111111)(wing 1111111 1111111 1111111 1111111)(wing 1111111 1111111 1111111 1111111))(part 111111111(wing 1111111 1111111 1111111 1111111)(wing 1111111 1111111 1111111 1111111)(wing 1111111 1111111 1111111 1111111)(wing 1111111 1111111 1111111 1111111)(wing 1111111 1111111 1111111 1111111)(wing 1111111 1111111 1111111 1111111)(wing 1111111 1111111 1111111 1111111)(wing 1111111 1111111 1111111 1111111))))"

long : length longest ≡ 2000
long = refl

sound : reading_of longest ≡ Ok tt
unfolding reading_of all within walked tokens number_of same value_from
sound = refl

asks : request_of (tokens longest) ≡ Some ShowLine
unfolding tokens within request_of items? last_numbers? numbers? named number_of same value_from all
asks = refl

replied : length (show_reply (tokens longest)) ≡ 2049
unfolding tokens spell within form_inside
replied = refl

pub some_show_is_so_long : SomeShowIsSoLong
some_show_is_so_long = (longest, long, sound, asks, replied)
