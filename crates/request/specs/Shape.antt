-- Document 01, Lines of the panel, and document 02: the shapes of lines. A line that is none of them is code 14. Those of document 01's forms are in
-- forms/specs/Shape.antt.
use Rattle.std.specs.Prelude.{cond, List, [], ◌∷◌, ℕ, Option, Some, option_map}
use Prim.Native.String.{String}
use Rattle.record.specs.declared.Weighing.TheVariants.{Weight, Weighed, Unweigh}
use Rattle.text.specs.Token.{Token}
use Rattle.items.specs.Grammar.{Parsed, got, ◌and_then◌, head?, is, named, behind?, number?, nth, last_numbers?, whole?}
use Rattle.forms.specs.declared.Request.{Request}
use Rattle.forms.specs.declared.Request.TheVariants.{ShowLine, TotalLine, WeighingLine}
use Rattle.forms.specs.Shape.{bare?, form_word, form_by, form?}
use Rattle.request.specs.declared.LineWord.{LineWord}
use Rattle.request.specs.declared.LineWord.TheVariants.{OfForm, TotalWord, WeightWord, WeighedWord, UnweighWord}

-- `FORM)` behind `(show`: any of document 01's forms
abbrev pub show? : List Token → Parsed Request
show? ts = form? ts and_then λ r us. bare? ShowLine us

-- document 02, P5: `T H)` behind `(weight`, and `FS)` behind `(weighed`
abbrev pub weight? : List Token → Parsed Request
weight? ts =
    number? ts and_then λ t us.
    last_numbers? 1 us and_then λ v ws.
    got (WeighingLine (Weight (record { tonnes = t; height = nth v 0 }))) ws

abbrev pub weighed? : List Token → Parsed Request
weighed? ts = last_numbers? 1 ts and_then λ v us. got (WeighingLine (Weighed (nth v 0))) us

-- a line but show, by its first word: the lines that no show takes, and document 01's forms; and the shape of what stands behind the word
abbrev pub line_words : List (String × Option LineWord)
line_words = ("total", Some TotalWord) ∷ ("weight", Some WeightWord) ∷ ("weighed", Some WeighedWord) ∷ ("unweigh", Some UnweighWord) ∷ []

abbrev pub line_word : List ℕ → Option LineWord
line_word r = named line_words (option_map OfForm (form_word r)) r

abbrev pub line_by : LineWord → List Token → Parsed Request
line_by (OfForm w) ts = form_by w ts
line_by TotalWord ts = bare? TotalLine ts
line_by WeightWord ts = weight? ts
line_by WeighedWord ts = weighed? ts
line_by UnweighWord ts = bare? (WeighingLine Unweigh) ts

-- a line: a show of a form, or by its first word
abbrev pub line? : List Token → Parsed Request
line? ts = head? ts and_then λ r us. cond (is r "show") (show? us) (behind? line_by (line_word r) us)

-- the request of a line's tokens; none where they are no shape
unfoldable pub request_of : List Token → Option Request
request_of ts = whole? (line? ts)
