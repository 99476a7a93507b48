-- What the program hears of a line first. The laws of `panel` lead from this to its `step_of`; no reader has to believe it.
use Rattle.std.specs.Prelude.{◌≡◌, List, ℕ, Option, Some, None, option_map, Result, Ok, Err}
use Rattle.text.specs.Token.{tokens}
use Rattle.line_codes.specs.declared.Fault.{Fault}
use Rattle.line_codes.specs.declared.Fault.TheVariants.{NoShape}
use Rattle.line_codes.specs.Line.{Reading, reading_of}
use Rattle.line_codes.specs.Alike.{AllowedLine}
use Rattle.forms.specs.declared.Request.{Request}
use Rattle.forms.specs.Carried.{carried_request}
use Rattle.request.specs.Shape.{request_of}

-- a request, or why there is none: the line is none of the shapes
abbrev pub shaped : Option Request → Result Request Fault
shaped (Some r) = Ok r
shaped None = Err NoShape

-- the tests of the whole line come first
abbrev pub heard_by : Option Request → Reading → Result Request Fault
heard_by r (Ok u) = shaped r
heard_by r (Err f) = Err f

abbrev pub heard_of : List ℕ → Result Request Fault
heard_of line = heard_by (option_map carried_request (request_of (tokens line))) (reading_of line)

-- what was heard, where the program's answer and the request in lent memory are these: that request, or why there is none, whatever the memory holds then
abbrev pub heard_in : Request → Result (Unit {0}) Fault → Result Request Fault
heard_in r (Ok u) = Ok r
heard_in r (Err f) = Err f

-- a line whose bytes pass their tests passes those of its form too, where it has a shape: the program reads the shape before it tests the form
abbrev pub ShapesAreSound : Type 0
ShapesAreSound = (line : List ℕ) → AllowedLine line → (request_of (tokens line) ≡ None → ⊥) → reading_of line ≡ Ok tt
