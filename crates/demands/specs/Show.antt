-- Document 02, P2, in its own words: what show takes, what it replies, and that the reply can be sent again.
use Rattle.std.specs.Prelude.{◌≡◌, List, [], ◌∷◌, ◌++◌, ◌↔◌, ℕ, ◌≤◌, length, replicate, Option, Some, None}
use Rattle.text.specs.Token.{tokens}
use Rattle.line_codes.specs.Codes.{OneForm, BeginsWithShow}
use Rattle.spelling.specs.SoSpelled.{SoSpelled}
use Rattle.forms.specs.declared.Request.{Request}
use Rattle.forms.specs.declared.Request.TheVariants.{ShowLine}
use Rattle.showing.specs.Laws.{OfDocument01}
use Rattle.condition.specs.declared.Condition.{Condition}
use Rattle.panel.specs.Step.{Outcome, step_of}
use Rattle.demands.specs.Codes.{request, SoundLine, Asks}

-- `(show LINE)`: a line that begins with the word `show` (line_codes/specs/Codes.antt), and behind it the line inside, a bracket and spaces
pub record ShowAround (line inner : List ℕ) : Type 0 where
  pub begins : BeginsWithShow line
  pub spaces : ℕ
  pub rest : begins.behind ≡ inner ++ (41 ∷ replicate spaces 32)

-- a line to which none of 10 to 13 and 15 applies is a show exactly where the line inside it has the shape of a form of document 01 (14 around
-- anything else: a show, nothing, two forms, a part alone)
abbrev pub ShowsAForm : Type 0
ShowsAForm =
    (line : List ℕ) (lent : ℕ) →
    Asks line lent (Some ShowLine) ↔ ((96 ≤ lent) × SoundLine line × ((inner : List ℕ) × ShowAround line inner × OfDocument01 (request inner)))

-- no line of a shape is five deep: five deep behind `show` turns 12 into 13 or 14, and takes no line
abbrev pub ShapesAreFourDeep : Type 0
ShapesAreFourDeep = (line : List ℕ) (lent : ℕ) (form : Option Request) → Asks line lent form → (form ≡ None → ⊥) → OneForm 4 line

-- a show with room for its reply: 00, and nothing changed
pub record Shown (c : Condition) (line : List ℕ) (o : Outcome) : Type 0 where
  pub code : o.code ≡ 0
  pub after : o.after ≡ c
  -- around a line to which none of 10 to 13 applies
  pub inner : List ℕ
  pub around : ShowAround line inner
  pub sound : SoundLine inner
  -- the reply is that line with single spaces between items and nowhere else, and a newline
  pub spelled : List ℕ
  pub reply : o.reply ≡ spelled ++ 10 ∷ []
  pub so : SoSpelled spelled
  pub same : tokens spelled ≡ tokens inner
  -- a form that is so spelled comes back unchanged, however many spaces stand around it
  pub own : (form : List ℕ) (m n : ℕ) → inner ≡ replicate m 32 ++ (form ++ replicate n 32) → SoSpelled form → spelled ≡ form
  -- the reply fits into the 2,100 bytes; without its newline, where it is no longer than a line may be, it has the outcome of the line that was
  -- shown
  pub fits : length o.reply ≤ 2049
  pub copied : length spelled ≤ 2000 → (d : Condition) (lent : ℕ) → step_of d spelled lent ≡ step_of d inner lent

abbrev pub ShowsTheForm : Type 0
ShowsTheForm = (c : Condition) (line : List ℕ) (lent : ℕ) → Asks line lent (Some ShowLine) → 2100 ≤ lent → Shown c line (step_of c line lent)
