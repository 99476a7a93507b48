-- A record as the form that sends it: its tokens, each number in decimal.
use Rattle.std.specs.Prelude.{List, [], ◌∷◌, ◌++◌, map, ℕ}
use Prim.Native.String.{String}
use Rattle.whole.specs.Bytes.{bytes}
use Rattle.record.specs.declared.Rule.{Rule}
use Rattle.record.specs.declared.Rule.TheVariants.{New, Old}
use Rattle.record.specs.declared.Ship.{Ship}
use Rattle.record.specs.declared.Load.{Load}
use Rattle.record.specs.declared.Column.{Column}
use Rattle.record.specs.declared.Mode.{Mode}
use Rattle.record.specs.declared.Mode.TheVariants.{Trimmed, Voided, Partial}
use Rattle.record.specs.declared.Cell.{Cell}
use Rattle.record.specs.declared.Cell.TheVariants.{Wing, Hatch, Void}
use Rattle.record.specs.declared.Slack.{Slack}
use Rattle.record.specs.declared.Slack.TheVariants.{Undivided, Split}
use Rattle.record.specs.declared.Part.{Part}
use Rattle.record.specs.declared.Hold.{Hold}
use Rattle.record.specs.declared.WeightItem.{WeightItem}
use Rattle.record.specs.Held.{cells_of, parts_of}
use Rattle.record.specs.Held.{edge}
use Rattle.text.specs.Token.{Token, opened, closed, run}
use Rattle.reply.specs.Written.{decimal}

abbrev pub word : String → Token
word w = run (bytes w)

abbrev pub number : ℕ → Token
number n = run (decimal n)

abbrev pub numbers : List ℕ → List Token
numbers vs = map number vs

-- the form of this word and these items
abbrev pub form : String → List Token → List Token
form w items = opened ∷ word w ∷ items ++ closed ∷ []

-- the forms of a list, one behind the other
unfoldable pub each_form : {A : Type 0} → (A → List Token) → List A → List Token
each_form f [] = []
each_form f (x ∷ xs) = f x ++ each_form f xs

-- `(ship RULE EDGE FLOOD)`
abbrev pub rule_word : Rule → String
rule_word (New edge) = "new"
rule_word (Old edge) = "old"

abbrev pub ship_tokens : Ship → List Token
ship_tokens s = form "ship" (word (rule_word s.rule) ∷ numbers (edge s.rule ∷ s.flood ∷ []))

-- `(load D KG FS)`
abbrev pub load_tokens : Load → List Token
load_tokens l = form "load" (numbers (l.d ∷ l.kg ∷ l.fs ∷ []))

-- `(column D KM (K .. K))`
abbrev pub column_tokens : Column → List Token
column_tokens k = form "column" (number k.d ∷ number k.km ∷ opened ∷ numbers k.kn ++ closed ∷ [])

-- `(wing WIDTH DIST GIRDER LIP)`, `(hatch WIDTH OPEN LIP)`, `(void WIDTH DEPTH LIP)`
abbrev pub cell_tokens : Cell → List Token
cell_tokens (Wing width dist girder lip) = form "wing" (numbers (width ∷ dist ∷ girder ∷ lip ∷ []))
cell_tokens (Hatch width opening lip) = form "hatch" (numbers (width ∷ opening ∷ lip ∷ []))
cell_tokens (Void width depth lip) = form "void" (numbers (width ∷ depth ∷ lip ∷ []))

-- `(part LENGTH CELL ..)`
abbrev pub section_items : Part → List Token
section_items p = number p.length ∷ each_form cell_tokens (cells_of p)

-- in mode partial `(part LENGTH BREADTH VOID GRAIN)`, `(split LENGTH RUN LEFT RIGHT)` (RUN is `along` here: `run` is a token)
abbrev pub slack_tokens : ℕ → Slack → List Token
slack_tokens length (Undivided breadth void grain) = form "part" (numbers (length ∷ breadth ∷ void ∷ grain ∷ []))
slack_tokens length (Split along left right) = form "split" (numbers (length ∷ along ∷ left ∷ right ∷ []))

abbrev pub part_tokens : Mode → Part → List Token
part_tokens Trimmed p = form "part" (section_items p)
part_tokens Voided p = form "part" (section_items p)
part_tokens Partial p = slack_tokens p.length p.slack

-- `(hold N MODE SF PART ..)`
abbrev pub mode_word : Mode → String
mode_word Trimmed = "trimmed"
mode_word Voided = "voided"
mode_word Partial = "partial"

abbrev pub hold_tokens : ℕ → Hold → List Token
hold_tokens n h =
    form "hold" (number n ∷ word (mode_word h.head.mode) ∷ number h.head.factor ∷ each_form (part_tokens h.head.mode) (parts_of h))

-- `(weight T H)`
abbrev pub item_tokens : WeightItem → List Token
item_tokens i = form "weight" (numbers (i.tonnes ∷ i.height ∷ []))
