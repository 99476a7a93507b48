-- Document 01, Lines of the panel, and document 02, P7: the shapes of cells and parts. A line with another is code 14.
use Rattle.std.specs.Prelude.{List, [], ◌∷◌, ℕ, length, Option, Some, None}
use Rattle.record.specs.declared.Mode.{Mode}
use Rattle.record.specs.declared.Mode.TheVariants.{Trimmed, Voided, Partial}
use Rattle.record.specs.declared.Cell.{Cell}
use Rattle.record.specs.declared.Cell.TheVariants.{Wing, Hatch, Void}
use Rattle.record.specs.declared.Slack.{Slack}
use Rattle.record.specs.declared.Slack.TheVariants.{Undivided, Split}
use Rattle.record.specs.declared.Part.{Part}
use Rattle.record.specs.Filler.{no_cell, no_slack, padded}
use Rattle.text.specs.Token.{Token}
use Rattle.items.specs.Grammar.{Parsed, got, none, ◌and_then◌, head?, named, behind?, number?, nth, last_numbers?, several?}
use Rattle.parts.specs.declared.CellWord.{CellWord}
use Rattle.parts.specs.declared.CellWord.TheVariants.{WingWord, HatchWord, VoidWord}
use Rattle.parts.specs.declared.PartWord.{PartWord}
use Rattle.parts.specs.declared.PartWord.TheVariants.{PlainWord, SplitWord}

-- a cell's word; how many numbers stand behind it, and the cell that they make:
-- `WIDTH DIST GIRDER LIP)`, `WIDTH OPEN LIP)`, `WIDTH DEPTH LIP)`
abbrev pub cell_named : List ℕ → Option CellWord
cell_named r = named (("wing", Some WingWord) ∷ ("hatch", Some HatchWord) ∷ ("void", Some VoidWord) ∷ []) None r

abbrev pub numbers_of : CellWord → ℕ
numbers_of WingWord = 4
numbers_of HatchWord = 3
numbers_of VoidWord = 3

abbrev pub cell_of : CellWord → List ℕ → Cell
cell_of WingWord v = Wing (nth v 0) (nth v 1) (nth v 2) (nth v 3)
cell_of HatchWord v = Hatch (nth v 0) (nth v 1) (nth v 2)
cell_of VoidWord v = Void (nth v 0) (nth v 1) (nth v 2)

-- a cell, by its word
abbrev pub cell_by : CellWord → List Token → Parsed Cell
cell_by w ts = last_numbers? (numbers_of w) ts and_then λ v us. got (cell_of w v) us

abbrev pub cell? : List Token → Parsed Cell
cell? ts = head? ts and_then λ r us. behind? cell_by (cell_named r) us

-- a part's word
abbrev pub part_named : List ℕ → Option PartWord
part_named r = named (("part", Some PlainWord) ∷ ("split", Some SplitWord) ∷ []) None r

-- a part of cells, and the two parts of four sizes; unused places are filled, so that equal records are equal values
abbrev pub section_record : ℕ → List Cell → Part
section_record length' cs = record { length = length'; slack = no_slack; count = length cs; cells = padded 8 no_cell cs }

abbrev pub slack_part : ℕ → Slack → Part
slack_part length' slack' = record { length = length'; slack = slack'; count = 0; cells = padded 8 no_cell [] }

abbrev pub slack_record : List ℕ → Part
slack_record v = slack_part (nth v 0) (Undivided (nth v 1) (nth v 2) (nth v 3))

abbrev pub split_record : List ℕ → Part
split_record v = slack_part (nth v 0) (Split (nth v 1) (nth v 2) (nth v 3))

-- `LENGTH CELL ..)` behind `(part`, with one to eight cells
abbrev pub section? : List Token → Parsed Part
section? ts =
    number? ts and_then λ v us.
    several? 8 cell? us and_then λ cs ws.
    got (section_record v cs) ws

-- `LENGTH BREADTH VOID GRAIN)` behind `(part`
abbrev pub slack? : List Token → Parsed Part
slack? ts = last_numbers? 4 ts and_then λ v us. got (slack_record v) us

-- `LENGTH RUN LEFT RIGHT)` behind `(split`
abbrev pub split? : List Token → Parsed Part
split? ts = last_numbers? 4 ts and_then λ v us. got (split_record v) us

-- the parts go by the mode and by their words; a split is a part of `partial` alone
abbrev pub body? : Mode → PartWord → List Token → Parsed Part
body? Trimmed PlainWord ts = section? ts
body? Trimmed SplitWord ts = none
body? Voided PlainWord ts = section? ts
body? Voided SplitWord ts = none
body? Partial PlainWord ts = slack? ts
body? Partial SplitWord ts = split? ts

abbrev pub part? : Mode → List Token → Parsed Part
part? mode ts = head? ts and_then λ r us. behind? (body? mode) (part_named r) us
