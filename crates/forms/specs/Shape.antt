-- Document 01, Lines of the panel: the shapes of its forms. Those of cells and parts are in parts/specs/Shape.antt, those of lines in
-- request/specs/Shape.antt.
use Rattle.std.specs.Prelude.{List, [], ◌∷◌, ℕ, length, Option, Some, None}
use Rattle.record.specs.declared.Rule.{Rule}
use Rattle.record.specs.declared.Rule.TheVariants.{New, Old}
use Rattle.record.specs.declared.Mode.{Mode}
use Rattle.record.specs.declared.Mode.TheVariants.{Trimmed, Voided, Partial}
use Rattle.record.specs.declared.Part.{Part}
use Rattle.record.specs.declared.Hold.{Hold}
use Rattle.record.specs.Filler.{no_part, padded}
use Rattle.text.specs.Token.{Token}
use Rattle.items.specs.Grammar.{Parsed, got, ◌and_then◌, open?, close?, run?, head?, named, behind?, number?, nth, last_numbers?, several?}
use Rattle.parts.specs.Shape.{part?}
use Rattle.forms.specs.declared.RuleWord.{RuleWord}
use Rattle.forms.specs.declared.RuleWord.TheVariants.{NewWord, OldWord}
use Rattle.forms.specs.declared.FormWord.{FormWord}
use Rattle.forms.specs.declared.FormWord.TheVariants.{ShipWord, ColumnWord, LoadWord, HoldWord, DropWord, JudgeWord, ClearWord}
use Rattle.forms.specs.declared.Request.TheVariants.{ShipLine, ColumnLine, LoadLine, HoldLine, DropLine, JudgeLine, ClearLine}
use Rattle.forms.specs.declared.Request.{Request}

-- `RULE EDGE FLOOD)` behind `(ship`
abbrev pub rule_named : List ℕ → Option RuleWord
rule_named r = named (("new", Some NewWord) ∷ ("old", Some OldWord) ∷ []) None r

abbrev pub rule_of : RuleWord → ℕ → Rule
rule_of NewWord edge = New edge
rule_of OldWord edge = Old edge

abbrev pub ship_request : RuleWord → List ℕ → Request
ship_request w v = ShipLine (record { rule = rule_of w (nth v 0); flood = nth v 1 })

abbrev pub ship_by : RuleWord → List Token → Parsed Request
ship_by w ts = last_numbers? 2 ts and_then λ v us. got (ship_request w v) us

abbrev pub ship? : List Token → Parsed Request
ship? ts = run? ts and_then λ r us. behind? ship_by (rule_named r) us

-- `D KM (K .. K))` behind `(column`
abbrev pub column? : List Token → Parsed Request
column? ts =
    number? ts and_then λ d t1.
    number? t1 and_then λ km t2.
    open? t2 and_then λ u t3.
    last_numbers? 10 t3 and_then λ kn t4.
    close? t4 and_then λ u t5.
    got (ColumnLine (record { d = d; km = km; kn = kn })) t5

-- `D KG FS)` behind `(load`
abbrev pub load? : List Token → Parsed Request
load? ts =
    number? ts and_then λ d us.
    last_numbers? 2 us and_then λ v ws.
    got (LoadLine (record { d = d; kg = nth v 0; fs = nth v 1 })) ws

-- a hold of these parts
abbrev pub hold_record : Mode → ℕ → List Part → Hold
hold_record mode factor ps =
    record { head = record { mode = mode; factor = factor; count = length ps }; parts = padded 6 no_part ps }

-- `SF PART ..)` behind the mode, with one to six parts
abbrev pub parts? : ℕ → Mode → List Token → Parsed Request
parts? n mode ts =
    number? ts and_then λ factor us.
    several? 6 (part? mode) us and_then λ ps ws.
    got (HoldLine n (hold_record mode factor ps)) ws

-- `N MODE ..` behind `(hold`
abbrev pub mode_named : List ℕ → Option Mode
mode_named r = named (("trimmed", Some Trimmed) ∷ ("voided", Some Voided) ∷ ("partial", Some Partial) ∷ []) None r

abbrev pub hold? : List Token → Parsed Request
hold? ts =
    number? ts and_then λ n us.
    run? us and_then λ r ws.
    behind? (parts? n) (mode_named r) ws

-- `N)` behind `(drop`
abbrev pub drop? : List Token → Parsed Request
drop? ts = number? ts and_then λ n us. close? us and_then λ u ws. got (DropLine n) ws

-- `)` behind `(judge` and `(clear`
abbrev pub bare? : Request → List Token → Parsed Request
bare? r ts = close? ts and_then λ u us. got r us

-- a form of document 01, by its first word: its word, and the shape of what stands behind it
abbrev pub form_word : List ℕ → Option FormWord
form_word r =
    named
    (("ship", Some ShipWord)
    ∷ ("column", Some ColumnWord)
    ∷ ("load", Some LoadWord)
    ∷ ("hold", Some HoldWord)
    ∷ ("drop", Some DropWord)
    ∷ ("judge", Some JudgeWord)
    ∷ ("clear", Some ClearWord)
    ∷ [])
    None
    r

abbrev pub form_by : FormWord → List Token → Parsed Request
form_by ShipWord ts = ship? ts
form_by ColumnWord ts = column? ts
form_by LoadWord ts = load? ts
form_by HoldWord ts = hold? ts
form_by DropWord ts = drop? ts
form_by JudgeWord ts = bare? JudgeLine ts
form_by ClearWord ts = bare? ClearLine ts

abbrev pub form? : List Token → Parsed Request
form? ts = head? ts and_then λ r us. behind? form_by (form_word r) us
