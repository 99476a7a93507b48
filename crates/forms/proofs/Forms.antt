-- What the grammar of forms yields, said once for any property of a request, by what its parts or its numbers make of it.
use mathlib.Core.Path.{◌≡◌}
use mathlib.Core.List.{List}
use Prim.Native.Nat.{ℕ}
use lib.ListN.{length}
use Rattle.record.specs.declared.Mode.{Mode}
use Rattle.record.specs.declared.Part.{Part}
use Rattle.text.specs.Token.{Token}
use Rattle.items.specs.Grammar.{open?, close?, run?, number?, last_numbers?}
use Rattle.items.proofs.Yields.{Yields, yields, yields_with, yields_then, yields_behind, last_yield, Several, several_yield}
use Rattle.parts.specs.Shape.{part?}
use Rattle.forms.specs.declared.FormWord.{FormWord}
use Rattle.forms.specs.declared.FormWord.TheVariants.{ShipWord, ColumnWord, LoadWord, HoldWord, DropWord, JudgeWord, ClearWord}
use Rattle.forms.specs.declared.Request.{Request}
use Rattle.forms.specs.declared.Request.TheVariants.{ShipLine, ColumnLine, LoadLine, HoldLine, DropLine, JudgeLine, ClearLine, ShowLine, TotalLine, WeighingLine}
use Rattle.forms.specs.Shape.{hold_record, rule_named, ship?, column?, load?, mode_named, parts?, hold?, drop?, bare?, form_by}

-- a request that has no hold, and ten KN where it has a column
abbrev pub NoHold : Request → Type 0
NoHold (ShipLine s) = Unit {0}
NoHold (ColumnLine k) = length k.kn ≡ 10
NoHold (LoadLine l) = Unit {0}
NoHold (HoldLine n h) = ⊥
NoHold (DropLine n) = Unit {0}
NoHold JudgeLine = Unit {0}
NoHold ClearLine = Unit {0}
NoHold ShowLine = Unit {0}
NoHold TotalLine = Unit {0}
NoHold (WeighingLine w) = Unit {0}

-- ---- a request: a hold of parts that were read, or one without
module _ (P : Request → Type 0) (Q : Mode → Part → Type 0) (part : (m : Mode) (ts : List Token) → Yields (Q m) (part? m ts)) (hold : (n : ℕ) (m : Mode) (factor : ℕ) (ps : List Part) → Several (Q m) 6 ps → P (HoldLine n (hold_record m factor ps))) (other : (r : Request) → NoHold r → P r) where
  parts_yield : (n : ℕ) (m : Mode) (ts : List Token) → Yields P (parts? n m ts)
  parts_yield n m ts =
      yields_then (number? ts) (λ factor us.
      yields_with (several_yield (Q m) (part? m) (part m) 6 us) (λ ps ws s. yields (hold n m factor ps s)))

  hold_yields : (ts : List Token) → Yields P (hold? ts)
  hold_yields ts = yields_then (number? ts) (λ n us. yields_then (run? us) (λ r ws. yields_behind (mode_named r) (parts_yield n) ws))

  ship_yields : (ts : List Token) → Yields P (ship? ts)
  ship_yields ts = yields_then (run? ts) (λ r us. yields_behind (rule_named r) (λ w vs. yields_then (last_numbers? 2 vs) (λ v ws. yields (other _ tt))) us)

  column_yields : (ts : List Token) → Yields P (column? ts)
  column_yields ts =
      yields_then (number? ts) (λ d t1. yields_then (number? t1) (λ km t2. yields_then (open? t2) (λ u t3.
      yields_with (last_yield 10 t3) (λ kn t4 ten. yields_then (close? t4) (λ u t5. yields (other (ColumnLine _) ten))))))

  load_yields : (ts : List Token) → Yields P (load? ts)
  load_yields ts =
      yields_then (number? ts) (λ d us. yields_then (last_numbers? 2 us) (λ v ws. yields (other _ tt)))

  drop_yields : (ts : List Token) → Yields P (drop? ts)
  drop_yields ts = yields_then (number? ts) (λ d us. yields_then (close? us) (λ u ws. yields (other _ tt)))

  pub bare_yields : (r : Request) → NoHold r → (ts : List Token) → Yields P (bare? r ts)
  bare_yields r h ts = yields_then (close? ts) (λ u us. yields (other r h))

  pub form_by_yields : (w : FormWord) (us : List Token) → Yields P (form_by w us)
  form_by_yields ShipWord us = ship_yields us
  form_by_yields ColumnWord us = column_yields us
  form_by_yields LoadWord us = load_yields us
  form_by_yields HoldWord us = hold_yields us
  form_by_yields DropWord us = drop_yields us
  form_by_yields JudgeWord us = bare_yields JudgeLine tt us
  form_by_yields ClearWord us = bare_yields ClearLine tt us
