-- What the grammar of lines yields, said once for any property of a request, by what its parts or its numbers make of it.
use mathlib.Core.Path.{◌≡◌}
use mathlib.Core.List.{List}
use Prim.Native.Nat.{ℕ}
use Rattle.record.specs.declared.Mode.{Mode}
use Rattle.record.specs.declared.Part.{Part}
use Rattle.std.specs.Prelude.{Some}
use Rattle.text.specs.Token.{Token}
use Rattle.items.specs.Grammar.{head?, is, number?, last_numbers?}
use Rattle.items.proofs.Yields.{Yields, yields, yields_then, yields_if, yields_behind, yields_whole, Several}
use Rattle.parts.specs.Shape.{part?}
use Rattle.forms.specs.declared.Request.{Request}
use Rattle.forms.specs.declared.Request.TheVariants.{HoldLine}
use Rattle.forms.specs.Shape.{hold_record, form?}
use Rattle.forms.proofs.Forms.{NoHold, bare_yields, form_by_yields}
use Rattle.request.specs.declared.LineWord.{LineWord}
use Rattle.request.specs.declared.LineWord.TheVariants.{OfForm, TotalWord, WeightWord, WeighedWord, UnweighWord}
use Rattle.request.specs.Shape.{show?, line_word, line_by, line?, request_of}

-- ---- a request: a hold of parts that were read, or one without
module _ (P : Request → Type 0) (Q : Mode → Part → Type 0) (part : (m : Mode) (ts : List Token) → Yields (Q m) (part? m ts)) (hold : (n : ℕ) (m : Mode) (factor : ℕ) (ps : List Part) → Several (Q m) 6 ps → P (HoldLine n (hold_record m factor ps))) (other : (r : Request) → NoHold r → P r) where
  show_yields : (ts : List Token) → Yields P (show? ts)
  show_yields ts = yields_then (form? ts) (λ r us. bare_yields P Q part hold other _ tt us)

  line_by_yields : (w : LineWord) (us : List Token) → Yields P (line_by w us)
  line_by_yields (OfForm w) us = form_by_yields P Q part hold other w us
  line_by_yields TotalWord us = bare_yields P Q part hold other _ tt us
  line_by_yields WeightWord us =
      yields_then (number? us) (λ t vs. yields_then (last_numbers? 1 vs) (λ v ws. yields (other _ tt)))
  line_by_yields WeighedWord us = yields_then (last_numbers? 1 us) (λ v ws. yields (other _ tt))
  line_by_yields UnweighWord us = bare_yields P Q part hold other _ tt us

  line_yields : (ts : List Token) → Yields P (line? ts)
  line_yields ts = yields_then (head? ts) (λ r us. yields_if (is r "show") (show_yields us) (yields_behind (line_word r) line_by_yields us))

  pub request_has : (ts : List Token) (r : Request) → request_of ts ≡ Some r → P r
  unfolding request_of
  request_has ts r e = yields_whole P r (line_yields ts) e
