-- The word `split` stands in no hold of mode trimmed or voided: each token that is read there is a bracket, a number or another word.
use mathlib.Core.Path.{◌≡◌, refl}
use mathlib.Core.List.{List, [], ◌∷◌, ◌++◌}
use Prim.Native.Nat.{ℕ, zero, suc}
use Rattle.std.specs.Prelude.{Option, Some, None}
use Rattle.whole.specs.Bytes.{bytes}
use Rattle.whole.specs.Lists.{within, all}
use Rattle.record.specs.declared.Mode.{Mode}
use Rattle.record.specs.declared.Mode.TheVariants.{Trimmed, Voided}
use Rattle.text.specs.Token.{Token, opened, closed, run, value_from, number_of, same}
use Rattle.items.specs.Grammar.{Parsed, got, none, ◌and_then◌, close?, run?, head?, named, behind?, number?, numbers?, last_numbers?, items?, some_of, several?, whole?}
use Rattle.parts.specs.declared.CellWord.{CellWord}
use Rattle.parts.specs.declared.PartWord.{PartWord}
use Rattle.parts.specs.declared.PartWord.TheVariants.{PlainWord, SplitWord}
use Rattle.parts.specs.Shape.{cell_named, numbers_of, cell_by, part_named, section?, body?}
use Rattle.forms.specs.declared.Request.{Request}
use Rattle.forms.specs.Shape.{mode_named, parts?}
use Rattle.request.specs.Shape.{request_of}
use Rattle.showing.specs.Laws.{ModeOfCells, trimmed, voided, NoSplitAmongCells}
use Rattle.showing.proofs.Shapes.{Leaves, leaves, nothing, leaves_with, leaves_behind, leaves_else}

-- ---- the word stands among tokens; no token that is read is the word, so that it stands among those that are left
data Stands : List Token → Type 0 where
  here : {ts : List Token} → Stands (run (bytes "split") ∷ ts)
  later : {t : Token} {ts : List Token} → Stands ts → Stands (t ∷ ts)

stands : (front behind : List Token) → Stands (front ++ run (bytes "split") ∷ behind)
stands [] behind = here
stands (t ∷ front) behind = later (stands front behind)

abbrev Keeps : {A : Type 0} → (List Token → Parsed A) → Type 0
Keeps p = (ts : List Token) → Stands ts → Leaves Stands (p ts)

-- ---- brackets and numbers
close_keeps : Keeps close?
close_keeps [] p = nothing
close_keeps (opened ∷ ts) p = nothing
close_keeps (closed ∷ ts) (later p) = leaves p
close_keeps (run r ∷ ts) p = nothing

number_keeps : Keeps number?
unfolding number_of all within value_from
number_keeps [] p = nothing
number_keeps (opened ∷ ts) p = nothing
number_keeps (closed ∷ ts) p = nothing
number_keeps (run r ∷ ts) here = nothing
number_keeps (run r ∷ ts) (later p) = leaves_behind (number_of r) ts p (λ v us q. leaves q)

numbers_keep : (k : ℕ) → Keeps (numbers? k)
unfolding numbers?
numbers_keep zero ts p = leaves p
numbers_keep (suc k) ts p = leaves_with (number_keeps ts p) (λ v us q. leaves_with (numbers_keep k us q) (λ vs ws w. leaves w))

last_keeps : (k : ℕ) → Keeps (last_numbers? k)
unfolding last_numbers?
last_keeps k ts p = leaves_with (numbers_keep k ts p) (λ vs us q. leaves_with (close_keeps us q) (λ u ws w. leaves w))

-- ---- items that open with another word, up to a closing bracket
module _ {A : Type 0} (body : List ℕ → List Token → Parsed A) (other : (us : List Token) → body (bytes "split") us ≡ none) (each : (r : List ℕ) → Keeps (body r)) where
  abbrev item : List Token → Parsed A
  item ts = head? ts and_then body

  item_keeps : Keeps item
  item_keeps [] p = nothing
  item_keeps (closed ∷ ts) p = nothing
  item_keeps (run r ∷ ts) p = nothing
  item_keeps (opened ∷ []) p = nothing
  item_keeps (opened ∷ opened ∷ ts) p = nothing
  item_keeps (opened ∷ closed ∷ ts) p = nothing
  item_keeps (opened ∷ run r ∷ ts) (later here) = rw (other ts) nothing
  item_keeps (opened ∷ run r ∷ ts) (later (later p)) = each r ts p

  items_keep : (k : ℕ) → Keeps (items? k item)
  unfolding items?
  items_keep zero ts p = leaves_with (close_keeps ts p) (λ u us q. leaves q)
  items_keep (suc k) ts p =
      leaves_else (leaves_with (close_keeps ts p) (λ u us q. leaves q))
      (leaves_with (item_keeps ts p) (λ x us q. leaves_with (items_keep k us q) (λ xs ws w. leaves w)))

  some_keep : (xs : List A) → Keeps (some_of xs)
  some_keep [] ts p = nothing
  some_keep (x ∷ xs) ts p = leaves {a = x ∷ xs} p

  several_keep : (k : ℕ) → Keeps (several? k item)
  several_keep k ts p = leaves_with (items_keep k ts p) some_keep

-- ---- parts of cells
cell_keeps : (w : CellWord) → Keeps (cell_by w)
cell_keeps w us p = leaves_with (last_keeps (numbers_of w) us p) (λ v ws q. leaves q)

section_keeps : Keeps section?
unfolding named same
section_keeps ts p =
    leaves_with (number_keeps ts p) (λ v us q.
    leaves_with (several_keep (λ r vs. behind? cell_by (cell_named r) vs) (λ vs. refl) (λ r vs s. leaves_behind (cell_named r) vs s cell_keeps) 8 us q) (λ cs ws w. leaves w))

-- of a mode whose parts have cells
module _ (m : Mode) (cells : (us : List Token) → body? m PlainWord us ≡ section? us) (no_split : (us : List Token) → body? m SplitWord us ≡ none) where
  body_keeps : (w : PartWord) → Keeps (body? m w)
  body_keeps PlainWord us p = rw (cells us) (section_keeps us p)
  body_keeps SplitWord us p = rw (no_split us) nothing

  parts_keep : (n : ℕ) → Keeps (parts? n m)
  unfolding named same
  parts_keep n ts p =
      leaves_with (number_keeps ts p) (λ f us q.
      leaves_with (several_keep (λ r vs. behind? (body? m) (part_named r) vs) no_split (λ r vs s. leaves_behind (part_named r) vs s body_keeps) 6 us q) (λ ps ws w. leaves w))

-- ---- a line: N, whatever it is, and the mode
hold_keeps : (n : Option ℕ) (mode : List ℕ) (ts : List Token) → ModeOfCells mode → Stands ts →
    Leaves Stands (behind? got n (run mode ∷ ts) and_then λ n us. run? us and_then λ r ws. behind? (parts? n) (mode_named r) ws)
unfolding named same
hold_keeps None mode ts m p = nothing
hold_keeps (Some n) mode ts trimmed p = parts_keep Trimmed (λ us. refl) (λ us. refl) n ts p
hold_keeps (Some n) mode ts voided p = parts_keep Voided (λ us. refl) (λ us. refl) n ts p

left_none : {r : Parsed Request} → Leaves Stands r → whole? r ≡ None
left_none (leaves {ts = []} p) = elim p [ ]
left_none (leaves {ts = t ∷ ts} p) = refl
left_none nothing = refl

pub no_split_among_cells : NoSplitAmongCells
unfolding request_of named same
no_split_among_cells n mode front behind m =
    left_none (hold_keeps (number_of n) mode (front ++ run (bytes "split") ∷ behind) m (stands front behind))
