-- What the grammar of parts yields, said once for any property; and that a part that was read is carried as it is within its limits, since its
-- unused fields are 0 and its unused places fillers.
use mathlib.Core.Path.{◌≡◌, refl, ◌∙◌}
use mathlib.Core.Bool.{Bool, true}
use mathlib.Core.List.{List, [], ◌∷◌, map}
use Prim.Native.Nat.{ℕ, ◌-◌, ◌≤◌}
use lib.ListN.{length, take, replicate}
use lib.Seq.{take_at}
use Rattle.whole.specs.Lists.{all}
use Rattle.record.specs.declared.Cell.{Cell}
use Rattle.record.specs.declared.Mode.{Mode}
use Rattle.record.specs.declared.Mode.TheVariants.{Trimmed, Voided, Partial}
use Rattle.record.specs.declared.Slack.{Slack}
use Rattle.record.specs.declared.Part.{Part}
use Rattle.record.specs.Held.{cells_of}
use Rattle.record.specs.Filler.{no_cell, padded}
use Rattle.limits.specs.Limits.{section_limits, slack_limits, part_limits}
use Rattle.text.specs.Token.{Token}
use Rattle.items.specs.Grammar.{head?, number?, last_numbers?}
use Rattle.items.proofs.Kept.{kept_more}
use Rattle.items.proofs.Yields.{Yields, yields, nothing, yields_with, yields_then, yields_behind, anything, Each, several_yield}
use Rattle.parts.specs.declared.PartWord.{PartWord}
use Rattle.parts.specs.declared.PartWord.TheVariants.{PlainWord, SplitWord}
use Rattle.parts.specs.Shape.{part_named, section_record, slack_part, cell?, section?, body?, part?}
use Rattle.parts.specs.Carried.{carried_cell, carried_part}
use Rattle.parts.proofs.Records.{map_padded}
use Rattle.parts.proofs.Kept.{kept_section, kept_slack}

-- ---- a part, by its mode
module _ (Q : Mode → Part → Type 0) (trimmed : (v : ℕ) (cs : List Cell) → length cs ≤ 8 → Q Trimmed (section_record v cs)) (voided : (v : ℕ) (cs : List Cell) → length cs ≤ 8 → Q Voided (section_record v cs)) (partial : (n : ℕ) (s : Slack) → Q Partial (slack_part n s)) where
  section_yields : {S : Part → Type 0} → ((v : ℕ) (cs : List Cell) → length cs ≤ 8 → S (section_record v cs)) → (ts : List Token) → Yields S (section? ts)
  section_yields s ts =
      yields_then (number? ts) (λ v us.
      yields_with (several_yield (λ c. Unit {0}) cell? (λ ts. anything (cell? ts)) 8 us) (λ cs ws n. yields (s v cs n.most)))

  body_yields : (m : Mode) (w : PartWord) (ts : List Token) → Yields (Q m) (body? m w ts)
  body_yields Trimmed PlainWord ts = section_yields trimmed ts
  body_yields Trimmed SplitWord ts = nothing
  body_yields Voided PlainWord ts = section_yields voided ts
  body_yields Voided SplitWord ts = nothing
  body_yields Partial PlainWord ts = yields_then (last_numbers? 4 ts) (λ v us. yields (partial _ _))
  body_yields Partial SplitWord ts = yields_then (last_numbers? 4 ts) (λ v us. yields (partial _ _))

  pub part_yields : (m : Mode) (ts : List Token) → Yields (Q m) (part? m ts)
  part_yields m ts = yields_then (head? ts) (λ r us. yields_behind (part_named r) (body_yields m) us)

-- ---- an array keeps its fillers if the filler is kept
pub kept_padded : {A : Type 0} (g : A → A) (d : A) → g d ≡ d → (n : ℕ) (l : List A) → map g l ≡ l → map g (padded n d l) ≡ padded n d l
kept_padded g d same n l e = map_padded g n d l ∙ rw (same, e)

pub padded_front : {A : Type 0} (n : ℕ) (d : A) (l : List A) (k : ℕ) → length l ≡ k → take k (padded n d l) ≡ l
unfolding padded
padded_front n d l k e = take_at l (replicate (n - length l) d) k e

-- parts that are kept where they are within their limits are kept together
pub kept_each : {A : Type 0} (f : A → Bool) (g : A → A) (l : List A) → Each (λ x. f x ≡ true → g x ≡ x) l → all f l ≡ true → map g l ≡ l
kept_each f g [] p e = refl
kept_each f g (x ∷ l) p e = kept_more f g x l p.0 (kept_each f g l p.1) e

-- ---- a part of cells: the cells that its limits test are those that were read
pub section_cells : (v : ℕ) (cs : List Cell) → cells_of (section_record v cs) ≡ cs
section_cells v cs = padded_front 8 no_cell cs (length cs) refl

section_stays : (v : ℕ) (cs : List Cell) → section_limits (section_record v cs) ≡ true → carried_part (section_record v cs) ≡ section_record v cs
section_stays v cs e =
    let t = kept_section (section_record v cs) e in
    rw (t.0, kept_padded carried_cell no_cell refl 8 cs (rw (section_cells v cs) at t.1))

slack_stays : (n : ℕ) (s : Slack) → slack_limits (slack_part n s) ≡ true → carried_part (slack_part n s) ≡ slack_part n s
slack_stays n s e = kept_slack (slack_part n s) e (kept_padded carried_cell no_cell refl 8 [] refl)

-- ---- a part that is read, by its mode
abbrev pub KeptPart : Mode → Part → Type 0
KeptPart m p = part_limits m p ≡ true → carried_part p ≡ p

pub part_tidy : (m : Mode) (ts : List Token) → Yields (KeptPart m) (part? m ts)
part_tidy = part_yields KeptPart (λ v cs n. section_stays v cs) (λ v cs n. section_stays v cs) slack_stays
