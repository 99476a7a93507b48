-- Laws of the records that the shapes make.
use mathlib.Core.Path.{◌≡◌, refl, ◌∙◌}
use mathlib.Core.List.{List, map}
use Prim.Native.Nat.{ℕ, ◌≤◌}
use lib.ListN.{length, take, replicate, length-map}
use Rattle.std.specs.Prelude.{Option, Some, None}
use Rattle.std.specs.Borrow.{Bor}
use Rattle.text.specs.Token.{Token, tokens}
use Rattle.record.specs.declared.Part.{Part}
use Rattle.record.specs.declared.Mode.{Mode}
use Rattle.record.specs.Filler.{no_part, padded}
use Rattle.items.specs.Grammar.{got, none, close?, number?, several?}
use Rattle.items.specs.Carried.{carry, carried}
use Rattle.items.specs.Reads.{passed_of, Fills}
use Rattle.items.proofs.Walks.{carries, kept, several_built, several_unbuilt}
use Rattle.parts.specs.Shape.{part?}
use Rattle.parts.specs.Carried.{carried_part}
use Rattle.parts.proofs.Records.{map_padded, filled}
use Rattle.forms.specs.declared.RuleWord.{RuleWord}
use Rattle.forms.specs.declared.RuleWord.TheVariants.{NewWord, OldWord}
use Rattle.forms.specs.declared.Request.{Request}
use Rattle.forms.specs.declared.Request.TheVariants.{HoldLine}
use Rattle.forms.specs.Shape.{rule_of, hold_record, parts?, bare?}
use Rattle.forms.specs.Carried.{carried_rule, carried_request}
use Rattle.forms.specs.Reads.{read_into}

-- a rule with its edge, as it is carried
pub rule_kept : (w : RuleWord) (edge : ℕ) → carried_rule (rule_of w edge) ≡ rule_of w (carried edge)
rule_kept NewWord edge = refl
rule_kept OldWord edge = refl

-- a hold of parts, as it is carried
pub hold_kept : (n : ℕ) (mode : Mode) (factor : ℕ) (xs : List Part) → carried_request (HoldLine n (hold_record mode factor xs)) ≡
    HoldLine n (record { head = record { mode = mode; factor = carried factor; count = length xs }; parts = padded 6 no_part (map carried_part xs) })
unfolding carried_request
hold_kept n mode factor xs = rw (map_padded carried_part 6 no_part xs)

module _ (n : ℕ) (mode : Mode) (ts : List Token) (v : ℕ) (us : List Token) (factor : carry carried (number? ts) ≡ got v us) where
  pub parts_none : several? 6 (kept carried_part (part? mode)) us ≡ none → carry carried_request (parts? n mode ts) ≡ none
  parts_none e =
      let i = carries carried (number? ts) v us factor in
      rw i.is (several_unbuilt carried_part (part? mode) carried_request (λ ps. HoldLine n (hold_record mode i.read ps)) 6 us e)

  pub parts_read : (count : ℕ) (parts : List Part) (ws : Bor (List ℕ)) → count ≤ 6 → length parts ≡ 6 → Fills (several? 6 (kept carried_part (part? mode)) us) (replicate 6 no_part) parts (Some (count, ws)) →
      carry carried_request (parts? n mode ts) ≡ got (HoldLine n (record { head = record { mode = mode; factor = v; count = count }; parts = parts })) (tokens ws.now)
  parts_read count parts ws h l e =
      let i = carries carried (number? ts) v us factor in
      let front = filled 6 no_part count parts h l e.1 in
      rw i.is (several_built carried_part (part? mode) carried_request (λ ps. HoldLine n (hold_record mode i.read ps)) 6 us (take count parts) (tokens ws.now) _ e.0
      (λ xs m. hold_kept n mode i.read xs ∙ rw (← i.kept, ← length-map xs carried_part, ← m, front.0, ← front.1)))

-- a form of its word alone is read where its bracket is passed: its request holds no numbers, and is carried as it is
pub bare_read : (r : Request) (ts : List Token) (o : Option (Bor (List ℕ))) → carried_request r ≡ r → close? ts ≡ passed_of o → carry carried_request (bare? r ts) ≡ read_into r o
bare_read r ts (Some rest) e closed = rw (closed, e)
bare_read r ts None e closed = rw closed
