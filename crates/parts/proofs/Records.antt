-- Laws of the records that the shapes of cells and parts make.
use mathlib.Core.Path.{◌≡◌, refl, sym, ◌∙◌, ap}
use mathlib.Core.List.{List, ◌∷◌, map, map-append}
use Prim.Native.Nat.{ℕ, zero, suc, ◌-◌, ◌≤◌}
use native.Mathlib.Omega.{arith}
use lib.ListN.{length, take, drop, replicate, length-map, take-append-drop}
use lib.Seq.{length-take-le}
use Rattle.std.proofs.lemmas.List.{drop-replicate}
use Rattle.record.specs.declared.Cell.{Cell}
use Rattle.record.specs.declared.Part.{Part}
use Rattle.record.specs.Filler.{no_cell, no_slack, padded}
use Rattle.std.specs.Prelude.{Some}
use Rattle.std.specs.Borrow.{Bor}
use Rattle.text.specs.Token.{Token, tokens}
use Rattle.items.specs.Grammar.{got, none, ◌and_then◌, head?, number?, last_numbers?, several?}
use Rattle.items.specs.Carried.{carry, carried}
use Rattle.items.specs.Reads.{Fills}
use Rattle.items.proofs.Walks.{carries, built, nth_kept, kept, several_built, several_unbuilt}
use Rattle.parts.specs.declared.CellWord.{CellWord}
use Rattle.parts.specs.declared.CellWord.TheVariants.{WingWord, HatchWord, VoidWord}
use Rattle.parts.specs.Shape.{cell_named, numbers_of, cell_of, cell?, section_record, section?, slack_record, slack?, split_record, split?}
use Rattle.parts.specs.Carried.{carried_cell, carried_part}

-- a cell of the numbers read, as it is carried
cell_kept : (w : CellWord) (vs x : List ℕ) → vs ≡ map carried x → carried_cell (cell_of w x) ≡ cell_of w vs
cell_kept WingWord vs x e = rw (nth_kept vs x 0 e, nth_kept vs x 1 e, nth_kept vs x 2 e, nth_kept vs x 3 e)
cell_kept HatchWord vs x e = rw (nth_kept vs x 0 e, nth_kept vs x 1 e, nth_kept vs x 2 e)
cell_kept VoidWord vs x e = rw (nth_kept vs x 0 e, nth_kept vs x 1 e, nth_kept vs x 2 e)

pub cell_read : (ts : List Token) (r : List ℕ) (us : List Token) (w : CellWord) (vs : List ℕ) (ws : List Token) → head? ts ≡ got r us → cell_named r ≡ Some w →
    carry (map carried) (last_numbers? (numbers_of w) us) ≡ got vs ws → carry carried_cell (cell? ts) ≡ got (cell_of w vs) ws
cell_read ts r us w vs ws h n e = rw (h, n) (built carried_cell (cell_of w) (map carried) (last_numbers? (numbers_of w) us) vs ws (cell_of w vs) e (cell_kept w vs))

-- filled places, as they are carried
map_replicate : {A B : Type 0} (f : A → B) (n : ℕ) (d : A) → map f (replicate n d) ≡ replicate n (f d)
map_replicate f zero d = refl
map_replicate f (suc n) d = ap (λ zs. f d ∷ zs) (map_replicate f n d)

pub map_padded : {A B : Type 0} (f : A → B) (n : ℕ) (d : A) (xs : List A) → map f (padded n d xs) ≡ padded n (f d) (map f xs)
unfolding padded
map_padded f n d xs = map-append f xs (replicate (n - length xs) d) ∙ rw (map_replicate f (n - length xs) d, length-map xs f)

-- places that are filled from the first on, in front of fillers
pub filled : {B : Type 0} (most : ℕ) (d : B) (n : ℕ) (xs : List B) → n ≤ most → length xs ≡ most → drop n xs ≡ drop n (replicate most d) →
    (length (take n xs) ≡ n) × (xs ≡ padded most d (take n xs))
unfolding padded
filled most d n xs h l e = (length-take-le n xs (omega arith), sym (take-append-drop n xs) ∙ rw (e, drop-replicate n most d, length-take-le n xs (omega arith)))

-- a part of cells, as it is carried
pub section_kept : (v : ℕ) (xs : List Cell) → carried_part (section_record v xs) ≡
    record { length = carried v; slack = no_slack; count = length xs; cells = padded 8 no_cell (map carried_cell xs) }
section_kept v xs = rw (map_padded carried_cell 8 no_cell xs)

module _ (ts : List Token) (v : ℕ) (us : List Token) (long : carry carried (number? ts) ≡ got v us) where
  pub section_none : several? 8 (kept carried_cell cell?) us ≡ none → carry carried_part (section? ts) ≡ none
  section_none e =
      let i = carries carried (number? ts) v us long in
      rw i.is (several_unbuilt carried_cell cell? carried_part (section_record i.read) 8 us e)

  pub section_read : (n : ℕ) (cells : List Cell) (ws : Bor (List ℕ)) → n ≤ 8 → length cells ≡ 8 → Fills (several? 8 (kept carried_cell cell?) us) (replicate 8 no_cell) cells (Some (n, ws)) →
      carry carried_part (section? ts) ≡ got (record { length = v; slack = no_slack; count = n; cells = cells }) (tokens ws.now)
  section_read n cells ws h l e =
      let i = carries carried (number? ts) v us long in
      let front = filled 8 no_cell n cells h l e.1 in
      rw i.is (several_built carried_cell cell? carried_part (section_record i.read) 8 us (take n cells) (tokens ws.now) _ e.0
      (λ xs m. section_kept i.read xs ∙ rw (← i.kept, ← length-map xs carried_cell, ← m, front.0, ← front.1)))

-- a part of the four sizes read, as it is carried, whichever of them is which
module _ (ts : List Token) (vs : List ℕ) (us : List Token) (e : carry (map carried) (last_numbers? 4 ts) ≡ got vs us) where
  sizes_read : (mk : List ℕ → Part) → ((x : List ℕ) → vs ≡ map carried x → carried_part (mk x) ≡ mk vs) →
      carry carried_part (last_numbers? 4 ts and_then λ v us. got (mk v) us) ≡ got (mk vs) us
  sizes_read mk k = built carried_part mk (map carried) (last_numbers? 4 ts) vs us (mk vs) e k

  pub slack_read : carry carried_part (slack? ts) ≡ got (slack_record vs) us
  unfolding padded
  slack_read = sizes_read slack_record (λ x m. rw (nth_kept vs x 0 m, nth_kept vs x 1 m, nth_kept vs x 2 m, nth_kept vs x 3 m))

  pub split_read : carry carried_part (split? ts) ≡ got (split_record vs) us
  unfolding padded
  split_read = sizes_read split_record (λ x m. rw (nth_kept vs x 0 m, nth_kept vs x 1 m, nth_kept vs x 2 m, nth_kept vs x 3 m))
