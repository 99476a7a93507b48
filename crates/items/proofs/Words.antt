-- Choosing by a word: whether a run is it, and a table of words that is walked.
use mathlib.Core.Path.{◌≡◌, refl, sym, ◌∙◌}
use mathlib.Core.Bool.{Bool, true, false, cond}
use mathlib.Core.List.{List, [], ◌∷◌}
use Prim.Native.Nat.{ℕ, ◌+◌, ◌<◌, ◌≤◌}
use Prim.Native.String.{String}
use lib.Dec.{eqb}
use lib.Pointwise.{pointwise}
use lib.ListN.{length, get_or, drop, drop_of_length-le}
use Rattle.std.specs.Borrow.{Bor}
use Rattle.std.specs.Prelude.{Some, None}
use Rattle.whole.proofs.Lists.{drop_next}
use Rattle.whole.specs.Bytes.{bytes}
use Rattle.text.proofs.Runs.{same_slices}
use Rattle.text.specs.Token.{same}
use Rattle.items.specs.Grammar.{is, named}
use Rattle.items.specs.Reads.{found}

-- as `==` of two runs tests it
pub is_as : (w : String) (r name : List ℕ) → name ≡ bytes w → (b : Bool) → b ≡ pointwise eqb r name → is r w ≡ b
is_as w r name e b t = same_slices r (bytes w) e t

-- a table that is walked from its front, whose words are slices
module _ {A : Type 0} (l : List (Bor (List ℕ) × A)) (r : List ℕ) (i : ℕ) where
  pub found_next : (x : Bor (List ℕ) × A) (b : Bool) → i < length l → x ≡ get_or l i x → b ≡ pointwise eqb r x.0.now →
      found (drop i l) r ≡ cond b (Some x.1) (found (drop (i + 1) l) r)
  unfolding found
  found_next x b h e t =
      let s : same r x.0.now ≡ b = same_slices r x.0.now refl t in
      rw (drop_next l i x h, ← e, s)

  pub found_end : length l ≤ i → found (drop i l) r ≡ None
  unfolding found
  found_end h = rw (drop_of_length-le l {i = i} h)

-- a table of shapes' words: the entry that the run is, one that it is not, and a run that is none of the table
module _ {A : Type 0} (w : String) (a : A) (table : List (String × A)) (other : A) (r : List ℕ) (tested : Bool) (is_test : tested ≡ is r w) where
  pub named_here : tested ≡ true → a ≡ named ((w, a) ∷ table) other r
  unfolding named
  named_here e = rw (sym is_test ∙ e) refl

  pub named_past : tested ≡ false → (b : A) → b ≡ named table other r → b ≡ named ((w, a) ∷ table) other r
  unfolding named
  named_past e b more = more ∙ rw (sym is_test ∙ e) refl

-- the last of the table
pub named_none : {A : Type 0} (w : String) (a other : A) (r : List ℕ) (tested : Bool) → tested ≡ is r w → tested ≡ false → other ≡ named ((w, a) ∷ []) other r
unfolding named
named_none w a other r tested t e = rw (sym t ∙ e) refl
