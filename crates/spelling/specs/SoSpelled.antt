-- A line with single spaces between its items and nowhere else, said of its bytes alone: by what stands side by side.
use Rattle.std.specs.Prelude.{◌≡◌, true, List, ℕ, ◌+◌, ◌-◌, length, get_or}
use Rattle.whole.specs.Lists.{all}
use Rattle.text.specs.Token.{space, opening, closing, in_run, allowed}

-- the byte at a place; past the end 0, which is no byte of a line
abbrev pub byte_at : List ℕ → ℕ → ℕ
byte_at line i = get_or line i 0

-- single spaces between items, and nowhere else but perhaps at the front
pub record Spaced (line : List ℕ) : Type 0 where
  pub bytes : all allowed line ≡ true
  -- no space at the end, none behind an opening bracket, none before a closing one, no two together
  pub end : byte_at line (length line - 1) ≡ space → ⊥
  pub behind_opening : (i : ℕ) → byte_at line i ≡ opening → byte_at line (i + 1) ≡ space → ⊥
  pub before_closing : (i : ℕ) → byte_at line i ≡ space → byte_at line (i + 1) ≡ closing → ⊥
  pub two_together : (i : ℕ) → byte_at line i ≡ space → byte_at line (i + 1) ≡ space → ⊥
  -- one between any two items: a run and a form, two forms, a form and a run never touch; two runs that touched would be one
  pub run_form : (i : ℕ) → in_run (byte_at line i) ≡ true → byte_at line (i + 1) ≡ opening → ⊥
  pub two_forms : (i : ℕ) → byte_at line i ≡ closing → byte_at line (i + 1) ≡ opening → ⊥
  pub form_run : (i : ℕ) → byte_at line i ≡ closing → in_run (byte_at line (i + 1)) ≡ true → ⊥

-- so spelled: and none at the front
pub record SoSpelled (line : List ℕ) : Type 0 where
  pub front : byte_at line 0 ≡ space → ⊥
  pub spaced : Spaced line
