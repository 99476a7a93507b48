-- What holds of all that a reading may yield. A form's laws follow its grammar: a law for each way to join readings.
use mathlib.Core.Path.{◌≡◌, refl, ap}
use mathlib.Core.Bool.{Bool, true, false, cond}
use mathlib.Core.List.{List, [], ◌∷◌}
use Prim.Native.Nat.{ℕ, zero, suc, ◌≤◌}
use Rattle.std.specs.Prelude.{Option, Some, None}
use native.Mathlib.Omega.{arith}
use lib.ListN.{length}
use Rattle.text.specs.Token.{Token}
use Rattle.items.specs.Grammar.{Parsed, got, none, ◌and_then◌, behind?, close?, number?, numbers?, last_numbers?, or_else, items?, some_of, several?, whole?}

pub data Yields {A : Type 0} (P : A → Type 0) : Parsed A → Type 0 where
  yields : {a : A} {ts : List Token} → P a → Yields P (got a ts)
  nothing : Yields P none

module _ {A B : Type 0} {P : B → Type 0} where
  pub yields_with : {Q : A → Type 0} {r : Parsed A} {f : A → List Token → Parsed B} → Yields Q r → ((a : A) (ts : List Token) → Q a → Yields P (f a ts)) → Yields P (r and_then f)
  yields_with (yields {a = a} {ts = ts} q) h = h a ts q
  yields_with nothing h = nothing

  pub yields_then : (r : Parsed A) {f : A → List Token → Parsed B} → ((a : A) (ts : List Token) → Yields P (f a ts)) → Yields P (r and_then f)
  yields_then (got a ts) h = h a ts
  yields_then none h = nothing

module _ {A : Type 0} {P : A → Type 0} where
  pub yields_else : {r s : Parsed A} → Yields P r → Yields P s → Yields P (or_else r s)
  yields_else (yields p) q = yields p
  yields_else nothing q = q

  pub yields_if : (x : Bool) {r s : Parsed A} → Yields P r → Yields P s → Yields P (cond x r s)
  yields_if true p q = p
  yields_if false p q = q

pub yields_behind : {W A : Type 0} {P : A → Type 0} {f : W → List Token → Parsed A} (w : Option W) → ((w : W) (ts : List Token) → Yields P (f w ts)) → (ts : List Token) → Yields P (behind? f w ts)
yields_behind (Some w) h ts = h w ts
yields_behind None h ts = nothing

pub yields_whole : {A : Type 0} (P : A → Type 0) {r : Parsed A} (a : A) → Yields P r → whole? r ≡ Some a → P a
yields_whole P a (yields {a = b} {ts = []} p) e =
    let h : b ≡ a = cc in
    rw h at p
yields_whole P a (yields {ts = t ∷ ts} p) e =
    let z : ◌≡◌ {A = ℕ} 0 1 = cc in absurd (omega arith)
yields_whole P a nothing e =
    let z : ◌≡◌ {A = ℕ} 0 1 = cc in absurd (omega arith)

-- if every item that is read has the property, then all of the list have it, and they are at most k
module _ {A : Type 0} (P : A → Type 0) where
  abbrev pub Each : List A → Type 0
  Each [] = Unit {0}
  Each (x ∷ xs) = P x × Each xs

  abbrev pub Items : ℕ → List A → Type 0
  Items k xs = Each xs × (length xs ≤ k)

  module _ (item : List Token → Parsed A) (each : (ts : List Token) → Yields P (item ts)) where
    pub items_yield : (k : ℕ) (ts : List Token) → Yields (Items k) (items? k item ts)
    unfolding items?
    items_yield zero ts = yields_then (close? ts) (λ u us. yields (tt, omega arith))
    items_yield (suc k) ts =
        yields_else (yields_then (close? ts) (λ u us. yields (tt, omega arith)))
        (yields_with (each ts) (λ x us p. yields_with (items_yield k us) (λ xs ws q. yields ((p, q.0), omega arith))))

  -- and where there must be one, they are one to k
  pub record Several (k : ℕ) (xs : List A) : Type 0 where
    pub every : Each xs
    pub some : 1 ≤ length xs
    pub most : length xs ≤ k

  some_yields : (k : ℕ) (xs : List A) (ts : List Token) → Items k xs → Yields (Several k) (some_of xs ts)
  some_yields k [] ts q = nothing
  some_yields k (x ∷ xs) ts q = yields {a = x ∷ xs} (record { every = q.0; some = omega arith; most = q.1 })

  pub several_yield : (item : List Token → Parsed A) → ((ts : List Token) → Yields P (item ts)) → (k : ℕ) (ts : List Token) → Yields (Several k) (several? k item ts)
  several_yield item each k ts = yields_with (items_yield item each k ts) (some_yields k)

-- ---- anything
pub anything : {A : Type 0} (r : Parsed A) → Yields (λ a. Unit {0}) r
anything (got a ts) = yields tt
anything none = nothing

-- ---- k numbers are k
numbers_yield : (k : ℕ) (ts : List Token) → Yields (λ vs. length vs ≡ k) (numbers? k ts)
unfolding numbers?
numbers_yield zero ts = yields refl
numbers_yield (suc k) ts =
    yields_then (number? ts) (λ v us. yields_with (numbers_yield k us) (λ vs ws e. yields (ap suc e)))

pub last_yield : (k : ℕ) (ts : List Token) → Yields (λ vs. length vs ≡ k) (last_numbers? k ts)
unfolding last_numbers?
last_yield k ts = yields_with (numbers_yield k ts) (λ vs us e. yields_then (close? us) (λ u ws. yields e))
