-- A run says a number exactly where it is the decimal digits of one up to 999,999,999.
use mathlib.Core.Path.{◌≡◌, refl, sym, ◌∙◌}
use mathlib.Core.Bool.{Bool, true, false, cond, not, ◌&&◌}
use mathlib.Core.Logic.{◌↔◌}
use mathlib.Core.List.{List, [], ◌∷◌, ◌++◌, append_assoc, append-nil}
use Prim.Native.Nat.{ℕ, ◌+◌, ◌*◌, ◌-◌, ◌≤◌, ◌<◌}
use native.Mathlib.Omega.{arith}
use lib.Dec.{eqb, leb}
use lib.ListN.{length, get_or, length-append, get_or-append}
use borrow.Author.Tests.{eqb-false, le-leb, leb-true, not-true}
use Rattle.whole.specs.Lists.{all}
use Rattle.whole.proofs.Lists.{and_true, within_true, within_by, all_append}
use Rattle.std.specs.Prelude.{Some, None}
use Rattle.text.specs.Token.{is_digit, value_from, value, needless_zero, is_number, number_of}
use Rattle.line_codes.specs.Codes.{NumberIs}
use Rattle.whole.specs.Decimal.{Decimal, one, more}
use Rattle.text.proofs.Numbers.{needless}

-- ---- digits say their number
digit_true : (d : ℕ) → d < 10 → is_digit (48 + d) ≡ true
digit_true d h = within_by 48 57 (48 + d) (omega arith) (omega arith)

value_last : (v : ℕ) (r : List ℕ) (b : ℕ) → value_from v (r ++ (b ∷ [])) ≡ 10 * value_from v r + (b - 48)
unfolding value_from
value_last v [] b = refl
value_last v (x ∷ r) b = value_last (10 * v + (x - 48)) r b

record Says (n : ℕ) (r : List ℕ) : Type 0 where
  some : 0 < length r
  digits : all is_digit r ≡ true
  valued : value r ≡ n
  first : 0 < n → get_or r 0 0 ≡ 48 → ⊥
  needed : 1 < length r → 0 < n

says : {n : ℕ} {r : List ℕ} → Decimal n r → Says n r
unfolding all value_from
says (one {d = d} h) =
    record { some = omega arith; digits = rw (digit_true d h); valued = omega arith; first = λ p e. omega arith; needed = λ p. absurd (omega arith) }
says (more {n = n} {d = d} {r = r} p h t) =
    let s = says t in
    record {
      some = omega (arith, length-append r ((48 + d) ∷ []));
      digits = all_append is_digit r ((48 + d) ∷ []) ∙ rw (s.digits, digit_true d h);
      valued = value_last 0 r (48 + d) ∙ rw s.valued (omega arith);
      first = λ q e. s.first p (sym (get_or-append r ((48 + d) ∷ []) 0 0 s.some) ∙ e);
      needed = λ q. omega arith;
    }

pub decimal_number : (n : ℕ) (r : List ℕ) → n ≤ 999999999 → Decimal n r → is_number r ≡ true
decimal_number n r h t = go r (says t)
  where
    go : (r : List ℕ) → Says n r → is_number r ≡ true
    go [] s = absurd (omega (arith, s.some))
    go (b ∷ r) s = rw (s.digits, needless (b ∷ r) (λ l e. s.first (s.needed l) e), s.valued, le-leb n 999999999 h)

-- ---- a number is written by its digits
decimals : (v : ℕ) (p s : List ℕ) → 0 < v → Decimal v p → all is_digit s ≡ true → Decimal (value_from v s) (p ++ s)
unfolding all value_from
decimals v p [] h t e = rw (append-nil p) t
decimals v p (b ∷ s) h t e =
    let q = and_true (is_digit b) (all is_digit s) e in
    let w = within_true 48 57 b q.0 in
    let z : 48 + (b - 48) ≡ b = omega (arith, w.low) in
    rw (append_assoc p (b ∷ []) s) at
    (decimals (10 * v + (b - 48)) (p ++ (b ∷ [])) s (omega arith) (rw z at (more {d = b - 48} h (omega (arith, w.low, w.high)) t)) q.1)

-- the first digit, alone or in front of others
first_digit : (b : ℕ) → is_digit b ≡ true → Decimal (10 * 0 + (b - 48)) (b ∷ [])
first_digit b e =
    let w = within_true 48 57 b e in
    let z : 48 + (b - 48) ≡ b = omega (arith, w.low) in
    let y : b - 48 ≡ 10 * 0 + (b - 48) = omega arith in
    rw (z, y) at (one {d = b - 48} (omega (arith, w.low, w.high)))

written : (b : ℕ) (s : List ℕ) → all is_digit (b ∷ s) ≡ true → not (needless_zero (b ∷ s)) ≡ true → Decimal (value (b ∷ s)) (b ∷ s)
unfolding all value_from
written b [] e z = first_digit b (and_true (is_digit b) true e).0
written b (d ∷ s) e z =
    let q = and_true (is_digit b) (all is_digit (d ∷ s)) e in
    let w = within_true 48 57 b q.0 in
    let n : 48 < b = omega (arith, w.low, eqb-false b 48 (not-true (eqb b 48) z)) in
    decimals (10 * 0 + (b - 48)) (b ∷ []) (d ∷ s) (omega arith) (first_digit b q.0) q.1

pub number_decimal : (r : List ℕ) → is_number r ≡ true → (value r ≤ 999999999) × Decimal (value r) r
number_decimal [] e =
    let z : ◌≡◌ {A = ℕ} 0 1 = cc in absurd (omega arith)
number_decimal (b ∷ s) e =
    let q = and_true (all is_digit (b ∷ s) && not (needless_zero (b ∷ s))) (leb (value (b ∷ s)) 999999999) e in
    let d = and_true (all is_digit (b ∷ s)) (not (needless_zero (b ∷ s))) q.0 in
    (leb-true (value (b ∷ s)) 999999999 q.1, written b s d.0 d.1)

-- ---- the number that is read of a run is the one that it says
number_by : (r : List ℕ) (n : ℕ) (x : Bool) → is_number r ≡ x → cond x (Some (value r)) None ≡ Some n → NumberIs n r
number_by r n true e f =
    let v : value r ≡ n = cc in
    let d = number_decimal r e in
    (rw v at d.0, rw v at d.1)
number_by r n false e f = let z : ◌≡◌ {A = ℕ} 0 1 = cc in absurd (omega arith)

pub number_is : (r : List ℕ) (n : ℕ) → (number_of r ≡ Some n) ↔ NumberIs n r
unfolding number_of
number_is r n = (λ e. number_by r n (is_number r) refl e, λ (h, t). rw (decimal_number n r h t, (says t).valued))
