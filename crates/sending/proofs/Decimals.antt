-- A number's decimal digits are a run that says it.
use mathlib.Core.Path.{◌≡◌}
use mathlib.Core.Bool.{true, not, ◌&&◌, or-true}
use mathlib.Core.List.{List, [], ◌∷◌}
use Prim.Native.Nat.{ℕ, ◌≤◌}
use native.Mathlib.Omega.{arith}
use lib.Dec.{leb}
use lib.ListN.{get_or}
use Rattle.whole.specs.Lists.{all}
use Rattle.whole.specs.Decimal.{Decimal}
use Rattle.whole.proofs.Lists.{clash, and_true, all_at, all_from}
use Rattle.text.specs.Token.{is_letter, is_digit, in_run, run, value, needless_zero, is_number}
use Rattle.line_codes.specs.Line.{number_if_digit}
use Rattle.line_codes.proofs.Decimals.{decimal_number, number_is}
use Rattle.reply.specs.Written.{decimal}
use Rattle.reply.proofs.Shown.{decimal_shown}
use Rattle.spelling.specs.Spelling.{proper}
use Rattle.sending.specs.Laws.{DecimalIsARun, DecimalIsReadBack}

-- digits are bytes of a run
digits_run : (r : List ℕ) → all is_digit r ≡ true → all in_run r ≡ true
digits_run r e = all_from in_run r 0 (λ i h. rw (all_at is_digit r i 0 e h) (or-true (is_letter (get_or r i 0))))

number_run : (r : List ℕ) → is_number r ≡ true → (proper (run r) ≡ true) × (number_if_digit r ≡ true)
number_run [] e = clash e
number_run (b ∷ r) e =
    let t = and_true (all is_digit (b ∷ r) && not (needless_zero (b ∷ r))) (leb (value (b ∷ r)) 999999999) e in
    (digits_run (b ∷ r) (and_true (all is_digit (b ∷ r)) (not (needless_zero (b ∷ r))) t.0).0, rw e (or-true (not (is_digit b))))

module _ (n : ℕ) (p : n ≤ 999999999) where
  shown : Decimal n (decimal n)
  shown = decimal_shown n (omega arith)

  decimal_run : (proper (run (decimal n)) ≡ true) × (number_if_digit (decimal n) ≡ true)
  decimal_run = number_run (decimal n) (decimal_number n (decimal n) p shown)

  pub decimal_sound : number_if_digit (decimal n) ≡ true
  decimal_sound = decimal_run.1

pub decimal_is_a_run : DecimalIsARun
decimal_is_a_run n p = (decimal_run n p).0

pub decimal_is_read_back : DecimalIsReadBack
decimal_is_read_back n p = (number_is (decimal n) n).1 (p, shown n p)
