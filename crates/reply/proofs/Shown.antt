-- The replies of the definitions are the texts that the paper's words ask for.
use mathlib.Core.Path.{◌≡◌, refl, ◌∙◌}
use mathlib.Core.Bool.{Bool, true, false, cond}
use mathlib.Core.List.{List, [], ◌∷◌, ◌++◌, append_assoc}
use Prim.Native.Nat.{ℕ, zero, suc, ◌+◌, ◌*◌, ◌/◌, ◌%◌, ◌≤◌, ◌<◌}
use native.Mathlib.Omega.{arith}
use lib.Dec.{ltb}
use lib.IntN.{ℤ, pos, negsuc}
use lib.ListN.{length, drop, length-append, length-drop}
use lib.Seq.{take-append_seam, drop-append_seam}
use borrow.Author.Tests.{ltb-true, ltb-false, lt-ltb}
use Rattle.sign.specs.Sign.{plus, minus}
use Rattle.whole.specs.Bytes.{bytes}
use Rattle.whole.specs.Decimal.{Decimal, one, more}
use Rattle.reply.specs.Written.{over, digits, decimal, figure, two_digits}
use Rattle.reply.specs.Replies.{answer_reply, refusal_reply, verdict_reply, total_reply}
use Rattle.reply.specs.Shown.{AtFront, FigureShown, CodeShown, AnswerShown, RefusalShown, Writable, VerdictShown, TotalShown}

-- ten to the k-th
abbrev ten_to : ℕ → ℕ
ten_to zero = 1
ten_to (suc k) = 10 * ten_to k

-- a number of at most k digits
last_digit : (k n : ℕ) → 10 ≤ n → n < 10 * ten_to k → (n / 10 < ten_to k → Decimal (n / 10) (digits k (n / 10))) → Decimal n (digits k (n / 10) ++ (48 + n % 10) ∷ [])
last_digit k n low h ih =
    let e : 10 * (n / 10) + n % 10 ≡ n = omega arith in
    rw e at (more {n = n / 10} {d = n % 10} (omega arith) (omega arith) (ih (omega arith)))

digits_shown : (k n : ℕ) → n < ten_to (suc k) → Decimal n (digits (suc k) n)
unfolding digits
digits_shown zero n h = rw (lt-ltb n 10 (omega arith)) (one {d = n} (omega arith))
digits_shown (suc k) n h = by (ltb n 10) refl (λ q. digits_shown k (n / 10) q)
  where
    by : (x : Bool) → ltb n 10 ≡ x → (n / 10 < ten_to (suc k) → Decimal (n / 10) (digits (suc k) (n / 10))) → Decimal n (cond x ((48 + n) ∷ []) (digits (suc k) (n / 10) ++ (48 + n % 10) ∷ []))
    by true e ih = one (ltb-true n 10 e)
    by false e ih = last_digit (suc k) n (ltb-false n 10 e) h ih

pub decimal_shown : (n : ℕ) → n < 100000000000000000000 → Decimal n (decimal n)
decimal_shown n h = digits_shown 19 n h

pub figure_shown_lem : (z : ℤ) → plus z < 100000000000000000000 → minus z < 100000000000000000000 → FigureShown z (figure z)
unfolding figure
figure_shown_lem (pos n) p m = decimal_shown n p
figure_shown_lem (negsuc n) p m = (decimal (suc n), refl, decimal_shown (suc n) m)

-- ---- codes
code_shown_lem : (code : ℕ) → CodeShown code (two_digits code)
code_shown_lem code =
    record { tens = code / 10; units = code % 10; value = omega arith; digit = omega arith; text = refl }

pub answer_shown : (code : ℕ) → AnswerShown code (answer_reply code)
answer_shown code = record { code_text = two_digits code; shown = code_shown_lem code; text = refl }

pub refusal_shown : (code : ℕ) → RefusalShown code (refusal_reply code)
refusal_shown code = record { code_text = two_digits code; shown = code_shown_lem code; text = refl }

-- ---- verdicts
nested : (a b c d e f g h i j k : List ℕ) → (((((a ++ b) ++ (c ++ d)) ++ (e ++ f)) ++ (g ++ h)) ++ (i ++ j)) ++ k ≡ a ++ (b ++ (c ++ (d ++ (e ++ (f ++ (g ++ (h ++ (i ++ (j ++ k)))))))))
nested a b c d e f g h i j k = simp append_assoc

pub verdict_shown : (code : ℕ) (gm diff : ℤ) (upper area : ℕ) → Writable gm diff upper area → VerdictShown code gm diff upper area (verdict_reply code gm diff upper area)
unfolding verdict_reply
verdict_shown code gm diff upper area w =
    record {
      code_text = two_digits code;
      gm_text = figure gm;
      diff_text = figure diff;
      upper_text = decimal upper;
      area_text = decimal area;
      code_shown = code_shown_lem code;
      gm_shown = figure_shown_lem gm w.gm_above w.gm_below;
      diff_shown = figure_shown_lem diff w.diff_above w.diff_below;
      upper_shown = decimal_shown upper w.upper_above;
      area_shown = decimal_shown area w.area_above;
      text = nested (bytes "(verdict ") (two_digits code) (bytes " ") (figure gm) (bytes " ") (figure diff) (bytes " ") (decimal upper) (bytes " ") (decimal area) (bytes ")\n");
    }

-- ---- totals
pub total_shown_lem : (w : ℕ) → w < 100000000000000000000 → TotalShown w (total_reply w)
unfolding total_reply
total_shown_lem w h =
    record { figure_text = decimal w; figure_shown = decimal_shown w h; text = simp append_assoc }

-- ---- the buffer
pub at_front : (w l : List ℕ) → length w ≤ length l → AtFront w l (over w l)
unfolding over
at_front w l h =
    record {
      front = take-append_seam w (drop (length w) l);
      behind = drop-append_seam w (drop (length w) l);
      long = length-append w (drop (length w) l) ∙ let n = length-drop (length w) l in omega arith;
    }
