-- Document 01, Codes, and document 02, in their own words: what a reply's text is. Nothing here rests on the definitions by which figures are written;
-- proofs/Shown.antt shows that these give such texts.
use Rattle.std.specs.Prelude.{◌≡◌, List, ◌∷◌, ◌++◌, ℕ, suc, ◌+◌, ◌*◌, ◌<◌, ℤ, pos, negsuc, length, take, drop}
use Rattle.sign.specs.Sign.{plus, minus}
use Rattle.whole.specs.Bytes.{bytes}
use Rattle.whole.specs.Decimal.{Decimal}

-- the buffer `after` is `before` with a reply at its front: the bytes behind the reply keep their contents
pub record AtFront (reply before after : List ℕ) : Type 0 where
  pub front : take (length reply) after ≡ reply
  pub behind : drop (length reply) after ≡ drop (length reply) before
  pub long : length after ≡ length before

-- a figure in its decimal digits; one below zero carries a minus sign
abbrev pub FigureShown : ℤ → List ℕ → Type 0
FigureShown (pos n) s = Decimal n s
FigureShown (negsuc n) s = (digits : List ℕ) × (s ≡ bytes "-" ++ digits) × Decimal (suc n) digits

-- a code in two digits
pub record CodeShown (code : ℕ) (s : List ℕ) : Type 0 where
  pub tens : ℕ
  pub units : ℕ
  pub value : code ≡ 10 * tens + units
  pub digit : units < 10
  pub text : s ≡ (48 + tens) ∷ (48 + units) ∷ bytes ""

-- `(answer CC)` and `(verdict CC)`, with one newline behind them
pub record Coded (head : List ℕ) (code : ℕ) (s : List ℕ) : Type 0 where
  pub code_text : List ℕ
  pub shown : CodeShown code code_text
  pub text : s ≡ (head ++ code_text) ++ bytes ")\n"

abbrev pub AnswerShown : ℕ → List ℕ → Type 0
AnswerShown code s = Coded (bytes "(answer ") code s

abbrev pub RefusalShown : ℕ → List ℕ → Type 0
RefusalShown code s = Coded (bytes "(verdict ") code s

-- figures of at most twenty digits: all that a verdict has
pub record Writable (gm diff : ℤ) (upper area : ℕ) : Type 0 where
  pub gm_above : plus gm < 100000000000000000000
  pub gm_below : minus gm < 100000000000000000000
  pub diff_above : plus diff < 100000000000000000000
  pub diff_below : minus diff < 100000000000000000000
  pub upper_above : upper < 100000000000000000000
  pub area_above : area < 100000000000000000000

-- `(verdict CC GM DIFF UPPER AREA)`, with one newline behind it
pub record VerdictShown (code : ℕ) (gm diff : ℤ) (upper area : ℕ) (s : List ℕ) : Type 0 where
  pub code_text : List ℕ
  pub gm_text : List ℕ
  pub diff_text : List ℕ
  pub upper_text : List ℕ
  pub area_text : List ℕ
  pub code_shown : CodeShown code code_text
  pub gm_shown : FigureShown gm gm_text
  pub diff_shown : FigureShown diff diff_text
  pub upper_shown : FigureShown (pos upper) upper_text
  pub area_shown : FigureShown (pos area) area_text
  pub text :
      s ≡ bytes "(verdict " ++ (code_text ++ (bytes " " ++ (gm_text ++ (bytes " " ++ (diff_text ++ (bytes " " ++ (upper_text
      ++ (bytes " " ++ (area_text ++ bytes ")\n")))))))))

-- `(answer 00 W)`, with one newline behind it
pub record TotalShown (w : ℕ) (s : List ℕ) : Type 0 where
  pub figure_text : List ℕ
  pub figure_shown : Decimal w figure_text
  pub text : s ≡ bytes "(answer 00 " ++ (figure_text ++ bytes ")\n")
