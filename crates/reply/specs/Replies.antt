-- Document 01, Codes, and document 02: the replies. One newline, byte 10, follows each.
use Rattle.std.specs.Prelude.{List, ◌∷◌, ◌++◌, ℕ, ℤ}
use Rattle.whole.specs.Bytes.{bytes}
use Rattle.reply.specs.Written.{decimal, figure, two_digits}

-- the closing bracket and the newline
abbrev pub tail : List ℕ
tail = bytes ")\n"

-- a head, a code and the tail
abbrev pub coded_reply : List ℕ → ℕ → List ℕ
coded_reply head code = (head ++ two_digits code) ++ tail

-- `(answer CC)`
abbrev pub answer_reply : ℕ → List ℕ
answer_reply code = coded_reply (bytes "(answer ") code

-- `(verdict CC)`, for judge with 30 to 34
abbrev pub refusal_reply : ℕ → List ℕ
refusal_reply code = coded_reply (bytes "(verdict ") code

-- a space and a figure; a space and a figure that is not below zero
abbrev pub field : ℤ → List ℕ
field z = 32 ∷ figure z

abbrev pub count : ℕ → List ℕ
count n = 32 ∷ decimal n

-- `(verdict CC GM DIFF UPPER AREA)`, for judge with 00 or 40 to 43
unfoldable pub verdict_reply : (code : ℕ) (gm diff : ℤ) (upper area : ℕ) → List ℕ
verdict_reply code gm diff upper area =
    (((((bytes "(verdict " ++ two_digits code) ++ field gm) ++ field diff) ++ count upper) ++ count area) ++ tail

-- `(answer 00 W)`, for total
unfoldable pub total_reply : (w : ℕ) → List ℕ
total_reply w = (bytes "(answer 00" ++ count w) ++ tail
