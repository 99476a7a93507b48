-- Laws of the two limits: which lines are taken of an input and whatever follows it.
use mathlib.Core.Path.{◌≡◌, refl, sym, ◌∙◌, ap}
use mathlib.Core.List.{List, [], ◌∷◌, ◌++◌, append-nil, append_assoc}
use Prim.Native.Nat.{ℕ, suc, ◌+◌, ◌≤◌, ◌<◌, min}
use native.Mathlib.Omega.{arith}
use lib.ListN.{length, take, length-append}
use lib.Seq.{take_all, take_at, take-append-add, take-append-le}
use borrow.Author.Tests.{le-leb, lt-leb}
use Rattle.input.specs.declared.Told.TheVariants.{LastLine, NoMore}
use Rattle.input.specs.Lines.{cut, last_line, lines_of}
use Rattle.input.specs.Limits.{HasRead, Asked, ToldIs}
use Rattle.input.proofs.Cutting.{by_count, cut_join}

no_bytes : (l : List ℕ) → length l ≡ 0 → l ≡ []
no_bytes [] e = refl
no_bytes (b ∷ l) e = absurd (omega arith)

last_by : (r : List ℕ) → 0 < length r → last_line r ≡ r ∷ []
last_by [] h = absurd (omega arith)
last_by (b ∷ r) h = refl

-- ---- the lines that are taken, by what follows
module _ (lines bytes : ℕ) (input : List ℕ) where
  -- no line is left
  full : (more : ℕ) (later : List ℕ) → lines ≤ length (cut input).lines → length input + more ≡ bytes → lines_of lines bytes (input ++ later) ≡ take lines (cut input).lines
  unfolding lines_of
  full more later h e =
      let t : take bytes (input ++ later) ≡ input ++ take more later = rw (← e) (take-append-add input later more) in
      rw (t, cut_join input (take more later), append_assoc, take-append-le)

  -- the input ends
  ends : length input ≤ bytes → lines_of lines bytes input ≡ take lines ((cut input).lines ++ last_line (cut input).rest)
  unfolding lines_of
  ends h = rw (take_all bytes input h, le-leb (length input) bytes h)

  ends_none : length input ≤ bytes → (cut input).rest ≡ [] → lines_of lines bytes input ≡ take lines (cut input).lines
  ends_none h z = ends h ∙ rw (z, append-nil (cut input).lines)

  ends_last : length input ≤ bytes → length (cut input).lines < lines → 0 < length (cut input).rest → lines_of lines bytes input ≡ take lines (cut input).lines ++ (cut input).rest ∷ []
  ends_last h l p =
      ends h
      ∙ rw (
        last_by (cut input).rest p,
        take_all lines (cut input).lines (omega arith),
        take_all lines ((cut input).lines ++ (cut input).rest ∷ []) (omega (arith, length-append (cut input).lines ((cut input).rest ∷ []))),
      )

  -- it goes on at the limit of bytes
  cut_short : (later : List ℕ) → length input ≡ bytes → 0 < length later → lines_of lines bytes (input ++ later) ≡ take lines (cut input).lines
  unfolding lines_of
  cut_short later e p =
      rw (take_at input later bytes e, lt-leb (length (input ++ later)) bytes (omega (arith, length-append input later)), append-nil (cut input).lines)

-- ---- a byte more makes the lines others: by how much is in them
weight : List (List ℕ) → ℕ
weight [] = 0
weight (l ∷ ls) = suc (length l) + weight ls

weight_append : (a b : List (List ℕ)) → weight (a ++ b) ≡ weight a + weight b
unfolding weight
weight_append [] b = omega arith
weight_append (l ∷ a) b = omega (arith, weight_append a b)

weight_one : (a : List (List ℕ)) (l : List ℕ) → weight (a ++ l ∷ []) ≡ weight a + suc (length l)
unfolding weight
weight_one a l = weight_append a (l ∷ []) ∙ omega arith

one_more : (input : List ℕ) → cut (input ++ 0 ∷ []) ≡ record { lines = (cut input).lines; rest = (cut input).rest ++ 0 ∷ [] }
unfolding cut
one_more input = cut_join input (0 ∷ []) ∙ rw (append-nil (cut input).lines)

module _ (lines bytes : ℕ) (input : List ℕ) (l : length (cut input).lines < lines) where
  -- within the limit of bytes
  others : length input < bytes → lines_of lines bytes (input ++ 0 ∷ []) ≡ lines_of lines bytes input → ⊥
  others h e =
      let k = one_more input in
      let n = length-append (cut input).rest (0 ∷ []) in
      let m : lines_of lines bytes (input ++ 0 ∷ []) ≡ take lines (cut input).lines ++ ((cut input).rest ++ 0 ∷ []) ∷ [] =
      rw k at (ends_last lines bytes (input ++ 0 ∷ []) (omega (arith, length-append input (0 ∷ []))) (rw k l) (rw k (omega arith))) in
      let w = ap weight (sym m ∙ e) in
      let a = weight_one (take lines (cut input).lines) ((cut input).rest ++ 0 ∷ []) in
      by_count (length (cut input).rest)
      (λ z. omega (arith, ap weight (ends_none lines bytes input (omega arith) (no_bytes (cut input).rest z))))
      (λ p. omega (arith, ap weight (ends_last lines bytes input (omega arith) l p), weight_one (take lines (cut input).lines) (cut input).rest))

  -- at the limit, where a line has begun
  others_short : length input ≡ bytes → 0 < length (cut input).rest → lines_of lines bytes (input ++ 0 ∷ []) ≡ lines_of lines bytes input → ⊥
  others_short h p e =
      omega (
        arith,
        ap weight (sym (cut_short lines bytes input (0 ∷ []) h (omega arith)) ∙ e ∙ ends_last lines bytes input (omega arith) l p),
        weight_one (take lines (cut input).lines) (cut input).rest,
      )

-- ---- how many bytes are asked for
module _ (left used more : ℕ) where
  pub ask_full : left ≡ 0 → Asked left used more 0
  ask_full z =
      record {
        room = omega arith;
        within = λ p. omega arith;
        beyond = λ e. omega arith;
        lines = λ p. absurd (omega arith);
        none = λ e lines bytes input later h. full lines bytes input more later (omega (arith, h.count)) h.counted;
        some = λ p. absurd (omega arith);
      }

  pub ask_none : 0 < left → more ≡ 0 → used ≡ 0 → Asked left used more 0
  ask_none p m u =
      record {
        room = omega arith;
        within = λ p. omega arith;
        beyond = λ e. omega arith;
        lines = λ p. absurd (omega arith);
        none = λ e lines bytes input later h. settled lines bytes input later h;
        some = λ p. absurd (omega arith);
      }
    where
      settled : (lines bytes : ℕ) (input later : List ℕ) → HasRead lines bytes input left used more → lines_of lines bytes (input ++ later) ≡ take lines (cut input).lines
      settled lines bytes input [] h =
          rw (append-nil input) (ends_none lines bytes input (omega (arith, h.counted)) (no_bytes (cut input).rest (omega (arith, h.begun p))))
      settled lines bytes input (b ∷ later) h = cut_short lines bytes input (b ∷ later) (omega (arith, h.counted)) (omega arith)

  pub ask_more : (r : ℕ) → 0 < left → 0 < more → r ≡ min more 65536 → Asked left used more r
  ask_more r p m e =
      record {
        room = omega arith;
        within = λ p. omega arith;
        beyond = λ z. omega arith;
        lines = λ q. p;
        none = λ z. absurd (omega arith);
        some = λ q lines bytes input h. others lines bytes input (omega (arith, h.count)) (omega (arith, h.counted));
      }

  pub ask_one : 0 < left → more ≡ 0 → 0 < used → Asked left used more 1
  ask_one p m u =
      record {
        room = omega arith;
        within = λ p. omega arith;
        beyond = λ e. omega arith;
        lines = λ q. p;
        none = λ z. absurd (omega arith);
        some = λ q lines bytes input h. others_short lines bytes input (omega (arith, h.count)) (omega (arith, h.counted)) (omega (arith, h.begun p));
      }

-- ---- what a read tells
module _ (used more got : ℕ) where
  pub told_none : got ≡ 0 → used ≡ 0 → ToldIs used more got NoMore
  told_none g u lines bytes left input later p h f =
      rw (f.none g, append-nil input) (ends_none lines bytes input (omega (arith, h.counted)) (no_bytes (cut input).rest (omega (arith, h.begun p))))

  pub told_last : got ≡ 0 → 0 < used → ToldIs used more got LastLine
  told_last g u = (
    g,
    λ lines bytes left input p h. ends_last lines bytes input (omega (arith, h.counted)) (omega (arith, h.count)) (omega (arith, h.begun p)),
  )

  pub told_short : 0 < got → more ≡ 0 → ToldIs used more got NoMore
  told_short g m lines bytes left input later p h f = cut_short lines bytes input later (omega (arith, h.counted)) (omega (arith, f.some))
