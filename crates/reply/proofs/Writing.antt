-- Laws of texts written into a buffer, of digits, and of the lengths of replies.
use mathlib.Core.Path.{◌≡◌, refl, sym, ◌∙◌, ap, subst}
use mathlib.Core.Bool.{Bool, true, false, cond}
use mathlib.Core.List.{List, [], ◌∷◌, ◌++◌, append_assoc, append-nil}
use Prim.Native.Nat.{ℕ, zero, suc, ◌+◌, ◌-◌, ◌/◌, ◌%◌, ◌^◌, ◌≤◌, ◌<◌}
use native.Mathlib.Omega.{arith}
use lib.Dec.{ltb, T}
use lib.ListN.{length, get_or, set, take, drop, length-append, length-drop, drop_of_length-le}
use lib.Seq.{drop-cons, set_at, append_snoc, drop-drop, take_at, drop_at, length-take-le, take_all, take-append-add, drop-append-add}
use borrow.Author.Tests.{lt-ltb, le-ltb, ltb-true}
use native.Mathlib.Nat.{pow-suc}
use lib.Signed.{lt_z}
use lib.IntN.{ℤ, pos, negsuc}
use mir.Syntax.{w64}
use mir.Val.{SFits, to_z, of_z}
use mir.Facts.{to_z-of_z}
use borrow.Author.Gap.{read_sfits}
use Rattle.sign.specs.Sign.{plus, minus}
use Rattle.reply.specs.Written.{over, into, digits, decimal, figure}

pub over_none : (l : List ℕ) → over [] l ≡ l
unfolding over
over_none l = refl

-- one byte more
pub over_snoc : (w l : List ℕ) (n x : ℕ) → length w ≡ n → n < length l → set (over w l) n x ≡ over (w ++ x ∷ []) l
unfolding over
over_snoc w l n x e p =
    let a : drop n l ≡ get_or l n 0 ∷ drop (suc n) l = drop-cons l n 0 p in
    let b : length (w ++ x ∷ []) ≡ suc n = length-append w (x ∷ []) ∙ omega arith in
    rw (e, a, b) (set_at w (get_or l n 0) (drop (suc n) l) x n e ∙ sym (append_snoc w x (drop (suc n) l)))

-- what a part that was lent says of the whole
pub over_part :
    (v w l : List ℕ) (n : ℕ) → length v ≡ n → length v + length w ≤ length l → into n w (over v l) ≡ over (v ++ w) l
unfolding over into
over_part v w l n e p =
    rw (take_at v (drop (length v) l) n e, drop_at v (drop (length v) l) n e, drop-drop (length w) (length v) l, length-append v w) (sym (append_assoc v w (drop (length v + length w) l)))

pub digits_none : (k n : ℕ) → k ≡ 0 → digits k n ≡ []
unfolding digits
digits_none zero n e = refl
digits_none (suc k) n e = absurd (omega arith)

pub digits_one : (k n : ℕ) → (k ≡ 0 → ⊥) → n < 10 → digits k n ≡ (48 + n) ∷ []
unfolding digits
digits_one zero n e p = absurd (e refl)
digits_one (suc k) n e p = rw (lt-ltb n 10 p)

pub digits_more : (k n : ℕ) → (k ≡ 0 → ⊥) → 10 ≤ n → digits k n ≡ digits (k - 1) (n / 10) ++ (48 + n % 10) ∷ []
unfolding digits
digits_more zero n e p = absurd (e refl)
digits_more (suc k) n e p =
    let a : suc k - 1 ≡ k = omega arith in
    rw (le-ltb n 10 p, a)

pub length_more : (k n : ℕ) → (k ≡ 0 → ⊥) → 10 ≤ n → length (digits k n) ≡ length (digits (k - 1) (n / 10)) + 1
length_more k n e p = ap length (digits_more k n e p) ∙ length-append (digits (k - 1) (n / 10)) ((48 + n % 10) ∷ [])

pub length_digits : (k n : ℕ) → length (digits k n) ≤ k
unfolding digits
length_digits zero n = omega arith
length_digits (suc k) n = by (ltb n 10) (length_digits k (n / 10))
  where
    by : (b : Bool) → length (digits k (n / 10)) ≤ k → length (cond b ((48 + n) ∷ []) (digits k (n / 10) ++ (48 + n % 10) ∷ [])) ≤ suc k
    by true p = omega arith
    by false p = simp length-append (omega arith)

pub over_one : (l : List ℕ) (x : ℕ) → 0 < length l → set l 0 x ≡ over (x ∷ []) l
unfolding over
over_one [] x p = absurd (omega arith)
over_one (y ∷ l) x p = refl

-- a part from n on that was lent and came back as w over what it was
pub lent : (l : List ℕ) (n : ℕ) (w y : List ℕ) → n ≤ length l → y ≡ over w (take (length l - n) (drop n l)) →
    take n l ++ (y ++ drop (length l - n) (drop n l)) ≡ into n w l
unfolding into
lent l n w y p e =
    let a : take (length l - n) (drop n l) ≡ drop n l = take_all (length l - n) (drop n l) (omega (arith, length-drop n l)) in
    let b : drop (length l - n) (drop n l) ≡ [] = drop_of_length-le (drop n l) {i = length l - n} (omega (arith, length-drop n l)) in
    rw (e, a, b, append-nil)

-- one text behind another
pub into_into : (n : ℕ) (v w l : List ℕ) (m : ℕ) → n + length v ≡ m → m + length w ≤ length l → into m w (into n v l) ≡ into n (v ++ w) l
unfolding into
into_into n v w l m e p =
    let t : length (take n l) ≡ n = length-take-le n l (omega arith) in
    let q : length (take n l) + length v ≡ m = omega arith in
    let a = take-append-add (take n l) (over v (drop n l)) (length v) in
    let b = drop-append-add (take n l) (over v (drop n l)) (length v) in
    let o = over_part v w (drop n l) (length v) refl (omega (arith, length-drop n l)) in
    rw (← q, a, b, append_assoc) (ap (λ (x : List ℕ). take n l ++ x) o)

-- what was written fits
pub over_fits : (w l m : List ℕ) → m ≡ over w l → length m ≡ length l → length w ≤ length l
unfolding over
over_fits w l m e p = omega (arith, ap length e, length-append w (drop (length w) l), length-drop (length w) l)

-- ---- a reply, piece by piece: what is written so far
pub record Sofar (v l out : List ℕ) (at : ℕ) : Type 0 where
  pub text : out ≡ over v l
  pub place : at ≡ length v

pub first : (v l out : List ℕ) (at : ℕ) → (at ≡ length v) × (out ≡ over v l) → Sofar v l out at
first v l out at e = record { text = e.1; place = e.0 }

pub more : (v w l out out' : List ℕ) (at at' : ℕ) → Sofar v l out at → (at' ≡ at + length w) × (out' ≡ into at w out) → length v + length w ≤ length l → Sofar (v ++ w) l out' at'
more v w l out out' at at' s e p =
    record {
      text = e.1 ∙ ap (into at w) s.text ∙ over_part v w l at (sym s.place) p;
      place = e.0 ∙ sym (length-append v w ∙ ap (λ n. n + length w) (sym s.place));
    }

-- ---- figures by their sign
pub figure_above : (z : ℤ) → lt_z z (pos 0) ≡ false → figure z ≡ decimal (plus z)
unfolding figure
figure_above (pos n) e = refl
figure_above (negsuc n) e = absurd (subst T e tt)

pub figure_below : (z : ℤ) → lt_z z (pos 0) ≡ true → figure z ≡ 45 ∷ decimal (minus z)
unfolding figure
figure_below (pos n) e = absurd (none n (ltb-true n 0 e))
  where
    none : (n : ℕ) → n < 0 → ⊥
    none n h = omega arith
figure_below (negsuc n) e = refl

-- ---- lengths: a number below 10 to the j-th has at most j digits
pub short_digits : (k n j : ℕ) → n < 10 ^ suc j → length (digits k n) ≤ suc j
unfolding digits
short_digits zero n j h = omega arith
short_digits (suc k) n zero h = rw (lt-ltb n 10 (omega arith)) (omega arith)
short_digits (suc k) n (suc j) h =
    by (ltb n 10) (short_digits k (n / 10) j (omega (arith, pow-suc 10 (suc j))))
  where
    by : (b : Bool) → length (digits k (n / 10)) ≤ suc j → length (cond b ((48 + n) ∷ []) (digits k (n / 10) ++ (48 + n % 10) ∷ [])) ≤ suc (suc j)
    by true p = omega arith
    by false p = simp length-append (omega arith)

-- what an i64 holds: at most nineteen digits and a sign
pub record Short (z : ℤ) : Type 0 where
  pub above : plus z < 2 ^ 63
  pub below : minus z ≤ 2 ^ 63

pub short : (z : ℤ) → SFits w64 z → Short z
short (pos n) f = record { above = f.sfits; below = omega arith }
short (negsuc n) f = record { above = omega arith; below = omega (arith, f.sfits) }

pub short_figure : (z : ℤ) → Short z → length (figure z) ≤ 20
unfolding figure
short_figure (pos n) s = omega (arith, short_digits 20 n 18 (omega (arith, s.above)))
short_figure (negsuc n) s = omega (arith, short_digits 20 (suc n) 18 (omega (arith, s.below)))

-- the machine reads a figure back from its bits
pub read_short : (z : ℤ) → length (figure (to_z w64 (of_z w64 z))) ≤ 20
read_short z = short_figure (to_z w64 (of_z w64 z)) (short (to_z w64 (of_z w64 z)) (read_sfits w64 (of_z w64 z)))

-- UPPER has at most four digits
pub short_four : (n : ℕ) → n ≤ 4000 → length (decimal n) ≤ 4
short_four n h = short_digits 20 n 3 (omega arith)

-- how long a verdict's figures are; the machine reads GM and DIFF back from their bits
pub record Lengths (gm diff : ℤ) (upper area : ℕ) : Type 0 where
  pub gm_read : length (figure (to_z w64 (of_z w64 gm))) ≡ length (figure gm)
  pub diff_read : length (figure (to_z w64 (of_z w64 diff))) ≡ length (figure diff)
  pub gm_long : length (figure gm) ≤ 20
  pub diff_long : length (figure diff) ≤ 20
  pub upper_long : length (decimal upper) ≤ 4
  pub area_long : length (decimal area) ≤ 20

pub lengths : (gm diff : ℤ) (upper area : ℕ) → SFits w64 gm → SFits w64 diff → upper ≤ 4000 → Lengths gm diff upper area
lengths gm diff upper area g d u =
    record {
      gm_read = rw (to_z-of_z {z = gm} g);
      diff_read = rw (to_z-of_z {z = diff} d);
      gm_long = short_figure gm (short gm g);
      diff_long = short_figure diff (short diff d);
      upper_long = short_digits 20 upper 3 (omega arith);
      area_long = length_digits 20 area;
    }

-- a piece behind a space
pub more_field : (v w l out out' : List ℕ) (at at' : ℕ) → Sofar v l out at → (at' ≡ at + 1 + length w) × (out' ≡ into at (32 ∷ w) out) → length v + suc (length w) ≤ length l → Sofar (v ++ 32 ∷ w) l out' at'
more_field v w l out out' at at' s e p = more v (32 ∷ w) l out out' at at' s (omega (arith, e.0), e.1) p
