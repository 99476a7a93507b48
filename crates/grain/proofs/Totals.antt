-- Sums over a section by place, and the sums of the definitions.
use mathlib.Core.Path.{◌≡◌, refl, ap, ◌∙◌}
use mathlib.Core.List.{List, [], ◌∷◌}
use Prim.Native.Nat.{ℕ, zero, suc, ◌+◌, ◌*◌, ◌-◌, ◌<◌, min}
use native.Mathlib.Omega.{arith}
use lib.Dec.{leb}
use lib.ListN.{length, get_or, take}
use Rattle.whole.specs.Lists.{sum_of}
use Rattle.record.specs.declared.Cell.{Cell}
use Rattle.record.specs.Held.{cell_width}
use Rattle.cells.specs.Depth.{cell_area}
use Rattle.cells.specs.Sizes.{cell_most}
use Rattle.grain.specs.Section.{Kept, kept, kept_from, fits_from, high_moment, old_twice}
use Rattle.grain.specs.Figures.{total, cell, boundary}
use Rattle.grain.proofs.Sections.{kept_length}

pub total_same : (n : ℕ) (f g : ℕ → ℕ) → ((i : ℕ) → i < n → f i ≡ g i) → total n f ≡ total n g
unfolding total
total_same zero f g e = refl
total_same (suc n) f g e =
    omega (arith, e 0 (omega arith), total_same n (λ i. f (suc i)) (λ i. g (suc i)) (λ i h. e (suc i) (omega arith)))

pub sum_total : {A : Type 0} (f : A → ℕ) (l : List A) (d : A) → sum_of f l ≡ total (length l) (λ i. f (get_or l i d))
unfolding sum_of total
sum_total f [] d = refl
sum_total f (x ∷ l) d = ap (λ (n : ℕ). f x + n) (sum_total f l d)

-- the kept area at a place
abbrev pub kept_at : List Kept → ℕ → ℕ
kept_at ks i = (get_or ks i (kept 0 0)).area

pub width_at : (e : ℕ) (cs : List Cell) (i : ℕ) → i < length cs → (get_or (kept_from e cs) i (kept 0 0)).width ≡ cell_width (cell cs i)
unfolding kept_from
width_at e [] i h = absurd (omega arith)
width_at e (c ∷ []) zero h = refl
width_at e (c ∷ []) (suc i) h = absurd (omega arith)
width_at e (c ∷ d ∷ cs) zero h = refl
width_at e (c ∷ d ∷ cs) (suc i) h = width_at (e + (cell_area c - cell_most c)) (d ∷ cs) i (omega arith)

-- every cell but the last keeps the smaller of its area and the most that it can hold
pub kept_at_lem : (e : ℕ) (cs : List Cell) (i : ℕ) → i + 1 < length cs → kept_at (kept_from e cs) i ≡ min (cell_area (cell cs i)) (cell_most (cell cs i))
unfolding kept_from
kept_at_lem e [] i h = absurd (omega arith)
kept_at_lem e (c ∷ []) i h = absurd (omega arith)
kept_at_lem e (c ∷ d ∷ cs) zero h = refl
kept_at_lem e (c ∷ d ∷ cs) (suc i) h = kept_at_lem (e + (cell_area c - cell_most c)) (d ∷ cs) i (omega arith)

-- the test of 21 is that of the last cell
pub fits_last : (e : ℕ) (c : Cell) (cs : List Cell) → fits_from e (c ∷ cs) ≡ leb (kept_at (kept_from e (c ∷ cs)) (length cs)) (cell_most (cell (c ∷ cs) (length cs)))
unfolding fits_from kept_from
fits_last e c [] = refl
fits_last e c (d ∷ cs) = fits_last (e + (cell_area c - cell_most c)) d cs

-- ---- moments, with the section's low end at x
shift : (n x w : ℕ) (f b : ℕ → ℕ) → total n (λ i. f i * (x + w + b i)) ≡ total n (λ i. f i * (x + (w + b i)))
shift n x w f b = total_same n (λ i. f i * (x + w + b i)) (λ i. f i * (x + (w + b i))) (λ i h. regroup (f i) x w (b i))
  where
    regroup : (f x w b : ℕ) → f * (x + w + b) ≡ f * (x + (w + b))
    regroup f x w b = omega arith

highs_of : (x : ℕ) (ks : List Kept) → high_moment x ks ≡ total (length ks) (λ i. kept_at ks i * (x + sum_of (λ k. k.width) (take (suc i) ks)))
unfolding high_moment total sum_of
highs_of x [] = refl
highs_of x (k ∷ ks) =
    let h = highs_of (x + k.width) ks in
    let t = shift (length ks) x k.width (kept_at ks) (λ i. sum_of (λ k. k.width) (take (suc i) ks)) in
    omega (arith, h, t)

kept_boundary : (e : ℕ) (cs : List Cell) (i : ℕ) → sum_of (λ k. k.width) (take i (kept_from e cs)) ≡ boundary cs i
unfolding kept_from sum_of
kept_boundary e [] zero = refl
kept_boundary e [] (suc i) = refl
kept_boundary e (c ∷ []) zero = refl
kept_boundary e (c ∷ []) (suc zero) = refl
kept_boundary e (c ∷ []) (suc (suc i)) = refl
kept_boundary e (c ∷ d ∷ cs) zero = refl
kept_boundary e (c ∷ d ∷ cs) (suc i) = ap (λ (n : ℕ). cell_width c + n) (kept_boundary (e + (cell_area c - cell_most c)) (d ∷ cs) i)

pub highs : (e : ℕ) (cs : List Cell) → high_moment 0 (kept_from e cs) ≡ total (length cs) (λ i. kept_at (kept_from e cs) i * boundary cs (suc i))
highs e cs =
    highs_of 0 (kept_from e cs)
    ∙ total_same (length (kept_from e cs)) _ (λ i. kept_at (kept_from e cs) i * boundary cs (suc i))
    (λ i h. ap (λ (b : ℕ). kept_at (kept_from e cs) i * b) (let z = kept_boundary e cs (suc i) in omega arith))
    ∙ ap (λ (n : ℕ). total n (λ i. kept_at (kept_from e cs) i * boundary cs (suc i))) (kept_length e cs)

olds_from : (x : ℕ) (cs : List Cell) → old_twice x cs ≡ total (length cs) (λ i. cell_area (cell cs i) * (2 * x + (boundary cs i + boundary cs (suc i))))
unfolding old_twice total sum_of
olds_from x [] = refl
olds_from x (c ∷ cs) =
    let h = olds_from (x + cell_width c) cs in
    let t = total_same (length cs)
    (λ i. cell_area (cell cs i) * (2 * (x + cell_width c) + (boundary cs i + boundary cs (suc i))))
    (λ i. cell_area (cell cs i) * (2 * x + (cell_width c + boundary cs i + (cell_width c + boundary cs (suc i)))))
    (λ i h. regroup (cell_area (cell cs i)) x (cell_width c) (boundary cs i) (boundary cs (suc i))) in
    omega (arith, h, t)
  where
    regroup : (f x w a b : ℕ) → f * (2 * (x + w) + (a + b)) ≡ f * (2 * x + (w + a + (w + b)))
    regroup f x w a b = omega arith

pub olds : (cs : List Cell) → old_twice 0 cs ≡ total (length cs) (λ i. cell_area (cell cs i) * (boundary cs i + boundary cs (suc i)))
olds cs =
    olds_from 0 cs
    ∙ total_same (length cs) _ (λ i. cell_area (cell cs i) * (boundary cs i + boundary cs (suc i)))
    (λ i h. ap (λ (b : ℕ). cell_area (cell cs i) * b) (omega arith))
