-- The first place that a search finds is the place of the two columns around a displacement.
use mathlib.Core.Path.{◌≡◌, refl, sym, ap, ◌∙◌}
use mathlib.Core.Bool.{true, false, ◌&&◌}
use mathlib.Core.List.{List, [], ◌∷◌}
use Prim.Native.Nat.{ℕ, zero, suc, ◌+◌, ◌<◌}
use native.Mathlib.Omega.{arith}
use lib.Dec.{leb}
use lib.ListN.{length}
use Rattle.record.specs.declared.Column.{Column}
use Rattle.std.specs.Prelude.{Option, Some, None}
use Rattle.columns.specs.Search.{next, columns_around, around, FirstAround}

-- behind the first column the places are one less
beyond : (d : ℕ) (a : Column) (ks : List Column) (i : ℕ) → around d (a ∷ ks) (suc i) ≡ around d ks i
beyond d a ks i =
    let q : suc i + 1 ≡ suc (i + 1) = omega arith in rw q refl

none_found : (d : ℕ) (ks : List Column) → ((i : ℕ) → i + 1 < length ks → around d ks i ≡ false) → None ≡ columns_around d ks
unfolding columns_around
none_found d [] f = refl
none_found d (a ∷ []) f = refl
none_found d (a ∷ b ∷ ks) f =
    let e : (leb a.d d && leb d b.d) ≡ false = f 0 (omega arith) in
    rw e (ap next (none_found d (b ∷ ks) (λ i h. sym (beyond d a (b ∷ ks) i) ∙ f (suc i) (omega arith))))

one_found : (d : ℕ) (ks : List Column) (i : ℕ) → i + 1 < length ks → around d ks i ≡ true → ((k : ℕ) → k < i → around d ks k ≡ false) → Some i ≡ columns_around d ks
unfolding columns_around
one_found d [] i h e f = absurd (omega arith)
one_found d (a ∷ []) i h e f = absurd (omega arith)
one_found d (a ∷ b ∷ ks) zero h e f =
    let t : (leb a.d d && leb d b.d) ≡ true = e in rw t refl
one_found d (a ∷ b ∷ ks) (suc i) h e f =
    let t : (leb a.d d && leb d b.d) ≡ false = f 0 (omega arith) in
    rw t
    (ap next
    (one_found d (b ∷ ks) i (omega arith) (sym (beyond d a (b ∷ ks) i) ∙ e)
    (λ k h. sym (beyond d a (b ∷ ks) k) ∙ f (suc k) (omega arith))))

pub first_is : (d : ℕ) (ks : List Column) (r : Option ℕ) → FirstAround d ks r → r ≡ columns_around d ks
first_is d ks None f = none_found d ks f
first_is d ks (Some i) f = one_found d ks i f.0 f.1 f.2
