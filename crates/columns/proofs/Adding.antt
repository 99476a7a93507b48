-- The answers of a list of columns, each by the test that gives it.
use mathlib.Core.Path.{◌≡◌, refl, sym, ap, ◌∙◌}
use mathlib.Core.Logic.{◌↔◌}
use mathlib.Core.List.{List, [], ◌∷◌}
use Prim.Native.Nat.{ℕ, zero, suc, ◌-◌, ◌≤◌, ◌<◌}
use native.Mathlib.Omega.{arith}
use mathlib.Core.Bool.{Bool, true, false, cond}
use lib.Dec.{ltb}
use borrow.Author.Tests.{le-leb, lt-leb, lt-ltb, ltb-true}
use lib.ListN.{length, get_or, take}
use lib.Seq.{take-length}
use Rattle.record.specs.declared.Column.{Column}
use Rattle.std.specs.Prelude.{Ok, Err, Option, Some, None, slice_get}
use Rattle.std.proofs.lemmas.Option.{slice_get_within, get_or_from_slice_get, slice_get-get_or}
use Rattle.columns.specs.declared.NotAdded.TheVariants.{Limits, Full, NotAbove}
use Rattle.limits.specs.Limits.{column_limits}
use Rattle.columns.specs.Columns.{is_above, column_answer}

-- a column above the last of the first n + 1
above_suc : (d : ℕ) (l : List Column) (n : ℕ) (z : Column) → n < length l → is_above d (take (suc n) l) ≡ ltb (get_or l n z).d d
unfolding is_above
above_suc d [] n z h = absurd (omega arith)
above_suc d (k ∷ l) zero z h = refl
above_suc d (k ∷ []) (suc n) z h = absurd (omega arith)
above_suc d (k ∷ m ∷ l) (suc n) z h = above_suc d (m ∷ l) n z (omega arith)

pub above_last : (d : ℕ) (l : List Column) (n : ℕ) (z : Column) → 0 < n → n ≤ length l → is_above d (take n l) ≡ ltb (get_or l (n - 1) z).d d
above_last d l n z p h =
    let e : n ≡ suc (n - 1) = omega arith in
    ap (λ m. is_above d (take m l)) e ∙ above_suc d l (n - 1) z (omega arith)

-- D is above the last column's, if one is held
pub above_is : (d : ℕ) (ks : List Column) (z : Column) → (is_above d ks ≡ true) ↔ (0 < length ks → (get_or ks (length ks - 1) z).d < d)
unfolding is_above
above_is d [] z = (λ e h. absurd (omega arith), λ f. refl)
above_is d (k ∷ ks) z =
    let t = ap (is_above d) (sym (take-length (k ∷ ks))) ∙ above_last d (k ∷ ks) (length (k ∷ ks)) z (omega arith) (omega arith) in
    (λ e h. ltb-true _ d (sym t ∙ e), λ f. t ∙ lt-ltb _ d (f (omega arith)))

-- the test of the last column, where one is read and where none is
pub above_some : (d : ℕ) (ks : List Column) (last : Column) → slice_get ks (length ks - 1) ≡ Some last → is_above d ks ≡ ltb last.d d
above_some d ks last e =
    let some : length ks - 1 < length ks = slice_get_within ks (length ks - 1) last e in
    ap (is_above d) (sym (take-length ks)) ∙ above_last d ks (length ks) last (omega arith) (omega arith)
    ∙ ap (λ (k : Column). ltb k.d d) (get_or_from_slice_get ks (length ks - 1) last last e)

pub above_missing : (d : ℕ) (ks : List Column) → slice_get ks (length ks - 1) ≡ None → is_above d ks ≡ true
unfolding is_above
above_missing d [] e = refl
above_missing d (k ∷ ks) e =
    let z : ◌≡◌ {A = Option Column} (Some (get_or (k ∷ ks) (length (k ∷ ks) - 1) k)) None =
    sym (slice_get-get_or (k ∷ ks) (length (k ∷ ks) - 1) k (omega arith)) ∙ e in
    let y : ◌≡◌ {A = ℕ} 0 1 = cc in
    absurd (omega arith)

-- the answers of a list of columns, each by the test that gives it
module _ (ks : List Column) (k : Column) where
  pub answer_limits : column_limits k ≡ false → Err Limits ≡ column_answer ks k
  unfolding column_answer
  answer_limits e = rw e refl

  module _ (good : column_limits k ≡ true) where
    pub answer_full : 20 ≤ length ks → Err Full ≡ column_answer ks k
    unfolding column_answer
    answer_full h = rw (good, le-leb 20 (length ks) h) refl

    pub answer_above : (b : Bool) → length ks < 20 → is_above k.d ks ≡ b → cond b (Ok tt) (Err NotAbove) ≡ column_answer ks k
    unfolding column_answer
    answer_above b h e = rw (good, lt-leb 20 (length ks) h, e) refl
