-- From what a part beside a board is read, back to the tokens.
use mathlib.Core.Path.{◌≡◌, refl, sym, ◌∙◌, ap}
use mathlib.Core.Bool.{Bool, true, false, cond}
use mathlib.Core.List.{List, [], ◌∷◌}
use Prim.Native.Nat.{ℕ, zero, suc}
use native.Mathlib.Omega.{arith}
use lib.ListN.{replicate, length}
use Rattle.std.specs.Prelude.{Some, None}
use Rattle.whole.specs.Bytes.{bytes}
use Rattle.record.specs.declared.Mode.TheVariants.{Partial}
use Rattle.record.specs.declared.Slack.TheVariants.{Split}
use Rattle.record.specs.declared.Part.{Part}
use Rattle.record.specs.Filler.{no_cell, padded}
use Rattle.text.specs.Token.{Token, opened, closed, run, number_of, same}
use Rattle.text.proofs.Runs.{same_true}
use Rattle.items.specs.Grammar.{got, close?, is, named, behind?, number?, numbers?, last_numbers?}
use Rattle.parts.specs.declared.PartWord.TheVariants.{PlainWord, SplitWord}
use Rattle.parts.specs.Shape.{part?, body?, split?, slack_record, split_record}
use Rattle.showing.specs.Laws.{SplitOf, TakenAsSplit}
use Rattle.showing.proofs.Framing.{clash, read_same}
use Rattle.showing.proofs.Own.{then_got, close_got, number_got}

numbers_next : (k : ℕ) (ts us : List Token) (vs : List ℕ) → numbers? (suc k) ts ≡ got vs us →
    (r : List ℕ) × ((v : ℕ) × ((ws : List ℕ) × ((behind : List Token) × (ts ≡ run r ∷ behind) × (number_of r ≡ Some v) × (numbers? k behind ≡ got ws us) × (vs ≡ v ∷ ws))))
unfolding numbers?
numbers_next k ts us vs e =
    let p = then_got (number? ts) _ vs us e in
    let q = then_got (numbers? k p.1.0) _ vs us p.1.2 in
    let n = number_got ts p.1.0 p.0 p.1.1 in
    let s = read_same q.1.2 in
    (n.0, (p.0, (q.0, (p.1.0, n.1, n.2, q.1.1 ∙ ap (λ l. got q.0 l) s.1, sym s.0))))

split_read : (ts behind : List Token) (p : Part) → SplitOf p ts behind → part? Partial ts ≡ got p behind
unfolding named same last_numbers? numbers? padded
split_read ts behind p s = rw (s.is, s.lengths.0, s.lengths.1, s.breadths.0, s.breadths.1) (rebuilt p _ _ _ s.slack s.cells.0 s.cells.1)
  where
    rebuilt : (p : Part) (a l r : ℕ) → p.slack ≡ Split a l r → p.count ≡ 0 → p.cells ≡ replicate 8 no_cell →
        got (record { length = p.length; slack = Split a l r; count = 0; cells = replicate 8 no_cell }) behind ≡ got p behind
    rebuilt p a l r e f g = rw (← g, ← f, ← e) refl

RunsOf : List ℕ → (ts us : List Token) → Type 0
RunsOf [] ts us = ts ≡ us
RunsOf (v ∷ vs) ts us = (r : List ℕ) × ((ws : List Token) × (ts ≡ run r ∷ ws) × (number_of r ≡ Some v) × RunsOf vs ws us)

numbers_got : (k : ℕ) (ts us : List Token) (vs : List ℕ) → numbers? k ts ≡ got vs us → (length vs ≡ k) × RunsOf vs ts us
unfolding RunsOf numbers?
numbers_got zero ts us vs e = let s = read_same e in rw (← s.0) (refl, s.1)
numbers_got (suc k) ts us vs e =
    let n = numbers_next k ts us vs e in
    let m = numbers_got k n.1.1.1.0 us n.1.1.0 n.1.1.1.3 in
    rw n.1.1.1.4 (ap suc m.0, (n.0, (n.1.1.1.0, n.1.1.1.1, n.1.1.1.2, m.1)))

four_of : (vs : List ℕ) (ts behind : List Token) (p : Part) → length vs ≡ 4 → RunsOf vs ts (closed ∷ behind) → p ≡ split_record vs → SplitOf p (opened ∷ run (bytes "split") ∷ ts) behind
unfolding RunsOf padded
four_of (a ∷ b ∷ c ∷ d ∷ []) ts behind p e (r, (t1, e1, n1, (s, (t2, e2, n2, (t, (t3, e3, n3, (u, (t4, e4, n4, z)))))))) i =
    record { length = r; along = s; left = t; right = u; is = rw (e1, e2, e3, e4, z) refl; a = b; l = c; r = d; lengths = rw i (n1, n2); breadths = (n3, n4); slack = rw i refl; cells = rw i (refl, refl) }
four_of [] ts behind p e q i = absurd (omega arith)
four_of (a ∷ []) ts behind p e q i = absurd (omega arith)
four_of (a ∷ b ∷ []) ts behind p e q i = absurd (omega arith)
four_of (a ∷ b ∷ c ∷ []) ts behind p e q i = absurd (omega arith)
four_of (a ∷ b ∷ c ∷ d ∷ x ∷ xs) ts behind p e q i = absurd (omega arith)

runs_behind : (vs : List ℕ) (ts us ws : List Token) → RunsOf vs ts us → us ≡ ws → RunsOf vs ts ws
runs_behind vs ts us ws q e = rw (← e) q

split_found : (ts behind : List Token) (p : Part) → split? ts ≡ got p behind → SplitOf p (opened ∷ run (bytes "split") ∷ ts) behind
unfolding named same last_numbers?
split_found ts behind p e =
    let t = then_got (last_numbers? 4 ts) _ p behind e in
    let u = then_got (numbers? 4 ts) _ t.0 t.1.0 t.1.1 in
    let w = then_got (close? u.1.0) _ t.0 t.1.0 u.1.2 in
    let x = read_same t.1.2 in
    let y = read_same w.1.2 in
    let z = close_got u.1.0 w.1.0 w.0 w.1.1 in
    let n = numbers_got 4 ts u.1.0 u.0 u.1.1 in
    four_of u.0 ts behind p n.0 (runs_behind u.0 ts u.1.0 (closed ∷ behind) n.1 (z ∙ ap (λ l. closed ∷ l) (y.1 ∙ x.1))) (sym x.0 ∙ ap split_record (sym y.0))

part_found : (ts behind : List Token) (p : Part) (a l r : ℕ) → p.slack ≡ Split a l r → part? Partial ts ≡ got p behind → SplitOf p ts behind
unfolding named
part_found [] behind p a l r s e = clash e
part_found (closed ∷ ts) behind p a l r s e = clash e
part_found (run q ∷ ts) behind p a l r s e = clash e
part_found (opened ∷ []) behind p a l r s e = clash e
part_found (opened ∷ opened ∷ ts) behind p a l r s e = clash e
part_found (opened ∷ closed ∷ ts) behind p a l r s e = clash e
part_found (opened ∷ run q ∷ ts) behind p a l r s e = by (is q "part") (is q "split") refl e
  where
    by : (x y : Bool) → is q "split" ≡ y → behind? (body? Partial) (cond x (Some PlainWord) (cond y (Some SplitWord) None)) ts ≡ got p behind → SplitOf p (opened ∷ run q ∷ ts) behind
    by true y w f =
        let t = then_got (last_numbers? 4 ts) _ p behind f in
        let d : (slack_record t.0).slack ≡ Split a l r = ap (λ (p : Part). p.slack) (read_same t.1.2).0 ∙ s in
        let z : ◌≡◌ {A = ℕ} 0 1 = cc in absurd (omega arith)
    by false true w f = rw (same_true q (bytes "split") w) (split_found ts behind p f)
    by false false w f = clash f

pub taken_as_split_lem : TakenAsSplit
taken_as_split_lem ts behind p a l r s = (part_found ts behind p a l r s, split_read ts behind p)
