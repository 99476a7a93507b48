-- Which lines are a total, and which are lines of weights.
use mathlib.Core.Path.{◌≡◌, refl, ◌∙◌, ap}
use mathlib.Core.List.{List, [], ◌∷◌}
use mathlib.Core.Logic.{◌⊎◌, inl, inr, ⊎_elim}
use Prim.Native.Nat.{ℕ}
use native.Mathlib.Omega.{arith}
use Rattle.std.specs.Prelude.{Option, Some, None}
use Rattle.whole.specs.Bytes.{bytes}
use Rattle.record.specs.declared.WeightItem.{WeightItem}
use Rattle.record.specs.declared.Weighing.{Weighing}
use Rattle.record.specs.declared.Weighing.TheVariants.{Weight, Weighed, Unweigh}
use Rattle.text.specs.Token.{Token, opened, closed, run, number_of, same}
use Rattle.items.specs.Grammar.{Parsed, got, none, ◌and_then◌, close?, run?, named, behind?, number?, numbers?, nth, last_numbers?, whole?}
use Rattle.items.proofs.Yields.{Yields, yields, nothing, yields_then}
use Rattle.forms.specs.declared.Request.TheVariants.{TotalLine, WeighingLine}
use Rattle.forms.specs.declared.Request.{Request}
use Rattle.forms.specs.Shape.{bare?}
use Rattle.request.specs.declared.LineWord.TheVariants.{TotalWord, WeightWord, WeighedWord, UnweighWord}
use Rattle.request.specs.Shape.{request_of}
use Rattle.showing.specs.Laws.{TakenAsTotal, TotalOnly, WeighingOf, TakenAsWeighing, WeighingWord, weight, weighed, unweigh, WeighingOnly}
use Rattle.showing.proofs.Framing.{clash, read_same}
use Rattle.showing.proofs.Forms.{own_found}

-- ---- what was read, back to the tokens
pub then_got : {A B : Type 0} (p : Parsed A) (f : A → List Token → Parsed B) (b : B) (vs : List Token) → (p and_then f) ≡ got b vs → (a : A) × ((us : List Token) × (p ≡ got a us) × (f a us ≡ got b vs))
then_got none f b vs e = clash e
then_got (got a us) f b vs e = (a, (us, refl, e))

pub close_got : (ts us : List Token) (u : Unit {0}) → close? ts ≡ got u us → ts ≡ closed ∷ us
close_got [] us u e = clash e
close_got (opened ∷ ts) us u e = clash e
close_got (closed ∷ ts) us u e = cc
close_got (run r ∷ ts) us u e = clash e

run_got : (ts us : List Token) (r : List ℕ) → run? ts ≡ got r us → ts ≡ run r ∷ us
run_got [] us r e = clash e
run_got (opened ∷ ts) us r e = clash e
run_got (closed ∷ ts) us r e = clash e
run_got (run q ∷ ts) us r e = cc

number_by : (n : Option ℕ) (ts us : List Token) (v : ℕ) → behind? got n ts ≡ got v us → (n ≡ Some v) × (ts ≡ us)
number_by (Some w) ts us v e = (cc, cc)
number_by None ts us v e = clash e

pub number_got : (ts us : List Token) (v : ℕ) → number? ts ≡ got v us → (r : List ℕ) × (ts ≡ run r ∷ us) × (number_of r ≡ Some v)
number_got ts us v e =
    let t = then_got (run? ts) _ v us e in
    let n = number_by (number_of t.0) t.1.0 us v t.1.2 in
    (t.0, run_got ts t.1.0 t.0 t.1.1 ∙ ap (λ l. run t.0 ∷ l) n.1, n.0)

-- a bracket alone
bare_got : (k : Request) (ts : List Token) (a : Request) → bare? k ts ≡ got a [] → ts ≡ closed ∷ []
bare_got k ts a e =
    let t = then_got (close? ts) _ a [] e in
    close_got ts t.1.0 t.0 t.1.1 ∙ ap (λ l. closed ∷ l) (read_same t.1.2).1

-- one number, and the bracket behind it
last_got : (ts us : List Token) (v : List ℕ) → last_numbers? 1 ts ≡ got v us → (r : List ℕ) × (ts ≡ run r ∷ closed ∷ us) × (number_of r ≡ Some (nth v 0))
unfolding last_numbers? numbers?
last_got ts us v e =
    let p = then_got (numbers? 1 ts) _ v us e in
    let q = then_got (number? ts) _ p.0 p.1.0 p.1.1 in
    let n = number_got ts q.1.0 q.0 q.1.1 in
    let w = then_got (close? p.1.0) _ v us p.1.2 in
    let s = read_same q.1.2 in
    let z = read_same w.1.2 in
    let behind = s.1 ∙ close_got p.1.0 w.1.0 w.0 w.1.1 ∙ ap (λ l. closed ∷ l) z.1 in
    (n.0, n.1 ∙ ap (λ l. run n.0 ∷ l) behind, n.2 ∙ ap (λ l. Some (nth l 0)) (s.0 ∙ z.0))

-- ---- a total
pub taken_as_total : TakenAsTotal
unfolding request_of named same
taken_as_total ts = (found, λ e. rw e refl)
  where
    found : request_of ts ≡ Some TotalLine → ts ≡ opened ∷ run (bytes "total") ∷ closed ∷ []
    found k =
        let p = own_found TotalWord ts (omega arith) TotalLine k refl in
        p.1 ∙ ap (λ l. opened ∷ run (bytes "total") ∷ l) (bare_got TotalLine p.0 TotalLine p.2)

pub total_only : TotalOnly
unfolding request_of named same
total_only [] more = refl
total_only (opened ∷ ts) more = refl
total_only (run r ∷ ts) more = refl
total_only (closed ∷ []) more = absurd (more refl)
total_only (closed ∷ t ∷ ts) more = refl

-- ---- lines of weights
weight_found : (i : WeightItem) (ts : List Token) → request_of ts ≡ Some (WeighingLine (Weight i)) → WeighingOf (Weight i) ts
weight_found i ts k =
    let p = own_found WeightWord ts (omega arith) (WeighingLine (Weight i)) k refl in
    let q = then_got (number? p.0) _ (WeighingLine (Weight i)) [] p.2 in
    let w = then_got (last_numbers? 1 q.1.0) _ (WeighingLine (Weight i)) [] q.1.2 in
    let n = number_got p.0 q.1.0 q.0 q.1.1 in
    let l = last_got q.1.0 w.1.0 w.0 w.1.1 in
    let z = read_same w.1.2 in
    let item = weights_same z.0 in
    let behind = l.1 ∙ ap (λ m. run l.0 ∷ closed ∷ m) z.1 in
    (n.0, (l.0, p.1 ∙ ap (λ m. opened ∷ run (bytes "weight") ∷ m) (n.1 ∙ ap (λ m. run n.0 ∷ m) behind), n.2 ∙ ap (λ (i : WeightItem). Some i.tonnes) item, l.2 ∙ ap (λ (i : WeightItem). Some i.height) item))
  where
    weights_same : {i j : WeightItem} → WeighingLine (Weight i) ≡ WeighingLine (Weight j) → i ≡ j
    weights_same e = cc

weighed_found : (fs : ℕ) (ts : List Token) → request_of ts ≡ Some (WeighingLine (Weighed fs)) → WeighingOf (Weighed fs) ts
weighed_found fs ts k =
    let p = own_found WeighedWord ts (omega arith) (WeighingLine (Weighed fs)) k refl in
    let w = then_got (last_numbers? 1 p.0) _ (WeighingLine (Weighed fs)) [] p.2 in
    let l = last_got p.0 w.1.0 w.0 w.1.1 in
    let z = read_same w.1.2 in
    (l.0, p.1 ∙ ap (λ m. opened ∷ run (bytes "weighed") ∷ m) (l.1 ∙ ap (λ m. run l.0 ∷ closed ∷ m) z.1), l.2 ∙ ap Some (rises_same z.0))
  where
    rises_same : {a b : ℕ} → WeighingLine (Weighed a) ≡ WeighingLine (Weighed b) → a ≡ b
    rises_same e = cc

weighing_found : (ts : List Token) (w : Weighing) → request_of ts ≡ Some (WeighingLine w) → WeighingOf w ts
weighing_found ts (Weight i) k = weight_found i ts k
weighing_found ts (Weighed fs) k = weighed_found fs ts k
weighing_found ts Unweigh k =
    let p = own_found UnweighWord ts (omega arith) (WeighingLine Unweigh) k refl in
    p.1 ∙ ap (λ l. opened ∷ run (bytes "unweigh") ∷ l) (bare_got (WeighingLine Unweigh) p.0 (WeighingLine Unweigh) p.2)

weighing_read : (ts : List Token) (w : Weighing) → WeighingOf w ts → request_of ts ≡ Some (WeighingLine w)
unfolding request_of named same last_numbers? numbers?
weighing_read ts (Weight i) (t, (h, e, n, m)) = rw (e, n, m) refl
weighing_read ts (Weighed fs) (r, e, n) = rw (e, n) refl
weighing_read ts Unweigh e = rw e refl

pub taken_as_weighing : TakenAsWeighing
taken_as_weighing ts w = (weighing_found ts w, weighing_read ts w)

-- behind one of their words stands a line of weights, or nothing that has a shape
Weighs : Option Request → Type 0
Weighs o = (o ≡ None) ⊎ ((w : Weighing) × (o ≡ Some (WeighingLine w)))

weighs_whole : {p : Parsed Request} → Yields (λ r. (w : Weighing) × (r ≡ WeighingLine w)) p → Weighs (whole? p)
unfolding Weighs
weighs_whole (yields {ts = []} (w, e)) = inr (w, ap Some e)
weighs_whole (yields {ts = t ∷ ts} q) = inl refl
weighs_whole nothing = inl refl

only_by : (word : List ℕ) (behind : List Token) → WeighingWord word → Weighs (request_of (opened ∷ run word ∷ behind))
unfolding request_of named same
only_by word behind weight =
    weighs_whole (yields_then (number? behind) (λ t us. yields_then (last_numbers? 1 us) (λ v ws. yields (_, refl))))
only_by word behind weighed = weighs_whole (yields_then (last_numbers? 1 behind) (λ v us. yields (_, refl)))
only_by word behind unweigh = weighs_whole (yields_then (close? behind) (λ u us. yields (_, refl)))

pub weighing_only : WeighingOnly
unfolding Weighs
weighing_only word behind o f = ⊎_elim (λ e. e) (λ (w, e). absurd (f w (weighing_found (opened ∷ run word ∷ behind) w e))) (only_by word behind o)
